-- Whether two trees are the same, as the code tests it. That it is equality is proved in proofs/Equals.antt.
use Rattle.std.specs.Prelude.{Bool, true, false, ◌&&◌, eqb}
use Rattle.image.specs.Tree.{Label, Forest, none, node, Tree}

abbrev pub same_label : Label → Label → Bool
same_label l k =
    ((((eqb l.kind k.kind && eqb l.p k.p) && eqb l.q k.q) && eqb l.r k.r) && eqb l.lo k.lo)
    && eqb l.hi k.hi

abbrev pub same_any : Forest → Forest → Bool
same_any none none = true
same_any none (node l cs ns) = false
same_any (node l cs ns) none = false
same_any (node l cs ns) (node l' cs' ns') = (same_label l l' && same_any cs cs') && same_any ns ns'

abbrev pub same : Tree → Tree → Bool
same t u = same_label t.label u.label && same_any t.below u.below
