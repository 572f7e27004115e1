-- Laws of the lists of a join.
--     lists_append  a list behind another
--     counts_none   what a list's count says
--     moves_flag    whether anything moves, by the counts of the lists
-- Assumes nothing.
use mathlib.Core.Path.{◌≡◌, refl, sym, ap, ◌∙◌}
use mathlib.Core.Bool.{Bool, true, false, not, ◌||◌}
use mathlib.Core.List.{List, [], ◌∷◌, ◌++◌, map}
use Prim.Native.Nat.{ℕ, ◌+◌}
use native.Mathlib.Omega.{arith}
use lib.Dec.{eqb}
use lib.ListN.{length}
use borrow.Author.Tests.{eq-eqb, ne_eqb}
use Rattle.plan.specs.Lists.{◌&◌}
use Rattle.plan.specs.Syntax.{Name, Expr, col}
use Rattle.rewrite.specs.Utils.{is_empty}
use Rattle.image.specs.Limits.{max_list}
use Rattle.conjuncts.specs.Items.{Conjuncts, most, Holds, Items, inil, icons, Lists}
use Rattle.writing.proofs.Pushing.{each_length, pushes_of}
use Rattle.push_down_join.specs.Sides.{Sides}

-- ---- a list behind another

module _ {s : List ℕ} where
  items_append : {ns ms : List ℕ} {es fs : List Expr} → Items s ns es → Items s ms fs → Items s (ns ++ map (λ y. y + 0) ms) (es ++ fs)
  items_append (icons h hs) k = icons h (items_append hs k)
  items_append inil inil = inil
  items_append inil (icons {n = n} {e} h hs) = let z : n ≡ n + 0 = omega arith in icons {n = n + 0} {e = e} (rw (← z) h) (items_append inil hs)

  pub lists_append : {c d r : Conjuncts} {es fs : List Expr} → Lists s c es → Lists s d fs
      → ((xs ys : List ℕ) → Holds c xs → Holds d ys → Holds r (xs ++ map (λ y. y + 0) ys)) → Lists s r (es ++ fs)
  lists_append h k f = record {
    numbers = h.numbers ++ map (λ y. y + 0) k.numbers;
    holds = f h.numbers k.numbers h.holds k.holds;
    items = items_append h.items k.items;
  }

  -- what a list counts
  pub lists_count : {c : Conjuncts} {es : List Expr} → Lists s c es → c.len ≡ most max_list (length es)
  lists_count h = let p = pushes_of {σ = λ x. col x} h in p.holds.count ∙ ap (most max_list) (sym (each_length p.items))

  pub sides_count : {σ : Name → Expr} {ns : List Name} {t : Name → Bool} {c : Conjuncts} {es : List Expr} → Sides s σ ns t c es
      → c.len ≡ most max_list (length es)
  sides_count h = h.holds.count ∙ ap (most max_list) (sym (each_length h.items))

-- 0 where it is empty
pub counts_none : (n : ℕ) (es : List Expr) → n ≡ most max_list (length es) → eqb n 0 ≡ is_empty es
unfolding most
counts_none n [] e = eq-eqb n 0 e
counts_none n (x ∷ es) e = ne_eqb n 0 (λ z. omega arith)

-- ---- whether anything moves

pub moves_flag : (a b c : ℕ) (xs ys zs : List Expr) → a ≡ most max_list (length xs) → b ≡ most max_list (length ys) → c ≡ most max_list (length zs)
    → ((not (eqb a 0) || not (eqb b 0)) || not (eqb c 0)) ≡ not (is_empty xs & (is_empty ys & is_empty zs))
unfolding ◌&◌
moves_flag a b c xs ys zs ha hb hc =
    rw (counts_none a xs ha, counts_none b ys hb, counts_none c zs hc) (go (is_empty xs) (is_empty ys) (is_empty zs))
  where
    go : (u v w : Bool) → ((not u || not v) || not w) ≡ not (u & (v & w))
    go false v w = refl
    go true false w = refl
    go true true w = refl
