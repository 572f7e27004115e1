-- Laws of the fields that parts make, with their qualifier or another.
--     part_set, ..    the field that one part makes
--     Sum             the invariant of a loop that appends the fields of the children
-- Assumes nothing.
use mathlib.Core.Path.{◌≡◌, refl, sym, ap, subst, ◌∙◌}
use mathlib.Core.Bool.{Bool, true, false}
use Rattle.std.specs.Option.{unwrap_or}
use Rattle.std.specs.Prelude.{Option, Some, None}
use mathlib.Core.List.{List, [], ◌∷◌, ◌++◌, append_assoc, append-nil, map-append}
use Prim.Native.Nat.{ℕ}
use Rattle.image.specs.Tree.{Label, Forest, none, node, Tree}
use Rattle.plan.specs.FieldSources.{makes}
use Rattle.plan.specs.Kinds.{what}
use Rattle.plan.specs.Lists.{put}
use Rattle.plan.specs.Schema.{requalify}
use Rattle.plan.specs.Syntax.{Name, nm}
use Rattle.utils.specs.Fields.{Fields, Names}
use Rattle.utils.specs.Inputs.{called, called_label, made}

pub called_nil : (o : Option ℕ) → called o [] ≡ []
called_nil (Some q) = refl
called_nil None = refl

module _ (o : Option ℕ) (l : Label) where
  pub part_set : {q : ℕ} → o ≡ Some q → makes (what l) ≡ true → called o (called_label l) ≡ nm q l.q ∷ []
  unfolding put called_label
  part_set e k = rw (e, k)

  pub part_kept : o ≡ None → makes (what l) ≡ true → called o (called_label l) ≡ nm l.p l.q ∷ []
  unfolding put called_label
  part_kept e k = rw (e, k)

  pub part_none : makes (what l) ≡ false → called o (called_label l) ≡ []
  unfolding put called_label
  part_none k = rw k (called_nil o)

-- the field that a part makes, with its qualifier or another
pub part_made : (o : Option ℕ) (l : Label) → makes (what l) ≡ true → called o (called_label l) ≡ nm (unwrap_or o l.p) l.q ∷ []
part_made (Some q) l k = part_set (Some q) l refl k
part_made None l k = part_kept None l refl k

pub called_append : (o : Option ℕ) (a b : List Name) → called o (a ++ b) ≡ called o a ++ called o b
called_append (Some q) a b = map-append (requalify q) a b
called_append None a b = refl

made_node : (t : Tree) (after : Forest) → made (node t.label t.below after) ≡ called_label t.label ++ made after
unfolding made put called_label
made_node t after = go (makes (what t.label))
  where
    go : (b : Bool) → put b (nm t.label.p t.label.q) (made after) ≡ put b (nm t.label.p t.label.q) [] ++ made after
    go true = refl
    go false = refl

-- f holds names that, with `rest` behind them, are all
pub record Sum (f : Fields) (rest all : List Name) : Type 0 where
  pub got : List Name
  pub names : Names f got
  pub is : got ++ rest ≡ all

-- nothing is appended yet
pub sum_start : {f : Fields} {ns rest : List Name} → Names f ns → Sum f rest (ns ++ rest)
sum_start {ns = ns} h = record { got = ns; names = h; is = refl }

module _ (o : Option ℕ) where
  -- the fields of a child are appended
  pub sum_next : {f g : Fields} {all : List Name} (t : Tree) (after : Forest)
      → Sum f (called o (made (node t.label t.below after))) all
      → ((ns : List Name) → Names f ns → Names g (ns ++ called o (called_label t.label))) → Sum g (called o (made after)) all
  sum_next t after h step = record {
    got = h.got ++ called o (called_label t.label);
    names = step h.got h.names;
    is = append_assoc h.got (called o (called_label t.label)) (called o (made after))
        ∙ (ap (h.got ++◌) (sym (called_append o (called_label t.label) (made after)) ∙ ap (called o) (sym (made_node t after)))
        ∙ h.is);
  }

  -- all fields are
  pub sum_end : {f : Fields} {all : List Name} → Sum f (called o (made none)) all → Names f all
  unfolding made
  sum_end {f} h = subst (Names f) (sym (append-nil h.got) ∙ (ap (h.got ++◌) (sym (called_nil o)) ∙ h.is)) h.names
