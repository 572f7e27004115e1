-- The inputs of a Union, each under its own Filter.
use Prim.Native.Nat.{ℕ, ◌+◌, ◌*◌, ◌≤◌}
use native.Mathlib.Omega.{arith}
use native.Mathlib.Nat.{le_trans, le_of_eq, max-le, le-max_left, le-max_right}
use mathlib.Core.Path.{◌≡◌, refl, sym, subst}
use mathlib.Core.Bool.{true}
use mathlib.Core.List.{List}
use mathlib.Core.Option.{some}
use lib.Dec.{eqb}
use lib.ListN.{length, drop, length-drop}
use borrow.Author.Tests.{leb-true, eqb-true}
use Rattle.image.specs.Limits.{max_list, max_fields, work_bytes, max_below}
use Rattle.image.specs.Room.{Put, Wrote}
use Rattle.image.specs.Tree.{Label, Forest, none, node, Deep, At}
use Rattle.image.proofs.Room.{Left, put_start, left_next, left_end}
use Rattle.plan.specs.Syntax.{Name, Expr, Plan, Plans, pnil, pcons, filter, union}
use Rattle.plan.specs.Schema.{schema, schema_first}
use Rattle.plan.specs.Trees.{label_p, kids_p, forest_p, plan_tree}
use Rattle.plan.specs.Integers.{FitsP, FitsPs}
use Rattle.plan.proofs.Lists.{and_l, and_r}
use Rattle.acceptance.specs.Names.{sound}
use Rattle.acceptance.proofs.NamesRule.{rule_sound}
use Rattle.acceptance.specs.NamesRule.{ok_all, rule}
use Rattle.rewrite.specs.Utils.{replace_cols}
use Rattle.rewrite.specs.Limits.{list_p, list_ps}
use Rattle.rewrite.specs.PushDownFilter.{filter_each, renamed, ren, rewrite_filter}
use Rattle.conjuncts.specs.Standing.{StandingP}
use Rattle.utils.specs.Fields.{Fields, Names}
use Rattle.push_down_base.specs.Predicates.{Predicate, Perhaps}
use Rattle.push_down_arms.specs.Renaming.{Renamed}
use Rattle.push_down_base.specs.Arms.{Rests}
use Rattle.push_down_base.proofs.Answering.{few}
use Rattle.push_down_base.proofs.Plain.{renamed_parts}

-- of the inputs, whose names are ns by place, `rest` is left, the trees of `f`: each of one width, and to be written from record `to` on
pub record Inputs (ns : List Name) (e : Expr) (all : Plans) (out₀ : List ℕ) (at₀ level : ℕ) (out : List ℕ) (to : ℕ) (f : Forest) : Type 0 where
  pub rest : Plans
  pub is : f ≡ forest_p rest
  pub fits : FitsPs rest
  pub wide : ok_all (length ns) rest ≡ true
  pub left : Left out₀ at₀ level (forest_p (filter_each ns e all)) out to (forest_p (filter_each ns e rest))

-- the first of them
pub record First (ns : List Name) (e : Expr) (all : Plans) (out₀ : List ℕ) (at₀ level : ℕ) (out : List ℕ) (to : ℕ) (l : Label)
    (cs ns' : Forest) : Type 0 where
  pub plan : Plan
  pub others : Plans
  pub label : l ≡ label_p plan
  pub below : cs ≡ kids_p plan
  pub after : ns' ≡ forest_p others
  pub fits : FitsP plan
  pub fits_others : FitsPs others
  pub wide : length ns ≡ length (schema plan)
  pub wide_others : ok_all (length ns) others ≡ true
  pub left : Left out₀ at₀ level (forest_p (filter_each ns e all)) out to
      (node (label_p (filter (renamed ns (schema plan) e) plan)) (kids_p (filter (renamed ns (schema plan) e) plan)) (forest_p (filter_each ns e others)))

pub first : {ns : List Name} {e : Expr} {all : Plans} {out₀ : List ℕ} {at₀ level : ℕ} {out : List ℕ} {to : ℕ} (l : Label) (cs ns' : Forest)
    → Inputs ns e all out₀ at₀ level out to (node l cs ns') → First ns e all out₀ at₀ level out to l cs ns'
unfolding kids_p filter_each rule
first {ns} {e} {all} {out₀} {at₀} {level} {out} {to} l cs ns' h = go h.rest h.is h.fits h.wide h.left
  where
    go : (rest : Plans) → node l cs ns' ≡ forest_p rest → FitsPs rest → ok_all (length ns) rest ≡ true
        → Left out₀ at₀ level (forest_p (filter_each ns e all)) out to (forest_p (filter_each ns e rest))
        → First ns e all out₀ at₀ level out to l cs ns'
    go pnil i f w k = let z : ◌≡◌ {A = ℕ} 0 1 = cc in absurd (omega arith)
    go (pcons p ps) i f w k = record {
      plan = p;
      others = ps;
      label = cc;
      below = cc;
      after = cc;
      fits = f.0;
      fits_others = f.1;
      wide = sym (eqb-true (length (schema p)) (length ns) (and_l _ _ w));
      wide_others = and_r _ _ (and_r _ _ w);
      left = k;
    }

-- it is written
pub more : {ns : List Name} {e : Expr} {all : Plans} {out₀ : List ℕ} {at₀ level : ℕ} {out out' : List ℕ} {to to' : ℕ} {l : Label} {cs f : Forest}
    (h : First ns e all out₀ at₀ level out to l cs f) → Wrote out out' to level to' (plan_tree (filter (renamed ns (schema h.plan) e) h.plan))
    → Inputs ns e all out₀ at₀ level out' to' f
more {ns} {e} h w = record {
  rest = h.others;
  is = h.after;
  fits = h.fits_others;
  wide = h.wide_others;
  left = left_next (plan_tree (filter (renamed ns (schema h.plan) e) h.plan)) h.left w;
}

-- all are written
pub none_more : {ns : List Name} {e : Expr} {all : Plans} {out₀ : List ℕ} {at₀ level : ℕ} {out : List ℕ} {to : ℕ}
    → Inputs ns e all out₀ at₀ level out to none → Left out₀ at₀ level (forest_p (filter_each ns e all)) out to none
unfolding kids_p filter_each
none_more {ns} {e} {all} {out₀} {at₀} {level} {out} {to} h = go h.rest h.is h.left
  where
    go : (rest : Plans) → none ≡ forest_p rest → Left out₀ at₀ level (forest_p (filter_each ns e all)) out to (forest_p (filter_each ns e rest))
        → Left out₀ at₀ level (forest_p (filter_each ns e all)) out to none
    go pnil i k = k
    go (pcons p ps) i k = let z : ◌≡◌ {A = ℕ} 0 1 = cc in absurd (omega arith)

module _ {s : List ℕ} {x : ℕ} {p : Predicate} {e : Expr} {ps : Plans} (h : Rests s x p e (union ps)) where
  pub union_few : length (schema (union ps)) ≤ max_fields
  unfolding sound
  union_few = leb-true (length (schema (union ps))) max_fields (and_r _ _ (rule_sound eqb (union ps) h.placed.rules))

  pub union_wide : ok_all (length (schema (union ps))) ps ≡ true
  unfolding rule schema
  union_wide = h.placed.rules

  each_lists : (ns : List Name) (qs : Plans) → list_ps qs ≤ max_list → list_ps (filter_each ns e qs) ≤ max_list
  unfolding list_p filter_each renamed
  each_lists ns pnil k = k
  each_lists ns (pcons q qs) k =
      max-le (max-le (le_trans (le_of_eq (renamed_parts (ren ns (schema q)) e)) (few h.shaped)) (le_trans (le-max_left (list_p q) (list_ps qs)) k))
      (each_lists ns qs (le_trans (le-max_right (list_p q) (list_ps qs)) k))

  pub union_lists : list_p (rewrite_filter e (union ps)).plan ≤ max_list
  unfolding list_p rewrite_filter
  union_lists = each_lists (schema_first ps) ps h.placed.lists

-- ---- what the loop over the inputs goes by

-- the Union of the inputs ps stands at record x, `from` holds its names, and `below` is e, its columns to be replaced
pub record Spread (s : List ℕ) (x : ℕ) (from : Fields) (below : Predicate) (e : Expr) (ps : Plans) : Type 0 where
  pub short : length s ≤ work_bytes
  pub standing : StandingP s x (union ps)
  pub names : Names from (schema (union ps))
  pub few : length (schema (union ps)) ≤ max_fields
  pub wide : ok_all (length (schema (union ps))) ps ≡ true
  pub most : below.list.len ≤ max_list
  pub changed : (σ : Name → Expr) → Perhaps s σ below (some (replace_cols σ e))

module _ {s : List ℕ} {x : ℕ} {from : Fields} {below : Predicate} {e : Expr} {ps : Plans} (h : Spread s x from below e ps) where
  -- before the loop all inputs are left
  pub all_inputs : {out₀ out₁ : List ℕ} {at at₁ level : ℕ} {l : Label} → length out₀ ≡ work_bytes → Put out₀ out₁ at level at₁ l
      → Inputs (schema (union ps)) e ps out₁ at₁ (level + 1) out₁ at₁ (kids_p (union ps))
  unfolding kids_p
  all_inputs long p = record {
    rest = ps;
    is = refl;
    fits = h.standing.fits;
    wide = h.wide;
    left = put_start long p (forest_p (filter_each (schema (union ps)) e ps));
  }

  -- the first of those that are left may be written
  pub renames_first : {out₀ : List ℕ} {at₀ level : ℕ} {out : List ℕ} {to : ℕ} (y : ℕ) {l : Label} {cs f : Forest}
      (k : First (schema (union ps)) e ps out₀ at₀ level out to l cs f) → At (record { label = l; below = cs }) (drop (32 * y) s) y
      → Deep cs max_below → Renamed s from below y e k.plan (schema (union ps))
  renames_first y k here deep =
      let t : At (plan_tree k.plan) (drop (32 * y) s) y = rw (k.label, k.below) at here in
      record {
        standing = record {
          within = omega (arith, t.head.room, length-drop (32 * y) s);
          here = t;
          deep = rw k.below at deep;
          fits = k.fits;
          small = omega (arith, t.head.room, length-drop (32 * y) s, h.short);
        };
        names = h.names;
        wide = k.wide;
        few = h.few;
        most = h.most;
        changed = h.changed;
      }

-- .. of another name of the image
pub renamed_in : {s z : List ℕ} {from : Fields} {p : Predicate} {y : ℕ} {e : Expr} {q : Plan} {ns : List Name} → z ≡ s → Renamed s from p y e q ns
    → Renamed z from p y e q ns
renamed_in {from = from} {p} {y} {e} {q} {ns} i h = subst (λ (w : List ℕ). Renamed w from p y e q ns) (sym i) h

-- there is such a Union
pub record SomeSpread (s : List ℕ) (x : ℕ) (from : Fields) (below : Predicate) : Type 0 where
  pub expr : Expr
  pub inputs : Plans
  pub spread : Spread s x from below expr inputs

pub spread_of : {s : List ℕ} {x : ℕ} {p : Predicate} {from : Fields} {below : Predicate} {e : Expr} {ps : Plans} → Rests s x p e (union ps)
    → Names from (schema (union ps)) → below.list.len ≤ max_list → ((σ : Name → Expr) → Perhaps s σ below (some (replace_cols σ e)))
    → Spread s x from below e ps
spread_of h n m c = record {
  short = h.placed.short;
  standing = h.placed.standing;
  names = n;
  few = union_few h;
  wide = union_wide h;
  most = m;
  changed = c;
}

-- the Union is written: its label, and then its inputs
pub union_wrote : {out₀ out₁ out : List ℕ} {at at₁ level to : ℕ} {l : Label} (e : Expr) (ps : Plans) → length out₀ ≡ work_bytes
    → Put out₀ out₁ at level at₁ l → l ≡ label_p (union ps) → Left out₁ at₁ (level + 1) (forest_p (filter_each (schema (union ps)) e ps)) out to none
    → Wrote out₀ out at level to (plan_tree (rewrite_filter e (union ps)).plan)
unfolding label_p kids_p rewrite_filter schema
union_wrote e ps long p i h = rw i at (left_end long p h)
