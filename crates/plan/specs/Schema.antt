-- The schema of a plan: the names of its fields, in order; and finding a name in one.
use Rattle.std.specs.Prelude.{ℕ, Bool, true, not, cond, List, [], ◌∷◌, ◌++◌, map, eqb}
use Rattle.plan.specs.Lists.{◌&◌, any}
use Rattle.plan.specs.Syntax.{Name, nm, Field, Entry, AggEntry, WinEntry, Kind, inner, left, right, full, left_semi, right_semi}
use Rattle.plan.specs.Syntax.{left_anti, right_anti, Plan, scan, filter, project, join, alias, union, distinct, sort, repartition}
use Rattle.plan.specs.Syntax.{limit, aggregate, window, Plans, pnil, pcons}

-- ---- names

abbrev pub same : Name → Name → Bool
same (nm q n) (nm r m) = eqb q r & eqb n m

-- the schema has the name
abbrev pub has : List Name → Name → Bool
has s x = any (λ y. same y x) s

-- no name stands twice
abbrev pub nodup : List Name → Bool
nodup [] = true
nodup (y ∷ s) = not (has s y) & nodup s

-- what a list has at the place where a schema has a name; `d` where there is none
abbrev pub look_d : {A : Type 0} → A → List Name → List A → Name → A
look_d d [] r x = d
look_d d (y ∷ s) [] x = d
look_d d (y ∷ s) (v ∷ r) x = cond (same y x) v (look_d d s r x)

-- ---- the schema: the names of the fields, in order

abbrev pub sides : Kind → List Name → List Name → List Name
sides inner s t = s ++ t
sides left s t = s ++ t
sides right s t = s ++ t
sides full s t = s ++ t
sides left_semi s t = s
sides right_semi s t = t
sides left_anti s t = s
sides right_anti s t = t

abbrev pub requalify : ℕ → Name → Name
requalify q (nm p n) = nm q n

unfoldable mutual
  pub schema : Plan → List Name
  schema (scan t fs es) = map (λ (f : Field). f.name) fs
  schema (filter e p) = schema p
  schema (project es p) = map (λ (e : Entry). e.name) es
  schema (join k l r on f) = sides k (schema l) (schema r)
  schema (alias q p) = map (requalify q) (schema p)
  schema (union ps) = schema_first ps
  schema (distinct p) = schema p
  schema (sort f ks p) = schema p
  schema (repartition p) = schema p
  schema (limit n k p) = schema p
  schema (aggregate gs ags p) = map (λ (e : Entry). e.name) gs ++ map (λ (a : AggEntry). a.name) ags
  schema (window ws p) = schema p ++ map (λ (w : WinEntry). w.name) ws

  pub schema_first : Plans → List Name
  schema_first pnil = []
  schema_first (pcons p ps) = schema p
