-- What the writing of a join is asked and answers: the lists that move, and the join over them.
use Rattle.std.specs.Prelude as P
use Rattle.std.specs.Prelude.{◌≡◌, true, not, List, [], ◌++◌, ℕ, ◌+◌, ◌≤◌, ◌<◌, eqb, length}
use Rattle.std.proofs.Math.Option as O
use Rattle.std.proofs.Math.Option.{Option, some}
use Rattle.image.specs.Limits.{work_bytes, max_list}
use Rattle.image.specs.Tree.{Forest, none, node, Tree}
use Rattle.image.specs.Subtrees.{Subtree}
use Rattle.image.specs.Records.{Rec, recs}
use Rattle.plan.specs.Kinds.{number_q, PairPart}
use Rattle.plan.specs.Schema.{has, schema}
use Rattle.plan.specs.Syntax.{Name, Expr, Pair, Kind, Plan, join}
use Rattle.plan.specs.Trees.{plan_tree}
use Rattle.plan.specs.Lists.{when}
use Rattle.acceptance.specs.NamesRule.{ok}
use Rattle.rewrite.specs.Utils.{with_filters, conjunction}
use Rattle.rewrite.specs.PushDownFilter.{left_push, right_push, keep_predicates, join_conditions, on_filter_join_conditions, nothing_moves}
use Rattle.conjuncts.specs.Items.{Conjuncts, Lists}
use Rattle.conjuncts.specs.Standing.{Standing, StandingP}
use Rattle.writing.specs.Maps.{MapsTo}
use Rattle.push_down_base.specs.Arms.{Placed, Rests}
use Rattle.push_down_base.specs.Predicates.{Predicate}
use Rattle.push_down_base.specs.Plain.{Plain}
use Rattle.push_down_join.specs.Scopes.{Scope, Scopes}
use Rattle.push_down_base.specs.Parting.{Reads}
use Rattle.push_down_join.specs.Sides.{Sides}
use Rattle.push_down_join.specs.declared.write_sides.Moves as declared

-- ---- a join, and the predicates above it

-- some join stands at record x
pub record JoinHere (s : List ℕ) (x : ℕ) : Type 0 where
  pub kind : Kind
  pub lhs : Plan
  pub rhs : Plan
  pub keys : List Pair
  pub condition : Option Expr
  pub placed : Placed s x (join kind lhs rhs keys condition)

-- t is some join that keeps the name rules
pub record JoinRuled (t : Tree) : Type 0 where
  pub kind : Kind
  pub lhs : Plan
  pub rhs : Plan
  pub keys : List Pair
  pub condition : Option Expr
  pub is : t ≡ plan_tree (join kind lhs rhs keys condition)
  pub rules : ok (join kind lhs rhs keys condition) ≡ true

-- the filter of a join is this tree of the image, or it has none
pub data FilterOf (s : List ℕ) : P.Option Subtree → Option Expr → Type 0 where
  has_none : FilterOf s P.None O.none
  has_one : {t : Subtree} {e : Expr} → t.image.now ≡ s → Standing s t.number e → 0 < t.number → FilterOf s (P.Some t) (some e)

-- a join stands at record x, and the conjuncts c are over its inputs
pub record JoinUnder (s : List ℕ) (x : ℕ) (c : Conjuncts) : Type 0 where
  pub kind : Kind
  pub lhs : Plan
  pub rhs : Plan
  pub keys : List Pair
  pub condition : Option Expr
  pub placed : Placed s x (join kind lhs rhs keys condition)
  pub exprs : List Expr
  pub reads : Reads s (schema lhs ++ schema rhs) c exprs
  pub plain : Plain exprs

-- .. and so are the conjuncts g
pub record JoinBetween (s : List ℕ) (x : ℕ) (c g : Conjuncts) : Type 0 where
  pub kind : Kind
  pub lhs : Plan
  pub rhs : Plan
  pub keys : List Pair
  pub condition : Option Expr
  pub placed : Placed s x (join kind lhs rhs keys condition)
  pub above : List Expr
  pub reads : Reads s (schema lhs ++ schema rhs) c above
  pub own : List Expr
  pub reads_own : Reads s (schema lhs ++ schema rhs) g own

-- some predicate rests on a join
pub record OverJoin (s : List ℕ) (x : ℕ) (p : Predicate) : Type 0 where
  pub expr : Expr
  pub kind : Kind
  pub lhs : Plan
  pub rhs : Plan
  pub keys : List Pair
  pub condition : Option Expr
  pub rests : Rests s x p expr (join kind lhs rhs keys condition)

-- ---- the lists that move

-- the struct of the code
abbrev pub Moves : Type 0
Moves = declared.Moves

-- v has the lists of a join with these keys over the schemas l and r, of the predicates P above it and G of its own
pub record Moved (s : List ℕ) (σ : Name → Expr) (v : Moves) (k : Kind) (l r : List Name) (on : List Pair) (P G : List Expr) : Type 0 where
  pub left : Sides s σ (l ++ r) (has l) v.left (left_push k l r on P G)
  pub right : Sides s σ (l ++ r) (has r) v.right (right_push k l r on P G)
  pub conditions : Lists s v.conditions (join_conditions k l r on P G ++ on_filter_join_conditions k l r on P G)
  pub kept : Reads s (l ++ r) v.kept (keep_predicates k l r on P G)
  pub flag : v.flag ≡ not (nothing_moves k l r on P G)

-- ---- the records of a join's keys

-- the records of the pairs of keys in a forest, its first trees at depth d
unfoldable pub pair_recs : ℕ → Forest → List Rec
pair_recs d none = []
pair_recs d (node l cs ns) = when (eqb l.kind (number_q PairPart)) (recs d (record { label = l; below = cs })) ++ pair_recs d ns

-- ---- the join over them

-- the join's inputs with the lists that move to them
abbrev pub join_over : Kind → Plan → Plan → List Pair → List Expr → List Expr → Plan
join_over k l r on P G =
    let s = schema l in
    let t = schema r in
    join k (with_filters (left_push k s t on P G) l) (with_filters (right_push k s t on P G) r) on
    (conjunction (join_conditions k s t on P G ++ on_filter_join_conditions k s t on P G))

-- plan is the join; sc is its scope, the map swaps its keys, and v are its lists, all whole
pub record Carries (plan map : Subtree) (sc : Scope) (v : Moves) (k : Kind)
    (l r : Plan) (on : List Pair) (f : Option Expr) (P G : List Expr) (σ : Name → Expr) : Type 0 where
  pub short : length plan.image.now ≤ work_bytes
  pub standing : StandingP plan.image.now plan.number (join k l r on f)
  pub maps : MapsTo map σ
  pub scopes : Scopes sc (schema l) (schema r) on
  pub moved : Moved plan.image.now σ v k (schema l) (schema r) on P G
  pub left_most : v.left.len ≤ max_list
  pub right_most : v.right.len ≤ max_list
  pub conditions_most : v.conditions.len ≤ max_list

-- some join does
pub record Carried (plan map : Subtree) (sc : Scope) (v : Moves) : Type 0 where
  pub kind : Kind
  pub lhs : Plan
  pub rhs : Plan
  pub keys : List Pair
  pub condition : Option Expr
  pub above : List Expr
  pub own : List Expr
  pub mapping : Name → Expr
  pub carries : Carries plan map sc v kind lhs rhs keys condition above own mapping
