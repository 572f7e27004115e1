-- When a schema is sound, as the code asks it: each of its fields clashes with one field, itself, and there are not too many.
use Rattle.std.specs.Prelude.{Bool, true, cond, [], ◌∷◌, ℕ, eqb, leb, length, Option, None, Some}
use Rattle.image.specs.Limits.{max_fields}
use Rattle.image.specs.Tree.{Forest}
use Rattle.plan.specs.FieldSources.{renames}
use Rattle.plan.specs.declared.field_sources.Role.{Role}
use Rattle.plan.specs.declared.field_sources.Role.TheVariants.{NoPlan, Creates, Joins, Renames, Extends, Passes}
use Rattle.plan.specs.Lists.{◌&◌}
use Rattle.plan.specs.Syntax.{Name, nm}
use Rattle.image.specs.Subtrees.{forest}
use Rattle.check_names.specs.declared.schemas.Whole.{Whole}
use Rattle.check_fields.specs.declared.scopes.View.{View}
use Rattle.check_fields.specs.declared.scopes.View.TheVariants.{FirstInput, BothInputs, Parts, FirstInputAndParts}
use Rattle.check_fields.specs.declared.questions.Question.{Question}
use Rattle.check_fields.specs.declared.questions.Question.TheVariants.{ByName, Clashing}
use Rattle.check_fields.specs.Count.{counted, hits}
use Rattle.check_fields.specs.Fields.{Schema}
use Rattle.check_fields.specs.Rules.{seen}
use Rattle.check_fields.specs.Scopes.{scope_of}

-- the name of each field passes a test
unfoldable pub all_of : (Name → Bool) → Schema → Bool
all_of h [] = true
all_of h (f ∷ s) = h f.name & all_of h s

-- a name as it is called where an alias with the qualifier `to` stands above, or none does
abbrev pub called : Option ℕ → Name → Name
called None x = x
called (Some to) (nm r m) = nm to m

-- the question finds one field
abbrev pub single : Schema → (Name → Question) → Name → Bool
single s asks x = eqb (counted (hits (asks x)) s) 1

-- so it does for the name as it is called
abbrev pub lone : Schema → (Name → Question) → Option ℕ → Name → Bool
lone s asks to x = single s asks (called to x)

-- the fields of a plan's children that are seen
abbrev pub own_of : View → Forest → Schema
own_of v f = seen (scope_of v f)

-- which of them a plan has, by its role; a join has those of both inputs, whatever its kind
abbrev pub own_view : Role → View
own_view NoPlan = FirstInput
own_view Creates = Parts
own_view Joins = BothInputs
own_view Renames = FirstInput
own_view Extends = FirstInputAndParts
own_view Passes = FirstInput

-- the fields of the schema that is told apart
abbrev pub whole_of : {N : ℕ} → Whole N → Schema
whole_of w = own_of (own_view w.role) (forest w.trees)

-- the questions for the fields that share a name, and for those that clash with it
abbrev pub by_name : Name → Question
by_name (nm q n) = ByName n

abbrev pub clashing : Name → Question
clashing (nm q n) = Clashing q n

-- the question: under an alias two fields clash if they share the name
abbrev pub own_question : Role → Name → Question
own_question r = cond (renames r) by_name clashing

-- how many of its inputs are sound where the plan is: both of a join, the first of others that have its fields
abbrev pub known_inputs : Role → ℕ
known_inputs NoPlan = 0
known_inputs Creates = 0
known_inputs Joins = 2
known_inputs Renames = 1
known_inputs Extends = 1
known_inputs Passes = 1

-- the fields of a schema are told apart by the question, and there are not too many
abbrev pub apart : (Name → Question) → Schema → Bool
apart asks s = all_of (single s asks) s & leb (length s) max_fields
