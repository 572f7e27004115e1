-- Fields of a schema counted by a question: those with the qualifier and the name, those with the name, all, those that clash, or none.
use Rattle.std.specs.Prelude.{Bool, true, false, cond, ◌&&◌, ◌||◌, [], ◌∷◌, ℕ, ◌+◌, eqb}
use Rattle.plan.specs.Syntax.{Name, nm}
use Rattle.plan.specs.FieldSources.{renames}
use Rattle.plan.specs.declared.field_sources.Role.{Role}
use Rattle.check_fields.specs.Fields.{Schema}
use Rattle.check_fields.specs.declared.questions.Question.{Question}
use Rattle.check_fields.specs.declared.questions.Question.TheVariants.{Exact, ByName, Every, Clashing, Nothing}

-- the qualifiers q and r do not tell two fields of one name apart
abbrev pub near : ℕ → ℕ → Bool
near q r = (eqb r q || eqb r 0) || eqb q 0

-- the question finds the field with the qualifier r and the name m
abbrev pub hit : Question → ℕ → ℕ → Bool
hit (Exact q n) r m = eqb r q && eqb m n
hit (ByName n) r m = eqb m n
hit Every r m = true
hit (Clashing q n) r m = near q r && eqb m n
hit Nothing r m = false

-- the same of a name
abbrev pub hits : Question → Name → Bool
hits asks (nm r m) = hit asks r m

-- how many fields it finds
unfoldable pub counted : (Name → Bool) → Schema → ℕ
counted h [] = 0
counted h (f ∷ s) = cond (h f.name) (counted h s + 1) (counted h s)

-- the question that is put to the input of an alias with the qualifier p: all its fields have that
abbrev pub under_alias : ℕ → Question → Question
under_alias p (Exact q n) = cond (eqb p q) (ByName n) Nothing
under_alias p (ByName n) = ByName n
under_alias p Every = Every
under_alias p (Clashing q n) = cond (near q p) (ByName n) Nothing
under_alias p Nothing = Nothing

-- the question that is put to the input
abbrev pub below : Role → ℕ → Question → Question
below r p asks = cond (renames r) (under_alias p asks) asks
