-- What a reference means: no column, one, or several.
--
--   meaning_of scope reference    what a reference means
--   meaning_among places          what one means that may mean the columns at these places
--   is_unknown, is_ambiguous      no column is meant, or several may be
--   place_in meaning              the place that a reference means, where there is just one
use Rattle.std.specs.Prelude.{ℕ, Bool, true, false, List, [], ◌∷◌, Option, Some, None}
use Rattle.myrial_ast.specs.declared.expressions.ColRef.{ColRef}
use Rattle.myrial_scopes.specs.declared.meanings.Meaning.{Meaning}
use Rattle.myrial_scopes.specs.declared.meanings.Meaning.TheVariants as meaning
use Rattle.myrial_scopes.specs.Scopes.{ScopeColumn, places_of}

-- what a reference means that may mean the columns at these places
abbrev pub meaning_among : List ℕ → Meaning
meaning_among [] = meaning.Unknown
meaning_among (place ∷ []) = meaning.One place
meaning_among _ = meaning.Ambiguous

-- what a reference means
abbrev pub meaning_of : List ScopeColumn → ColRef → Meaning
meaning_of scope reference = meaning_among (places_of scope reference)

-- whether no column is meant
abbrev pub is_unknown : Meaning → Bool
is_unknown meaning.Unknown = true
is_unknown _ = false

-- whether two columns or more may be meant
abbrev pub is_ambiguous : Meaning → Bool
is_ambiguous meaning.Ambiguous = true
is_ambiguous _ = false

-- the place that a reference means, where there is just one
abbrev pub place_in : Meaning → Option ℕ
place_in (meaning.One place) = Some place
place_in _ = None

-- what a reference means that may mean the column at a place besides
abbrev pub with_place : Meaning → ℕ → Meaning
with_place meaning.Unknown place = meaning.One place
with_place _ place = meaning.Ambiguous
