-- A file that is written begins with no byte order mark.
use Rattle.std.proofs.Common.{◌≡◌, ℕ, ◌&&◌, eqb, Bool, true, false, cond, List, [], ◌∷◌, ◌++◌, length, refl, ap, append_assoc, arith}
use Rattle.std.specs.List.{list_any}
use Rattle.csv.specs.Reading.{is_bom, strip_bom}
use Rattle.csv.specs.Writing.{default_writer, field_text, needs_byte}

-- no mark begins with another byte
strip_bom-other : (a : ℕ) (rest : List ℕ) → eqb a 0xEF ≡ false → strip_bom (a ∷ rest) ≡ a ∷ rest
unfolding strip_bom
strip_bom-other a [] other = refl
strip_bom-other a (b ∷ []) other = refl
strip_bom-other a (b ∷ c ∷ rest) other = rw other refl

-- nor does one have a colon in its first three bytes
strip_bom-colon_second : (a : ℕ) (rest : List ℕ) → strip_bom (a ∷ 58 ∷ rest) ≡ a ∷ 58 ∷ rest
unfolding strip_bom
strip_bom-colon_second a [] = refl
strip_bom-colon_second a (c ∷ rest) = by (eqb a 0xEF)
  where
    by : (t : Bool) → cond ((t && false) && eqb c 0xBF) rest (a ∷ 58 ∷ c ∷ rest) ≡ a ∷ 58 ∷ c ∷ rest
    by true = refl
    by false = refl

strip_bom-colon_third : (a b : ℕ) (rest : List ℕ) → strip_bom (a ∷ b ∷ 58 ∷ rest) ≡ a ∷ b ∷ 58 ∷ rest
unfolding strip_bom
strip_bom-colon_third a b rest = by (eqb a 0xEF && eqb b 0xBB)
  where
    by : (t : Bool) → cond (t && false) rest (a ∷ b ∷ 58 ∷ rest) ≡ a ∷ b ∷ 58 ∷ rest
    by true = refl
    by false = refl

-- a name that begins with no mark, with what follows
strip_bom-name : (name rest : List ℕ) → strip_bom name ≡ name → strip_bom (name ++ 58 ∷ rest) ≡ name ++ 58 ∷ rest
unfolding strip_bom
strip_bom-name [] rest unmarked = strip_bom-other 58 rest refl
strip_bom-name (a ∷ []) rest unmarked = strip_bom-colon_second a rest
strip_bom-name (a ∷ b ∷ []) rest unmarked = strip_bom-colon_third a b rest
strip_bom-name (a ∷ b ∷ c ∷ more) rest unmarked = by (is_bom a b c) refl
  where
    by : (t : Bool) → is_bom a b c ≡ t
        → cond (is_bom a b c) (more ++ 58 ∷ rest) (a ∷ b ∷ c ∷ (more ++ 58 ∷ rest)) ≡ a ∷ b ∷ c ∷ (more ++ 58 ∷ rest)
    by true mark = let shorter = ap length (rw mark at unmarked) in absurd (omega arith)
    by false mark = rw mark refl

-- a field that begins with such a name, with what follows
pub strip_bom-field : (name more rest : List ℕ) → strip_bom name ≡ name
    → strip_bom (field_text default_writer (name ++ 58 ∷ more) ++ rest)
    ≡ field_text default_writer (name ++ 58 ∷ more) ++ rest
strip_bom-field name more rest unmarked = by (list_any (needs_byte default_writer) (name ++ 58 ∷ more)) refl
  where
    by : (t : Bool) → list_any (needs_byte default_writer) (name ++ 58 ∷ more) ≡ t
        → strip_bom (field_text default_writer (name ++ 58 ∷ more) ++ rest)
        ≡ field_text default_writer (name ++ 58 ∷ more) ++ rest
    by true quotes = rw quotes (strip_bom-other 34 _ refl)
    by false quotes =
        let whole : (name ++ 58 ∷ more) ++ rest ≡ name ++ 58 ∷ (more ++ rest) = append_assoc name (58 ∷ more) rest in
        rw (quotes, whole) (strip_bom-name name (more ++ rest) unmarked)
