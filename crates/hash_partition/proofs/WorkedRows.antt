-- The vectors of codes, hashes and cells, computed from the definitions: a wrong formula does not check.
use Rattle.std.proofs.Common.{◌≡◌, ℕ, ℤ, pos, negsuc, true, false, List, [], ◌∷◌, map, codes, refl}
use Rattle.hash_partition.specs.Cells.{IsCell, cell_number}
use Rattle.hash_partition.specs.Hashing.{dimension_seed, multiplier, offset, hash_of, coordinate_of, dimension_of, part_of_code, key_code_of, part_of_key, home_of}
use Rattle.rel_base.specs.Codes.{code_of}
use Rattle.rel_base.specs.declared.values.Value.{Value}
use Rattle.rel_base.specs.declared.values.Value.TheVariants as variant

-- ---- codes

pub codes-numbers : map (λ n. code_of (variant.Int n)) (pos 0 ∷ pos 1 ∷ pos 2 ∷ pos 3 ∷ pos 4 ∷ negsuc 0 ∷ []) ≡ 0 ∷ 1 ∷ 2 ∷ 3 ∷ 4 ∷ 2305843009213693950 ∷ []
codes-numbers = refl

-- the least and the greatest number of 64 bits
pub codes-ends : map (λ n. code_of (variant.Int n)) (negsuc 9223372036854775807 ∷ pos 9223372036854775807 ∷ []) ≡ 2305843009213693947 ∷ 3 ∷ []
codes-ends = refl

pub codes-truths : map (λ b. code_of (variant.Bool b)) (false ∷ true ∷ []) ≡ 0 ∷ 1 ∷ []
codes-truths = refl

pub codes-texts : map (λ s. code_of (variant.Str s)) (codes "" ∷ codes "a" ∷ codes "ab" ∷ []) ≡ 0 ∷ 98 ∷ 25285 ∷ []
codes-texts = refl

-- ---- the hash of dimension 0, for hash seed 0

pub seed-first : dimension_seed 0 0 ≡ 1
seed-first = refl

pub multiplier-first : multiplier 1 ≡ 1752450205419405106
multiplier-first = refl

pub offset-first : offset 1 ≡ 1442695040888963407
offset-first = refl

abbrev some_codes : List ℕ
some_codes = 0 ∷ 1 ∷ 2 ∷ 3 ∷ 4 ∷ 2305843009213693950 ∷ 98 ∷ []

pub hashes-first : map (hash_of 0 0) some_codes ≡ 1442695040888963407 ∷ 889302237094674562 ∷ 335909433300385717 ∷ 2088359638719790823 ∷ 1534966834925501978 ∷ 1996087844683252252 ∷ 244589480963617470 ∷ []
hashes-first = refl

pub coordinates-at_two : map (λ code. coordinate_of 0 0 code 2) some_codes ≡ 1 ∷ 0 ∷ 1 ∷ 1 ∷ 0 ∷ 0 ∷ 0 ∷ []
coordinates-at_two = refl

pub coordinates-at_one : map (λ code. coordinate_of 0 0 code 1) some_codes ≡ 0 ∷ 0 ∷ 0 ∷ 0 ∷ 0 ∷ 0 ∷ 0 ∷ []
coordinates-at_one = refl

-- a dimension with the hash made for it has the same ones
pub coordinates-made : map (part_of_code (dimension_of 0 0 2)) some_codes ≡ 1 ∷ 0 ∷ 1 ∷ 1 ∷ 0 ∷ 0 ∷ 0 ∷ []
coordinates-made = refl

-- the greatest seed comes round to 0, where each code has the hash of itself
pub hashes-round : map (hash_of 18446744073709551615 0) (0 ∷ 1 ∷ 98 ∷ []) ≡ 0 ∷ 1 ∷ 98 ∷ []
hashes-round = refl

-- ---- keys

abbrev key : ℤ → List Value
key n = variant.Int n ∷ []

pub key_codes : map (λ n. key_code_of (key n)) (pos 0 ∷ pos 1 ∷ pos 2 ∷ pos 3 ∷ []) ≡ 1 ∷ 2 ∷ 3 ∷ 4 ∷ []
key_codes = refl

pub key_code-two_columns : key_code_of (variant.Int (pos 0) ∷ variant.Int (pos 0) ∷ []) ≡ 258
key_code-two_columns = refl

pub homes-at_two : map (λ n. home_of 0 (key n) 2) (pos 0 ∷ pos 1 ∷ pos 2 ∷ pos 3 ∷ []) ≡ 0 ∷ 1 ∷ 1 ∷ 0 ∷ []
homes-at_two = refl

-- in another dimension the keys are elsewhere
pub parts-of_dimension_one : map (λ n. part_of_key (dimension_of 0 1 2) (key n)) (pos 0 ∷ pos 1 ∷ pos 2 ∷ pos 3 ∷ []) ≡ 0 ∷ 0 ∷ 1 ∷ 1 ∷ []
parts-of_dimension_one = refl

-- a key of no columns is at worker 0, though the code 0 has another coordinate
pub home-no_columns : home_of 0 [] 2 ≡ 0
home-no_columns = refl

-- ---- cells

pub number-last_of_six : cell_number (1 ∷ 2 ∷ 3 ∷ []) (0 ∷ 1 ∷ 2 ∷ []) ≡ 5
number-last_of_six = refl

pub number-fourth_of_six : cell_number (1 ∷ 2 ∷ 3 ∷ []) (0 ∷ 1 ∷ 0 ∷ []) ≡ 3
number-fourth_of_six = refl

pub number-of_eight : cell_number (2 ∷ 2 ∷ 2 ∷ []) (1 ∷ 0 ∷ 1 ∷ []) ≡ 5
number-of_eight = refl

pub number-no_shares : cell_number [] [] ≡ 0
number-no_shares = refl

pub cell-of_six : IsCell (1 ∷ 2 ∷ 3 ∷ []) (0 ∷ 1 ∷ 2 ∷ [])
cell-of_six = refl
