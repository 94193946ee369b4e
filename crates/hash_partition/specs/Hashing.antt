-- Hashes: where values and keys go.
--
--   dimension_seed seed dimension               the seed of a dimension
--   multiplier s, offset s                      what its hash multiplies by, and what it adds
--   hash_of seed dimension code                 the hash of a code in a dimension
--   coordinate_of seed dimension code share     its coordinate, over so many parts
--   dimension_of seed dimension share           a dimension with the hash made for it
--   part_of_code d code                         the coordinate of a code in such a dimension
--   key_of row columns                          the values of a row in these columns
--   key_code_of key                             the code of a key
--   part_of_key d key                           the part of a key in such a dimension
--   home_of seed key workers                    the worker of a key
use Rattle.std.specs.Prelude.{ℕ, ◌+◌, ◌-◌, ◌*◌, ◌%◌, ◌^◌, ◌<◌, ◌≤◌, pos, List, [], ◌∷◌, map, slice_index_or}
use Rattle.rel_base.specs.Codes.{modulus, code_of, code_of_parts}
use Rattle.rel_base.specs.declared.values.Value.{Value}
use Rattle.rel_base.specs.declared.values.Value.TheVariants as variant

-- dimensions are counted from 0, and seeds are numbers of 64 bits
abbrev pub dimension_seed : ℕ → ℕ → ℕ
dimension_seed seed dimension = (seed + dimension + 1) % 2 ^ 64

-- from 1 to the modulus less 1
abbrev pub multiplier : ℕ → ℕ
multiplier s = 1 + ((s * 6364136223846793005) % 2 ^ 64) % (modulus - 1)

-- below the modulus
abbrev pub offset : ℕ → ℕ
offset s = ((s * 1442695040888963407) % 2 ^ 64) % modulus

-- a linear function of the code, by the modulus
abbrev pub hash_of : ℕ → ℕ → ℕ → ℕ
hash_of seed dimension code =
    let s = dimension_seed seed dimension in
    (multiplier s * code + offset s) % modulus

-- the hash's remainder by the share
abbrev pub coordinate_of : ℕ → ℕ → ℕ → ℕ → ℕ
coordinate_of seed dimension code share = hash_of seed dimension code % share

-- what the coordinates of a dimension are made by: what its hash multiplies by and adds, and the
-- number of its parts
pub record DimensionState : Type 0 where
  pub multiplier : ℕ
  pub offset : ℕ
  pub share : ℕ

-- what is multiplied and added stays in 122 bits, and there is some part
pub record IsDimension (d : DimensionState) : Type 0 where
  pub multiplier_small : d.multiplier < modulus
  pub offset_small : d.offset < modulus
  pub some_part : 1 ≤ d.share

-- the dimension with this number, with the hash made for it
abbrev pub dimension_of : ℕ → ℕ → ℕ → DimensionState
dimension_of seed dimension share =
    let s = dimension_seed seed dimension in
    record { multiplier = multiplier s; offset = offset s; share = share }

-- as `coordinate_of`, where the hash is made
abbrev pub part_of_code : DimensionState → ℕ → ℕ
part_of_code d code = (d.multiplier * code + d.offset) % modulus % d.share

-- the values of a row in these columns, in the order of the columns
abbrev pub key_of : List Value → List ℕ → List Value
key_of row columns = map (λ column. slice_index_or row column (variant.Int (pos 0))) columns

-- the code of the values' codes, as parts in their order
abbrev pub key_code_of : List Value → ℕ
key_code_of key = code_of_parts (map code_of key)

-- a key of no columns is in part 0
abbrev pub part_of_key : DimensionState → List Value → ℕ
part_of_key d [] = 0
part_of_key d (value ∷ values) = part_of_code d (key_code_of (value ∷ values))

-- a key's part in dimension 0
abbrev pub home_of : ℕ → List Value → ℕ → ℕ
home_of seed key workers = part_of_key (dimension_of seed 0 workers) key
