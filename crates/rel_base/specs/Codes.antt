-- Codes of values: numbers below 2 ^ 61 - 1, by which rows are spread over workers.
--
--   modulus                   the number of codes
--   code_of_int n             the code of a number
--   mixed_with mixed part     what is mixed so far, with one part more
--   code_of_parts parts       the code of parts, in their order
--   code_of_bytes bytes       the code of a text
--   code_of v                 the code of a value
use Rattle.std.specs.Prelude.{ℕ, ◌+◌, ◌-◌, ◌*◌, ◌%◌, ◌^◌, ℤ, pos, unsigned_abs, true, false, List, fold}
use Rattle.std.specs.Int.{int_rem_euclid}
use Rattle.rel_base.specs.declared.values.Value.{Value}
use Rattle.rel_base.specs.declared.values.Value.TheVariants as variant

-- there are as many codes as this prime, and each is below it
abbrev pub modulus : ℕ
modulus = 2 ^ 61 - 1

-- the remainder of the number by the modulus, which is not negative: -1 has the greatest code
abbrev pub code_of_int : ℤ → ℕ
code_of_int n = unsigned_abs (int_rem_euclid n (pos modulus))

-- in 64 bits, 257 times what is mixed so far, and the part, and 1
abbrev pub mixed_with : ℕ → ℕ → ℕ
mixed_with mixed part = (257 * mixed + part + 1) % 2 ^ 64

-- each part in turn is mixed in, from 0 on, and in the end the remainder by the modulus is taken
abbrev pub code_of_parts : List ℕ → ℕ
code_of_parts parts = fold mixed_with 0 parts % modulus

-- the bytes are the parts
abbrev pub code_of_bytes : List ℕ → ℕ
code_of_bytes = code_of_parts

-- a number's, a text's, and 0 for false and 1 for true
abbrev pub code_of : Value → ℕ
code_of (variant.Int n) = code_of_int n
code_of (variant.Str s) = code_of_bytes s
code_of (variant.Bool false) = 0
code_of (variant.Bool true) = 1
