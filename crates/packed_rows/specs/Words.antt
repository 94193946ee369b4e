-- Words that have the values of a row.
--
--   unpacked shift mask least is_truth word     the value that the bits of a word behind the shift, as far as the mask, stand for
use Rattle.std.specs.Prelude.{ℕ, ◌/◌, ◌^◌, ◌==◌, ℤ, pos, bit_and, Bool, if◌then◌else◌}
use Rattle.std.specs.Int.{w64, int_wrapping_add}
use Rattle.rel_base.specs.declared.values.Value.{Value}
use Rattle.rel_base.specs.declared.values.Value.TheVariants as value

-- the boolean, or the number so far above the least one, that these bits stand for
abbrev pub unpacked : ℕ → ℕ → ℤ → Bool → ℕ → Value
unpacked shift mask least is_truth word =
    let bits = bit_and (word / 2 ^ shift) mask in
    if is_truth then value.Bool (bits == 1) else value.Int (int_wrapping_add w64 least (pos bits))
