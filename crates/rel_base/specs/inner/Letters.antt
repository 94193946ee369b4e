-- The bytes of a text.
use Rattle.std.specs.Prelude.{ℕ, List, ⊤}
use Rattle.std.specs.String.{string_bytes}
use Rattle.rel_base.specs.declared.texts.Letters.{Letters}
use Rattle.rel_base.specs.declared.texts.Letters.TheVariants.{Short, Long}

-- the bytes, wherever they stand
abbrev pub bytes_in : Letters → List ℕ
bytes_in (Short short) = short
bytes_in (Long long) = string_bytes long.value

-- whether they stand in the value itself
abbrev pub IsShort : Letters → Type 0
IsShort (Short short) = ⊤
IsShort (Long long) = ⊥
