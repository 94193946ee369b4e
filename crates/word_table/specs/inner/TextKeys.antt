-- Keys of texts.
--
--   AreKeysOf s keys     the keys of a string and of its bytes from the eighth on
use Rattle.std.specs.Prelude.{ℕ, List, drop}
use Rattle.rel_base.specs.SortKeys.{IsKeyOf}
use Rattle.word_table.specs.declared.text_keys.TextKeys.{TextKeys}

-- the first key is the string's, and the second that of what follows its first seven bytes
pub record AreKeysOf (s : List ℕ) (keys : TextKeys) : Type 0 where
  pub first : IsKeyOf s keys.first
  pub second : IsKeyOf (drop 7 s) keys.second
