-- Texts one behind another in one list of bytes.
--
--   text_at bytes starts place       the text of this place: it ends where the next begins
--   texts_in bytes starts count      the first so many of them
--   AreTexts bytes starts keys       each is cut out between characters, and has its keys
use Rattle.std.specs.Prelude.{◌≡◌, ℕ, ◌+◌, ◌<◌, ◌≤◌, List, length, map, All, slice_index, slice_index_or, slice_range, IsCharBoundary}
use Rattle.std.specs.List.{range_with_len}
use Rattle.word_table.specs.declared.text_keys.TextKeys.{TextKeys}
use Rattle.word_table.specs.inner.TextKeys.{AreKeysOf}

-- the bytes from where the text begins to where the next one begins
abbrev pub text_at : List ℕ → List ℕ → ℕ → List ℕ
text_at bytes starts place =
    slice_range bytes (slice_index starts place) (slice_index starts (place + 1))

-- the texts of the first so many places
abbrev pub texts_in : List ℕ → List ℕ → ℕ → List (List ℕ)
texts_in bytes starts count = map (text_at bytes starts) (range_with_len 0 count)

-- one place more than there are keys, where the bytes may be cut; no text ends before it begins,
-- and its keys are beside it
pub record AreTexts (bytes starts : List ℕ) (keys : List TextKeys) : Type 0 where
  pub many : length starts ≡ length keys + 1
  pub cut : All (IsCharBoundary bytes) starts
  pub in_turn : (k : ℕ) → k < length keys → slice_index starts k ≤ slice_index starts (k + 1)
  pub keyed : (k : ℕ) (d : TextKeys) → k < length keys
      → AreKeysOf (text_at bytes starts k) (slice_index_or keys k d)
