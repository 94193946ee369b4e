-- Keys of strings: numbers below 2^63 that mostly tell how two strings compare.
--
--   span n        the number of keys of n bytes
--   key_of n s    the key of a string by its first n bytes
--   sort_key s    the key of a string
--   IsKeyOf s key      the string has this key
--   IsDigitAt s i d    byte i of the string makes digit d
use Rattle.std.specs.Prelude.{◌≡◌, ℕ, zero, suc, ◌+◌, ◌*◌, ◌<◌, List, [], ◌∷◌, All, MatchOption, slice_get}

-- each byte, or that there is none, makes 257 keys of one, and whether more follows makes two
unfoldable pub span : ℕ → ℕ
span zero = 2
span (suc n) = 257 * span n

-- n digits, 0 where the string has ended and else 1 more than the byte, and at last whether more bytes follow
unfoldable pub key_of : ℕ → List ℕ → ℕ
key_of zero [] = 0
key_of zero (byte ∷ bytes) = 1
key_of (suc n) [] = 0
key_of (suc n) (byte ∷ bytes) = (byte + 1) * span n + key_of n bytes

-- the key by the first seven bytes
abbrev pub sort_key : List ℕ → ℕ
sort_key = key_of 7

-- the string is of bytes, and this is its key
pub record IsKeyOf (s : List ℕ) (key : ℕ) : Type 0 where
  pub is_key : key ≡ sort_key s
  pub bytes : All (λ byte. byte < 256) s

-- the digit of byte i is 1 more than the byte, and 0 past the end
abbrev pub IsDigitAt : List ℕ → ℕ → ℕ → Type 0
IsDigitAt s i d = MatchOption (slice_get s i) (d ≡ 0) (λ byte. d ≡ byte + 1)
