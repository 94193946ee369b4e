-- What a token is of its text.
--
--   Lies text token        the token is a piece of the text, of a byte or more
--   IsNumeral bytes        the bytes are digits that write a number below 2 ^ 63
--   unquoted bytes         the bytes without the first and the last, as what stands between the quotes of a string
--   IsOfKind kind bytes    the bytes are such as a token of the kind has
--   IsCut text token       the token lies within the text, its bytes are text again, and they are such as its kind has
use Rattle.std.specs.Prelude.{◌≡◌, ℕ, ◌-◌, ◌<◌, ◌≤◌, ◌^◌, true, List, length, take, drop}
use Rattle.std.specs.Str.{IsUtf8, all_ascii_digits}
use Rattle.std.specs.Str.Parse.{digits_value}
use Rattle.myrial_lexer.specs.declared.kinds.Token.{Token}
use Rattle.myrial_lexer.specs.declared.kinds.TokenKind.{TokenKind}
use Rattle.myrial_lexer.specs.declared.kinds.TokenKind.TheVariants as kind
use Rattle.myrial_lexer.specs.Tokens.{slice_of}

-- the token is a piece of the text, of a byte or more
pub record Lies (text : List ℕ) (token : Token) : Type 0 where
  pub some : token.start < token.end
  pub within : token.end ≤ length text

-- digits that write a number below 2 ^ 63
pub record IsNumeral (bytes : List ℕ) : Type 0 where
  pub some : 0 < length bytes
  pub digits : all_ascii_digits bytes ≡ true
  pub small : digits_value 10 bytes < 2 ^ 63

-- what stands between the quotes of a string
abbrev pub unquoted : List ℕ → List ℕ
unquoted bytes = take (length bytes - 1 - 1) (drop 1 bytes)

-- two quotes, and text between them
pub record IsString (bytes : List ℕ) : Type 0 where
  pub quotes : 2 ≤ length bytes
  pub is_text : IsUtf8 (unquoted bytes)

-- the bytes of a number write it, those of a string stand between quotes, and of the other kinds nothing is asked
abbrev pub IsOfKind : TokenKind → List ℕ → Type 0
IsOfKind kind.Int bytes = IsNumeral bytes
IsOfKind kind.Str bytes = IsString bytes
IsOfKind _ bytes = Unit {0}

-- the token is a piece of the text, its bytes are text again, and they are such as its kind has
pub record IsCut (text : List ℕ) (token : Token) : Type 0 where
  pub lies : Lies text token
  pub is_text : IsUtf8 (slice_of text token)
  pub of_kind : IsOfKind token.kind (slice_of text token)
