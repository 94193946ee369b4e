-- The token rules.
--
--   front_of text              what stands at the front of a text: a blank or comment, a token, or a fault
--   tokens_of text             the tokens of a text in order, or its first fault
--   line_at text place         the number of the line on which a place of the text lies, from 1
--   slice_of text token        the bytes of a token
--   AreTokensOf text tokens    the text is UTF-8, and the tokens are its
--   HasFault text line what    the text is UTF-8, and its first fault is of that kind and on that line
use Rattle.std.specs.Prelude.{◌≡◌, ℕ, zero, suc, ◌+◌, ◌-◌, Bool, not, ◌&&◌, ◌||◌, if◌then◌else◌, ◌==◌, pos, List, [], ◌∷◌, length, take, drop, count_by, slice_index, Option, Some, None, Result, Ok, Err, codes, nat_eq}
use Rattle.std.specs.Char.{is_ascii_digit, is_ascii_alphabetic}
use Rattle.std.specs.List.{prefix_len, find, starts_with}
use Rattle.std.specs.Str.{IsUtf8}
use Rattle.std.specs.Str.Parse.{digits_value}
use Rattle.rel_base.specs.Values.{in_64_bits}
use Rattle.myrial_lexer.specs.declared.faults.LexWhat.{LexWhat}
use Rattle.myrial_lexer.specs.declared.faults.LexWhat.TheVariants.{BadChar, OpenString, NumberTooLarge}
use Rattle.myrial_lexer.specs.declared.front.Front.{Front}
use Rattle.myrial_lexer.specs.declared.front.Front.TheVariants.{Gap, Piece, Fault}
use Rattle.myrial_lexer.specs.declared.front.Run.{Run}
use Rattle.myrial_lexer.specs.declared.front.Run.TheVariants as run
use Rattle.myrial_lexer.specs.declared.kinds.Token.{Token}
use Rattle.myrial_lexer.specs.declared.kinds.TokenKind.TheVariants as kind
use Rattle.myrial_lexer.specs.declared.kinds.Sign.{Sign}
use Rattle.myrial_lexer.specs.declared.kinds.Sign.TheVariants.{Eq, Ne, Le, Lt, Ge, Gt, Plus, Minus, Star, OpenParen, CloseParen, OpenBracket, CloseBracket, Comma, Dot, Colon, Semicolon, Dollar}

-- a space, a tab, a carriage return or a line feed
abbrev pub is_blank : ℕ → Bool
is_blank b = b == 32 || b == 9 || b == 13 || b == 10

-- a letter or `_`
abbrev pub is_letter : ℕ → Bool
is_letter b = is_ascii_alphabetic b || b == 95

-- `"` or `'`
abbrev pub is_quote : ℕ → Bool
is_quote b = b == 34 || b == 39

-- whether a byte goes on a word, a number, a line, or a string between two such quotes
abbrev pub goes_on : Run → ℕ → Bool
goes_on run.Word b = is_letter b || is_ascii_digit b
goes_on run.Digits b = is_ascii_digit b
goes_on run.Line b = not (b == 10)
goes_on (run.Inside quote) b = not (b == quote || b == 10)

-- how many bytes at the front of a text go on so
abbrev pub run_len : Run → List ℕ → ℕ
run_len r text = prefix_len (goes_on r) text

-- as many digits as follow, where their value lies in 64 bits with a sign
abbrev pub number : List ℕ → Front
number text =
    let len = run_len run.Digits text in
    if in_64_bits (pos (digits_value 10 (take len text))) then Piece kind.Int len
    else Fault NumberTooLarge

-- from a quote up to the same quote on the same line
abbrev pub string : List ℕ → Front
string text =
    let quote = slice_index text 0 in
    let len = run_len (run.Inside quote) (drop 1 text) in
    if slice_index text (len + 1) == quote then Piece kind.Str (len + 2) else Fault OpenString

-- the signs: a sign that begins with another one stands before it
abbrev pub signs : List (List ℕ × Sign)
signs =
    (codes "==", Eq) ∷ (codes "=", Eq) ∷ (codes "!=", Ne) ∷ (codes "<>", Ne) ∷ (codes "<=", Le)
    ∷ (codes "<", Lt)
    ∷ (codes ">=", Ge) ∷ (codes ">", Gt) ∷ (codes "+", Plus) ∷ (codes "-", Minus)
    ∷ (codes "*", Star)
    ∷ (codes "(", OpenParen) ∷ (codes ")", CloseParen) ∷ (codes "[", OpenBracket)
    ∷ (codes "]", CloseBracket)
    ∷ (codes ",", Comma) ∷ (codes ".", Dot) ∷ (codes ":", Colon) ∷ (codes ";", Semicolon)
    ∷ (codes "$", Dollar) ∷ []

-- the sign as a piece of a text
abbrev pub piece_of : Option (List ℕ × Sign) → Front
piece_of (Some sign) = Piece (kind.Sign sign.1) (length sign.0)
piece_of None = Fault BadChar

-- the longest sign with which two bytes begin
abbrev pub sign : ℕ → ℕ → Front
sign b c = piece_of (find (λ s. starts_with nat_eq (b ∷ c ∷ []) s.0) signs)

-- what stands at the front of a text that isn't empty, by its first byte, and for a comment by the first two
abbrev pub front_of : List ℕ → Front
front_of text =
    let b = slice_index text 0 in
    if is_blank b then Gap 1
    else (if b == 45 && slice_index text 1 == 45 then Gap (run_len run.Line text)
    else (if is_letter b then Piece kind.Word (run_len run.Word text)
    else (if is_ascii_digit b then number text
    else (if is_quote b then string text
    else sign b (slice_index text 1)))))

-- a fault and the place where it stands
abbrev pub Break : Type 0
Break = ℕ × LexWhat

-- a token before those of the text behind it
abbrev pub with_first : Token → Result (List Token) Break → Result (List Token) Break
with_first token (Ok tokens) = Ok (token ∷ tokens)
with_first token (Err fault) = Err fault

-- what the front at a place gives, and then the text behind its bytes
abbrev pub cut : ℕ → Front → (ℕ → Result (List Token) Break) → Result (List Token) Break
cut place (Gap size) behind = behind size
cut place (Piece k size) behind =
    with_first (record { kind = k; start = place; end = place + size }) (behind size)
cut place (Fault what) behind = Err (place, what)

-- the tokens of a text that begins at a place, and whose first bytes, so many, belong to what stands before
abbrev pub tokens_from : ℕ → ℕ → List ℕ → Result (List Token) Break
tokens_from place passed [] = Ok []
tokens_from place (suc passed) (b ∷ text) = tokens_from (place + 1) passed text
tokens_from place zero (b ∷ text) =
    cut place (front_of (b ∷ text)) (λ size. tokens_from (place + 1) (size - 1) text)

-- the tokens of a text in order, or its first fault
abbrev pub tokens_of : List ℕ → Result (List Token) Break
tokens_of text = tokens_from 0 0 text

-- one more than the number of line feeds in front of the place
abbrev pub line_at : List ℕ → ℕ → ℕ
line_at text place = 1 + count_by (λ b. b == 10) (take place text)

-- the bytes of a token
abbrev pub slice_of : List ℕ → Token → List ℕ
slice_of text token = take (token.end - token.start) (drop token.start text)

-- the text is UTF-8, and the tokens are its
pub record AreTokensOf (text : List ℕ) (tokens : List Token) : Type 0 where
  pub is_text : IsUtf8 text
  pub are : tokens_of text ≡ Ok tokens

-- the text is UTF-8, and its first fault is of that kind and on that line
pub record HasFault (text : List ℕ) (line : ℕ) (what : LexWhat) : Type 0 where
  pub is_text : IsUtf8 text
  pub place : ℕ
  pub first : tokens_of text ≡ Err (place, what)
  pub on_line : line ≡ line_at text place
