-- Terminals: what the grammar reads, a token each.
--
--   Terminal                 a name, a number, a string, or a reserved word or sign
--   reserved_words           the reserved words
--   reserved word            the reserved word that a word is, in any case
--   terminal_of text token   the terminal of a token of a text
--   terminals_of text tokens the terminals of the tokens, in order
use Rattle.std.specs.Prelude.{ℕ, ◌<◌, ◌^◌, if◌then◌else◌, List, [], ◌∷◌, map, Option, Some, None, codes}
use Rattle.std.specs.Str.{str_eq_ignore_ascii_case}
use Rattle.std.specs.Str.Parse.{digits_value}
use Rattle.myrial_lexer.specs.declared.kinds.Token.{Token}
use Rattle.myrial_lexer.specs.declared.kinds.TokenKind.{TokenKind}
use Rattle.myrial_lexer.specs.declared.kinds.TokenKind.TheVariants as kind
use Rattle.myrial_lexer.specs.Slices.{unquoted}
use Rattle.myrial_lexer.specs.Tokens.{slice_of}
use Rattle.myrial_parser.specs.declared.terminals.Keyword.{Keyword}
use Rattle.myrial_parser.specs.declared.terminals.Keyword.TheVariants as keyword
use Rattle.myrial_parser.specs.declared.terminals.Symbol.{Symbol}
use Rattle.myrial_parser.specs.declared.terminals.Symbol.TheVariants as symbol
use Rattle.myrial_parser.specs.declared.terminals.Terminal.{Terminal as Shown}
use Rattle.myrial_parser.specs.declared.terminals.Terminal.TheVariants as shown

-- a word that isn't reserved, a number, what stands between the quotes of a string, and a reserved word or a sign
pub data Terminal : Type 0 where
  Name : (text : List ℕ) → Terminal
  Number : (value : ℕ) → Terminal
  Quoted : (text : List ℕ) → Terminal
  Fixed : (symbol : Symbol) → Terminal

-- what contracts see of a terminal
abbrev pub seen : Shown → Terminal
seen (shown.Name text) = Name text.now
seen (shown.Number value) = Number value
seen (shown.Quoted text) = Quoted text.now
seen (shown.Fixed s) = Fixed s

-- the reserved words, which stand in any case
abbrev pub reserved_words : List (List ℕ × Keyword)
reserved_words =
    (codes "from", keyword.From) ∷ (codes "where", keyword.Where) ∷ (codes "emit", keyword.Emit)
    ∷ (codes "as", keyword.As) ∷ (codes "and", keyword.And)
    ∷ (codes "or", keyword.Or) ∷ (codes "not", keyword.Not) ∷ (codes "true", keyword.True)
    ∷ (codes "false", keyword.False) ∷ (codes "scan", keyword.Scan)
    ∷ (codes "store", keyword.Store) ∷ (codes "empty", keyword.Empty)
    ∷ (codes "distinct", keyword.Distinct) ∷ (codes "unionall", keyword.UnionAll)
    ∷ (codes "diff", keyword.Diff)
    ∷ (codes "count", keyword.Count) ∷ (codes "countall", keyword.CountAll)
    ∷ (codes "sum", keyword.Sum) ∷ (codes "min", keyword.Min) ∷ (codes "max", keyword.Max) ∷ []

-- the reserved word of a table that a word is, in any case
abbrev pub lookup : List (List ℕ × Keyword) → List ℕ → Option Keyword
lookup [] word = None
lookup (row ∷ rows) word =
    if str_eq_ignore_ascii_case word row.0 then Some row.1 else lookup rows word

-- the reserved word that a word is, in any case
unfoldable pub reserved : List ℕ → Option Keyword
reserved word = lookup reserved_words word

-- the terminal of a word, reserved or not
abbrev pub word_terminal : List ℕ → Option Keyword → Terminal
word_terminal word (Some found) = Fixed (symbol.Keyword found)
word_terminal word None = Name word

-- the terminal of a token by its kind and its bytes
abbrev pub terminal_by : TokenKind → List ℕ → Terminal
terminal_by kind.Word bytes = word_terminal bytes (reserved bytes)
terminal_by kind.Int bytes = Number (digits_value 10 bytes)
terminal_by kind.Str bytes = Quoted (unquoted bytes)
terminal_by (kind.Sign sign) bytes = Fixed (symbol.Sign sign)

-- the terminal of a token of a text
abbrev pub terminal_of : List ℕ → Token → Terminal
terminal_of text token = terminal_by token.kind (slice_of text token)

-- the terminals of the tokens, in order
abbrev pub terminals_of : List ℕ → List Token → List Terminal
terminals_of text tokens = map (terminal_of text) tokens

-- a number is below 2 ^ 63
abbrev pub IsSmall : Terminal → Type 0
IsSmall (Number value) = value < 2 ^ 63
IsSmall _ = Unit {0}
