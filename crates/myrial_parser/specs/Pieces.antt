-- Scripts: their pieces, and what is wrong with one.
--
--   pieces_of tokens                      what stands between the semicolons, and behind the last one if anything does
--   IsStatement text piece s              the piece is ended by a semicolon and reads as the statement
--   HasFault text number piece fault      the piece with this number has this fault, among others perhaps
--   rank fault                            the place of a fault among those of a piece: the one with the least is told
--   IsFaulty text number piece fault      the piece has this fault, and none that is told before it
--   IsRead text number piece s            the piece is that statement, and has no fault
--   IsScript text tokens script           each piece of the text with these tokens is read as one of the statements, in order
--   told number fault                     the answer that tells a fault of the piece with this number
--   IsFirstFault text tokens number fault the piece with this number has this fault, and the pieces before it are read
use Rattle.std.specs.Prelude.{◌≡◌, ℕ, ◌+◌, ◌<◌, Bool, true, false, nat_lt, if◌then◌else◌, List, [], ◌∷◌, ◌++◌, length, take, count_by}
use Rattle.std.specs.List.{slice_split}
use Rattle.rel_base.specs.Limits.{most_columns, most_items, most_nesting, most_pieces, most_tokens}
use Rattle.myrial_ast.specs.Trees as tree
use Rattle.myrial_ast.specs.Trees.{RelTree, StatementTree}
use Rattle.myrial_ast.specs.declared.relations.Operand.{Operand}
use Rattle.myrial_ast.specs.declared.relations.Operand.TheVariants as operand
use Rattle.myrial_ast.specs.Operands.{operands_of}
use Rattle.myrial_lexer.specs.declared.kinds.Token.{Token}
use Rattle.myrial_lexer.specs.declared.kinds.TokenKind.{TokenKind}
use Rattle.myrial_lexer.specs.declared.kinds.TokenKind.TheVariants as kind
use Rattle.myrial_lexer.specs.declared.kinds.Sign.TheVariants as sign
use Rattle.myrial_parser.specs.declared.faults.ParseFault.{ParseFault}
use Rattle.myrial_parser.specs.declared.faults.ParseFault.TheVariants as answer
use Rattle.myrial_parser.specs.declared.faults.What.{What}
use Rattle.myrial_parser.specs.declared.faults.What.TheVariants.{Statements, Tokens, Nesting, FromItems, Columns}
use Rattle.myrial_parser.specs.Terminals.{terminals_of}
use Rattle.myrial_parser.specs.Grammar.{Reads}

-- ---- pieces

abbrev pub is_semicolon : TokenKind → Bool
is_semicolon (kind.Sign sign.Semicolon) = true
is_semicolon _ = false

abbrev pub is_open : TokenKind → Bool
is_open (kind.Sign sign.OpenParen) = true
is_open _ = false

abbrev pub is_close : TokenKind → Bool
is_close (kind.Sign sign.CloseParen) = true
is_close _ = false

-- the lists of tokens between semicolons, in front of the first one and behind the last one
abbrev pub parts_of : List Token → List (List Token)
parts_of tokens = slice_split (λ token. is_semicolon token.kind) tokens

-- a piece: its tokens, and whether a semicolon stands behind them
pub record Piece : Type 0 where
  pub tokens : List Token
  pub ended : Bool

-- what stands behind the last semicolon is a piece only where it has tokens
abbrev pub last_piece : List Token → List Piece
last_piece [] = []
last_piece (token ∷ tokens) = record { tokens = token ∷ tokens; ended = false } ∷ []

-- all parts but the last one are ended
abbrev pub pieces_of_parts : List (List Token) → List Piece
pieces_of_parts [] = []
pieces_of_parts (last ∷ []) = last_piece last
pieces_of_parts (part ∷ next ∷ parts) =
    record { tokens = part; ended = true } ∷ pieces_of_parts (next ∷ parts)

-- the pieces of a script
abbrev pub pieces_of : List Token → List Piece
pieces_of tokens = pieces_of_parts (parts_of tokens)

-- ---- what is wrong with a piece

-- at some place too many parentheses are open
abbrev pub NestsTooDeep : List Token → Type 0
NestsTooDeep tokens = (n : ℕ)
    × (count_by (λ t. is_close t.kind) (take n tokens) + most_nesting
    < count_by (λ t. is_open t.kind) (take n tokens))

-- how many items a statement's comprehension has
abbrev pub items_of : StatementTree → ℕ
items_of (tree.Assign n (tree.From items condition emits)) = length items
items_of _ = 0

-- how many emit items, or columns of `empty`, a relation expression is written with
abbrev pub own_columns : RelTree → ℕ
own_columns (tree.From items condition emits) = length emits
own_columns (tree.Empty columns) = length columns
own_columns _ = 0

-- how many columns a load is written with
abbrev pub loaded_columns : Operand → ℕ
loaded_columns (operand.Load file schema skip) = length schema
loaded_columns _ = 0

-- the greatest of a number and those of some operands
abbrev pub widest : ℕ → List Operand → ℕ
widest most [] = most
widest most (o ∷ os) = widest (if nat_lt most (loaded_columns o) then loaded_columns o else most) os

-- the most columns that a statement writes in one place: emit items, columns of `empty`, or of a `schema`
abbrev pub columns_of : StatementTree → ℕ
columns_of (tree.Assign n r) = widest (own_columns r) (operands_of r)
columns_of _ = 0

-- the piece is ended by a semicolon and reads as the statement
pub record IsStatement (text : List ℕ) (piece : Piece) (s : StatementTree) : Type 0 where
  pub ended : piece.ended ≡ true
  pub reads : Reads (terminals_of text piece.tokens) s

-- it isn't in the grammar, or it has too many of something
pub data PieceFault : Type 0 where
  Syntax : PieceFault
  TooMany : (what : What) → PieceFault

-- what is wrong with a piece that has this number, each fault by itself
module _ (text : List ℕ) (number : ℕ) (piece : Piece) where
  pub data HasFault : PieceFault → Type 0 where
    too_many_statements : most_pieces < number → HasFault (TooMany Statements)
    too_many_tokens : most_tokens < length piece.tokens → HasFault (TooMany Tokens)
    nests_too_deep : NestsTooDeep piece.tokens → HasFault (TooMany Nesting)
    no_statement : ((s : StatementTree) → IsStatement text piece s → ⊥) → HasFault Syntax
    too_many_items : (s : StatementTree) → IsStatement text piece s → most_items < items_of s
        → HasFault (TooMany FromItems)
    too_many_columns : (s : StatementTree) → IsStatement text piece s → most_columns < columns_of s
        → HasFault (TooMany Columns)

-- the place of a fault among those of a piece
abbrev pub rank : PieceFault → ℕ
rank (TooMany Statements) = 0
rank (TooMany Tokens) = 1
rank (TooMany Nesting) = 2
rank Syntax = 3
rank (TooMany FromItems) = 4
rank (TooMany Columns) = 5

-- the piece has this fault, and none of a lower rank
pub record IsFaulty (text : List ℕ) (number : ℕ) (piece : Piece) (fault : PieceFault) : Type 0 where
  pub has : HasFault text number piece fault
  pub first : (other : PieceFault) → rank other < rank fault → HasFault text number piece other → ⊥

-- the piece is that statement, and has no fault
pub record IsRead (text : List ℕ) (number : ℕ) (piece : Piece) (s : StatementTree) : Type 0 where
  pub is : IsStatement text piece s
  pub sound : (fault : PieceFault) → HasFault text number piece fault → ⊥

-- ---- scripts

-- pieces, numbered on from a number, that are read as these statements
module _ (text : List ℕ) where
  pub data AreRead : ℕ → List Piece → List StatementTree → Type 0 where
    no_piece : (number : ℕ) → AreRead number [] []
    a_piece : (number : ℕ) (piece : Piece) (s : StatementTree) (pieces : List Piece)
        (script : List StatementTree)
        → IsRead text number piece s → AreRead (number + 1) pieces script
        → AreRead number (piece ∷ pieces) (s ∷ script)

-- each piece of the text with these tokens is read as one of the statements, in order
abbrev pub IsScript : List ℕ → List Token → List StatementTree → Type 0
IsScript text tokens script = AreRead text 1 (pieces_of tokens) script

-- the answer that tells a fault of the piece with this number
abbrev pub told : ℕ → PieceFault → ParseFault
told number Syntax = answer.Syntax number
told number (TooMany what) = answer.TooMany number what

-- the pieces before the one with this number are read, and that one has this fault
pub record IsFirstFault (text : List ℕ) (tokens : List Token) (number : ℕ) (fault : PieceFault) : Type 0 where
  pub before : List Piece
  pub piece : Piece
  pub behind : List Piece
  pub are : pieces_of tokens ≡ before ++ piece ∷ behind
  pub numbered : number ≡ length before + 1
  pub script : List StatementTree
  pub read : AreRead text 1 before script
  pub faulty : IsFaulty text number piece fault
