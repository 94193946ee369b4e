-- Phrases: relations between terminals and what they read as, made of smaller ones. Lists are split in every way.
--
--   Chain operator Operand      operands with operators between them, grouped from the left
--   Pair operator Operand       an operand, or two with an operator between them
--   Prefixed symbol node Operand an operand behind none or more of a symbol
--   Separated Item              one or more items with commas between them
--   is_word wanted word         whether a word is this one, in any case
--   Called wanted Inside        a word that isn't reserved, and a phrase in parentheses behind it
use Rattle.std.specs.Prelude.{◌≡◌, ℕ, Bool, true, List, [], ◌∷◌, ◌++◌, Option, Some}
use Rattle.std.specs.Str.{str_eq_ignore_ascii_case}
use Rattle.myrial_ast.specs.declared.operators.BinOp.{BinOp}
use Rattle.myrial_ast.specs.Trees.{Tree, Bin}
use Rattle.myrial_parser.specs.declared.terminals.Symbol.{Symbol}
use Rattle.myrial_parser.specs.Symbols.{Comma, OpenParen, CloseParen}
use Rattle.myrial_parser.specs.Terminals.{Terminal, Name, Fixed}

-- a relation between terminals and what they read as
abbrev pub Phrase : Type 0 → Type 1
Phrase A = List Terminal → A → Type 0

module _ (operator : Terminal → Option BinOp) (Operand : List Terminal → Tree → Type 0) where
  -- operands with operators between them, grouped from the left
  pub data Chain : List Terminal → Tree → Type 0 where
    alone : (ts : List Terminal) (a : Tree) → Operand ts a → Chain ts a
    joined : (ts us : List Terminal) (x : Terminal) (op : BinOp) (a b : Tree) → Chain ts a
        → operator x ≡ Some op → Operand us b → Chain (ts ++ x ∷ us) (Bin op a b)

  -- an operand, or two with an operator between them
  pub data Pair : List Terminal → Tree → Type 0 where
    single : (ts : List Terminal) (a : Tree) → Operand ts a → Pair ts a
    compared : (ts us : List Terminal) (x : Terminal) (op : BinOp) (a b : Tree) → Operand ts a
        → operator x ≡ Some op → Operand us b → Pair (ts ++ x ∷ us) (Bin op a b)

module _ (symbol : Symbol) (node : Tree → Tree) (Operand : List Terminal → Tree → Type 0) where
  -- an operand behind none or more of a symbol, each of which has a node
  pub data Prefixed : List Terminal → Tree → Type 0 where
    plain : (ts : List Terminal) (a : Tree) → Operand ts a → Prefixed ts a
    behind : (ts : List Terminal) (a : Tree) → Prefixed ts a → Prefixed (Fixed symbol ∷ ts) (node a)

module _ {A : Type 0} (Item : List Terminal → A → Type 0) where
  -- one or more items with commas between them
  pub data Separated : List Terminal → List A → Type 0 where
    last : (ts : List Terminal) (a : A) → Item ts a → Separated ts (a ∷ [])
    more : (ts us : List Terminal) (a : A) (others : List A) → Item ts a → Separated us others
        → Separated (ts ++ Fixed Comma ∷ us) (a ∷ others)

-- whether a word is this one, in any case
abbrev pub is_word : List ℕ → List ℕ → Bool
is_word wanted word = str_eq_ignore_ascii_case word wanted

module _ {A : Type 0} (wanted : List ℕ) (Inside : List Terminal → A → Type 0) where
  -- a word that isn't reserved, and a phrase in parentheses behind it
  pub data Called : List Terminal → A → Type 0 where
    called : (word : List ℕ) (ts : List Terminal) (a : A) → is_word wanted word ≡ true → Inside ts a
        → Called (Name word ∷ Fixed OpenParen ∷ ts ++ Fixed CloseParen ∷ []) a
