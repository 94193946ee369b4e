-- The first fault of a piece, in the order in which faults are looked for.
use Rattle.std.proofs.Common.{◌≡◌, ℕ, ◌<◌, ◌≤◌, Bool, true, false, List, length, refl, sym, ap, subst, ◌∙◌, arith}
use Rattle.std.specs.Prelude.{nat_le}
use Rattle.std.proofs.lemmas.Bool.Decides.{nat_tests}
use Rattle.myrial_ast.specs.Trees.{StatementTree}
use Rattle.myrial_parser.specs.declared.faults.ParseFault.{ParseFault}
use Rattle.myrial_parser.specs.declared.faults.What.TheVariants.{Statements, Tokens, Nesting, FromItems, Columns}
use Rattle.myrial_parser.specs.Terminals.{Terminal}
use Rattle.myrial_parser.specs.Grammar.{Reads}
use Rattle.myrial_parser.specs.Pieces.{Piece, NestsTooDeep, items_of, columns_of, IsStatement, PieceFault, Syntax, TooMany, HasFault, too_many_statements, too_many_tokens, nests_too_deep, no_statement, too_many_items, too_many_columns, rank, IsFaulty, IsRead, told}

-- ---- the answer that tells a fault

pub told-same : (number n : ℕ) (fault other : PieceFault) → told number fault ≡ told n other → (n ≡ number) × (other ≡ fault)
told-same number n Syntax Syntax e = (cc, cc)
told-same number n Syntax (TooMany what) e = cc
told-same number n (TooMany what) Syntax e = cc
told-same number n (TooMany what) (TooMany other) e = (cc, cc)

-- terminals read as at most one statement
abbrev pub OneStatement : Type 0
OneStatement = (ts : List Terminal) (a b : StatementTree) → Reads ts a → Reads ts b → a ≡ b

module _ (text : List ℕ) (number : ℕ) (piece : Piece) where
  -- the fault that an answer tells is the piece's
  pub told-IsFaulty : (made : ParseFault) (fault : PieceFault) → made ≡ told number fault → IsFaulty text number piece fault
      → (n : ℕ) (other : PieceFault) → made ≡ told n other → (n ≡ number) × IsFaulty text number piece other
  told-IsFaulty made fault is faulty n other e =
      let same = told-same number n fault other (sym is ∙ e) in
      (same.0, subst (IsFaulty text number piece) (sym same.1) faulty)

  -- ---- before a piece is read

  many_statements : HasFault text number piece (TooMany Statements) → 256 < number
  many_statements (too_many_statements h) = h

  many_tokens : HasFault text number piece (TooMany Tokens) → 1024 < length piece.tokens
  many_tokens (too_many_tokens h) = h

  pub statements-IsFaulty : 256 < number → IsFaulty text number piece (TooMany Statements)
  statements-IsFaulty h = record { has = too_many_statements h; first = λ other below has. absurd (omega arith) }

  pub tokens-IsFaulty : number ≤ 256 → 1024 < length piece.tokens → IsFaulty text number piece (TooMany Tokens)
  tokens-IsFaulty low h = record { has = too_many_tokens h; first = by }
    where
      by : (other : PieceFault) → rank other < rank (TooMany Tokens) → HasFault text number piece other → ⊥
      by (TooMany Statements) below has = let high = many_statements has in absurd (omega arith)
      by (TooMany Tokens) below has = absurd (omega arith)
      by (TooMany Nesting) below has = absurd (omega arith)
      by Syntax below has = absurd (omega arith)
      by (TooMany FromItems) below has = absurd (omega arith)
      by (TooMany Columns) below has = absurd (omega arith)

  pub nesting-IsFaulty : number ≤ 256 → length piece.tokens ≤ 1024 → NestsTooDeep piece.tokens → IsFaulty text number piece (TooMany Nesting)
  nesting-IsFaulty low short h = record { has = nests_too_deep h; first = by }
    where
      by : (other : PieceFault) → rank other < rank (TooMany Nesting) → HasFault text number piece other → ⊥
      by (TooMany Statements) below has = let high = many_statements has in absurd (omega arith)
      by (TooMany Tokens) below has = let high = many_tokens has in absurd (omega arith)
      by (TooMany Nesting) below has = absurd (omega arith)
      by Syntax below has = absurd (omega arith)
      by (TooMany FromItems) below has = absurd (omega arith)
      by (TooMany Columns) below has = absurd (omega arith)

  -- ---- where none of the faults before the grammar's is there

  abbrev pub IsShort : Type 0
  IsShort = (fault : PieceFault) → rank fault < rank Syntax → HasFault text number piece fault → ⊥

  pub short-length : IsShort → length piece.tokens ≤ 1024
  short-length short = by (nat_le (length piece.tokens) 1024) refl
    where
      by : (t : Bool) → nat_le (length piece.tokens) 1024 ≡ t → length piece.tokens ≤ 1024
      by true e = grind (arith, nat_tests)
      by false e = let past : 1024 < length piece.tokens = grind (arith, nat_tests) in absurd (short (TooMany Tokens) (omega arith) (too_many_tokens past))

  pub syntax-IsFaulty : IsShort → ((s : StatementTree) → IsStatement text piece s → ⊥) → IsFaulty text number piece Syntax
  syntax-IsFaulty short unread = record { has = no_statement unread; first = short }

  module _ (one : OneStatement) (s : StatementTree) (is : IsStatement text piece s) (short : IsShort) where
    not_syntax : HasFault text number piece Syntax → ⊥
    not_syntax (no_statement h) = h s is

    few_items : items_of s ≤ 8 → HasFault text number piece (TooMany FromItems) → ⊥
    few_items few (too_many_items t other h) = let same = one _ t s other.reads is.reads in let less = ap items_of same in absurd (omega arith)

    few_columns : columns_of s ≤ 16 → HasFault text number piece (TooMany Columns) → ⊥
    few_columns few (too_many_columns t other h) = let same = one _ t s other.reads is.reads in let less = ap columns_of same in absurd (omega arith)

    pub items-IsFaulty : 8 < items_of s → IsFaulty text number piece (TooMany FromItems)
    items-IsFaulty h = record { has = too_many_items s is h; first = by }
      where
        by : (other : PieceFault) → rank other < rank (TooMany FromItems) → HasFault text number piece other → ⊥
        by (TooMany Statements) below has = short (TooMany Statements) (omega arith) has
        by (TooMany Tokens) below has = short (TooMany Tokens) (omega arith) has
        by (TooMany Nesting) below has = short (TooMany Nesting) (omega arith) has
        by Syntax below has = not_syntax has
        by (TooMany FromItems) below has = absurd (omega arith)
        by (TooMany Columns) below has = absurd (omega arith)

    pub columns-IsFaulty : items_of s ≤ 8 → 16 < columns_of s → IsFaulty text number piece (TooMany Columns)
    columns-IsFaulty few h = record { has = too_many_columns s is h; first = by }
      where
        by : (other : PieceFault) → rank other < rank (TooMany Columns) → HasFault text number piece other → ⊥
        by (TooMany Statements) below has = short (TooMany Statements) (omega arith) has
        by (TooMany Tokens) below has = short (TooMany Tokens) (omega arith) has
        by (TooMany Nesting) below has = short (TooMany Nesting) (omega arith) has
        by Syntax below has = not_syntax has
        by (TooMany FromItems) below has = few_items few has
        by (TooMany Columns) below has = absurd (omega arith)

    pub sound-IsRead : items_of s ≤ 8 → columns_of s ≤ 16 → IsRead text number piece s
    sound-IsRead few narrow = record { is = is; sound = by }
      where
        by : (fault : PieceFault) → HasFault text number piece fault → ⊥
        by (TooMany Statements) has = short (TooMany Statements) (omega arith) has
        by (TooMany Tokens) has = short (TooMany Tokens) (omega arith) has
        by (TooMany Nesting) has = short (TooMany Nesting) (omega arith) has
        by Syntax has = not_syntax has
        by (TooMany FromItems) has = few_items few has
        by (TooMany Columns) has = few_columns narrow has

  -- ---- a piece that is read has one of the numbers that there are

  pub read-number : (s : StatementTree) → IsRead text number piece s → number ≤ 256
  read-number s read = by (nat_le number 256) refl
    where
      by : (t : Bool) → nat_le number 256 ≡ t → number ≤ 256
      by true e = grind (arith, nat_tests)
      by false e = let past : 256 < number = grind (arith, nat_tests) in absurd (read.sound (TooMany Statements) (too_many_statements past))
