-- Expressions: what the descent reads is an expression, and each expression is read.
use Rattle.std.proofs.Common.{◌≡◌, ℕ, Bool, true, false, cond, List, [], ◌∷◌, ◌++◌, drop, length, Some, None, refl, sym, ap, ◌∙◌, length-append, arith}
use Rattle.myrial_ast.specs.declared.operators.AggOp.{AggOp}
use Rattle.myrial_ast.specs.declared.operators.AggOp.TheVariants as agg
use Rattle.myrial_ast.specs.declared.expressions.ColRef.{ColRef}
use Rattle.myrial_ast.specs.declared.expressions.ColRef.TheVariants as column
use Rattle.myrial_ast.specs.Trees as tree
use Rattle.myrial_ast.specs.Trees.{Tree}
use Rattle.myrial_lexer.specs.declared.kinds.Sign.TheVariants as sign
use Rattle.myrial_parser.specs.declared.terminals.Keyword.{Keyword}
use Rattle.myrial_parser.specs.declared.terminals.Keyword.TheVariants as keyword
use Rattle.myrial_parser.specs.declared.terminals.Symbol.{Symbol}
use Rattle.myrial_parser.specs.declared.terminals.Symbol.TheVariants.{Keyword as Word, Sign}
use Rattle.myrial_parser.specs.Symbols as s
use Rattle.myrial_parser.specs.Terminals.{Terminal, Fixed, Name, Number, Quoted}
use Rattle.myrial_parser.specs.Grammar as g
use Rattle.myrial_parser.specs.Grammar.{IsColumn, plain_name, plain_place, alias_name, alias_place, IsAggregated, Primary, Signed, aggregate_of, is_number}
use Rattle.myrial_parser.specs.inner.Descent as d
use Rattle.myrial_parser.specs.inner.Descent.{Input, first, Parsed, Parser, ◌>>=◌, is_symbol, sees, name, number, column_of, column_behind, in_parens, aggregated, fixed_by, same_symbol}
use Rattle.myrial_parser.proofs.ParserLemmas.{Reading, Sound, Complete, stops, steps, same_rest, finish, sees-is, name-is, number-is, is_symbol-same, IsClosed, closed, closed-reads, closed-all, in_parens-sound, in_parens-all, word-reads}

-- ---- columns

-- behind a first name stands the rest of a column
column_of-reads : (alias : List ℕ) (i : Input) (c : ColRef) (rest : Input) → column_of alias i ≡ Some (c, rest) → Reading (λ ts c. IsColumn (Name alias ∷ Fixed s.Dot ∷ ts) c) i c rest
column_of-reads alias i c rest e = by (sees s.Dollar i) refl e
  where
    by : (t : Bool) → sees s.Dollar i ≡ t
        → cond t (number (drop 1 i) >>= λ place rest. Some (column.OfPlace alias place, rest)) (name i >>= λ n rest. Some (column.OfName alias n, rest)) ≡ Some (c, rest)
        → Reading (λ ts c. IsColumn (Name alias ∷ Fixed s.Dot ∷ ts) c) i c rest
    by true is e =
        let two = steps (number (drop 1 i)) (λ place rest. Some (column.OfPlace alias place, rest)) c rest e in
        let split = sees-is s.Dollar i is ∙ ap (λ (ts : Input). Fixed s.Dollar ∷ ts) (number-is (drop 1 i) two.value two.middle two.start) in
        finish (λ ts c. IsColumn (Name alias ∷ Fixed s.Dot ∷ ts) c) i (Fixed s.Dollar ∷ Number two.value ∷ []) two.middle _ c rest split (alias_place alias two.value) two.end
    by false is e =
        let two = steps (name i) (λ n rest. Some (column.OfName alias n, rest)) c rest e in
        finish (λ ts c. IsColumn (Name alias ∷ Fixed s.Dot ∷ ts) c) i (Name two.value ∷ []) two.middle _ c rest (name-is i two.value two.middle two.start) (alias_name alias two.value) two.end

column_behind-reads : (n : List ℕ) (i : Input) (c : ColRef) (rest : Input) → column_behind n i ≡ Some (c, rest) → Reading (λ ts c. IsColumn (Name n ∷ ts) c) i c rest
column_behind-reads n i c rest e = by (sees s.Dot i) refl e
  where
    by : (t : Bool) → sees s.Dot i ≡ t → cond t (column_of n (drop 1 i)) (Some (column.ByName n, i)) ≡ Some (c, rest) → Reading (λ ts c. IsColumn (Name n ∷ ts) c) i c rest
    by true is e =
        let r = column_of-reads n (drop 1 i) c rest e in
        record { front = Fixed s.Dot ∷ r.front; split = sees-is s.Dot i is ∙ ap (λ (ts : Input). Fixed s.Dot ∷ ts) r.split; is = r.is }
    by false is e = finish (λ ts c. IsColumn (Name n ∷ ts) c) i [] i _ c rest refl (plain_name n) e

abbrev pub is_dot : Terminal → Bool
is_dot x = is_symbol s.Dot (Some x)

column_behind-all : (ts : Input) (n : List ℕ) (c : ColRef) (rest : Input) → IsColumn (Name n ∷ ts) c → stops is_dot rest ≡ true → column_behind n (ts ++ rest) ≡ Some (c, rest)
unfolding same_symbol
column_behind-all _ _ _ rest (plain_name n) st = by rest st
  where
    by : (rest : Input) → stops is_dot rest ≡ true → column_behind n rest ≡ Some (column.ByName n, rest)
    by [] st = refl
    by (x ∷ rest) st = on (is_dot x) st
      where
        on : (t : Bool) → cond t false true ≡ true → cond t (column_of n rest) (Some (column.ByName n, x ∷ rest)) ≡ Some (column.ByName n, x ∷ rest)
        on true e = absurd (cc)
        on false e = refl
column_behind-all _ _ _ rest (alias_name n m) st = refl
column_behind-all _ _ _ rest (alias_place n p) st = refl

-- ---- primaries

module _ (inner : Parser Tree) (Inner : Input → Tree → Type 0) (sound : Sound inner Inner) where
  of_argument-reads : (word : Keyword) (op : AggOp) → aggregate_of word ≡ Some op → (i : Input) (a : Tree) (rest : Input) → d.aggregate inner op i ≡ Some (a, rest) → Reading (IsAggregated Inner word) i a rest
  of_argument-reads word op is i a rest e =
      let two = steps (inner i) (λ a rest. Some (tree.Agg op a, rest)) a rest e in
      let r = sound.reads i two.value two.middle two.start in
      finish (IsAggregated Inner word) i r.front two.middle _ a rest r.split (g.of_argument word op r.front two.value is r.is) two.end

  count-reads : (i : Input) (a : Tree) (rest : Input) (t : Bool) → sees s.Star i ≡ t → cond t (Some (tree.AggAll agg.CountAll, drop 1 i)) (d.aggregate inner agg.Count i) ≡ Some (a, rest)
      → Reading (IsAggregated Inner keyword.Count) i a rest
  count-reads i a rest true is e = finish (IsAggregated Inner keyword.Count) i (Fixed s.Star ∷ []) (drop 1 i) _ a rest (sees-is s.Star i is) g.of_star e
  count-reads i a rest false is e = of_argument-reads keyword.Count agg.Count refl i a rest e

  aggregated-reads : (word : Keyword) (i : Input) (a : Tree) (rest : Input) → aggregated inner word i ≡ Some (a, rest) → Reading (IsAggregated Inner word) i a rest
  aggregated-reads keyword.CountAll i a rest e = finish (IsAggregated Inner keyword.CountAll) i [] i _ a rest refl g.of_nothing e
  aggregated-reads keyword.Count i a rest e = count-reads i a rest (sees s.Star i) refl e
  aggregated-reads keyword.Sum i a rest e = of_argument-reads keyword.Sum agg.Sum refl i a rest e
  aggregated-reads keyword.Min i a rest e = of_argument-reads keyword.Min agg.Min refl i a rest e
  aggregated-reads keyword.Max i a rest e = of_argument-reads keyword.Max agg.Max refl i a rest e
  aggregated-reads _ i a rest e = absurd (cc)

  call-reads : (word : Keyword) (i : Input) (a : Tree) (rest : Input) → in_parens (aggregated inner word) i ≡ Some (a, rest) → Reading (Primary Inner) (Fixed (Word word) ∷ i) a rest
  call-reads word i a rest e =
      word-reads (Word word) (IsAggregated Inner word) (λ a. a) (Primary Inner) (g.aggregate word) i a rest
      ((in_parens-sound (aggregated inner word) (IsAggregated Inner word) (record { reads = aggregated-reads word })).reads i a rest e)

  grouped-is : (ts : Input) (a : Tree) → IsClosed Inner ts a → Primary Inner (Fixed s.OpenParen ∷ ts) a
  grouped-is _ _ (closed ts a h) = g.grouped ts a h

  fixed-reads : (symbol : Symbol) (i : Input) (a : Tree) (rest : Input) → fixed_by inner symbol i ≡ Some (a, rest) → Reading (Primary Inner) (Fixed symbol ∷ i) a rest
  fixed-reads (Word keyword.True) i a rest e = finish (Primary Inner) (Fixed s.True ∷ i) (Fixed s.True ∷ []) i _ a rest refl g.truth e
  fixed-reads (Word keyword.False) i a rest e = finish (Primary Inner) (Fixed s.False ∷ i) (Fixed s.False ∷ []) i _ a rest refl g.falsehood e
  fixed-reads (Word word) i a rest e = call-reads word i a rest e
  fixed-reads (Sign sign.Dollar) i a rest e =
      let two = steps (number i) (λ place rest. Some (tree.Col (column.ByPlace place), rest)) a rest e in
      let split = ap (λ (ts : Input). Fixed s.Dollar ∷ ts) (number-is i two.value two.middle two.start) in
      finish (Primary Inner) (Fixed s.Dollar ∷ i) (Fixed s.Dollar ∷ Number two.value ∷ []) two.middle _ a rest split (g.reference _ _ (plain_place two.value)) two.end
  fixed-reads (Sign sign.OpenParen) i a rest e =
      let r = closed-reads inner Inner sound i a rest e in
      record { front = Fixed s.OpenParen ∷ r.front; split = ap (λ (ts : Input). Fixed s.OpenParen ∷ ts) r.split; is = grouped-is r.front a r.is }
  fixed-reads (Sign _) i a rest e = absurd (cc)

  primary-reads : (i : Input) (a : Tree) (rest : Input) → d.primary inner i ≡ Some (a, rest) → Reading (Primary Inner) i a rest
  unfolding d.primary
  primary-reads [] a rest e = absurd (cc)
  primary-reads (Number n ∷ i) a rest e = finish (Primary Inner) (Number n ∷ i) (Number n ∷ []) i _ a rest refl (g.number n) e
  primary-reads (Quoted n ∷ i) a rest e = finish (Primary Inner) (Quoted n ∷ i) (Quoted n ∷ []) i _ a rest refl (g.string n) e
  primary-reads (Name n ∷ i) a rest e =
      let two = steps (column_behind n i) (λ c rest. Some (tree.Col c, rest)) a rest e in
      let r = column_behind-reads n i two.value two.middle two.start in
      finish (Primary Inner) (Name n ∷ i) (Name n ∷ r.front) two.middle _ a rest (ap (λ (ts : Input). Name n ∷ ts) r.split) (g.reference _ _ r.is) two.end
  primary-reads (Fixed symbol ∷ i) a rest e = fixed-reads symbol i a rest e

  pub primary-sound : Sound (d.primary inner) (Primary Inner)
  primary-sound = record { reads = primary-reads }

module _ (inner : Parser Tree) (Inner : Input → Tree → Type 0) (goes_on : Terminal → Bool) (complete : Complete inner Inner goes_on)
    (not_closing : goes_on (Fixed s.CloseParen) ≡ false) (no_star : (i : Input) → inner (Fixed s.Star ∷ i) ≡ None) where
  -- no star begins an argument
  no-star : (ts : Input) (a : Tree) (rest : Input) → Inner ts a → stops goes_on rest ≡ true → sees s.Star (ts ++ rest) ≡ false
  no-star ts a rest h st = by (sees s.Star (ts ++ rest)) refl
    where
      by : (t : Bool) → sees s.Star (ts ++ rest) ≡ t → t ≡ false
      by false is = refl
      by true is =
          let none = ap inner (sees-is s.Star (ts ++ rest) is) ∙ no_star _ in
          let some = complete.reads ts a rest h st in
          absurd (cc)

  of_argument-all : (op : AggOp) (ts : Input) (a : Tree) (rest : Input) → Inner ts a → stops goes_on rest ≡ true → d.aggregate inner op (ts ++ rest) ≡ Some (tree.Agg op a, rest)
  of_argument-all op ts a rest h st = ap (λ (o : Parsed Tree). o >>= λ a rest. Some (tree.Agg op a, rest)) (complete.reads ts a rest h st)

  aggregated-all : (word : Keyword) (ts : Input) (a : Tree) (rest : Input) → IsAggregated Inner word ts a → stops goes_on rest ≡ true → aggregated inner word (ts ++ rest) ≡ Some (a, rest)
  unfolding same_symbol
  aggregated-all _ _ _ rest g.of_star st = refl
  aggregated-all _ _ _ rest g.of_nothing st = refl
  aggregated-all _ _ _ rest (g.of_argument keyword.Count op ts a is h) st =
      let same : agg.Count ≡ op = cc in
      ap (λ t. cond t (Some (tree.AggAll agg.CountAll, drop 1 (ts ++ rest))) (d.aggregate inner agg.Count (ts ++ rest))) (no-star ts a rest h st)
      ∙ of_argument-all agg.Count ts a rest h st ∙ ap (λ (o : AggOp). Some (tree.Agg o a, rest)) same
  aggregated-all _ _ _ rest (g.of_argument keyword.Sum op ts a is h) st = let same : agg.Sum ≡ op = cc in of_argument-all agg.Sum ts a rest h st ∙ ap (λ (o : AggOp). Some (tree.Agg o a, rest)) same
  aggregated-all _ _ _ rest (g.of_argument keyword.Min op ts a is h) st = let same : agg.Min ≡ op = cc in of_argument-all agg.Min ts a rest h st ∙ ap (λ (o : AggOp). Some (tree.Agg o a, rest)) same
  aggregated-all _ _ _ rest (g.of_argument keyword.Max op ts a is h) st = let same : agg.Max ≡ op = cc in of_argument-all agg.Max ts a rest h st ∙ ap (λ (o : AggOp). Some (tree.Agg o a, rest)) same
  aggregated-all _ _ _ rest (g.of_argument _ op ts a is h) st = absurd (cc)

  called-all : (word : Keyword) (ts : Input) (a : Tree) (rest : Input) → IsAggregated Inner word ts a → fixed_by inner (Word word) (Fixed s.OpenParen ∷ (ts ++ Fixed s.CloseParen ∷ []) ++ rest) ≡ Some (a, rest)
  called-all word ts a rest h = by word ts a h (in_parens-all (aggregated inner word) (IsAggregated Inner word) goes_on (record { reads = aggregated-all word }) not_closing ts a rest h)
    where
      by : (word : Keyword) (ts : Input) (a : Tree) → IsAggregated Inner word ts a → in_parens (aggregated inner word) (Fixed s.OpenParen ∷ (ts ++ Fixed s.CloseParen ∷ []) ++ rest) ≡ Some (a, rest)
          → fixed_by inner (Word word) (Fixed s.OpenParen ∷ (ts ++ Fixed s.CloseParen ∷ []) ++ rest) ≡ Some (a, rest)
      by keyword.True _ _ (g.of_argument _ op _ _ is k) e = absurd (cc)
      by keyword.False _ _ (g.of_argument _ op _ _ is k) e = absurd (cc)
      by _ _ _ k e = e

  primary-all : (ts : Input) (a : Tree) (rest : Input) → Primary Inner ts a → stops is_dot rest ≡ true → d.primary inner (ts ++ rest) ≡ Some (a, rest)
  unfolding d.primary same_symbol
  primary-all _ _ rest (g.number n) st = refl
  primary-all _ _ rest (g.string n) st = refl
  primary-all _ _ rest g.truth st = refl
  primary-all _ _ rest g.falsehood st = refl
  primary-all _ _ rest (g.reference _ _ (plain_name n)) st = ap (λ (o : Parsed ColRef). o >>= λ c rest. Some (tree.Col c, rest)) (column_behind-all [] n _ rest (plain_name n) st)
  primary-all _ _ rest (g.reference _ _ (plain_place p)) st = refl
  primary-all _ _ rest (g.reference _ _ (alias_name n m)) st = refl
  primary-all _ _ rest (g.reference _ _ (alias_place n p)) st = refl
  primary-all _ _ rest (g.grouped ts a h) st = closed-all inner Inner goes_on complete not_closing ts a rest h
  primary-all _ _ rest (g.aggregate word ts e h) st = called-all word ts e rest h

  pub primary-complete : Complete (d.primary inner) (Primary Inner) is_dot
  primary-complete = record { reads = primary-all }

-- ---- signs

-- a number is ahead
abbrev number_ahead : Input → Bool
number_ahead (Number n ∷ i) = true
number_ahead _ = false

number_ahead-front : (ts rest : Input) → number_ahead (ts ++ rest) ≡ false → is_number ts ≡ false
number_ahead-front [] rest e = refl
number_ahead-front (Number n ∷ []) rest e = e
number_ahead-front (Number n ∷ x ∷ ts) rest e = refl
number_ahead-front (Name n ∷ ts) rest e = refl
number_ahead-front (Quoted n ∷ ts) rest e = refl
number_ahead-front (Fixed n ∷ ts) rest e = refl

module _ (inner : Parser Tree) (Inner : Input → Tree → Type 0) where
  minus-reads : (i : Input) (a : Tree) (rest : Input) → number_ahead i ≡ false → ((b : Tree) (end : Input) → d.signed inner i ≡ Some (b, end) → Reading (Signed Inner) i b end)
      → (d.signed inner i >>= λ a end. Some (tree.Neg a, end)) ≡ Some (a, rest) → Reading (Signed Inner) (Fixed s.Minus ∷ i) a rest
  minus-reads i a rest none further e =
      let two = steps (d.signed inner i) (λ a end. Some (tree.Neg a, end)) a rest e in
      let r = further two.value two.middle two.start in
      let plain_ : is_number r.front ≡ false = number_ahead-front r.front two.middle (ap number_ahead (sym r.split) ∙ none) in
      finish (Signed Inner) (Fixed s.Minus ∷ i) (Fixed s.Minus ∷ r.front) two.middle _ a rest (ap (λ (ts : Input). Fixed s.Minus ∷ ts) r.split) (g.minus r.front two.value r.is plain_) two.end

  behind-reads : (i : Input) (a : Tree) (rest : Input) → ((b : Tree) (end : Input) → d.signed inner i ≡ Some (b, end) → Reading (Signed Inner) i b end)
      → d.behind_minus inner (first i) (drop 1 i) (d.signed inner i) ≡ Some (a, rest) → Reading (Signed Inner) (Fixed s.Minus ∷ i) a rest
  behind-reads [] a rest further e = minus-reads [] a rest refl further e
  behind-reads (Number n ∷ i) a rest further e = finish (Signed Inner) (Fixed s.Minus ∷ Number n ∷ i) (Fixed s.Minus ∷ Number n ∷ []) i _ a rest refl (g.literal n) e
  behind-reads (Name n ∷ i) a rest further e = minus-reads (Name n ∷ i) a rest refl further e
  behind-reads (Quoted n ∷ i) a rest further e = minus-reads (Quoted n ∷ i) a rest refl further e
  behind-reads (Fixed n ∷ i) a rest further e = minus-reads (Fixed n ∷ i) a rest refl further e

  signed-reads : Sound (d.primary inner) (Primary Inner) → (i : Input) (a : Tree) (rest : Input) → d.signed inner i ≡ Some (a, rest) → Reading (Signed Inner) i a rest
  unfolding d.signed
  signed-reads sound [] a rest e = let r = sound.reads [] a rest e in record { front = r.front; split = r.split; is = g.unsigned r.front a r.is }
  signed-reads sound (x ∷ i) a rest e = by (is_symbol s.Minus (Some x)) refl e (signed-reads sound i)
    where
      by : (t : Bool) → is_symbol s.Minus (Some x) ≡ t → cond t (d.behind_minus inner (first i) (drop 1 i) (d.signed inner i)) (d.primary inner (x ∷ i)) ≡ Some (a, rest)
          → ((b : Tree) (end : Input) → d.signed inner i ≡ Some (b, end) → Reading (Signed Inner) i b end) → Reading (Signed Inner) (x ∷ i) a rest
      by false is e further = let r = sound.reads (x ∷ i) a rest e in record { front = r.front; split = r.split; is = g.unsigned r.front a r.is }
      by true is e further =
          let r = behind-reads i a rest further e in
          record { front = r.front; split = ap (λ (y : Terminal). y ∷ i) (is_symbol-same s.Minus x is) ∙ r.split; is = r.is }

  pub signed-sound : Sound (d.primary inner) (Primary Inner) → Sound (d.signed inner) (Signed Inner)
  signed-sound sound = record { reads = signed-reads sound }

  -- what is read behind a minus sign where no number is ahead
  behind-all : (i : Input) (a : Tree) (rest : Input) → number_ahead i ≡ false → d.signed inner i ≡ Some (a, rest) → d.behind_minus inner (first i) (drop 1 i) (d.signed inner i) ≡ Some (tree.Neg a, rest)
  behind-all [] a rest none e = ap (λ (o : Parsed Tree). o >>= λ a end. Some (tree.Neg a, end)) e
  behind-all (Number n ∷ i) a rest none e = absurd (cc)
  behind-all (Name n ∷ i) a rest none e = ap (λ (o : Parsed Tree). o >>= λ a end. Some (tree.Neg a, end)) e
  behind-all (Quoted n ∷ i) a rest none e = ap (λ (o : Parsed Tree). o >>= λ a end. Some (tree.Neg a, end)) e
  behind-all (Fixed n ∷ i) a rest none e = ap (λ (o : Parsed Tree). o >>= λ a end. Some (tree.Neg a, end)) e

  -- no more than a number is read where one is ahead
  number-alone : (n : ℕ) (x : Terminal) (ts : Input) (a : Tree) (rest : Input) → d.signed inner (Number n ∷ x ∷ ts ++ rest) ≡ Some (a, rest) → ⊥
  unfolding d.signed d.primary
  number-alone n x ts a rest e =
      let same = ap length (same_rest _ a (x ∷ ts ++ rest) rest e) in
      let lens = length-append ts rest in
      omega (arith, same)

  -- no number is ahead where a phrase that is no number alone is read
  no-number : (ts : Input) (a : Tree) (rest : Input) → is_number ts ≡ false → d.signed inner (ts ++ []) ≡ Some (a, []) → d.signed inner (ts ++ rest) ≡ Some (a, rest) → number_ahead (ts ++ rest) ≡ false
  unfolding d.signed d.primary
  no-number [] a rest none empty e = absurd (cc)
  no-number (Number n ∷ []) a rest none empty e = absurd (cc)
  no-number (Number n ∷ x ∷ ts) a rest none empty e = absurd (number-alone n x ts a rest e)
  no-number (Name n ∷ ts) a rest none empty e = refl
  no-number (Quoted n ∷ ts) a rest none empty e = refl
  no-number (Fixed n ∷ ts) a rest none empty e = refl

  signed-all : Complete (d.primary inner) (Primary Inner) is_dot → (ts : Input) (a : Tree) (rest : Input) → Signed Inner ts a → stops is_dot rest ≡ true → d.signed inner (ts ++ rest) ≡ Some (a, rest)
  unfolding d.signed d.primary same_symbol
  signed-all complete ts a rest (g.unsigned _ _ h) st = by (ts ++ rest) (complete.reads ts a rest h st)
    where
      by : (i : Input) → d.primary inner i ≡ Some (a, rest) → d.signed inner i ≡ Some (a, rest)
      by [] e = e
      by (x ∷ i) e = on (is_symbol s.Minus (Some x)) refl
        where
          on : (t : Bool) → is_symbol s.Minus (Some x) ≡ t → cond t (d.behind_minus inner (first i) (drop 1 i) (d.signed inner i)) (d.primary inner (x ∷ i)) ≡ Some (a, rest)
          on false is = e
          on true is = let same = ap (λ (y : Terminal). d.primary inner (y ∷ i)) (is_symbol-same s.Minus x is) in let none : d.primary inner (Fixed s.Minus ∷ i) ≡ None = refl in absurd (cc)
  signed-all complete _ _ rest (g.literal n) st = refl
  signed-all complete _ _ rest (g.minus ts a h none) st =
      let here = signed-all complete ts a rest h st in
      let empty = signed-all complete ts a [] h refl in
      behind-all (ts ++ rest) a rest (no-number ts a rest none empty here) here

  pub signed-complete : Complete (d.primary inner) (Primary Inner) is_dot → Complete (d.signed inner) (Signed Inner) is_dot
  signed-complete complete = record { reads = signed-all complete }
