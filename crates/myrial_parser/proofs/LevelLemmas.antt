-- The levels of an expression, and expressions at any depth of parentheses.
use Rattle.std.proofs.Common.{◌≡◌, ℕ, zero, suc, ◌<◌, ◌≤◌, Bool, true, false, [], ◌∷◌, ◌++◌, length, Option, Some, None, refl, sym, ◌∙◌, length-append, arith}
use Rattle.std.specs.Option.{is_some}
use Rattle.myrial_ast.specs.declared.operators.BinOp.{BinOp}
use Rattle.myrial_ast.specs.Trees as tree
use Rattle.myrial_ast.specs.Trees.{Tree}
use Rattle.myrial_parser.specs.declared.expressions.Level.{Level}
use Rattle.myrial_parser.specs.declared.expressions.Level.TheVariants as level
use Rattle.myrial_lexer.specs.declared.kinds.Sign.TheVariants as sign
use Rattle.myrial_parser.specs.declared.terminals.Keyword.{Keyword}
use Rattle.myrial_parser.specs.declared.terminals.Keyword.TheVariants as keyword
use Rattle.myrial_parser.specs.declared.terminals.Symbol.{Symbol}
use Rattle.myrial_parser.specs.declared.terminals.Symbol.TheVariants.{Keyword as Word, Sign}
use Rattle.myrial_parser.specs.Symbols as s
use Rattle.myrial_parser.specs.Terminals.{Terminal, Fixed}
use Rattle.myrial_parser.specs.Phrases.{Chain, alone, joined, Pair, single, compared, Prefixed, plain, behind}
use Rattle.myrial_parser.specs.Grammar as g
use Rattle.myrial_parser.specs.Grammar.{IsAggregated, Primary, Signed, or_sign, and_sign, sum_sign, product_sign, comparison_sign, Expression, IsExpression}
use Rattle.myrial_parser.specs.inner.Descent as d
use Rattle.myrial_parser.specs.inner.Descent.{Input, Parser, same_symbol, expression}
use Rattle.myrial_parser.proofs.ParserLemmas.{Sound, Complete, stops, either, chain-sound, chain-complete, pair-sound, pair-complete, prefixed-sound, prefixed-complete, same_value, chain-none, pair-none, in_parens-none}
use Rattle.myrial_parser.proofs.ExpressionLemmas.{is_dot, primary-sound, primary-complete, signed-sound, signed-complete}

-- ---- what goes on with an expression at each level

abbrev is_sign_of : (Terminal → Option BinOp) → Terminal → Bool
is_sign_of sign x = is_some (sign x)

abbrev pub past_product : Terminal → Bool
past_product = either is_dot (is_sign_of product_sign)

abbrev pub past_sum : Terminal → Bool
past_sum = either past_product (is_sign_of sum_sign)

abbrev pub past_comparison : Terminal → Bool
past_comparison = either past_sum (is_sign_of comparison_sign)

abbrev pub past_conjunction : Terminal → Bool
past_conjunction = either past_comparison (is_sign_of and_sign)

abbrev pub past_expression : Terminal → Bool
past_expression = either past_conjunction (is_sign_of or_sign)

product-apart : (x : Terminal) (op : BinOp) → product_sign x ≡ Some op → is_dot x ≡ false
unfolding same_symbol
product-apart (Fixed (Sign sign.Star)) op e = refl
product-apart _ op e = absurd (cc)

sum-apart : (x : Terminal) (op : BinOp) → sum_sign x ≡ Some op → past_product x ≡ false
unfolding same_symbol
sum-apart (Fixed (Sign sign.Plus)) op e = refl
sum-apart (Fixed (Sign sign.Minus)) op e = refl
sum-apart _ op e = absurd (cc)

comparison-apart : (x : Terminal) (op : BinOp) → comparison_sign x ≡ Some op → past_sum x ≡ false
unfolding same_symbol
comparison-apart (Fixed (Sign sign.Eq)) op e = refl
comparison-apart (Fixed (Sign sign.Ne)) op e = refl
comparison-apart (Fixed (Sign sign.Lt)) op e = refl
comparison-apart (Fixed (Sign sign.Le)) op e = refl
comparison-apart (Fixed (Sign sign.Gt)) op e = refl
comparison-apart (Fixed (Sign sign.Ge)) op e = refl
comparison-apart _ op e = absurd (cc)

and-apart : (x : Terminal) (op : BinOp) → and_sign x ≡ Some op → past_comparison x ≡ false
unfolding same_symbol
and-apart (Fixed (Word keyword.And)) op e = refl
and-apart _ op e = absurd (cc)

or-apart : (x : Terminal) (op : BinOp) → or_sign x ≡ Some op → past_conjunction x ≡ false
unfolding same_symbol
or-apart (Fixed (Word keyword.Or)) op e = refl
or-apart _ op e = absurd (cc)

-- ---- the levels over an inner expression

module _ (inner : Parser Tree) (Inner : Input → Tree → Type 0) (sound : Sound inner Inner) where
  product-sound : Sound (d.product inner) (g.Product Inner)
  unfolding d.product
  product-sound = chain-sound product_sign (d.signed inner) (Signed Inner) (signed-sound inner Inner (primary-sound inner Inner sound))

  sum-sound : Sound (d.sum inner) (g.Sum Inner)
  unfolding d.sum
  sum-sound = chain-sound sum_sign (d.product inner) (g.Product Inner) product-sound

  comparison-sound : Sound (d.comparison inner) (g.Comparison Inner)
  unfolding d.comparison
  comparison-sound = pair-sound comparison_sign (d.sum inner) (g.Sum Inner) sum-sound

  negation-sound : Sound (d.negation inner) (g.Negation Inner)
  unfolding d.negation
  negation-sound = prefixed-sound s.Not tree.Not (d.comparison inner) (g.Comparison Inner) comparison-sound

  conjunction-sound : Sound (d.conjunction inner) (g.Conjunction Inner)
  unfolding d.conjunction
  conjunction-sound = chain-sound and_sign (d.negation inner) (g.Negation Inner) negation-sound

  disjunction-sound : Sound (d.disjunction inner) (g.Disjunction Inner)
  unfolding d.disjunction
  disjunction-sound = chain-sound or_sign (d.conjunction inner) (g.Conjunction Inner) conjunction-sound

-- no expression begins with such a symbol
not_refused : (inner : Parser Tree) (i : Input) → d.comparison inner (Fixed s.Not ∷ i) ≡ None
unfolding d.comparison d.sum d.product d.signed d.primary same_symbol
not_refused inner i =
    let all = Fixed s.Not ∷ i in
    let primary : d.primary inner all ≡ None = in_parens-none (d.aggregated inner keyword.Not) i (λ j. refl) in
    let product = chain-none product_sign (d.signed inner) all primary in
    let sum = chain-none sum_sign (d.product inner) all product in
    pair-none comparison_sign (d.sum inner) all sum

star_refused : (inner : Parser Tree) (i : Input) → d.disjunction inner (Fixed s.Star ∷ i) ≡ None
unfolding d.disjunction d.conjunction d.negation d.comparison d.sum d.product d.signed d.primary same_symbol
star_refused inner i = refl

module _ (inner : Parser Tree) (Inner : Input → Tree → Type 0) (complete : Complete inner Inner past_expression) (no_star : (i : Input) → inner (Fixed s.Star ∷ i) ≡ None) where
  closing_apart : past_expression (Fixed s.CloseParen) ≡ false
  unfolding same_symbol
  closing_apart = refl

  product-complete : Complete (d.product inner) (g.Product Inner) past_product
  unfolding d.product
  product-complete = chain-complete product_sign (d.signed inner) (Signed Inner) is_dot
      (signed-complete inner Inner (primary-complete inner Inner past_expression complete closing_apart no_star)) product-apart

  sum-complete : Complete (d.sum inner) (g.Sum Inner) past_sum
  unfolding d.sum
  sum-complete = chain-complete sum_sign (d.product inner) (g.Product Inner) past_product product-complete sum-apart

  comparison-complete : Complete (d.comparison inner) (g.Comparison Inner) past_comparison
  unfolding d.comparison
  comparison-complete = pair-complete comparison_sign (d.sum inner) (g.Sum Inner) past_sum sum-complete comparison-apart

  negation-complete : Complete (d.negation inner) (g.Negation Inner) past_comparison
  unfolding d.negation
  negation-complete = prefixed-complete s.Not tree.Not (d.comparison inner) (g.Comparison Inner) past_comparison comparison-complete (not_refused inner)

  conjunction-complete : Complete (d.conjunction inner) (g.Conjunction Inner) past_conjunction
  unfolding d.conjunction
  conjunction-complete = chain-complete and_sign (d.negation inner) (g.Negation Inner) past_comparison negation-complete and-apart

  disjunction-complete : Complete (d.disjunction inner) (g.Disjunction Inner) past_expression
  unfolding d.disjunction
  disjunction-complete = chain-complete or_sign (d.conjunction inner) (g.Conjunction Inner) past_conjunction conjunction-complete or-apart

-- ---- any depth

-- what the descent reads at a depth is an expression of that depth
pub expression-sound : (n : ℕ) → Sound (expression n) (Expression n)
unfolding expression
expression-sound zero = record { reads = λ i a rest e. absurd (cc) }
expression-sound (suc n) = record { reads = (disjunction-sound (expression n) (Expression n) (expression-sound n)).reads }

pub expression-refuses_star : (n : ℕ) (i : Input) → expression n (Fixed s.Star ∷ i) ≡ None
unfolding expression
expression-refuses_star zero i = refl
expression-refuses_star (suc n) i = star_refused (expression n) i

-- each expression of a depth is read at that depth
pub expression-complete : (n : ℕ) → Complete (expression n) (Expression n) past_expression
unfolding expression
expression-complete zero = record { reads = λ ts a rest h st. absurd h }
expression-complete (suc n) = record { reads = (disjunction-complete (expression n) (Expression n) (expression-complete n) (expression-refuses_star n)).reads }

-- ---- an expression nests no deeper than it has terminals

module _ (R S : Input → Tree → Type 0) (most : ℕ) (same : (ts : Input) (a : Tree) → length ts ≤ most → R ts a → S ts a) where
  chain-short : (sign : Terminal → Option BinOp) (ts : Input) (a : Tree) → length ts ≤ most → Chain sign R ts a → Chain sign S ts a
  chain-short sign ts a short (alone _ _ h) = alone ts a (same ts a short h)
  chain-short sign _ _ short (joined ts us x op a b c e h) =
      let lens = length-append ts (x ∷ us) in
      joined ts us x op a b (chain-short sign ts a (omega arith) c) e (same us b (omega arith) h)

  pair-short : (sign : Terminal → Option BinOp) (ts : Input) (a : Tree) → length ts ≤ most → Pair sign R ts a → Pair sign S ts a
  pair-short sign ts a short (single _ _ h) = single ts a (same ts a short h)
  pair-short sign _ _ short (compared ts us x op a b h e k) =
      let lens = length-append ts (x ∷ us) in
      compared ts us x op a b (same ts a (omega arith) h) e (same us b (omega arith) k)

  prefixed-short : (symbol : Symbol) (node : Tree → Tree) (ts : Input) (a : Tree) → length ts ≤ most → Prefixed symbol node R ts a → Prefixed symbol node S ts a
  prefixed-short symbol node ts a short (plain _ _ h) = plain ts a (same ts a short h)
  prefixed-short symbol node _ _ short (behind ts a h) = behind ts a (prefixed-short symbol node ts a (omega arith) h)

-- the same of inner expressions, which are shorter by two parentheses
module _ (R S : Input → Tree → Type 0) (most : ℕ) (same : (ts : Input) (a : Tree) → length ts < most → R ts a → S ts a) where
  aggregated-short : (word : Keyword) (ts : Input) (a : Tree) → length ts < most → IsAggregated R word ts a → IsAggregated S word ts a
  aggregated-short _ _ _ less g.of_star = g.of_star
  aggregated-short _ _ _ less g.of_nothing = g.of_nothing
  aggregated-short _ _ _ less (g.of_argument word op ts a e h) = g.of_argument word op ts a e (same ts a less h)

  primary-short : (ts : Input) (a : Tree) → length ts ≤ most → Primary R ts a → Primary S ts a
  primary-short _ _ short (g.number n) = g.number n
  primary-short _ _ short (g.string n) = g.string n
  primary-short _ _ short g.truth = g.truth
  primary-short _ _ short g.falsehood = g.falsehood
  primary-short _ _ short (g.reference ts c h) = g.reference ts c h
  primary-short _ _ short (g.grouped ts a h) = let lens = length-append ts (Fixed s.CloseParen ∷ []) in g.grouped ts a (same ts a (omega arith) h)
  primary-short _ _ short (g.aggregate word ts a h) = let lens = length-append ts (Fixed s.CloseParen ∷ []) in g.aggregate word ts a (aggregated-short word ts a (omega arith) h)

  signed-short : (ts : Input) (a : Tree) → length ts ≤ most → Signed R ts a → Signed S ts a
  signed-short ts a short (g.unsigned _ _ h) = g.unsigned ts a (primary-short ts a short h)
  signed-short _ _ short (g.literal n) = g.literal n
  signed-short _ _ short (g.minus ts a h e) = g.minus ts a (signed-short ts a (omega arith) h) e

  disjunction-short : (ts : Input) (a : Tree) → length ts ≤ most → g.Disjunction R ts a → g.Disjunction S ts a
  disjunction-short =
      let product : (ts : Input) (a : Tree) → length ts ≤ most → g.Product R ts a → g.Product S ts a = chain-short (Signed R) (Signed S) most signed-short product_sign in
      let sum : (ts : Input) (a : Tree) → length ts ≤ most → g.Sum R ts a → g.Sum S ts a = chain-short (g.Product R) (g.Product S) most product sum_sign in
      let comparison : (ts : Input) (a : Tree) → length ts ≤ most → g.Comparison R ts a → g.Comparison S ts a = pair-short (g.Sum R) (g.Sum S) most sum comparison_sign in
      let negation : (ts : Input) (a : Tree) → length ts ≤ most → g.Negation R ts a → g.Negation S ts a = prefixed-short (g.Comparison R) (g.Comparison S) most comparison s.Not tree.Not in
      let conjunction : (ts : Input) (a : Tree) → length ts ≤ most → g.Conjunction R ts a → g.Conjunction S ts a = chain-short (g.Negation R) (g.Negation S) most negation and_sign in
      chain-short (g.Conjunction R) (g.Conjunction S) most conjunction or_sign

-- an expression is one of each depth above its length
pub expression-depth : (m n : ℕ) (ts : Input) (a : Tree) → length ts ≤ m → Expression n ts a → Expression (suc m) ts a
expression-depth m zero ts a short h = absurd h
expression-depth zero (suc n) ts a short h = disjunction-short (Expression n) (Expression zero) zero (λ us b less k. absurd (omega arith)) ts a short h
expression-depth (suc m) (suc n) ts a short h =
    disjunction-short (Expression n) (Expression (suc m)) (suc m) (λ us b less k. expression-depth m n us b (omega arith) k) ts a short h

-- an expression is read at each depth above its length
pub expression-read : (m : ℕ) (ts : Input) (a : Tree) (rest : Input) → length ts ≤ m → IsExpression ts a → stops past_expression rest ≡ true → expression (suc m) (ts ++ rest) ≡ Some (a, rest)
expression-read m ts a rest short h st = (expression-complete (suc m)).reads ts a rest (expression-depth m h.0 ts a short h.1) st

-- terminals read as at most one expression
pub expression-unique : (ts : Input) (a b : Tree) → IsExpression ts a → IsExpression ts b → a ≡ b
expression-unique ts a b h k =
    let left = expression-read (length ts) ts a [] (omega arith) h refl in
    let right = expression-read (length ts) ts b [] (omega arith) k refl in
    same_value a b [] [] (sym left ∙ right)

-- the operands of a level, with its operators between them
pub chain_at-is : (inner : Parser Tree) (level : Level) (i : Input) → d.chain_at inner level i ≡ d.chain (d.sign_at level) (d.operand_at inner level) i
unfolding d.product d.sum d.conjunction d.disjunction
chain_at-is inner level.Disjunction i = refl
chain_at-is inner level.Conjunction i = refl
chain_at-is inner level.Sum i = refl
chain_at-is inner level.Product i = refl
