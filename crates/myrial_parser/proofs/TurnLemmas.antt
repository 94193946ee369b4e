-- Turns of a loop that reads: what is still read from a place on, with the turns that are left.
use Rattle.std.proofs.Common.{◌≡◌, ℕ, zero, suc, true, false, cond, List, [], ◌∷◌, ◌++◌, drop, length, Option, Some, None, Result, Err, refl, sym, ap, subst, ◌∙◌, append_assoc}
use Rattle.myrial_ast.specs.declared.operators.BinOp.{BinOp}
use Rattle.myrial_ast.specs.Trees.{Tree, Bin}
use Rattle.myrial_parser.specs.declared.faults.Refusal.{Refusal}
use Rattle.myrial_parser.specs.declared.faults.Refusal.TheVariants as refusal
use Rattle.myrial_parser.specs.Symbols as s
use Rattle.myrial_parser.specs.Terminals.{Terminal}
use Rattle.myrial_parser.specs.inner.Descent.{Input, Parsed, Parser, Parses, ◌>>=◌, sees, after, operator_ahead, chain, chain_from, chain_by, separated, separated_from}

-- ---- what a function gives

-- a refusal is handed on
pub parses-refused : {X Y Z W : Type 0} (view : X → Y) (other : Z → W) (o : Parsed Y) (p : Parsed W) (e y : Refusal) (r : Result Z Refusal) (i j : Input)
    → (o ≡ None → p ≡ None) → Parses view o (Err e) i → r ≡ Err y → y ≡ e → Parses other p r j
parses-refused {Z = Z} view other o p e y r i j on g is same =
    subst (λ (r : Result Z Refusal). Parses other p r j) (sym (is ∙ ap Err same)) (by e g)
  where
    by : (e : Refusal) → Parses view o (Err e) i → Parses other p (Err e) j
    by refusal.Syntax g = on g
    by refusal.Memory g = tt

-- what is given of an outcome is given of an equal one
pub parses-along : {X Y : Type 0} (view : X → Y) (o p : Parsed Y) (r : Result X Refusal) (i : Input) → o ≡ p → Parses view p r i → Parses view o r i
parses-along {Y = Y} view o p r i e g = subst (λ (q : Parsed Y). Parses view q r i) (sym e) g

-- ---- chains

module _ (sign : Terminal → Option BinOp) (operand : Parser Tree) where
  pub chain-begun : (i : Input) (left : Tree) (rest : Input) → operand i ≡ Some (left, rest) → chain sign operand i ≡ chain_from sign operand (length rest) left rest
  chain-begun i left rest h = ap (λ (o : Parsed Tree). o >>= λ left rest. chain_from sign operand (length rest) left rest) h

  -- a turn reads an operator and an operand
  pub chain_from-turn : (n m : ℕ) (left right : Tree) (op : BinOp) (i rest : Input) → n ≡ suc m → operator_ahead sign i ≡ Some op → operand (drop 1 i) ≡ Some (right, rest)
      → chain_from sign operand n left i ≡ chain_from sign operand m (Bin op left right) rest
  chain_from-turn n m left right op i rest e is h =
      ap (λ n. chain_from sign operand n left i) e
      ∙ ap (λ (o : Option BinOp). chain_by sign operand (chain_from sign operand m) left o i) is
      ∙ ap (λ (o : Parsed Tree). o >>= λ right. chain_from sign operand m (Bin op left right)) h

  -- no operand stands behind an operator
  pub chain_from-none : (n m : ℕ) (left : Tree) (op : BinOp) (i : Input) → n ≡ suc m → operator_ahead sign i ≡ Some op → operand (drop 1 i) ≡ None → chain_from sign operand n left i ≡ None
  chain_from-none n m left op i e is h =
      ap (λ n. chain_from sign operand n left i) e
      ∙ ap (λ (o : Option BinOp). chain_by sign operand (chain_from sign operand m) left o i) is
      ∙ ap (λ (o : Parsed Tree). o >>= λ right. chain_from sign operand m (Bin op left right)) h

  -- no operator is ahead
  pub chain_from-over : (n : ℕ) (left : Tree) (i : Input) → operator_ahead sign i ≡ None → chain_from sign operand n left i ≡ Some (left, i)
  chain_from-over zero left i is = refl
  chain_from-over (suc n) left i is = ap (λ (o : Option BinOp). chain_by sign operand (chain_from sign operand n) left o i) is

  pub chain_from-end : (n : ℕ) (left : Tree) (i : Input) → n ≡ 0 → chain_from sign operand n left i ≡ Some (left, i)
  chain_from-end n left i e = ap (λ n. chain_from sign operand n left i) e

-- ---- lists with commas

-- the items so far, and those that are read from here on
abbrev pub with_items : {A : Type 0} → List A → Parsed (List A) → Parsed (List A)
with_items found o = o >>= λ others rest. Some (found ++ others, rest)

with_items-none : {A : Type 0} (o : Parsed (List A)) → with_items [] o ≡ o
with_items-none None = refl
with_items-none (Some p) = refl

with_items-more : {A : Type 0} (found : List A) (a : A) (o : Parsed (List A)) → with_items found (o >>= λ others rest. Some (a ∷ others, rest)) ≡ with_items (found ++ a ∷ []) o
with_items-more found a None = refl
with_items-more found a (Some p) = ap (λ all. Some (all, p.1)) (sym (append_assoc found (a ∷ []) p.0))

module _ {A : Type 0} (item : Parser A) where
  pub separated-begun : (i : Input) → separated item i ≡ with_items [] (separated_from item (length i) i)
  separated-begun i = sym (with_items-none (separated_from item (length i) i))

  -- a turn reads an item and a comma
  pub separated_from-turn : (n m : ℕ) (found : List A) (a : A) (i rest : Input) → n ≡ suc m → item i ≡ Some (a, rest) → sees s.Comma rest ≡ true
      → with_items found (separated_from item n i) ≡ with_items (found ++ a ∷ []) (separated_from item m (drop 1 rest))
  separated_from-turn n m found a i rest e h is =
      ap (λ n. with_items found (separated_from item n i)) e
      ∙ ap (λ (o : Parsed A). with_items found (o >>= λ a rest. cond (sees s.Comma rest) (separated_from item m (drop 1 rest) >>= λ others end. Some (a ∷ others, end)) (Some (a ∷ [], rest)))) h
      ∙ ap (λ t. with_items found (cond t (separated_from item m (drop 1 rest) >>= λ others end. Some (a ∷ others, end)) (Some (a ∷ [], rest)))) is
      ∙ with_items-more found a (separated_from item m (drop 1 rest))

  -- the last item has no comma behind it
  pub separated_from-last : (n m : ℕ) (found : List A) (a : A) (i rest : Input) → n ≡ suc m → item i ≡ Some (a, rest) → sees s.Comma rest ≡ false
      → with_items found (separated_from item n i) ≡ Some (found ++ a ∷ [], rest)
  separated_from-last n m found a i rest e h is =
      ap (λ n. with_items found (separated_from item n i)) e
      ∙ ap (λ (o : Parsed A). with_items found (o >>= λ a rest. cond (sees s.Comma rest) (separated_from item m (drop 1 rest) >>= λ others end. Some (a ∷ others, end)) (Some (a ∷ [], rest)))) h
      ∙ ap (λ t. with_items found (cond t (separated_from item m (drop 1 rest) >>= λ others end. Some (a ∷ others, end)) (Some (a ∷ [], rest)))) is

  pub separated_from-none : (n m : ℕ) (found : List A) (i : Input) → n ≡ suc m → item i ≡ None → with_items found (separated_from item n i) ≡ None
  separated_from-none n m found i e h =
      ap (λ n. with_items found (separated_from item n i)) e
      ∙ ap (λ (o : Parsed A). with_items found (o >>= λ a rest. cond (sees s.Comma rest) (separated_from item m (drop 1 rest) >>= λ others end. Some (a ∷ others, end)) (Some (a ∷ [], rest)))) h

  pub separated_from-end : (n : ℕ) (found : List A) (i : Input) → n ≡ 0 → with_items found (separated_from item n i) ≡ None
  separated_from-end n found i e = ap (λ n. with_items found (separated_from item n i)) e

  -- what was given at the start is given from here on, after a turn that read an item and a comma
  pub separated-goes_on : (n m : ℕ) (found more : List A) (a : A) (i rest end : Input) (start : Parsed (List A))
      → start ≡ with_items found (separated_from item n i) → n ≡ suc m → item i ≡ Some (a, rest) → more ≡ found ++ a ∷ [] → sees s.Comma rest ≡ true → end ≡ after s.Comma rest
      → start ≡ with_items more (separated_from item m end)
  separated-goes_on n m found more a i rest end start so_far e h longer is at =
      so_far ∙ separated_from-turn n m found a i rest e h is
      ∙ ap (λ (all : List A). with_items all (separated_from item m (drop 1 rest))) (sym longer)
      ∙ ap (λ (k : Input). with_items more (separated_from item m k)) (sym (at ∙ ap (λ t. cond t (drop 1 rest) rest) is))

  -- what was given at the start is the items so far, after a turn that read an item and no comma
  pub separated-ends : (n m : ℕ) (found more : List A) (a : A) (i rest end : Input) (start : Parsed (List A))
      → start ≡ with_items found (separated_from item n i) → n ≡ suc m → item i ≡ Some (a, rest) → more ≡ found ++ a ∷ [] → sees s.Comma rest ≡ false → end ≡ after s.Comma rest
      → start ≡ Some (more, end)
  separated-ends n m found more a i rest end start so_far e h longer is at =
      so_far ∙ separated_from-last n m found a i rest e h is
      ∙ ap (λ (all : List A). Some (all, rest)) (sym longer)
      ∙ ap (λ (k : Input). Some (more, k)) (sym (at ∙ ap (λ t. cond t (drop 1 rest) rest) is))
