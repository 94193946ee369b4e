-- Counting symbols ahead.
use Rattle.std.proofs.Common.{◌≡◌, ℕ, zero, suc, ◌+◌, ◌-◌, ◌<◌, Bool, true, false, cond, [], ◌∷◌, drop, length, refl, sym, ap, ◌∙◌, arith}
use Rattle.std.proofs.lemmas.List.{drop-drop}
use Rattle.std.proofs.Common.{Option, Some, None}
use Rattle.myrial_ast.specs.Trees as tree
use Rattle.myrial_ast.specs.Trees.{Tree}
use Rattle.myrial_parser.specs.declared.terminals.Symbol.{Symbol}
use Rattle.myrial_parser.specs.Symbols as s
use Rattle.myrial_parser.specs.Terminals.{Terminal, Name, Number, Quoted, Fixed}
use Rattle.myrial_parser.specs.inner.Descent.{Input, Parsed, Parser, ◌>>=◌, first, sees, is_symbol, count_ahead, prefixed, wrapped, signed, signed_behind, behind_minus, primary, comparison, negation, disjunction, expression}

-- one more is ahead
pub count_ahead-seen : (symbol : Symbol) (i : Input) → sees symbol i ≡ true → count_ahead symbol i ≡ suc (count_ahead symbol (drop 1 i))
count_ahead-seen symbol [] e = absurd (cc)
count_ahead-seen symbol (x ∷ i) e = ap (λ t. cond t (suc (count_ahead symbol i)) 0) e

-- none is ahead
pub count_ahead-unseen : (symbol : Symbol) (i : Input) → sees symbol i ≡ false → count_ahead symbol i ≡ 0
count_ahead-unseen symbol [] e = refl
count_ahead-unseen symbol (x ∷ i) e = ap (λ t. cond t (suc (count_ahead symbol i)) 0) e

-- a turn that passed a symbol
pub count-turn : (symbol : Symbol) (i now : Input) (count : ℕ) → sees symbol now ≡ true → count + count_ahead symbol now ≡ count_ahead symbol i → count + 1 + count_ahead symbol (drop 1 now) ≡ count_ahead symbol i
count-turn symbol i now count e h = let more = count_ahead-seen symbol now e in omega arith

pub drop-turn : (i now : Input) (count : ℕ) → now ≡ drop count i → drop 1 now ≡ drop (count + 1) i
drop-turn i now count h = ap (λ (ts : Input). drop 1 ts) h ∙ drop-drop 1 count i

pub seen-some : (symbol : Symbol) (i : Input) → sees symbol i ≡ true → 0 < length i
seen-some symbol [] e = absurd (cc)
seen-some symbol (x ∷ i) e = omega arith

-- ---- a count of symbols, and what is read behind them

bind-same : {A : Type 0} (o : Parsed A) → (o >>= λ a rest. Some (a, rest)) ≡ o
bind-same None = refl
bind-same (Some p) = refl

bind-map : {A B C : Type 0} (f : A → B) (g : B → C) (o : Parsed A) → ((o >>= λ a rest. Some (f a, rest)) >>= λ b rest. Some (g b, rest)) ≡ (o >>= λ a rest. Some (g (f a), rest))
bind-map f g None = refl
bind-map f g (Some p) = refl

-- a prefixed operand is an operand behind the symbols that are ahead, below as many nodes
pub prefixed-count : (symbol : Symbol) (node : Tree → Tree) (operand : Parser Tree) (i : Input)
    → prefixed symbol node operand i ≡ (operand (drop (count_ahead symbol i) i) >>= λ a rest. Some (wrapped node (count_ahead symbol i) a, rest))
prefixed-count symbol node operand [] = sym (bind-same (operand []))
prefixed-count symbol node operand (x ∷ i) = by (is_symbol symbol (Some x)) (prefixed-count symbol node operand i)
  where
    by : (t : Bool) → prefixed symbol node operand i ≡ (operand (drop (count_ahead symbol i) i) >>= λ a rest. Some (wrapped node (count_ahead symbol i) a, rest))
        → cond t (prefixed symbol node operand i >>= λ a rest. Some (node a, rest)) (operand (x ∷ i))
        ≡ (operand (drop (cond t (suc (count_ahead symbol i)) 0) (x ∷ i)) >>= λ a rest. Some (wrapped node (cond t (suc (count_ahead symbol i)) 0) a, rest))
    by true e = ap (λ (o : Parsed Tree). o >>= λ a rest. Some (node a, rest)) e ∙ bind-map (wrapped node (count_ahead symbol i)) node (operand (drop (count_ahead symbol i) i))
    by false e = sym (bind-same (operand (x ∷ i)))

-- one more minus sign, where more than the number behind it is read
signed_behind-more : (inner : Parser Tree) (count : ℕ) (next : Option Terminal) (i : Input) → (signed_behind inner (suc count) next i >>= λ a rest. Some (tree.Neg a, rest)) ≡ signed_behind inner (suc (suc count)) next i
signed_behind-more inner count None i = bind-map (wrapped tree.Neg (suc count)) tree.Neg (primary inner i)
signed_behind-more inner count (Some (Number n)) i = refl
signed_behind-more inner count (Some (Name n)) i = bind-map (wrapped tree.Neg (suc count)) tree.Neg (primary inner i)
signed_behind-more inner count (Some (Quoted n)) i = bind-map (wrapped tree.Neg (suc count)) tree.Neg (primary inner i)
signed_behind-more inner count (Some (Fixed n)) i = bind-map (wrapped tree.Neg (suc count)) tree.Neg (primary inner i)

-- what is signed is read behind the minus signs that are ahead
pub signed-count : (inner : Parser Tree) (i : Input) → signed inner i ≡ signed_behind inner (count_ahead s.Minus i) (first (drop (count_ahead s.Minus i) i)) (drop (count_ahead s.Minus i) i)
unfolding signed
signed-count inner [] = refl
signed-count inner (x ∷ i) = by (is_symbol s.Minus (Some x)) (signed-count inner i)
  where
    more : (j : Input) (count : ℕ) (o : Parsed Tree) → o ≡ signed_behind inner count (first (drop count j)) (drop count j) → count ≡ count_ahead s.Minus j
        → behind_minus inner (first j) (drop 1 j) o ≡ signed_behind inner (suc count) (first (drop count j)) (drop count j)
    more [] zero o e c = ap (λ (o : Parsed Tree). o >>= λ a rest. Some (tree.Neg a, rest)) e
    more (Number n ∷ j) zero o e c = refl
    more (Name n ∷ j) zero o e c = ap (λ (o : Parsed Tree). o >>= λ a rest. Some (tree.Neg a, rest)) e
    more (Quoted n ∷ j) zero o e c = ap (λ (o : Parsed Tree). o >>= λ a rest. Some (tree.Neg a, rest)) e
    more (Fixed n ∷ j) zero o e c = ap (λ (o : Parsed Tree). o >>= λ a rest. Some (tree.Neg a, rest)) e
    more [] (suc count) o e c = absurd (cc)
    more (Number n ∷ j) (suc count) o e c = absurd (cc)
    more (Name n ∷ j) (suc count) o e c = absurd (cc)
    more (Quoted n ∷ j) (suc count) o e c = absurd (cc)
    more (Fixed n ∷ j) (suc count) o e c =
        ap (λ (o : Parsed Tree). o >>= λ a rest. Some (tree.Neg a, rest)) e ∙ signed_behind-more inner count (first (drop (suc count) (Fixed n ∷ j))) (drop (suc count) (Fixed n ∷ j))

    by : (t : Bool) → signed inner i ≡ signed_behind inner (count_ahead s.Minus i) (first (drop (count_ahead s.Minus i) i)) (drop (count_ahead s.Minus i) i)
        → cond t (behind_minus inner (first i) (drop 1 i) (signed inner i)) (primary inner (x ∷ i))
        ≡ signed_behind inner (cond t (suc (count_ahead s.Minus i)) 0) (first (drop (cond t (suc (count_ahead s.Minus i)) 0) (x ∷ i))) (drop (cond t (suc (count_ahead s.Minus i)) 0) (x ∷ i))
    by true e = more i (count_ahead s.Minus i) (signed inner i) e refl
    by false e = refl

-- ---- what is read behind a count that was taken

-- a negation is a comparison behind so many `not`
pub negation-counted : (inner : Parser Tree) (i j : Input) (count : ℕ) → count ≡ count_ahead s.Not i → j ≡ drop count i
    → negation inner i ≡ (comparison inner j >>= λ a rest. Some (wrapped tree.Not count a, rest))
unfolding negation
negation-counted inner i j count is at =
    prefixed-count s.Not tree.Not (comparison inner) i
    ∙ ap (λ n. comparison inner (drop n i) >>= λ a rest. Some (wrapped tree.Not n a, rest)) (sym is)
    ∙ ap (λ (k : Input). comparison inner k >>= λ a rest. Some (wrapped tree.Not count a, rest)) (sym at)

-- what is signed is read behind so many minus signs
pub signed-counted : (inner : Parser Tree) (i j : Input) (count n : ℕ) → count ≡ count_ahead s.Minus i → j ≡ drop count i → n ≡ count → signed inner i ≡ signed_behind inner n (first j) j
signed-counted inner i j count n is at same =
    signed-count inner i
    ∙ ap (λ m. signed_behind inner m (first (drop m i)) (drop m i)) (sym is)
    ∙ ap (λ (k : Input). signed_behind inner count (first k) k) (sym at)
    ∙ ap (λ m. signed_behind inner m (first j) j) (sym same)

-- an expression of some depth is a disjunction over those of one less
pub expression-some : (depth : ℕ) (i : Input) → (depth ≡ 0 → ⊥) → expression depth i ≡ disjunction (expression (depth - 1)) i
unfolding expression
expression-some zero i some = absurd (some refl)
expression-some (suc depth) i some = let e : depth ≡ suc depth - 1 = omega arith in ap (λ n. disjunction (expression n) i) e
