-- Rules against phrases: what a rule reads is such a phrase, and each phrase is read.
use Rattle.std.proofs.Common.{◌≡◌, ℕ, zero, suc, ◌≤◌, Bool, true, false, cond, List, [], ◌∷◌, ◌++◌, drop, length, Option, Some, None, refl, sym, ap, subst, ◌∙◌, append_assoc, append-nil, length-append, arith}
use denote.Enum.Bare.{same_true, true_same}
use Rattle.std.proofs.Common.{rules}
use Rattle.myrial_lexer.specs.contracts.kinds.Sign.{the_type as sign_type}
use Rattle.myrial_parser.specs.contracts.terminals.Keyword.{the_type as keyword_type}
use Rattle.myrial_parser.specs.Terminals.{Name, Number, Quoted}
use Rattle.myrial_ast.specs.declared.operators.BinOp.{BinOp}
use Rattle.myrial_ast.specs.Trees.{Tree, Bin}
use Rattle.myrial_parser.specs.declared.terminals.Symbol.{Symbol}
use Rattle.myrial_parser.specs.declared.terminals.Symbol.TheVariants.{Keyword as Word, Sign}
use Rattle.myrial_parser.specs.Terminals.{Terminal, Fixed}
use Rattle.myrial_parser.specs.Symbols as s
use Rattle.myrial_parser.specs.Phrases.{Chain, alone, joined, Pair, single, compared, Prefixed, plain, behind, is_word, Called, called}
use Rattle.myrial_parser.specs.inner.Descent.{Input, Parsed, Parser, ◌>>=◌, operator_ahead, chain, chain_from, chain_by, pair, pair_by, prefixed, is_symbol, same_symbol, sees, expect, name, number, in_parens, symbol_ahead, word}
use Rattle.myrial_parser.specs.inner.Descent as d

-- what a rule reads at a place: a phrase, and the rest
pub record Reading {A : Type 0} (Is : Input → A → Type 0) (i : Input) (a : A) (rest : Input) : Type 0 where
  pub front : Input
  pub split : i ≡ front ++ rest
  pub is : Is front a

-- what a rule reads is such a phrase
pub record Sound {A : Type 0} (rule : Parser A) (Is : Input → A → Type 0) : Type 0 where
  pub reads : (i : Input) (a : A) (rest : Input) → rule i ≡ Some (a, rest) → Reading Is i a rest

-- no terminal of a kind stands ahead
abbrev pub stops : (Terminal → Bool) → Input → Bool
stops goes_on [] = true
stops goes_on (x ∷ i) = cond (goes_on x) false true

-- what is of one kind or the other
abbrev pub either : (Terminal → Bool) → (Terminal → Bool) → Terminal → Bool
either p q x = cond (p x) true (q x)

pub stops-left : (p q : Terminal → Bool) (i : Input) → stops (either p q) i ≡ true → stops p i ≡ true
stops-left p q [] e = refl
stops-left p q (x ∷ i) e = by (p x) (q x) e
  where
    by : (a b : Bool) → cond (cond a true b) false true ≡ true → cond a false true ≡ true
    by true b e = e
    by false b e = refl

pub stops-right : (p q : Terminal → Bool) (i : Input) → stops (either p q) i ≡ true → stops q i ≡ true
stops-right p q [] e = refl
stops-right p q (x ∷ i) e = by (p x) (q x) e
  where
    by : (a b : Bool) → cond (cond a true b) false true ≡ true → cond b false true ≡ true
    by true b e = absurd (cc)
    by false b e = e

-- a phrase is read wherever no terminal of a kind follows it
pub record Complete {A : Type 0} (rule : Parser A) (Is : Input → A → Type 0) (goes_on : Terminal → Bool) : Type 0 where
  pub reads : (ts : Input) (a : A) (rest : Input) → Is ts a → stops goes_on rest ≡ true → rule (ts ++ rest) ≡ Some (a, rest)

-- the two steps of a rule that gave something
pub record Steps {A B : Type 0} (o : Parsed A) (f : A → Parser B) (b : B) (rest : Input) : Type 0 where
  pub value : A
  pub middle : Input
  pub start : o ≡ Some (value, middle)
  pub end : f value middle ≡ Some (b, rest)

pub steps : {A B : Type 0} (o : Parsed A) (f : A → Parser B) (b : B) (rest : Input) → (o >>= f) ≡ Some (b, rest) → Steps o f b rest
steps None f b rest e = absurd (cc)
steps (Some p) f b rest e = record { value = p.0; middle = p.1; start = refl; end = e }

pub same_value : {A : Type 0} (a b : A) (i j : Input) → ◌≡◌ {A = Parsed A} (Some (a, i)) (Some (b, j)) → a ≡ b
same_value {A = A} a b i j e = let p : ◌≡◌ {A = A × Input} (a, i) (b, j) = cc in ap (λ (q : A × Input). q.0) p

pub same_rest : {A : Type 0} (a b : A) (i j : Input) → ◌≡◌ {A = Parsed A} (Some (a, i)) (Some (b, j)) → i ≡ j
same_rest {A = A} a b i j e = let p : ◌≡◌ {A = A × Input} (a, i) (b, j) = cc in ap (λ (q : A × Input). q.1) p

-- ---- chains

module _ (sign : Terminal → Option BinOp) (operand : Parser Tree) (Operand : Input → Tree → Type 0) (sound : Sound operand Operand) where
  nothing_more : (i : Input) (left a : Tree) (rest front : Input) → Chain sign Operand front left → ◌≡◌ {A = Parsed Tree} (Some (left, i)) (Some (a, rest)) → Reading (λ ts t. Chain sign Operand (front ++ ts) t) i a rest
  nothing_more i left a rest front c e = record {
    front = [];
    split = same_rest left a i rest e;
    is = subst (λ (t : Tree). Chain sign Operand (front ++ []) t) (same_value left a i rest e) (subst (λ (ts : Input). Chain sign Operand ts left) (sym (append-nil front)) c);
  }

  chain_from-sound : (n : ℕ) (left : Tree) (i : Input) (a : Tree) (rest front : Input) → Chain sign Operand front left → chain_from sign operand n left i ≡ Some (a, rest)
      → Reading (λ ts t. Chain sign Operand (front ++ ts) t) i a rest
  chain_from-sound zero left i a rest front c e = nothing_more i left a rest front c e
  chain_from-sound (suc n) left [] a rest front c e = nothing_more [] left a rest front c e
  chain_from-sound (suc n) left (x ∷ i) a rest front c e = by (chain_from-sound n) (sign x) refl e
    where
      by : ((l : Tree) (j : Input) (b : Tree) (end ahead : Input) → Chain sign Operand ahead l → chain_from sign operand n l j ≡ Some (b, end) → Reading (λ ts t. Chain sign Operand (ahead ++ ts) t) j b end)
          → (o : Option BinOp) → sign x ≡ o → chain_by sign operand (chain_from sign operand n) left o (x ∷ i) ≡ Some (a, rest) → Reading (λ ts t. Chain sign Operand (front ++ ts) t) (x ∷ i) a rest
      by further None is e = nothing_more (x ∷ i) left a rest front c e
      by further (Some op) is e =
          let two = steps (operand i) (λ right. chain_from sign operand n (Bin op left right)) a rest e in
          let right = sound.reads i two.value two.middle two.start in
          let longer = joined front right.front x op left two.value c is right.is in
          let others = further (Bin op left two.value) two.middle a rest (front ++ x ∷ right.front) longer two.end in
          record {
            front = x ∷ right.front ++ others.front;
            split = ap (λ (ts : Input). x ∷ ts) (right.split ∙ ap (λ (ts : Input). right.front ++ ts) others.split ∙ sym (append_assoc right.front others.front rest));
            is = subst (λ (ts : Input). Chain sign Operand ts a) (append_assoc front (x ∷ right.front) others.front) others.is;
          }

  -- what `chain` reads is a chain
  pub chain-sound : Sound (chain sign operand) (Chain sign Operand)
  chain-sound = record {
    reads = λ i a rest e.
        let two = steps (operand i) (λ left rest. chain_from sign operand (length rest) left rest) a rest e in
        let left = sound.reads i two.value two.middle two.start in
        let others = chain_from-sound (length two.middle) two.value two.middle a rest left.front (alone left.front two.value left.is) two.end in
        record {
          front = left.front ++ others.front;
          split = left.split ∙ ap (λ (ts : Input). left.front ++ ts) others.split ∙ sym (append_assoc left.front others.front rest);
          is = others.is;
        };
  }

  -- what `pair` reads is a pair
  pub pair-sound : Sound (pair sign operand) (Pair sign Operand)
  pair-sound = record {
    reads = λ i a rest e.
        let two = steps (operand i) (λ left rest. pair_by sign operand left (operator_ahead sign rest) rest) a rest e in
        let left = sound.reads i two.value two.middle two.start in
        by i a rest two.value two.middle left two.end;
  }
    where
      lone : (i : Input) (a : Tree) (rest : Input) (l : Tree) (middle : Input) → Reading Operand i l middle → ◌≡◌ {A = Parsed Tree} (Some (l, middle)) (Some (a, rest)) → Reading (Pair sign Operand) i a rest
      lone i a rest l middle left e = record {
        front = left.front;
        split = left.split ∙ ap (λ (ts : Input). left.front ++ ts) (same_rest l a middle rest e);
        is = subst (λ (t : Tree). Pair sign Operand left.front t) (same_value l a middle rest e) (single left.front l left.is);
      }

      by : (i : Input) (a : Tree) (rest : Input) (l : Tree) (middle : Input) → Reading Operand i l middle → pair_by sign operand l (operator_ahead sign middle) middle ≡ Some (a, rest) → Reading (Pair sign Operand) i a rest
      by i a rest l [] left e = lone i a rest l [] left e
      by i a rest l (x ∷ middle) left e = on (sign x) refl e
        where
          on : (o : Option BinOp) → sign x ≡ o → pair_by sign operand l o (x ∷ middle) ≡ Some (a, rest) → Reading (Pair sign Operand) i a rest
          on None is e = lone i a rest l (x ∷ middle) left e
          on (Some op) is e =
              let two = steps (operand middle) (λ right rest. Some (Bin op l right, rest)) a rest e in
              let right = sound.reads middle two.value two.middle two.start in
              let behind = same_rest (Bin op l two.value) a two.middle rest two.end in
              record {
                front = left.front ++ x ∷ right.front;
                split = left.split ∙ ap (λ (ts : Input). left.front ++ x ∷ ts) (right.split ∙ ap (λ (ts : Input). right.front ++ ts) behind) ∙ sym (append_assoc left.front (x ∷ right.front) rest);
                is = subst (λ (t : Tree). Pair sign Operand (left.front ++ x ∷ right.front) t) (same_value (Bin op l two.value) a two.middle rest two.end)
                    (compared left.front right.front x op l two.value left.is is right.is);
              }

module _ (sign : Terminal → Option BinOp) (operand : Parser Tree) (Operand : Input → Tree → Type 0) (goes_on : Terminal → Bool)
    (complete : Complete operand Operand goes_on) (apart : (x : Terminal) (op : BinOp) → sign x ≡ Some op → goes_on x ≡ false) where
  -- no operator of the chain is ahead
  abbrev pub is_sign : Terminal → Bool
  is_sign x = Rattle.std.specs.Option.is_some (sign x)

  -- the chain so far is read, and then goes on
  pub record GoesOn (ts : Input) (a : Tree) (rest : Input) : Type 0 where
    pub turns : ℕ
    pub enough : length rest ≤ turns
    pub on : chain sign operand (ts ++ rest) ≡ chain_from sign operand turns a rest

  chain-goes_on : (ts : Input) (a : Tree) → Chain sign Operand ts a → (rest : Input) → stops goes_on rest ≡ true → GoesOn ts a rest
  chain-goes_on ts a (alone _ _ h) rest st = record {
    turns = length rest;
    enough = omega arith;
    on = ap (λ (o : Parsed Tree). o >>= λ left rest. chain_from sign operand (length rest) left rest) (complete.reads ts a rest h st);
  }
  chain-goes_on _ _ (joined ts us x op a b c is h) rest st =
      let before = chain-goes_on ts a c (x ∷ us ++ rest) (ap (λ b. cond b false true) (apart x op is)) in
      let here = append_assoc ts (x ∷ us) rest in
      let lens = length-append us rest in
      go before.turns before.enough (ap (chain sign operand) here ∙ before.on)
    where
      go : (n : ℕ) → length (x ∷ us ++ rest) ≤ n → chain sign operand ((ts ++ x ∷ us) ++ rest) ≡ chain_from sign operand n a (x ∷ us ++ rest) → GoesOn (ts ++ x ∷ us) (Bin op a b) rest
      go zero en on = absurd (omega arith)
      go (suc n) en on =
          let lens = length-append us rest in
          record {
            turns = n;
            enough = omega arith;
            on = on ∙ ap (λ (o : Option BinOp). chain_by sign operand (chain_from sign operand n) a o (x ∷ us ++ rest)) is
                ∙ ap (λ (o : Parsed Tree). o >>= λ right. chain_from sign operand n (Bin op a right)) (complete.reads us b rest h st);
          }

  chain_from-stops : (n : ℕ) (a : Tree) (rest : Input) → stops is_sign rest ≡ true → chain_from sign operand n a rest ≡ Some (a, rest)
  chain_from-stops zero a rest st = refl
  chain_from-stops (suc n) a [] st = refl
  chain_from-stops (suc n) a (x ∷ rest) st = by (sign x) refl
    where
      by : (o : Option BinOp) → sign x ≡ o → chain_by sign operand (chain_from sign operand n) a o (x ∷ rest) ≡ Some (a, x ∷ rest)
      by None is = refl
      by (Some op) is = let t : Rattle.std.specs.Option.is_some (sign x) ≡ true = ap Rattle.std.specs.Option.is_some is in absurd (no (Rattle.std.specs.Option.is_some (sign x)) t st)
        where
          no : (b : Bool) → b ≡ true → cond b false true ≡ true → ⊥
          no true e f = cc
          no false e f = cc

  -- each chain is read
  pub chain-complete : Complete (chain sign operand) (Chain sign Operand) (either goes_on is_sign)
  chain-complete = record {
    reads = λ ts a rest c st.
        let all = chain-goes_on ts a c rest (stops-left goes_on is_sign rest st) in
        all.on ∙ chain_from-stops all.turns a rest (stops-right goes_on is_sign rest st);
  }

  -- each pair is read
  pub pair-complete : Complete (pair sign operand) (Pair sign Operand) (either goes_on is_sign)
  pair-complete = record { reads = read }
    where
      ends : (a : Tree) (rest : Input) → stops is_sign rest ≡ true → pair_by sign operand a (operator_ahead sign rest) rest ≡ Some (a, rest)
      ends a [] st = refl
      ends a (x ∷ rest) st = by (sign x) refl
        where
          by : (o : Option BinOp) → sign x ≡ o → pair_by sign operand a o (x ∷ rest) ≡ Some (a, x ∷ rest)
          by None is = refl
          by (Some op) is = let t : Rattle.std.specs.Option.is_some (sign x) ≡ true = ap Rattle.std.specs.Option.is_some is in absurd (no (Rattle.std.specs.Option.is_some (sign x)) t st)
            where
              no : (b : Bool) → b ≡ true → cond b false true ≡ true → ⊥
              no true e f = cc
              no false e f = cc

      read : (ts : Input) (a : Tree) (rest : Input) → Pair sign Operand ts a → stops (either goes_on is_sign) rest ≡ true → pair sign operand (ts ++ rest) ≡ Some (a, rest)
      read ts a rest (single _ _ h) st =
          ap (λ (o : Parsed Tree). o >>= λ left rest. pair_by sign operand left (operator_ahead sign rest) rest) (complete.reads ts a rest h (stops-left goes_on is_sign rest st))
          ∙ ends a rest (stops-right goes_on is_sign rest st)
      read _ _ rest (compared ts us x op a b h is k) st =
          ap (pair sign operand) (append_assoc ts (x ∷ us) rest)
          ∙ ap (λ (o : Parsed Tree). o >>= λ left rest. pair_by sign operand left (operator_ahead sign rest) rest) (complete.reads ts a (x ∷ us ++ rest) h (ap (λ b. cond b false true) (apart x op is)))
          ∙ ap (λ (o : Option BinOp). pair_by sign operand a o (x ∷ us ++ rest)) is
          ∙ ap (λ (o : Parsed Tree). o >>= λ right rest. Some (Bin op a right, rest)) (complete.reads us b rest k (stops-left goes_on is_sign rest st))

-- no operand is ahead
pub chain-none : (sign : Terminal → Option BinOp) (operand : Parser Tree) (i : Input) → operand i ≡ None → chain sign operand i ≡ None
chain-none sign operand i h = ap (λ (o : Parsed Tree). o >>= λ left rest. chain_from sign operand (length rest) left rest) h

pub pair-none : (sign : Terminal → Option BinOp) (operand : Parser Tree) (i : Input) → operand i ≡ None → pair sign operand i ≡ None
pair-none sign operand i h = ap (λ (o : Parsed Tree). o >>= λ left rest. pair_by sign operand left (operator_ahead sign rest) rest) h

-- ---- prefixes

-- each symbol is itself
pub symbol-self : (symbol : Symbol) → same_symbol symbol symbol ≡ true
unfolding same_symbol
symbol-self (Word word) = true_same keyword_type word word refl
symbol-self (Sign sign) = true_same sign_type sign sign refl

-- symbols that test as one are one
pub symbol-same : (found symbol : Symbol) → same_symbol found symbol ≡ true → found ≡ symbol
unfolding same_symbol
symbol-same (Word found) (Word other) e = ap Word (same_true keyword_type (search rules) found other e)
symbol-same (Word found) (Sign other) e = absurd (cc)
symbol-same (Sign found) (Word other) e = absurd (cc)
symbol-same (Sign found) (Sign other) e = ap Sign (same_true sign_type (search rules) found other e)

-- a terminal that tests as a symbol is it
pub is_symbol-same : (symbol : Symbol) (x : Terminal) → is_symbol symbol (Some x) ≡ true → x ≡ Fixed symbol
is_symbol-same symbol (Fixed found) e = ap Fixed (symbol-same found symbol e)
is_symbol-same symbol (Name text) e = absurd (cc)
is_symbol-same symbol (Number n) e = absurd (cc)
is_symbol-same symbol (Quoted text) e = absurd (cc)

module _ (symbol : Symbol) (node : Tree → Tree) (operand : Parser Tree) (Operand : Input → Tree → Type 0) where
  prefixed-reads : Sound operand Operand → (i : Input) (a : Tree) (rest : Input) → prefixed symbol node operand i ≡ Some (a, rest) → Reading (Prefixed symbol node Operand) i a rest
  prefixed-reads sound [] a rest e = let r = sound.reads [] a rest e in record { front = r.front; split = r.split; is = plain r.front a r.is }
  prefixed-reads sound (x ∷ i) a rest e = by (is_symbol symbol (Some x)) refl e (prefixed-reads sound i)
    where
      by : (t : Bool) → is_symbol symbol (Some x) ≡ t → cond t (prefixed symbol node operand i >>= λ b end. Some (node b, end)) (operand (x ∷ i)) ≡ Some (a, rest)
          → ((b : Tree) (end : Input) → prefixed symbol node operand i ≡ Some (b, end) → Reading (Prefixed symbol node Operand) i b end) → Reading (Prefixed symbol node Operand) (x ∷ i) a rest
      by false is e further = let r = sound.reads (x ∷ i) a rest e in record { front = r.front; split = r.split; is = plain r.front a r.is }
      by true is e further =
          let two = steps (prefixed symbol node operand i) (λ b end. Some (node b, end)) a rest e in
          let r = further two.value two.middle two.start in
          let head = is_symbol-same symbol x is in
          record {
            front = Fixed symbol ∷ r.front;
            split = (λ k. head k ∷ r.split k) ∙ ap (λ (end : Input). Fixed symbol ∷ r.front ++ end) (same_rest (node two.value) a two.middle rest two.end);
            is = subst (λ (t : Tree). Prefixed symbol node Operand (Fixed symbol ∷ r.front) t) (same_value (node two.value) a two.middle rest two.end) (behind r.front two.value r.is);
          }

  pub prefixed-sound : Sound operand Operand → Sound (prefixed symbol node operand) (Prefixed symbol node Operand)
  prefixed-sound sound = record { reads = prefixed-reads sound }

  prefixed-all : (goes_on : Terminal → Bool) → Complete operand Operand goes_on → ((i : Input) → operand (Fixed symbol ∷ i) ≡ None)
      → (ts : Input) (a : Tree) (rest : Input) → Prefixed symbol node Operand ts a → stops goes_on rest ≡ true → prefixed symbol node operand (ts ++ rest) ≡ Some (a, rest)
  prefixed-all goes_on complete refuses ts a rest (plain _ _ h) st = by (ts ++ rest) (complete.reads ts a rest h st)
    where
      by : (i : Input) → operand i ≡ Some (a, rest) → prefixed symbol node operand i ≡ Some (a, rest)
      by [] e = e
      by (x ∷ i) e = on (is_symbol symbol (Some x)) refl
        where
          on : (t : Bool) → is_symbol symbol (Some x) ≡ t → cond t (prefixed symbol node operand i >>= λ b end. Some (node b, end)) (operand (x ∷ i)) ≡ Some (a, rest)
          on false is = e
          on true is = let none = refuses i in let same = ap (λ (y : Terminal). operand (y ∷ i)) (is_symbol-same symbol x is) in absurd (cc)
  prefixed-all goes_on complete refuses _ _ rest (behind ts a h) st =
      ap (λ t. cond t (prefixed symbol node operand (ts ++ rest) >>= λ b end. Some (node b, end)) (operand (Fixed symbol ∷ ts ++ rest))) (symbol-self symbol)
      ∙ ap (λ (o : Parsed Tree). o >>= λ b end. Some (node b, end)) (prefixed-all goes_on complete refuses ts a rest h st)

  pub prefixed-complete : (goes_on : Terminal → Bool) → Complete operand Operand goes_on → ((i : Input) → operand (Fixed symbol ∷ i) ≡ None) → Complete (prefixed symbol node operand) (Prefixed symbol node Operand) goes_on
  prefixed-complete goes_on complete refuses = record { reads = prefixed-all goes_on complete refuses }

-- ---- single terminals

-- a phrase and what follows it, where a rule gave just that
pub finish : {A : Type 0} (Is : Input → A → Type 0) (i front end : Input) (a b : A) (rest : Input) → i ≡ front ++ end → Is front a → ◌≡◌ {A = Parsed A} (Some (a, end)) (Some (b, rest)) → Reading Is i b rest
finish Is i front end a b rest split is e = record {
  front = front;
  split = split ∙ ap (λ (ts : Input). front ++ ts) (same_rest a b end rest e);
  is = subst (λ t. Is front t) (same_value a b end rest e) is;
}

pub sees-is : (symbol : Symbol) (i : Input) → sees symbol i ≡ true → i ≡ Fixed symbol ∷ drop 1 i
sees-is symbol [] e = absurd (cc)
sees-is symbol (x ∷ i) e = ap (λ (y : Terminal). y ∷ i) (is_symbol-same symbol x e)

pub sees-it : (symbol : Symbol) (i : Input) → sees symbol (Fixed symbol ∷ i) ≡ true
sees-it symbol i = symbol-self symbol

pub expect-is : (symbol : Symbol) (i : Input) (u : Unit {0}) (rest : Input) → expect symbol i ≡ Some (u, rest) → i ≡ Fixed symbol ∷ rest
expect-is symbol i u rest e = by (sees symbol i) refl e
  where
    by : (t : Bool) → sees symbol i ≡ t → ◌≡◌ {A = Parsed (Unit {0})} (cond t (Some (tt, drop 1 i)) None) (Some (u, rest)) → i ≡ Fixed symbol ∷ rest
    by true is e = sees-is symbol i is ∙ ap (λ (ts : Input). Fixed symbol ∷ ts) (same_rest tt u (drop 1 i) rest e)
    by false is e = absurd (cc)

pub expect-it : (symbol : Symbol) (i : Input) → expect symbol (Fixed symbol ∷ i) ≡ Some (tt, i)
expect-it symbol i = ap (λ t. cond t (Some (tt, i)) None) (symbol-self symbol)

pub name-is : (i : Input) (n : List ℕ) (rest : Input) → name i ≡ Some (n, rest) → i ≡ Name n ∷ rest
name-is [] n rest e = absurd (cc)
name-is (Name m ∷ i) n rest e = λ k. Name (same_value m n i rest e k) ∷ same_rest m n i rest e k
name-is (Number m ∷ i) n rest e = absurd (cc)
name-is (Quoted m ∷ i) n rest e = absurd (cc)
name-is (Fixed m ∷ i) n rest e = absurd (cc)

pub number-is : (i : Input) (n : ℕ) (rest : Input) → number i ≡ Some (n, rest) → i ≡ Number n ∷ rest
number-is [] n rest e = absurd (cc)
number-is (Number m ∷ i) n rest e = λ k. Number (same_value m n i rest e k) ∷ same_rest m n i rest e k
number-is (Name m ∷ i) n rest e = absurd (cc)
number-is (Quoted m ∷ i) n rest e = absurd (cc)
number-is (Fixed m ∷ i) n rest e = absurd (cc)

-- the symbol that is ahead is the first terminal
pub symbol_ahead-is : (symbol : Symbol) (i : Input) → symbol_ahead i ≡ Some symbol → i ≡ Fixed symbol ∷ drop 1 i
symbol_ahead-is symbol [] e = absurd (cc)
symbol_ahead-is symbol (Fixed found ∷ i) e = let same : found ≡ symbol = cc in ap (λ (s : Symbol). Fixed s ∷ i) same
symbol_ahead-is symbol (Name text ∷ i) e = absurd (cc)
symbol_ahead-is symbol (Number n ∷ i) e = absurd (cc)
symbol_ahead-is symbol (Quoted text ∷ i) e = absurd (cc)

-- the symbol that had to come next, and the terminals behind it
pub record Expected {B : Type 0} (symbol : Symbol) (f : Parser B) (i : Input) (b : B) (rest : Input) : Type 0 where
  pub behind : Input
  pub split : i ≡ Fixed symbol ∷ behind
  pub on : f behind ≡ Some (b, rest)

pub expect-then : {B : Type 0} (symbol : Symbol) (f : Parser B) (i : Input) (b : B) (rest : Input) → (expect symbol i >>= λ _ behind. f behind) ≡ Some (b, rest) → Expected symbol f i b rest
expect-then symbol f i b rest e =
    let two = steps (expect symbol i) (λ _ behind. f behind) b rest e in
    record { behind = two.middle; split = expect-is symbol i two.value two.middle two.start; on = two.end }

-- the name that had to come next, and the terminals behind it
pub record Named {B : Type 0} (f : List ℕ → Parser B) (i : Input) (b : B) (rest : Input) : Type 0 where
  pub text : List ℕ
  pub behind : Input
  pub split : i ≡ Name text ∷ behind
  pub on : f text behind ≡ Some (b, rest)

pub name-then : {B : Type 0} (f : List ℕ → Parser B) (i : Input) (b : B) (rest : Input) → (name i >>= f) ≡ Some (b, rest) → Named f i b rest
name-then f i b rest e =
    let two = steps (name i) f b rest e in
    record { text = two.value; behind = two.middle; split = name-is i two.value two.middle two.start; on = two.end }

-- ---- parentheses

-- a phrase, and the closing parenthesis behind it
pub data IsClosed {A : Type 0} (Is : Input → A → Type 0) : Input → A → Type 0 where
  closed : (ts : Input) (a : A) → Is ts a → IsClosed Is (ts ++ Fixed s.CloseParen ∷ []) a

-- a phrase in parentheses
pub data IsEnclosed {A : Type 0} (Is : Input → A → Type 0) : Input → A → Type 0 where
  enclosed : (ts : Input) (a : A) → Is ts a → IsEnclosed Is (Fixed s.OpenParen ∷ ts ++ Fixed s.CloseParen ∷ []) a

module _ {A : Type 0} (inside : Parser A) (Is : Input → A → Type 0) where
  pub closed-reads : Sound inside Is → (i : Input) (a : A) (rest : Input) → (inside i >>= λ a end. expect s.CloseParen end >>= λ _ behind. Some (a, behind)) ≡ Some (a, rest) → Reading (IsClosed Is) i a rest
  closed-reads sound i a rest e =
      let two = steps (inside i) (λ a end. expect s.CloseParen end >>= λ _ behind. Some (a, behind)) a rest e in
      let r = sound.reads i two.value two.middle two.start in
      let end = expect-then s.CloseParen (λ behind. Some (two.value, behind)) two.middle a rest two.end in
      finish (IsClosed Is) i (r.front ++ Fixed s.CloseParen ∷ []) end.behind two.value a rest
      (r.split ∙ ap (λ (ts : Input). r.front ++ ts) end.split ∙ sym (append_assoc r.front (Fixed s.CloseParen ∷ []) end.behind)) (closed r.front two.value r.is) end.on

  open-IsEnclosed : (ts : Input) (a : A) → IsClosed Is ts a → IsEnclosed Is (Fixed s.OpenParen ∷ ts) a
  open-IsEnclosed _ _ (closed ts a h) = enclosed ts a h

  -- what is read in parentheses is such a phrase
  pub in_parens-sound : Sound inside Is → Sound (in_parens inside) (IsEnclosed Is)
  in_parens-sound sound = record {
    reads = λ i a rest e.
        let start = expect-then s.OpenParen (λ behind. inside behind >>= λ a end. expect s.CloseParen end >>= λ _ behind. Some (a, behind)) i a rest e in
        let r = closed-reads sound start.behind a rest start.on in
        record {
          front = Fixed s.OpenParen ∷ r.front;
          split = start.split ∙ ap (λ (ts : Input). Fixed s.OpenParen ∷ ts) r.split;
          is = open-IsEnclosed r.front a r.is;
        };
  }

  -- each phrase in parentheses is read
  pub closed-all : (goes_on : Terminal → Bool) → Complete inside Is goes_on → goes_on (Fixed s.CloseParen) ≡ false → (ts : Input) (a : A) (rest : Input) → Is ts a
      → (inside ((ts ++ Fixed s.CloseParen ∷ []) ++ rest) >>= λ a end. expect s.CloseParen end >>= λ _ behind. Some (a, behind)) ≡ Some (a, rest)
  unfolding same_symbol
  closed-all goes_on complete closing ts a rest h =
      ap (λ (o : Parsed A). o >>= λ a end. expect s.CloseParen end >>= λ _ behind. Some (a, behind))
      (ap inside (append_assoc ts (Fixed s.CloseParen ∷ []) rest) ∙ complete.reads ts a (Fixed s.CloseParen ∷ rest) h (ap (λ b. cond b false true) closing))

  pub in_parens-all : (goes_on : Terminal → Bool) → Complete inside Is goes_on → goes_on (Fixed s.CloseParen) ≡ false → (ts : Input) (a : A) (rest : Input) → Is ts a
      → in_parens inside (Fixed s.OpenParen ∷ (ts ++ Fixed s.CloseParen ∷ []) ++ rest) ≡ Some (a, rest)
  unfolding same_symbol
  in_parens-all goes_on complete closing ts a rest h = closed-all goes_on complete closing ts a rest h

-- nothing is read in parentheses where nothing stands in them
pub in_parens-none : {A : Type 0} (inside : Parser A) (i : Input) → ((j : Input) → inside j ≡ None) → in_parens inside i ≡ None
in_parens-none {A = A} inside i none = by (sees s.OpenParen i)
  where
    by : (t : Bool) → (cond {A = Parsed (Unit {0})} t (Some (tt, drop 1 i)) None >>= λ _ rest. inside rest >>= λ a end. expect s.CloseParen end >>= λ _ behind. Some (a, behind)) ≡ None
    by true = ap (λ (o : Parsed A). o >>= λ a end. expect s.CloseParen end >>= λ _ behind. Some (a, behind)) (none (drop 1 i))
    by false = refl

-- a word, and what stands in parentheses behind it
pub word-reads : {A B : Type 0} (symbol : Symbol) (Is : Input → A → Type 0) (node : A → B) (Phrase : Input → B → Type 0)
    → ((ts : Input) (a : A) → Is ts a → Phrase (Fixed symbol ∷ Fixed s.OpenParen ∷ ts ++ Fixed s.CloseParen ∷ []) (node a))
    → (i : Input) (a : A) (rest : Input) → Reading (IsEnclosed Is) i a rest → Reading Phrase (Fixed symbol ∷ i) (node a) rest
word-reads {A = A} symbol Is node Phrase make i a rest r = record { front = Fixed symbol ∷ r.front; split = ap (λ (ts : Input). Fixed symbol ∷ ts) r.split; is = by r.front a r.is }
  where
    by : (ts : Input) (a : A) → IsEnclosed Is ts a → Phrase (Fixed symbol ∷ ts) (node a)
    by _ _ (enclosed ts a h) = make ts a h

-- ---- a word that isn't reserved, and what stands in parentheses behind it

pub record Worded {B : Type 0} (wanted : List ℕ) (f : Parser B) (i : Input) (b : B) (rest : Input) : Type 0 where
  pub text : List ℕ
  pub is : is_word wanted text ≡ true
  pub behind : Input
  pub split : i ≡ Name text ∷ behind
  pub on : f behind ≡ Some (b, rest)

pub word-then : {B : Type 0} (wanted : List ℕ) (f : Parser B) (i : Input) (b : B) (rest : Input) → (word wanted i >>= λ _ behind. f behind) ≡ Some (b, rest) → Worded wanted f i b rest
word-then wanted f [] b rest e = absurd (cc)
word-then wanted f (Number n ∷ i) b rest e = absurd (cc)
word-then wanted f (Quoted n ∷ i) b rest e = absurd (cc)
word-then wanted f (Fixed n ∷ i) b rest e = absurd (cc)
word-then {B = B} wanted f (Name text ∷ i) b rest e = by (is_word wanted text) refl e
  where
    by : (t : Bool) → is_word wanted text ≡ t → (cond {A = Parsed (Unit {0})} t (Some (tt, i)) None >>= λ _ behind. f behind) ≡ Some (b, rest) → Worded wanted f (Name text ∷ i) b rest
    by true is e = record { text = text; is = is; behind = i; split = refl; on = e }
    by false is e = absurd (cc)

enclosed-Called : {A : Type 0} (wanted : List ℕ) (Is : Input → A → Type 0) (text : List ℕ) → is_word wanted text ≡ true → (ts : Input) (a : A) → IsEnclosed Is ts a → Called wanted Is (Name text ∷ ts) a
enclosed-Called wanted Is text is _ _ (enclosed ts a h) = called text ts a is h

module _ {A : Type 0} (wanted : List ℕ) (inside : Parser A) (Is : Input → A → Type 0) where
  pub called-sound : Sound inside Is → Sound (d.called wanted inside) (Called wanted Is)
  called-sound sound = record {
    reads = λ i a rest e.
        let w = word-then wanted (in_parens inside) i a rest e in
        let r = (in_parens-sound inside Is sound).reads w.behind a rest w.on in
        record {
          front = Name w.text ∷ r.front;
          split = w.split ∙ ap (λ (ts : Input). Name w.text ∷ ts) r.split;
          is = enclosed-Called wanted Is w.text w.is r.front a r.is;
        };
  }

  pub called-all : (goes_on : Terminal → Bool) → Complete inside Is goes_on → goes_on (Fixed s.CloseParen) ≡ false → (ts : Input) (a : A) (rest : Input) → Called wanted Is ts a → d.called wanted inside (ts ++ rest) ≡ Some (a, rest)
  called-all goes_on complete closing _ _ rest (called text ts a is h) =
      ap (λ t. cond {A = Parsed (Unit {0})} t (Some (tt, Fixed s.OpenParen ∷ (ts ++ Fixed s.CloseParen ∷ []) ++ rest)) None >>= λ _ behind. in_parens inside behind) is
      ∙ in_parens-all inside Is goes_on complete closing ts a rest h

pub quoted-is : (i : Input) (text : List ℕ) (rest : Input) → d.quoted i ≡ Some (text, rest) → i ≡ Quoted text ∷ rest
quoted-is [] n rest e = absurd (cc)
quoted-is (Quoted m ∷ i) n rest e = λ k. Quoted (same_value m n i rest e k) ∷ same_rest m n i rest e k
quoted-is (Name m ∷ i) n rest e = absurd (cc)
quoted-is (Number m ∷ i) n rest e = absurd (cc)
quoted-is (Fixed m ∷ i) n rest e = absurd (cc)
