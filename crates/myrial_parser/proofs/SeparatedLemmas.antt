-- Lists with commas: what the descent reads is such a list, and each list is read.
use Rattle.std.proofs.Common.{◌≡◌, ℕ, zero, suc, ◌<◌, ◌≤◌, Bool, true, false, cond, List, [], ◌∷◌, ◌++◌, drop, length, Some, refl, sym, ap, ◌∙◌, append_assoc, length-append, arith}
use Rattle.myrial_parser.specs.Symbols as s
use Rattle.myrial_parser.specs.Terminals.{Terminal, Fixed}
use Rattle.myrial_parser.specs.Phrases.{Separated, last, more}
use Rattle.myrial_parser.specs.inner.Descent.{Input, Parsed, Parser, ◌>>=◌, is_symbol, sees, separated, separated_from}
use Rattle.myrial_parser.proofs.ParserLemmas.{Reading, Sound, Complete, stops, either, stops-left, stops-right, steps, finish, sees-is, sees-it}

abbrev pub is_comma : Terminal → Bool
is_comma x = is_symbol s.Comma (Some x)

module _ {A : Type 0} (item : Parser A) (Item : Input → A → Type 0) where
  separated_from-reads : Sound item Item → (n : ℕ) (i : Input) (all : List A) (rest : Input) → separated_from item n i ≡ Some (all, rest) → Reading (Separated Item) i all rest
  separated_from-reads sound zero i all rest e = absurd (cc)
  separated_from-reads sound (suc n) i all rest e =
      let two = steps (item i) (λ a rest. cond (sees s.Comma rest) (separated_from item n (drop 1 rest) >>= λ others end. Some (a ∷ others, end)) (Some (a ∷ [], rest))) all rest e in
      let head = sound.reads i two.value two.middle two.start in
      by two.value two.middle head (separated_from-reads sound n (drop 1 two.middle)) (sees s.Comma two.middle) refl two.end
    where
      by : (a : A) (middle : Input) → Reading Item i a middle → ((others : List A) (end : Input) → separated_from item n (drop 1 middle) ≡ Some (others, end) → Reading (Separated Item) (drop 1 middle) others end)
          → (t : Bool) → sees s.Comma middle ≡ t → cond t (separated_from item n (drop 1 middle) >>= λ others end. Some (a ∷ others, end)) (Some (a ∷ [], middle)) ≡ Some (all, rest)
          → Reading (Separated Item) i all rest
      by a middle head further false is e = finish (Separated Item) i head.front middle (a ∷ []) all rest head.split (last head.front a head.is) e
      by a middle head further true is e =
          let two = steps (separated_from item n (drop 1 middle)) (λ others end. Some (a ∷ others, end)) all rest e in
          let others = further two.value two.middle two.start in
          let split = head.split ∙ ap (λ (ts : Input). head.front ++ ts) (sees-is s.Comma middle is ∙ ap (λ (ts : Input). Fixed s.Comma ∷ ts) others.split) ∙ sym (append_assoc head.front (Fixed s.Comma ∷ others.front) two.middle) in
          finish (Separated Item) i (head.front ++ Fixed s.Comma ∷ others.front) two.middle (a ∷ two.value) all rest split (more head.front others.front a two.value head.is others.is) two.end

  pub separated-sound : Sound item Item → Sound (separated item) (Separated Item)
  separated-sound sound = record { reads = λ i all rest e. separated_from-reads sound (length i) i all rest e }

  module _ (goes_on : Terminal → Bool) (complete : Complete item Item goes_on) (apart : goes_on (Fixed s.Comma) ≡ false) (some : (ts : Input) (a : A) → Item ts a → 0 < length ts) where
    unseen : (rest : Input) → stops is_comma rest ≡ true → sees s.Comma rest ≡ false
    unseen [] e = refl
    unseen (x ∷ rest) e = by (is_comma x) e
      where
        by : (t : Bool) → cond t false true ≡ true → t ≡ false
        by true e = absurd (cc)
        by false e = refl

    separated_from-all : (n : ℕ) (ts : Input) (all : List A) (rest : Input) → length ts ≤ n → Separated Item ts all → stops (either goes_on is_comma) rest ≡ true → separated_from item n (ts ++ rest) ≡ Some (all, rest)
    separated_from-all zero ts all rest short (last _ a h) st = let k = some ts a h in absurd (omega arith)
    separated_from-all (suc n) ts all rest short (last _ a h) st =
        ap (λ (o : Parsed A). o >>= λ a rest. cond (sees s.Comma rest) (separated_from item n (drop 1 rest) >>= λ others end. Some (a ∷ others, end)) (Some (a ∷ [], rest)))
        (complete.reads ts a rest h (stops-left goes_on is_comma rest st))
        ∙ ap (λ t. cond t (separated_from item n (drop 1 rest) >>= λ others end. Some (a ∷ others, end)) (Some (a ∷ [], rest))) (unseen rest (stops-right goes_on is_comma rest st))
    separated_from-all zero _ _ rest short (more ts us a others h k) st = let l = length-append ts (Fixed s.Comma ∷ us) in absurd (omega arith)
    separated_from-all (suc n) _ _ rest short (more ts us a others h k) st =
        let l = length-append ts (Fixed s.Comma ∷ us) in
        let m = some ts a h in
        ap (separated_from item (suc n)) (append_assoc ts (Fixed s.Comma ∷ us) rest)
        ∙ ap (λ (o : Parsed A). o >>= λ a rest. cond (sees s.Comma rest) (separated_from item n (drop 1 rest) >>= λ others end. Some (a ∷ others, end)) (Some (a ∷ [], rest)))
        (complete.reads ts a (Fixed s.Comma ∷ us ++ rest) h (ap (λ b. cond b false true) apart))
        ∙ ap (λ t. cond t (separated_from item n (us ++ rest) >>= λ others end. Some (a ∷ others, end)) (Some (a ∷ [], Fixed s.Comma ∷ us ++ rest))) (sees-it s.Comma (us ++ rest))
        ∙ ap (λ (o : Parsed (List A)). o >>= λ others end. Some (a ∷ others, end)) (separated_from-all n us others rest (omega arith) k st)

    pub separated-complete : Complete (separated item) (Separated Item) (either goes_on is_comma)
    separated-complete = record {
      reads = λ ts all rest h st.
          let l = length-append ts rest in separated_from-all (length (ts ++ rest)) ts all rest (omega arith) h st;
    }
