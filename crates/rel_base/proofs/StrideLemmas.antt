-- Items whose place leaves one remainder stand a step apart.
use Rattle.std.proofs.Common.{◌≡◌, ◌∙◌, ℕ, zero, suc, ◌+◌, ◌-◌, ◌*◌, ◌%◌, ◌^◌, ◌<◌, ◌≤◌, ◌==◌, Bool, true, false, nat_eq, nat_lt, List, [], ◌∷◌, ◌++◌, length, take, drop, map, filter, All, refl, sym, ap, arith, append-nil, length-append}
use Rattle.std.specs.List.{enumerate_from}
use Rattle.std.proofs.lemmas.List.{length-map, map-append}
use Rattle.std.proofs.lemmas.List.Concat.{flat_map-append}
use Rattle.std.proofs.lemmas.List.Elements.{filter-append}
use Rattle.std.proofs.lemmas.List.FromFn.{length-enumerate_from}
use Rattle.std.proofs.lemmas.List.Sums.{count_by-le-length, length-filter}
use Rattle.std.proofs.Math.Nat.{mod-add-mod, mod-eq_of_lt, add-mod_right}
use Rattle.std.proofs.lemmas.Bool.{eqb-true, eq-eqb, ltb-true, ltb-false}
use Rattle.rel_base.specs.Picks.{items_at, every_nth}
use Rattle.rel_base.specs.inner.Strides.{stepped}
use Rattle.rel_base.proofs.PickLemmas.{get_or-stepped, length-stepped, one_item, rest_within, some_item, stepped_more}

-- a number and one that is less than a step behind it leave different remainders
another_remainder : (k g s t : ℕ) → s < t → suc g < t → k % t ≡ s → (k + suc g) % t ≡ s → ⊥
another_remainder k g s t low less here there = by (nat_lt (s + suc g) t) refl
  where
    both : (s + suc g) % t ≡ s
    both = ap (λ r. (r + suc g) % t) (sym here) ∙ mod-add-mod k t (suc g) ∙ there

    by : (b : Bool) → nat_lt (s + suc g) t ≡ b → ⊥
    by true e = omega (arith, mod-eq_of_lt (ltb-true (s + suc g) t e), both)
    by false e =
        let from = ltb-false (s + suc g) t e in
        let back : (s + suc g - t) % t ≡ s = sym (add-mod_right (s + suc g - t) t) ∙ ap (λ n. n % t) (omega (arith, from)) ∙ both in
        let small : s + suc g - t < t = omega (arith, low, less, from) in
        omega (arith, back, mod-eq_of_lt small, from, less)

same_number : (a b : ℕ) → a ≡ b → (a == b) ≡ true
same_number a b e = eq-eqb a b e

other_number : (a b : ℕ) → (a ≡ b → ⊥) → (a == b) ≡ false
other_number a b other = by (nat_eq a b) refl
  where
    by : (r : Bool) → nat_eq a b ≡ r → (a == b) ≡ false
    by true e = absurd (other (eqb-true a b e))
    by false e = e

module _ {X : Type 0} where
  -- so many items passed over, then one taken, and so on a step apart
  abbrev passing : List X → ℕ → ℕ → List X
  passing [] gap step = []
  passing (x ∷ xs) zero step = x ∷ passing xs (step - 1) step
  passing (x ∷ xs) (suc gap) step = passing xs gap step

  by_gap : (xs : List X) (k gap s t : ℕ) → s < t → gap < t → (k + gap) % t ≡ s
      → map (λ e. e.1) (filter (λ e. e.0 % t == s) (enumerate_from k xs)) ≡ passing xs gap t
  by_gap [] k gap s t low less e = refl
  by_gap (x ∷ xs) k zero s t low less e =
      let here : k % t ≡ s = ap (λ n. n % t) (omega arith) ∙ e in
      let next : (k + 1 + (t - 1)) % t ≡ s = ap (λ n. n % t) (omega (arith, low)) ∙ add-mod_right k t ∙ here in
      rw (same_number (k % t) s here) (ap (λ ys. x ∷ ys) (by_gap xs (k + 1) (t - 1) s t low (omega (arith, low)) next))
  by_gap (x ∷ xs) k (suc gap) s t low less e =
      let next : (k + 1 + gap) % t ≡ s = ap (λ n. n % t) (omega arith) ∙ e in
      rw (other_number (k % t) s (λ h. another_remainder k gap s t low less h e)) (by_gap xs (k + 1) gap s t low (omega (arith, less)) next)

  no_items : (places : List ℕ) → items_at {X = X} [] places ≡ []
  no_items [] = refl
  no_items (zero ∷ places) = no_items places
  no_items (suc p ∷ places) = no_items places

  later_items : (x : X) (xs : List X) (start step n : ℕ) → items_at (x ∷ xs) (stepped (suc start) step n) ≡ items_at xs (stepped start step n)
  later_items x xs start step zero = refl
  later_items x xs start step (suc n) =
      let next : suc start + step ≡ suc (start + step) = omega arith in
      ap (λ m. take 1 (drop start xs) ++ items_at (x ∷ xs) (stepped m step n)) next
      ∙ ap (λ ys. take 1 (drop start xs) ++ ys) (later_items x xs (start + step) step n)

  by_places : (xs : List X) (gap step n : ℕ) → 0 < step → length xs ≤ gap + step * n → passing xs gap step ≡ items_at xs (stepped gap step n)
  by_places [] gap step n some far = sym (no_items (stepped gap step n))
  by_places (x ∷ xs) zero step zero some far = absurd (omega (arith, far))
  by_places (x ∷ xs) zero zero (suc n) some far = absurd (omega (arith, some))
  by_places (x ∷ xs) zero (suc t) (suc n) some far =
      let next : suc t ≡ 0 + suc t = omega arith in
      let back : suc t - 1 ≡ t = omega arith in
      ap (λ gap. x ∷ passing xs gap (suc t)) back
      ∙ ap (λ ys. x ∷ ys) (by_places xs t (suc t) n some (omega (arith, far)) ∙ sym (later_items x xs t (suc t) n)
      ∙ ap (λ m. items_at (x ∷ xs) (stepped m (suc t) n)) next)
  by_places (x ∷ xs) (suc gap) step n some far =
      by_places xs gap step n some (omega (arith, far)) ∙ sym (later_items x xs gap step n)

  -- the items whose place leaves a remainder are those behind the first gap, and then a step apart
  every_nth-passing : (xs : List X) (step start : ℕ) → start < step → every_nth xs step start ≡ passing xs start step
  every_nth-passing xs step start low =
      by_gap xs 0 start start step low low (ap (λ n. n % step) (omega arith) ∙ mod-eq_of_lt low)

  -- the items whose place leaves a remainder stand a step apart, from the remainder on
  pub every_nth-stepped : (xs : List X) (step start n : ℕ) → start < step → length xs ≤ start + step * n
      → every_nth xs step start ≡ items_at xs (stepped start step n)
  every_nth-stepped xs step start n low far =
      every_nth-passing xs step start low ∙ by_places xs start step n (omega (arith, low)) far

  numbered-append : (k : ℕ) (xs ys : List X) → enumerate_from k (xs ++ ys) ≡ enumerate_from k xs ++ enumerate_from (k + length xs) ys
  numbered-append k [] ys = ap (λ n. enumerate_from n ys) (omega arith)
  numbered-append k (x ∷ xs) ys =
      ap (λ es. (k, x) ∷ es) (numbered-append (k + 1) xs ys ∙ ap (λ n. enumerate_from (k + 1) xs ++ enumerate_from n ys) (omega arith))

  numbered_apart : (xs ys : List X) (step start : ℕ) → every_nth (xs ++ ys) step start
      ≡ every_nth xs step start ++ map (λ e. e.1) (filter (λ e. e.0 % step == start) (enumerate_from (length xs) ys))
  numbered_apart xs ys step start =
      let from : 0 + length xs ≡ length xs = omega arith in
      ap (λ es. map (λ e. e.1) (filter (λ e. e.0 % step == start) es)) (numbered-append 0 xs ys)
      ∙ ap (λ n. map (λ e. e.1) (filter (λ e. e.0 % step == start) (enumerate_from 0 xs ++ enumerate_from n ys))) from
      ∙ ap (map (λ e. e.1)) (filter-append (λ e. e.0 % step == start) (enumerate_from 0 xs) (enumerate_from (length xs) ys))
      ∙ map-append (λ e. e.1) (filter (λ e. e.0 % step == start) (enumerate_from 0 xs)) (filter (λ e. e.0 % step == start) (enumerate_from (length xs) ys))

  -- of two lists together: behind the first the places are counted on
  pub every_nth-append : (xs ys : List X) (step start next : ℕ) → start < step → next < step → (length xs + next) % step ≡ start
      → every_nth (xs ++ ys) step start ≡ every_nth xs step start ++ every_nth ys step next
  every_nth-append xs ys step start next low low2 e =
      let back = by_gap ys (length xs) next start step low low2 e ∙ sym (every_nth-passing ys step next low2) in
      numbered_apart xs ys step start ∙ ap (λ zs. every_nth xs step start ++ zs) back

  -- the first list gives no more than both
  pub every_nth-front : (xs ys : List X) (step start : ℕ) → length (every_nth xs step start) ≤ length (every_nth (xs ++ ys) step start)
  every_nth-front xs ys step start =
      let behind = map (λ e. e.1) (filter (λ e. e.0 % step == start) (enumerate_from (length xs) ys)) in
      omega (arith, ap length (numbered_apart xs ys step start), length-append (every_nth xs step start) behind)

  -- no more items than there are
  pub length-every_nth : (xs : List X) (step start : ℕ) → length (every_nth xs step start) ≤ length xs
  length-every_nth xs step start =
      let passed = filter (λ e. e.0 % step == start) (enumerate_from 0 xs) in
      omega (
        arith,
        length-map passed (λ e. e.1),
        length-filter (λ e. e.0 % step == start) (enumerate_from 0 xs),
        count_by-le-length (λ e. e.0 % step == start) (enumerate_from 0 xs),
        length-enumerate_from 0 xs,
      )

  within_passing : (P : X → Type 0) (xs : List X) (gap step : ℕ) → All P xs → All P (passing xs gap step)
  within_passing P [] gap step all k d low = all k d low
  within_passing P (x ∷ xs) zero step all zero d low = all 0 d (omega arith)
  within_passing P (x ∷ xs) zero step all (suc k) d low =
      within_passing P xs (step - 1) step (λ j e less. all (suc j) e (omega (arith, less))) k d (omega (arith, low))
  within_passing P (x ∷ xs) (suc gap) step all k d low =
      within_passing P xs gap step (λ j e less. all (suc j) e (omega (arith, less))) k d low

  -- what holds of all items holds of those whose place leaves a remainder
  pub All-every_nth : (P : X → Type 0) (xs : List X) (step start : ℕ) → start < step → All P xs → All P (every_nth xs step start)
  All-every_nth P xs step start low all = rw (every_nth-passing xs step start low) (within_passing P xs start step all)

  -- one place more
  pub items_at-one_more : (xs : List X) (start step i : ℕ) (x : X) → take 1 (drop (start + step * i) xs) ≡ x ∷ []
      → items_at xs (stepped start step i) ++ x ∷ [] ≡ items_at xs (stepped start step (i + 1))
  items_at-one_more xs start step i x at =
      let next : suc i ≡ i + 1 = omega arith in
      ap (λ ys. items_at xs (stepped start step i) ++ ys) (sym (append-nil (x ∷ [])) ∙ ap (λ ys. ys ++ []) (sym at))
      ∙ sym (flat_map-append (λ p. take 1 (drop p xs)) (stepped start step i) ((start + step * i) ∷ []))
      ∙ ap (items_at xs) (sym (stepped_more start step i) ∙ ap (stepped start step) next)

-- the items at places whose number leaves a remainder
items_at-passing : {X : Type 0} (xs : List X) (ps : List ℕ) (gap step : ℕ) → All (λ p. p < length xs) ps
    → items_at xs (passing ps gap step) ≡ passing (items_at xs ps) gap step
items_at-passing xs [] gap step within = refl
items_at-passing xs (p ∷ ps) zero step within =
    let one = some_item xs p (within 0 0 (omega arith)) in
    rw one.1 (ap (λ ys. one.0 ∷ ys) (items_at-passing xs ps (step - 1) step (rest_within xs p ps within)))
items_at-passing xs (p ∷ ps) (suc gap) step within =
    let one = some_item xs p (within 0 0 (omega arith)) in
    rw one.1 (items_at-passing xs ps gap step (rest_within xs p ps within))

pub items_at-every_nth : {X : Type 0} (xs : List X) (ps : List ℕ) (step start : ℕ) → start < step → All (λ p. p < length xs) ps
    → items_at xs (every_nth ps step start) ≡ every_nth (items_at xs ps) step start
items_at-every_nth xs ps step start low within =
    ap (items_at xs) (every_nth-passing ps step start low) ∙ items_at-passing xs ps start step within
    ∙ sym (every_nth-passing (items_at xs ps) step start low)

-- of places a step apart those a step apart are so again
stepped_again : (first apart len start step n : ℕ) → ((i : ℕ) → i < n → start + step * i < len)
    → items_at (stepped first apart len) (stepped start step n) ≡ stepped (first + apart * start) (apart * step) n
stepped_again first apart len start step zero inside = refl
stepped_again first apart len start step (suc n) inside =
    let low : start < len = omega (arith, inside 0 (omega arith)) in
    let low2 : start < length (stepped first apart len) = omega (arith, low, length-stepped first apart len) in
    let here = one_item (stepped first apart len) start 0 low2 ∙ ap (λ p. p ∷ []) (get_or-stepped first apart len start 0 low) in
    let next : first + apart * (start + step) ≡ first + apart * start + apart * step = omega arith in
    let rest = stepped_again first apart len (start + step) step n (λ i less. omega (arith, inside (suc i) (omega (arith, less)))) in
    rw here (ap (λ ps. (first + apart * start) ∷ ps) (rest ∙ ap (λ k. stepped k (apart * step) n) next))

-- the same with numbers that are reduced: of fewer than two places the step doesn't matter, and of none the start
pub every_nth-places : (first apart len step start n : ℕ) → start < step → len ≤ start + step * n
    → ((i : ℕ) → i < n → start + step * i < len) → All (λ p. p < 2 ^ 32) (stepped first apart len)
    → every_nth (stepped first apart len) step start
    ≡ stepped ((first + apart * start % 2 ^ 32) % 2 ^ 32) (apart * step % 2 ^ 32) n
every_nth-places first apart len step start n low enough inside within =
    every_nth-stepped (stepped first apart len) step start n low (omega (arith, enough, length-stepped first apart len))
    ∙ stepped_again first apart len start step n inside ∙ by n inside
  where
    place : (i : ℕ) → i < len → first + apart * i < 2 ^ 32
    place i less =
        let less2 : i < length (stepped first apart len) = omega (arith, less, length-stepped first apart len) in
        omega (arith, within i 0 less2, get_or-stepped first apart len i 0 less)

    begin : start < len → (first + apart * start % 2 ^ 32) % 2 ^ 32 ≡ first + apart * start
    begin less =
        let whole = place start less in
        let part : apart * start < 2 ^ 32 = omega (arith, whole) in
        rw (mod-eq_of_lt part) (mod-eq_of_lt whole)

    by : (m : ℕ) → ((i : ℕ) → i < m → start + step * i < len)
        → stepped (first + apart * start) (apart * step) m ≡ stepped ((first + apart * start % 2 ^ 32) % 2 ^ 32) (apart * step % 2 ^ 32) m
    by zero all = refl
    by (suc zero) all = ap (λ p. p ∷ []) (sym (begin (omega (arith, all 0 (omega arith)))))
    by (suc (suc m)) all =
        let first_in : start < len = omega (arith, all 0 (omega arith)) in
        let second_in : start + step < len = omega (arith, all 1 (omega arith)) in
        let both : first + apart * (start + step) < 2 ^ 32 = place (start + step) second_in in
        let apart_too : apart * step < 2 ^ 32 = omega (arith, both) in
        rw (begin first_in, mod-eq_of_lt apart_too) refl
