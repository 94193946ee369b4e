-- Lists put together: where each begins, and which item stands where.
use Rattle.std.proofs.Common.{◌≡◌, ◌∙◌, ℕ, zero, suc, ◌+◌, ◌-◌, ◌^◌, ◌<◌, ◌≤◌, List, [], ◌∷◌, ◌++◌, length, get_or, take, drop, map, All, refl, sym, ap, arith, length-append, append-nil, nat_lt, Bool, true, false}
use Rattle.std.proofs.lemmas.List.Concat.{get_or-flat_map, flat_map-append}
use Rattle.std.proofs.lemmas.List.{take_more, get_or_default, get_or-map, length-map, length-take, get_or-take, take-append-le, get_or-append_right}
use Rattle.std.proofs.lemmas.Bool.{ltb-true, ltb-false}
use Rattle.std.proofs.Math.ListN.{get_or-append}
use Rattle.std.proofs.Math.Seq.{take-append-add, take-add}
use Rattle.rel_base.specs.Picks.{items_at, joined}
use Rattle.rel_base.specs.inner.Starts.{AreStarts}
use Rattle.rel_base.proofs.PickLemmas.{one_item, some_item}

module _ {X : Type 0} where
  pub length-joined-more : (xss : List (List X)) (k : ℕ) (d : List X) → k < length xss
      → length (joined (take (k + 1) xss)) ≡ length (joined (take k xss)) + length (get_or xss k d)
  length-joined-more xss k d low =
      ap (λ ys. length (joined ys)) (take_more xss k d low)
      ∙ ap length (flat_map-append (λ xs. xs) (take k xss) (get_or xss k d ∷ []))
      ∙ length-append (joined (take k xss)) (get_or xss k d ++ [])
      ∙ ap (λ ys. length (joined (take k xss)) + length ys) (append-nil (get_or xss k d))

  -- an item of the lists together is an item of one of them
  pub item_of_list : (xss : List (List X)) (k start i : ℕ) (d : X) → k < length xss → start ≡ length (joined (take k xss)) → start ≤ i
      → i < start + length (get_or xss k []) → get_or (joined xss) i d ≡ get_or (get_or xss k []) (i - start) d
  item_of_list xss k start i d low begins from below =
      let at = get_or-flat_map (λ xs. xs) xss k (i - start) [] d low (omega (arith, from, below)) in
      ap (λ j. get_or (joined xss) j d) (omega (arith, begins, from)) ∙ at

  -- a list begins no later than the lists together end
  pub start_within : (xss : List (List X)) (k : ℕ) → length (joined (take k xss)) ≤ length (joined xss)
  start_within xss zero = omega arith
  start_within [] (suc k) = omega arith
  start_within (xs ∷ xss) (suc k) =
      omega (arith, start_within xss k, length-append xs (joined (take k xss)), length-append xs (joined xss))

  -- a list ends no later than the lists together
  pub end_within : (xss : List (List X)) (k : ℕ) → k < length xss → length (joined (take k xss)) + length (get_or xss k []) ≤ length (joined xss)
  end_within xss k low = omega (arith, length-joined-more xss k [] low, start_within xss (k + 1))

  -- items of the lists together that stand in one of them
  pub items_of_list : (xss : List (List X)) (k start : ℕ) (ns : List ℕ) → k < length xss → start ≡ length (joined (take k xss))
      → All (λ n. start ≤ n) ns → All (λ n. n < start + length (get_or xss k [])) ns
      → items_at (joined xss) ns ≡ items_at (get_or xss k []) (map (λ n. n - start) ns)
  items_of_list xss k start [] low begins from below = refl
  items_of_list xss k start (n ∷ ns) low begins from below =
      let n-from : start ≤ n = from 0 0 (omega arith) in
      let n-below : n < start + length (get_or xss k []) = below 0 0 (omega arith) in
      let inside : n < length (joined xss) = omega (arith, n-below, begins, end_within xss k low) in
      let some = some_item (joined xss) n inside in
      let here = one_item (joined xss) n some.0 inside in
      let there = one_item (get_or xss k []) (n - start) some.0 (omega (arith, n-from, n-below)) in
      let rest = items_of_list xss k start ns low begins (λ i d less. from (suc i) d (omega (arith, less))) (λ i d less. below (suc i) d (omega (arith, less))) in
      rw (here, there, item_of_list xss k start n some.0 low begins n-from n-below, rest) refl

  -- more numbers behind, and no list more
  pub AreStarts-longer : (xss : List (List X)) (starts more : List ℕ) → AreStarts xss starts → take (length starts) more ≡ starts → AreStarts xss more
  AreStarts-longer xss starts more are e = record {
    as_many = omega (arith, are.as_many, ap length e, length-take (length starts) more);
    each = λ k low.
        let inside : k < length starts = omega (arith, low, are.as_many) in
        sym (get_or-take (length starts) more k 0 inside) ∙ ap (λ ns. get_or ns k 0) e ∙ are.each k low;
  }

  -- more lists behind
  pub AreStarts-append : (xss yss : List (List X)) (starts more : List ℕ) → AreStarts xss starts → length starts ≡ length xss → AreStarts yss more
      → AreStarts (xss ++ yss) (starts ++ map (λ s. length (joined xss) + s) (take (length yss) more))
  AreStarts-append xss yss starts more are same later = record { as_many = count; each = λ k low. by k low (nat_lt k (length xss)) refl }
    where
      laters : List ℕ
      laters = take (length yss) more

      many : length laters ≡ length yss
      many = omega (arith, length-take (length yss) more, later.as_many)

      shifted : List ℕ
      shifted = map (λ s. length (joined xss) + s) laters

      count : length (xss ++ yss) ≤ length (starts ++ shifted)
      count = omega (arith, length-append xss yss, length-append starts shifted, same, many, length-map laters (λ s. length (joined xss) + s))

      by : (k : ℕ) → k < length (xss ++ yss) → (b : Bool) → nat_lt k (length xss) ≡ b → get_or (starts ++ shifted) k 0 ≡ length (joined (take k (xss ++ yss)))
      by k low true e =
          let inside : k < length xss = ltb-true k (length xss) e in
          get_or-append starts shifted 0 k (omega (arith, inside, same)) ∙ are.each k inside
          ∙ ap (λ zss. length (joined zss)) (sym (take-append-le k xss yss (omega (arith, inside))))
      by k low false e =
          let from : length xss ≤ k = ltb-false k (length xss) e in
          let j : ℕ = k - length xss in
          let j-low : j < length yss = omega (arith, from, low, length-append xss yss) in
          get_or-append_right starts shifted (length xss) k 0 same from
          ∙ get_or-map (λ s. length (joined xss) + s) laters j 0 0 (omega (arith, j-low, many))
          ∙ ap (λ s. length (joined xss) + s) (get_or-take (length yss) more j 0 j-low ∙ later.each j j-low)
          ∙ sym (length-append (joined xss) (joined (take j yss)))
          ∙ ap length (sym (flat_map-append (λ xs. xs) xss (take j yss)))
          ∙ ap (λ zss. length (joined zss)) (sym (take-append-add xss yss j))
          ∙ ap (λ i. length (joined (take i (xss ++ yss)))) (omega (arith, from))

  -- moved behind so many items, each number lies below the sum
  pub starts_below : (xss : List (List X)) (starts : List ℕ) (before : ℕ) → AreStarts xss starts → before + length (joined xss) < 2 ^ 32
      → All (λ s. before + s < 2 ^ 32) (take (length xss) starts)
  starts_below xss starts before are room k d low =
      let inside : k < length xss = omega (arith, low, length-take (length xss) starts) in
      let at = get_or-take (length xss) starts k d inside ∙ get_or_default starts k d 0 (omega (arith, inside, are.as_many)) ∙ are.each k inside in
      omega (arith, at, start_within xss k, room)

  -- no number behind the last list's
  pub AreStarts-take : (xss : List (List X)) (starts : List ℕ) → AreStarts xss starts → AreStarts xss (take (length xss) starts)
  AreStarts-take xss starts are = record {
    as_many = omega (arith, are.as_many, length-take (length xss) starts);
    each = λ k low. get_or-take (length xss) starts k 0 low ∙ are.each k low;
  }

  -- the places of the first list, and those of the second
  pub items_at-front : (xs ys : List X) (ns : List ℕ) → All (λ n. n < length xs) ns → items_at (xs ++ ys) ns ≡ items_at xs ns
  items_at-front xs ys [] within = refl
  items_at-front xs ys (n ∷ ns) within =
      let low : n < length xs = within 0 0 (omega arith) in
      let low2 : n < length (xs ++ ys) = omega (arith, low, length-append xs ys) in
      let some = some_item xs n low in
      let here = one_item (xs ++ ys) n some.0 low2 in
      let there = one_item xs n some.0 low in
      rw (here, there, get_or-append xs ys some.0 n low, items_at-front xs ys ns (λ k d less. within (suc k) d (omega (arith, less)))) refl

  pub items_at-back : (xs ys : List X) (first : ℕ) (ns : List ℕ) → first ≡ length xs → All (λ n. first ≤ n) ns → All (λ n. n < first + length ys) ns
      → items_at (xs ++ ys) ns ≡ items_at ys (map (λ n. n - first) ns)
  items_at-back xs ys first [] e from below = refl
  items_at-back xs ys first (n ∷ ns) e from below =
      let n-from : first ≤ n = from 0 0 (omega arith) in
      let n-below : n < first + length ys = below 0 0 (omega arith) in
      let low : n - first < length ys = omega (arith, n-from, n-below) in
      let low2 : n < length (xs ++ ys) = omega (arith, e, n-below, length-append xs ys) in
      let some = some_item ys (n - first) low in
      let here = one_item (xs ++ ys) n some.0 low2 in
      let there = one_item ys (n - first) some.0 low in
      rw (
        here,
        there,
        get_or-append_right xs ys first n some.0 (sym e) n-from,
        items_at-back xs ys first ns e (λ k d less. from (suc k) d (omega (arith, less))) (λ k d less. below (suc k) d (omega (arith, less))),
      ) refl

  -- places, and more places
  pub items_at-more : (xs : List X) (ps : List ℕ) (n m : ℕ) → items_at xs (take n ps) ++ items_at xs (take m (drop n ps)) ≡ items_at xs (take (n + m) ps)
  items_at-more xs ps n m =
      sym (flat_map-append (λ p. take 1 (drop p xs)) (take n ps) (take m (drop n ps))) ∙ ap (items_at xs) (sym (take-add n m ps))
