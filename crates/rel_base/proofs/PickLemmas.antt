-- Items at places.
use Rattle.std.proofs.Common.{◌≡◌, ◌∙◌, ℕ, zero, suc, ◌+◌, ◌-◌, ◌*◌, ◌/◌, ◌<◌, ◌≤◌, List, [], ◌∷◌, ◌++◌, length, get_or, take, drop, map, All, refl, sym, ap, subst, arith}
use Rattle.std.proofs.lemmas.List.{drop_more, same_lists}
use Rattle.std.proofs.Math.Nat.{div-mul-le_self, mul-le-mul_left, mul-le-mul_right}
use Rattle.rel_base.specs.Picks.{items_at}
use Rattle.rel_base.specs.inner.Strides.{stepped}

pub length-stepped : (start step n : ℕ) → length (stepped start step n) ≡ n
length-stepped start step zero = refl
length-stepped start step (suc n) = ap suc (length-stepped (start + step) step n)

pub get_or-stepped : (start step n i d : ℕ) → i < n → get_or (stepped start step n) i d ≡ start + step * i
get_or-stepped start step zero i d low = absurd (omega arith)
get_or-stepped start step (suc n) zero d low = omega arith
get_or-stepped start step (suc n) (suc i) d low =
    let rest = get_or-stepped (start + step) step n i d (omega arith) in omega (arith, rest)

pub stepped_within : (start step n m : ℕ) → ((i : ℕ) → i < n → start + step * i < m) → All (λ p. p < m) (stepped start step n)
stepped_within start step n m low k d less =
    let inside : k < n = omega (arith, less, length-stepped start step n) in
    omega (arith, get_or-stepped start step n k d inside, low k inside)

-- the places that are a number of steps behind a start lie below the length
pub steps_below_within : (start step len i : ℕ) → 0 < step → i < (len - start + (step - 1)) / step → start + step * i < len
steps_below_within start step len i positive low =
    let most = div-mul-le_self (len - start + (step - 1)) step in
    let up = mul-le-mul_left step (by_low low) in
    omega (arith, most, up)
  where
    by_low : i < (len - start + (step - 1)) / step → i + 1 ≤ (len - start + (step - 1)) / step
    by_low h = omega arith

-- no more places than the length
pub few_steps : (start step len : ℕ) → 0 < step → (len - start + (step - 1)) / step ≤ len
few_steps start step len positive = by ((len - start + (step - 1)) / step) refl
  where
    by : (n : ℕ) → (len - start + (step - 1)) / step ≡ n → (len - start + (step - 1)) / step ≤ len
    by zero e = omega (arith, e)
    by (suc m) e =
        let last = steps_below_within start step len m positive (omega (arith, e)) in
        let up = mul-le-mul_right m positive in
        omega (arith, e, last, up)

-- one place more
pub stepped_more : (start step n : ℕ) → stepped start step (suc n) ≡ stepped start step n ++ (start + step * n) ∷ []
stepped_more start step zero = ap (λ m. m ∷ []) (omega arith)
stepped_more start step (suc n) =
    let last : start + step + step * n ≡ start + step * suc n = omega arith in
    ap (λ ms. start ∷ ms) (stepped_more (start + step) step n) ∙ ap (λ m. start ∷ (stepped (start + step) step n ++ m ∷ [])) last

pub rest_nonempty : {X : Type 0} (x : List X) (xs : List (List X)) → All (λ s. 0 < length s) (x ∷ xs) → All (λ s. 0 < length s) xs
rest_nonempty x xs all k d low = all (suc k) d (omega arith)

-- two functions that agree on the items make the same list of them
pub map-agree : {X Y : Type 0} (f g : X → Y) (xs : List X) → All (λ x. f x ≡ g x) xs → map f xs ≡ map g xs
map-agree f g [] same = refl
map-agree f g (x ∷ xs) same =
    rw (same 0 x (omega arith)) (ap (λ ys. g x ∷ ys) (map-agree f g xs (λ k d low. same (suc k) d (omega (arith, low)))))

module _ {X : Type 0} where
  pub one_item : (xs : List X) (p : ℕ) (d : X) → p < length xs → take 1 (drop p xs) ≡ get_or xs p d ∷ []
  one_item xs p d low = rw (drop_more xs p d low) refl

  pub some_item : (xs : List X) (p : ℕ) → p < length xs → (x : X) × (take 1 (drop p xs) ≡ x ∷ [])
  some_item [] p low = absurd (omega arith)
  some_item (x ∷ xs) p low = (get_or (x ∷ xs) p x, one_item (x ∷ xs) p x low)

  pub rest_within : (xs : List X) (p : ℕ) (ps : List ℕ) → All (λ q. q < length xs) (p ∷ ps) → All (λ q. q < length xs) ps
  rest_within xs p ps within k d low = within (suc k) d (omega arith)

  pub length-items_at : (xs : List X) (ps : List ℕ) → All (λ p. p < length xs) ps → length (items_at xs ps) ≡ length ps
  length-items_at xs [] within = refl
  length-items_at xs (p ∷ ps) within =
      let one = some_item xs p (within 0 0 (omega arith)) in
      let rest = length-items_at xs ps (rest_within xs p ps within) in
      rw one.1 (ap suc rest)

  pub get_or-items_at : (xs : List X) (ps : List ℕ) (i : ℕ) (d : X) (e : ℕ) → All (λ p. p < length xs) ps → i < length ps
      → get_or (items_at xs ps) i d ≡ get_or xs (get_or ps i e) d
  get_or-items_at xs [] i d e within low = absurd (omega arith)
  get_or-items_at xs (p ∷ ps) zero d e within low = rw (one_item xs p d (within 0 0 (omega arith))) refl
  get_or-items_at xs (p ∷ ps) (suc i) d e within low =
      rw (one_item xs p d (within 0 0 (omega arith))) (get_or-items_at xs ps i d e (rest_within xs p ps within) (omega arith))

  -- what holds of all items holds of those at places
  pub All-items_at : (P : X → Type 0) (xs : List X) (ps : List ℕ) → All P xs → All (λ p. p < length xs) ps → All P (items_at xs ps)
  All-items_at P xs ps all within k d low =
      let inside : k < length ps = omega (arith, low, length-items_at xs ps within) in
      subst P (sym (get_or-items_at xs ps k d 0 within inside)) (all (get_or ps k 0) d (within k 0 inside))

  pub items_at-every_length : (xs : List X) (s t n : ℕ) (shown : List X) → All (λ p. p < length xs) (stepped s t n)
      → items_at xs (stepped s t n) ≡ shown → n ≡ length shown
  items_at-every_length xs s t n shown within e =
      sym (length-stepped s t n) ∙ sym (length-items_at xs (stepped s t n) within) ∙ ap length e

  pub items_at-length : (xs : List X) (ps : List ℕ) (shown : List X) → All (λ p. p < length xs) ps
      → items_at xs ps ≡ shown → length ps ≡ length shown
  items_at-length xs ps shown within e = sym (length-items_at xs ps within) ∙ ap length e

  pub place_every : (xs : List X) (s t n i : ℕ) → All (λ p. p < length xs) (stepped s t n) → i < n → s + t * i < length xs
  place_every xs s t n i within low =
      let at = get_or-stepped s t n i 0 low in
      let low2 : i < length (stepped s t n) = rw (length-stepped s t n) low in
      omega (arith, at, within i 0 low2)

  pub item_every : (xs : List X) (s t n i : ℕ) (d : X) (shown : List X) → All (λ p. p < length xs) (stepped s t n)
      → items_at xs (stepped s t n) ≡ shown → i < n → get_or xs (s + t * i) d ≡ get_or shown i d
  item_every xs s t n i d shown within e low =
      let low2 : i < length (stepped s t n) = rw (length-stepped s t n) low in
      ap (λ k. get_or xs k d) (sym (get_or-stepped s t n i 0 low)) ∙ sym (get_or-items_at xs (stepped s t n) i d 0 within low2)
      ∙ ap (λ ys. get_or ys i d) e

  pub item_at : (xs : List X) (ps : List ℕ) (i p : ℕ) (d : X) (shown : List X) → All (λ p. p < length xs) ps
      → items_at xs ps ≡ shown → i < length ps → p ≡ get_or ps i p → get_or xs p d ≡ get_or shown i d
  item_at xs ps i p d shown within e low at =
      ap (λ k. get_or xs k d) at ∙ sym (get_or-items_at xs ps i d p within low) ∙ ap (λ ys. get_or ys i d) e

  -- all places, in order
  pub items_at-all : (xs : List X) → items_at xs (stepped 0 1 (length xs)) ≡ xs
  items_at-all xs =
      let within = stepped_within 0 1 (length xs) (length xs) (λ i low. omega arith) in
      let same = length-items_at xs (stepped 0 1 (length xs)) within ∙ length-stepped 0 1 (length xs) in
      same_lists (items_at xs (stepped 0 1 (length xs))) xs same
      (λ k d low. sym (item_every xs 0 1 (length xs) k d (items_at xs (stepped 0 1 (length xs))) within refl (omega (arith, same, low)))
      ∙ ap (λ i. get_or xs i d) (omega arith))

  -- items at places among items at places
  pub items_at-items_at : (xs : List X) (ps ns : List ℕ) → All (λ p. p < length xs) ps → All (λ n. n < length ps) ns
      → items_at (items_at xs ps) ns ≡ items_at xs (map (λ n. get_or ps n 0) ns)
  items_at-items_at xs ps [] within low = refl
  items_at-items_at xs ps (n ∷ ns) within low =
      let n-low = low 0 0 (omega arith) in
      let n-low2 : n < length (items_at xs ps) = rw (length-items_at xs ps within) n-low in
      let some = some_item (items_at xs ps) n n-low2 in
      let here = one_item (items_at xs ps) n some.0 n-low2 in
      let there = one_item xs (get_or ps n 0) some.0 (within n 0 n-low) in
      let rest = items_at-items_at xs ps ns within (λ k d less. low (suc k) d (omega arith)) in
      rw (here, there, get_or-items_at xs ps n some.0 0 within n-low, rest) refl

-- behind the elements that were written over, each is as it was
pub get_or-past_map : {X : Type 0} (f : X → X) (xs : List X) (i : ℕ) (d : X) → i < length xs → get_or (map f (take i xs) ++ drop i xs) i d ≡ get_or xs i d
get_or-past_map f [] i d low = absurd (omega arith)
get_or-past_map f (x ∷ xs) zero d low = refl
get_or-past_map f (x ∷ xs) (suc i) d low = get_or-past_map f xs i d (omega arith)
