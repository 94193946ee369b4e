-- Members of lists that are mapped, filtered and put together.
use Rattle.std.proofs.Common.{◌≡◌, Bool, true, false, cond, List, [], ◌∷◌, ◌++◌, map, refl, sym, ◌∙◌, ap, subst, ◌⊎◌, inl, inr}
use Rattle.std.specs.Prelude.{filter, ◌&&◌}
use Rattle.std.specs.List.{list_all, list_any, flat_map}
use Rattle.std.proofs.lemmas.Bool.{and_from, and_parts, or_cases, or_left, or_right}

-- x is one of these
abbrev pub Member : {X : Type 0} → List X → X → Type 0
Member [] x = ⊥
Member (y ∷ ys) x = (y ≡ x) ⊎ Member ys x

pub all-at : {X : Type 0} (p : X → Bool) (xs : List X) (x : X) → list_all p xs ≡ true → Member xs x → p x ≡ true
all-at p [] x h m = absurd m
all-at p (y ∷ ys) x h (inl same) = ap p (sym same) ∙ (and_parts (p y) (list_all p ys) h).0
all-at p (y ∷ ys) x h (inr later) = all-at p ys x (and_parts (p y) (list_all p ys) h).1 later

pub all-from : {X : Type 0} (p : X → Bool) (xs : List X) → ((x : X) → Member xs x → p x ≡ true) → list_all p xs ≡ true
all-from p [] h = refl
all-from p (y ∷ ys) h = and_from (p y) (list_all p ys) (h y (inl refl)) (all-from p ys (λ x m. h x (inr m)))

-- ---- members of filtered lists

module _ {X : Type 0} where
  pub record IsPassing (p : X → Bool) (xs : List X) : Type 0 where
    pub item : X
    pub member : Member xs item
    pub passes : p item ≡ true

  pub any-passing : (p : X → Bool) (xs : List X) → list_any p xs ≡ true → IsPassing p xs
  any-passing p [] h = cc
  any-passing p (x ∷ xs) h = elim (or_cases (p x) (list_any p xs) h) [
    | inl here ↦ record { item = x; member = inl refl; passes = here }
    | inr later ↦
        let found = any-passing p xs later in
        record { item = found.item; member = inr found.member; passes = found.passes }
  ]

  pub any-member : (p : X → Bool) (xs : List X) (x : X) → Member xs x → p x ≡ true → list_any p xs ≡ true
  any-member p [] x m h = absurd m
  any-member p (y ∷ ys) x (inl same) h = or_left (p y) (list_any p ys) (ap p same ∙ h)
  any-member p (y ∷ ys) x (inr later) h = or_right (p y) (list_any p ys) (any-member p ys x later h)

  pub member-in : (p : X → Bool) (xs : List X) (x : X) → Member xs x → p x ≡ true → Member (filter p xs) x
  member-in p [] x m h = absurd m
  member-in p (y ∷ ys) x m h = by (p y) refl m (λ later. member-in p ys x later h)
    where
      by : (b : Bool) → p y ≡ b → (y ≡ x) ⊎ Member ys x → (Member ys x → Member (filter p ys) x) → Member (cond b (y ∷ filter p ys) (filter p ys)) x
      by true k (inl same) rest = inl same
      by true k (inr later) rest = inr (rest later)
      by false k (inl same) rest = let wrong : false ≡ true = sym k ∙ ap p same ∙ h in absurd (cc)
      by false k (inr later) rest = rest later

  pub member-out : (p : X → Bool) (xs : List X) (x : X) → Member (filter p xs) x → Member xs x × (p x ≡ true)
  member-out p [] x m = absurd m
  member-out p (y ∷ ys) x m = by (p y) refl m (λ later. member-out p ys x later)
    where
      by : (b : Bool) → p y ≡ b → Member (cond b (y ∷ filter p ys) (filter p ys)) x → (Member (filter p ys) x → Member ys x × (p x ≡ true))
          → ((y ≡ x) ⊎ Member ys x) × (p x ≡ true)
      by true k (inl same) rest = (inl same, ap p (sym same) ∙ k)
      by true k (inr later) rest = let own = rest later in (inr own.0, own.1)
      by false k later rest = let own = rest later in (inr own.0, own.1)

  pub filter-twice : (p q : X → Bool) (xs : List X) → filter p (filter q xs) ≡ filter (λ x. q x && p x) xs
  filter-twice p q [] = refl
  filter-twice p q (x ∷ xs) = by (q x) (filter-twice p q xs)
    where
      by : (b : Bool) → filter p (filter q xs) ≡ filter (λ x. q x && p x) xs
          → filter p (cond b (x ∷ filter q xs) (filter q xs)) ≡ cond (b && p x) (x ∷ filter (λ x. q x && p x) xs) (filter (λ x. q x && p x) xs)
      by true rest = ap (λ ys. cond (p x) (x ∷ ys) ys) rest
      by false rest = rest

-- ---- members

module _ {Y : Type 0} where
  pub front-member : (xs ys : List Y) (y : Y) → Member xs y → Member (xs ++ ys) y
  front-member [] ys y m = absurd m
  front-member (x ∷ xs) ys y (inl same) = inl same
  front-member (x ∷ xs) ys y (inr later) = inr (front-member xs ys y later)

  pub rest-member : (xs ys : List Y) (y : Y) → Member ys y → Member (xs ++ ys) y
  rest-member [] ys y m = m
  rest-member (x ∷ xs) ys y m = inr (rest-member xs ys y m)

  either-member : (xs ys : List Y) (y : Y) → Member (xs ++ ys) y → Member xs y ⊎ Member ys y
  either-member [] ys y m = inr m
  either-member (x ∷ xs) ys y (inl same) = inl (inl same)
  either-member (x ∷ xs) ys y (inr later) = elim (either-member xs ys y later) [
    | inl own ↦ inl (inr own)
    | inr other ↦ inr other
  ]

module _ {X Y : Type 0} where
  pub member-map : (f : X → Y) (xs : List X) (x : X) → Member xs x → Member (map f xs) (f x)
  member-map f [] x m = absurd m
  member-map f (y ∷ ys) x (inl same) = inl (ap f same)
  member-map f (y ∷ ys) x (inr later) = inr (member-map f ys x later)

  pub map-member : (f : X → Y) (xs : List X) (y : Y) → Member (map f xs) y → (x : X) × Member xs x × (f x ≡ y)
  map-member f [] y m = absurd m
  map-member f (x ∷ xs) y (inl same) = (x, inl refl, same)
  map-member f (x ∷ xs) y (inr later) = let own = map-member f xs y later in (own.0, inr own.1, own.2)

  pub member-flat : (f : X → List Y) (xs : List X) (x : X) (y : Y) → Member xs x → Member (f x) y → Member (flat_map f xs) y
  member-flat f [] x y m n = absurd m
  member-flat f (k ∷ ks) x y (inl same) n = front-member (f k) (flat_map f ks) y (subst (λ z. Member (f z) y) (sym same) n)
  member-flat f (k ∷ ks) x y (inr later) n = rest-member (f k) (flat_map f ks) y (member-flat f ks x y later n)

  pub flat-member : (f : X → List Y) (xs : List X) (y : Y) → Member (flat_map f xs) y → (x : X) × Member xs x × Member (f x) y
  flat-member f [] y m = absurd m
  flat-member f (x ∷ xs) y m = elim (either-member (f x) (flat_map f xs) y m) [
    | inl own ↦ (x, inl refl, own)
    | inr other ↦ let found = flat-member f xs y other in (found.0, inr found.1, found.2)
  ]
