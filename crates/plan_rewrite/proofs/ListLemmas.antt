-- Tests of lists: those that pass another test, and those that are kept by one of several.
use Rattle.std.proofs.Common.{◌≡◌, ◌∙◌, Bool, true, false, cond, not, List, [], ◌∷◌, ◌++◌, map, refl, sym, ap}
use Rattle.std.specs.Prelude.{filter, ◌&&◌, ◌||◌, ⊤}
use Rattle.std.specs.List.{flat_map, list_all, list_any}
use Rattle.std.proofs.lemmas.Bool.{and_from, and_parts}
use Rattle.std.proofs.lemmas.List.{map-append}
use Rattle.std.proofs.lemmas.List.Folds.{list_all-append}

-- what holds of each item
abbrev pub Each : {X : Type 0} → (X → Type 0) → List X → Type 0
Each P [] = ⊤
Each P (x ∷ xs) = P x × Each P xs

pub each-filter : {X : Type 0} (P : X → Type 0) (test : X → Bool) (xs : List X) → Each P xs → Each P (filter test xs)
each-filter P test [] h = tt
each-filter P test (x ∷ xs) h = by (test x) (each-filter P test xs h.1)
  where
    by : (t : Bool) → Each P (filter test xs) → Each P (cond t (x ∷ filter test xs) (filter test xs))
    by true rest = (h.0, rest)
    by false rest = rest

pub each-map : {X : Type 0} (P Q : X → Type 0) → ((x : X) → P x → Q x) → (xs : List X) → Each P xs → Each Q xs
each-map P Q f [] h = tt
each-map P Q f (x ∷ xs) h = (f x h.0, each-map P Q f xs h.1)

pub each-both : {X : Type 0} (P Q R : X → Type 0) → ((x : X) → P x → Q x → R x) → (xs : List X) → Each P xs → Each Q xs → Each R xs
each-both P Q R f [] g h = tt
each-both P Q R f (x ∷ xs) g h = (f x g.0 h.0, each-both P Q R f xs g.1 h.1)

pub each-of : {X : Type 0} (P : X → Type 0) → ((x : X) → P x) → (xs : List X) → Each P xs
each-of P f [] = tt
each-of P f (x ∷ xs) = (f x, each-of P f xs)

pub each-append : {X : Type 0} (P : X → Type 0) (xs ys : List X) → Each P xs → Each P ys → Each P (xs ++ ys)
each-append P [] ys g h = h
each-append P (x ∷ xs) ys g h = (g.0, each-append P xs ys g.1 h)

pub each-apart : {X : Type 0} (P : X → Type 0) (xs ys : List X) → Each P (xs ++ ys) → Each P xs × Each P ys
each-apart P [] ys h = (tt, h)
each-apart P (x ∷ xs) ys h = let rest = each-apart P xs ys h.1 in ((h.0, rest.0), rest.1)

pub same-truth : (a b : Bool) → (a ≡ true → b ≡ true) → (b ≡ true → a ≡ true) → a ≡ b
same-truth true b f g = sym (f refl)
same-truth false true f g = g refl
same-truth false false f g = refl

module _ {X : Type 0} where
  -- a test of those that pass another
  pub all-filter : (test keep : X → Bool) (xs : List X) → list_all test (filter keep xs) ≡ list_all (λ x. not (keep x) || test x) xs
  all-filter test keep [] = refl
  all-filter test keep (x ∷ xs) = by (keep x) (all-filter test keep xs)
    where
      by : (b : Bool) → list_all test (filter keep xs) ≡ list_all (λ x. not (keep x) || test x) xs
          → list_all test (cond b (x ∷ filter keep xs) (filter keep xs)) ≡ ((not b || test x) && list_all (λ x. not (keep x) || test x) xs)
      by true h = ap (λ r. test x && r) h
      by false h = h

  pub all-passing : (keep : X → Bool) (xs : List X) → list_all keep (filter keep xs) ≡ true
  all-passing keep [] = refl
  all-passing keep (x ∷ xs) = by (keep x) refl (all-passing keep xs)
    where
      by : (b : Bool) → keep x ≡ b → list_all keep (filter keep xs) ≡ true → list_all keep (cond b (x ∷ filter keep xs) (filter keep xs)) ≡ true
      by true e h = and_from (keep x) (list_all keep (filter keep xs)) e h
      by false e h = h

  pub all-kept : (test keep : X → Bool) (xs : List X) → list_all test xs ≡ true → list_all test (filter keep xs) ≡ true
  all-kept test keep [] h = refl
  all-kept test keep (x ∷ xs) h = let parts = and_parts (test x) (list_all test xs) h in by (keep x) parts.0 (all-kept test keep xs parts.1)
    where
      by : (b : Bool) → test x ≡ true → list_all test (filter keep xs) ≡ true → list_all test (cond b (x ∷ filter keep xs) (filter keep xs)) ≡ true
      by true e h = and_from (test x) (list_all test (filter keep xs)) e h
      by false e h = h

  -- those that pass in any case may be left out
  pub all-without : (test keep pass : X → Bool) → ((x : X) → pass x ≡ true → test x ≡ true) → (xs : List X)
      → list_all test (filter (λ x. keep x && not (pass x)) xs) ≡ list_all test (filter keep xs)
  all-without test keep pass h [] = refl
  all-without test keep pass h (x ∷ xs) = by (keep x) (pass x) refl (all-without test keep pass h xs)
    where
      by : (k p : Bool) → pass x ≡ p → list_all test (filter (λ x. keep x && not (pass x)) xs) ≡ list_all test (filter keep xs)
          → list_all test (cond (k && not p) (x ∷ filter (λ x. keep x && not (pass x)) xs) (filter (λ x. keep x && not (pass x)) xs))
          ≡ list_all test (cond k (x ∷ filter keep xs) (filter keep xs))
      by true false e r = ap (λ b. test x && b) r
      by true true e r = r ∙ ap (λ b. b && list_all test (filter keep xs)) (sym (h x e))
      by false p e r = r

  -- where each passes the one test, the two together are the other
  pub all-where : (keep test : X → Bool) (xs : List X) → list_all keep xs ≡ true → list_all (λ x. not (keep x) || test x) xs ≡ list_all test xs
  all-where keep test [] h = refl
  all-where keep test (x ∷ xs) h =
      let parts = and_parts (keep x) (list_all keep xs) h in
      (λ i. (not (parts.0 i) || test x) && all-where keep test xs parts.1 i)

-- two tests that agree keep the same
pub filter-same : {X : Type 0} (p q : X → Bool) → ((x : X) → p x ≡ q x) → (xs : List X) → filter p xs ≡ filter q xs
filter-same p q same xs = λ i. filter (λ x. same x i) xs

-- ---- lists that are split by several tests

all-cons : {X : Type 0} (test keep : X → Bool) (x : X) (xs : List X)
    → list_all test (filter keep (x ∷ xs)) ≡ ((not (keep x) || test x) && list_all test (filter keep xs))
all-cons test keep x xs = by (keep x)
  where
    by : (b : Bool) → list_all test (cond b (x ∷ filter keep xs) (filter keep xs)) ≡ ((not b || test x) && list_all test (filter keep xs))
    by true = refl
    by false = refl

-- k and u: whether the first and one of the others keep it; t: whether it passes; a and f: the rest
merged : (k u t a f : Bool) → (((not k || t) && a) && ((not u || t) && f)) ≡ ((not (k || u) || t) && (a && f))
merged true true true a f = refl
merged true false true a f = refl
merged true true false a f = refl
merged true false false a f = refl
merged false true true a f = refl
merged false true false true f = refl
merged false true false false f = refl
merged false false t a f = refl

parted : (w t f c : Bool) → (((not w || t) && f) && ((not (not w) || t) && c)) ≡ (t && (f && c))
parted true true f c = refl
parted true false f c = refl
parted false true f c = refl
parted false false true c = refl
parted false false false c = refl

-- what is kept by one of several tests, and what by none, is all
module _ {S X : Type 0} (keeps : S → X → Bool) (test : X → Bool) where
  one-more : (x : X) (xs : List X) (ss : List S)
      → list_all (λ s. list_all test (filter (keeps s) (x ∷ xs))) ss
      ≡ ((not (list_any (λ s. keeps s x) ss) || test x) && list_all (λ s. list_all test (filter (keeps s) xs)) ss)
  one-more x xs [] = refl
  one-more x xs (s ∷ ss) =
      (λ i. all-cons test (keeps s) x xs i && one-more x xs ss i)
      ∙ merged (keeps s x) (list_any (λ s. keeps s x) ss) (test x) (list_all test (filter (keeps s) xs)) (list_all (λ s. list_all test (filter (keeps s) xs)) ss)

  none-kept : (ss : List S) → list_all (λ s. list_all test (filter (keeps s) [])) ss ≡ true
  none-kept [] = refl
  none-kept (s ∷ ss) = none-kept ss

  pub all-split : (ss : List S) (xs : List X)
      → (list_all (λ s. list_all test (filter (keeps s) xs)) ss && list_all test (filter (λ x. not (list_any (λ s. keeps s x) ss)) xs)) ≡ list_all test xs
  all-split ss [] = λ i. none-kept ss i && true
  all-split ss (x ∷ xs) =
      (λ i. one-more x xs ss i && all-cons test (λ x. not (list_any (λ s. keeps s x) ss)) x xs i)
      ∙ parted (list_any (λ s. keeps s x) ss) (test x) (list_all (λ s. list_all test (filter (keeps s) xs)) ss) (list_all test (filter (λ x. not (list_any (λ s. keeps s x) ss)) xs))
      ∙ ap (λ r. test x && r) (all-split ss xs)

-- ---- lists that are made of lists

pub and-true : (a : Bool) → (a && true) ≡ a
and-true true = refl
and-true false = refl

-- a test of what is made of the items of a list of lists
pub all-spread : {X Y Z : Type 0} (test : Z → Bool) (f : Y → Z) (g : X → List Y) (xs : List X)
    → Each (λ x. list_all test (map f (g x)) ≡ true) xs → list_all test (map f (flat_map g xs)) ≡ true
all-spread test f g [] h = refl
all-spread test f g (x ∷ xs) h =
    ap (list_all test) (map-append f (g x) (flat_map g xs))
    ∙ list_all-append test (map f (g x)) (map f (flat_map g xs))
    ∙ and_from (list_all test (map f (g x))) (list_all test (map f (flat_map g xs))) h.0 (all-spread test f g xs h.1)
