-- Tests of lists that were made item by item.
use Rattle.std.proofs.Common.{◌≡◌, ◌∙◌, Bool, ◌||◌, List, [], ◌∷◌, map, refl, sym, ap}
use Rattle.std.specs.List.{flat_map, list_any}
use Rattle.std.proofs.lemmas.List.Folds.{list_any-append}

module _ {X Y : Type 0} (p : Y → Bool) where
  pub list_any-map : (f : X → Y) (xs : List X) → list_any p (map f xs) ≡ list_any (λ x. p (f x)) xs
  list_any-map f [] = refl
  list_any-map f (x ∷ xs) = ap (λ b. p (f x) || b) (list_any-map f xs)

  pub list_any-flat_map : (f : X → List Y) (xs : List X) → list_any p (flat_map f xs) ≡ list_any (λ x. list_any p (f x)) xs
  list_any-flat_map f [] = refl
  list_any-flat_map f (x ∷ xs) = list_any-append p (f x) (flat_map f xs) ∙ ap (λ b. list_any p (f x) || b) (list_any-flat_map f xs)

-- a test of the items that were made of these is one of the items themselves
pub any-through : {X Y : Type 0} (p : Y → Bool) (f : X → Y) (xs ys : List X) (zs : List Y) → xs ≡ ys → map f ys ≡ zs
    → list_any (λ x. p (f x)) xs ≡ list_any p zs
any-through p f xs ys zs e g = ap (list_any (λ x. p (f x))) e ∙ sym (list_any-map p f ys) ∙ ap (list_any p) g

map-map : {X Y Z : Type 0} (g : Y → Z) (f : X → Y) (xs : List X) → map (λ x. g (f x)) xs ≡ map g (map f xs)
map-map g f [] = refl
map-map g f (x ∷ xs) = ap (λ ys. g (f x) ∷ ys) (map-map g f xs)

pub map-through : {X Y Z : Type 0} (g : Y → Z) (f : X → Y) (xs ys : List X) (zs : List Y) → xs ≡ ys → map f ys ≡ zs
    → map (λ x. g (f x)) xs ≡ map g zs
map-through g f xs ys zs e h = ap (map (λ x. g (f x))) e ∙ map-map g f ys ∙ ap (map g) h
