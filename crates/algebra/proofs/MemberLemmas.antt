-- What a list has.
use Rattle.std.proofs.Common.{◌≡◌, zero, suc, Bool, true, List, [], ◌∷◌, refl, ◌∙◌, ap, arith, ◌⊎◌, inl, inr}
use Rattle.std.specs.Prelude.{Contains}
use Rattle.std.specs.List.{list_any}
use Rattle.std.proofs.lemmas.Bool.{or_left, or_right}
use Rattle.std.proofs.lemmas.List.Elements.{Contains-append_cases, Contains-append_right}

module _ {X : Type 0} where
  pub in_front : (x : X) (xs : List X) → Contains (x ∷ xs) x
  in_front x xs = (0, omega arith, refl)

  pub behind : (x : X) (xs : List X) (y : X) → Contains xs y → Contains (x ∷ xs) y
  behind x xs y h = Contains-append_right (x ∷ []) xs y h

  only_one : (x y : X) → Contains (x ∷ []) y → x ≡ y
  only_one x y (zero, within, e) = e
  only_one x y (suc k, within, e) = absurd (omega arith)

  pub first_or_behind : (x : X) (xs : List X) (y : X) → Contains (x ∷ xs) y → (x ≡ y) ⊎ Contains xs y
  first_or_behind x xs y h = elim (Contains-append_cases (x ∷ []) xs y h) [
    | inl one ↦ inl (only_one x y one)
    | inr others ↦ inr others
  ]

  pub nothing_in_none : (y : X) → Contains [] y → ⊥
  nothing_in_none y (k, within, e) = omega arith

  -- a test that an item passes is passed by some
  pub any-of : (p : X → Bool) (xs : List X) (x : X) → Contains xs x → p x ≡ true → list_any p xs ≡ true
  any-of p [] x h e = absurd (nothing_in_none x h)
  any-of p (y ∷ ys) x h e = elim (first_or_behind y ys x h) [
    | inl same ↦ or_left (p y) (list_any p ys) (ap p same ∙ e)
    | inr others ↦ or_right (p y) (list_any p ys) (any-of p ys x others e)
  ]
