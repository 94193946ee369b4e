-- What is held by number is found by it.
use Rattle.std.proofs.Common.{◌≡◌, ℕ, ◌<◌, ◌==◌, Bool, true, false, cond, List, [], ◌∷◌, ◌++◌, map, length, refl, ap, subst, arith, Option, Some, None, inl, inr}
use Rattle.std.specs.Prelude.{All, Contains, IsSome, find, is_some}
use Rattle.std.proofs.lemmas.Bool.{eq-eqb, eqb-true}
use Rattle.std.proofs.lemmas.List.Elements.{All-head, All-tail}
use Rattle.rel_base.specs.Keys.{File}
use Rattle.algebra.specs.declared.terms.Source.{Source}
use Rattle.algebra.specs.declared.terms.Source.TheVariants as source
use Rattle.algebra.specs.Trees.{StepTree}
use Rattle.algebra.proofs.MemberLemmas.{first_or_behind, nothing_in_none}
use Rattle.run_laws.specs.Values.{IsKnown}
use Rattle.run_laws.specs.Rewritten.{numbers_of}

-- whatever holds of files and of the results of steps holds of what is known
pub known-each : (P : Source → Type 0) (files : List File) → ((place : ℕ) → place < length files → P (source.File place))
    → (steps : List StepTree) → All (λ (s : StepTree). P (source.Result s.statement)) steps → (o : Source) → IsKnown files steps o
    → P o
known-each P files lent steps all (source.File place) h = lent place h
known-each P files lent steps all (source.Result number) h = each steps all h
  where
    each : (steps : List StepTree) → All (λ (s : StepTree). P (source.Result s.statement)) steps
        → Contains (numbers_of steps) number → P (source.Result number)
    each [] all h = absurd (nothing_in_none number h)
    each (s ∷ steps) all h = elim (first_or_behind s.statement (numbers_of steps) number h) [
      | inl same ↦ subst (λ n. P (source.Result n)) same (All-head (λ (s : StepTree). P (source.Result s.statement)) s steps all)
      | inr others ↦ each steps (All-tail (λ (s : StepTree). P (source.Result s.statement)) s steps all) others
    ]

module _ {X : Type 0} where
  abbrev numbers : List (ℕ × X) → List ℕ
  numbers results = map (λ (r : ℕ × X). r.0) results

  abbrev found-at : List (ℕ × X) → ℕ → Option (ℕ × X)
  found-at results number = find (λ (r : ℕ × X). r.0 == number) results

  -- a number that is there is found
  pub found-some : (results : List (ℕ × X)) (number : ℕ) → Contains (map (λ (r : ℕ × X). r.0) results) number
      → IsSome (find (λ (r : ℕ × X). r.0 == number) results)
  found-some [] number h = absurd (nothing_in_none number h)
  found-some (r ∷ results) number h = by (r.0 == number) refl (found-some results number)
    where
      by : (b : Bool) → (r.0 == number) ≡ b → (Contains (numbers results) number → is_some (found-at results number) ≡ true)
          → is_some (cond b (Some r) (found-at results number)) ≡ true
      by true e rest = refl
      by false e rest = elim (first_or_behind r.0 (numbers results) number h) [
        | inl same ↦ let yes = eq-eqb r.0 number same in absurd (cc)
        | inr others ↦ rest others
      ]

  -- and stays the same, whatever stands behind
  pub found-kept : (results more : List (ℕ × X)) (number : ℕ) → Contains (map (λ (r : ℕ × X). r.0) results) number
      → find (λ (r : ℕ × X). r.0 == number) (results ++ more) ≡ find (λ (r : ℕ × X). r.0 == number) results
  found-kept [] more number h = absurd (nothing_in_none number h)
  found-kept (r ∷ results) more number h = by (r.0 == number) refl (found-kept results more number)
    where
      by : (b : Bool) → (r.0 == number) ≡ b → (Contains (numbers results) number → found-at (results ++ more) number
          ≡ found-at results number)
          → cond b (Some r) (found-at (results ++ more) number) ≡ cond b (Some r) (found-at results number)
      by true e rest = refl
      by false e rest = elim (first_or_behind r.0 (numbers results) number h) [
        | inl same ↦ let yes = eq-eqb r.0 number same in absurd (cc)
        | inr others ↦ rest others
      ]

  -- a number above all others is found at the end
  pub found-last : (results : List (ℕ × X)) (number : ℕ) (x : X) → All (λ n. n < number) (map (λ (r : ℕ × X). r.0) results)
      → find (λ (r : ℕ × X). r.0 == number) (results ++ (number, x) ∷ []) ≡ Some (number, x)
  found-last [] number x low =
      ap (λ b. cond {A = Option (ℕ × X)} b (Some (number, x)) None) (eq-eqb number number refl)
  found-last (r ∷ results) number x low =
      by (r.0 == number) refl (found-last results number x (All-tail (λ n. n < number) r.0 (numbers results) low))
    where
      by : (b : Bool) → (r.0 == number) ≡ b → found-at (results ++ (number, x) ∷ []) number ≡ Some (number, x)
          → cond b (Some r) (found-at (results ++ (number, x) ∷ []) number) ≡ Some (number, x)
      by true e rest = absurd (omega (arith, eqb-true r.0 number e, All-head (λ n. n < number) r.0 (numbers results) low))
      by false e rest = rest
