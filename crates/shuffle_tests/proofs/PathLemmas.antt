-- The rows of a path are such as a reduction asks.
use Rattle.std.proofs.Common.{◌≡◌, ℕ, zero, suc, ◌<◌, true, List, [], ◌∷◌, length, map, get_or, All, refl, sym, ap, ◌∙◌, subst, arith}
use Rattle.std.proofs.lemmas.List.{get_or_default}
use Rattle.std.specs.Ordering.{is_eq}
use Rattle.rel_base.specs.Values.{value_order}
use Rattle.myrial_ast.specs.Scalars.{Scalar, value_at}
use Rattle.myrial_ast.specs.Combinations.{Row, Rows}
use Rattle.myrial_ast.specs.KeptRows.{put_at}
use Rattle.algebra.specs.Trees.{Shape}
use Rattle.algebra.specs.Joins.{IsPart, AreParts, agrees_in}
use Rattle.algebra.proofs.ShapeLemmas.{tie-holds}
use Rattle.row_exchange.specs.Routes.{rows_at}
use Rattle.semijoin_reducer.specs.Semijoins.{all_of}
use Rattle.semijoin_reducer.proofs.JoinPartLemmas.{parts-together}
use Rattle.shuffle_tests.specs.inner.Numbers.{number_atom}
use Rattle.shuffle_tests.specs.inner.Paths.{pair_atom, IsPath, ArePathParts}

abbrev of_path : List Scalar → List Scalar → List Scalar → Shape
of_path plain arith emits = record {
  atoms = number_atom ∷ pair_atom ∷ number_atom ∷ [];
  variables = (0 ∷ 1 ∷ []) ∷ (2 ∷ 3 ∷ []) ∷ [];
  plain = plain;
  arith = arith;
  emits = emits;
}

itself : (row : Row) (c : ℕ) → is_eq (value_order (value_at row c) (value_at row c)) ≡ true
itself row c = tie-holds row c c refl

module _ (plain arith emits : List Scalar) where
  agrees-first : (row : Row) → agrees_in (of_path plain arith emits) 0 row ≡ true
  agrees-first row = let a = itself row 0 in rw a refl

  agrees-second : (row : Row) → agrees_in (of_path plain arith emits) 1 row ≡ true
  agrees-second row = let a = itself (put_at 1 row) 1 in let b = itself (put_at 1 row) 2 in rw (a, b) refl

  agrees-third : (row : Row) → agrees_in (of_path plain arith emits) 2 row ≡ true
  agrees-third row = let a = itself (put_at 3 row) 3 in rw a refl

pub path-ready : (shape : Shape) (parts : List (List Rows)) → IsPath shape → ArePathParts parts → AreParts shape (map all_of parts)
path-ready shape parts is are =
    subst (λ (s : Shape). AreParts s (map all_of parts))
    (λ i. record { atoms = sym is.atoms i; variables = sym is.variables i; plain = shape.plain; arith = shape.arith; emits = shape.emits })
    (parts-together (of_path shape.plain shape.arith shape.emits) 2 parts are.three long each)
  where
    long-at : (k : ℕ) → k < 3 → length (get_or parts k []) ≡ 2
    long-at zero low = are.first.0
    long-at (suc zero) low = are.second.0
    long-at (suc (suc zero)) low = are.third.0
    long-at (suc (suc (suc k))) low = absurd (omega (arith, low))

    long : All (λ (spread : List Rows). length spread ≡ 2) parts
    long k d low = ap (λ (s : List Rows). length s) (get_or_default parts k d [] low) ∙ long-at k (omega (arith, low, are.three))

    part : (j u : ℕ) → j < 3 → u < 2 → IsPart (of_path shape.plain shape.arith shape.emits) j (rows_at parts j u)
    part zero u one here = record {
      typed = are.first.1 u [] (omega (arith, here, are.first.0));
      kept = λ k d l. refl;
      agreeing = λ k d l. agrees-first shape.plain shape.arith shape.emits (get_or (rows_at parts 0 u) k d);
    }
    part (suc zero) u one here = record {
      typed = are.second.1 u [] (omega (arith, here, are.second.0));
      kept = λ k d l. refl;
      agreeing = λ k d l. agrees-second shape.plain shape.arith shape.emits (get_or (rows_at parts 1 u) k d);
    }
    part (suc (suc zero)) u one here = record {
      typed = are.third.1 u [] (omega (arith, here, are.third.0));
      kept = λ k d l. refl;
      agreeing = λ k d l. agrees-third shape.plain shape.arith shape.emits (get_or (rows_at parts 2 u) k d);
    }
    part (suc (suc (suc j))) u one here = absurd (omega (arith, one))

    each : (j u : ℕ) → j < length parts → u < 2 → IsPart (of_path shape.plain shape.arith shape.emits) j (rows_at parts j u)
    each j u one here = part j u (omega (arith, one, are.three)) here
