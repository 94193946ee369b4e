-- The kept rows of a join's atoms are parts at workers, and placed relations.
use Rattle.std.proofs.Common.{◌≡◌, ℕ, ◌+◌, ◌<◌, true, List, [], ◌∷◌, length, map, get_or, All, refl, sym, ap, ◌∙◌, subst, arith}
use Rattle.std.specs.Prelude.{filter, IsTrue}
use Rattle.std.specs.List.{enumerate_from}
use Rattle.std.specs.Cmp.Lexicographic.{pointwise}
use Rattle.std.proofs.lemmas.List.{length-map, get_or-map, get_or_default}
use Rattle.std.proofs.lemmas.List.FromFn.{length-enumerate_from, get_or-enumerate_from}
use Rattle.std.proofs.lemmas.List.Elements.{All-filter, All-weaker, filter_passes}
use Rattle.rel_base.specs.Relations.{type_of, same_type}
use Rattle.myrial_ast.specs.Combinations.{Row, Rows, all_hold}
use Rattle.algebra.specs.Trees.{Shape}
use Rattle.algebra.specs.Shapes.{kept_of, kept_spreads}
use Rattle.algebra.specs.Joins.{no_atom, IsPart, agrees_in}
use Rattle.algebra.specs.Rewriting.{KeepsAreKept}
use Rattle.algebra.proofs.ShapeLemmas.{both}
use Rattle.placement.specs.Exchanges.{kept_parts}
use Rattle.placement.specs.Layouts.{PlacedRelation}
use Rattle.row_exchange.specs.Routes.{rows_at}
use Rattle.kept_rows.specs.KeptTests.{is_kept}
use Rattle.kept_rows.specs.KeptSpreads.{AreTypedParts}
use Rattle.routed_joins.specs.RouteJoins.{ArePartsAtWorkers}
use Rattle.routed_joins.specs.PlacedJoins.{placed_rows, placed_items}

pub items-kept : (shape : Shape) (a : ℕ) (items : List PlacedRelation)
    → placed_items (map (λ (e : ℕ × List Rows). map (kept_of shape e.0) e.1) (enumerate_from a (map (λ (p : PlacedRelation). p.parts) items)))
    ≡ map (λ (e : ℕ × PlacedRelation). placed_rows (kept_parts shape e.0 e.1)) (enumerate_from a items)
items-kept shape a [] = refl
items-kept shape a (p ∷ items) = ap (λ l. placed_rows (kept_parts shape a p) ∷ l) (items-kept shape (a + 1) items)

module _ (shape : Shape) (workers : ℕ) (parts : List (List Rows)) (pushed : KeepsAreKept shape) (typed : AreTypedParts shape parts)
    (each : All (λ (spread : List Rows). length spread ≡ workers) parts) where
  abbrev of-atom : ℕ × List Rows → List Rows
  of-atom e = map (kept_of shape e.0) e.1

  kept-long : length (kept_spreads shape parts) ≡ length parts
  kept-long = length-map (enumerate_from 0 parts) of-atom ∙ length-enumerate_from 0 parts

  spread-at : (j : ℕ) → j < length parts → get_or (kept_spreads shape parts) j [] ≡ map (kept_of shape j) (get_or parts j [])
  spread-at j one =
      get_or-map of-atom (enumerate_from 0 parts) j (0, []) [] (omega (arith, one, length-enumerate_from 0 parts))
      ∙ ap of-atom (get_or-enumerate_from 0 parts j (0, []) one) ∙ (λ i. map (kept_of shape (zero-plus j i)) (get_or parts j []))
    where
      zero-plus : (n : ℕ) → 0 + n ≡ n
      zero-plus n = omega arith

  rows-at : (j u : ℕ) → j < length parts → u < workers → rows_at (kept_spreads shape parts) j u ≡ kept_of shape j (rows_at parts j u)
  rows-at j u one here =
      ap (λ (l : List Rows). get_or l u []) (spread-at j one)
      ∙ get_or-map (kept_of shape j) (get_or parts j []) u [] [] (omega (arith, here, each j [] one))

  part-kept : (j u : ℕ) → j < length parts → u < workers → IsPart shape j (kept_of shape j (rows_at parts j u))
  part-kept j u one here =
      let rows = rows_at parts j u in
      let kinds = typed.typed j one u [] (omega (arith, here, each j [] one)) in
      let atom : j < length shape.atoms = omega (arith, one, typed.one_each) in
      let tests : kept_of shape j rows ≡ filter (all_hold (get_or shape.atoms j no_atom).keeps) rows = sym (pushed j rows atom kinds) in
      record {
        typed = All-filter (is_kept shape j) (λ row. IsTrue (pointwise (λ k v. same_type k (type_of v)) (get_or shape.atoms j no_atom).kinds row)) rows kinds;
        kept = subst (All (λ (row : Row). IsTrue (all_hold (get_or shape.atoms j no_atom).keeps row))) (sym tests) (filter_passes (all_hold (get_or shape.atoms j no_atom).keeps) rows);
        agreeing = All-weaker (λ (row : Row). is_kept shape j row ≡ true) (λ (row : Row). IsTrue (agrees_in shape j row)) (λ row h. (both _ (agrees_in shape j row) h).1)
            (kept_of shape j rows) (filter_passes (is_kept shape j) rows);
      }

  pub kept-parts : ArePartsAtWorkers shape workers (kept_spreads shape parts)
  kept-parts = record {
    one_each = kept-long ∙ typed.one_each;
    each_worker = λ j d below.
        let one : j < length parts = omega (arith, below, kept-long) in
        ap length (get_or_default (kept_spreads shape parts) j d [] below ∙ spread-at j one) ∙ length-map (get_or parts j []) (kept_of shape j) ∙ each j [] one;
    each = λ j u below here.
        let one : j < length parts = omega (arith, below, kept-long) in
        subst (IsPart shape j) (sym (rows-at j u one here)) (part-kept j u one here);
  }
