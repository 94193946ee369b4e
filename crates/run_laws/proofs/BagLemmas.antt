-- Rows that are known as bags.
use Rattle.std.proofs.Common.{◌≡◌, ℕ, suc, List, [], ◌∷◌, ◌++◌, map, length, get_or, refl, sym, ◌∙◌, ap}
use Rattle.std.specs.Prelude.{All}
use Rattle.std.proofs.lemmas.List.{length-map}
use Rattle.std.proofs.lemmas.List.Elements.{All-nil, All-cons, All-head, All-tail, All-map}
use Rattle.std.proofs.lemmas.List.Sorted.{All-permutation, IsPermutation-trans, length_permutation}
use Rattle.rel_base.specs.declared.relations.Column.{Column}
use Rattle.rel_base.specs.Relations.{HasTypes, same_type, type_of}
use Rattle.myrial_ast.specs.Combinations.{Row, Rows}
use Rattle.bag_laws.specs.Permuted.{SameTables, no_table, a_table}
use Rattle.algebra.specs.declared.terms.Source.{Source}
use Rattle.algebra.specs.Trees.{AtomTree, Shape, TermTree, Same, Empty, UnionAll, Diff, Distinct, Join, Group}
use Rattle.algebra.specs.Shapes.{widths_of}
use Rattle.algebra.specs.Meanings.{sources_of}
use Rattle.algebra.specs.Rewriting.{AreTables}
use Rattle.std.specs.Prelude.{IsTrue}
use Rattle.std.specs.Cmp.Lexicographic.{pointwise}
use Rattle.placement.specs.Layouts.{PlacedRelation, rows_of, together, placed_steps}
use Rattle.placement.specs.Laws.{AreWide, IsPlaced, IsReady, IsSamePlaced, AreSamePlaced, none_placed, one_placed, HasReadyItems}
use Rattle.placement.proofs.ScriptLemmas.{steps-IsPlaced, found-IsPlaced}
use Rattle.placement.proofs.TogetherLemmas.{together-same}
use Rattle.run_laws.specs.Values.{meant}
use Rattle.run_laws.specs.Scripts.{AreRowsOf, HasTypedSources, HeldAreMeant, ReadyAreOfBags}
use Rattle.run_laws.proofs.TypeLemmas.{meant-typed}

-- ---- lists of rows

tables-long : (ts us : List Rows) → SameTables ts us → length us ≡ length ts
tables-long _ _ no_table = refl
tables-long _ _ (a_table rows others tables rest h hs) = ap suc (tables-long tables rest hs)

module _ {X : Type 0} (P : X → Type 0) where
  all-apart : (xs ys : List X) → All P (xs ++ ys) → All P xs × All P ys
  all-apart [] ys h = (All-nil P, h)
  all-apart (x ∷ xs) ys h =
      let rest = all-apart xs ys (All-tail P x (xs ++ ys) h) in
      (All-cons P x xs (All-head P x (xs ++ ys) h) rest.0, rest.1)

pub each-of : (P : Row → Type 0) (parts : List Rows) → All P (together parts) → All (All P) parts
each-of P [] h = All-nil (All P)
each-of P (rows ∷ parts) h =
    let split = all-apart P rows (together parts) h in
    All-cons (All P) rows parts split.0 (each-of P parts split.1)

pub held_are_meant : HeldAreMeant
held_are_meant p files c good of_files typed o parts same =
    let q = meant p files c o in
    let placed = found-IsPlaced p files (placed_steps p files c.steps) good (steps-IsPlaced p files c good of_files typed) o in
    let rows = IsPermutation-trans q.relation.rows (together q.parts) (together parts) placed.all_rows
    (together-same q.parts parts same) in
    record {
      each_worker = tables-long q.parts parts same ∙ placed.each_worker;
      rows = rows;
      count = length_permutation q.relation.rows (together parts) rows;
      typed =
          each-of (HasTypes q.relation.schema) parts
          (All-permutation (HasTypes q.relation.schema) q.relation.rows (together parts) rows
          (meant-typed p files c of_files typed o));
    }

-- ---- sources

module _ (v w : Source → PlacedRelation) where
  pub values-placed : (sources : List Source) → All (λ o. IsSamePlaced (v o) (w o)) sources
      → AreSamePlaced (map v sources) (map w sources)
  values-placed [] same = none_placed
  values-placed (o ∷ sources) same =
      one_placed (v o) (w o) (map v sources) (map w sources) (All-head (λ o. IsSamePlaced (v o) (w o)) o sources same)
      (values-placed sources (All-tail (λ o. IsSamePlaced (v o) (w o)) o sources same))

  wide-same : (widths : List ℕ) (sources : List Source) → All (λ o. IsSamePlaced (v o) (w o)) sources
      → AreWide widths (rows_of (map v sources)) → AreWide widths (rows_of (map w sources))
  wide-same [] [] same h = tt
  wide-same [] (o ∷ sources) same h = absurd h
  wide-same (width ∷ widths) [] same h = absurd h
  wide-same (width ∷ widths) (o ∷ sources) same h = (
    All-permutation (λ (row : Row). length row ≡ width) (v o).relation.rows (w o).relation.rows
        (All-head (λ o. IsSamePlaced (v o) (w o)) o sources same).rows h.0,
    wide-same widths sources (All-tail (λ o. IsSamePlaced (v o) (w o)) o sources same) h.1,
  )

  tables-same : (atoms : List AtomTree) (sources : List Source) → All (λ o. IsSamePlaced (v o) (w o)) sources
      → AreTables atoms (rows_of (map v sources)) → AreTables atoms (rows_of (map w sources))
  tables-same [] [] same h = tt
  tables-same [] (o ∷ sources) same h = absurd h
  tables-same (a ∷ atoms) [] same h = absurd h
  tables-same (a ∷ atoms) (o ∷ sources) same h = (
    All-permutation (λ row. IsTrue (pointwise (λ k v. same_type k (type_of v)) a.kinds row)) (v o).relation.rows
        (w o).relation.rows (All-head (λ o. IsSamePlaced (v o) (w o)) o sources same).rows h.0,
    tables-same atoms sources (All-tail (λ o. IsSamePlaced (v o) (w o)) o sources same) h.1,
  )

  join-ready : (n : ℕ) (shape : Shape) (sources : List Source) → All (λ o. IsPlaced n (w o)) sources
      → All (λ o. IsSamePlaced (v o) (w o)) sources
      → IsReady n shape (map v sources) → IsReady n shape (map w sources)
  join-ready n shape sources placed same h = record {
    some_atom = h.some_atom;
    as_many = length-map sources w ∙ sym (length-map sources v) ∙ h.as_many;
    placed = All-map (IsPlaced n) w sources placed;
    wide = wide-same (widths_of shape) sources same h.wide;
    columns = h.columns;
  }

  ready-same : (n : ℕ) (t : TermTree) → All (λ o. IsPlaced n (w o)) (sources_of t)
      → All (λ o. IsSamePlaced (v o) (w o)) (sources_of t)
      → HasReadyItems n v t → HasReadyItems n w t
  ready-same n (Same s) placed same h = tt
  ready-same n Empty placed same h = tt
  ready-same n (UnionAll s t) placed same h = tt
  ready-same n (Diff s t) placed same h = tt
  ready-same n (Distinct s) placed same h = tt
  ready-same n (Join shape sources) placed same h = join-ready n shape sources placed same h
  ready-same n (Group shape sources kinds) placed same h = (join-ready n shape sources placed same h.0, h.1)

  module _ (schema : List Column) where
    rows-same : (sources : List Source) → All (λ o. IsSamePlaced (v o) (w o)) sources → All (AreRowsOf schema v) sources
        → All (AreRowsOf schema w) sources
    rows-same sources same h =
        λ k d l. All-permutation (HasTypes schema) (v (get_or sources k d)).relation.rows (w (get_or sources k d)).relation.rows
        (same k d l).rows (h k d l)

    typed-same : (t : TermTree) → All (λ o. IsSamePlaced (v o) (w o)) (sources_of t) → HasTypedSources schema v t
        → HasTypedSources schema w t
    typed-same (Same s) same h = rows-same (s ∷ []) same h
    typed-same Empty same h = rows-same [] same h
    typed-same (UnionAll s t) same h = rows-same (s ∷ t ∷ []) same h
    typed-same (Diff s t) same h = rows-same (s ∷ t ∷ []) same h
    typed-same (Distinct s) same h = rows-same (s ∷ []) same h
    typed-same (Join shape sources) same h = tables-same shape.atoms sources same h
    typed-same (Group shape sources kinds) same h = tables-same shape.atoms sources same h

pub ready_are_of_bags : ReadyAreOfBags
ready_are_of_bags n schema v w t placed same ready typed =
    (ready-same v w n t placed same ready, typed-same v w schema t same typed)
