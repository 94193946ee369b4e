-- Scripts by what their sources stand for.
use Rattle.std.proofs.Common.{◌≡◌, ℕ, zero, suc, ◌<◌, ◌==◌, Bool, true, false, cond, List, [], ◌∷◌, map, length, get_or, refl, sym, ◌∙◌, ap, subst, arith, Option, Some, None}
use Rattle.std.specs.Prelude.{All, Contains, IsTrue, find, fold, nat_lt, take, ◌&&◌}
use Rattle.std.specs.Cmp.Lexicographic.{pointwise}
use Rattle.std.proofs.lemmas.Bool.{eqb-true}
use Rattle.std.proofs.lemmas.List.{get_or-map}
use Rattle.std.proofs.lemmas.List.Elements.{All-nil, All-cons, All-head, All-tail, All-weaker, All-contains, Contains-get_or}
use Rattle.rel_base.specs.declared.faults.RunFault.{RunFault}
use Rattle.rel_base.specs.declared.relations.Column.{Column}
use Rattle.rel_base.specs.declared.values.ColType.{ColType}
use Rattle.rel_base.specs.Keys.{File}
use Rattle.rel_base.specs.Relations.{HasTypes, same_type, type_of}
use Rattle.myrial_ast.specs.Combinations.{Row, Rows}
use Rattle.algebra.specs.declared.terms.Source.{Source}
use Rattle.algebra.specs.declared.terms.Source.TheVariants as source
use Rattle.algebra.specs.declared.terms.StoreStep.{StoreStep}
use Rattle.algebra.specs.Trees.{AtomTree, TermTree, Same, Empty, UnionAll, Diff, Distinct, Join, Group, StepTree}
use Rattle.algebra.specs.ShapeConditions.{HasKinds, is_shape, is_kind, kind_in, kinds_of}
use Rattle.algebra.specs.Conditions.{kinds_of_columns, source_kinds, has_kinds, is_term, are_steps, emits_columns}
use Rattle.algebra.specs.Meanings.{sources_of}
use Rattle.algebra.specs.Rewriting.{AreTables}
use Rattle.algebra.proofs.ShapeLemmas.{both}
use Rattle.algebra.proofs.TypeLemmas.{same_type-itself, typed-fits}
use Rattle.algebra.proofs.MemberLemmas.{in_front, behind}
use Rattle.bag_laws.proofs.TypedGroupLemmas.{AreOf}
use Rattle.placement.specs.Layouts.{PlacedRelation, Placing, rows_of, placed_file, placed_nothing, placed_files, placed_source, placed_step, placed_steps}
use Rattle.placement.specs.Laws.{HasReadyItems}
use Rattle.placement.proofs.WidthLemmas.{three}
use Rattle.placement.proofs.ScriptLemmas.{checked-steps, steps-IsPlaced, found-IsPlaced}
use Rattle.placement.proofs.ReadyLemmas.{joins_are_ready}
use Rattle.run_laws.specs.Values.{meant, rows_meant, result_of, step_fault, first_of}
use Rattle.run_laws.specs.Rewritten.{needed}
use Rattle.run_laws.specs.Scripts.{ScriptsAreOfSteps, FilesAreMeant, ResultsAreFound, FaultsAreFirst, AreRowsOf, HasTypedSources, NeededAreMeant}
use Rattle.run_laws.proofs.SourceLemmas.{map-same}
use Rattle.run_laws.proofs.MeantLemmas.{IsUpTo, AreInOrder, checked-order, found-stays, meant-related, steps_are_meant, faults_are_of_steps}
use Rattle.run_laws.proofs.RewrittenLemmas.{needed-own}
use Rattle.run_laws.proofs.TypeLemmas.{Knows, one-source, term-typed, nothing-known, more-known}

-- ---- plan, exchanges and stores

pub scripts_are_of_steps : ScriptsAreOfSteps
scripts_are_of_steps p files c = record {
  plan = λ local. refl;
  exchanges = refl;
  placed = refl;
  stored = λ i. map {B = File} (λ (t : StoreStep). (t.key, sym (meant-related p files c t.source) i)) c.stores;
}

pub files_are_meant : FilesAreMeant
files_are_meant p files c place f l =
    get_or-map (λ (f : File). placed_file p.workers f.1) files place f (placed_nothing p.workers) l

found-is : {X : Type 0} (test : X → Bool) (xs : List X) (x : X) → find test xs ≡ Some x → Contains xs x × (test x ≡ true)
found-is test [] x e = absurd (cc)
found-is {X} test (y ∷ ys) x e = by (test y) refl e (found-is test ys x)
  where
    by : (b : Bool) → test y ≡ b → cond b (Some y) (find test ys) ≡ Some x
        → (find test ys ≡ Some x → Contains ys x × (test x ≡ true))
        → Contains (y ∷ ys) x × (test x ≡ true)
    by true passes k rest =
        let same : y ≡ x = cc in
        subst (λ z. Contains (y ∷ ys) z × (test z ≡ true)) same (in_front y ys, passes)
    by false fails k rest = let there = rest k in (behind y ys x there.0, there.1)

pub results_are_found : ResultsAreFound
results_are_found p files c of_files number s e =
    let there = found-is (λ (t : StepTree). t.statement == number) c.steps s e in
    subst (λ n. meant p files c (source.Result n) ≡ result_of p (meant p files c) s) (eqb-true s.statement number there.1)
    (All-contains (λ (s : StepTree). meant p files c (source.Result s.statement) ≡ result_of p (meant p files c) s) c.steps s
    (steps_are_meant p files c of_files) there.0)

-- ---- faults

module _ {X : Type 0} (fault_of : X → Option RunFault) where
  first-at : (xs : List X) (i : ℕ) (a : X) → i < length xs → All (λ x. fault_of x ≡ None) (take i xs) → (own : RunFault)
      → fault_of (get_or xs i a) ≡ Some own
      → first_of (map fault_of xs) ≡ Some own
  first-at [] i a l sound own e = absurd (omega arith)
  first-at (x ∷ xs) zero a l sound own e = ap (λ o. first_of (o ∷ map fault_of xs)) e
  first-at (x ∷ xs) (suc i) a l sound own e =
      ap (λ o. first_of (o ∷ map fault_of xs)) (All-head (λ x. fault_of x ≡ None) x (take i xs) sound)
      ∙ first-at xs i a (omega arith) (All-tail (λ x. fault_of x ≡ None) x (take i xs) sound) own e

  first-none : (xs : List X) → All (λ x. fault_of x ≡ None) xs → first_of (map fault_of xs) ≡ None
  first-none [] sound = refl
  first-none (x ∷ xs) sound =
      ap (λ o. first_of (o ∷ map fault_of xs)) (All-head (λ x. fault_of x ≡ None) x xs sound)
      ∙ first-none xs (All-tail (λ x. fault_of x ≡ None) x xs sound)

pub faults_are_first : FaultsAreFirst
faults_are_first p files c of_files rules =
    let own = step_fault rules (rows_meant p files c) in
    let whole = faults_are_of_steps p files c of_files rules in
    record {
      first = λ i a l sound fault e. whole ∙ first-at own (needed c) i a l sound fault e;
      none = λ sound. whole ∙ first-none own (needed c) sound;
    }

-- ---- the types of sources

fits-kinds : (kinds : List ColType) (row : Row) → map type_of row ≡ kinds → pointwise (λ k v. same_type k (type_of v)) kinds row
    ≡ true
fits-kinds [] [] e = refl
fits-kinds [] (v ∷ row) e = absurd (cc)
fits-kinds (k ∷ kinds) [] e = absurd (cc)
fits-kinds (k ∷ kinds) (v ∷ row) e =
    let first : type_of v ≡ k = cc in
    let others : map type_of row ≡ kinds = cc in
    rw (first, same_type-itself k) (fits-kinds kinds row others)

has-kinds : (kinds : List ColType) (rows : Rows) → AreOf kinds rows → HasKinds kinds rows
has-kinds kinds rows h =
    All-weaker (λ (row : Row). map type_of row ≡ kinds) (λ row. IsTrue (pointwise (λ k v. same_type k (type_of v)) kinds row))
    (fits-kinds kinds) rows h

module _ (known : Source → Option (List ColType)) (value : Source → PlacedRelation)
    (knows : Knows known (λ o. (value o).relation.rows)) where
  rows-typed : (schema : List Column) (o : Source) → has_kinds (known o) (kinds_of_columns schema) ≡ true → AreRowsOf schema value o
  rows-typed schema o h =
      All-weaker (λ (row : Row). map type_of row ≡ kinds_of_columns schema) (HasTypes schema) (typed-fits schema)
      (value o).relation.rows
      (one-source known (λ o. (value o).relation.rows) knows o (kinds_of_columns schema) h)

  tables-typed : (sources : List Source) (atoms : List AtomTree)
      → pointwise (λ s (a : AtomTree). has_kinds (known s) a.kinds) sources atoms ≡ true
      → AreTables atoms (rows_of (map value sources))
  tables-typed [] [] h = tt
  tables-typed [] (a ∷ atoms) h = absurd (cc)
  tables-typed (s ∷ sources) [] h = absurd (cc)
  tables-typed (s ∷ sources) (a ∷ atoms) h =
      let parts = both (has_kinds (known s) a.kinds) (pointwise
      (λ s (a : AtomTree). has_kinds (known s) a.kinds) sources atoms) h in (
        has-kinds a.kinds (value s).relation.rows (one-source known
            (λ o. (value o).relation.rows) knows s a.kinds parts.0),
        tables-typed sources atoms parts.1,
      )

  one-typed-source : (schema : List Column) (s : Source) → has_kinds (known s) (kinds_of_columns schema) ≡ true
      → All (AreRowsOf schema value) (s ∷ [])
  one-typed-source schema s h = All-cons (AreRowsOf schema value) s [] (rows-typed schema s h) (All-nil (AreRowsOf schema value))

  two-typed-sources : (schema : List Column) (s t : Source)
      → (has_kinds (known s) (kinds_of_columns schema) && has_kinds (known t) (kinds_of_columns schema)) ≡ true
      → All (AreRowsOf schema value) (s ∷ t ∷ [])
  two-typed-sources schema s t h =
      let parts = both (has_kinds (known s) (kinds_of_columns schema)) (has_kinds (known t) (kinds_of_columns schema)) h in
      All-cons (AreRowsOf schema value) s (t ∷ []) (rows-typed schema s parts.0) (one-typed-source schema t parts.1)

  sources-typed : (schema : List Column) (t : TermTree) → is_term known t (kinds_of_columns schema) ≡ true
      → HasTypedSources schema value t
  sources-typed schema (Same s) h = one-typed-source schema s h
  sources-typed schema Empty h = All-nil (AreRowsOf schema value)
  sources-typed schema (UnionAll s t) h = two-typed-sources schema s t h
  sources-typed schema (Diff s t) h = two-typed-sources schema s t h
  sources-typed schema (Distinct s) h = one-typed-source schema s h
  sources-typed schema (Join shape sources) h =
      tables-typed sources shape.atoms
      (three (is_shape shape) (pointwise (λ s (a : AtomTree). has_kinds (known s) a.kinds) sources shape.atoms)
      (pointwise (λ e k. is_kind k (kind_in (kinds_of shape) e)) shape.emits (kinds_of_columns schema)) h).1
  sources-typed schema (Group shape sources kinds) h =
      tables-typed sources shape.atoms
      (three (is_shape shape) (pointwise (λ s (a : AtomTree). has_kinds (known s) a.kinds) sources shape.atoms)
      (emits_columns (kinds_of shape) kinds shape.emits (kinds_of_columns schema)) h).1

-- what stands for the same has the same types
module _ (schema : List Column) (v w : Source → PlacedRelation) where
  each-same : (sources : List Source) → All (λ o. v o ≡ w o) sources → All (AreRowsOf schema v) sources
      → All (AreRowsOf schema w) sources
  each-same sources e h = λ k d l. subst (λ (q : PlacedRelation). All (HasTypes schema) q.relation.rows) (e k d l) (h k d l)

  typed-same : (t : TermTree) → All (λ o. v o ≡ w o) (sources_of t) → HasTypedSources schema v t → HasTypedSources schema w t
  typed-same (Same s) e h = each-same (s ∷ []) e h
  typed-same Empty e h = each-same [] e h
  typed-same (UnionAll s t) e h = each-same (s ∷ t ∷ []) e h
  typed-same (Diff s t) e h = each-same (s ∷ t ∷ []) e h
  typed-same (Distinct s) e h = each-same (s ∷ []) e h
  typed-same (Join shape sources) e h = subst (λ given. AreTables shape.atoms (rows_of given)) (map-same v w sources e) h
  typed-same (Group shape sources kinds) e h = subst (λ given. AreTables shape.atoms (rows_of given)) (map-same v w sources e) h

module _ (p : Placing) (files : List File) (final : List (ℕ × PlacedRelation)) where
  abbrev IsTypedAtEnd : StepTree → Type 0
  IsTypedAtEnd s = HasTypedSources s.schema (placed_source p files final) s.term

  steps-typed-sources : (steps : List StepTree) (last : ℕ) (earlier : List StepTree) (results : List (ℕ × PlacedRelation))
      → are_steps files last earlier steps ≡ true
      → AreInOrder last steps → fold (λ before (s : StepTree). (s.statement, placed_step p files before s) ∷ before) results steps
      ≡ final
      → Knows (source_kinds files earlier) (λ o. (placed_source p files results o).relation.rows) → All IsTypedAtEnd steps
  steps-typed-sources [] last earlier results h order e known = All-nil IsTypedAtEnd
  steps-typed-sources (s ∷ steps) last earlier results h order e known =
      let parts = three (nat_lt last s.statement) (is_term (source_kinds files earlier) s.term (kinds_of_columns s.schema))
      (are_steps files s.statement (s ∷ earlier) steps) h in
      let own = placed_step p files results s in
      All-cons IsTypedAtEnd s steps
      (typed-same s.schema (placed_source p files results) (placed_source p files final) s.term
      (All-weaker (IsUpTo last) (λ o. placed_source p files results o ≡ placed_source p files final o)
      (λ o low. sym (found-stays (placed_nothing p.workers) (placed_files p files) (placed_step p files)
      (s ∷ steps) last order results o low) ∙ ap (λ all. placed_source p files all o) e)
      (sources_of s.term) order.1)
      (sources-typed (source_kinds files earlier) (placed_source p files results) known s.schema s.term parts.1))
      (steps-typed-sources steps s.statement (s ∷ earlier) ((s.statement, own) ∷ results) parts.2 order.2 e
      (more-known p files results earlier s own known
      (term-typed (source_kinds files earlier) (λ o. (placed_source p files results o).relation.rows) known s.term
      (kinds_of_columns s.schema) parts.1)))

pub needed_are_meant : NeededAreMeant
needed_are_meant p files c good of_files typed k d l =
    let s = get_or (needed c) k d in
    let own = needed-own c s (Contains-get_or (needed c) k d l) in
    record {
      result =
          All-contains (λ (s : StepTree). meant p files c (source.Result s.statement) ≡ result_of p (meant p files c) s) c.steps s
          (steps_are_meant p files c of_files) own;
      placed =
          λ i o low. found-IsPlaced p files (placed_steps p files c.steps) good (steps-IsPlaced p files c good of_files typed)
          (get_or (sources_of s.term) i o);
      ready =
          All-contains (λ (s : StepTree). HasReadyItems p.workers (meant p files c) s.term) c.steps s
          (joins_are_ready p files c good of_files typed) own;
      typed =
          All-contains (λ (s : StepTree). HasTypedSources s.schema (meant p files c) s.term) c.steps s
          (steps-typed-sources p files (placed_steps p files c.steps) c.steps 0 [] [] (checked-steps files c of_files)
          (checked-order files c of_files) refl
          (nothing-known p files typed)) own;
    }
