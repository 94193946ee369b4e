-- The items of a script's joins are placed, and as wide as their atoms, whatever steps come later.
use Rattle.std.proofs.Common.{◌≡◌, ℕ, ◌<◌, ◌≤◌, ◌==◌, Bool, true, false, cond, List, [], ◌∷◌, map, length, refl, ◌∙◌, subst, arith, Option, Some}
use Rattle.std.specs.Prelude.{All, find, option_map, unwrap_or, fold, ◌&&◌, nat_lt, nat_le, sum}
use Rattle.std.specs.List.{flat_map, list_all, zip}
use Rattle.std.specs.Cmp.Lexicographic.{pointwise}
use Rattle.std.proofs.lemmas.Bool.{eqb-true, ltb-true}
use Rattle.std.proofs.lemmas.Bool.Decides.{nat_tests}
use Rattle.std.proofs.lemmas.List.{length-append, length-map}
use Rattle.std.proofs.lemmas.List.Elements.{All-nil, All-cons, All-head, All-tail, All-weaker}
use Rattle.std.proofs.lemmas.List.Sums.{sum_by-cons}
use Rattle.rel_base.specs.declared.values.ColType.{ColType}
use Rattle.rel_base.specs.Keys.{File}
use Rattle.myrial_ast.specs.declared.operators.AggOp.{AggOp}
use Rattle.myrial_ast.specs.Scalars.{Scalar}
use Rattle.myrial_ast.specs.Classes.{joins_items}
use Rattle.algebra.specs.declared.terms.Source.{Source}
use Rattle.algebra.specs.declared.terms.Source.TheVariants as source
use Rattle.algebra.specs.Trees.{AtomTree, Shape, TermTree, Same, Empty, UnionAll, Diff, Distinct, Join, Group, StepTree}
use Rattle.algebra.specs.Shapes.{widths_of}
use Rattle.algebra.specs.Conditions.{has_kinds, emitted_kind, emits_columns, is_term, are_steps, source_kinds, kinds_of_columns}
use Rattle.rel_base.specs.Limits.{most_variables}
use Rattle.algebra.specs.ShapeConditions.{is_kind, kind_in, kinds_of, is_variable, all_different, is_shape, are_atoms, are_scalars}
use Rattle.algebra.proofs.ShapeLemmas.{both}
use Rattle.placement.specs.Layouts.{PlacedRelation, Placing, rows_of, placed_nothing, placed_source, placed_step, placed_steps}
use Rattle.placement.specs.Laws.{IsPlaced, AreWide, IsColumns, IsReady, HasReadyItems, JoinsAreReady}
use Rattle.placement.proofs.WidthLemmas.{Knows, three, pointwise-length, items-wide, term-long, nothing-known, more-known}
use Rattle.placement.proofs.ScriptLemmas.{All-made, first-of-shape, checked-steps, steps-IsPlaced, found-IsPlaced}

-- ---- the columns of variables

pub length-kinds : (atoms : List AtomTree) → length (flat_map (λ (a : AtomTree). a.kinds) atoms) ≡ sum (map (λ (a : AtomTree). length a.kinds) atoms)
length-kinds [] = refl
length-kinds (a ∷ atoms) =
    omega (arith, length-append a.kinds (flat_map (λ (a : AtomTree). a.kinds) atoms), length-kinds atoms, sum_by-cons (λ (n : ℕ). n) (length a.kinds) (map (λ (a : AtomTree). length a.kinds) atoms))

-- the second of the middle part
middle-of : (a b c d e : Bool) → (a && (b && c && d) && e) ≡ true → c ≡ true
middle-of true true true d e k = refl
middle-of true true false d e k = k
middle-of true false c d e k = absurd (cc)
middle-of false b c d e k = absurd (cc)

pub below-each : (n : ℕ) (cs : List ℕ) → list_all (λ c. nat_lt c n) cs ≡ true → All (λ c. c < n) cs
below-each n [] h = All-nil (λ c. c < n)
below-each n (c ∷ cs) h =
    let parts = both (nat_lt c n) (list_all (λ c. nat_lt c n) cs) h in
    All-cons (λ c. c < n) c cs (ltb-true c n parts.0) (below-each n cs parts.1)

variable-columns : (shape : Shape) (v : List ℕ) → is_variable (kinds_of shape) (widths_of shape) v ≡ true → IsColumns shape v
variable-columns shape v h =
    let parts = three (list_all (λ c. nat_lt c (length (kinds_of shape))) v) _ (joins_items (widths_of shape) v) h in
    (some v parts.2, All-weaker (λ c. c < length (kinds_of shape)) (λ c. c < sum (widths_of shape)) (λ c l. omega (arith, l, length-kinds shape.atoms)) v (below-each (length (kinds_of shape)) v parts.0))
  where
    some : (v : List ℕ) → joins_items (widths_of shape) v ≡ true → 0 < length v
    some [] k = absurd (cc)
    some (c ∷ v) k = omega arith

shape-columns : (shape : Shape) → is_shape shape ≡ true → All (IsColumns shape) shape.variables
shape-columns shape k =
    each shape.variables
    (middle-of (are_atoms shape.atoms) (nat_le (length shape.variables) most_variables)
    (list_all (is_variable (kinds_of shape) (widths_of shape)) shape.variables) (all_different (flat_map (λ v. v) shape.variables))
    (are_scalars (kinds_of shape) shape.plain shape.arith shape.emits) k)
  where
    each : (vs : List (List ℕ)) → list_all (is_variable (kinds_of shape) (widths_of shape)) vs ≡ true → All (IsColumns shape) vs
    each [] h = All-nil (IsColumns shape)
    each (v ∷ vs) h =
        let parts = both (is_variable (kinds_of shape) (widths_of shape) v) (list_all (is_variable (kinds_of shape) (widths_of shape)) vs) h in
        All-cons (IsColumns shape) v vs (variable-columns shape v parts.0) (each vs parts.1)

-- ---- one term

join-ready : (n : ℕ) (value : Source → PlacedRelation) (shape : Shape) (sources : List Source) (test : Source → AtomTree → Bool)
    → is_shape shape ≡ true → pointwise test sources shape.atoms ≡ true → ((o : Source) → IsPlaced n (value o)) → AreWide (widths_of shape) (rows_of (map value sources)) → IsReady n shape (map value sources)
join-ready n value shape sources test shaped many placed wide = record {
  some_atom = ltb-true 0 (length shape.atoms) (first-of-shape shape shaped);
  as_many = length-map sources value ∙ pointwise-length test sources shape.atoms many;
  placed = All-made (IsPlaced n) value placed sources;
  wide = wide;
  columns = shape-columns shape shaped;
}

term-ready : (n : ℕ) (known : Source → Option (List ColType)) (value : Source → PlacedRelation) (t : TermTree) (columns : List ColType)
    → Knows known value → is_term known t columns ≡ true → ((o : Source) → IsPlaced n (value o)) → HasReadyItems n value t
term-ready n known value (Same s) columns h k placed = tt
term-ready n known value Empty columns h k placed = tt
term-ready n known value (UnionAll s t) columns h k placed = tt
term-ready n known value (Diff s t) columns h k placed = tt
term-ready n known value (Distinct s) columns h k placed = tt
term-ready n known value (Join shape sources) columns h k placed =
    let parts = three (is_shape shape) (pointwise (λ s (a : AtomTree). has_kinds (known s) a.kinds) sources shape.atoms) (pointwise (λ e k. is_kind k (kind_in (kinds_of shape) e)) shape.emits columns) k in
    join-ready n value shape sources (λ s (a : AtomTree). has_kinds (known s) a.kinds) parts.0 parts.1 placed (items-wide known value (Join shape sources) columns h k)
term-ready n known value (Group shape sources kinds) columns h k placed =
    let parts = three (is_shape shape) (pointwise (λ s (a : AtomTree). has_kinds (known s) a.kinds) sources shape.atoms) (emits_columns (kinds_of shape) kinds shape.emits columns) k in
    let emits = both (length kinds == length shape.emits) (pointwise (λ (p : Option AggOp × Scalar) k. is_kind k (emitted_kind p.0 (kind_in (kinds_of shape) p.1))) (zip kinds shape.emits) columns) parts.2 in (
      join-ready n value shape sources (λ s (a : AtomTree). has_kinds (known s) a.kinds) parts.0 parts.1 placed (items-wide known value (Group shape sources kinds) columns h k),
      eqb-true (length kinds) (length shape.emits) emits.0,
    )

-- ---- what is known stays known when later steps have results

-- statements up to one
abbrev UpTo : ℕ → List StepTree → Type 0
UpTo m steps = All (λ (s : StepTree). s.statement ≤ m) steps

found-up-to : (m number : ℕ) (earlier : List StepTree) (own : List ColType) → UpTo m earlier
    → option_map (λ (s : StepTree). kinds_of_columns s.schema) (find (λ (s : StepTree). s.statement == number) earlier) ≡ Some own → number ≤ m
found-up-to m number [] own all e = absurd (cc)
found-up-to m number (s ∷ earlier) own all e =
    by (s.statement == number) refl e (found-up-to m number earlier own (All-tail (λ (s : StepTree). s.statement ≤ m) s earlier all))
  where
    by : (b : Bool) → (s.statement == number) ≡ b
        → option_map (λ (s : StepTree). kinds_of_columns s.schema) (cond b (Some s) (find (λ (s : StepTree). s.statement == number) earlier)) ≡ Some own
        → (option_map (λ (s : StepTree). kinds_of_columns s.schema) (find (λ (s : StepTree). s.statement == number) earlier) ≡ Some own → number ≤ m) → number ≤ m
    by true k e rest = omega (arith, All-head (λ (s : StepTree). s.statement ≤ m) s earlier all, eqb-true s.statement number k)
    by false k e rest = rest e

still-known : (p : Placing) (files : List File) (m later : ℕ) (earlier : List StepTree) (results : List (ℕ × PlacedRelation)) (value : PlacedRelation) → m < later → UpTo m earlier
    → Knows (source_kinds files earlier) (placed_source p files results) → Knows (source_kinds files earlier) (placed_source p files ((later, value) ∷ results))
still-known p files m later earlier results value l all h (source.File place) own e = h (source.File place) own e
still-known p files m later earlier results value l all h (source.Result number) own e =
    by (later == number) differ (h (source.Result number) own e)
  where
    differ : (later == number) ≡ false
    differ = let low = found-up-to m number earlier own all e in grind (arith, nat_tests, low, l)

    by : (b : Bool) → b ≡ false → All (λ row. length row ≡ length own) (placed_source p files results (source.Result number)).relation.rows
        → All (λ row. length row ≡ length own) (unwrap_or (option_map (λ (r : ℕ × PlacedRelation). r.1) (cond b (Some (later, value)) (find (λ (r : ℕ × PlacedRelation). r.0 == number) results))) (placed_nothing p.workers)).relation.rows
    by true k rest = absurd (cc)
    by false k rest = rest

abbrev results-of : Placing → List File → List (ℕ × PlacedRelation) → List StepTree → List (ℕ × PlacedRelation)
results-of p files results steps = fold (λ before (s : StepTree). (s.statement, placed_step p files before s) ∷ before) results steps

known-at-end : (p : Placing) (files : List File) (m : ℕ) (known : List StepTree) → UpTo m known → (steps : List StepTree) (last : ℕ) (earlier : List StepTree) (results : List (ℕ × PlacedRelation))
    → m ≤ last → are_steps files last earlier steps ≡ true → Knows (source_kinds files known) (placed_source p files results)
    → Knows (source_kinds files known) (placed_source p files (results-of p files results steps))
known-at-end p files m known all [] last earlier results l h k = k
known-at-end p files m known all (s ∷ steps) last earlier results l h k =
    let parts = three (nat_lt last s.statement) (is_term (source_kinds files earlier) s.term (kinds_of_columns s.schema)) (are_steps files s.statement (s ∷ earlier) steps) h in
    let rises = ltb-true last s.statement parts.0 in
    known-at-end p files m known all steps s.statement (s ∷ earlier) ((s.statement, placed_step p files results s) ∷ results) (omega (arith, l, rises)) parts.2
    (still-known p files m s.statement known results (placed_step p files results s) (omega (arith, l, rises)) all k)

steps-ready : (p : Placing) (files : List File) (final : List (ℕ × PlacedRelation)) → ((o : Source) → IsPlaced p.workers (placed_source p files final o))
    → (steps : List StepTree) (last : ℕ) (earlier : List StepTree) (results : List (ℕ × PlacedRelation)) → results-of p files results steps ≡ final
    → are_steps files last earlier steps ≡ true → UpTo last earlier → Knows (source_kinds files earlier) (placed_source p files results)
    → All (λ (s : StepTree). HasReadyItems p.workers (placed_source p files final) s.term) steps
steps-ready p files final placed [] last earlier results e h all known = All-nil (λ (s : StepTree). HasReadyItems p.workers (placed_source p files final) s.term)
steps-ready p files final placed (s ∷ steps) last earlier results e h all known =
    let parts = three (nat_lt last s.statement) (is_term (source_kinds files earlier) s.term (kinds_of_columns s.schema)) (are_steps files s.statement (s ∷ earlier) steps) h in
    let rises = ltb-true last s.statement parts.0 in
    let own = placed_step p files results s in
    let at_end : Knows (source_kinds files earlier) (placed_source p files final) =
    subst (λ r. Knows (source_kinds files earlier) (placed_source p files r)) e (known-at-end p files last earlier all (s ∷ steps) last earlier results (omega arith) h known) in
    All-cons (λ (s : StepTree). HasReadyItems p.workers (placed_source p files final) s.term) s steps
    (term-ready p.workers (source_kinds files earlier) (placed_source p files final) s.term (kinds_of_columns s.schema) at_end parts.1 placed)
    (steps-ready p files final placed steps s.statement (s ∷ earlier) ((s.statement, own) ∷ results) e parts.2
    (All-cons (λ (t : StepTree). t.statement ≤ s.statement) s earlier (omega arith) (All-weaker (λ (t : StepTree). t.statement ≤ last) (λ (t : StepTree). t.statement ≤ s.statement) (λ t l. omega (arith, l, rises)) earlier all))
    (more-known p files results earlier s own known (term-long (source_kinds files earlier) (placed_source p files results) s.term (kinds_of_columns s.schema) known parts.1)))

pub joins_are_ready : JoinsAreReady
joins_are_ready p files c good of_files typed =
    let results = placed_steps p files c.steps in
    steps-ready p files results (found-IsPlaced p files results good (steps-IsPlaced p files c good of_files typed)) c.steps 0 [] [] refl
    (checked-steps files c of_files) (All-nil (λ (s : StepTree). s.statement ≤ 0)) (nothing-known p files typed)
