-- The plan that the notes of a run print fits its steps.
use Rattle.std.proofs.Common.{◌≡◌, ◌∙◌, ℕ, suc, ◌+◌, ◌≤◌, ◌&&◌, Bool, true, false, cond, nat_le, nat_lt, List, [], ◌∷◌, ◌++◌, map, length, length-append, take, Option, Some, None, option_map, slice_index_or, refl, sym, ap, ap₂, arith, append_assoc, append-nil}
use Rattle.std.specs.Prelude.{⊤}
use Rattle.std.specs.List.{enumerate_from, flat_map, list_all}
use Rattle.std.specs.Option.{option_to_list}
use Rattle.std.proofs.lemmas.Bool.{eq-eqb, le-leb, leb-true, lt-leb, ltb-true}
use Rattle.std.proofs.lemmas.List.{get_or_at, length-map, take_all}
use Rattle.algebra.specs.declared.notes.PlanNote.{PlanNote}
use Rattle.algebra.specs.declared.notes.PlanNote.TheVariants as note
use Rattle.algebra.specs.declared.settings.JoinKind.{JoinKind}
use Rattle.algebra.specs.declared.terms.Source.{Source}
use Rattle.algebra.specs.declared.terms.StoreStep.{StoreStep}
use Rattle.rel_base.specs.declared.values.ColType.{ColType}
use Rattle.rel_base.specs.declared.values.Value.{Value}
use Rattle.rel_base.specs.Keys.{File}
use Rattle.std.specs.Cmp.Lexicographic.{pointwise}
use Rattle.algebra.specs.Trees.{AtomTree, Shape, TermTree, Same, Empty, UnionAll, Diff, Distinct, Join, Group, StepTree}
use Rattle.algebra.specs.Shapes.{is_acyclic_shape, kept_of, widths_of}
use Rattle.algebra.specs.Conditions.{are_steps, has_kinds, is_store, is_term, kinds_of_columns, source_kinds}
use Rattle.algebra.specs.Meanings.{is_used, needed_steps}
use Rattle.algebra.specs.Rewriting.{AreSameSteps, no_step, a_step, IsPushed, IsSameTerm}
use Rattle.algebra.specs.ShapeConditions.{all_different, are_atoms, are_scalars, are_variables, is_shape, is_variable, kinds_of}
use Rattle.algebra.proofs.ShapeLemmas.{both}
use Rattle.placement.proofs.ScriptLemmas.{first-of-shape}
use Rattle.placement.proofs.WidthLemmas.{pointwise-length}
use Rattle.rel_base.specs.Limits.{most_variables}
use Rattle.share_chooser.proofs.VectorLemmas.{vector-passes}
use Rattle.placement.specs.Layouts.{PlacedRelation, Placing, Shuffle, ByCells, ByKeys, Broadcast, joined_items, placed_source, placed_steps, rows_of}
use Rattle.placement.specs.Laws.{IsPlacing, IsSharing}
use Rattle.placement.specs.Plans.{group_note, item_notes, join_notes, places_of, plan_of, pushed_of, reduce_notes, share_of, shuffle_note, step_notes, term_notes, variable_notes}
use Rattle.fragmenter.specs.Plans.{first_misfit, joins_of, variables_met, variables_of}
use Rattle.fragmenter.specs.declared.plans.Misfit.TheVariants as unfit
use Rattle.fragmenter.specs.Laws.{NotedPlanFits}
use Rattle.fragmenter.specs.NotedPlans.{choices_behind, choices_in}

-- ---- notes that tell of no choice

items_pass : (shape : Shape) (given : List (List (List Value))) (i n : ℕ) (sh : List ℕ) (more : List PlanNote)
    → choices_behind n sh (map (λ (e : ℕ × List (List Value)). note.Item (suc e.0) (length e.1) (pushed_of shape e.0) (length (kept_of shape e.0 e.1))) (enumerate_from i given) ++ more)
    ≡ choices_behind n sh more
items_pass shape [] i n sh more = refl
items_pass shape (rows ∷ given) i n sh more = items_pass shape given (i + 1) n sh more

reduction_passes : (reduce : Bool) (shape : Shape) (items : List (List (List Value))) (n : ℕ) (sh : List ℕ) (more : List PlanNote)
    → choices_behind n sh (reduce_notes reduce shape items ++ more) ≡ choices_behind n sh more
reduction_passes false shape items n sh more = refl
reduction_passes true shape items n sh more = either (is_acyclic_shape shape)
  where
    either : (b : Bool) → choices_behind n sh ((cond b (note.Reduced (map (λ rows. length rows) items)) note.ReduceCyclic ∷ []) ++ more) ≡ choices_behind n sh more
    either true = refl
    either false = refl

keys_pass : (shape : Shape) (vs : List (List ℕ)) (i n : ℕ) (sh : List ℕ) (more : List PlanNote)
    → choices_behind n sh (map (λ (e : ℕ × List ℕ). note.Variable (suc e.0) (places_of shape e.1) (share_of ByKeys e.0)) (enumerate_from i vs) ++ more)
    ≡ choices_behind n sh more
keys_pass shape [] i n sh more = refl
keys_pass shape (v ∷ vs) i n sh more = keys_pass shape vs (i + 1) n sh more

broadcast_passes : (shape : Shape) (vs : List (List ℕ)) (i n : ℕ) (sh : List ℕ) (more : List PlanNote)
    → choices_behind n sh (map (λ (e : ℕ × List ℕ). note.Variable (suc e.0) (places_of shape e.1) (share_of Broadcast e.0)) (enumerate_from i vs) ++ more)
    ≡ choices_behind n sh more
broadcast_passes shape [] i n sh more = refl
broadcast_passes shape (v ∷ vs) i n sh more = broadcast_passes shape vs (i + 1) n sh more

-- ---- the shares of variables, told one after another

one_told : (all sh : List ℕ) (s : ℕ) (left : List ℕ) (i : ℕ) → all ≡ sh ++ s ∷ left → length sh ≡ i → length all ≤ most_variables
    → take most_variables (sh ++ slice_index_or all i 1 ∷ []) ≡ sh ++ s ∷ []
one_told all sh s left i parts at few =
    let is : slice_index_or all i 1 ≡ s = ap (λ l. slice_index_or l i 1) parts ∙ get_or_at sh s left 1 i at in
    let short : length (sh ++ s ∷ []) ≤ most_variables = omega (arith, few, ap length parts, length-append sh (s ∷ left), length-append sh (s ∷ [])) in
    ap (λ share. take most_variables (sh ++ share ∷ [])) is ∙ take_all most_variables (sh ++ s ∷ []) short

shares_told : (shape : Shape) (all : List ℕ) (vs : List (List ℕ)) (i n : ℕ) (sh left : List ℕ) (more : List PlanNote)
    → all ≡ sh ++ left → length sh ≡ i → length left ≡ length vs → length all ≤ most_variables
    → choices_behind n sh (map (λ (e : ℕ × List ℕ). note.Variable (suc e.0) (places_of shape e.1) (share_of (ByCells all) e.0)) (enumerate_from i vs) ++ more)
    ≡ choices_behind n all more
shares_told shape all [] i n sh [] more parts at as_many few = ap (λ s. choices_behind n s more) (sym (append-nil sh) ∙ sym parts)
shares_told shape all [] i n sh (s ∷ left) more parts at as_many few = absurd (omega (arith, as_many))
shares_told shape all (v ∷ vs) i n sh [] more parts at as_many few = absurd (omega (arith, as_many))
shares_told shape all (v ∷ vs) i n sh (s ∷ left) more parts at as_many few =
    let rest = map (λ (e : ℕ × List ℕ). note.Variable (suc e.0) (places_of shape e.1) (share_of (ByCells all) e.0)) (enumerate_from (i + 1) vs) ++ more in
    ap (λ told. choices_behind n told rest) (one_told all sh s left i parts at few)
    ∙ shares_told shape all vs (i + 1) n (sh ++ s ∷ []) left more (parts ∙ sym (append_assoc sh (s ∷ []) left))
    (omega (arith, length-append sh (s ∷ []), at)) (omega (arith, as_many)) few

-- ---- a join's choice is for it

module _ (p : Placing) (local : JoinKind) (h : IsPlacing p) where
  -- what is left of joins and notes behind a join fits
  abbrev Fits : List (ℕ × ℕ) → List PlanNote → Type 0
  Fits joins notes = (n : ℕ) (sh : List ℕ) → first_misfit p.workers joins (choices_behind n sh notes) ≡ None

  choice_fits : (k : ℕ) (shape : Shape) (shuffle : Shuffle) (items : List (List (List Value))) (joins : List (ℕ × ℕ)) (more : List PlanNote)
      → IsSharing p.workers shape shuffle → length shape.variables ≤ most_variables → Fits joins more
      → first_misfit p.workers ((k, length shape.variables) ∷ joins) (choices_behind k [] (variable_notes shuffle shape ++ (shuffle_note shuffle local shape items ∷ more))) ≡ None
  choice_fits k shape (ByCells shares) items joins more sharing few rest =
      let told = shares_told shape shares shape.variables 0 k [] shares (shuffle_note (ByCells shares) local shape items ∷ more) refl refl sharing.one_each (omega (arith, sharing.one_each, few)) in
      ap (first_misfit p.workers ((k, length shape.variables) ∷ joins)) told
      ∙ rw (eq-eqb k k refl, vector-passes (length shape.variables) p.workers shares sharing) (rest k shares)
  choice_fits k shape ByKeys items joins more sharing few rest =
      ap (first_misfit p.workers ((k, length shape.variables) ∷ joins)) (keys_pass shape shape.variables 0 k [] (shuffle_note ByKeys local shape items ∷ more))
      ∙ rw (eq-eqb k k refl) (rest k [])
  choice_fits k shape Broadcast items joins more sharing few rest =
      ap (first_misfit p.workers ((k, length shape.variables) ∷ joins)) (broadcast_passes shape shape.variables 0 k [] (shuffle_note Broadcast local shape items ∷ more))
      ∙ rw (eq-eqb k k refl) (rest k [])

  regroup : (a b c : List PlanNote) (d : PlanNote) (more : List PlanNote) → (a ++ b ++ c ++ d ∷ []) ++ more ≡ a ++ (b ++ (c ++ (d ∷ more)))
  regroup a b c d more = simp append_assoc

  join_fits : (k : ℕ) (shape : Shape) (given : List PlacedRelation) (joins : List (ℕ × ℕ)) (more : List PlanNote)
      → length given ≡ length shape.atoms → 1 ≤ length shape.atoms → length shape.variables ≤ most_variables → Fits joins more
      → first_misfit p.workers (option_to_list (option_map (λ variables. (k, variables)) (variables_met shape)) ++ joins)
      (choices_behind k [] (join_notes p local k shape given ++ more)) ≡ None
  join_fits k shape [] joins more one_each some few rest = absurd (omega (arith, one_each, some))
  join_fits k shape (one ∷ []) joins more one_each some few rest =
      rw (lt-leb 2 (length shape.atoms) (omega (arith, one_each)), items_pass shape (rows_of (one ∷ [])) 0 k [] more) (rest k [])
  join_fits k shape (one ∷ two ∷ given) joins more one_each some few rest =
      let all = one ∷ two ∷ given in
      let items = rows_of (joined_items p.reduce shape all) in
      let shuffle = p.shuffle k shape items in
      let last = variable_notes shuffle shape ++ (shuffle_note shuffle local shape items ∷ more) in
      let notes = ap (choices_behind k []) (regroup (item_notes shape (rows_of all)) (reduce_notes p.reduce shape items) (variable_notes shuffle shape) (shuffle_note shuffle local shape items) more)
      ∙ items_pass shape (rows_of all) 0 k [] (reduce_notes p.reduce shape items ++ last)
      ∙ reduction_passes p.reduce shape items k [] last in
      rw (le-leb 2 (length shape.atoms) (omega (arith, one_each)))
      (ap (first_misfit p.workers ((k, length shape.variables) ∷ joins)) notes
      ∙ choice_fits k shape shuffle items joins more (h.sharing k shape items) few rest)

-- ---- the choices of steps

-- a join has a source for each atom, an atom at least, and no more variables than it may have
pub record IsSizedJoin (shape : Shape) (sources : List Source) : Type 0 where
  pub one_each : length sources ≡ length shape.atoms
  pub some : 1 ≤ length shape.atoms
  pub few : length shape.variables ≤ most_variables

abbrev pub IsSized : TermTree → Type 0
IsSized (Join shape sources) = IsSizedJoin shape sources
IsSized (Group shape sources kinds) = IsSizedJoin shape sources
IsSized _ = ⊤

abbrev pub AreSized : List StepTree → Type 0
AreSized [] = ⊤
AreSized (s ∷ steps) = IsSized s.term × AreSized steps

module _ (p : Placing) (local : JoinKind) (h : IsPlacing p) where
  term_fits : (k : ℕ) (value : Source → PlacedRelation) (term : TermTree) (joins : List (ℕ × ℕ)) (more : List PlanNote)
      → IsSized term → Fits p local h joins more
      → first_misfit p.workers (option_to_list (option_map (λ variables. (k, variables)) (variables_of term)) ++ joins)
      (choices_behind k [] (term_notes p local k value term ++ more)) ≡ None
  term_fits k value (Same s) joins more sized rest = rest k []
  term_fits k value Empty joins more sized rest = rest k []
  term_fits k value (UnionAll s t) joins more sized rest = rest k []
  term_fits k value (Diff s t) joins more sized rest = rest k []
  term_fits k value (Distinct s) joins more sized rest = rest k []
  term_fits k value (Join shape sources) joins more sized rest =
      join_fits p local h k shape (map value sources) joins more (length-map sources value ∙ sized.one_each) sized.some sized.few rest
  term_fits k value (Group shape sources kinds) joins more sized rest =
      let own = join_notes p local k shape (map value sources) in
      let joined = option_to_list (option_map (λ variables. (k, variables)) (variables_met shape)) ++ joins in
      ap (λ notes. first_misfit p.workers joined (choices_behind k [] notes)) (append_assoc own (group_note kinds ∷ []) more)
      ∙ join_fits p local h k shape (map value sources) joins (group_note kinds ∷ more) (length-map sources value ∙ sized.one_each) sized.some sized.few (λ n sh. rest n sh)

  steps_fit : (value : Source → PlacedRelation) (steps : List StepTree) → AreSized steps
      → Fits p local h (joins_of steps) (flat_map (step_notes p local value) steps)
  steps_fit value [] sized n sh = refl
  steps_fit value (s ∷ steps) sized n sh =
      term_fits s.statement value s.term (joins_of steps) (flat_map (step_notes p local value) steps) sized.0 (steps_fit value steps sized.1)

-- ---- the steps of checked scripts

sized_join : (shape : Shape) (sources : List Source) (test : Source → AtomTree → Bool) → is_shape shape ≡ true → pointwise test sources shape.atoms ≡ true
    → IsSizedJoin shape sources
sized_join shape sources test formed each =
    let kinds = kinds_of shape in
    let parts = both (are_atoms shape.atoms && are_variables kinds (widths_of shape) shape.variables) (are_scalars kinds shape.plain shape.arith shape.emits) formed in
    let variables = (both (are_atoms shape.atoms) (are_variables kinds (widths_of shape) shape.variables) parts.0).1 in
    let few = nat_le (length shape.variables) most_variables in
    let own = list_all (is_variable kinds (widths_of shape)) shape.variables in
    let counted = both few own (both (few && own) (all_different (flat_map (λ v. v) shape.variables)) variables).0 in record {
      one_each = pointwise-length test sources shape.atoms each;
      some = ltb-true 0 (length shape.atoms) (first-of-shape shape formed);
      few = leb-true (length shape.variables) most_variables counted.0;
    }

sized_term : (known : Source → Option (List ColType)) (term : TermTree) (columns : List ColType) → is_term known term columns ≡ true → IsSized term
sized_term known (Same s) columns ok = tt
sized_term known Empty columns ok = tt
sized_term known (UnionAll s t) columns ok = tt
sized_term known (Diff s t) columns ok = tt
sized_term known (Distinct s) columns ok = tt
sized_term known (Join shape sources) columns ok =
    let test = λ (s : Source) (a : AtomTree). has_kinds (known s) a.kinds in
    let first = both (is_shape shape && pointwise test sources shape.atoms) _ ok in
    let parts = both (is_shape shape) (pointwise test sources shape.atoms) first.0 in
    sized_join shape sources test parts.0 parts.1
sized_term known (Group shape sources kinds) columns ok =
    let test = λ (s : Source) (a : AtomTree). has_kinds (known s) a.kinds in
    let first = both (is_shape shape && pointwise test sources shape.atoms) _ ok in
    let parts = both (is_shape shape) (pointwise test sources shape.atoms) first.0 in
    sized_join shape sources test parts.0 parts.1

pub sized_steps : (files : List File) (last : ℕ) (earlier steps : List StepTree) → are_steps files last earlier steps ≡ true → AreSized steps
sized_steps files last earlier [] ok = tt
sized_steps files last earlier (s ∷ rest) ok =
    let term = is_term (source_kinds files earlier) s.term (kinds_of_columns s.schema) in
    let parts = both (nat_lt last s.statement && term) (are_steps files s.statement (s ∷ earlier) rest) ok in
    let own = both (nat_lt last s.statement) term parts.0 in
    (sized_term (source_kinds files earlier) s.term (kinds_of_columns s.schema) own.1, sized_steps files s.statement (s ∷ earlier) rest parts.1)

needed_or : (b : Bool) (s : StepTree) (later : List StepTree) → IsSized s.term → AreSized later → AreSized (cond b (s ∷ later) later)
needed_or true s later own more = (own, more)
needed_or false s later own more = more

pub needed_sized : (stores : List StoreStep) (steps : List StepTree) → AreSized steps → AreSized (needed_steps stores steps)
needed_sized stores [] sized = tt
needed_sized stores (s ∷ rest) sized =
    needed_or (is_used s.statement stores (needed_steps stores rest)) s (needed_steps stores rest) sized.0 (needed_sized stores rest sized.1)

-- ---- rewritten steps

pub same_met : (s t : Shape) → IsPushed s t → variables_met s ≡ variables_met t
same_met s t pushed =
    let atoms : length s.atoms ≡ length t.atoms =
    sym (length-map s.atoms (λ (a : AtomTree). a.kinds)) ∙ ap length pushed.same.kinds ∙ length-map t.atoms (λ (a : AtomTree). a.kinds) in
    ap₂ (λ n variables. cond (nat_le 2 n) (Some variables) None) atoms (ap length pushed.same.variables)

same_variables : (s t : TermTree) → IsSameTerm s t → variables_of s ≡ variables_of t
same_variables (Join s sources) (Join t others) same = same_met s t same.0
same_variables (Group s sources kinds) (Group t others own) same = same_met s t same.0
same_variables s t same = ap variables_of same

pub same_joins : (steps others : List StepTree) → AreSameSteps steps others → joins_of steps ≡ joins_of others
same_joins _ _ no_step = refl
same_joins _ _ (a_step s t steps others same more) =
    ap₂ (λ (own rest : List (ℕ × ℕ)). own ++ rest)
    (ap₂ (λ n variables. option_to_list (option_map (λ v. (n, v)) variables)) same.statement (same_variables s.term t.term same.term))
    (same_joins steps others more)

pub noted_plan_fits : NotedPlanFits
noted_plan_fits p local files c d placing of_files rewritten =
    let steps = needed_steps c.stores c.steps in
    let value = placed_source p files (placed_steps p files c.steps) in
    let sized = needed_sized c.stores c.steps (sized_steps files 0 [] c.steps (both (are_steps files 0 [] c.steps) (list_all (is_store files c.steps) c.stores) of_files).0) in
    rw (eq-eqb p.workers p.workers refl)
    (ap (option_map unfit.Statement)
    (ap (λ joins. first_misfit p.workers joins (choices_in (plan_of p local files c))) (sym (same_joins steps d.steps rewritten.steps))
    ∙ steps_fit p local placing value steps sized 0 []))
