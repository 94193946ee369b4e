-- The lines by numbers of rows are those that a plan has.
use Rattle.std.proofs.Common.{◌≡◌, ◌<◌, ℕ, suc, ◌+◌, Bool, true, false, cond, List, [], ◌∷◌, ◌++◌, length, map, refl, sym, ap, ◌∙◌, subst, arith}
use Rattle.std.specs.List.{enumerate_from, zip}
use Rattle.myrial_ast.specs.Combinations.{Rows}
use Rattle.algebra.specs.declared.notes.PlanNote.{PlanNote}
use Rattle.algebra.specs.declared.notes.PlanNote.TheVariants as note
use Rattle.algebra.specs.declared.settings.JoinKind.{JoinKind}
use Rattle.algebra.specs.declared.settings.Settings.{Settings}
use Rattle.algebra.specs.Trees.{Shape}
use Rattle.algebra.specs.Shapes.{kept_of, is_acyclic_shape}
use Rattle.placement.specs.Layouts.{PlacedRelation, rows_of, reduced_items, joined_items}
use Rattle.placement.specs.Plans.{pushed_of, kept_sizes, item_notes, reduce_notes, variable_notes, shuffle_note, join_notes, ShuffleRule, ruled_shuffle, ruled_placing}
use Rattle.placement.specs.declared.choices.ShuffleChoice.{ShuffleChoice}
use Rattle.placement.specs.declared.choices.ShuffleChoice.TheVariants as choice
use Rattle.join_plans.specs.declared.sizes.JoinSizes.{JoinSizes}
use Rattle.join_plans.specs.declared.sizes.Reduction.{Reduction}
use Rattle.join_plans.specs.declared.sizes.Reduction.TheVariants as reduction
use Rattle.placement.specs.Choices.{shuffle_of}
use Rattle.join_plans.specs.JoinPlans.{sizes_of, reduction_of, joined_sizes, AreSizes, chosen, IsStaying, IsChosenFor}
use Rattle.join_plans.proofs.ChoiceLemmas.{chosen-ruled, staying-same, joined-kept}
use Rattle.join_plans.specs.inner.Lines.{item_line, item_lines, reduce_lines, choice_line, join_lines}

lines-from : (shape : Shape) (n : ℕ) (given : List Rows)
    → map (λ (e : ℕ × Rows). note.Item (suc e.0) (length e.1) (pushed_of shape e.0) (length (kept_of shape e.0 e.1)))
    (enumerate_from n given)
    ≡ map (item_line shape)
    (enumerate_from n (zip (sizes_of given) (map (λ e. length (kept_of shape e.0 e.1)) (enumerate_from n given))))
lines-from shape n [] = refl
lines-from shape n (rows ∷ given) =
    ap (λ (rest : List PlanNote). note.Item (suc n) (length rows) (pushed_of shape n) (length (kept_of shape n rows)) ∷ rest)
    (lines-from shape (n + 1) given)

choice-same : (chosen : ShuffleChoice) (local : JoinKind) (shape : Shape) (given : List Rows) → IsStaying (kept_sizes shape given) chosen
    → shuffle_note (shuffle_of chosen) local shape given ≡ choice_line chosen local shape (kept_sizes shape given)
choice-same (choice.Cells shares) local shape given is = refl
choice-same choice.Keys local shape given is = refl
choice-same (choice.Broadcast stays) local shape given is = ap (λ j. note.Br local (suc j)) (sym (is ∙ staying-same shape given))

-- the line on what is joined
reduce-same : (reduce : Bool) (shape : Shape) (given : List PlacedRelation) (joined : List ℕ)
    → joined_sizes (reduction_of reduce shape) shape given ≡ joined
    → reduce_lines (reduction_of reduce shape) joined ≡ reduce_notes reduce shape (rows_of (joined_items reduce shape given))
reduce-same false shape given joined is = refl
reduce-same true shape given joined is = by (is_acyclic_shape shape) is
  where
    by : (b : Bool) → joined_sizes (cond b reduction.Reduced reduction.Cyclic) shape given ≡ joined
        → reduce_lines (cond b reduction.Reduced reduction.Cyclic) joined
        ≡ cond b (note.Reduced (sizes_of (rows_of (cond b (reduced_items shape given) given)))) note.ReduceCyclic ∷ []
    by true are = ap (λ (sizes : List ℕ). note.Reduced sizes ∷ []) (sym are)
    by false are = refl

-- the lines of several items
lines-of : (settings : Settings) (rule : ShuffleRule) (local : JoinKind) (shape : Shape) (given : List PlacedRelation) (joined : List ℕ)
    (choice : ShuffleChoice)
    → joined_sizes (reduction_of settings.reduce shape) shape given ≡ joined → IsChosenFor rule settings.workers shape joined choice
    → item_lines shape (sizes_of (rows_of given)) (kept_sizes shape (rows_of given))
    ++ reduce_lines (reduction_of settings.reduce shape) joined ++ variable_notes (shuffle_of choice) shape
    ++ choice_line choice local shape joined ∷ []
    ≡ (let items = rows_of (joined_items settings.reduce shape given) in
    let shuffle = ruled_shuffle rule settings.workers shape items in
    item_notes shape (rows_of given) ++ reduce_notes settings.reduce shape items ++ variable_notes shuffle shape
    ++ shuffle_note shuffle local shape items ∷ [])
lines-of settings rule local shape given joined choice are is =
    let items = rows_of (joined_items settings.reduce shape given) in
    let same : joined ≡ kept_sizes shape (rows_of (joined_items settings.reduce shape given)) =
    sym are ∙ joined-kept settings.reduce shape given in
    let shuffle = is.shuffle ∙ ap (chosen rule settings.workers shape) same
    ∙ chosen-ruled rule settings.workers shape items in
    let last = ap (choice_line choice local shape) same
    ∙ sym (choice-same choice local shape items (subst (λ sizes. IsStaying sizes choice) same is.stays))
    ∙ ap (λ s. shuffle_note s local shape items) shuffle in
    (λ i. sym (lines-from shape 0 (rows_of given)) i ++ reduce-same settings.reduce shape given joined are i
    ++ variable_notes (shuffle i) shape ++ last i ∷ [])

-- by the same numbers the lines are the same
lines-by : (choice : ShuffleChoice) (local : JoinKind) (shape : Shape) (reduction : Reduction) (given : List PlacedRelation)
    (sizes : JoinSizes) → AreSizes reduction shape given sizes
    → join_lines choice local shape reduction sizes.rows.now sizes.kept.now sizes.joined.now
    ≡ join_lines choice local shape reduction (sizes_of (rows_of given)) (kept_sizes shape (rows_of given)) sizes.joined.now
lines-by choice local shape reduction given sizes are =
    (λ i. join_lines choice local shape reduction (sym are.rows i) (sym are.kept i) sizes.joined.now)

-- the lines of a join are those that its plan has, whatever the number of its statement
pub lines-are-notes : (settings : Settings) (rule : ShuffleRule) (local : JoinKind) (number : ℕ) (shape : Shape) (given : List PlacedRelation)
    (sizes : JoinSizes) (choice : ShuffleChoice)
    → 0 < length sizes.rows.now → AreSizes (reduction_of settings.reduce shape) shape given sizes
    → IsChosenFor rule settings.workers shape sizes.joined.now choice
    → join_lines choice local shape (reduction_of settings.reduce shape) sizes.rows.now sizes.kept.now sizes.joined.now
    ≡ join_notes (ruled_placing settings rule) local number shape given
lines-are-notes settings rule local number shape [] sizes choice some are is = absurd (omega (arith, some, ap length are.rows))
lines-are-notes settings rule local number shape (one ∷ []) sizes choice some are is =
    lines-by choice local shape (reduction_of settings.reduce shape) (one ∷ []) sizes are
lines-are-notes settings rule local number shape (one ∷ two ∷ given) sizes choice some are is =
    lines-by choice local shape (reduction_of settings.reduce shape) (one ∷ two ∷ given) sizes are
    ∙ lines-of settings rule local shape (one ∷ two ∷ given) sizes.joined.now choice (are.joined (omega arith)) is
