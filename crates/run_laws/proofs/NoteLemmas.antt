-- The lines of a plan are of the numbers of rows alone.
use Rattle.std.proofs.Common.{◌≡◌, ℕ, suc, ◌+◌, Bool, true, false, cond, List, [], ◌∷◌, ◌++◌, map, length, refl, sym, ◌∙◌, ap}
use Rattle.std.specs.Prelude.{All, find, unwrap_or}
use Rattle.std.specs.List.{enumerate_from, range_with_len}
use Rattle.std.proofs.lemmas.List.Sorted.{length_permutation}
use Rattle.myrial_ast.specs.Combinations.{Row, Rows}
use Rattle.myrial_ast.specs.KeptRows.{passes_within, span_of_item, put_at}
use Rattle.bag_laws.specs.Permuted.{SameTables, no_table, a_table}
use Rattle.bag_laws.proofs.RowPermutations.{filter_rows-same}
use Rattle.share_chooser.specs.Best.{best_shares}
use Rattle.share_chooser.specs.Load.{product, load_of}
use Rattle.algebra.specs.declared.notes.PlanNote.{PlanNote}
use Rattle.algebra.specs.declared.notes.PlanNote.TheVariants as note
use Rattle.algebra.specs.declared.settings.JoinKind.{JoinKind}
use Rattle.algebra.specs.declared.settings.Settings.{Settings}
use Rattle.algebra.specs.declared.terms.Source.{Source}
use Rattle.algebra.specs.Trees.{Shape, TermTree, Same, Empty, UnionAll, Diff, Distinct, Join, Group}
use Rattle.algebra.specs.Shapes.{widths_of, tests_of, ties_of, kept_of, is_acyclic_shape}
use Rattle.algebra.specs.Meanings.{sources_of}
use Rattle.placement.specs.Layouts.{PlacedRelation, Shuffle, ByCells, ByKeys, Broadcast, rows_of, joined_items, is_most, staying_atom}
use Rattle.placement.specs.Laws.{IsSamePlaced, AreSamePlaced, none_placed, one_placed}
use Rattle.placement.specs.Plans.{ShuffleRule, LeastLoad, Fixed, uses_of, pushed_of, ruled_shuffle, placing_by, item_notes, variable_notes, shuffle_note, reduce_notes, join_notes, group_note, term_notes}
use Rattle.placement.proofs.AlikeLemmas.{rows-same}
use Rattle.placement.proofs.JoinedLemmas.{joined_are_of_bags}
use Rattle.run_laws.specs.Scripts.{NotesAreOfBags}
use Rattle.run_laws.proofs.TableLemmas.{tables-counts}
use Rattle.run_laws.proofs.BagLemmas.{values-placed}

module _ (shape : Shape) where
  kept-many : (i : ℕ) (rows others : Rows) → SameTables (rows ∷ []) (others ∷ []) → length (kept_of shape i rows)
      ≡ length (kept_of shape i others)
  kept-many i _ _ (a_table rows others tables rest h hs) =
      let span = span_of_item (widths_of shape) i in
      let passes : Row → Bool = λ row. passes_within (tests_of shape) (ties_of shape) span (put_at span.from row) in
      sym (length_permutation (kept_of shape i rows) (kept_of shape i others) (filter_rows-same passes rows others h))

  pub sizes-same : (i : ℕ) (ts us : List Rows) → SameTables ts us
      → map (λ (e : ℕ × Rows). length (kept_of shape e.0 e.1)) (enumerate_from i ts)
      ≡ map (λ (e : ℕ × Rows). length (kept_of shape e.0 e.1)) (enumerate_from i us)
  sizes-same i _ _ no_table = refl
  sizes-same i _ _ (a_table rows others tables rest h hs) =
      let here = kept-many i rows others (a_table rows others [] [] h no_table) in
      let later = sizes-same (i + 1) tables rest hs in
      λ t. here t ∷ later t

  notes-same : (i : ℕ) (ts us : List Rows) → SameTables ts us
      → map (λ (e : ℕ × Rows). note.Item (suc e.0) (length e.1) (pushed_of shape e.0) (length (kept_of shape e.0 e.1)))
      (enumerate_from i ts)
      ≡ map (λ (e : ℕ × Rows). note.Item (suc e.0) (length e.1) (pushed_of shape e.0) (length (kept_of shape e.0 e.1)))
      (enumerate_from i us)
  notes-same i _ _ no_table = refl
  notes-same i _ _ (a_table rows others tables rest h hs) =
      let here = kept-many i rows others (a_table rows others [] [] h no_table) in
      let many = sym (length_permutation rows others h) in
      let later = notes-same (i + 1) tables rest hs in
      λ t. note.Item (suc i) (many t) (pushed_of shape i) (here t) ∷ later t

  long-same : (ts us : List Rows) → SameTables ts us → length ts ≡ length us
  long-same _ _ no_table = refl
  long-same _ _ (a_table rows others tables rest h hs) = ap suc (long-same tables rest hs)

  stays-same : (ts us : List Rows) → SameTables ts us → staying_atom shape ts ≡ staying_atom shape us
  stays-same ts us h =
      let sizes = sizes-same 0 ts us h in
      let long = long-same ts us h in
      λ t. unwrap_or (find (is_most (sizes t)) (range_with_len 0 (long t))) 0

  shuffle-same : (rule : ShuffleRule) (n : ℕ) (ts us : List Rows) → SameTables ts us → ruled_shuffle rule n shape ts
      ≡ ruled_shuffle rule n shape us
  shuffle-same LeastLoad n ts us h =
      ap (λ sizes. ByCells (best_shares (uses_of shape) sizes (length shape.variables) n)) (sizes-same 0 ts us h)
  shuffle-same (Fixed shuffle) n ts us h = refl

  note-same : (shuffle : Shuffle) (local : JoinKind) (ts us : List Rows) → SameTables ts us → shuffle_note shuffle local shape ts
      ≡ shuffle_note shuffle local shape us
  note-same (ByCells shares) local ts us h =
      ap (λ sizes. note.Hc local (product shares) (load_of (uses_of shape) sizes shares).num
      (load_of (uses_of shape) sizes shares).den) (sizes-same 0 ts us h)
  note-same ByKeys local ts us h = refl
  note-same Broadcast local ts us h = ap (λ j. note.Br local (suc j)) (stays-same ts us h)

  reduce-same : (reduce : Bool) (ts us : List Rows) → SameTables ts us → reduce_notes reduce shape ts ≡ reduce_notes reduce shape us
  reduce-same false ts us h = refl
  reduce-same true ts us h =
      ap (λ counts. cond (is_acyclic_shape shape) (note.Reduced counts) note.ReduceCyclic ∷ []) (tables-counts ts us h)

  -- the lines of a join of several items, by all rows and by those that are joined
  several : (rule : ShuffleRule) (n : ℕ) (reduce : Bool) (local : JoinKind) → List Rows → List Rows → List PlanNote
  several rule n reduce local ts items =
      item_notes shape ts ++ reduce_notes reduce shape items ++ variable_notes (ruled_shuffle rule n shape items) shape
      ++ shuffle_note (ruled_shuffle rule n shape items) local shape items ∷ []

  several-same : (rule : ShuffleRule) (n : ℕ) (reduce : Bool) (local : JoinKind) (ts us : List Rows) → SameTables ts us
      → (items others : List Rows) → SameTables items others
      → several rule n reduce local ts items ≡ several rule n reduce local us others
  unfolding several
  several-same rule n reduce local ts us h items others k =
      let rows = notes-same 0 ts us h in
      let line = reduce-same reduce items others k in
      let how = shuffle-same rule n items others k in
      let own = note-same (ruled_shuffle rule n shape items) local items others k
      ∙ ap (λ shuffle. shuffle_note shuffle local shape others) how in
      λ t. rows t ++ line t ++ variable_notes (how t) shape ++ own t ∷ []

module _ (s : Settings) (rules : ℕ → ShuffleRule) (local : JoinKind) (number : ℕ) where
  join-same : (shape : Shape) (given others : List PlacedRelation) → AreSamePlaced given others
      → join_notes (placing_by s rules) local number shape given ≡ join_notes (placing_by s rules) local number shape others
  unfolding several
  join-same shape _ _ none_placed = refl
  join-same shape _ _ (one_placed p q _ _ h none_placed) =
      notes-same shape 0 (rows_of (p ∷ [])) (rows_of (q ∷ [])) (rows-same (p ∷ []) (q ∷ []) (one_placed p q [] [] h none_placed))
  join-same shape _ _ (one_placed p q _ _ h (one_placed r u ps qs k hs)) =
      let given = p ∷ r ∷ ps in
      let others = q ∷ u ∷ qs in
      let placed = one_placed p q (r ∷ ps) (u ∷ qs) h (one_placed r u ps qs k hs) in
      several-same shape (rules number) s.workers s.reduce local (rows_of given) (rows_of others) (rows-same given others placed)
      (rows_of (joined_items s.reduce shape given)) (rows_of (joined_items s.reduce shape others))
      (rows-same (joined_items s.reduce shape given) (joined_items s.reduce shape others)
      (joined_are_of_bags s.reduce shape given others placed))

module _ (s : Settings) (rules : ℕ → ShuffleRule) (local : JoinKind) (number : ℕ) (v w : Source → PlacedRelation) where
  term-same : (t : TermTree) → All (λ o. IsSamePlaced (v o) (w o)) (sources_of t)
      → term_notes (placing_by s rules) local number v t ≡ term_notes (placing_by s rules) local number w t
  term-same (Same o) same = refl
  term-same Empty same = refl
  term-same (UnionAll o q) same = refl
  term-same (Diff o q) same = refl
  term-same (Distinct o) same = refl
  term-same (Join shape sources) same =
      join-same s rules local number shape (map v sources) (map w sources) (values-placed v w sources same)
  term-same (Group shape sources kinds) same =
      ap (λ notes. notes ++ group_note kinds ∷ [])
      (join-same s rules local number shape (map v sources) (map w sources) (values-placed v w sources same))

pub notes_are_of_bags : NotesAreOfBags
notes_are_of_bags s rules local number v w t same = term-same s rules local number v w t same
