-- Terms of steps, run over what is held.
use Rattle.std.proofs.Common.{◌≡◌, ℕ, ◌+◌, ◌<◌, ◌≤◌, ◌++◌, List, [], ◌∷◌, map, length, refl, sym, ap, subst, ◌∙◌, Result, Ok, Err, Option, Some, None, if◌then◌else◌, arith, length-append}
use Rattle.std.specs.Prelude.{All, IfErr, IfOk, OnOk, slice_index_or}
use Rattle.std.proofs.lemmas.Bool.{le-ltb, lt-ltb}
use Rattle.rel_base.specs.Limits.{most_rows}
use Rattle.rel_base.specs.declared.faults.RunFault.{RunFault}
use Rattle.rel_base.specs.declared.faults.RunFault.TheVariants as fault
use Rattle.rel_io.specs.declared.taps.Totals.{Totals}
use Rattle.myrial_ast.specs.Bags.{distinct, difference}
use Rattle.myrial_ast.specs.CandidateFaults.{too_many}
use Rattle.myrial_ast.specs.Combinations.{Row, Rows}
use Rattle.myrial_ast.specs.Groups.{groups}
use Rattle.algebra.specs.CheckedTrees.{term_tree_of}
use Rattle.algebra.specs.Meanings.{shape_fault, sources_of}
use Rattle.algebra.specs.ShapeTrees.{shape_tree_of}
use Rattle.algebra.specs.Shapes.{listed_of}
use Rattle.algebra.specs.Trees.{Diff, Distinct, kind_of_emit}
use Rattle.algebra.specs.declared.notes.Exchange.TheVariants as exchange
use Rattle.algebra.specs.declared.notes.PlanNote.{PlanNote}
use Rattle.algebra.specs.declared.settings.Settings.{Settings}
use Rattle.algebra.specs.declared.shapes.EmitKind.{EmitKind}
use Rattle.algebra.specs.declared.shapes.JoinShape.{JoinShape}
use Rattle.algebra.specs.declared.terms.Source.{Source}
use Rattle.algebra.specs.declared.terms.Term.{Term}
use Rattle.algebra.specs.declared.terms.Term.TheVariants as term
use Rattle.placement.specs.Exchanges.{PlacedExchange, join_exchanges, row_exchange, group_exchange}
use Rattle.placement.specs.Layouts.{PlacedRelation, by_worker, together, rows_of, listed_parts, parts_by_row, parts_by_key}
use Rattle.placement.specs.Plans.{ShuffleRule, ruled_placing, join_notes, group_note, term_notes}
use Rattle.placement.specs.Runs.{size_of, faults_by}
use Rattle.routed_joins.specs.PlacedJoins.{placed_rows, placed_items}
use Rattle.routed_joins.specs.declared.moved.Moved.{Moved}
use Rattle.routed_joins.specs.TermRuns.{AreShown, no_receipt, IsTermRun}
use Rattle.routed_joins.proofs.RunLemmas.{run-made}
use Rattle.routed_joins.proofs.TapLemmas.{fair-none, joined-moves}
use Rattle.run_laws.proofs.TableLemmas.{tables-equal}
use Rattle.run_laws.specs.Held.{HasWideParts}
use Rattle.engine.specs.declared.held.Held.{Held}
use Rattle.engine.specs.Runs.{IsRunFault}
use Rattle.engine.specs.inner.Held.{parts_held, value_held, IsHeld}
use Rattle.engine.specs.inner.Joins.{IsTold, IsStepJoin, IsStepGroup}
use Rattle.engine.specs.inner.Terms.{IsStepRun, IsUnionFault}

-- ---- what a term asks

-- all sources of a join or a grouping are held
pub join-known : (held : Held) (t : Term) (shape : JoinShape) (sources : List Source) → t ≡ term.Join shape sources
    → All (IsHeld held) (sources_of (term_tree_of t)) → All (IsHeld held) sources
join-known held t shape sources e h = subst (λ u. All (IsHeld held) (sources_of (term_tree_of u))) e h

pub group-known : (held : Held) (t : Term) (shape : JoinShape) (sources : List Source) (kinds : List EmitKind)
    → t ≡ term.Group shape sources kinds → All (IsHeld held) (sources_of (term_tree_of t)) → All (IsHeld held) sources
group-known held t shape sources kinds e h = subst (λ u. All (IsHeld held) (sources_of (term_tree_of u))) e h

-- of each operand of a `unionall` there is a list for each worker
pub left-long : (held : Held) (n : ℕ) (t : Term) (left right : Source) → t ≡ term.UnionAll left right
    → All (λ o. length (parts_held held o) ≡ n) (sources_of (term_tree_of t)) → length (parts_held held left) ≡ n
left-long held n t left right e h =
    subst (λ u. All (λ o. length (parts_held held o) ≡ n) (sources_of (term_tree_of u))) e h 0 left (omega arith)

-- rows are so wide where they are those of a source, and as wide as those are
rows-wide : (parts own : List Rows) (w width : ℕ) → parts ≡ own → w ≡ width → All (All (λ (row : Row). length row ≡ width)) own
    → All (All (λ (row : Row). length row ≡ w)) parts
rows-wide parts own w width e f h =
    subst (λ (n : ℕ). All (All (λ (row : Row). length row ≡ n)) parts) (sym f)
    (subst (λ (rows : List Rows). All (All (λ (row : Row). length row ≡ width)) rows) (sym e) h)

module _ (held : Held) (width : ℕ) where
  pub left-wide : (left right : Source) → HasWideParts width (parts_held held) (Diff left right) → (parts : List Rows)
      → parts ≡ parts_held held left → (w : ℕ) → w ≡ width → All (All (λ (row : Row). length row ≡ w)) parts
  left-wide left right wide parts is w as_wide =
      rows-wide parts (parts_held held left) w width is as_wide (wide 0 left (omega arith))

  pub right-wide : (left right : Source) → HasWideParts width (parts_held held) (Diff left right) → (parts : List Rows)
      → parts ≡ parts_held held right → (w : ℕ) → w ≡ width → All (All (λ (row : Row). length row ≡ w)) parts
  right-wide left right wide parts is w as_wide =
      rows-wide parts (parts_held held right) w width is as_wide (wide 1 right (omega arith))

  pub source-wide : (source : Source) → HasWideParts width (parts_held held) (Distinct source) → (parts : List Rows)
      → parts ≡ parts_held held source → (w : ℕ) → w ≡ width → All (All (λ (row : Row). length row ≡ w)) parts
  source-wide source wide parts is w as_wide =
      rows-wide parts (parts_held held source) w width is as_wide (wide 0 source (omega arith))

-- ---- what it comes to

-- the rows of the sources of a join, where they lie
items-held : (held : Held) (sources : List Source) → placed_items (map (parts_held held) sources) ≡ map (value_held held) sources
items-held held [] = refl
items-held held (o ∷ sources) = ap (λ items. value_held held o ∷ items) (items-held held sources)

rows-held : (held : Held) (sources : List Source)
    → rows_of (map (value_held held) sources) ≡ map (λ o. (value_held held o).relation.rows) sources
rows-held held [] = refl
rows-held held (o ∷ sources) = ap (λ given. (value_held held o).relation.rows ∷ given) (rows-held held sources)

-- two operands of so few rows have no fault
few-united : (number : ℕ) (a b : Rows) → length a + length b ≤ most_rows
    → (if too_many (a ++ b) then Some (fault.TooManyRows number) else None) ≡ None
few-united number a b few =
    ap (λ many. if many then Some (fault.TooManyRows number) else None)
    (le-ltb most_rows (length (a ++ b)) (omega (arith, few, length-append a b)))

-- and two of more rows have that of their statement
many-united : (number : ℕ) (a b : Rows) (f : RunFault) → (most_rows < length a + length b) × (f ≡ fault.TooManyRows number)
    → (if too_many (a ++ b) then Some (fault.TooManyRows number) else None) ≡ Some f
many-united number a b f h =
    ap (λ many. if many then Some (fault.TooManyRows number) else None)
    (lt-ltb most_rows (length (a ++ b)) (omega (arith, h.0, length-append a b)))
    ∙ ap Some (sym h.1)

union-fault : (number : ℕ) (a b : Rows) (f : RunFault) → IsUnionFault number (length a + length b) f
    → IsRunFault (if too_many (a ++ b) then Some (fault.TooManyRows number) else None) f
union-fault number a b fault.Memory h = tt
union-fault number a b (fault.TooManyRows n) h = many-united number a b (fault.TooManyRows n) h
union-fault number a b (fault.Overflow n) h = many-united number a b (fault.Overflow n) h
union-fault number a b (fault.AggregateOverflow n) h = many-united number a b (fault.AggregateOverflow n) h

module _ {T : Type 0} (s : Settings) (way : ShuffleRule) (number : ℕ) (held : Held) (totals : T → Totals) (tag : T → ℕ) where
  -- what running a term does
  abbrev pub Runs : Term → List T → List T → Result Moved RunFault → Type 0
  Runs t before after answer = IsStepRun s way number (value_held held) (term_tree_of t) totals tag before after answer

  -- rows that lie where they were made, by no exchange
  rested : (parts : List Rows) (own : Option RunFault) (taps : List T) (made : Moved) → own ≡ None → made.parts ≡ parts
      → made.traffic ≡ [] → made.receipts ≡ [] → IsTold s number parts [] own totals tag taps taps (Ok made)
  rested parts own taps made sound is told shown = record {
    run =
        run-made s number parts [] totals tag (IsRunFault own) taps taps made (fair-none totals tag taps)
        (record {
          parts = tables-equal parts made.parts (sym is);
          traffic = told;
          receipts = subst (λ receipts. AreShown (size_of s) [] receipts) (sym shown) no_receipt;
        })
        ((joined-moves totals tag).none s.workers taps);
    sound = sound;
  }

  -- and those that weren't made
  unmade : (parts : List Rows) (own : Option RunFault) (taps : List T) (f : RunFault) → IsRunFault own f
      → IsTold s number parts [] own totals tag taps taps (Err f)
  unmade parts own taps f is = record {
    run = record { fair = fair-none totals tag taps; ok = tt; err = is };
    sound = tt;
  }

  -- rows that are made where they lie, or aren't
  resting : (parts : List Rows) (taps : List T) (answer : Result Moved RunFault) → IfOk answer (λ made. made.parts ≡ parts)
      → IfOk answer (λ made. made.traffic ≡ []) → IfOk answer (λ made. made.receipts ≡ []) → IfErr answer (IsRunFault None)
      → IsTold s number parts [] None totals tag taps taps answer
  resting parts taps (Ok made) is told shown err = rested parts None taps made refl is told shown
  resting parts taps (Err f) is told shown err = unmade parts None taps f err

  -- a run that made rows, whatever its fault would have been
  pub made-alike : {F : Type 0} (parts : List Rows) (exchanges : List PlacedExchange) (own : Option RunFault) (IsFault : F → Type 0)
      (before after : List T) (made : Moved) → own ≡ None
      → IsTermRun s number parts exchanges totals tag IsFault before after (Ok made)
      → IsTold s number parts exchanges own totals tag before after (Ok made)
  made-alike parts exchanges own IsFault before after made sound run = record {
    run = run-made s number parts exchanges totals tag (IsRunFault own) before after made run.fair run.ok.0 run.ok.1;
    sound = sound;
  }

  -- a `diff` and a `distinct`, over copies of what is held
  pub diff-run : {F : Type 0} (IsFault : F → Type 0) (left right : Source) (a b : List Rows) → a ≡ parts_held held left
      → b ≡ parts_held held right → (before after : List T) (made : Moved)
      → IsTermRun s number (parts_by_row (ruled_placing s way) (difference (together a) (together b)))
      (row_exchange (ruled_placing s way) exchange.Diff (placed_rows a ∷ placed_rows b ∷ [])
      (parts_by_row (ruled_placing s way) (difference (together a) (together b))) ∷ [])
      totals tag IsFault before after (Ok made)
      → IsStepRun s way number (value_held held) (Diff left right) totals tag before after (Ok made)
  diff-run IsFault left right a b is_left is_right before after made run =
      let p = ruled_placing s way in
      let parts : List Rows → List Rows → List Rows = λ l r. parts_by_row p (difference (together l) (together r)) in
      let exchanges : List Rows → List Rows → List PlacedExchange =
      λ l r. row_exchange p exchange.Diff (placed_rows l ∷ placed_rows r ∷ []) (parts l r) ∷ [] in
      let told : List Rows → List Rows → Type 0 =
      λ l r. IsTold s number (parts l r) (exchanges l r) None totals tag before after (Ok made) in
      subst (λ (l : List Rows). told l (parts_held held right)) is_left
      (subst (λ (r : List Rows). told a r) is_right
      (made-alike (parts a b) (exchanges a b) None IsFault before after made refl run))

  pub distinct-run : {F : Type 0} (IsFault : F → Type 0) (source : Source) (a : List Rows) → a ≡ parts_held held source
      → (before after : List T) (made : Moved)
      → IsTermRun s number (parts_by_row (ruled_placing s way) (distinct (together a)))
      (row_exchange (ruled_placing s way) exchange.Distinct (placed_rows a ∷ [])
      (parts_by_row (ruled_placing s way) (distinct (together a))) ∷ [])
      totals tag IsFault before after (Ok made)
      → IsStepRun s way number (value_held held) (Distinct source) totals tag before after (Ok made)
  distinct-run IsFault source a is_source before after made run =
      let p = ruled_placing s way in
      let parts : List Rows → List Rows = λ l. parts_by_row p (distinct (together l)) in
      let exchanges : List Rows → List PlacedExchange =
      λ l. row_exchange p exchange.Distinct (placed_rows l ∷ []) (parts l) ∷ [] in
      subst (λ (l : List Rows). IsTold s number (parts l) (exchanges l) None totals tag before after (Ok made)) is_source
      (made-alike (parts a) (exchanges a) None IsFault before after made refl run)

  module _ (t : Term) where
    pub same-run : (source : Source) → t ≡ term.Same source → (a : List Rows) → a ≡ parts_held held source → (taps : List T)
        (answer : Result Moved RunFault) → IfOk answer (λ made. made.parts ≡ a) → IfOk answer (λ made. made.traffic ≡ [])
        → IfOk answer (λ made. made.receipts ≡ []) → IfErr answer (IsRunFault None) → Runs t taps taps answer
    same-run source e a is_source taps answer is told shown err =
        subst (λ u. Runs u taps taps answer) (sym e)
        (subst (λ (l : List Rows). IsTold s number l [] None totals tag taps taps answer) is_source
        (resting a taps answer is told shown err))

    pub empty-run : t ≡ term.Empty → (taps : List T) (answer : Result Moved RunFault)
        → IfOk answer (λ made. made.parts ≡ by_worker s.workers (λ w. [])) → IfOk answer (λ made. made.traffic ≡ [])
        → IfOk answer (λ made. made.receipts ≡ []) → IfErr answer (IsRunFault None) → Runs t taps taps answer
    empty-run e taps answer is told shown err =
        subst (λ u. Runs u taps taps answer) (sym e) (resting (by_worker s.workers (λ w. [])) taps answer is told shown err)

    pub union-run : (left right : Source) → t ≡ term.UnionAll left right → (a b : List Rows) → a ≡ parts_held held left
        → b ≡ parts_held held right → length (parts_held held left) ≡ s.workers → (taps : List T) (answer : Result Moved RunFault)
        → IfOk answer (λ made. made.parts ≡ by_worker (length a) (λ w. slice_index_or a w [] ++ slice_index_or b w []))
        → IfOk answer (λ made. made.traffic ≡ []) → IfOk answer (λ made. made.receipts ≡ [])
        → OnOk answer (length (together a) + length (together b) ≤ most_rows)
        → IfErr answer (IsUnionFault number (length (together a) + length (together b))) → Runs t taps taps answer
    union-run left right e a b is_left is_right long taps answer is told shown few err =
        let united : ℕ → List Rows → List Rows → List Rows =
        λ n l r. by_worker n (λ w. slice_index_or l w [] ++ slice_index_or r w []) in
        let own : List Rows → List Rows → Option RunFault =
        λ l r. if too_many (together l ++ together r) then Some (fault.TooManyRows number) else None in
        let told_of : ℕ → List Rows → List Rows → Type 0 =
        λ n l r. IsTold s number (united n l r) [] (own l r) totals tag taps taps answer in
        let run : told_of (length a) a b = of answer is told shown few err in
        subst (λ u. Runs u taps taps answer) (sym e)
        (subst (λ n. told_of n (parts_held held left) (parts_held held right)) (ap length is_left ∙ long)
        (subst (λ (l : List Rows). told_of (length a) l (parts_held held right)) is_left
        (subst (λ (r : List Rows). told_of (length a) a r) is_right run)))
      where
        of : (answer : Result Moved RunFault)
            → IfOk answer (λ made. made.parts ≡ by_worker (length a) (λ w. slice_index_or a w [] ++ slice_index_or b w []))
            → IfOk answer (λ made. made.traffic ≡ []) → IfOk answer (λ made. made.receipts ≡ [])
            → OnOk answer (length (together a) + length (together b) ≤ most_rows)
            → IfErr answer (IsUnionFault number (length (together a) + length (together b)))
            → IsTold s number (by_worker (length a) (λ w. slice_index_or a w [] ++ slice_index_or b w [])) []
            (if too_many (together a ++ together b) then Some (fault.TooManyRows number) else None) totals tag taps taps answer
        of (Ok made) is told shown few err =
            rested _ _ taps made (few-united number (together a) (together b) few) is told shown
        of (Err f) is told shown few err = unmade _ _ taps f (union-fault number (together a) (together b) f err)

    -- a join that is the term's own, over the rows of its sources
    module _ (sources : List Source) (shape drawn : JoinShape) (own : ℕ) (parts : List (List Rows)) (own_way : ShuffleRule)
        (is_way : own_way ≡ way) (is_own : own ≡ number) (is_drawn : drawn ≡ shape) (are : parts ≡ map (parts_held held) sources) where
      pub join-run : t ≡ term.Join shape sources → (before after : List T) (answer : Result Moved RunFault)
          → IsStepJoin s own_way own (shape_tree_of drawn) parts totals tag before after answer → Runs t before after answer
      join-run e before after answer own_run =
          let run = subst (λ w. IsStepJoin s w own (shape_tree_of drawn) parts totals tag before after answer) is_way own_run in
          let p = ruled_placing s way in
          let told : ℕ → JoinShape → List PlacedRelation → List Rows → Type 0 =
          λ n x items given. IsTold s n (listed_parts p n (shape_tree_of x) items) (join_exchanges p n (shape_tree_of x) items)
          (shape_fault (faults_by s way) n (shape_tree_of x) [] given) totals tag before after answer in
          subst (λ u. Runs u before after answer) (sym e)
          (subst (λ (given : List Rows). told number shape (map (value_held held) sources) given) (rows-held held sources)
          (subst (λ (items : List PlacedRelation). told number shape items (rows_of items))
          (ap placed_items are ∙ items-held held sources)
          (subst (λ (x : JoinShape). told number x (placed_items parts) (rows_of (placed_items parts))) is_drawn
          (subst (λ (n : ℕ). told n drawn (placed_items parts) (rows_of (placed_items parts))) is_own run))))

      pub join-lines : t ≡ term.Join shape sources → (answer : Result Moved RunFault) (lines more : List PlanNote)
          → OnOk answer (more ≡ lines ++ join_notes (ruled_placing s own_way) s.local own (shape_tree_of drawn) (placed_items parts))
          → OnOk answer (more ≡ lines ++ term_notes (ruled_placing s way) s.local number (value_held held) (term_tree_of t))
      join-lines e answer lines more own_lines =
          let h = subst (λ w. OnOk answer (more ≡ lines ++ join_notes (ruled_placing s w) s.local own (shape_tree_of drawn) (placed_items parts))) is_way own_lines in
          let told : ℕ → JoinShape → List PlacedRelation → Type 0 =
          λ n x items. OnOk answer (more ≡ lines ++ join_notes (ruled_placing s way) s.local n (shape_tree_of x) items) in
          subst (λ u. OnOk answer (more ≡ lines ++ term_notes (ruled_placing s way) s.local number (value_held held) (term_tree_of u)))
          (sym e)
          (subst (λ (items : List PlacedRelation). told number shape items) (ap placed_items are ∙ items-held held sources)
          (subst (λ (x : JoinShape). told number x (placed_items parts)) is_drawn
          (subst (λ (n : ℕ). told n drawn (placed_items parts)) is_own h)))

      module _ (emits : List EmitKind) (e : t ≡ term.Group shape sources emits) where
        pub group-run : (before after : List T) (answer : Result Moved RunFault)
            → IsStepGroup s own_way own (shape_tree_of drawn) (map kind_of_emit emits) parts totals tag before after answer
            → Runs t before after answer
        group-run before after answer own_run =
            let run = subst (λ w. IsStepGroup s w own (shape_tree_of drawn) (map kind_of_emit emits) parts totals tag before after answer) is_way own_run in
            let p = ruled_placing s way in
            let kinds = map kind_of_emit emits in
            let made : JoinShape → List Rows → List Rows =
            λ x given. parts_by_key p kinds (groups kinds (listed_of (shape_tree_of x) given)) in
            let told : ℕ → JoinShape → List PlacedRelation → List Rows → Type 0 =
            λ n x items given. IsTold s n (made x given)
            (join_exchanges p n (shape_tree_of x) items
            ++ group_exchange p kinds (listed_parts p n (shape_tree_of x) items) (made x given) ∷ [])
            (shape_fault (faults_by s way) n (shape_tree_of x) kinds given) totals tag before after answer in
            subst (λ u. Runs u before after answer) (sym e)
            (subst (λ (given : List Rows). told number shape (map (value_held held) sources) given) (rows-held held sources)
            (subst (λ (items : List PlacedRelation). told number shape items (rows_of items))
            (ap placed_items are ∙ items-held held sources)
            (subst (λ (x : JoinShape). told number x (placed_items parts) (rows_of (placed_items parts))) is_drawn
            (subst (λ (n : ℕ). told n drawn (placed_items parts) (rows_of (placed_items parts))) is_own run))))

        pub group-lines : (answer : Result Moved RunFault) (lines more : List PlanNote)
            → OnOk answer (more ≡ lines ++ (join_notes (ruled_placing s own_way) s.local own (shape_tree_of drawn) (placed_items parts)
            ++ group_note (map kind_of_emit emits) ∷ []))
            → OnOk answer (more ≡ lines ++ term_notes (ruled_placing s way) s.local number (value_held held) (term_tree_of t))
        group-lines answer lines more own_lines =
            let h = subst (λ w. OnOk answer (more ≡ lines ++ (join_notes (ruled_placing s w) s.local own (shape_tree_of drawn) (placed_items parts)
            ++ group_note (map kind_of_emit emits) ∷ []))) is_way own_lines in
            let told : ℕ → JoinShape → List PlacedRelation → Type 0 =
            λ n x items. OnOk answer
            (more ≡ lines ++ (join_notes (ruled_placing s way) s.local n (shape_tree_of x) items
            ++ group_note (map kind_of_emit emits) ∷ [])) in
            subst (λ u. OnOk answer
            (more ≡ lines ++ term_notes (ruled_placing s way) s.local number (value_held held) (term_tree_of u))) (sym e)
            (subst (λ (items : List PlacedRelation). told number shape items) (ap placed_items are ∙ items-held held sources)
            (subst (λ (x : JoinShape). told number x (placed_items parts)) is_drawn
            (subst (λ (n : ℕ). told n drawn (placed_items parts)) is_own h)))
