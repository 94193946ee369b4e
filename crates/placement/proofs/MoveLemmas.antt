-- What is read off the moves of an exchange, where no row goes to a worker twice.
use Rattle.std.proofs.Common.{◌≡◌, ℕ, ◌<◌, ◌==◌, Bool, true, false, not, cond, List, [], ◌∷◌, ◌++◌, map, length, refl, sym, ◌∙◌, ap, arith}
use Rattle.std.specs.Prelude.{filter, All, slice_index_or, ◌||◌, IsTrue}
use Rattle.std.specs.List.{flat_map, list_any}
use Rattle.std.proofs.lemmas.Bool.Decides.{nat_tests}
use Rattle.std.proofs.lemmas.List.{length-map, get_or-map}
use Rattle.std.proofs.lemmas.List.Concat.{flat_map-cons}
use Rattle.std.proofs.lemmas.List.Folds.{flat_map-map}
use Rattle.std.proofs.lemmas.List.FromFn.{fill_by_all}
use Rattle.myrial_ast.specs.Combinations.{Row, Rows}
use Rattle.algebra.specs.ShapeConditions.{all_different}
use Rattle.algebra.proofs.ShapeLemmas.{both}
use Rattle.row_exchange.specs.Moves.{Sending, no_sending, moves_of, rows_given, all_given}
use Rattle.row_exchange.specs.inner.Pairs.{times_to, rows_to}
use Rattle.row_exchange.proofs.MoveLemmas.{between-read, given-read}
use Rattle.placement.specs.Receiving.{GoesOnce, sent_to, RowsAreGivenOnce}
use Rattle.placement.proofs.TogetherLemmas.{together-filter}

-- ---- the workers of a row

same-not : (c w : ℕ) (ws : List ℕ) → (c == w) ≡ true → list_any (λ d. c == d) ws ≡ false → filter (λ d. d == w) ws ≡ []
same-not c w [] e h = refl
same-not c w (d ∷ ws) e h = by (c == d) refl h (λ g. same-not c w ws e g)
  where
    by : (b : Bool) → (c == d) ≡ b → (b || list_any (λ d. c == d) ws) ≡ false → (list_any (λ d. c == d) ws ≡ false → filter (λ d. d == w) ws ≡ []) → filter (λ d. d == w) (d ∷ ws) ≡ []
    by true k g rest = absurd (cc)
    by false k g rest =
        let other : (d == w) ≡ false = grind (arith, nat_tests, e, k) in
        ap (λ b. cond b (d ∷ filter (λ d. d == w) ws) (filter (λ d. d == w) ws)) other ∙ rest g

untrue : (b : Bool) → not b ≡ true → b ≡ false
untrue true h = absurd (cc)
untrue false h = refl

-- of different workers at most one is w
once : (row : Row) (w : ℕ) (ws : List ℕ) → all_different ws ≡ true → map (λ c. row) (filter (λ c. c == w) ws) ≡ cond (list_any (λ c. c == w) ws) (row ∷ []) []
once row w [] h = refl
once row w (c ∷ ws) h = by (c == w) refl (once row w ws parts.1)
  where
    parts : (not (list_any (λ d. c == d) ws) ≡ true) × (all_different ws ≡ true)
    parts = both (not (list_any (λ d. c == d) ws)) (all_different ws) h

    by : (b : Bool) → (c == w) ≡ b → map (λ c. row) (filter (λ c. c == w) ws) ≡ cond (list_any (λ c. c == w) ws) (row ∷ []) []
        → map (λ c. row) (cond b (c ∷ filter (λ c. c == w) ws) (filter (λ c. c == w) ws)) ≡ cond (b || list_any (λ c. c == w) ws) (row ∷ []) []
    by true e rest = ap (λ cs. row ∷ map (λ (c : ℕ). row) cs) (same-not c w ws e (untrue (list_any (λ d. c == d) ws) parts.0))
    by false e rest = rest

-- the rows that go to w are those of which w is a worker
rows-chosen : (goes : Row → List ℕ) (w : ℕ) → ((row : Row) → IsTrue (all_different (goes row))) → (rows : Rows)
    → rows_to goes w rows ≡ filter (λ row. list_any (λ c. c == w) (goes row)) rows
rows-chosen goes w different [] = refl
rows-chosen goes w different (row ∷ rows) =
    flat_map-cons (λ row. times_to w (goes row) row) row rows
    ∙ (λ i. once row w (goes row) (different row) i ++ rows-chosen goes w different rows i)
    ∙ by (list_any (λ c. c == w) (goes row))
  where
    by : (b : Bool) → cond b (row ∷ []) [] ++ filter (λ row. list_any (λ c. c == w) (goes row)) rows
        ≡ cond b (row ∷ filter (λ row. list_any (λ c. c == w) (goes row)) rows) (filter (λ row. list_any (λ c. c == w) (goes row)) rows)
    by true = refl
    by false = refl

-- the sending of an atom that is there
once-at : (sendings : List Sending) → All GoesOnce sendings → (j : ℕ) → j < length sendings → GoesOnce (slice_index_or sendings j no_sending)
once-at sendings different j low = different j no_sending low

pub given-at : (sendings : List Sending) → All GoesOnce sendings → (j : ℕ) → j < length sendings → (w : ℕ)
    → rows_given (moves_of sendings) j w ≡ sent_to (slice_index_or sendings j no_sending) w
given-at sendings different j low w =
    let s = slice_index_or sendings j no_sending in
    let to : Row → Bool = λ row. list_any (λ c. c == w) (s.goes_to row) in
    given-read sendings j w ∙ (λ i. flat_map (λ rows. rows-chosen s.goes_to w (once-at sendings different j low) rows i) s.parts)
    ∙ sym (flat_map-map (λ (rows : Rows). rows) (filter to) s.parts) ∙ together-filter to s.parts

pub rows_are_given_once : RowsAreGivenOnce
rows_are_given_once sendings different j low w = (
  λ u. let s = slice_index_or sendings j no_sending in
      between-read sendings j u w ∙ rows-chosen s.goes_to w (once-at sendings different j low) (slice_index_or s.parts u []),
  given-at sendings different j low w,
)

-- what a worker is given, atom by atom
pub given-each : (sendings : List Sending) → All GoesOnce sendings → (w : ℕ) → all_given (moves_of sendings) (length sendings) w ≡ map (λ s. sent_to s w) sendings
given-each sendings different w =
    sym (fill_by_all (λ j. rows_given (moves_of sendings) j w) (map (λ s. sent_to s w) sendings) (length sendings) [] (length-map sendings (λ s. sent_to s w))
    (λ j l. get_or-map (λ s. sent_to s w) sendings j no_sending [] (omega (arith, l, length-map sendings (λ s. sent_to s w))) ∙ sym (given-at sendings different j (omega (arith, l, length-map sendings (λ s. sent_to s w))) w)))
