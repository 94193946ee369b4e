-- Rows that all go to one cell.
use Rattle.std.proofs.Common.{◌≡◌, ◌==◌, ℕ, ◌+◌, ◌-◌, ◌<◌, ◌≤◌, ◌^◌, Bool, true, false, cond, List, [], ◌∷◌, ◌++◌, length, map, get_or, take, drop, All, refl, sym, ap, ◌∙◌, subst, arith, append_assoc, append-nil, length-append, length-drop, ⊎_elim, eq-eqb, ne_eqb}
use Rattle.std.specs.Prelude.{slice_range}
use Rattle.std.proofs.lemmas.Bool.Decides.{eqb_tells}
use Rattle.std.proofs.lemmas.List.{length-take-le}
use Rattle.std.proofs.lemmas.List.Concat.{flat_map-cons}
use Rattle.std.proofs.lemmas.List.Sums.{sum_by-cons}
use Rattle.std.proofs.lemmas.List.Elements.{All-append, All-head, All-tail}
use Rattle.std.proofs.lemmas.Grind.{flat_map-append}
use Rattle.std.proofs.Math.Seq.{take-add}
use Rattle.rel_base.proofs.SortLemmas.{All-one}
use Rattle.row_exchange.specs.Routes.{Row, Rows, AreRouted}
use Rattle.row_exchange.specs.inner.Pairs.{times_to, rows_to, pairs_of}
use Rattle.row_exchange.specs.inner.Shipments.{Shipment, shipped_in, shipped, rows_in, IsShipment, AddsAtom}
use Rattle.row_exchange.proofs.FillingLemmas.{shipped-push, rows_in-push}

-- ---- what goes to the cell

cond-same : {X : Type 0} (b : Bool) (x : X) → cond b x x ≡ x
cond-same true x = refl
cond-same false x = refl

-- all rows go there, and none anywhere else
rows_to-one : (cell w : ℕ) (rows : Rows) → rows_to (λ _. cell ∷ []) w rows ≡ cond (cell == w) rows []
rows_to-one cell w [] = sym (cond-same {X = Rows} (cell == w) [])
rows_to-one cell w (row ∷ rows) =
    flat_map-cons (λ r. times_to w (cell ∷ []) r) row rows
    ∙ ap (λ (l : Rows). times_to w (cell ∷ []) row ++ l) (rows_to-one cell w rows)
    ∙ by (cell == w)
  where
    by : (b : Bool) → map (λ _. row) (cond b (cell ∷ []) []) ++ cond b rows [] ≡ cond b (row ∷ rows) []
    by true = refl
    by false = refl

pairs_of-one : (cell : ℕ) (rows : Rows) → pairs_of (λ _. cell ∷ []) rows ≡ length rows
pairs_of-one cell [] = refl
pairs_of-one cell (row ∷ rows) =
    let one : length (cell ∷ []) ≡ 1 = refl in
    omega (arith, sum_by-cons (λ (r : Row). length (cell ∷ [])) row rows, one, pairs_of-one cell rows)

-- ---- one batch more

-- the batch that rows for the cell make
abbrev pub batch_to : ℕ → ℕ → Rows → Shipment
batch_to cell atom rows = (cell, record { atom = atom; rows = rows })

shipped_in-one : (cell w atom a : ℕ) (rows : Rows)
    → shipped_in w a (batch_to cell atom rows) ≡ cond (a == atom) (rows_to (λ _. cell ∷ []) w rows) []
shipped_in-one cell w atom a rows = ⊎_elim
    (λ e. subst (λ (b : ℕ). shipped_in w b (batch_to cell atom rows) ≡ cond (b == atom) (rows_to (λ _. cell ∷ []) w rows) []) (sym e.1)
    (rw (eq-eqb atom atom refl) (sym (rows_to-one cell w rows))))
    (λ e. rw (ne_eqb atom a (λ same. e.1 (sym same)), ne_eqb a atom e.1) (cond-same {X = Rows} (cell == w) []))
    (eqb_tells a atom)

-- rows behind those that were added
pub one_cell-more : (cell cells atoms most atom : ℕ) (first more : Rows) (old mid : List Shipment)
    → cell < cells → atom < atoms → 1 ≤ length more → length more ≤ most → length first + length more < 2 ^ 32
    → AddsAtom (λ _. cell ∷ []) cells atoms most atom first old mid
    → AddsAtom (λ _. cell ∷ []) cells atoms most atom (first ++ more) old (mid ++ batch_to cell atom more ∷ [])
one_cell-more cell cells atoms most atom first more old mid inside one_atom some few low a = record {
  sized = All-append (IsShipment cells atoms most) mid (batch_to cell atom more ∷ []) a.sized
      (All-one (IsShipment cells atoms most) (batch_to cell atom more) (record {
        inside = inside;
        is_batch = record { one_atom = one_atom; some_row = some; few = few };
      }));
  rows_are = λ w b.
      shipped-push mid (batch_to cell atom more) w b
      ∙ ap (λ l. shipped mid w b ++ l) (shipped_in-one cell w atom b more)
      ∙ ap (λ l. l ++ cond (b == atom) (to w more) []) (a.rows_are w b)
      ∙ append_assoc (shipped old w b) (cond (b == atom) (to w first) []) (cond (b == atom) (to w more) [])
      ∙ ap (λ l. shipped old w b ++ l) (both (b == atom) w);
  count_is = omega (arith, rows_in-push mid (batch_to cell atom more), a.count_is, pairs_of-one cell first, pairs_of-one cell (first ++ more), length-append first more);
  few = omega (arith, pairs_of-one cell (first ++ more), length-append first more, low);
}
  where
    to : ℕ → Rows → Rows
    to w rows = rows_to (λ _. cell ∷ []) w rows

    both : (b : Bool) (w : ℕ) → cond b (to w first) [] ++ cond b (to w more) [] ≡ cond b (to w (first ++ more)) []
    both true w = sym (flat_map-append (λ r. times_to w (cell ∷ []) r) first more)
    both false w = refl

pub nothing-added : (cell cells atoms most atom : ℕ) (rows : Rows) (old : List Shipment)
    → All (IsShipment cells atoms most) old → AddsAtom (λ _. cell ∷ []) cells atoms most atom (take 0 rows) old old
nothing-added cell cells atoms most atom rows old sized = record {
  sized = sized;
  rows_are = λ w a. sym (ap (λ l. shipped old w a ++ l) (cond-same {X = Rows} (a == atom) []) ∙ append-nil (shipped old w a));
  count_is = omega arith;
  few = omega arith;
}

-- the next rows make a batch
pub next-batch : (cell cells atoms most atom from to : ℕ) (rows made : Rows) (old mid new : List Shipment)
    → cell < cells → atom < atoms → from < to → to ≤ from + most → to ≤ length rows → length rows < 2 ^ 32
    → made ≡ slice_range rows from to → new ≡ mid ++ batch_to cell atom made ∷ []
    → AddsAtom (λ _. cell ∷ []) cells atoms most atom (take from rows) old mid
    → AddsAtom (λ _. cell ∷ []) cells atoms most atom (take to rows) old new
next-batch cell cells atoms most atom from to rows made old mid new inside one_atom some few within low is pushed a =
    let n = to - from in
    let next : from + n ≡ to = omega arith in
    let whole : take to rows ≡ take from rows ++ made = ap (λ (k : ℕ). take k rows) (sym next) ∙ take-add from n rows ∙ ap (λ (l : Rows). take from rows ++ l) (sym is) in
    let long : length made ≡ n = ap length is ∙ length-take-le n (drop from rows) (omega (arith, length-drop from rows)) in
    let front : length (take from rows) ≡ from = length-take-le from rows (omega arith) in
    subst (λ (xs : List Shipment). AddsAtom (λ _. cell ∷ []) cells atoms most atom (take to rows) old xs) (sym pushed)
    (subst (λ (rs : Rows). AddsAtom (λ _. cell ∷ []) cells atoms most atom rs old (mid ++ batch_to cell atom made ∷ [])) (sym whole)
    (one_cell-more cell cells atoms most atom (take from rows) made old mid inside one_atom (omega arith) (omega arith) (omega arith) a))

-- ---- the route's own cells

same-rows_to : (goes other : Row → List ℕ) (w : ℕ) (rows : Rows) → All (λ row. goes row ≡ other row) rows → rows_to goes w rows ≡ rows_to other w rows
same-rows_to goes other w [] same = refl
same-rows_to goes other w (row ∷ rows) same =
    flat_map-cons (λ r. times_to w (goes r) r) row rows
    ∙ ap (λ cells. times_to w cells row ++ rows_to goes w rows) (All-head (λ r. goes r ≡ other r) row rows same)
    ∙ ap (λ (l : Rows). times_to w (other row) row ++ l) (same-rows_to goes other w rows (All-tail (λ r. goes r ≡ other r) row rows same))
    ∙ sym (flat_map-cons (λ r. times_to w (other r) r) row rows)

same-pairs_of : (goes other : Row → List ℕ) (rows : Rows) → All (λ row. goes row ≡ other row) rows → pairs_of goes rows ≡ pairs_of other rows
same-pairs_of goes other [] same = refl
same-pairs_of goes other (row ∷ rows) same =
    omega (
      arith,
      sum_by-cons (λ r. length (goes r)) row rows,
      sum_by-cons (λ r. length (other r)) row rows,
      ap length (All-head (λ r. goes r ≡ other r) row rows same),
      same-pairs_of goes other rows (All-tail (λ r. goes r ≡ other r) row rows same),
    )

-- what was added is what the route adds, where these are the cells of each row
pub same-cells : (goes other : Row → List ℕ) (cells atoms most atom : ℕ) (rows : Rows) (old new : List Shipment)
    → All (λ row. goes row ≡ other row) rows → AddsAtom other cells atoms most atom rows old new → AddsAtom goes cells atoms most atom rows old new
same-cells goes other cells atoms most atom rows old new same a = record {
  sized = a.sized;
  rows_are = λ w b. a.rows_are w b ∙ ap (λ l. shipped old w b ++ cond (b == atom) l []) (sym (same-rows_to goes other w rows same));
  count_is = a.count_is ∙ ap (λ (n : ℕ). rows_in old + n) (sym (same-pairs_of goes other rows same));
  few = omega (arith, a.few, same-pairs_of goes other rows same);
}

-- the one cell is a worker, where there is a row
pub cell-inside : (accepts : Row → Type 0) (goes : Row → List ℕ) (cell workers : ℕ) (rows : Rows) → AreRouted accepts goes workers rows
    → ((row : Row) → accepts row → goes row ≡ cell ∷ []) → 0 < length rows → cell < workers
cell-inside accepts goes cell workers rows routed only some =
    let is : goes (get_or rows 0 []) ≡ cell ∷ [] = only (get_or rows 0 []) (routed.accepted 0 [] some) in
    let all : All (λ (c : ℕ). c < workers) (cell ∷ []) = subst (All (λ (c : ℕ). c < workers)) is (routed.inside 0 [] some).inside in
    all 0 0 (omega arith)
