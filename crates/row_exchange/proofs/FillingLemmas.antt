-- Filling batches, row by row and cell by cell.
use Rattle.std.proofs.Common.{◌≡◌, ◌≢◌, ◌==◌, ℕ, zero, suc, ◌+◌, ◌*◌, ◌<◌, ◌≤◌, Bool, true, false, true≢false, cond, List, [], ◌∷◌, ◌++◌, length, map, get_or, set, take, drop, replicate, All, refl, sym, ap, ◌∙◌, subst, arith, append_assoc, append-nil, length-append, length-set, length-drop, ⊎_elim, Result, Ok, Err, eq-eqb, ne_eqb}
use Rattle.std.specs.Prelude.{filter, sum_by, Vec, vec_len, IfOk}
use Rattle.std.specs.declared.alloc.Global.{Global}
use Rattle.std.specs.List.{range_with_len}
use Rattle.std.proofs.lemmas.Bool.Decides.{eqb_tells}
use Rattle.std.proofs.lemmas.List.{map-append, map-set, map-id, get_or-map, get_or-set_same, get_or-set_other, set-get_or, take_more, take_all, get_or-replicate, length-replicate, get_or_default}
use Rattle.std.proofs.lemmas.List.FromFn.{map-range_with_len_more}
use Rattle.std.proofs.lemmas.List.Folds.{sum_by-replicate}
use Rattle.std.proofs.Math.ListN.{get_or-eq_default}
use Rattle.std.proofs.lemmas.Bool.{cases_lt}
use Rattle.std.proofs.Math.Seq.{map-set_same}
use Rattle.std.proofs.lemmas.List.Concat.{flat_map-cons}
use Rattle.std.proofs.lemmas.List.Sums.{sum_by-set, sum_by-append, sum_by-cons}
use Rattle.std.proofs.lemmas.List.Elements.{All-append, All-set, All-head, All-tail, filter-append}
use Rattle.std.proofs.lemmas.Grind.{flat_map-append}
use Rattle.rel_base.specs.Picks.{items_at}
use Rattle.rel_base.proofs.PickLemmas.{length-items_at, one_item}
use Rattle.rel_base.proofs.SortLemmas.{All-one}
use Rattle.row_exchange.specs.Routes.{Row, Rows, GoesWithin, rows_at}
use Rattle.row_exchange.specs.inner.Pairs.{times_to, rows_to, pairs_of}
use Rattle.row_exchange.specs.inner.Shipments.{Shipment, shipped_in, shipped, rows_in, IsShipment, FillingState, pending_for, waiting, gathered, counted, IsFilling, Gathers, no_more, row_at, filling_of, Finishes, AddsAtom, IsFilledTo, IsFilled}

-- ---- batches

pub shipped-push : (xs : List Shipment) (s : Shipment) (w a : ℕ) → shipped (xs ++ s ∷ []) w a ≡ shipped xs w a ++ shipped_in w a s
shipped-push xs s w a =
    flat_map-append (shipped_in w a) xs (s ∷ [])
    ∙ ap (λ l. shipped xs w a ++ l) (flat_map-cons (shipped_in w a) s [] ∙ append-nil (shipped_in w a s))

pub rows_in-push : (xs : List Shipment) (s : Shipment) → rows_in (xs ++ s ∷ []) ≡ rows_in xs + length s.1.rows
rows_in-push xs s =
    let one : sum_by (λ (s : Shipment). length s.1.rows) (s ∷ []) ≡ length s.1.rows + 0 = sum_by-cons (λ (s : Shipment). length s.1.rows) s [] in
    omega (arith, sum_by-append (λ (s : Shipment). length s.1.rows) xs (s ∷ []), one)

cond-same : {X : Type 0} (b : Bool) (x : X) → cond b x x ≡ x
cond-same true x = refl
cond-same false x = refl

cond-append : {X : Type 0} (b : Bool) (x y : List X) → cond b x [] ++ cond b y [] ≡ cond b (x ++ y) []
cond-append true x y = refl
cond-append false x y = refl

-- ---- a batch is made of what waits

abbrev pub flushed : FillingState → ℕ → FillingState
flushed s cell = record s {
  pending = set s.pending cell [];
  filled = s.filled ++ (cell, record { atom = s.atom; rows = items_at s.rows (pending_for s cell) }) ∷ [];
}

places_below : (s : FillingState) (cell : ℕ) → IsFilling s → cell < length s.pending → length (items_at s.rows (pending_for s cell)) ≡ length (pending_for s cell)
places_below s cell f below = length-items_at s.rows (pending_for s cell) (f.inside cell [] below)

pub flushed-keeps : (s : FillingState) (cell : ℕ) → IsFilling s → cell < length s.pending → 0 < length (pending_for s cell) → IsFilling (flushed s cell)
flushed-keeps s cell f below some = record {
  some_row = f.some_row;
  few_cells = omega (arith, f.few_cells, length-set s.pending cell []);
  one_atom = f.one_atom;
  sized = subst (λ (n : ℕ). All (IsShipment n s.atoms s.batch) (flushed s cell).filled) (sym (length-set s.pending cell []))
      (All-append (IsShipment (length s.pending) s.atoms s.batch) s.filled (batch ∷ []) f.sized (All-one (IsShipment (length s.pending) s.atoms s.batch) batch is));
  few = All-set (λ (places : List ℕ). length places ≤ s.batch) s.pending cell [] (omega arith) f.few;
  inside = All-set (All (λ (place : ℕ). place < length s.rows)) s.pending cell [] (λ k d none. absurd (omega arith)) f.inside;
}
  where
    batch : Shipment
    batch = (cell, record { atom = s.atom; rows = items_at s.rows (pending_for s cell) })

    few_here : length (pending_for s cell) ≤ s.batch
    few_here = f.few cell [] below

    is : IsShipment (length s.pending) s.atoms s.batch batch
    is = record {
      inside = below;
      is_batch = record { one_atom = f.one_atom; some_row = omega (arith, places_below s cell f below, some); few = omega (arith, places_below s cell f below, few_here) };
    }

flushed-here : (s : FillingState) (cell : ℕ) → cell < length s.pending → gathered (flushed s cell) cell s.atom ≡ gathered s cell s.atom ++ cond (s.atom == s.atom) [] []
flushed-here s cell below =
    rw (shipped-push s.filled (cell, record { atom = s.atom; rows = items_at s.rows (pending_for s cell) }) cell s.atom, eq-eqb cell cell refl, eq-eqb s.atom s.atom refl, get_or-set_same s.pending cell [] [] below) refl

flushed-other_cell : (s : FillingState) (cell w a : ℕ) → w ≢ cell → gathered (flushed s cell) w a ≡ gathered s w a ++ cond (a == s.atom) [] []
flushed-other_cell s cell w a ne =
    rw (
      shipped-push s.filled (cell, record { atom = s.atom; rows = items_at s.rows (pending_for s cell) }) w a,
      ne_eqb cell w (λ e. ne (sym e)),
      get_or-set_other s.pending cell w [] [] ne,
      append-nil (shipped s.filled w a),
      cond-same {X = Rows} (a == s.atom) [],
      append-nil (gathered s w a),
    ) refl

flushed-other_atom : (s : FillingState) (cell w a : ℕ) → a ≢ s.atom → gathered (flushed s cell) w a ≡ gathered s w a ++ cond (a == s.atom) [] []
flushed-other_atom s cell w a ne =
    rw (
      shipped-push s.filled (cell, record { atom = s.atom; rows = items_at s.rows (pending_for s cell) }) w a,
      ne_eqb s.atom a (λ e. ne (sym e)),
      ne_eqb a s.atom ne,
      cond-same {X = Rows} (cell == w) [],
    ) refl

pub flushed-gathers : (s : FillingState) (cell : ℕ) → IsFilling s → cell < length s.pending → Gathers no_more 0 s (flushed s cell)
flushed-gathers s cell f below = record {
  same_work = record { atom = refl; atoms = refl; rows = refl; batch = refl; cells = length-set s.pending cell [] };
  rows = λ w a. ⊎_elim
      (λ e. ⊎_elim
      (λ h. subst (λ (v : ℕ). gathered (flushed s cell) v a ≡ gathered s v a ++ cond (a == s.atom) [] []) (sym h.1)
      (subst (λ (b : ℕ). gathered (flushed s cell) cell b ≡ gathered s cell b ++ cond (b == s.atom) [] []) (sym e.1) (flushed-here s cell below)))
      (λ h. flushed-other_cell s cell w a h.1)
      (eqb_tells w cell))
      (λ e. flushed-other_atom s cell w a e.1)
      (eqb_tells a s.atom);
  count_is = omega (
    arith,
    rows_in-push s.filled (cell, record { atom = s.atom; rows = items_at s.rows (pending_for s cell) }),
    sum_by-set (λ (places : List ℕ). length places) s.pending cell [] [] below,
    places_below s cell f below,
  );
}

-- ---- a row's place waits for a cell

abbrev pub put_in : FillingState → ℕ → ℕ → FillingState
put_in s cell number = record s { pending = set s.pending cell (pending_for s cell ++ number ∷ []) }

pub put_in-keeps : (s : FillingState) (cell number : ℕ) → IsFilling s → cell < length s.pending → number < length s.rows → length (pending_for s cell) < s.batch
    → IsFilling (put_in s cell number)
put_in-keeps s cell number f below row room = record {
  some_row = f.some_row;
  few_cells = omega (arith, f.few_cells, length-set s.pending cell (pending_for s cell ++ number ∷ []));
  one_atom = f.one_atom;
  sized = subst (λ (n : ℕ). All (IsShipment n s.atoms s.batch) s.filled) (sym (length-set s.pending cell (pending_for s cell ++ number ∷ []))) f.sized;
  few = All-set (λ (places : List ℕ). length places ≤ s.batch) s.pending cell (pending_for s cell ++ number ∷ []) (omega (arith, length-append (pending_for s cell) (number ∷ []))) f.few;
  inside = All-set (All (λ (place : ℕ). place < length s.rows)) s.pending cell (pending_for s cell ++ number ∷ [])
      (All-append (λ (place : ℕ). place < length s.rows) (pending_for s cell) (number ∷ []) (f.inside cell [] below) (All-one (λ (place : ℕ). place < length s.rows) number row)) f.inside;
}

pub items_at-push : (rows : Rows) (places : List ℕ) (number : ℕ) → number < length rows → items_at rows (places ++ number ∷ []) ≡ items_at rows places ++ get_or rows number [] ∷ []
items_at-push rows places number below =
    flat_map-append (λ p. take 1 (drop p rows)) places (number ∷ [])
    ∙ ap (λ l. items_at rows places ++ l) (flat_map-cons (λ p. take 1 (drop p rows)) number [] ∙ append-nil (take 1 (drop number rows)) ∙ one_item rows number [] below)

put_in-here : (s : FillingState) (cell number : ℕ) → cell < length s.pending → number < length s.rows
    → gathered (put_in s cell number) cell s.atom ≡ gathered s cell s.atom ++ cond (s.atom == s.atom) (times_to cell (cell ∷ []) (row_at s number)) []
put_in-here s cell number below row =
    rw (eq-eqb cell cell refl, eq-eqb s.atom s.atom refl, get_or-set_same s.pending cell (pending_for s cell ++ number ∷ []) [] below, items_at-push s.rows (pending_for s cell) number row)
    (sym (append_assoc (shipped s.filled cell s.atom) (waiting s cell) (row_at s number ∷ [])))

put_in-other_cell : (s : FillingState) (cell number w a : ℕ) → w ≢ cell
    → gathered (put_in s cell number) w a ≡ gathered s w a ++ cond (a == s.atom) (times_to w (cell ∷ []) (row_at s number)) []
put_in-other_cell s cell number w a ne =
    rw (ne_eqb cell w (λ e. ne (sym e)), get_or-set_other s.pending cell w (pending_for s cell ++ number ∷ []) [] ne, cond-same {X = Rows} (a == s.atom) [], append-nil (gathered s w a)) refl

put_in-other_atom : (s : FillingState) (cell number w a : ℕ) → a ≢ s.atom
    → gathered (put_in s cell number) w a ≡ gathered s w a ++ cond (a == s.atom) (times_to w (cell ∷ []) (row_at s number)) []
put_in-other_atom s cell number w a ne = rw (ne_eqb a s.atom ne, append-nil (shipped s.filled w a)) (sym (append-nil (shipped s.filled w a)))

pub put_in-gathers : (s : FillingState) (cell number : ℕ) → cell < length s.pending → number < length s.rows
    → Gathers (λ w. times_to w (cell ∷ []) (row_at s number)) 1 s (put_in s cell number)
put_in-gathers s cell number below row = record {
  same_work = record { atom = refl; atoms = refl; rows = refl; batch = refl; cells = length-set s.pending cell (pending_for s cell ++ number ∷ []) };
  rows = λ w a. ⊎_elim
      (λ e. ⊎_elim
      (λ h. subst (λ (v : ℕ). gathered (put_in s cell number) v a ≡ gathered s v a ++ cond (a == s.atom) (times_to v (cell ∷ []) (row_at s number)) []) (sym h.1)
      (subst (λ (b : ℕ). gathered (put_in s cell number) cell b ≡ gathered s cell b ++ cond (b == s.atom) (times_to cell (cell ∷ []) (row_at s number)) []) (sym e.1)
      (put_in-here s cell number below row)))
      (λ h. put_in-other_cell s cell number w a h.1)
      (eqb_tells w cell))
      (λ e. put_in-other_atom s cell number w a e.1)
      (eqb_tells a s.atom);
  count_is = omega (arith, sum_by-set (λ (places : List ℕ). length places) s.pending cell (pending_for s cell ++ number ∷ []) [] below, length-append (pending_for s cell) (number ∷ []));
}

-- ---- one after another

pub Gathers-then : (more further : ℕ → Rows) (m n : ℕ) (s t u : FillingState) → Gathers more m s t → Gathers further n t u → Gathers (λ w. more w ++ further w) (m + n) s u
Gathers-then more further m n s t u a b = record {
  same_work = record {
    atom = b.same_work.atom ∙ a.same_work.atom;
    atoms = b.same_work.atoms ∙ a.same_work.atoms;
    rows = b.same_work.rows ∙ a.same_work.rows;
    batch = b.same_work.batch ∙ a.same_work.batch;
    cells = b.same_work.cells ∙ a.same_work.cells;
  };
  rows = λ w atom.
      b.rows w atom
      ∙ ap (λ l. l ++ cond (atom == t.atom) (further w) []) (a.rows w atom)
      ∙ ap (λ (k : ℕ). (gathered s w atom ++ cond (atom == s.atom) (more w) []) ++ cond (atom == k) (further w) []) a.same_work.atom
      ∙ append_assoc (gathered s w atom) (cond (atom == s.atom) (more w) []) (cond (atom == s.atom) (further w) [])
      ∙ ap (λ l. gathered s w atom ++ l) (cond-append (atom == s.atom) (more w) (further w));
  count_is = omega (arith, a.count_is, b.count_is);
}

pub Gathers-same : (more other : ℕ → Rows) (m n : ℕ) (s t : FillingState) → Gathers more m s t → ((w : ℕ) → more w ≡ other w) → m ≡ n → Gathers other n s t
Gathers-same more other m n s t a same e = record {
  same_work = a.same_work;
  rows = λ w atom. a.rows w atom ∙ ap (λ l. gathered s w atom ++ cond (atom == s.atom) l []) (same w);
  count_is = a.count_is ∙ ap (λ (k : ℕ). counted s + k) e;
}

pub Gathers-nothing : (s : FillingState) → Gathers no_more 0 s s
Gathers-nothing s = record {
  same_work = record { atom = refl; atoms = refl; rows = refl; batch = refl; cells = refl };
  rows = λ w atom. sym (ap (λ l. gathered s w atom ++ l) (cond-same {X = Rows} (atom == s.atom) []) ∙ append-nil (gathered s w atom));
  count_is = omega arith;
}

-- ---- the state of the fields

abbrev pub state_of : ℕ → ℕ → Rows → ℕ → List (Vec ℕ Global) → List Shipment → FillingState
state_of atom atoms rows batch pending filled =
    record { atom = atom; atoms = atoms; rows = rows; batch = batch; pending = map (λ places. places.items) pending; filled = filled }

pub flushed-state : (atom atoms batch cell : ℕ) (rows picked : Rows) (pending : List (Vec ℕ Global)) (filled after : List Shipment) (places cleared : Vec ℕ Global)
    → cell < length pending → places ≡ get_or pending cell places → picked ≡ items_at rows places.items → cleared.items ≡ []
    → after ≡ filled ++ (cell, record { atom = atom; rows = picked }) ∷ []
    → state_of atom atoms rows batch (set pending cell cleared) after ≡ flushed (state_of atom atoms rows batch pending filled) cell
flushed-state atom atoms batch cell rows picked pending filled after places cleared below at picks none pushed =
    let items : Vec ℕ Global → List ℕ = λ places. places.items in
    let waits : get_or (map items pending) cell [] ≡ places.items = get_or-map items pending cell places [] below ∙ ap items (sym at) in
    let p : map items (set pending cell cleared) ≡ set (map items pending) cell [] = map-set items pending cell cleared ∙ ap (λ l. set (map items pending) cell l) none in
    let q : after ≡ filled ++ (cell, record { atom = atom; rows = items_at rows (get_or (map items pending) cell []) }) ∷ [] =
    pushed ∙ ap (λ (r : Rows). filled ++ (cell, record { atom = atom; rows = r }) ∷ []) (picks ∙ ap (items_at rows) (sym waits)) in
    λ i. record { atom = atom; atoms = atoms; rows = rows; batch = batch; pending = p i; filled = q i }

pub put_in-state : (atom atoms batch cell number : ℕ) (rows : Rows) (pending : List (Vec ℕ Global)) (filled : List Shipment) (places more : Vec ℕ Global)
    → cell < length pending → places ≡ get_or pending cell places → more.items ≡ places.items ++ number ∷ []
    → state_of atom atoms rows batch (set pending cell more) filled ≡ put_in (state_of atom atoms rows batch pending filled) cell number
put_in-state atom atoms batch cell number rows pending filled places more below at pushed =
    let items : Vec ℕ Global → List ℕ = λ places. places.items in
    let waits : places.items ≡ get_or (map items pending) cell [] = sym (get_or-map items pending cell places [] below ∙ ap items (sym at)) in
    let p : map items (set pending cell more) ≡ set (map items pending) cell (get_or (map items pending) cell [] ++ number ∷ []) =
    map-set items pending cell more ∙ ap (λ l. set (map items pending) cell l) (pushed ∙ ap (λ l. l ++ number ∷ []) waits) in
    λ i. record { atom = atom; atoms = atoms; rows = rows; batch = batch; pending = p i; filled = filled }

-- a list that took nothing in is as it was
pub refused-state : (atom atoms batch cell : ℕ) (rows : Rows) (pending : List (Vec ℕ Global)) (filled : List Shipment) (places same : Vec ℕ Global)
    → places ≡ get_or pending cell places → same.items ≡ places.items
    → state_of atom atoms rows batch (set pending cell same) filled ≡ state_of atom atoms rows batch pending filled
refused-state atom atoms batch cell rows pending filled places same at kept =
    let items : Vec ℕ Global → List ℕ = λ places. places.items in
    let p : map items (set pending cell same) ≡ map items pending = map-set_same items pending cell same places (kept ∙ ap items at) in
    λ i. record { atom = atom; atoms = atoms; rows = rows; batch = batch; pending = p i; filled = filled }

-- ---- all cells of a row

pub put_row-step : (s t u : FillingState) (cells : List ℕ) (k number cell : ℕ) → k < length cells → cell ≡ get_or cells k 0
    → Gathers (λ w. times_to w (take k cells) (row_at s number)) k s t → Gathers (λ w. times_to w (cell ∷ []) (row_at t number)) 1 t u
    → Gathers (λ w. times_to w (take (k + 1) cells) (row_at s number)) (k + 1) s u
put_row-step s t u cells k number cell below at a b =
    Gathers-same (λ w. times_to w (take k cells) (row_at s number) ++ times_to w (cell ∷ []) (row_at t number)) (λ w. times_to w (take (k + 1) cells) (row_at s number)) (k + 1) (k + 1) s u
    (Gathers-then (λ w. times_to w (take k cells) (row_at s number)) (λ w. times_to w (cell ∷ []) (row_at t number)) k 1 s t u a b)
    (λ w. sym (ap (λ l. times_to w l (row_at s number)) (take_more cells k 0 below ∙ ap (λ (c : ℕ). take k cells ++ c ∷ []) (sym at))
    ∙ ap (λ l. map (λ _. row_at s number) l) (filter-append (λ c. c == w) (take k cells) (cell ∷ []))
    ∙ map-append (λ _. row_at s number) (filter (λ c. c == w) (take k cells)) (filter (λ c. c == w) (cell ∷ []))
    ∙ ap (λ (r : Rows). times_to w (take k cells) (row_at s number) ++ times_to w (cell ∷ []) (get_or r number [])) (sym a.same_work.rows)))
    refl

pub put_row-all : (s t : FillingState) (cells : List ℕ) (k number : ℕ) → k ≡ length cells → Gathers (λ w. times_to w (take k cells) (row_at s number)) k s t
    → Gathers (λ w. times_to w cells (row_at s number)) (length cells) s t
put_row-all s t cells k number e a =
    Gathers-same (λ w. times_to w (take k cells) (row_at s number)) (λ w. times_to w cells (row_at s number)) k (length cells) s t a
    (λ w. ap (λ l. times_to w l (row_at s number)) (take_all k cells (omega arith))) e

-- ---- all cells

pub rest-empty : (s t : FillingState) (cell : ℕ) → cell < length s.pending → t.pending ≡ set s.pending cell [] → ((k : ℕ) → k < cell → pending_for s k ≡ [])
    → (k : ℕ) → k < cell + 1 → pending_for t k ≡ []
rest-empty s t cell below is before k lt =
    ap (λ (l : List (List ℕ)). get_or l k []) is
    ∙ ⊎_elim
    (λ (h : k < cell). let ne : k ≢ cell = omega arith in get_or-set_other s.pending cell k [] [] ne ∙ before k h)
    (λ (h : cell ≤ k). let e : k ≡ cell = omega arith in subst (λ (j : ℕ). get_or (set s.pending cell []) j [] ≡ []) (sym e) (get_or-set_same s.pending cell [] [] below))
    (cases_lt k cell)

-- nothing waits for any cell
pub none-waits : (s : FillingState) → All (λ (places : List ℕ). places ≡ []) s.pending → (w : ℕ) → pending_for s w ≡ []
none-waits s none w = ⊎_elim (λ (h : w < length s.pending). none w [] h) (λ (h : length s.pending ≤ w). get_or-eq_default s.pending [] h) (cases_lt w (length s.pending))

none-counted : (xss : List (List ℕ)) → All (λ (places : List ℕ). places ≡ []) xss → sum_by (λ (places : List ℕ). length places) xss ≡ 0
none-counted [] none = refl
none-counted (xs ∷ xss) none =
    let rest : sum_by (λ (places : List ℕ). length places) xss ≡ 0 = none-counted xss (All-tail (λ (places : List ℕ). places ≡ []) xs xss none) in
    let first : length xs ≡ 0 = ap length (All-head (λ (places : List ℕ). places ≡ []) xs xss none) in
    omega (arith, sum_by-cons (λ (places : List ℕ). length places) xs xss, rest, first)

pub finished : (s t : FillingState) → IsFilling t → Gathers no_more 0 s t → All (λ (places : List ℕ). places ≡ []) t.pending → Finishes s t.filled
finished s t f a none = record {
  sized = subst (λ (n : ℕ × (ℕ × ℕ)). All (IsShipment n.0 n.1.0 n.1.1) t.filled) (λ i. (a.same_work.cells i, (a.same_work.atoms i, a.same_work.batch i))) f.sized;
  rows_are = λ w atom.
      sym (append-nil (shipped t.filled w atom))
      ∙ ap (λ l. shipped t.filled w atom ++ l) (sym (ap (λ (ps : List ℕ). cond (atom == t.atom) (items_at t.rows ps) []) (none-waits t none w) ∙ cond-same {X = Rows} (atom == t.atom) []))
      ∙ a.rows w atom ∙ ap (λ l. gathered s w atom ++ l) (cond-same {X = Rows} (atom == s.atom) []) ∙ append-nil (gathered s w atom);
  count_is = omega (arith, none-counted t.pending none, a.count_is);
}

-- ---- all rows of an atom

pub next-row : (rows : Rows) (n : ℕ) (row : Row) (left : Rows) → drop n rows ≡ row ∷ left
    → (n < length rows) × ((get_or rows n [] ≡ row) × (drop (n + 1) rows ≡ left))
next-row [] zero row left e = absurd (omega (arith, ap length e))
next-row [] (suc n) row left e = absurd (omega (arith, ap length e))
next-row (x ∷ xs) zero row left e = (omega arith, (ap (λ (l : Rows). get_or l 0 []) e, ap (λ (l : Rows). drop 1 l) e))
next-row (x ∷ xs) (suc n) row left e =
    let r = next-row xs n row left e in
    let k : suc n + 1 ≡ suc (n + 1) = omega arith in
    (omega (arith, r.0), (r.1.0, ap (λ (m : ℕ). drop m (x ∷ xs)) k ∙ r.1.1))

pub fill-step : (goes : Row → List ℕ) (start s t : FillingState) (number : ℕ) (cells : List ℕ) → number < length start.rows → cells ≡ goes (row_at start number)
    → Gathers (λ w. rows_to goes w (take number start.rows)) (pairs_of goes (take number start.rows)) start s
    → Gathers (λ w. times_to w cells (row_at s number)) (length cells) s t
    → Gathers (λ w. rows_to goes w (take (number + 1) start.rows)) (pairs_of goes (take (number + 1) start.rows)) start t
fill-step goes start s t number cells below are a b =
    let row = row_at start number in
    let more : take (number + 1) start.rows ≡ take number start.rows ++ row ∷ [] = take_more start.rows number [] below in
    Gathers-same (λ w. rows_to goes w (take number start.rows) ++ times_to w cells (row_at s number)) (λ w. rows_to goes w (take (number + 1) start.rows))
    (pairs_of goes (take number start.rows) + length cells) (pairs_of goes (take (number + 1) start.rows)) start t
    (Gathers-then (λ w. rows_to goes w (take number start.rows)) (λ w. times_to w cells (row_at s number)) (pairs_of goes (take number start.rows)) (length cells) start s t a b)
    (λ w. sym (ap (rows_to goes w) more ∙ flat_map-append (λ r. times_to w (goes r) r) (take number start.rows) (row ∷ [])
    ∙ ap (λ l. rows_to goes w (take number start.rows) ++ l) (flat_map-cons (λ r. times_to w (goes r) r) row [] ∙ append-nil (times_to w (goes row) row)
    ∙ ap (λ (l : List ℕ). times_to w l row) (sym are) ∙ ap (λ (r : Rows). times_to w cells (get_or r number [])) (sym a.same_work.rows))))
    (let one : sum_by (λ r. length (goes r)) (row ∷ []) ≡ length (goes row) + 0 = sum_by-cons (λ r. length (goes r)) row [] in
    omega (arith, ap (pairs_of goes) more, sum_by-append (λ r. length (goes r)) (take number start.rows) (row ∷ []), one, ap length are))

replicate-none : (n w : ℕ) → get_or (replicate n (let none : List ℕ = [] in none)) w [] ≡ []
replicate-none n w = ⊎_elim
    (λ (h : w < n). get_or-replicate n w [] [] h)
    (λ (h : n ≤ w). get_or-eq_default (replicate n []) [] (omega (arith, length-replicate {A = List ℕ} n [])))
    (cases_lt w n)

pub fill-atom : (goes : Row → List ℕ) (atom atoms batch cells : ℕ) (rows : Rows) (filled made : List Shipment) (s : FillingState)
    → pairs_of goes rows ≤ 274877906944 → Gathers (λ w. rows_to goes w rows) (pairs_of goes rows) (filling_of atom atoms rows batch cells filled) s → Finishes s made
    → AddsAtom goes cells atoms batch atom rows filled made
fill-atom goes atom atoms batch cells rows filled made s few a f = record {
  few = few;
  sized = subst (λ (n : ℕ × (ℕ × ℕ)). All (IsShipment n.0 n.1.0 n.1.1) made)
      (λ i. ((a.same_work.cells ∙ length-replicate {A = List ℕ} cells []) i, (a.same_work.atoms i, a.same_work.batch i))) f.sized;
  rows_are = λ w b.
      f.rows_are w b ∙ a.rows w b
      ∙ ap (λ l. (shipped filled w b ++ l) ++ cond (b == atom) (rows_to goes w rows) [])
      (ap (λ (ps : List ℕ). cond (b == atom) (items_at rows ps) []) (replicate-none cells w) ∙ cond-same {X = Rows} (b == atom) [])
      ∙ ap (λ l. l ++ cond (b == atom) (rows_to goes w rows) []) (append-nil (shipped filled w b));
  count_is = let none : sum_by (λ (places : List ℕ). length places) (replicate cells []) ≡ cells * 0 = sum_by-replicate (λ (places : List ℕ). length places) cells [] in
      omega (arith, f.count_is, a.count_is, none);
}

-- ---- all atoms

pub sum_by-range_more : (f : ℕ → ℕ) (n : ℕ) → sum_by f (range_with_len 0 (n + 1)) ≡ sum_by f (range_with_len 0 n) + f n
sum_by-range_more f n =
    let more : range_with_len 0 (n + 1) ≡ range_with_len 0 n ++ n ∷ [] =
    sym (map-id (range_with_len 0 (n + 1))) ∙ map-range_with_len_more (λ (k : ℕ). k) 0 n n (omega arith) ∙ ap (λ (l : List ℕ). l ++ n ∷ []) (map-id (range_with_len 0 n)) in
    let one : sum_by f (n ∷ []) ≡ f n + 0 = sum_by-cons f n [] in
    omega (arith, ap (sum_by f) more, sum_by-append f (range_with_len 0 n) (n ∷ []), one)

pub no-atoms : (goes : ℕ → Row → List ℕ) (parts : List (List Rows)) (cells most worker : ℕ) → IsFilledTo goes parts cells most worker 0 []
no-atoms goes parts cells most worker = record {
  sized = λ k d none. absurd (omega arith);
  rows_are = λ w a none. absurd (omega arith);
  none = λ w a all. refl;
  count_is = refl;
  few = omega arith;
}

pub one-atom-more : (goes : ℕ → Row → List ℕ) (parts : List (List Rows)) (cells most worker atom : ℕ) (old new : List Shipment)
    → IsFilledTo goes parts cells most worker atom old → AddsAtom (goes atom) cells (length parts) most atom (rows_at parts atom worker) old new
    → IsFilledTo goes parts cells most worker (atom + 1) new
one-atom-more goes parts cells most worker atom old new f a = record {
  few = (let e : (atom + 1) * 274877906944 ≡ atom * 274877906944 + 274877906944 = grind arith in omega (arith, e, f.few, a.few, a.count_is));
  sized = a.sized;
  rows_are = λ w b below. ⊎_elim
      (λ (h : b < atom). let ne : b ≢ atom = omega arith in
      a.rows_are w b ∙ ap (λ (t : Bool). shipped old w b ++ cond t (rows_to (goes atom) w (rows_at parts atom worker)) []) (ne_eqb b atom ne) ∙ append-nil (shipped old w b) ∙ f.rows_are w b h)
      (λ (h : atom ≤ b). let e : b ≡ atom = omega arith in
      subst (λ (d : ℕ). shipped new w d ≡ rows_to (goes d) w (rows_at parts d worker)) (sym e)
      (a.rows_are w atom ∙ ap (λ (t : Bool). shipped old w atom ++ cond t (rows_to (goes atom) w (rows_at parts atom worker)) []) (eq-eqb atom atom refl)
      ∙ ap (λ l. l ++ rows_to (goes atom) w (rows_at parts atom worker)) (f.none w atom (omega arith))))
      (cases_lt b atom);
  none = λ w b above. let ne : b ≢ atom = omega arith in
      a.rows_are w b ∙ ap (λ (t : Bool). shipped old w b ++ cond t (rows_to (goes atom) w (rows_at parts atom worker)) []) (ne_eqb b atom ne) ∙ append-nil (shipped old w b) ∙ f.none w b (omega arith);
  count_is = omega (arith, a.count_is, f.count_is, sum_by-range_more (λ b. pairs_of (goes b) (rows_at parts b worker)) atom);
}

pub all-atoms : (goes : ℕ → Row → List ℕ) (parts : List (List Rows)) (cells most worker done : ℕ) (xs : List Shipment)
    → done ≡ length parts → length parts ≤ 8 → IsFilledTo goes parts cells most worker done xs → IsFilled goes parts cells most worker xs
all-atoms goes parts cells most worker done xs e small f = record {
  few = omega (arith, f.few, e, small);
  sized = f.sized;
  rows_are = λ w a below. f.rows_are w a (omega arith);
  count_is = f.count_is ∙ ap (λ (n : ℕ). sum_by (λ a. pairs_of (goes a) (rows_at parts a worker)) (range_with_len 0 n)) e;
}

pub put_then : (s t : FillingState) (cell number : ℕ) → Gathers no_more 0 s t → cell < length t.pending → number < length t.rows
    → Gathers (λ w. times_to w (cell ∷ []) (row_at s number)) 1 s (put_in t cell number)
put_then s t cell number a below row =
    Gathers-same (λ w. no_more w ++ times_to w (cell ∷ []) (row_at t number)) (λ w. times_to w (cell ∷ []) (row_at s number)) 1 1 s (put_in t cell number)
    (Gathers-then no_more (λ w. times_to w (cell ∷ []) (row_at t number)) 0 1 s t (put_in t cell number) a (put_in-gathers t cell number below row))
    (λ w. ap (λ (r : Rows). times_to w (cell ∷ []) (get_or r number [])) a.same_work.rows) refl

-- what is empty already is as it would be
pub empty-set : (pending : List (Vec ℕ Global)) (cell : ℕ) (places : Vec ℕ Global) → cell < length pending → places ≡ get_or pending cell places → places.items ≡ []
    → map (λ (v : Vec ℕ Global). v.items) pending ≡ set (map (λ (v : Vec ℕ Global). v.items) pending) cell []
empty-set pending cell places below at none =
    let items : Vec ℕ Global → List ℕ = λ v. v.items in
    let here : get_or (map items pending) cell [] ≡ [] = get_or-map items pending cell places [] below ∙ ap items (sym at) ∙ none in
    sym (ap (λ l. set (map items pending) cell l) (sym here) ∙ set-get_or (map items pending) cell [])

-- the rows of an atom at a worker, as they are looked up
pub rows-at : (parts : List (List Rows)) (atom u : ℕ) (spread : List Rows) (rows : Rows) → atom < length parts → u < length spread
    → spread ≡ get_or parts atom spread → rows ≡ get_or spread u rows → rows ≡ rows_at parts atom u
rows-at parts atom u spread rows below inside at rows_are =
    rows_are ∙ get_or_default spread u rows [] inside ∙ ap (λ (l : List Rows). get_or l u []) (at ∙ get_or_default parts atom spread [] below)

nil-from_length : {X : Type 0} (xs : List X) → length xs ≡ 0 → xs ≡ []
nil-from_length [] e = refl
nil-from_length (x ∷ xs) e = absurd (omega arith)

pub nil-from_vec_len : (v : Vec ℕ Global) (b : Bool) → b ≡ true → b ≡ (vec_len v == 0) → v.items ≡ []
nil-from_vec_len v b holds e =
    let zero : vec_len v ≡ 0 = ⊎_elim (λ h. h.1) (λ h. absurd (true≢false (sym holds ∙ e ∙ h.0))) (eqb_tells (vec_len v) 0) in
    nil-from_length v.items (omega (arith, v.ok.0, zero))

pub took-all : (rows : Rows) (n : ℕ) → drop n rows ≡ [] → take n rows ≡ rows
took-all rows n e = take_all n rows (omega (arith, ap length e, length-drop n rows))

pub IfOk-then : {X E : Type 0} {P Q : X → Type 0} (r : Result X E) → IfOk r P → ((x : X) → P x → Q x) → IfOk r Q
IfOk-then (Ok x) p f = f x p
IfOk-then (Err e) p f = p

-- at most 64 cells a row
pub pairs-few : (goes : Row → List ℕ) (workers : ℕ) (rows : Rows) → All (λ row. GoesWithin workers (goes row)) rows → pairs_of goes rows ≤ 64 * length rows
pairs-few goes workers [] all = omega arith
pairs-few goes workers (row ∷ rows) all =
    omega (arith, sum_by-cons (λ r. length (goes r)) row rows, (All-head (λ r. GoesWithin workers (goes r)) row rows all).few, pairs-few goes workers rows (All-tail (λ r. GoesWithin workers (goes r)) row rows all))
