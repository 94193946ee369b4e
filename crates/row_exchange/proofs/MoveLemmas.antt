-- What is read off the moves of an exchange is what its rows and their cells are.
use Rattle.std.proofs.Common.{◌≡◌, ℕ, zero, suc, ◌+◌, ◌<◌, ◌≤◌, ◌==◌, Bool, true, false, cond, List, [], ◌∷◌, ◌++◌, map, length, get_or, All, refl, sym, ◌∙◌, ap, subst, arith, append-nil}
use Rattle.std.proofs.Common.{⊎_elim}
use Rattle.std.specs.Prelude.{filter, sum_by, ◌&&◌}
use Rattle.std.specs.List.{flat_map, enumerate_from, range_with_len}
use Rattle.std.proofs.lemmas.Bool.{cases_lt}
use Rattle.std.proofs.lemmas.Bool.Decides.{nat_tests}
use Rattle.std.proofs.lemmas.List.{length-map, get_or-map, map-append, get_or_past}
use Rattle.std.proofs.lemmas.List.Concat.{flat_map-cons, length-flat_map}
use Rattle.std.proofs.lemmas.List.Elements.{All-nil, All-head, All-tail, All-append, All-map, filter-append}
use Rattle.std.proofs.lemmas.List.FromFn.{get_or-enumerate_from, length-enumerate_from}
use Rattle.std.proofs.lemmas.List.Sums.{sum_by-cons, length-filter}
use Rattle.row_exchange.specs.Routes.{Row, Rows, rows_at}
use Rattle.row_exchange.specs.Moves.{Move, Sending, no_sending, sendings_of, moves_of_row, moves_of_atom, moves_of, sent, received, rows_between, rows_given}
use Rattle.row_exchange.specs.inner.Pairs.{times_to, rows_to, all_rows_to, pairs_of, pairs_from, pairs_to}
use Rattle.row_exchange.proofs.SumLemmas.{sum_by-range_same, sums-swap, sum_by-places, sum_by-flat_map}
use Rattle.row_exchange.proofs.MessageLemmas.{flat_map-places}

-- ---- lists

pub All-flat_map : {X Y : Type 0} (P : Y → Type 0) (f : X → List Y) (xs : List X) → All (λ x. All P (f x)) xs → All P (flat_map f xs)
All-flat_map P f [] all = All-nil P
All-flat_map P f (x ∷ xs) all =
    subst (All P) (sym (flat_map-cons f x xs))
    (All-append P (f x) (flat_map f xs) (All-head (λ x. All P (f x)) x xs all) (All-flat_map P f xs (All-tail (λ x. All P (f x)) x xs all)))

pub filter-flat_map : {X Y : Type 0} (p : Y → Bool) (f : X → List Y) (xs : List X) → filter p (flat_map f xs) ≡ flat_map (λ x. filter p (f x)) xs
filter-flat_map p f [] = refl
filter-flat_map p f (x ∷ xs) = filter-append p (f x) (flat_map f xs) ∙ ap (λ ys. filter p (f x) ++ ys) (filter-flat_map p f xs)

pub map-flat_map : {X Y Z : Type 0} (g : Y → Z) (f : X → List Y) (xs : List X) → map g (flat_map f xs) ≡ flat_map (λ x. map g (f x)) xs
map-flat_map g f [] = refl
map-flat_map g f (x ∷ xs) = map-append g (f x) (flat_map f xs) ∙ ap (λ zs. map g (f x) ++ zs) (map-flat_map g f xs)

pub sum_by-map : {X Y : Type 0} (g : Y → ℕ) (f : X → Y) (xs : List X) → sum_by g (map f xs) ≡ sum_by (λ x. g (f x)) xs
sum_by-map g f [] = refl
sum_by-map g f (x ∷ xs) = sum_by-cons g (f x) (map f xs) ∙ (let rest = sum_by-map g f xs in let one = sum_by-cons (λ x. g (f x)) x xs in omega (arith, rest, one))

nothing : {X Y : Type 0} (xs : List X) → flat_map {A = Y} (λ x. []) xs ≡ []
nothing [] = refl
nothing (x ∷ xs) = nothing xs

-- what is made of each item but for its number
without-numbers : {X Y : Type 0} (f : X → List Y) (i : ℕ) (xs : List X) → flat_map (λ (e : ℕ × X). f e.1) (enumerate_from i xs) ≡ flat_map f xs
without-numbers f i [] = refl
without-numbers f i (x ∷ xs) = ap (λ ys. f x ++ ys) (without-numbers f (i + 1) xs)

unnumbered : {X : Type 0} (f : X → ℕ) (i : ℕ) (xs : List X) → sum_by (λ (e : ℕ × X). f e.1) (enumerate_from i xs) ≡ sum_by f xs
unnumbered f i [] = refl
unnumbered {X = X} f i (x ∷ xs) =
    let whole = sum_by-cons (λ (e : ℕ × X). f e.1) (i, x) (enumerate_from (i + 1) xs) in
    let one = sum_by-cons f x xs in
    omega (arith, whole, one, unnumbered f (i + 1) xs)

-- what is made of the one item with a number, and nothing where there is none
module _ {X Y : Type 0} (f : X → List Y) where
  abbrev made : ℕ → ℕ × X → List Y
  made j e = cond (e.0 == j) (f e.1) []

  none-before : (i j : ℕ) (xs : List X) → j < i → flat_map (made j) (enumerate_from i xs) ≡ []
  none-before i j [] l = refl
  none-before i j (x ∷ xs) l =
      let differ : (i == j) ≡ false = grind (arith, nat_tests, l) in
      ap (λ b. cond b (f x) [] ++ flat_map (made j) (enumerate_from (i + 1) xs)) differ ∙ none-before (i + 1) j xs (omega (arith, l))

  one-of : (d : X) (i j k : ℕ) (xs : List X) → f d ≡ [] → j ≡ i + k → flat_map (made j) (enumerate_from i xs) ≡ f (get_or xs k d)
  one-of d i j k [] none e = sym none
  one-of d i j zero (x ∷ xs) none e =
      let same : (i == j) ≡ true = grind (arith, nat_tests, e) in
      ap (λ b. cond b (f x) [] ++ flat_map (made j) (enumerate_from (i + 1) xs)) same
      ∙ ap (λ ys. f x ++ ys) (none-before (i + 1) j xs (omega (arith, e))) ∙ append-nil (f x)
  one-of d i j (suc k) (x ∷ xs) none e =
      let differ : (i == j) ≡ false = grind (arith, nat_tests, e) in
      ap (λ b. cond b (f x) [] ++ flat_map (made j) (enumerate_from (i + 1) xs)) differ ∙ one-of d (i + 1) j k xs none (omega (arith, e))

-- a sum of which one number alone counts
one-sum : {X : Type 0} (f : X → ℕ) (d : X) (i u k : ℕ) (xs : List X) → f d ≡ 0 → u ≡ i + k
    → sum_by (λ (e : ℕ × X). cond (e.0 == u) (f e.1) 0) (enumerate_from i xs) ≡ f (get_or xs k d)
one-sum f d i u k [] none e = sym none
one-sum {X = X} f d i u zero (x ∷ xs) none e =
    let same : (i == u) ≡ true = grind (arith, nat_tests, e) in
    let here : cond (i == u) (f x) 0 ≡ f x = ap (λ b. cond b (f x) 0) same in
    let first = sum_by-cons (λ (e : ℕ × X). cond (e.0 == u) (f e.1) 0) (i, x) (enumerate_from (i + 1) xs) in
    omega (arith, here, first, past f (i + 1) u xs (omega (arith, e)))
  where
    past : {Y : Type 0} (f : Y → ℕ) (i u : ℕ) (xs : List Y) → u < i → sum_by (λ (e : ℕ × Y). cond (e.0 == u) (f e.1) 0) (enumerate_from i xs) ≡ 0
    past f i u [] l = refl
    past {Y = Y} f i u (x ∷ xs) l =
        let other : (i == u) ≡ false = grind (arith, nat_tests, l) in
        let here : cond (i == u) (f x) 0 ≡ 0 = ap (λ b. cond b (f x) 0) other in
        let first = sum_by-cons (λ (e : ℕ × Y). cond (e.0 == u) (f e.1) 0) (i, x) (enumerate_from (i + 1) xs) in
        omega (arith, here, first, past f (i + 1) u xs (omega (arith, l)))
one-sum {X = X} f d i u (suc k) (x ∷ xs) none e =
    let other : (i == u) ≡ false = grind (arith, nat_tests, e) in
    let here : cond (i == u) (f x) 0 ≡ 0 = ap (λ b. cond b (f x) 0) other in
    let first = sum_by-cons (λ (e : ℕ × X). cond (e.0 == u) (f e.1) 0) (i, x) (enumerate_from (i + 1) xs) in
    omega (arith, here, first, one-sum f d (i + 1) u k xs none (omega (arith, e)))

-- ---- the rows of the moves that pass a test

abbrev row_of : Move → Row
row_of m = m.row

abbrev read : (Move → Bool) → List Move → Rows
read q moves = map row_of (filter q moves)

read-flat_map : {X : Type 0} (q : Move → Bool) (f : X → List Move) (xs : List X) → read q (flat_map f xs) ≡ flat_map (λ x. read q (f x)) xs
read-flat_map q f xs = ap (map row_of) (filter-flat_map q f xs) ∙ map-flat_map row_of (λ x. filter q (f x)) xs

row-moves : (q : Move → Bool) (atom u : ℕ) (row : Row) (ws : List ℕ)
    → read q (map (λ w. record { atom = atom; from = u; to = w; row = row }) ws) ≡ map (λ (_ : ℕ). row) (filter (λ w. q (record { atom = atom; from = u; to = w; row = row })) ws)
row-moves q atom u row [] = refl
row-moves q atom u row (w ∷ ws) = by (q (record { atom = atom; from = u; to = w; row = row })) (row-moves q atom u row ws)
  where
    made : List Move
    made = map (λ w. record { atom = atom; from = u; to = w; row = row }) ws

    passing : List ℕ
    passing = filter (λ w. q (record { atom = atom; from = u; to = w; row = row })) ws

    by : (b : Bool) → read q made ≡ map (λ (_ : ℕ). row) passing
        → map row_of (cond b (record { atom = atom; from = u; to = w; row = row } ∷ filter q made) (filter q made)) ≡ map (λ (_ : ℕ). row) (cond b (w ∷ passing) passing)
    by true e = ap (λ rows. row ∷ rows) e
    by false e = e

nobody : (row : Row) (ws : List ℕ) → map (λ (_ : ℕ). row) (filter (λ c. false) ws) ≡ []
nobody row [] = refl
nobody row (w ∷ ws) = nobody row ws

-- of the rows of a part, by a test that asks for worker w, or for nobody
part-read : (q : Move → Bool) (s : Sending) (atom u w : ℕ) (b : Bool) → ((c : ℕ) (row : Row) → q (record { atom = atom; from = u; to = c; row = row }) ≡ (b && (c == w)))
    → (rows : Rows) → read q (flat_map (moves_of_row atom u s) rows) ≡ cond b (rows_to s.goes_to w rows) []
part-read q s atom u w b h rows = read-flat_map q (moves_of_row atom u s) rows ∙ (λ i. flat_map (λ row. each row i) rows) ∙ all b
  where
    each : (row : Row) → read q (moves_of_row atom u s row) ≡ cond b (times_to w (s.goes_to row) row) []
    each row = row-moves q atom u row (s.goes_to row) ∙ (λ i. map (λ (_ : ℕ). row) (filter (λ c. h c row i) (s.goes_to row))) ∙ by b
      where
        by : (b : Bool) → map (λ (_ : ℕ). row) (filter (λ c. b && (c == w)) (s.goes_to row)) ≡ cond b (times_to w (s.goes_to row) row) []
        by true = refl
        by false = nobody row (s.goes_to row)

    all : (b : Bool) → flat_map (λ row. cond b (times_to w (s.goes_to row) row) []) rows ≡ cond b (rows_to s.goes_to w rows) []
    all true = refl
    all false = nothing rows

-- of the moves of an atom, those of atom j between two workers, and to a worker
atom-between : (s : Sending) (atom j u w : ℕ)
    → read (λ (m : Move). (m.atom == j) && (m.from == u) && (m.to == w)) (moves_of_atom atom s) ≡ cond (atom == j) (rows_to s.goes_to w (get_or s.parts u [])) []
atom-between s atom j u w =
    let q : Move → Bool = λ m. (m.atom == j) && (m.from == u) && (m.to == w) in
    read-flat_map q (λ (e : ℕ × Rows). flat_map (moves_of_row atom e.0 s) e.1) (enumerate_from 0 s.parts)
    ∙ (λ i. flat_map (λ (e : ℕ × Rows). part-read q s atom e.0 w ((atom == j) && (e.0 == u)) (λ c row. grouped (atom == j) (e.0 == u) (c == w)) e.1 i) (enumerate_from 0 s.parts))
    ∙ all (atom == j)
  where
    grouped : (a b c : Bool) → (a && b && c) ≡ ((a && b) && c)
    grouped true b c = refl
    grouped false b c = refl

    all : (b : Bool) → flat_map (λ (e : ℕ × Rows). cond (b && (e.0 == u)) (rows_to s.goes_to w e.1) []) (enumerate_from 0 s.parts) ≡ cond b (rows_to s.goes_to w (get_or s.parts u [])) []
    all true = one-of (rows_to s.goes_to w) [] 0 u u s.parts refl (omega arith)
    all false = nothing (enumerate_from 0 s.parts)

atom-given : (s : Sending) (atom j w : ℕ) → read (λ (m : Move). (m.atom == j) && (m.to == w)) (moves_of_atom atom s) ≡ cond (atom == j) (flat_map (rows_to s.goes_to w) s.parts) []
atom-given s atom j w =
    let q : Move → Bool = λ m. (m.atom == j) && (m.to == w) in
    read-flat_map q (λ (e : ℕ × Rows). flat_map (moves_of_row atom e.0 s) e.1) (enumerate_from 0 s.parts)
    ∙ (λ i. flat_map (λ (e : ℕ × Rows). part-read q s atom e.0 w (atom == j) (λ c row. refl) e.1 i) (enumerate_from 0 s.parts))
    ∙ without-numbers (λ rows. cond (atom == j) (rows_to s.goes_to w rows) []) 0 s.parts ∙ all (atom == j)
  where
    all : (b : Bool) → flat_map (λ rows. cond b (rows_to s.goes_to w rows) []) s.parts ≡ cond b (flat_map (rows_to s.goes_to w) s.parts) []
    all true = refl
    all false = nothing s.parts

-- what is read of all moves is read of one atom's
of-one-atom : (q : Move → Bool) (f : Sending → Rows) (j : ℕ) (sendings : List Sending) → f no_sending ≡ []
    → ((atom : ℕ) (s : Sending) → read q (moves_of_atom atom s) ≡ cond (atom == j) (f s) []) → read q (moves_of sendings) ≡ f (get_or sendings j no_sending)
of-one-atom q f j sendings none each =
    read-flat_map q (λ (e : ℕ × Sending). moves_of_atom e.0 e.1) (enumerate_from 0 sendings)
    ∙ (λ i. flat_map (λ (e : ℕ × Sending). each e.0 e.1 i) (enumerate_from 0 sendings))
    ∙ one-of f no_sending 0 j j sendings none (omega arith)

pub between-read : (sendings : List Sending) (atom u w : ℕ)
    → let s = get_or sendings atom no_sending in rows_between (moves_of sendings) atom u w ≡ rows_to s.goes_to w (get_or s.parts u [])
between-read sendings atom u w =
    of-one-atom (λ (m : Move). (m.atom == atom) && (m.from == u) && (m.to == w)) (λ s. rows_to s.goes_to w (get_or s.parts u [])) atom sendings refl
    (λ j s. atom-between s j atom u w)

pub given-read : (sendings : List Sending) (atom w : ℕ) → let s = get_or sendings atom no_sending in rows_given (moves_of sendings) atom w ≡ flat_map (rows_to s.goes_to w) s.parts
given-read sendings atom w =
    of-one-atom (λ (m : Move). (m.atom == atom) && (m.to == w)) (λ s. flat_map (rows_to s.goes_to w) s.parts) atom sendings refl (λ j s. atom-given s j atom w)

-- ---- counts

-- what a worker sends
abbrev by_sender : ℕ → Move → ℕ
by_sender u m = cond (m.from == u) 1 0

constant : (b : Bool) (ws : List ℕ) → sum_by (λ (w : ℕ). cond b 1 0) ws ≡ cond b (length ws) 0
constant true [] = refl
constant false [] = refl
constant true (w ∷ ws) = let one = sum_by-cons (λ (w : ℕ). 1) w ws in omega (arith, one, constant true ws)
constant false (w ∷ ws) = let one = sum_by-cons (λ (w : ℕ). 0) w ws in omega (arith, one, constant false ws)

sum-cond : (b : Bool) (f : Row → ℕ) (rows : Rows) → sum_by (λ row. cond b (f row) 0) rows ≡ cond b (sum_by f rows) 0
sum-cond true f rows = refl
sum-cond false f [] = refl
sum-cond false f (row ∷ rows) = let one = sum_by-cons (λ (row : Row). 0) row rows in omega (arith, one, sum-cond false f rows)

row-sent : (atom v u : ℕ) (s : Sending) (row : Row) → sum_by (by_sender u) (moves_of_row atom v s row) ≡ cond (v == u) (length (s.goes_to row)) 0
row-sent atom v u s row =
    sum_by-map (by_sender u) (λ w. record { atom = atom; from = v; to = w; row = row }) (s.goes_to row) ∙ constant (v == u) (s.goes_to row)

atom-sent : (atom u : ℕ) (s : Sending) → sum_by (by_sender u) (moves_of_atom atom s) ≡ pairs_of s.goes_to (get_or s.parts u [])
atom-sent atom u s =
    sum_by-flat_map (by_sender u) (λ (e : ℕ × Rows). flat_map (moves_of_row atom e.0 s) e.1) (enumerate_from 0 s.parts)
    ∙ (λ i. sum_by (λ (e : ℕ × Rows). part-sent e.0 e.1 i) (enumerate_from 0 s.parts))
    ∙ one-sum (pairs_of s.goes_to) [] 0 u u s.parts refl (omega arith)
  where
    part-sent : (v : ℕ) (rows : Rows) → sum_by (by_sender u) (flat_map (moves_of_row atom v s) rows) ≡ cond (v == u) (pairs_of s.goes_to rows) 0
    part-sent v rows =
        sum_by-flat_map (by_sender u) (moves_of_row atom v s) rows ∙ (λ i. sum_by (λ row. row-sent atom v u s row i) rows)
        ∙ sum-cond (v == u) (λ row. length (s.goes_to row)) rows

-- what a worker receives
abbrev by_cell : ℕ → Move → ℕ
by_cell w m = cond (m.to == w) 1 0

row-received : (atom v w : ℕ) (s : Sending) (row : Row) → sum_by (by_cell w) (moves_of_row atom v s row) ≡ length (times_to w (s.goes_to row) row)
row-received atom v w s row =
    sum_by-map (by_cell w) (λ c. record { atom = atom; from = v; to = c; row = row }) (s.goes_to row)
    ∙ sym (length-filter (λ c. c == w) (s.goes_to row)) ∙ sym (length-map (filter (λ c. c == w) (s.goes_to row)) (λ (_ : ℕ). row))

atom-received : (atom w : ℕ) (s : Sending) → sum_by (by_cell w) (moves_of_atom atom s) ≡ sum_by (λ rows. length (rows_to s.goes_to w rows)) s.parts
atom-received atom w s =
    sum_by-flat_map (by_cell w) (λ (e : ℕ × Rows). flat_map (moves_of_row atom e.0 s) e.1) (enumerate_from 0 s.parts)
    ∙ (λ i. sum_by (λ (e : ℕ × Rows). part-received e.0 e.1 i) (enumerate_from 0 s.parts))
    ∙ unnumbered (λ rows. length (rows_to s.goes_to w rows)) 0 s.parts
  where
    part-received : (v : ℕ) (rows : Rows) → sum_by (by_cell w) (flat_map (moves_of_row atom v s) rows) ≡ length (rows_to s.goes_to w rows)
    part-received v rows =
        sum_by-flat_map (by_cell w) (moves_of_row atom v s) rows ∙ (λ i. sum_by (λ row. row-received atom v w s row i) rows)
        ∙ sym (length-flat_map (λ row. times_to w (s.goes_to row) row) rows)

-- ---- by a route

module _ (goes : ℕ → Row → List ℕ) (parts : List (List Rows)) where
  abbrev mine : ℕ → Sending
  mine atom = record { parts = get_or parts atom []; goes_to = goes atom }

  abbrev numbered : ℕ × List Rows → Sending
  numbered e = record { parts = e.1; goes_to = goes e.0 }

  long : length (sendings_of goes parts) ≡ length parts
  long = length-map (enumerate_from 0 parts) numbered ∙ length-enumerate_from 0 parts

  sending-at : (atom : ℕ) (d : Sending) → atom < length parts → get_or (sendings_of goes parts) atom d ≡ mine atom
  sending-at atom d below =
      let at : get_or (enumerate_from 0 parts) atom (0, []) ≡ (0 + atom, get_or parts atom []) = get_or-enumerate_from 0 parts atom (0, []) below in
      let zero-first : 0 + atom ≡ atom = omega arith in
      get_or-map numbered (enumerate_from 0 parts) atom (0, []) d (omega (arith, below, length-enumerate_from 0 parts))
      ∙ ap numbered at ∙ ap (λ (n : ℕ). record { parts = get_or parts atom []; goes_to = goes n }) zero-first

  -- the rows of any atom that go from a worker to another
  pub between-routed : (atom u w : ℕ) → rows_between (moves_of (sendings_of goes parts)) atom u w ≡ rows_to (goes atom) w (rows_at parts atom u)
  between-routed atom u w =
      between-read (sendings_of goes parts) atom u w
      ∙ ⊎_elim
      (λ (h : atom < length parts). ap (λ (s : Sending). rows_to s.goes_to w (get_or s.parts u [])) (sending-at atom no_sending h))
      (λ (h : length parts ≤ atom). ap (λ (s : Sending). rows_to s.goes_to w (get_or s.parts u [])) (get_or_past (sendings_of goes parts) atom no_sending (omega (arith, h, long)))
      ∙ sym (ap (λ (p : List Rows). rows_to (goes atom) w (get_or p u [])) (get_or_past parts atom [] h)))
      (cases_lt atom (length parts))

  -- those of an atom that go to a worker
  pub given-routed : (workers atom w : ℕ) → atom < length parts → length (get_or parts atom []) ≡ workers
      → rows_given (moves_of (sendings_of goes parts)) atom w ≡ all_rows_to goes parts workers atom w
  given-routed workers atom w below each =
      given-read (sendings_of goes parts) atom w ∙ ap (λ (s : Sending). flat_map (rows_to s.goes_to w) s.parts) (sending-at atom no_sending below)
      ∙ flat_map-places (rows_to (goes atom) w) (λ u. rows_to (goes atom) w (rows_at parts atom u)) (get_or parts atom []) [] workers each (λ u here. refl)

  -- what holds of the rows of an atom holds of those that a worker is given
  pub given-all : (P : Row → Type 0) (atom w : ℕ) → atom < length parts → All (All P) (get_or parts atom []) → All P (rows_given (moves_of (sendings_of goes parts)) atom w)
  given-all P atom w below all =
      subst (All P) (sym (given-read (sendings_of goes parts) atom w ∙ ap (λ (s : Sending). flat_map (rows_to s.goes_to w) s.parts) (sending-at atom no_sending below)))
      (All-flat_map P (rows_to (goes atom) w) (get_or parts atom [])
      (λ u d here. All-flat_map P (λ row. times_to w (goes atom row) row) (get_or (get_or parts atom []) u d)
      (λ k e low. All-map P (λ (_ : ℕ). get_or (get_or (get_or parts atom []) u d) k e) (filter (λ cell. cell == w) (goes atom (get_or (get_or (get_or parts atom []) u d) k e)))
      (λ j f under. all u d here k e low))))

  -- a sum over the atoms' moves is a sum over the atoms
  over-atoms : (g : Move → ℕ) (f : Sending → ℕ) → ((atom : ℕ) (s : Sending) → sum_by g (moves_of_atom atom s) ≡ f s)
      → sum_by g (moves_of (sendings_of goes parts)) ≡ sum_by (λ atom. f (mine atom)) (range_with_len 0 (length parts))
  over-atoms g f each =
      sum_by-flat_map g (λ (e : ℕ × Sending). moves_of_atom e.0 e.1) (enumerate_from 0 (sendings_of goes parts))
      ∙ (λ i. sum_by (λ (e : ℕ × Sending). each e.0 e.1 i) (enumerate_from 0 (sendings_of goes parts)))
      ∙ unnumbered f 0 (sendings_of goes parts)
      ∙ sum_by-places f (sendings_of goes parts) no_sending
      ∙ ap (λ (n : ℕ). sum_by (λ k. f (get_or (sendings_of goes parts) k no_sending)) (range_with_len 0 n)) long
      ∙ sum_by-range_same (λ k. f (get_or (sendings_of goes parts) k no_sending)) (λ atom. f (mine atom)) (length parts)
      (λ k below. ap f (sending-at k no_sending below))

  pub sent-routed : (u : ℕ) → sent (moves_of (sendings_of goes parts)) u ≡ pairs_from goes parts u
  sent-routed u =
      length-filter (λ (m : Move). m.from == u) (moves_of (sendings_of goes parts))
      ∙ over-atoms (by_sender u) (λ s. pairs_of s.goes_to (get_or s.parts u [])) (λ atom s. atom-sent atom u s)

  pub received-routed : (workers : ℕ) → All (λ spread. length spread ≡ workers) parts → (w : ℕ) → received (moves_of (sendings_of goes parts)) w ≡ pairs_to goes parts workers w
  received-routed workers each w =
      length-filter (λ (m : Move). m.to == w) (moves_of (sendings_of goes parts))
      ∙ over-atoms (by_cell w) (λ s. sum_by (λ rows. length (rows_to s.goes_to w rows)) s.parts) (λ atom s. atom-received atom w s)
      ∙ sum_by-range_same (λ atom. sum_by (λ rows. length (rows_to (goes atom) w rows)) (get_or parts atom []))
      (λ atom. sum_by (λ u. length (rows_to (goes atom) w (rows_at parts atom u))) (range_with_len 0 workers)) (length parts)
      (λ atom below. sum_by-places (λ rows. length (rows_to (goes atom) w rows)) (get_or parts atom []) []
      ∙ ap (λ (n : ℕ). sum_by (λ u. length (rows_to (goes atom) w (rows_at parts atom u))) (range_with_len 0 n)) (each atom [] below))
      ∙ sums-swap (λ atom u. length (rows_to (goes atom) w (rows_at parts atom u))) (range_with_len 0 (length parts)) workers
