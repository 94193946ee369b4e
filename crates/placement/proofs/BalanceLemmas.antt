-- As many rows are sent as received.
use Rattle.std.proofs.Common.{◌≡◌, ℕ, zero, suc, ◌+◌, ◌-◌, ◌*◌, ◌<◌, ◌≤◌, ◌==◌, Bool, true, false, not, cond, List, [], ◌∷◌, ◌++◌, map, length, refl, sym, ◌∙◌, ap, subst, arith}
use Rattle.std.specs.Prelude.{filter, set, All, slice_index_or, ⊤, ◌&&◌, ◌||◌, sum_by, IsTrue}
use Rattle.std.specs.List.{flat_map, range_with_len, list_any}
use Rattle.std.proofs.lemmas.Bool.{eqb-true}
use Rattle.std.proofs.lemmas.Bool.Decides.{nat_tests}
use Rattle.std.proofs.lemmas.List.Sums.{sum_by-cons}
use Rattle.std.proofs.lemmas.List.Elements.{All-nil, All-cons, All-head, All-tail, All-weaker}
use Rattle.std.proofs.Math.Nat.{add-mul}
use Rattle.std.proofs.lemmas.List.{length-map}
use Rattle.std.proofs.lemmas.List.Elements.{All-append}
use Rattle.std.proofs.lemmas.List.FromFn.{length-map-range_with_len}
use Rattle.std.specs.List.{enumerate_from}
use Rattle.myrial_ast.specs.Combinations.{Row, Rows, listed_from}
use Rattle.myrial_ast.specs.Groups.{key_of}
use Rattle.myrial_ast.specs.Partials.{partial_kinds, partial_rows}
use Rattle.share_chooser.specs.Load.{product}
use Rattle.share_chooser.proofs.LoadLemmas.{product-cons}
use Rattle.hash_partition.specs.Cells.{cell_number}
use Rattle.hash_partition.specs.Hashing.{home_of}
use Rattle.algebra.specs.declared.notes.Exchange.TheVariants as exchange
use Rattle.algebra.specs.declared.terms.Source.{Source}
use Rattle.algebra.specs.declared.terms.StoreStep.{StoreStep}
use Rattle.algebra.specs.Trees.{Shape, TermTree, Same, Empty, UnionAll, Diff, Distinct, Join, Group, StepTree}
use Rattle.algebra.specs.Shapes.{kept_of, prefix_of, candidates_of, listed_of}
use Rattle.algebra.specs.Meanings.{needed_steps, is_used}
use Rattle.algebra.specs.ShapeConditions.{all_different}
use Rattle.algebra.proofs.ShapeLemmas.{both}
use Rattle.placement.specs.Destinations.{cells, destinations, agrees, fixed_by, meeting_cell}
use Rattle.placement.specs.Layouts.{PlacedRelation, placed_nothing, Placing, Shuffle, ByCells, ByKeys, Broadcast, parts_by_home, rows_of, prefix_key, item_key, last_atom, staying_atom, join_parts, listed_parts, term_parts, placed_source, placed_steps, joined_items}
use Rattle.placement.specs.Exchanges.{PlacedExchange, kept_parts, prefix_parts, by_cells, by_broadcast, by_keys, cells_exchange, broadcast_exchange, key_exchange, shuffle_exchanges, join_exchanges, to_home, whole_row, row_exchange, partial_sending, group_exchange, term_exchanges}
use Rattle.row_exchange.specs.Moves.{Move, Sending, moves_of_row, moves_of_atom}
use Rattle.placement.specs.Receiving.{GoesOnce}
use Rattle.placement.specs.Laws.{IsPlaced, IsSharing, IsPlacing, AreWorkers, DestinationsAreWorkers, AreAmong, IsBalanced, MovesBalance, ExchangesBalance}
use Rattle.placement.proofs.CellLemmas.{All-flat_map}
use Rattle.placement.proofs.JoinedLemmas.{joined_are_joined}
use Rattle.row_exchange.proofs.MoveLemmas.{map-flat_map}
use Rattle.placement.proofs.ScriptLemmas.{HasSources, home_of-lt, get_or-All, nothing_IsPlaced, All-made, steps-sources, checked-steps, steps-IsPlaced, found-IsPlaced}
use Rattle.bag_laws.proofs.ColumnLemmas.{map-through}

-- ---- sums

module _ {X : Type 0} where
  sum-same : (f g : X → ℕ) → ((x : X) → f x ≡ g x) → (xs : List X) → sum_by f xs ≡ sum_by g xs
  sum-same f g h xs = λ i. sum_by (λ x. h x i) xs

  sum-none : (xs : List X) → sum_by (λ x. 0) xs ≡ 0
  sum-none [] = refl
  sum-none (x ∷ xs) = omega (arith, sum_by-cons (λ (x : X). 0) x xs, sum-none xs)

  sum-plus : (f g : X → ℕ) (xs : List X) → sum_by (λ x. f x + g x) xs ≡ sum_by f xs + sum_by g xs
  sum-plus f g [] = refl
  sum-plus f g (x ∷ xs) =
      let whole = sum_by-cons (λ x. f x + g x) x xs in
      let one = sum_by-cons f x xs in
      let two = sum_by-cons g x xs in
      let rest = sum-plus f g xs in
      omega (arith, whole, one, two, rest)

-- ---- each is counted at one worker

abbrev is_it : ℕ → ℕ → ℕ
is_it c w = cond (c == w) 1 0

never-it : (c a n : ℕ) → c < a → sum_by (is_it c) (range_with_len a n) ≡ 0
never-it c a zero l = refl
never-it c a (suc n) l =
    let here : is_it c a ≡ 0 = ap (λ b. cond b 1 0) (differ c a l) in
    sum_by-cons (is_it c) a (range_with_len (a + 1) n) ∙ (let rest = never-it c (a + 1) n (omega (arith, l)) in omega (arith, here, rest))
  where
    differ : (c a : ℕ) → c < a → (c == a) ≡ false
    differ c a l = grind (arith, nat_tests, l)

once-it : (c a n : ℕ) → a ≤ c → c < a + n → sum_by (is_it c) (range_with_len a n) ≡ 1
once-it c a zero l m = absurd (omega (arith, l, m))
once-it c a (suc n) l m =
    sum_by-cons (is_it c) a (range_with_len (a + 1) n) ∙ by (c == a) refl (λ k. once-it c (a + 1) n k (omega (arith, m)))
  where
    by : (b : Bool) → (c == a) ≡ b → (a + 1 ≤ c → sum_by (is_it c) (range_with_len (a + 1) n) ≡ 1) → cond b 1 0 + sum_by (is_it c) (range_with_len (a + 1) n) ≡ 1
    by true e rest = let none = never-it c (a + 1) n (omega (arith, eqb-true c a e)) in omega (arith, none)
    by false e rest = let one = rest (grind (arith, nat_tests, e, l)) in omega (arith, one)

-- items that each have a home below n are as many as those at all homes
counted : {X : Type 0} (home : X → ℕ) (n : ℕ) (xs : List X) → All (λ x. home x < n) xs → sum_by (λ w. length (filter (λ x. home x == w) xs)) (range_with_len 0 n) ≡ length xs
counted home n [] all = sum-none (range_with_len 0 n)
counted {X} home n (x ∷ xs) all =
    sum-same (λ w. length (filter (λ x. home x == w) (x ∷ xs))) (λ w. is_it (home x) w + length (filter (λ x. home x == w) xs)) (λ w. by (home x == w) (filter (λ x. home x == w) xs)) (range_with_len 0 n)
    ∙ sum-plus (is_it (home x)) (λ w. length (filter (λ x. home x == w) xs)) (range_with_len 0 n)
    ∙ (let here = once-it (home x) 0 n (omega arith) (omega (arith, All-head (λ x. home x < n) x xs all)) in
    let rest = counted home n xs (All-tail (λ x. home x < n) x xs all) in omega (arith, here, rest))
  where
    by : (b : Bool) (rest : List X) → length (cond b (x ∷ rest) rest) ≡ cond b 1 0 + length rest
    by true rest = omega arith
    by false rest = omega arith

pub moves_balance : MovesBalance
moves_balance n moves among =
    counted (λ (m : Move). m.from) n moves (All-weaker (λ (m : Move). (m.from < n) × (m.to < n)) (λ (m : Move). m.from < n) (λ m l. l.0) moves among)
    ∙ sym (counted (λ (m : Move). m.to) n moves (All-weaker (λ (m : Move). (m.from < n) × (m.to < n)) (λ (m : Move). m.to < n) (λ m l. l.1) moves among))

-- ---- moves among workers

-- rows at each worker, each of which goes to some of the workers
pub record IsSending (n : ℕ) (s : Sending) : Type 0 where
  pub each_worker : length s.parts ≡ n
  pub workers : (row : Row) → AreWorkers n (s.goes_to row)

pub goes-once : (n : ℕ) (sendings : List Sending) → All (IsSending n) sendings → All GoesOnce sendings
goes-once n sendings all = All-weaker (IsSending n) GoesOnce (λ s good row. (good.workers row).1) sendings all

to-workers : (n atom u : ℕ) (row : Row) → u < n → (ws : List ℕ) → All (λ w. w < n) ws → AreAmong n (map (λ w. record { atom = atom; from = u; to = w; row = row }) ws)
to-workers n atom u row l [] all = All-nil (λ (m : Move). (m.from < n) × (m.to < n))
to-workers n atom u row l (w ∷ ws) all =
    All-cons (λ (m : Move). (m.from < n) × (m.to < n)) (record { atom = atom; from = u; to = w; row = row }) (map (λ w. record { atom = atom; from = u; to = w; row = row }) ws)
    (l, All-head (λ w. w < n) w ws all) (to-workers n atom u row l ws (All-tail (λ w. w < n) w ws all))

-- the parts of workers are numbered below their number
parts-below : (n i : ℕ) (parts : List Rows) → i + length parts ≤ n → All (λ (e : ℕ × Rows). e.0 < n) (enumerate_from i parts)
parts-below n i [] l = All-nil (λ (e : ℕ × Rows). e.0 < n)
parts-below n i (rows ∷ parts) l = All-cons (λ (e : ℕ × Rows). e.0 < n) (i, rows) (enumerate_from (i + 1) parts) (omega (arith, l)) (parts-below n (i + 1) parts (omega (arith, l)))

anything : {X : Type 0} (xs : List X) → All (λ x. ⊤) xs
anything [] = All-nil (λ x. ⊤)
anything (x ∷ xs) = All-cons (λ x. ⊤) x xs tt (anything xs)

atom-among : (n atom : ℕ) (s : Sending) → IsSending n s → AreAmong n (moves_of_atom atom s)
atom-among n atom s good =
    All-flat_map (λ (m : Move). (m.from < n) × (m.to < n)) (λ (e : ℕ × Rows). flat_map (moves_of_row atom e.0 s) e.1) (λ (e : ℕ × Rows). e.0 < n)
    (λ e l. All-flat_map (λ (m : Move). (m.from < n) × (m.to < n)) (moves_of_row atom e.0 s) (λ row. ⊤) (λ row any. to-workers n atom e.0 row l (s.goes_to row) (good.workers row).0) e.1 (anything e.1))
    (enumerate_from 0 s.parts) (parts-below n 0 s.parts (omega (arith, good.each_worker)))

moves-among : (n i : ℕ) (sendings : List Sending) → All (IsSending n) sendings → AreAmong n (flat_map (λ (e : ℕ × Sending). moves_of_atom e.0 e.1) (enumerate_from i sendings))
moves-among n i [] all = All-nil (λ (m : Move). (m.from < n) × (m.to < n))
moves-among n i (s ∷ sendings) all =
    All-append (λ (m : Move). (m.from < n) × (m.to < n)) (moves_of_atom i s) (flat_map (λ (e : ℕ × Sending). moves_of_atom e.0 e.1) (enumerate_from (i + 1) sendings))
    (atom-among n i s (All-head (IsSending n) s sendings all)) (moves-among n (i + 1) sendings (All-tail (IsSending n) s sendings all))

-- ---- cells are numbered in order

range-append : (a m n : ℕ) → range_with_len a (m + n) ≡ range_with_len a m ++ range_with_len (a + m) n
range-append a zero n = λ i. range_with_len (same a i) (none n i)
  where
    same : (a : ℕ) → a ≡ a + 0
    same a = omega arith

    none : (n : ℕ) → 0 + n ≡ n
    none n = omega arith
range-append a (suc m) n =
    ap (range_with_len a) (more m n) ∙ ap (λ ws. a ∷ ws) (range-append (a + 1) m n) ∙ ap (λ k. a ∷ range_with_len (a + 1) m ++ range_with_len k n) (next a m)
  where
    more : (m n : ℕ) → suc m + n ≡ suc (m + n)
    more m n = omega arith

    next : (a m : ℕ) → a + 1 + m ≡ a + suc m
    next a m = omega arith

range-shift : (x a n : ℕ) → map (λ k. x + k) (range_with_len a n) ≡ range_with_len (x + a) n
range-shift x a zero = refl
range-shift x a (suc n) = ap (λ ws. (x + a) ∷ ws) (range-shift x (a + 1) n ∙ ap (λ k. range_with_len k n) (next x a))
  where
    next : (x a : ℕ) → x + (a + 1) ≡ x + a + 1
    next x a = omega arith

rows-numbered : (p a n : ℕ) → flat_map (λ c. map (λ k. c * p + k) (range_with_len 0 p)) (range_with_len a n) ≡ range_with_len (a * p) (n * p)
rows-numbered p a zero = ap (range_with_len (a * p)) (none p)
  where
    none : (p : ℕ) → 0 ≡ 0 * p
    none p = omega arith
rows-numbered p a (suc n) =
    (λ i. (range-shift (a * p) 0 p ∙ ap (λ k. range_with_len k p) (same (a * p))) i ++ (rows-numbered p (a + 1) n ∙ ap (λ k. range_with_len k (n * p)) (add-mul a 1 p ∙ one-more-row (a * p) p)) i)
    ∙ sym (range-append (a * p) p (n * p)) ∙ ap (range_with_len (a * p)) (sym (ap (λ k. k * p) (next n) ∙ add-mul 1 n p ∙ one-row p (n * p)))
  where
    same : (x : ℕ) → x + 0 ≡ x
    same x = omega arith

    one-more-row : (x p : ℕ) → x + 1 * p ≡ x + p
    one-more-row x p = omega arith

    next : (n : ℕ) → suc n ≡ 1 + n
    next n = omega arith

    one-row : (p x : ℕ) → 1 * p + x ≡ p + x
    one-row p x = omega arith

cells-numbered : (shares : List ℕ) → map (cell_number shares) (cells shares) ≡ range_with_len 0 (product shares)
cells-numbered [] = refl
cells-numbered (share ∷ shares) =
    let others = cells shares in
    map-flat_map (cell_number (share ∷ shares)) (λ c. map (λ rest. c ∷ rest) others) (range_with_len 0 share)
    ∙ (λ i. flat_map (λ c. row c (cells-numbered shares) i) (range_with_len 0 share))
    ∙ rows-numbered (product shares) 0 share
    ∙ ap (λ k. range_with_len k (share * product shares)) (none (product shares)) ∙ ap (range_with_len 0) (sym (product-cons share shares))
  where
    row : (c : ℕ) → map (cell_number shares) (cells shares) ≡ range_with_len 0 (product shares)
        → map (cell_number (share ∷ shares)) (map (λ rest. c ∷ rest) (cells shares)) ≡ map (λ k. c * product shares + k) (range_with_len 0 (product shares))
    row c rest =
        map-through (cell_number (share ∷ shares)) (λ rest. c ∷ rest) (cells shares)
        ∙ sym (map-through (λ k. c * product shares + k) (cell_number shares) (cells shares)) ∙ ap (map (λ k. c * product shares + k)) rest

    none : (p : ℕ) → 0 * p ≡ 0
    none p = omega arith

-- ---- which workers rows go to

range-misses : (c a n : ℕ) → c < a → list_any (λ d. c == d) (range_with_len a n) ≡ false
range-misses c a zero l = refl
range-misses c a (suc n) l = ap (λ b. b || list_any (λ d. c == d) (range_with_len (a + 1) n)) (differ c a l) ∙ range-misses c (a + 1) n (omega (arith, l))
  where
    differ : (c a : ℕ) → c < a → (c == a) ≡ false
    differ c a l = grind (arith, nat_tests, l)

range-different : (a n : ℕ) → all_different (range_with_len a n) ≡ true
range-different a zero = refl
range-different a (suc n) = ap (λ b. not b && all_different (range_with_len (a + 1) n)) (range-misses a (a + 1) n (omega arith)) ∙ range-different (a + 1) n

range-below : (m a n : ℕ) → a + n ≤ m → All (λ w. w < m) (range_with_len a n)
range-below m a zero l = All-nil (λ w. w < m)
range-below m a (suc n) l = All-cons (λ w. w < m) a (range_with_len (a + 1) n) (omega (arith, l)) (range-below m (a + 1) n (omega (arith, l)))

module _ {X : Type 0} (f : X → ℕ) (q : X → Bool) where
  some-below : (m : ℕ) (xs : List X) → All (λ w. w < m) (map f xs) → All (λ w. w < m) (map f (filter q xs))
  some-below m [] all = All-nil (λ w. w < m)
  some-below m (x ∷ xs) all = by (q x) (some-below m xs (All-tail (λ w. w < m) (f x) (map f xs) all))
    where
      by : (b : Bool) → All (λ w. w < m) (map f (filter q xs)) → All (λ w. w < m) (map f (cond b (x ∷ filter q xs) (filter q xs)))
      by true rest = All-cons (λ w. w < m) (f x) (map f (filter q xs)) (All-head (λ w. w < m) (f x) (map f xs) all) rest
      by false rest = rest

  some-miss : (p : ℕ → Bool) (xs : List X) → list_any p (map f xs) ≡ false → list_any p (map f (filter q xs)) ≡ false
  some-miss p [] h = refl
  some-miss p (x ∷ xs) h = by (q x) (p (f x)) refl h (λ k. some-miss p xs k)
    where
      by : (b c : Bool) → p (f x) ≡ c → (c || list_any p (map f xs)) ≡ false → (list_any p (map f xs) ≡ false → list_any p (map f (filter q xs)) ≡ false)
          → list_any p (map f (cond b (x ∷ filter q xs) (filter q xs))) ≡ false
      by b true e k rest = absurd (cc)
      by true false e k rest = ap (λ c. c || list_any p (map f (filter q xs))) e ∙ rest k
      by false false e k rest = rest k

  some-different : (xs : List X) → all_different (map f xs) ≡ true → all_different (map f (filter q xs)) ≡ true
  some-different [] h = refl
  some-different (x ∷ xs) h =
      by (q x) (both (not (list_any (λ d. f x == d) (map f xs))) (all_different (map f xs)) h).0
      (some-different xs (both (not (list_any (λ d. f x == d) (map f xs))) (all_different (map f xs)) h).1)
    where
      untrue : (b : Bool) → not b ≡ true → b ≡ false
      untrue true h = absurd (cc)
      untrue false h = refl

      by : (b : Bool) → not (list_any (λ d. f x == d) (map f xs)) ≡ true → all_different (map f (filter q xs)) ≡ true
          → all_different (map f (cond b (x ∷ filter q xs) (filter q xs))) ≡ true
      by true k rest =
          ap (λ c. not c && all_different (map f (filter q xs))) (some-miss (λ d. f x == d) xs (untrue (list_any (λ d. f x == d) (map f xs)) k)) ∙ rest
      by false k rest = rest

is_truth : (b : Bool) → b ≡ true → IsTrue b
is_truth b h = h

pub destinations-workers : (n seed : ℕ) (shares : List ℕ) (shape : Shape) (j : ℕ) (row : Row) → product shares ≤ n → AreWorkers n (destinations seed shares shape j row)
destinations-workers n seed shares shape j row l =
    let q = agrees (fixed_by seed shares shape j row) in
    let all = subst (λ ws. All (λ w. w < n) ws × (all_different ws ≡ true)) (sym (cells-numbered shares))
    (range-below n 0 (product shares) (omega (arith, l)), range-different 0 (product shares)) in (
      some-below (cell_number shares) q n (cells shares) all.0,
      is_truth (all_different (map (cell_number shares) (filter q (cells shares)))) (some-different (cell_number shares) q (cells shares) all.1),
    )

one-worker : (n w : ℕ) → w < n → AreWorkers n (w ∷ [])
one-worker n w l = (All-cons (λ w. w < n) w [] l (All-nil (λ w. w < n)), refl)

pub all-workers : (n : ℕ) → AreWorkers n (range_with_len 0 n)
all-workers n = (range-below n 0 n (omega arith), is_truth (all_different (range_with_len 0 n)) (range-different 0 n))

-- ---- the exchanges of a join

kept-long : (n : ℕ) (shape : Shape) (j : ℕ) (p : PlacedRelation) → IsPlaced n p → length (kept_parts shape j p) ≡ n
kept-long n shape j p placed = length-map p.parts (kept_of shape j) ∙ placed.each_worker

cells-sending : (n seed : ℕ) (shares : List ℕ) (shape : Shape) → product shares ≤ n → (i : ℕ) (given : List PlacedRelation) → All (IsPlaced n) given
    → All (IsSending n) (map (λ (e : ℕ × PlacedRelation). record { parts = kept_parts shape e.0 e.1; goes_to = destinations seed shares shape e.0 }) (enumerate_from i given))
cells-sending n seed shares shape l i [] all = All-nil (IsSending n)
cells-sending n seed shares shape l i (p ∷ given) all =
    All-cons (IsSending n) (record { parts = kept_parts shape i p; goes_to = destinations seed shares shape i })
    (map (λ (e : ℕ × PlacedRelation). record { parts = kept_parts shape e.0 e.1; goes_to = destinations seed shares shape e.0 }) (enumerate_from (i + 1) given))
    (record { each_worker = kept-long n shape i p (All-head (IsPlaced n) p given all); workers = λ row. destinations-workers n seed shares shape i row l })
    (cells-sending n seed shares shape l (i + 1) given (All-tail (IsPlaced n) p given all))

broadcast-sending : (n : ℕ) (shape : Shape) (j i : ℕ) (given : List PlacedRelation) → All (IsPlaced n) given
    → All (IsSending n) (map (λ (e : ℕ × PlacedRelation). record { parts = kept_parts shape e.0 e.1; goes_to = λ row. cond (e.0 == j) [] (range_with_len 0 n) }) (enumerate_from i given))
broadcast-sending n shape j i [] all = All-nil (IsSending n)
broadcast-sending n shape j i (p ∷ given) all =
    All-cons (IsSending n) (record { parts = kept_parts shape i p; goes_to = λ row. cond (i == j) [] (range_with_len 0 n) })
    (map (λ (e : ℕ × PlacedRelation). record { parts = kept_parts shape e.0 e.1; goes_to = λ row. cond (e.0 == j) [] (range_with_len 0 n) }) (enumerate_from (i + 1) given))
    (record { each_worker = kept-long n shape i p (All-head (IsPlaced n) p given all); workers = λ row. by (i == j) })
    (broadcast-sending n shape j (i + 1) given (All-tail (IsPlaced n) p given all))
  where
    by : (b : Bool) → AreWorkers n (cond b [] (range_with_len 0 n))
    by true = (All-nil (λ w. w < n), refl)
    by false = all-workers n

prefix-long : (n seed : ℕ) (shape : Shape) (given : List PlacedRelation) → All (IsPlaced n) given → (i : ℕ) → length (prefix_parts n seed shape given i) ≡ n
prefix-long n seed shape given all i = by (i == 1)
  where
    dealt_ones : List Rows
    dealt_ones = parts_by_home n (λ row. home_of seed (prefix_key shape (i - 1) row) n) (prefix_of shape i (rows_of given))

    by : (b : Bool) → length (cond b (kept_parts shape 0 (slice_index_or given 0 (placed_nothing n))) dealt_ones) ≡ n
    by true = kept-long n shape 0 (slice_index_or given 0 (placed_nothing n)) (get_or-All (IsPlaced n) given 0 (placed_nothing n) (nothing_IsPlaced n) all)
    by false = length-map-range_with_len (λ w. filter (λ row. home_of seed (prefix_key shape (i - 1) row) n == w) (prefix_of shape i (rows_of given))) 0 n

keys-sending : (n seed : ℕ) (shape : Shape) (given : List PlacedRelation) → 1 ≤ n → All (IsPlaced n) given → (i : ℕ) → All (IsSending n) (by_keys n seed shape given i)
keys-sending n seed shape given some all i =
    let front : Sending = record { parts = prefix_parts n seed shape given i; goes_to = λ row. home_of seed (prefix_key shape i row) n ∷ [] } in
    let back : Sending = record { parts = kept_parts shape i (slice_index_or given i (placed_nothing n)); goes_to = λ row. home_of seed (item_key shape i row) n ∷ [] } in
    All-cons (IsSending n) front (back ∷ [])
    (record { each_worker = prefix-long n seed shape given all i; workers = λ row. one-worker n (home_of seed (prefix_key shape i row) n) (home_of-lt seed (prefix_key shape i row) n some) })
    (All-cons (IsSending n) back []
    (record {
      each_worker = kept-long n shape i (slice_index_or given i (placed_nothing n)) (get_or-All (IsPlaced n) given i (placed_nothing n) (nothing_IsPlaced n) all);
      workers = λ row. one-worker n (home_of seed (item_key shape i row) n) (home_of-lt seed (item_key shape i row) n some);
    }) (All-nil (IsSending n)))

pub destinations_are_workers : DestinationsAreWorkers
destinations_are_workers seed shares shape j row = destinations-workers (product shares) seed shares shape j row (omega arith)

-- an exchange whose moves are so
abbrev Sends : ℕ → PlacedExchange → Type 0
Sends n e = AreAmong n e.moves

met-sends : (n seed : ℕ) (how : Shuffle) (shape : Shape) (given : List PlacedRelation) (parts : List Rows) → 1 ≤ n → IsSharing n shape how → All (IsPlaced n) given
    → All (Sends n) (shuffle_exchanges n seed how shape given parts)
met-sends n seed (ByCells shares) shape given parts some sharing all =
    All-cons (Sends n) (cells_exchange seed shares shape given parts) [] (moves-among n 0 (by_cells seed shares shape given) (cells-sending n seed shares shape sharing.cells 0 given all)) (All-nil (Sends n))
met-sends n seed Broadcast shape given parts some sharing all =
    All-cons (Sends n) (broadcast_exchange n shape given parts) [] (moves-among n 0 (by_broadcast n shape given) (broadcast-sending n shape (staying_atom shape (rows_of given)) 0 given all)) (All-nil (Sends n))
met-sends n seed ByKeys shape given parts some sharing all =
    All-made (Sends n) (key_exchange n seed shape given parts) (λ i. moves-among n 0 (by_keys n seed shape given i) (keys-sending n seed shape given some all i)) (range_with_len 1 (length given - 1))

join-sends : (p : Placing) (number : ℕ) (shape : Shape) (given : List PlacedRelation) → IsPlacing p → All (IsPlaced p.workers) given → All (Sends p.workers) (join_exchanges p number shape given)
join-sends p number shape [] good all =
    let items = joined_items p.reduce shape [] in
    met-sends p.workers p.seed (p.shuffle number shape (rows_of items)) shape items (listed_parts p number shape []) good.some_worker (good.sharing number shape (rows_of items)) ((joined_are_joined p.workers p.reduce shape []).placed all)
join-sends p number shape (one ∷ []) good all = All-nil (Sends p.workers)
join-sends p number shape (one ∷ two ∷ more) good all =
    let given = one ∷ two ∷ more in
    let items = joined_items p.reduce shape given in
    met-sends p.workers p.seed (p.shuffle number shape (rows_of items)) shape items (listed_parts p number shape given) good.some_worker (good.sharing number shape (rows_of items)) ((joined_are_joined p.workers p.reduce shape given).placed all)

-- ---- the exchanges of a script

home-sending : (p : Placing) (key : Row → Row) (parts : List Rows) → 1 ≤ p.workers → length parts ≡ p.workers → IsSending p.workers (to_home p key parts)
home-sending p key parts some long =
    record { each_worker = long; workers = λ row. one-worker p.workers (home_of p.seed (key row) p.workers) (home_of-lt p.seed (key row) p.workers some) }

one-sending : (n : ℕ) (s : Sending) → IsSending n s → All (IsSending n) (s ∷ [])
one-sending n s good = All-cons (IsSending n) s [] good (All-nil (IsSending n))

-- a list of listed rows for each worker
met-long : (n seed : ℕ) (how : Shuffle) (shape : Shape) (given : List PlacedRelation) → All (IsPlaced n) given → length (join_parts n seed how shape given) ≡ n
met-long n seed (ByCells shares) shape given all =
    length-map (parts_by_home n (meeting_cell seed shares shape) (candidates_of shape (rows_of given))) (listed_from shape.arith shape.emits)
    ∙ length-map-range_with_len (λ w. filter (λ row. meeting_cell seed shares shape row == w) (candidates_of shape (rows_of given))) 0 n
met-long n seed ByKeys shape given all =
    length-map (parts_by_home n (λ row. home_of seed (prefix_key shape (last_atom shape) row) n) (candidates_of shape (rows_of given))) (listed_from shape.arith shape.emits)
    ∙ length-map-range_with_len (λ w. filter (λ row. home_of seed (prefix_key shape (last_atom shape) row) n == w) (candidates_of shape (rows_of given))) 0 n
met-long n seed Broadcast shape given all =
    let j = staying_atom shape (rows_of given) in
    length-map (slice_index_or given j (placed_nothing n)).parts (λ own. listed_of shape (set (rows_of given) j own))
    ∙ (get_or-All (IsPlaced n) given j (placed_nothing n) (nothing_IsPlaced n) all).each_worker

listed-parts-long : (p : Placing) (number : ℕ) (shape : Shape) (given : List PlacedRelation) → IsPlacing p → All (IsPlaced p.workers) given → length (listed_parts p number shape given) ≡ p.workers
listed-parts-long p number shape [] good all =
    let items = joined_items p.reduce shape [] in
    met-long p.workers p.seed (p.shuffle number shape (rows_of items)) shape items ((joined_are_joined p.workers p.reduce shape []).placed all)
listed-parts-long p number shape (one ∷ []) good all =
    length-map one.parts (λ own. listed_of shape (own ∷ [])) ∙ (All-head (IsPlaced p.workers) one [] all).each_worker
listed-parts-long p number shape (one ∷ two ∷ more) good all =
    let items = joined_items p.reduce shape (one ∷ two ∷ more) in
    met-long p.workers p.seed (p.shuffle number shape (rows_of items)) shape items ((joined_are_joined p.workers p.reduce shape (one ∷ two ∷ more)).placed all)

term-sends : (p : Placing) (number : ℕ) (value : Source → PlacedRelation) (t : TermTree) → IsPlacing p → HasSources t → ((o : Source) → IsPlaced p.workers (value o))
    → All (Sends p.workers) (term_exchanges p number value t)
term-sends p number value (Same s) good sources placed = All-nil (Sends p.workers)
term-sends p number value Empty good sources placed = All-nil (Sends p.workers)
term-sends p number value (UnionAll s t) good sources placed = All-nil (Sends p.workers)
term-sends p number value (Diff s t) good sources placed =
    let left = to_home p whole_row (value s).parts in
    let right = to_home p whole_row (value t).parts in
    All-cons (Sends p.workers) (row_exchange p exchange.Diff (value s ∷ value t ∷ []) (term_parts p number value (Diff s t))) []
    (moves-among p.workers 0 (left ∷ right ∷ [])
    (All-cons (IsSending p.workers) left (right ∷ []) (home-sending p whole_row (value s).parts good.some_worker (placed s).each_worker)
    (one-sending p.workers right (home-sending p whole_row (value t).parts good.some_worker (placed t).each_worker))))
    (All-nil (Sends p.workers))
term-sends p number value (Distinct s) good sources placed =
    let own = to_home p whole_row (value s).parts in
    All-cons (Sends p.workers) (row_exchange p exchange.Distinct (value s ∷ []) (term_parts p number value (Distinct s))) []
    (moves-among p.workers 0 (own ∷ []) (one-sending p.workers own (home-sending p whole_row (value s).parts good.some_worker (placed s).each_worker)))
    (All-nil (Sends p.workers))
term-sends p number value (Join shape given) good sources placed = join-sends p number shape (map value given) good (All-made (IsPlaced p.workers) value placed given)
term-sends p number value (Group shape given kinds) good sources placed =
    let items = All-made (IsPlaced p.workers) value placed given in
    let listed = listed_parts p number shape (map value given) in
    let long = listed-parts-long p number shape (map value given) good items in
    let own = partial_sending p kinds listed in
    let group = group_exchange p kinds listed (term_parts p number value (Group shape given kinds)) in
    All-append (Sends p.workers) (join_exchanges p number shape (map value given)) (group ∷ []) (join-sends p number shape (map value given) good items)
    (All-cons (Sends p.workers) group []
    (moves-among p.workers 0 (own ∷ [])
    (one-sending p.workers own (home-sending p (key_of (partial_kinds kinds)) (map (partial_rows kinds) listed) good.some_worker (length-map listed (partial_rows kinds) ∙ long))))
    (All-nil (Sends p.workers)))

needed-all : (Q : StepTree → Type 0) (stores : List StoreStep) (steps : List StepTree) → All Q steps → All Q (needed_steps stores steps)
needed-all Q stores [] all = All-nil Q
needed-all Q stores (s ∷ steps) all = by (is_used s.statement stores (needed_steps stores steps)) (needed-all Q stores steps (All-tail Q s steps all))
  where
    by : (b : Bool) → All Q (needed_steps stores steps) → All Q (cond b (s ∷ needed_steps stores steps) (needed_steps stores steps))
    by true rest = All-cons Q s (needed_steps stores steps) (All-head Q s steps all) rest
    by false rest = rest

-- its rows go to workers, and as many are sent as received
abbrev Balances : ℕ → PlacedExchange → Type 0
Balances n e = Sends n e × IsBalanced n e.moves

numbered : (n number : ℕ) (es : List PlacedExchange) → All (Sends n) es → All (λ (e : ℕ × PlacedExchange). Balances n e.1) (map (λ e. (number, e)) es)
numbered n number [] all = All-nil (λ (e : ℕ × PlacedExchange). Balances n e.1)
numbered n number (e ∷ es) all =
    let own = All-head (Sends n) e es all in
    All-cons (λ (e : ℕ × PlacedExchange). Balances n e.1) (number, e) (map (λ e. (number, e)) es) (own, moves_balance n e.moves own) (numbered n number es (All-tail (Sends n) e es all))

pub exchanges_balance : ExchangesBalance
exchanges_balance p files c good of_files typed =
    let results = placed_steps p files c.steps in
    let all = steps-IsPlaced p files c good of_files typed in
    All-flat_map (λ (e : ℕ × PlacedExchange). Balances p.workers e.1)
    (λ (s : StepTree). map (λ e. (s.statement, e)) (term_exchanges p s.statement (placed_source p files results) s.term)) (λ (s : StepTree). HasSources s.term)
    (λ s some. numbered p.workers s.statement (term_exchanges p s.statement (placed_source p files results) s.term)
    (term-sends p s.statement (placed_source p files results) s.term good some (found-IsPlaced p files results good all)))
    (needed_steps c.stores c.steps) (needed-all (λ (s : StepTree). HasSources s.term) c.stores c.steps (steps-sources files c.steps 0 [] (checked-steps files c of_files)))
