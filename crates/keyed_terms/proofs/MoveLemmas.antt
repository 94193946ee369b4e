-- The moves of rows that go to their homes, and what is read off them.
use Rattle.std.proofs.Common.{◌≡◌, ℕ, ◌+◌, ◌==◌, Bool, true, false, cond, List, [], ◌∷◌, ◌++◌, map, length, get_or, refl, sym, ap, ◌∙◌, subst, arith, append-nil}
use Rattle.std.specs.Prelude.{All, IsPermutation, filter, sum_by, ◌&&◌}
use Rattle.std.specs.List.{flat_map, enumerate_from}
use Rattle.std.proofs.lemmas.List.{map-append}
use Rattle.std.proofs.lemmas.List.Concat.{flat_map_single}
use Rattle.std.proofs.lemmas.List.Elements.{All-nil, All-head, All-tail, All-append, All-map, filter-append}
use Rattle.std.proofs.lemmas.List.Sorted.{IsPermutation-refl, IsPermutation-sym, IsPermutation-trans, IsPermutation-append, IsPermutation-map, sum_by-IsPermutation}
use Rattle.std.proofs.lemmas.List.Sums.{sum_by-append, length-filter}
use Rattle.rel_base.specs.Bags.{SameBag}
use Rattle.rel_base.specs.Limits.{most_items}
use Rattle.rel_base.specs.Values.{row_order}
use Rattle.rel_base.specs.ValueLaws.{row_order_total, row_order-IsAntisymmetric}
use Rattle.exchange_channels.specs.Wirings.{ReceiptState}
use Rattle.myrial_ast.specs.Combinations.{Row, Rows}
use Rattle.bag_laws.specs.Permuted.{SameTables, no_table, a_table}
use Rattle.bag_laws.proofs.RowPermutations.{flat_map-same}
use Rattle.bag_laws.proofs.PartialLemmas.{map-agree}
use Rattle.row_exchange.specs.Moves.{Move, Sending, moves_of_atom, moves_of, sent, received, rows_between}
use Rattle.row_exchange.proofs.MoveLemmas.{sum_by-map}
use Rattle.row_exchange.specs.declared.routes.Size.{Size}
use Rattle.row_exchange.specs.Exchanges.{Shows}
use Rattle.row_exchange.proofs.ReceiptLemmas.{shown-as}
use Rattle.routed_joins.specs.TermRuns.{moves_alone}

-- each row goes to its home
abbrev pub home_sending : (Row → ℕ) → List Rows → Sending
home_sending home parts = record { parts = parts; goes_to = λ row. home row ∷ [] }

-- the move of a row
abbrev pub move_of : ℕ → ℕ → (Row → ℕ) → Row → Move
move_of atom u home row = record { atom = atom; from = u; to = home row; row = row }

-- the moves of an atom's rows, which lie at the workers from number i on
abbrev pub home_moves : ℕ → ℕ → (Row → ℕ) → List Rows → List Move
home_moves i atom home parts = flat_map (λ (e : ℕ × Rows). map (move_of atom e.0 home) e.1) (enumerate_from i parts)

pub atom-moves : (atom : ℕ) (home : Row → ℕ) (parts : List Rows) → moves_of_atom atom (home_sending home parts) ≡ home_moves 0 atom home parts
atom-moves atom home parts = λ k. flat_map (λ (e : ℕ × Rows). flat_map_single (move_of atom e.0 home) e.1 k) (enumerate_from 0 parts)

pub moves-one : (home : Row → ℕ) (parts : List Rows) → moves_of (home_sending home parts ∷ []) ≡ home_moves 0 0 home parts
moves-one home parts = append-nil (moves_of_atom 0 (home_sending home parts)) ∙ atom-moves 0 home parts

pub moves-two : (home : Row → ℕ) (parts others : List Rows)
    → moves_of (home_sending home parts ∷ home_sending home others ∷ []) ≡ home_moves 0 0 home parts ++ home_moves 0 1 home others
moves-two home parts others =
    (λ i. moves_of_atom 0 (home_sending home parts) ++ append-nil (moves_of_atom 1 (home_sending home others)) i)
    ∙ (λ i. atom-moves 0 home parts i ++ atom-moves 1 home others i)

-- what holds of the move of each row
pub each-move : (P : Move → Type 0) (atom : ℕ) (home : Row → ℕ) → ((u : ℕ) (row : Row) → P (move_of atom u home row)) → (i : ℕ) (parts : List Rows) → All P (home_moves i atom home parts)
each-move P atom home holds i [] = All-nil P
each-move P atom home holds i (rows ∷ parts) =
    All-append P (map (move_of atom i home) rows) (home_moves (i + 1) atom home parts)
    (All-map P (move_of atom i home) rows (λ k d below. holds i _)) (each-move P atom home holds (i + 1) parts)

-- homes that agree on all rows
pub moves-agree : (atom i : ℕ) (home other : Row → ℕ) (parts : List Rows) → All (All (λ row. home row ≡ other row)) parts
    → home_moves i atom home parts ≡ home_moves i atom other parts
moves-agree atom i home other [] all = refl
moves-agree atom i home other (rows ∷ parts) all =
    let here : map (move_of atom i home) rows ≡ map (move_of atom i other) rows =
    map-agree (move_of atom i home) (move_of atom i other) rows
    (λ k d below. λ j. record { atom = atom; from = i; to = All-head (All (λ row. home row ≡ other row)) rows parts all k d below j; row = get_or rows k d }) in
    let rest = moves-agree atom (i + 1) home other parts (All-tail (All (λ row. home row ≡ other row)) rows parts all) in
    λ j. here j ++ rest j

-- rows in another order
pub moves-same : (atom i : ℕ) (home : Row → ℕ) (ts us : List Rows) → SameTables ts us → IsPermutation (home_moves i atom home ts) (home_moves i atom home us)
moves-same atom i home _ _ no_table = IsPermutation-refl []
moves-same atom i home _ _ (a_table t u ts us same rest) =
    IsPermutation-append (map (move_of atom i home) t) (map (move_of atom i home) u) (home_moves (i + 1) atom home ts) (home_moves (i + 1) atom home us)
    (IsPermutation-map (move_of atom i home) t u same) (moves-same atom (i + 1) home ts us rest)

-- ---- what is read off moves

counted : (p : Move → Bool) (ms : List Move) → length (filter p ms) ≡ sum_by (λ m. cond (p m) 1 0) ms
counted p ms = length-filter p ms

counted-both : (p : Move → Bool) (ms ns : List Move) → length (filter p (ms ++ ns)) ≡ length (filter p ms) + length (filter p ns)
counted-both p ms ns =
    omega (arith, counted p (ms ++ ns), counted p ms, counted p ns, sum_by-append (λ (m : Move). cond (p m) 1 0) ms ns)

picked : (p : Move → Bool) (ms : List Move) → map (λ (m : Move). m.row) (filter p ms) ≡ flat_map (λ (m : Move). cond (p m) (m.row ∷ []) []) ms
picked p [] = refl
picked p (m ∷ ms) = by (p m) (picked p ms)
  where
    by : (b : Bool) → map (λ (m : Move). m.row) (filter p ms) ≡ flat_map (λ (m : Move). cond (p m) (m.row ∷ []) []) ms
        → map (λ (m : Move). m.row) (cond b (m ∷ filter p ms) (filter p ms)) ≡ cond b (m.row ∷ []) [] ++ flat_map (λ (m : Move). cond (p m) (m.row ∷ []) []) ms
    by true e = ap (λ (rows : Rows). m.row ∷ rows) e
    by false e = e

module _ (ms ns : List Move) (h : IsPermutation ms ns) where
  counted-same : (p : Move → Bool) → length (filter p ms) ≡ length (filter p ns)
  counted-same p = counted p ms ∙ sym (sum_by-IsPermutation (λ (m : Move). cond (p m) 1 0) ms ns h) ∙ sym (counted p ns)

  pub sent-same : (u : ℕ) → sent ms u ≡ sent ns u
  sent-same u = counted-same (λ (m : Move). m.from == u)

  pub received-same : (w : ℕ) → received ms w ≡ received ns w
  received-same w = counted-same (λ (m : Move). m.to == w)

  between-same : (atom u w : ℕ) → SameBag (rows_between ms atom u w) (rows_between ns atom u w)
  between-same atom u w =
      let p : Move → Bool = λ m. (m.atom == atom) && (m.from == u) && (m.to == w) in
      subst (λ (rows : Rows). SameBag rows (rows_between ns atom u w)) (sym (picked p ms))
      (subst (λ (rows : Rows). SameBag (flat_map (λ (m : Move). cond (p m) (m.row ∷ []) []) ms) rows) (sym (picked p ns))
      (flat_map-same row_order row_order_total row_order-IsAntisymmetric (λ (m : Move). cond (p m) (m.row ∷ []) []) ms ns h))

  -- a receipt that shows the rows of the one shows those of the other
  pub shown-same : (size : Size) (receipt : ReceiptState) → Shows SameBag most_items size ms receipt → Shows SameBag most_items size ns receipt
  shown-same size receipt =
      shown-as SameBag SameBag most_items most_items size ms ns receipt (omega arith)
      (λ u w atom rows same. IsPermutation-trans (rows_between ns atom u w) (rows_between ms atom u w) rows
      (IsPermutation-sym (rows_between ms atom u w) (rows_between ns atom u w) (between-same atom u w)) same)

-- ---- two atoms

kept-all : (p : Move → Bool) (ms : List Move) → All (λ m. p m ≡ true) ms → filter p ms ≡ ms
kept-all p [] all = refl
kept-all p (m ∷ ms) all =
    ap (λ (b : Bool). cond b (m ∷ filter p ms) (filter p ms)) (All-head (λ (m : Move). p m ≡ true) m ms all)
    ∙ ap (λ (l : List Move). m ∷ l) (kept-all p ms (All-tail (λ (m : Move). p m ≡ true) m ms all))

kept-none : (p : Move → Bool) (ms : List Move) → All (λ m. p m ≡ false) ms → filter p ms ≡ []
kept-none p [] all = refl
kept-none p (m ∷ ms) all =
    ap (λ (b : Bool). cond b (m ∷ filter p ms) (filter p ms)) (All-head (λ (m : Move). p m ≡ false) m ms all)
    ∙ kept-none p ms (All-tail (λ (m : Move). p m ≡ false) m ms all)

-- a move of the first atom
abbrev as_first : Move → Move
as_first m = record m { atom = 0 }

as-first : (atom i : ℕ) (home : Row → ℕ) (parts : List Rows) → map as_first (home_moves i atom home parts) ≡ home_moves i 0 home parts
as-first atom i home [] = refl
as-first atom i home (rows ∷ parts) =
    map-append as_first (map (move_of atom i home) rows) (home_moves (i + 1) atom home parts)
    ∙ (λ j. each rows j ++ as-first atom (i + 1) home parts j)
  where
    each : (rows : Rows) → map as_first (map (move_of atom i home) rows) ≡ map (move_of 0 i home) rows
    each [] = refl
    each (row ∷ rows) = ap (λ (l : List Move). move_of 0 i home row ∷ l) (each rows)

-- the moves of the first operand alone, and those of the second
pub first-alone : (home : Row → ℕ) (parts others : List Rows)
    → moves_alone 0 (moves_of (home_sending home parts ∷ home_sending home others ∷ [])) ≡ moves_of (home_sending home parts ∷ [])
first-alone home parts others =
    ap (moves_alone 0) (moves-two home parts others)
    ∙ ap (map as_first)
    (filter-append (λ (m : Move). m.atom == 0) (home_moves 0 0 home parts) (home_moves 0 1 home others)
    ∙ (λ i. kept-all (λ (m : Move). m.atom == 0) (home_moves 0 0 home parts) (each-move (λ (m : Move). (m.atom == 0) ≡ true) 0 home (λ u row. refl) 0 parts) i
    ++ kept-none (λ (m : Move). m.atom == 0) (home_moves 0 1 home others) (each-move (λ (m : Move). (m.atom == 0) ≡ false) 1 home (λ u row. refl) 0 others) i)
    ∙ append-nil (home_moves 0 0 home parts))
    ∙ as-first 0 0 home parts ∙ sym (moves-one home parts)

pub second-alone : (home : Row → ℕ) (parts others : List Rows)
    → moves_alone 1 (moves_of (home_sending home parts ∷ home_sending home others ∷ [])) ≡ moves_of (home_sending home others ∷ [])
second-alone home parts others =
    ap (moves_alone 1) (moves-two home parts others)
    ∙ ap (map as_first)
    (filter-append (λ (m : Move). m.atom == 1) (home_moves 0 0 home parts) (home_moves 0 1 home others)
    ∙ (λ i. kept-none (λ (m : Move). m.atom == 1) (home_moves 0 0 home parts) (each-move (λ (m : Move). (m.atom == 1) ≡ false) 0 home (λ u row. refl) 0 parts) i
    ++ kept-all (λ (m : Move). m.atom == 1) (home_moves 0 1 home others) (each-move (λ (m : Move). (m.atom == 1) ≡ true) 1 home (λ u row. refl) 0 others) i))
    ∙ as-first 1 0 home others ∙ sym (moves-one home others)

-- what is counted of moves whatever their atom is
module _ (p : Move → Bool) (blind : (m : Move) → p (as_first m) ≡ p m) (home : Row → ℕ) (parts others : List Rows) where
  counted-two : length (filter p (moves_of (home_sending home parts ∷ home_sending home others ∷ [])))
      ≡ length (filter p (moves_of (home_sending home parts ∷ []))) + length (filter p (moves_of (home_sending home others ∷ [])))
  counted-two =
      ap (λ (l : List Move). length (filter p l)) (moves-two home parts others)
      ∙ counted-both p (home_moves 0 0 home parts) (home_moves 0 1 home others)
      ∙ (λ i. length (filter p (sym (moves-one home parts) i)) + back i)
    where
      back : length (filter p (home_moves 0 1 home others)) ≡ length (filter p (moves_of (home_sending home others ∷ [])))
      back =
          counted p (home_moves 0 1 home others)
          ∙ (λ i. sum_by (λ (m : Move). cond (sym (blind m) i) 1 0) (home_moves 0 1 home others))
          ∙ sym (sum_by-map (λ (m : Move). cond (p m) 1 0) as_first (home_moves 0 1 home others))
          ∙ sym (counted p (map as_first (home_moves 0 1 home others)))
          ∙ ap (λ (l : List Move). length (filter p l)) (as-first 1 0 home others ∙ sym (moves-one home others))

pub sent-two : (home : Row → ℕ) (parts others : List Rows) (u : ℕ)
    → sent (moves_of (home_sending home parts ∷ home_sending home others ∷ [])) u
    ≡ sent (moves_of (home_sending home parts ∷ [])) u + sent (moves_of (home_sending home others ∷ [])) u
sent-two home parts others u = counted-two (λ (m : Move). m.from == u) (λ m. refl) home parts others

pub received-two : (home : Row → ℕ) (parts others : List Rows) (w : ℕ)
    → received (moves_of (home_sending home parts ∷ home_sending home others ∷ [])) w
    ≡ received (moves_of (home_sending home parts ∷ [])) w + received (moves_of (home_sending home others ∷ [])) w
received-two home parts others w = counted-two (λ (m : Move). m.to == w) (λ m. refl) home parts others
