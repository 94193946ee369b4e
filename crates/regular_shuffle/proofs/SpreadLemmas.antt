-- From an exchange by a key's home to a spread by key.
use Rattle.std.proofs.Common.{◌≡◌, ℕ, zero, suc, ◌<◌, ◌≤◌, ◌==◌, Bool, true, false, List, [], ◌∷◌, map, length, get_or, All, Result, Ok, refl, sym, ap, ◌∙◌, subst, arith}
use Rattle.std.specs.Prelude.{filter, IsErr, ◌||◌}
use Rattle.std.proofs.lemmas.List.{length-map, get_or-map, get_or_default}
use Rattle.std.proofs.lemmas.List.FromFn.{get_or-map-range_with_len}
use Rattle.std.proofs.lemmas.Result.{IfOk-from_err}
use Rattle.rel_base.proofs.SortLemmas.{All-one}
use Rattle.rel_base.specs.Bags.{SameBag}
use Rattle.rel_base.specs.declared.failure.Memory.{Memory}
use Rattle.rel_io.specs.declared.taps.Totals.{Totals}
use Rattle.exchange_channels.specs.Wirings.{ReceiptState}
use Rattle.myrial_ast.specs.Combinations.{Row, Rows}
use Rattle.hash_partition.specs.Hashing.{key_of}
use Rattle.placement.specs.Layouts.{together}
use Rattle.placement.specs.Layouts.{parts_by_home}
use Rattle.placement.proofs.ScriptLemmas.{home_of-lt}
use Rattle.placement.specs.Receiving.{GoesOnce}
use Rattle.placement.proofs.MoveLemmas.{given-at}
use Rattle.row_exchange.specs.Routes.{rows_at, AreRouted, IsRouted}
use Rattle.row_exchange.specs.Moves.{Move, sendings_of, moves_of, rows_given}
use Rattle.row_exchange.specs.Exchanges.{IsGiven, IsExchange}
use Rattle.row_exchange.specs.declared.exchanging.Exchanged.{Exchanged}
use Rattle.row_exchange.specs.declared.routes.Size.{Size}
use Rattle.regular_shuffle.specs.KeySpreads.{HasColumns, key_home, by_key_home, moves_by_key, IsSpread, IsSpreadByKey}
use Rattle.regular_shuffle.specs.inner.KeyRoutes.{columns_for}

-- ---- the route

-- the one cell of a row of an atom
abbrev pub goes_home : ℕ → ℕ → List ℕ → List ℕ → ℕ → Row → List ℕ
goes_home seed workers first others atom row = key_home seed workers (columns_for atom first others) row ∷ []

one-way : (b : Bool) → (b || false) ≡ b
one-way true = refl
one-way false = refl

module _ (seed workers : ℕ) (columns : List ℕ) (parts : List Rows) (each : length parts ≡ workers) where
  abbrev goes : ℕ → Row → List ℕ
  goes = goes_home seed workers columns columns

  each-atom : All (λ spread. length spread ≡ workers) (parts ∷ [])
  each-atom = All-one (λ (spread : List Rows). length spread ≡ workers) parts each

  -- the rows that go to w are those whose key has its home there
  at-home : (w : ℕ) → rows_given (moves_by_key seed workers columns parts) 0 w ≡ filter (λ row. key_home seed workers columns row == w) (together parts)
  at-home w =
      given-at (by_key_home seed workers columns parts ∷ []) (All-one GoesOnce (by_key_home seed workers columns parts) (λ row. refl)) 0 (omega arith) w
      ∙ (λ i. filter (λ row. one-way (key_home seed workers columns row == w) i) (together parts))

  -- each row is one that the route knows, and its cell is a worker
  pub is-routed : 1 ≤ workers → All (All (HasColumns columns)) parts
      → IsRouted (λ atom row. HasColumns (columns_for atom columns columns) row) goes workers (parts ∷ [])
  is-routed some known = record {
    some = omega arith;
    few = omega arith;
    each_worker = each-atom;
    known = by;
  }
    where
      by : (atom u : ℕ) → atom < 1 → u < workers → AreRouted (λ row. HasColumns (columns_for atom columns columns) row) (goes atom) workers (rows_at (parts ∷ []) atom u)
      by zero u one here = record {
        accepted = known u [] (omega (arith, here, each));
        inside = λ k d below. record {
          inside = All-one (λ (cell : ℕ). cell < workers) (key_home seed workers columns (get_or (rows_at (parts ∷ []) 0 u) k d)) (home_of-lt seed (key_of (get_or (rows_at (parts ∷ []) 0 u) k d) columns) workers some);
          few = omega arith;
        };
      }
      by (suc atom) u one here = absurd (omega (arith, one))

-- a route with the same numbers and columns is the same
module _ (seed seed' workers workers' : ℕ) (columns first others : List ℕ) (parts : List Rows) (spreads : List (List Rows))
    (same_seed : seed' ≡ seed) (same_workers : workers' ≡ workers) (is_first : first ≡ columns) (is_others : others ≡ columns) (one : spreads ≡ parts ∷ []) where
  pub routed-by : (n n' : ℕ) (same_size : n' ≡ n) → IsRouted (λ atom row. HasColumns (columns_for atom columns columns) row) (goes_home seed workers columns columns) n (parts ∷ [])
      → IsRouted (λ atom row. HasColumns (columns_for atom first others) row) (goes_home seed' workers' first others) n' spreads
  routed-by n n' same_size r =
      subst (λ (t : ℕ × (((ℕ × ℕ) × (List ℕ × List ℕ)) × List (List Rows))).
      IsRouted (λ atom row. HasColumns (columns_for atom t.1.0.1.0 t.1.0.1.1) row) (goes_home t.1.0.0.0 t.1.0.0.1 t.1.0.1.0 t.1.0.1.1) t.0 t.1.1)
      (sym (λ i. (same_size i, (((same_seed i, same_workers i), (is_first i, is_others i)), one i)))) r

  pub exchange-by : {T : Type 0} (size size' : Size) (same_size : size' ≡ size) (totals : T → Totals) (tag : T → ℕ) (before after : List T) (ex : Result Exchanged Memory)
      → IsExchange (moves_of (sendings_of (goes_home seed' workers' first others) spreads)) (length spreads) size' totals tag before after ex
      → IsExchange (moves_by_key seed workers columns parts) 1 size totals tag before after ex
  exchange-by size size' same_size totals tag before after ex x =
      subst (λ (t : Size × (((ℕ × ℕ) × (List ℕ × List ℕ)) × List (List Rows))).
      IsExchange (moves_of (sendings_of (goes_home t.1.0.0.0 t.1.0.0.1 t.1.0.1.0 t.1.0.1.1) t.1.1)) (length t.1.1) t.0 totals tag before after ex)
      (λ i. (same_size i, (((same_seed i, same_workers i), (is_first i, is_others i)), one i))) x

-- each worker was given one atom
pub one-atom : (moves : List Move) (workers : ℕ) (given : List (List Rows)) → IsGiven moves 1 workers given → All (λ atoms. length atoms ≡ 1) given
one-atom moves workers given is k d below =
    subst (λ (atoms : List Rows). length atoms ≡ 1) (get_or_default given k [] d below) (is.each_atom k (omega (arith, below, is.each_worker)))

-- ---- what is answered

module _ {T : Type 0} (seed : ℕ) (columns : List ℕ) (parts : List Rows) (size : Size) (each : length parts ≡ size.workers) (totals : T → Totals) (tag : T → ℕ)
    (before after : List T) where
  abbrev moves : List Move
  moves = moves_by_key seed size.workers columns parts

  -- the taps, where memory was refused
  pub refused : (ex : Result Exchanged Memory) (answer : Result (List Rows × ReceiptState) Memory)
      → IsExchange moves 1 size totals tag before after ex → IsErr answer → IsSpreadByKey seed columns parts size totals tag before after answer
  refused ex answer x err = record {
    sent_by = x.sent;
    got_by = x.got;
    told = x.told;
    even = x.even;
    ok = IfOk-from_err answer (λ made. IsSpread seed columns parts size x.sent x.got made.0 made.1) err;
  }

  pub is-spread : (ex : Exchanged) (made : List Rows) → IsExchange moves 1 size totals tag before after (Ok ex)
      → made ≡ map (λ atoms. get_or atoms 0 []) ex.given → IsSpreadByKey seed columns parts size totals tag before after (Ok (made, ex.receipt))
  is-spread ex made x is = record {
    sent_by = x.sent;
    got_by = x.got;
    told = x.told;
    even = x.even;
    ok = record {
      each_worker = ap length is ∙ length-map ex.given (λ (atoms : List Rows). get_or atoms 0 []) ∙ x.ok.given.each_worker;
      rows_are = rows-are;
      receipt_shows = x.ok.receipt;
      sent_are = x.ok.sent_are;
      got_are = x.ok.got_are;
    };
  }
    where
      rows-are : (w : ℕ) → w < size.workers
          → SameBag (get_or (parts_by_home size.workers (key_home seed size.workers columns) (together parts)) w []) (get_or made w [])
      rows-are w inside =
          subst (λ (rows : Rows). SameBag rows (get_or made w []))
          (at-home seed size.workers columns parts each w
          ∙ sym (get_or-map-range_with_len (λ w. filter (λ row. key_home seed size.workers columns row == w) (together parts)) 0 size.workers w w [] inside (omega arith)))
          (subst (λ (rows : Rows). SameBag (rows_given moves 0 w) rows)
          (sym (ap (λ (l : List Rows). get_or l w []) is ∙ get_or-map (λ (atoms : List Rows). get_or atoms 0 []) ex.given w [] [] (omega (arith, inside, x.ok.given.each_worker))))
          (x.ok.given.rows_are w 0 inside (omega arith)))
