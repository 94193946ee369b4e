-- The note of an exchange, read off taps.
use Rattle.std.proofs.Common.{◌≡◌, ℕ, ◌+◌, ◌*◌, ◌<◌, ◌≤◌, List, [], ◌∷◌, length, get_or, refl, sym, ap, ◌∙◌, arith}
use Rattle.std.proofs.lemmas.List.FromFn.{fill_by_all}
use Rattle.rel_io.specs.declared.taps.Totals.{Totals}
use Rattle.exchange_channels.proofs.DeliveryLemmas.{element}
use Rattle.algebra.specs.declared.notes.Traffic.{Traffic}
use Rattle.placement.specs.Exchanges.{PlacedExchange, traffic_note}
use Rattle.placement.specs.Layouts.{by_worker}
use Rattle.row_exchange.specs.Moves.{received}
use Rattle.routed_joins.specs.TermRuns.{all_sent, all_received, all_listed, AreMoved}
use Rattle.routed_joins.specs.Readings.{AreSeconds}
use Rattle.routed_joins.proofs.ReadingLemmas.{risen-told}
use Rattle.routed_joins.specs.Readings.{IsNoteSince}
use Rattle.routed_joins.specs.Laws.{NotesTellMoves}

module _ {T : Type 0} (totals : T → Totals) where
  -- ---- the note of an exchange

  module _ (tag : T → ℕ) (n number : ℕ) (e : PlacedExchange) (before after : List T) (since : List Totals) (note : Traffic)
      (room : 2 * n ≤ length before) (all_listed : length e.listed ≡ n) (moved : AreMoved totals tag n (e ∷ []) before after)
      (read : AreSeconds totals n before since) (is : IsNoteSince totals number e.kind since after note) where
    received-at : (w : ℕ) → w < n → get_or note.received w 0 ≡ received e.moves w
    received-at w below =
        let d = element before (2 * w + 1) (omega (arith, below, room)) in
        let t = totals d in
        omega (
          arith,
          is.received_are.risen_by w d t (omega (arith, below, read.count)),
          ap (λ (t : Totals). t.got) (read.sums_are w d t below),
          ap (λ (t : Totals). t.got) (moved.seconds w d below),
        )

    listed-at : (w : ℕ) → w < n → get_or note.listed w 0 ≡ get_or e.listed w 0
    listed-at w below =
        let d = element before (2 * w + 1) (omega (arith, below, room)) in
        let t = totals d in
        omega (
          arith,
          is.listed_are.risen_by w d t (omega (arith, below, read.count)),
          ap (λ (t : Totals). t.listed) (read.sums_are w d t below),
          ap (λ (t : Totals). t.listed) (moved.seconds w d below),
        )

    pub note-is : note ≡ traffic_note n (number, e)
    note-is =
        let r : note.received ≡ by_worker n (received e.moves) =
        fill_by_all (received e.moves) note.received n 0 (omega (arith, is.received_are.each_worker, read.count)) received-at in
        let l : note.listed ≡ e.listed =
        fill_by_all (λ w. get_or e.listed w 0) note.listed n 0 (omega (arith, is.listed_are.each_worker, read.count)) listed-at
        ∙ sym (fill_by_all (λ w. get_or e.listed w 0) e.listed n 0 all_listed (λ w below. refl)) in
        λ i. record { statement = is.statement_is i; exchange = is.exchange_is i; received = r i; listed = l i }

  pub notes-tell : (tag : T → ℕ) → NotesTellMoves totals tag
  notes-tell tag = record {
    risen = λ n es before after since read moved. risen-told totals tag n (all_sent es) (all_received es) (all_listed es) before after since read moved;
    note = λ n number e before after since note room listed moved read is. note-is tag n number e before after since note room listed moved read is;
  }
