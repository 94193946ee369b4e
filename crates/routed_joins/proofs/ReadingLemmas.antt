-- Sums that were read off taps, and what these are told behind it.
use Rattle.std.proofs.Common.{ℕ, ◌+◌, ◌*◌, ◌<◌, ◌≤◌, List, ap, arith, ⊎_elim}
use Rattle.std.proofs.lemmas.Bool.{cases_lt}
use Rattle.rel_io.specs.declared.taps.Totals.{Totals}
use Rattle.row_exchange.specs.Exchanges.{AreTold}
use Rattle.routed_joins.specs.Listings.{IsListedAt}
use Rattle.routed_joins.specs.Readings.{AreSeconds, HaveRisen}

module _ {T : Type 0} (totals : T → Totals) where
  -- sums that were read before taps were told more
  pub risen-told : (tag : T → ℕ) (n : ℕ) (s g l : ℕ → ℕ) (before after : List T) (since : List Totals) → AreSeconds totals n before since
      → AreTold totals tag n s g l before after → HaveRisen totals since after
  risen-told tag n s g l before after since read x = record {
    got = λ w d e below.
        let inside : w < n = omega (arith, below, read.count) in
        omega (arith, ap (λ (t : Totals). t.got) (read.sums_are w d e inside), ap (λ (t : Totals). t.got) (x.seconds w d inside));
    listed = λ w d e below.
        let inside : w < n = omega (arith, below, read.count) in
        omega (arith, ap (λ (t : Totals). t.listed) (read.sums_are w d e inside), ap (λ (t : Totals). t.listed) (x.seconds w d inside));
  }

  -- and before rows were listed behind it
  pub risen-listed : (tag : T → ℕ) (n : ℕ) (counts : ℕ → ℕ) (before after : List T) (since : List Totals) → HaveRisen totals since before
      → IsListedAt totals tag n counts before after → HaveRisen totals since after
  risen-listed tag n counts before after since risen l = record {
    got = λ w d e below.
        ⊎_elim
        (λ (h : w < n). omega (arith, risen.got w d e below, ap (λ (t : Totals). t.got) (l.told.seconds w d h)))
        (λ (h : n ≤ w). omega (arith, risen.got w d e below, ap (λ (t : T). (totals t).got) (l.told.others (2 * w + 1) d (omega (arith, h)))))
        (cases_lt w (n));
    listed = λ w d e below.
        ⊎_elim
        (λ (h : w < n). omega (arith, risen.listed w d e below, ap (λ (t : Totals). t.listed) (l.told.seconds w d h)))
        (λ (h : n ≤ w). omega (arith, risen.listed w d e below, ap (λ (t : T). (totals t).listed) (l.told.others (2 * w + 1) d (omega (arith, h)))))
        (cases_lt w (n));
  }
