-- Taps.
--
--   no_rows                            the sums of a tap that has counted nothing
--   with_sent, with_got, with_listed   the sums with so many further rows
--   CountingTap                        what contracts see of a tap that counts
use Rattle.std.specs.Prelude.{ℕ}
use Rattle.rel_io.specs.Outside.{capped_sum}
use Rattle.rel_io.specs.declared.taps.Totals.{Totals}

-- no row was sent, received or listed
abbrev pub no_rows : Totals
no_rows = record { sent = 0; got = 0; listed = 0 }

-- so many further rows were sent
abbrev pub with_sent : Totals → ℕ → Totals
with_sent sums rows = record sums { sent = capped_sum sums.sent rows }

-- so many further rows were received
abbrev pub with_got : Totals → ℕ → Totals
with_got sums rows = record sums { got = capped_sum sums.got rows }

-- so many further rows were listed
abbrev pub with_listed : Totals → ℕ → Totals
with_listed sums rows = record sums { listed = capped_sum sums.listed rows }

-- a tap that counts: its tag, and its sums
pub record CountingTap : Type 0 where
  pub tag : ℕ
  pub totals : Totals
