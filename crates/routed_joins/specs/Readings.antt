-- Numbers of rows that are read off what the workers' second taps were told.
--
--   AreSeconds totals n taps sums      the sums of the second tap of each worker
--   HaveRisen totals since taps        they have risen since, or are the same
--   AreRisenBy .. since taps counts    by how much one number of the first workers' sums rose
--   AreReceivedSince .. counts         how many rows each worker received since
--   AreListedSince .. counts           how many it listed since
--   IsNoteSince .. since taps note     the note of an exchange by which they rose so
use Rattle.std.specs.Prelude.{◌≡◌, ℕ, ◌+◌, ◌*◌, ◌<◌, ◌≤◌, List, length, slice_index_or}
use Rattle.rel_io.specs.declared.taps.Totals.{Totals}
use Rattle.algebra.specs.declared.notes.Exchange.{Exchange}
use Rattle.algebra.specs.declared.notes.Traffic.{Traffic}

module _ {T : Type 0} (totals : T → Totals) where
  -- the sums of the second tap of each worker
  pub record AreSeconds (workers : ℕ) (taps : List T) (sums : List Totals) : Type 0 where
    pub count : length sums ≡ workers
    pub sums_are : (w : ℕ) (d : T) (e : Totals) → w < workers
        → slice_index_or sums w e ≡ totals (slice_index_or taps (2 * w + 1) d)

  -- the sums of rows received and listed of the second tap of each worker have risen, or are
  -- the same
  pub record HaveRisen (since : List Totals) (taps : List T) : Type 0 where
    pub got : (w : ℕ) (d : T) (e : Totals) → w < length since
        → (slice_index_or since w e).got ≤ (totals (slice_index_or taps (2 * w + 1) d)).got
    pub listed : (w : ℕ) (d : T) (e : Totals) → w < length since
        → (slice_index_or since w e).listed ≤ (totals (slice_index_or taps (2 * w + 1) d)).listed

  -- by how much this number of the sums of the first workers rose
  pub record AreRisenBy (number : Totals → ℕ) (workers : ℕ) (since : List Totals)
      (taps : List T) (counts : List ℕ) : Type 0 where
    pub each_worker : length counts ≡ workers
    pub risen_by : (w : ℕ) (d : T) (e : Totals) → w < workers
        → number (slice_index_or since w e) + slice_index_or counts w 0
        ≡ number (totals (slice_index_or taps (2 * w + 1) d))

  -- so many rows each worker received since
  abbrev pub AreReceivedSince : List Totals → List T → List ℕ → Type 0
  AreReceivedSince since = AreRisenBy (λ t. t.got) (length since) since

  -- so many it listed since
  abbrev pub AreListedSince : List Totals → List T → List ℕ → Type 0
  AreListedSince since = AreRisenBy (λ t. t.listed) (length since) since

-- the note of an exchange: so many rows each worker received and listed since
pub record IsNoteSince {T : Type 0} (totals : T → Totals) (statement : ℕ) (exchange : Exchange)
    (since : List Totals) (taps : List T) (note : Traffic) : Type 0 where
  pub statement_is : note.statement ≡ statement
  pub exchange_is : note.exchange ≡ exchange
  pub received_are : AreReceivedSince totals since taps note.received
  pub listed_are : AreListedSince totals since taps note.listed
