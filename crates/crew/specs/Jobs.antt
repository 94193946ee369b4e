-- Jobs that have run.
use Rattle.std.specs.Prelude.{◌≡◌, ℕ, ◌<◌, List, length, slice_index_or}

-- each job has run once and stands at its place
pub record EachHasRun {J : Type 0} (has_run : J → J → Type 0) (before after : List J) : Type 0 where
  -- no job is gone, and none has come
  pub len : length after ≡ length before
  -- the job at each place stands to the job that was there as one that has run
  pub each : (k : ℕ) (d : J) → k < length before
      → has_run (slice_index_or before k d) (slice_index_or after k d)
