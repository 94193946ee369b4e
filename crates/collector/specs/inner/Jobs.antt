-- Jobs that sort.
--
--   HasSorted before after     a sorting job that has run
use Rattle.std.specs.Prelude.{IfOk}
use Rattle.rel_base.specs.Bags.{SameBag}
use Rattle.collector.specs.declared.sorting.Sorting.{Sorting}

-- a job that has run has sorted the rows of its part, short of memory
abbrev pub HasSorted : Sorting → Sorting → Type 0
HasSorted before after = IfOk after.sorted (SameBag before.part.now)
