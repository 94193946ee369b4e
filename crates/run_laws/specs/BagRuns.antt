-- The order of rows changes nothing that a run tells.
--
--   AreSameValues v w sources       what these sources stand for is the same but for the order of rows
--   TermsAreOfBags                  then a term has the same bags at each worker, by exchanges that tell the same, and one fault
use Rattle.std.specs.Prelude.{◌≡◌, ℕ, List, All}
use Rattle.myrial_ast.specs.Combinations.{Rows}
use Rattle.myrial_ast.specs.CandidateFaults.{FaultRule}
use Rattle.bag_laws.specs.Permuted.{SameTables}
use Rattle.algebra.specs.declared.settings.JoinKind.{JoinKind}
use Rattle.algebra.specs.declared.settings.Settings.{Settings}
use Rattle.algebra.specs.declared.terms.Source.{Source}
use Rattle.algebra.specs.Trees.{TermTree}
use Rattle.algebra.specs.Meanings.{sources_of, term_fault}
use Rattle.placement.specs.Exchanges.{term_exchanges}
use Rattle.placement.specs.Layouts.{PlacedRelation, term_parts}
use Rattle.placement.specs.Laws.{IsSamePlaced}
use Rattle.placement.specs.Plans.{ShuffleRule, placing_by, term_notes}
use Rattle.run_laws.specs.SameExchanges.{AreSameExchanges}

-- what these sources stand for is the same, but for the order of rows
abbrev pub AreSameValues : (Source → PlacedRelation) → (Source → PlacedRelation) → List Source
    → Type 0
AreSameValues v w sources = All (λ o. IsSamePlaced (v o) (w o)) sources

-- the rows of a source
abbrev pub rows_in : (Source → PlacedRelation) → Source → Rows
rows_in v o = (v o).relation.rows

-- a term over the same bags has the same bags at each worker, its exchanges tell the same, and it has the same fault and the
-- same lines in a plan
pub record IsSameRun (s : Settings) (rules : ℕ → ShuffleRule) (number : ℕ)
    (v w : Source → PlacedRelation) (t : TermTree) : Type 0 where
  pub parts : SameTables (term_parts (placing_by s rules) number v t)
      (term_parts (placing_by s rules) number w t)
  pub exchanges : AreSameExchanges s.workers (term_exchanges (placing_by s rules) number v t)
      (term_exchanges (placing_by s rules) number w t)
  pub fault : (rule : FaultRule)
      → term_fault rule number (rows_in v) t ≡ term_fault rule number (rows_in w) t
  pub notes : (local : JoinKind)
      → term_notes (placing_by s rules) local number v t
      ≡ term_notes (placing_by s rules) local number w t

abbrev pub TermsAreOfBags : Type 0
TermsAreOfBags =
    (s : Settings) (rules : ℕ → ShuffleRule) (number : ℕ) (v w : Source → PlacedRelation)
    (t : TermTree)
    → AreSameValues v w (sources_of t)
    → IsSameRun s rules number v w t
