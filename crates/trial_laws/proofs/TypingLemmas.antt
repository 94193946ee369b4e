-- What the script of a trial comes to over relations of every size: the rows stay unknown, and everything else is computed.
use Rattle.std.proofs.Common.{◌≡◌, ℕ, zero, suc, true, Ok, refl, arith}
use Rattle.algebra.specs.Conditions.{is_of}
use Rattle.algebra.specs.Rewriting.{AreTyped}
use Rattle.myrial_meaning.specs.Fetches.{fetches}
use Rattle.myrial_types.specs.Checking.{checked_of}
use Rattle.myrial_types.specs.Fetching.{are_fetched, have_forms}
use Rattle.trial_gen.specs.Trials.{trial_files}
use Rattle.trial_gen.proofs.TrialLemmas.{rows_are_typed}
use Rattle.std.specs.List.{range_with_len}
use Rattle.trial_laws.specs.TrialSteps.{trial_checked, trial_fetches}
use Rattle.trial_laws.specs.TrialTrees.{trial_trees}

pub trial-fetches : fetches trial_trees ≡ trial_fetches
trial-fetches = refl

pub trial-are_fetched : (n : ℕ) → are_fetched (trial_files n) trial_trees ≡ true
trial-are_fetched n = refl

pub trial-have_forms : (n : ℕ) → have_forms (trial_files n) trial_trees ≡ true
trial-have_forms n = refl

pub trial-AreTyped : (n : ℕ) → AreTyped (trial_files n)
trial-AreTyped n zero d low = rows_are_typed n 1 (range_with_len 0 n)
trial-AreTyped n (suc zero) d low = rows_are_typed n 2 (range_with_len 0 n)
trial-AreTyped n (suc (suc zero)) d low = rows_are_typed n 3 (range_with_len 0 n)
trial-AreTyped n (suc (suc (suc k))) d low = absurd (omega (arith, low))

pub trial-checked_of : (n : ℕ) → checked_of (trial_files n) trial_trees ≡ Ok trial_checked
trial-checked_of n = refl

pub trial-is_of : (n : ℕ) → is_of (trial_files n) trial_checked ≡ true
trial-is_of n = refl
