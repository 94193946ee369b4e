-- Settings are told apart by what they hold: that each lies within its limits makes no difference.
use Rattle.std.proofs.Common.{◌≡◌, ◌≤◌}
use Rattle.std.specs.Coded.{×_prop, le_prop}
use mathlib.Core.HLevel.{is_prop→PathP}
use Rattle.rel_base.specs.Limits.{most_workers, most_capacity, most_batch}
use Rattle.algebra.specs.declared.settings.Settings.{Settings}
use Rattle.command_words.specs.Requests.{asked_settings_of}

pub same-settings : (s t : Settings) → asked_settings_of s ≡ asked_settings_of t → s ≡ t
same-settings s t same = λ i. record {
  workers = (same i).workers;
  capacity = (same i).capacity;
  batch = (same i).batch;
  seed = (same i).seed;
  shuffle = (same i).shuffle;
  local = (same i).local;
  reduce = (same i).reduce;
  workers_in_range = is_prop→PathP (λ j. (1 ≤ (same j).workers) × ((same j).workers ≤ most_workers)) (λ j. ×_prop le_prop le_prop)
      s.workers_in_range t.workers_in_range i;
  capacity_in_range = is_prop→PathP (λ j. (1 ≤ (same j).capacity) × ((same j).capacity ≤ most_capacity)) (λ j. ×_prop le_prop le_prop)
      s.capacity_in_range t.capacity_in_range i;
  batch_in_range = is_prop→PathP (λ j. (1 ≤ (same j).batch) × ((same j).batch ≤ most_batch)) (λ j. ×_prop le_prop le_prop)
      s.batch_in_range t.batch_in_range i;
}
