-- What the words of the command line ask for.
--
--   Asked               a mode, the settings of a run, what is printed, the size of a trial, a plan's name and a script
--   asked_in rows       what the command's matches ask for
--   asked words         what the words ask for; none exactly where they are refused
--   asked_of request    what a request holds
use Rattle.std.specs.Prelude.{ℕ, Bool, false, List, Option, Some, None, option_map, option_and_then, codes, if◌then◌else◌}
use Rattle.std.specs.Option.{option_map_or}
use Rattle.std.specs.Str.{bytes_eq}
use Rattle.rel_base.specs.Limits.{most_workers, most_capacity, most_batch}
use Rattle.algebra.specs.declared.settings.Settings.{Settings}
use Rattle.algebra.specs.declared.settings.ShuffleKind.{ShuffleKind}
use Rattle.algebra.specs.declared.settings.ShuffleKind.TheVariants.{Hc}
use Rattle.algebra.specs.declared.settings.JoinKind.{JoinKind}
use Rattle.algebra.specs.declared.settings.JoinKind.TheVariants.{Tj}
use Rattle.clap.specs.Words.{Row, Text, first_of, matches_of}
use Rattle.command_words.specs.declared.requests.Mode.{Mode}
use Rattle.command_words.specs.declared.requests.Mode.TheVariants.{Run}
use Rattle.command_words.specs.declared.requests.Request.{Request}
use Rattle.command_words.specs.Limits.{most_seed, most_size}
use Rattle.command_words.specs.Commands.{command, is_read}
use Rattle.command_words.specs.Modes.{has_its_plan}
use Rattle.command_words.specs.Texts.{number_within, mode_of, shuffle_of, join_of}

-- the settings of a run, each within its limits where the words are read
pub record AskedSettings : Type 0 where
  pub workers : ℕ
  pub capacity : ℕ
  pub batch : ℕ
  pub seed : ℕ
  pub shuffle : ShuffleKind
  pub local : JoinKind
  pub reduce : Bool

pub record Asked : Type 0 where
  pub mode : Mode
  pub settings : AskedSettings
  pub plan : Bool
  pub traffic : Bool
  pub size : ℕ
  pub from : Option (List ℕ)
  pub script : List ℕ

-- an option that is not given has its usual value, and one that is given has what its text says
abbrev pub given : {X : Type 0} → Text → X → (Text → Option X) → List Row → Option X
given name usual read rows = option_map_or read (first_of name rows) (Some usual)

abbrev pub count_given : Text → ℕ → ℕ → List Row → Option ℕ
count_given name usual most rows = given name usual (number_within 1 most) rows

abbrev pub is_flag_given : Text → List Row → Bool
is_flag_given name rows =
    option_map_or (λ text. bytes_eq text (codes "true")) (first_of name rows) false

abbrev pub mode_given : List Row → Option Mode
mode_given = given (codes "mode") Run mode_of

abbrev pub workers_given : List Row → Option ℕ
workers_given = count_given (codes "workers") 4 most_workers

abbrev pub capacity_given : List Row → Option ℕ
capacity_given = count_given (codes "capacity") 16 most_capacity

abbrev pub batch_given : List Row → Option ℕ
batch_given = count_given (codes "batch") 256 most_batch

abbrev pub seed_given : List Row → Option ℕ
seed_given = given (codes "seed") 0 (number_within 0 most_seed)

abbrev pub shuffle_given : List Row → Option ShuffleKind
shuffle_given = given (codes "shuffle") Hc shuffle_of

abbrev pub join_given : List Row → Option JoinKind
join_given = given (codes "join") Tj join_of

abbrev pub size_given : List Row → Option ℕ
size_given = count_given (codes "size") 1000 most_size

-- none where one of them is none
abbrev pub settings_given : List Row → Option AskedSettings
settings_given rows =
    option_and_then (λ workers.
    option_and_then (λ capacity. option_and_then (λ batch. option_and_then (λ seed.
    option_and_then (λ shuffle. option_map (λ local. record {
      workers = workers;
      capacity = capacity;
      batch = batch;
      seed = seed;
      shuffle = shuffle;
      local = local;
      reduce = is_flag_given (codes "reduce") rows;
    }) (join_given rows)) (shuffle_given rows)) (seed_given rows)) (batch_given rows))
    (capacity_given rows)) (workers_given rows)

-- what is asked for where each of its parts is told
abbrev pub asked_from : Option Mode → Option AskedSettings → Option ℕ → Option (List ℕ) → Bool
    → Bool → Option (List ℕ) → Option Asked
asked_from mode settings size script plan traffic from =
    option_and_then (λ m. option_and_then (λ s. option_and_then (λ n. option_map (λ t. record {
      mode = m;
      settings = s;
      plan = plan;
      traffic = traffic;
      size = n;
      from = from;
      script = t;
    }) script) size) settings) mode

-- a replay without the name of its plan is refused
abbrev pub with_its_plan : Asked → Option Asked
with_its_plan a = if has_its_plan a.mode a.from then Some a else None

abbrev pub asked_in : List Row → Option Asked
asked_in rows =
    option_and_then with_its_plan (asked_from (mode_given rows) (settings_given rows)
    (size_given rows) (first_of (codes "script") rows) (is_flag_given (codes "plan") rows)
    (is_flag_given (codes "traffic") rows) (first_of (codes "from") rows))

abbrev pub asked : List Text → Option Asked
asked words = if is_read words then asked_in (matches_of command words) else None

-- what is in a value of the program
abbrev pub asked_settings_of : Settings → AskedSettings
asked_settings_of s = record {
  workers = s.workers;
  capacity = s.capacity;
  batch = s.batch;
  seed = s.seed;
  shuffle = s.shuffle;
  local = s.local;
  reduce = s.reduce;
}

abbrev pub asked_of : Request → Asked
asked_of r = record {
  mode = r.mode;
  settings = asked_settings_of r.settings;
  plan = r.plan;
  traffic = r.traffic;
  size = r.size;
  from = r.from;
  script = r.script;
}
