-- Words that a user types, worked by computing.
use Rattle.std.proofs.Common.{◌≡◌, Bool, true, false, not, is_some, List, ℕ, [], ◌∷◌, Some, None, codes, refl}
use Rattle.std.specs.List.{list_all}
use Rattle.algebra.specs.declared.settings.ShuffleKind.TheVariants as shuffle
use Rattle.algebra.specs.declared.settings.JoinKind.TheVariants as join
use Rattle.clap.proofs.OnLiterals.{clap_on_literals}
use Rattle.command_words.specs.declared.requests.Mode.TheVariants as mode
use Rattle.command_words.specs.Commands.{command}
use Rattle.command_words.specs.Requests.{Asked, AskedSettings, asked}

abbrev usual : AskedSettings
usual = record { workers = 4; capacity = 16; batch = 256; seed = 0; shuffle = shuffle.Hc; local = join.Tj; reduce = false }

-- a run of the script q with what is usual
abbrev plain : Asked
plain = record { mode = mode.Run; settings = usual; plan = false; traffic = false; size = 1000; from = None; script = codes "q" }

abbrev myria : List (List ℕ) → List (List ℕ)
myria words = codes "myria" ∷ words

-- an option with this text, before the script q
abbrev with_text : List ℕ → List ℕ → List (List ℕ)
with_text option text = myria (option ∷ text ∷ codes "q" ∷ [])

abbrev refuses : List (List ℕ) → Bool
refuses words = not (is_some (asked words))

pub script_alone : asked (myria (codes "q" ∷ [])) ≡ Some plain
unfolding clap_on_literals command
script_alone = refl

pub eight_workers_and_plan : asked (myria (codes "--workers" ∷ codes "8" ∷ codes "--plan" ∷ codes "q" ∷ []))
    ≡ Some (record plain { settings = record usual { workers = 8 }; plan = true })
unfolding clap_on_literals command
eight_workers_and_plan = refl

-- all of them, the script first
pub every_option : asked (myria (codes "q" ∷ codes "--traffic" ∷ codes "--mode" ∷ codes "explain" ∷ codes "--workers" ∷ codes "64"
    ∷ codes "--capacity" ∷ codes "1024" ∷ codes "--batch" ∷ codes "4096" ∷ codes "--seed" ∷ codes "18446744073709551615"
    ∷ codes "--shuffle" ∷ codes "br" ∷ codes "--join" ∷ codes "hj" ∷ codes "--size" ∷ codes "100000" ∷ codes "--plan" ∷ codes "--reduce"
    ∷ codes "--from" ∷ codes "p.json" ∷ []))
    ≡ Some (record {
      mode = mode.Explain;
      settings = record {
        workers = 64;
        capacity = 1024;
        batch = 4096;
        seed = 18446744073709551615;
        shuffle = shuffle.Br;
        local = join.Hj;
        reduce = true;
      };
      plan = true;
      traffic = true;
      size = 100000;
      from = Some (codes "p.json");
      script = codes "q";
    })
unfolding clap_on_literals command
every_option = refl

-- a flag stands before the script or behind it, and with or without others
pub reduce_alone : (asked (myria (codes "--reduce" ∷ codes "q" ∷ [])) ≡ Some (record plain { settings = record usual { reduce = true } }))
    × (asked (myria (codes "q" ∷ codes "--reduce" ∷ [])) ≡ Some (record plain { settings = record usual { reduce = true } }))
    × (asked (myria (codes "--plan" ∷ codes "--traffic" ∷ codes "q" ∷ [])) ≡ Some (record plain { plan = true; traffic = true }))
unfolding clap_on_literals command
reduce_alone = (refl, refl, refl)

pub other_choices : (asked (with_text (codes "--mode") (codes "check")) ≡ Some (record plain { mode = mode.Check }))
    × (asked (with_text (codes "--mode") (codes "trial")) ≡ Some (record plain { mode = mode.Trial }))
    × (asked (with_text (codes "--mode") (codes "run")) ≡ Some plain)
    × (asked (with_text (codes "--shuffle") (codes "rs")) ≡ Some (record plain { settings = record usual { shuffle = shuffle.Rs } }))
    × (asked (with_text (codes "--shuffle") (codes "hc")) ≡ Some plain)
    × (asked (with_text (codes "--join") (codes "tj")) ≡ Some plain)
unfolding clap_on_literals command
other_choices = (refl, refl, refl, refl, refl, refl)

-- a plan is exported, or replayed from a file; a name without a replay changes nothing but the request
pub plans_and_names : (asked (with_text (codes "--mode") (codes "export")) ≡ Some (record plain { mode = mode.Export }))
    × (asked (myria (codes "--mode" ∷ codes "replay" ∷ codes "--from" ∷ codes "p.json" ∷ codes "q" ∷ []))
    ≡ Some (record plain { mode = mode.Replay; from = Some (codes "p.json") }))
    × (asked (with_text (codes "--from") (codes "p.json")) ≡ Some (record plain { from = Some (codes "p.json") }))
unfolding clap_on_literals command
plans_and_names = (refl, refl, refl)

-- zeros may lead; a text may stand behind an equals sign; behind two hyphens a script may begin with one; help is a script
pub other_forms : (asked (with_text (codes "--workers") (codes "007")) ≡ Some (record plain { settings = record usual { workers = 7 } }))
    × (asked (myria (codes "--workers=8" ∷ codes "q" ∷ [])) ≡ Some (record plain { settings = record usual { workers = 8 } }))
    × (asked (myria (codes "--" ∷ codes "-q" ∷ [])) ≡ Some (record plain { script = codes "-q" }))
    × (asked (myria (codes "help" ∷ [])) ≡ Some (record plain { script = codes "help" }))
    × (asked (myria ([] ∷ [])) ≡ Some (record plain { script = [] }))
unfolding clap_on_literals command
other_forms = (refl, refl, refl, refl, refl)

-- numbers outside their limits, with a sign, and without a digit
pub bad_numbers : list_all (λ text. refuses (with_text (codes "--workers") text))
    (codes "0" ∷ codes "65" ∷ codes "-1" ∷ codes "+4" ∷ [] ∷ codes "4 " ∷ codes "0x4" ∷ codes "4.0"
    ∷ codes "123456789012345678901234567890" ∷ []) ≡ true
unfolding clap_on_literals command
bad_numbers = refl

pub past_limits : list_all refuses (with_text (codes "--capacity") (codes "1025") ∷ with_text (codes "--batch") (codes "4097")
    ∷ with_text (codes "--seed") (codes "18446744073709551616") ∷ with_text (codes "--size") (codes "100001")
    ∷ with_text (codes "--size") (codes "0") ∷ []) ≡ true
unfolding clap_on_literals command
past_limits = refl

-- no choice of the list, be it by a letter's case
pub bad_choices : list_all refuses (with_text (codes "--shuffle") (codes "HC") ∷ with_text (codes "--shuffle") (codes "xx")
    ∷ with_text (codes "--join") [] ∷ with_text (codes "--mode") (codes "Run") ∷ []) ≡ true
unfolding clap_on_literals command
bad_choices = refl

-- words that clap refuses: no script, two, an option or a flag twice, a flag with a text, a request for help; and a replay that
-- names no plan
pub bad_words : list_all (λ words. refuses (myria words)) (
    []
    ∷ (codes "--" ∷ [])
    ∷ (codes "q" ∷ codes "r" ∷ [])
    ∷ (codes "--workers" ∷ codes "4" ∷ codes "--workers" ∷ codes "4" ∷ codes "q" ∷ [])
    ∷ (codes "--plan" ∷ codes "--plan" ∷ codes "q" ∷ [])
    ∷ (codes "--plan=yes" ∷ codes "q" ∷ [])
    ∷ (codes "--reduce" ∷ codes "--reduce" ∷ codes "q" ∷ [])
    ∷ (codes "--reduce=x" ∷ codes "q" ∷ [])
    ∷ (codes "q" ∷ codes "--workers" ∷ [])
    ∷ (codes "--rows" ∷ codes "4" ∷ codes "q" ∷ [])
    ∷ (codes "--mode" ∷ codes "replay" ∷ codes "q" ∷ [])
    ∷ (codes "--from" ∷ codes "p" ∷ codes "--from" ∷ codes "p" ∷ codes "q" ∷ [])
    ∷ (codes "--help" ∷ [])
    ∷ (codes "-h" ∷ [])
    ∷ (codes "--version" ∷ [])
    ∷ []) ≡ true
unfolding clap_on_literals command
bad_words = refl

-- an option is read where it has no effect, too
pub without_effect : list_all (λ words. refuses (myria words)) (
    (codes "--mode" ∷ codes "check" ∷ codes "--workers" ∷ codes "65" ∷ codes "q" ∷ [])
    ∷ (codes "--mode" ∷ codes "trial" ∷ codes "--shuffle" ∷ codes "HC" ∷ codes "q" ∷ [])
    ∷ (codes "--mode" ∷ codes "run" ∷ codes "--size" ∷ codes "x" ∷ codes "q" ∷ [])
    ∷ []) ≡ true
unfolding clap_on_literals command
without_effect = refl
