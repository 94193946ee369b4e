use Rattle.std.proofs.Common.{rules, ◌≡◌, ◌∙◌, ap, Some, codes}
use Rattle.std.specs.Prelude.{option_and_then}
use Rattle.clap.specs.Words.{first_of, found_of, rows_of}
use Rattle.command_words.specs.Requests.{asked_settings_of, is_flag_given, mode_given, settings_given, size_given, with_its_plan}
use Rattle.command_words.proofs.RequestLemmas.{asked-from-same, kept-plan}
use Rattle.command_words.proofs.reading.request_in.Goals as goal

pub returns-clause-ok : goal.returns-clause-ok
returns-clause-ok c =
    let rows = rows_of (found_of c.args.matches.now) in
    let script : first_of (codes "script") rows ≡ Some c.in_ok-of.field-0 = search rules in
    ap (option_and_then with_its_plan)
    (asked-from-same (mode_given rows) (Some c.in-Some.mode)
    (settings_given rows) (Some (asked_settings_of c.in-Some-settings_in.settings))
    (size_given rows) (Some c.in-Some-count_in.size)
    (first_of (codes "script") rows) (Some c.in_ok-of.field-0)
    (is_flag_given (codes "plan") rows) c.is_flag_in.result (is_flag_given (codes "traffic") rows) c.is_flag_in-2.result
    (first_of (codes "from") rows) c.in_ok-from.from
    (search rules) (search rules) (search rules) script (search rules) (search rules) c.in_ok-from.ensures.named)
    ∙ kept-plan (record {
      mode = c.in-Some.mode;
      settings = asked_settings_of c.in-Some-settings_in.settings;
      plan = c.is_flag_in.result;
      traffic = c.is_flag_in-2.result;
      size = c.in-Some-count_in.size;
      from = c.in_ok-from.from;
      script = c.in_ok-of.field-0;
    }) c.in_ok-from.ensures.allowed
