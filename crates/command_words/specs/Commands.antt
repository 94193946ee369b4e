-- The command of the program, as what clap reads of it.
--
--   command          nine options that take one text, three flags, and the script
--   is_read words    whether clap reads the words, by its own definition of what fails
use Rattle.std.specs.Prelude.{◌==◌, Bool, List, Some, true, codes, length}
use Rattle.clap.specs.declared.builder.action.ArgAction.TheVariants.{Set, SetTrue}
use Rattle.clap.specs.Words.{App, Rule, Text, fault_of, new_app, new_rule, with_rule}

-- an option that takes one text
abbrev pub option_rule : Text → Rule
option_rule name = record (new_rule name) { long = Some name; action = Some Set }

-- an option that takes none
abbrev pub flag_rule : Text → Rule
flag_rule name = record (new_rule name) { long = Some name; action = Some SetTrue }

-- a word that must be there
abbrev pub word_rule : Text → Rule
word_rule name = record (new_rule name) { required = true; action = Some Set }

abbrev pub with_option : Text → App → App
with_option name app = with_rule app (option_rule name)

abbrev pub with_flag : Text → App → App
with_flag name app = with_rule app (flag_rule name)

unfoldable pub command : App
command =
    let run = with_option (codes "mode") (new_app (codes "myria")) in
    let sized = with_option (codes "batch")
    (with_option (codes "capacity") (with_option (codes "workers") run)) in
    let joined = with_option (codes "join")
    (with_option (codes "shuffle") (with_option (codes "seed") sized)) in
    let printed = with_flag (codes "traffic") (with_flag (codes "plan") joined) in
    let reduced = with_flag (codes "reduce") printed in
    let named = with_option (codes "from") (with_option (codes "size") reduced) in
    with_rule named (word_rule (codes "script"))

-- the words are those of the command line, the program's name first
abbrev pub is_read : List Text → Bool
is_read words = length (fault_of command words) == 0
