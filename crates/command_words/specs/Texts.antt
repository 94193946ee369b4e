-- What the text of an option says.
--
--   is_numeral text                   it has a digit, and nothing but digits
--   number_within least most text     the number that the text writes, where it lies within the limits
--   mode_of text ..                   the choice that the text names, in just these letters
use Rattle.std.specs.Prelude.{◌==◌, ◌&&◌, ℕ, Bool, List, Option, Some, None, not, nat_lt, length, codes, if◌then◌else◌}
use Rattle.std.specs.Char.{is_ascii_digit}
use Rattle.std.specs.List.{list_all}
use Rattle.std.specs.Str.{bytes_eq}
use Rattle.std.specs.Str.Parse.{digits_value}
use Rattle.algebra.specs.declared.settings.ShuffleKind.{ShuffleKind}
use Rattle.algebra.specs.declared.settings.ShuffleKind.TheVariants.{Hc, Rs, Br}
use Rattle.algebra.specs.declared.settings.JoinKind.{JoinKind}
use Rattle.algebra.specs.declared.settings.JoinKind.TheVariants.{Tj, Hj}
use Rattle.command_words.specs.declared.requests.Mode.{Mode}
use Rattle.command_words.specs.declared.requests.Mode.TheVariants.{Run, Check, Explain, Trial, Export, Replay}

abbrev pub is_numeral : List ℕ → Bool
is_numeral text = not (length text == 0) && list_all is_ascii_digit text

-- whether the number is at least the one and at most the other
abbrev pub lies_within : ℕ → ℕ → ℕ → Bool
lies_within least most number = not (nat_lt number least) && not (nat_lt most number)

abbrev pub number_within : ℕ → ℕ → List ℕ → Option ℕ
number_within least most text =
    if is_numeral text && lies_within least most (digits_value 10 text)
    then Some (digits_value 10 text) else None

abbrev pub mode_of : List ℕ → Option Mode
mode_of text =
    if bytes_eq text (codes "run") then Some Run
    else if bytes_eq text (codes "check") then Some Check
    else if bytes_eq text (codes "explain") then Some Explain
    else if bytes_eq text (codes "trial") then Some Trial
    else if bytes_eq text (codes "export") then Some Export
    else if bytes_eq text (codes "replay") then Some Replay
    else None

abbrev pub shuffle_of : List ℕ → Option ShuffleKind
shuffle_of text =
    if bytes_eq text (codes "hc") then Some Hc
    else if bytes_eq text (codes "rs") then Some Rs
    else if bytes_eq text (codes "br") then Some Br
    else None

abbrev pub join_of : List ℕ → Option JoinKind
join_of text =
    if bytes_eq text (codes "tj") then Some Tj
    else if bytes_eq text (codes "hj") then Some Hj
    else None
