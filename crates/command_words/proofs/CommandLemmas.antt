-- The command that is built is that of the definitions, and what clap says of it.
use Rattle.std.proofs.Common.{◌≡◌, ◌≢◌, ◌∙◌, ap, ap₂, sym, refl, inl, inr, true, false, eqb, List, [], ◌∷◌, length, Result, Ok, Err, arith}
use Rattle.std.proofs.lemmas.Bool.{ne_eqb}
use Rattle.clap.specs.Words.{AddsArg, App, FailsBy, HasMatchesOf, IsAmong, Kinds, Rule, Text, app_of, fault_of, found_of, is_simple, is_simple_and_free, kind_of, matches_of, rows_of, rule_of, with_rule}
use Rattle.clap.specs.declared.builder.arg.Arg.{Arg}
use Rattle.clap.specs.declared.builder.command.Command.{Command}
use Rattle.clap.specs.declared.error.Error.{Error}
use Rattle.clap.specs.declared.error.kind.ErrorKind.{ErrorKind}
use Rattle.clap.specs.declared.error.kind.ErrorKind.TheVariants as kind
use Rattle.clap.specs.declared.parser.matches.ArgMatches.{ArgMatches}
use Rattle.clap.proofs.OnLiterals.{clap_on_literals}
use Rattle.command_words.specs.Commands.{command, is_read}

pub added : (old new : Command) (a : Arg) (app : App) (rule : Rule) → AddsArg old a new → a.global ≡ false → app_of old ≡ app
    → rule_of a ≡ rule → app_of new ≡ with_rule app rule
added old new a app rule adds local e r = adds.shape local ∙ ap₂ with_rule e r

command-is-free : is_simple_and_free command ≡ true
unfolding clap_on_literals command
command-is-free = refl

command-is-simple : is_simple command ≡ true
unfolding clap_on_literals command
command-is-simple = refl

-- clap's clause on what fails, and what it says of an answer
abbrev pub Fails : App → List Text → Result ArgMatches Error → Type 0
Fails app words r = is_simple_and_free app ≡ true → FailsBy (fault_of app words) r

pub read-at-ok : (app : App) (words : List Text) (m : ArgMatches) → app ≡ command → Fails app words (Ok m) → is_read words ≡ true
read-at-ok app words m e fails =
    let none : fault_of command words ≡ [] = ap (λ a. fault_of a words) (sym e) ∙ fails (ap is_simple_and_free e ∙ command-is-free) in
    ap (λ (ks : Kinds). eqb (length ks) 0) none

pub rows-at-ok : (app : App) (words : List Text) (m : ArgMatches) → app ≡ command → HasMatchesOf app words m
    → rows_of (found_of m) ≡ matches_of command words
rows-at-ok app words m e has = (has (ap is_simple e ∙ command-is-simple)).0 ∙ ap (λ a. matches_of a words) e

among-some : (k : ErrorKind) (ks : Kinds) → IsAmong k ks → eqb (length ks) 0 ≡ false
among-some k [] h = absurd h
among-some k (x ∷ xs) h = ne_eqb (length (x ∷ xs)) 0 (λ e. omega arith)

pub refused-at-err : (app : App) (words : List Text) (error : Error) → app ≡ command → Fails app words (Err error)
    → kind_of error ≢ kind.OutOfMemory → is_read words ≡ false
refused-at-err app words error e fails other =
    ap (λ a. eqb (length (fault_of a words)) 0) (sym e)
    ∙ elim (fails (ap is_simple_and_free e ∙ command-is-free)) [
      | inl h ↦ absurd (other h)
      | inr h ↦ among-some (kind_of error) (fault_of app words) h
    ]
