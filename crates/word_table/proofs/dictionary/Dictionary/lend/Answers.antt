use Rattle.std.proofs.Common.{◌≡◌, ◌<◌, ◌∙◌, ℕ, List, [], length, get_or, subst, sym}
use Rattle.std.proofs.lemmas.List.{get_or_default}
use Rattle.rel_base.specs.declared.values.ColType.TheVariants as kind
use Rattle.rel_base.specs.declared.values.Value.TheVariants as variant
use Rattle.word_table.specs.Words.{IsAscending, IsWordOf}
use Rattle.word_table.proofs.WordLemmas.{one_value, place_of_word, word_of_place}
use Rattle.word_table.proofs.dictionary.Dictionary.lend.Goals as goal

pub at-requires : goal.at-requires
at-requires c =
    let held = subst (λ all. IsWordOf all c.requires.0 kind.Str c.args.word) (sym c.self.view_is) c.requires.1 in
    place_of_word c.self.inside.texts c.requires.0 c.args.word c.self.invariant held

pub returns-clause-value : goal.returns-clause-value
returns-clause-value c =
    let strings = c.self.inside.texts in
    let word = c.args.word in
    let s : List ℕ = c.at.result.now in
    let held = subst (λ all. IsWordOf all c.requires.0 kind.Str word) (sym c.self.view_is) c.requires.1 in
    let within : word < length strings = place_of_word strings c.requires.0 word c.self.invariant held in
    let read : s ≡ get_or strings word s = c.at.ensures ∙ get_or_default strings word [] s within in
    let is = word_of_place strings s word c.self.invariant within read in
    subst (λ all. IsWordOf all (variant.Str s) kind.Str word) c.self.view_is is

pub returns-clause-undoes : goal.returns-clause-undoes
returns-clause-undoes c =
    let up : IsAscending c.args.self.now = subst IsAscending c.self.view_is c.self.invariant in
    λ v is. one_value c.args.self.now _ v kind.Str c.args.word up (returns-clause-value c) is
