use Rattle.std.proofs.Common.{◌≡◌, ℕ, List, All, Result, Ok, Err, IfOk, subst, sym}
use Rattle.word_table.specs.Words.{IsAscending, IsDictionaryOf, IsHeld}
use Rattle.word_table.proofs.BuildLemmas.{dictionary_from_sort, held_by_dictionary}
use Rattle.word_table.proofs.dictionary.Dictionary.build.Goals as goal

pub of_strings-requires : goal.of_strings-requires
of_strings-requires c =
    let built =
    dictionary_from_sort c.args.parts.now c.in_ok-strings.strings.items
    c.sort_unstable.new.self.items c.dedup.new.self.items c.in_ok-strings.ensures
    c.sort_unstable.ensures.permutation c.sort_unstable.ensures.sorted c.dedup.ensures.filtered in
    subst IsAscending (sym c.as_slice.ensures.value) built.ascending

-- what holds of the strings holds of the dictionary of them, where there is one
of_dictionary : {E : Type 0} (made : Result (List (List ℕ)) E) (P : List (List ℕ) → Type 0)
    (strings : List (List ℕ)) → IfOk made (λ d. d ≡ strings) → P strings → IfOk made P
of_dictionary (Ok d) P strings is holds = subst P (sym is) holds
of_dictionary (Err e) P strings is holds = tt

pub returns-clause-strings : goal.returns-clause-strings
returns-clause-strings c =
    let built =
    dictionary_from_sort c.args.parts.now c.in_ok-strings.strings.items
    c.sort_unstable.new.self.items c.dedup.new.self.items c.in_ok-strings.ensures
    c.sort_unstable.ensures.permutation c.sort_unstable.ensures.sorted c.dedup.ensures.filtered in
    of_dictionary c.of_strings.result (IsDictionaryOf c.args.parts.now)
    c.as_slice.result.now c.of_strings.ensures
    (subst (IsDictionaryOf c.args.parts.now) (sym c.as_slice.ensures.value) built)

pub returns-clause-held : goal.returns-clause-held
returns-clause-held c =
    let built =
    dictionary_from_sort c.args.parts.now c.in_ok-strings.strings.items
    c.sort_unstable.new.self.items c.dedup.new.self.items c.in_ok-strings.ensures
    c.sort_unstable.ensures.permutation c.sort_unstable.ensures.sorted c.dedup.ensures.filtered in
    of_dictionary c.of_strings.result (λ made. All (All (All (IsHeld made))) c.args.parts.now)
    c.as_slice.result.now c.of_strings.ensures
    (held_by_dictionary c.args.parts.now c.as_slice.result.now
    (subst (IsDictionaryOf c.args.parts.now) (sym c.as_slice.ensures.value) built))
