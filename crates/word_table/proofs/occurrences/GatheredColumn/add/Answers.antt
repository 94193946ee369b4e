use Rattle.std.proofs.Common.{◌≡◌, ℕ, Bool, true, false, List, ◌++◌, ◌∷◌, [], length, refl, ap, ◌∙◌, sym, subst, arith, rules}
use Rattle.std.specs.Prelude.{FitsSigned}
use Rattle.std.specs.Int.{w64}
use Rattle.std.proofs.lemmas.Int.{to_z-of_z}
use mir.Val.{to_z, of_z, bool_byte}
use Rattle.rel_base.specs.declared.values.Value.TheVariants as variant
use Rattle.word_table.specs.Words.{strings_of_value, int_word, bool_word, word_of, HasWord}
use Rattle.word_table.specs.declared.numbering.Numbering.{Numbering}
use Rattle.word_table.specs.declared.occurrences.GatheredColumn.{GatheredColumn}
use Rattle.word_table.specs.inner.Gathered.{AddsString, IsGathered}
use Rattle.word_table.proofs.GatherLemmas.{IsGathered-plain, IsGathered-string}
use Rattle.word_table.proofs.occurrences.GatheredColumn.add.Goals as goal
use Rattle.word_table.proofs.occurrences.GatheredColumn.add.Goals.{in-Int, in-Bool, in-Str+in_ok-push-in-Str+in_ok-word-in-Str}

-- the byte of a truth value is its word
byte_is : (b : Bool) → bool_byte b ≡ bool_word b
byte_is true = refl
byte_is false = refl

pub returns-clause-gathered : goal.returns-clause-gathered
returns-clause-gathered c done had =
    let v = c.args.value.now in
    let words = c.args.self.now.words.items in
    let places = c.args.self.now.places.items in
    let found = c.args.strings.now.found.items in
    let now = λ (g : GatheredColumn) (n : Numbering). IsGathered (done ++ v ∷ []) (g.words.items ++ c.match-value.word ∷ []) g.places.items n.found.items in
    let pushed = λ (before : IsGathered (done ++ v ∷ []) (c.match-value.self.words.items ++ c.match-value.word ∷ []) c.match-value.self.places.items c.match-value.strings.found.items).
    subst (λ (ws : List ℕ). IsGathered (done ++ v ∷ []) ws c.match-value.self.places.items c.match-value.strings.found.items) (sym c.in_ok-push.ensures.items) before in
    elim c.match-value.branch [
      | in-Int w ↦
          let is : v ≡ variant.Int w.in-Int.number = w.in-Int.is in
          let fits : FitsSigned w64 w.in-Int.number = search rules in
          let back : to_z w64 (of_z w64 w.in-Int.number) ≡ w.in-Int.number = to_z-of_z w64 w.in-Int.number fits in
          let has = IsGathered-plain done v words places c.match-value.word found had (ap strings_of_value is)
          (λ all. (subst (HasWord all) (sym is) fits, w.word-is ∙ w.word_of_int-word.ensures ∙ ap int_word back ∙ ap (word_of all) (sym is))) in
          pushed (subst (λ g. now g c.match-value.strings) (sym w.self-is) (subst (now c.args.self.now) (sym w.strings-is) has))
      | in-Bool w ↦
          let is : v ≡ variant.Bool w.in-Bool.truth = w.in-Bool.is in
          let has = IsGathered-plain done v words places c.match-value.word found had (ap strings_of_value is)
          (λ all. (subst (HasWord all) (sym is) tt, w.word-is ∙ w.from-word.ensures ∙ byte_is w.in-Bool.truth ∙ ap (word_of all) (sym is))) in
          pushed (subst (λ g. now g c.match-value.strings) (sym w.self-is) (subst (now c.args.self.now) (sym w.strings-is) has))
      | in-Str+in_ok-push-in-Str+in_ok-word-in-Str w ↦
          let s = w.in-Str.text in
          let more = w.number_of.new.self.found.items in
          let added : AddsString found more s c.match-value.word =
          subst (AddsString found more s) (sym w.word-is) (subst (λ t. AddsString found more t w.in_ok-word-in-Str.word) w.as_str.ensures w.in_ok-word-in-Str.ensures) in
          let has = IsGathered-string done v words places c.match-value.word found had s w.in-Str.is more added in
          let place : w.len.result ≡ length words = omega (arith, w.len.ensures, c.args.self.now.words.ok.0) in
          let behind : w.push.new.self.items ≡ places ++ length words ∷ [] = w.in_ok-push-in-Str.ensures.items ∙ (λ i. places ++ place i ∷ []) in
          let here = subst (λ (ps : List ℕ). IsGathered (done ++ v ∷ []) (words ++ c.match-value.word ∷ []) ps more) (sym behind) has in
          pushed (subst (λ g. now g c.match-value.strings) (sym w.self-is)
          (subst (λ (n : Numbering). IsGathered (done ++ v ∷ []) (words ++ c.match-value.word ∷ []) w.push.new.self.items n.found.items) (sym w.strings-is) here))
    ]
