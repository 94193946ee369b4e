use Rattle.std.proofs.Common.{◌≡◌, ℕ, ◌+◌, ◌^◌, ◌<◌, ◌≤◌, List, [], ◌∷◌, ◌++◌, All, length, get_or, take, sym, subst, rules, arith}
use Rattle.std.specs.Prelude.{Contains}
use Rattle.std.proofs.lemmas.List.{take_all, take_more, get_or_default}
use Rattle.word_table.proofs.RangeLemmas.{between-more, kept-stands}
use Rattle.word_table.proofs.columns.range_of.Goals as goal

pub loop-word-preserved : goal.loop-word-preserved
loop-word-preserved c =
    let words = c.args.words.now in
    let place = c.loop-word.word-index in
    let word : ℕ = get_or words place 0 in
    let there : place < length words = omega arith in
    let next : take (place + 1) words ≡ take place words ++ word ∷ [] = take_more words place 0 there in
    let stands : Contains words word = (place, there, get_or_default words place word 0 there) in
    let small : word < 2 ^ 64 = search rules in
    let least = c.min-least.ensures in
    let greatest = c.max-greatest.ensures in
    let none = c.loop-word.invariant.none in
    record {
      within = subst (All (λ w. (c.min-least.result ≤ w) × (w ≤ c.max-greatest.result))) (sym next)
          (between-more (take place words) c.loop-word.least c.loop-word.greatest word c.min-least.result c.max-greatest.result c.loop-word.invariant.within (omega arith) (omega arith) (omega arith) (omega arith));
      none = λ e. absurd (omega arith);
      least = λ _. kept-stands words place c.loop-word.least word c.min-least.result stands c.loop-word.invariant.least
          (λ e. let start = none e in omega (arith, start.0)) (λ less. omega arith) (λ more. omega arith);
      greatest = λ _. kept-stands words place c.loop-word.greatest word c.max-greatest.result stands c.loop-word.invariant.greatest
          (λ e. let start = none e in omega (arith, start.1)) (λ less. omega arith) (λ more. omega arith);
    }

pub returns : goal.returns
returns c some =
    let words = c.args.words.now in
    let all : take c.loop-word.word-index words ≡ words = take_all c.loop-word.word-index words (omega arith) in
    record {
      least = c.loop-word.invariant.least (omega arith);
      greatest = c.loop-word.invariant.greatest (omega arith);
      within = subst (λ (ws : List ℕ). All (λ w. (c.loop-word.least ≤ w) × (w ≤ c.loop-word.greatest)) ws) all c.loop-word.invariant.within;
    }
