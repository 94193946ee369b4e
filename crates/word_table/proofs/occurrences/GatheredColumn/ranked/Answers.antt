use Rattle.std.proofs.Common.{◌<◌, All, AllPairs, length, get_or, ◌∙◌, sym, subst}
use Rattle.word_table.specs.inner.Gathered.{HasRanks}
use Rattle.word_table.proofs.RankLemmas.{gathered-within, gathered-numbers, ranked-words}
use Rattle.word_table.proofs.occurrences.GatheredColumn.ranked.Goals as goal

pub put_ranks-requires-clause-within : goal.put_ranks-requires-clause-within
put_ranks-requires-clause-within c =
    let words = c.args.self.words.items in
    subst (All (λ q. q < length words)) (sym c.as_slice.ensures.value)
    (gathered-within c.requires.0 words c.args.self.places.items c.requires.1 c.requires.2 c.args.ranks.now c.requires.3 c.requires.4)

pub put_ranks-requires-clause-ascending : goal.put_ranks-requires-clause-ascending
put_ranks-requires-clause-ascending c =
    subst (AllPairs (λ p q. p < q)) (sym c.as_slice.ensures.value) c.requires.3.ascending

pub put_ranks-requires-clause-numbers : goal.put_ranks-requires-clause-numbers
put_ranks-requires-clause-numbers c =
    let words = c.args.self.words.items in
    subst (All (λ q. get_or words q 0 < length c.args.ranks.now)) (sym c.as_slice.ensures.value)
    (gathered-numbers c.requires.0 words c.args.self.places.items c.requires.1 c.requires.2 c.args.ranks.now c.requires.3 c.requires.4)

pub returns-clause-words : goal.returns-clause-words
returns-clause-words c values found strings gathered are =
    let words = c.args.self.words.items in
    let places = c.args.self.places.items in
    let new = c.put_ranks.new.words.items in
    let put : HasRanks places c.args.ranks.now words new =
    subst (λ ps. HasRanks ps c.args.ranks.now words new) c.as_slice.ensures.value c.put_ranks.ensures in
    c.of.ensures.words ∙ ranked-words values words places found strings c.args.ranks.now gathered are new put
