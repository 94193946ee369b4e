use Rattle.std.proofs.Common.{◌≡◌, ℕ, ◌+◌, ◌^◌, ◌<◌, ◌∷◌, ◌++◌, [], List, All, length, get_or, ap, ◌∙◌, sym, subst, arith, rules, inl, inr, length-append}
use Rattle.std.proofs.lemmas.Bool.{cases_lt}
use Rattle.std.proofs.lemmas.List.{get_or_append_left, get_or-append-add}
use Rattle.std.proofs.lemmas.List.Elements.{All-push}
use Rattle.std.proofs.lemmas.Iterator.Consumers.{YieldsList-turn, YieldsList-end}
use Rattle.std.proofs.lemmas.Iterator.Adapters.{YieldsList-from_vec}
use Rattle.word_table.specs.WordTables.{WordTable, table_by_columns}
use Rattle.word_table.specs.Words.{word_of}
use Rattle.word_table.specs.declared.occurrences.GatheredColumn.{GatheredColumn}
use Rattle.word_table.specs.inner.Gathered.{values_at, IsGathered, IsGatheredPart}
use Rattle.word_table.proofs.EncodeLemmas.{gathered-even, gathered-rows}
use Rattle.word_table.proofs.occurrences.GatheredPart.table.Goals as goal

pub ranked-requires : goal.ranked-requires
ranked-requires c =
    let t = YieldsList-turn (YieldsList-from_vec c.args.self.columns.items (search rules) (search rules)) c.loop-column.yielded c.loop-column.column-iterator c.loop-column.yielded_by c.next.result c.next.new.self c.in-Some.column c.in-Some.is c.next.ensures.steps in
    let place = length c.loop-column.yielded in
    let own : GatheredColumn = c.in-Some.column in
    let values = values_at c.requires.0 place in
    (values, c.requires.2, c.requires.3, subst (λ (g : GatheredColumn). IsGathered values g.words.items g.places.items c.requires.2) (sym t.1) (c.requires.4.columns place own t.0), c.requires.5)

pub loop-column-preserved : goal.loop-column-preserved
loop-column-preserved c =
    let t = YieldsList-turn (YieldsList-from_vec c.args.self.columns.items (search rules) (search rules)) c.loop-column.yielded c.loop-column.column-iterator c.loop-column.yielded_by c.next.result c.next.new.self c.in-Some.column c.in-Some.is c.next.ensures.steps in
    let place = length c.loop-column.yielded in
    let own : GatheredColumn = c.in-Some.column in
    let had = c.loop-column.columns.items in
    let made : List ℕ = c.ranked.result in
    let long = c.loop-column.invariant.long in
    let more : length (c.loop-column.yielded ++ own ∷ []) ≡ place + 1 = length-append c.loop-column.yielded (own ∷ []) in
    let added = c.in_ok-push.ensures.items in
    record {
      long = omega (arith, ap length added, length-append had (made ∷ []), more, long);
      words = λ values found strings k d h gathered are. elim (cases_lt k place) [
        | inl less ↦
            ap (λ (l : List (List ℕ)). get_or l k d) added ∙ get_or_append_left had (made ∷ []) d k (omega arith)
            ∙ c.loop-column.invariant.words values found strings k d less gathered are
        | inr end ↦
            let same : place ≡ k = omega (arith, more) in
            let at : k ≡ length had + 0 = omega arith in
            ap (λ (l : List (List ℕ)). get_or l k d) added ∙ ap (λ n. get_or (had ++ made ∷ []) n d) at ∙ get_or-append-add had (made ∷ []) 0 d
            ∙ c.ranked.ensures.words values found strings
            (subst (λ (g : GatheredColumn). IsGathered values g.words.items g.places.items found) (ap (λ n. get_or c.args.self.columns.items n own) (sym same) ∙ sym t.1) (gathered own)) are
      ];
      fit = subst (All (All (λ word. word < 2 ^ 64))) (sym added) (All-push (All (λ word. word < 2 ^ 64)) had made c.loop-column.invariant.fit c.ranked.ensures.fit);
    }

pub of_columns-requires-clause-many : goal.of_columns-requires-clause-many
of_columns-requires-clause-many c =
    let all = YieldsList-end (YieldsList-from_vec c.args.self.columns.items (search rules) (search rules)) c.loop-column.yielded c.loop-column.column-iterator c.loop-column.yielded_by c.next.result c.next.new.self c.in-None.is c.next.ensures.steps in
    let gathered : IsGatheredPart c.requires.0 c.requires.1 c.args.self c.requires.2 = c.requires.4 in
    c.loop-column.invariant.long ∙ all.1 ∙ gathered.many ∙ sym gathered.as_wide

pub of_columns-requires-clause-even : goal.of_columns-requires-clause-even
of_columns-requires-clause-even c =
    let all = YieldsList-end (YieldsList-from_vec c.args.self.columns.items (search rules) (search rules)) c.loop-column.yielded c.loop-column.column-iterator c.loop-column.yielded_by c.next.result c.next.new.self c.in-None.is c.next.ensures.steps in
    let gathered : IsGatheredPart c.requires.0 c.requires.1 c.args.self c.requires.2 = c.requires.4 in
    let many = c.loop-column.invariant.long ∙ all.1 ∙ gathered.many in
    let total = gathered.many in
    let even = gathered-even (word_of c.requires.3) c.requires.0 c.requires.1 gathered.wide c.loop-column.columns.items many
    (λ k d h. c.loop-column.invariant.words (values_at c.requires.0 k) c.requires.2 c.requires.3 k d (omega (arith, all.1, total, h)) (λ g. gathered.columns k g (omega (arith, total, h))) c.requires.5) in
    λ k d h. even k d h ∙ sym gathered.counted

pub of_columns-requires-clause-fit : goal.of_columns-requires-clause-fit
of_columns-requires-clause-fit c = c.loop-column.invariant.fit

pub returns : goal.returns
returns c rows width found strings gathered are =
    let all = YieldsList-end (YieldsList-from_vec c.args.self.columns.items (search rules) (search rules)) c.loop-column.yielded c.loop-column.column-iterator c.loop-column.yielded_by c.next.result c.next.new.self c.in-None.is c.next.ensures.steps in
    let many = c.loop-column.invariant.long ∙ all.1 ∙ gathered.many in
    let total = gathered.many in
    let words = c.loop-column.columns.items in (
      ap (λ (t : WordTable). t.columns) c.in_ok-table.ensures ∙ gathered.as_wide,
      ap (λ (t : WordTable). t.rows) c.in_ok-table.ensures
          ∙ (λ i. (table_by_columns (gathered.as_wide i) (gathered.counted i) words).rows)
          ∙ gathered-rows (word_of strings) rows width gathered.wide words many
          (λ k d h. c.loop-column.invariant.words (values_at rows k) found strings k d (omega (arith, all.1, total, h)) (λ g. gathered.columns k g (omega (arith, total, h))) are),
    )
