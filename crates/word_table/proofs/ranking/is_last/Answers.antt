use Rattle.std.proofs.Common.{◌≡◌, ◌-◌, [], length, get_or, ap, ◌∙◌, sym, subst}
use Rattle.std.specs.Ordering.{is_eq}
use Rattle.std.specs.declared.cmp.Ordering.TheVariants.{Equal}
use Rattle.std.proofs.lemmas.Cmp.{tied_itself, nat_list_cmp_total}
use Rattle.word_table.specs.Words.{text_order}
use Rattle.word_table.proofs.BuildLemmas.{equal_from_test}
use Rattle.word_table.proofs.WordLemmas.{same_text}
use Rattle.word_table.proofs.ranking.is_last.Goals as goal

pub returns-in-Some : goal.returns-in-Some
returns-in-Some c =
    let last = c.in-Some.last.now in
    let s = c.args.string.now in
    let at : last ≡ get_or c.args.strings.now (length c.args.strings.now - 1) [] = c.in-Some.ensures.item.3.1 [] in
    let order : c.eq.result ≡ is_eq (text_order last s) = c.eq.ensures in (
      (λ yes. (c.in-Some.ensures.item.3.0, sym at ∙ same_text last s (equal_from_test (text_order last s) (sym order ∙ yes)))),
      (λ is.
          let same : last ≡ s = at ∙ is.1 in
          let tied : text_order last s ≡ Equal = subst (λ t. text_order last t ≡ Equal) same (tied_itself nat_list_cmp_total last) in
          order ∙ ap is_eq tied),
    )
