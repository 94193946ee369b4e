use Rattle.std.proofs.Common.{◌≡◌, ◌++◌, ◌∷◌, [], ap, sym, ◌∙◌, subst, arith}
use Rattle.std.proofs.lemmas.List.{map-append}
use Rattle.std.specs.Borrow.{Bor}
use Rattle.rel_base.specs.declared.rows.Rows.{Rows}
use Rattle.word_table.specs.inner.Unlike.{parts_in, AreUnlike}
use Rattle.word_table.proofs.UnlikeLemmas.{AreUnlike-known, AreUnlike-new, parts-many}
use Rattle.word_table.proofs.unlike.UnlikeParts.add.Goals as goal

pub returns-in-Some : goal.returns-in-Some
returns-in-Some c parts widths had =
    let own = parts_in c.args.self.now.parts.items in
    let own_widths = c.args.self.now.widths.items in
    subst (AreUnlike (parts ++ c.args.rows.now ∷ []) (widths ++ c.args.width ∷ []) own own_widths) (sym c.in_ok-push.ensures.items)
    (AreUnlike-known parts widths own own_widths c.args.self.now.places.items had c.args.rows.now c.args.width c.in-Some.place c.in-Some.ensures.within c.in-Some.ensures.rows c.in-Some.ensures.columns)

pub returns : goal.returns
returns c parts widths had =
    let old = c.args.self.now.parts.items in
    let own_widths = c.args.self.now.widths.items in
    let places = c.args.self.now.places.items in
    let lent : parts_in c.push-3.new.self.items ≡ parts_in old ++ c.args.rows.now ∷ [] =
    ap parts_in c.in_ok-push-3.ensures.items ∙ map-append (λ (rows : Bor Rows). rows.now) old (c.args.rows ∷ []) in
    let is = AreUnlike-new parts widths (parts_in old) own_widths places had c.args.rows.now c.args.width c.len.result (omega (arith, c.len.ensures, c.args.self.now.parts.ok.0, parts-many old)) in
    subst (λ own. AreUnlike (parts ++ c.args.rows.now ∷ []) (widths ++ c.args.width ∷ []) own c.push-4.new.self.items c.push-2.new.self.items) (sym lent)
    (subst (λ ws. AreUnlike (parts ++ c.args.rows.now ∷ []) (widths ++ c.args.width ∷ []) (parts_in old ++ c.args.rows.now ∷ []) ws c.push-2.new.self.items) (sym c.in_ok-push-4.ensures.items)
    (subst (AreUnlike (parts ++ c.args.rows.now ∷ []) (widths ++ c.args.width ∷ []) (parts_in old ++ c.args.rows.now ∷ []) (own_widths ++ c.args.width ∷ [])) (sym c.in_ok-push-2.ensures.items) is))
