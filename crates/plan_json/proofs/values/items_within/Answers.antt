use Rattle.std.proofs.Common.{◌∙◌, length, Some, refl, sym, ap}
use Rattle.std.proofs.lemmas.Bool.{le-leb, lt-leb}
use Rattle.serde_json.specs.View.{items_view, view}
use Rattle.plan_json.proofs.ValueLemmas.{items_told}
use Rattle.plan_json.proofs.values.items_within.Goals as goal

pub returns-then-items-most : goal.returns-then-items-most
returns-then-items-most c =
    let items = c.as_slice-items.result.now in
    let array = ap (λ vs. Some (items_view vs)) c.as_slice-items.ensures.value ∙ c.in_ok-as_array.ensures in
    sym (items_told c.args.most items (view c.args.value.now) array ∙ rw (lt-leb (length items) c.args.most c.if-items-most.true) refl)

pub returns : goal.returns
returns c =
    let items = c.as_slice-items.result.now in
    let array = ap (λ vs. Some (items_view vs)) c.as_slice-items.ensures.value ∙ c.in_ok-as_array.ensures in
    sym (items_told c.args.most items (view c.args.value.now) array ∙ rw (le-leb (length items) c.args.most c.if-items-most.false) refl)
