use Rattle.std.proofs.Common.{◌≡◌, ◌∙◌, ◌++◌, ◌∷◌, [], List, ℕ, ap, sym, subst}
use Rattle.std.specs.Prelude.{OnOk}
use Rattle.myrial_ast.specs.Classes.{joins_items}
use Rattle.myrial_types.proofs.ClassesLemmas.{variable-later, variable-apart, variable-one}
use Rattle.myrial_types.proofs.classes.push_variable.Goals as goal

pub returns-then-not-is_first : goal.returns-then-not-is_first
returns-then-not-is_first c =
    variable-later c.args.widths.now c.args.leaders.now c.args.column c.args.into.now (sym c.is_first.ensures ∙ c.if-not-is_first.true)

pub returns-then-not-joins_items : goal.returns-then-not-joins_items
returns-then-not-joins_items c =
    let class = c.as_slice.ensures.value ∙ c.in_ok-class.ensures in
    variable-apart c.args.widths.now c.args.leaders.now c.args.column c.args.into.now (sym c.is_first.ensures ∙ c.if-not-is_first.false)
    (ap (joins_items c.args.widths.now) (sym class) ∙ (sym c.joins_items.ensures ∙ c.if-not-joins_items.true))

pub returns : goal.returns
returns c =
    let class = c.as_slice.ensures.value ∙ c.in_ok-class.ensures in
    let one = variable-one c.args.widths.now c.args.leaders.now c.args.column c.args.into.now (sym c.is_first.ensures ∙ c.if-not-is_first.false)
    (ap (joins_items c.args.widths.now) (sym class) ∙ (sym c.joins_items.ensures ∙ c.if-not-joins_items.false)) in
    let P : List (List ℕ) → Type 0 = λ found. OnOk c.push.result (c.push.new.self ≡ found) in
    subst P (ap (λ v. c.args.into.now ++ v ∷ []) c.in_ok-class.ensures ∙ one) c.push.ensures.ok
