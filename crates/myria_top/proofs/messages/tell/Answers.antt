use Rattle.std.proofs.Common.{◌≡◌, sym, ap, List, ℕ}
use Rattle.myria_top.specs.declared.outcomes.Outcome.{Outcome}
use Rattle.myria_top.specs.declared.outcomes.Outcome.TheVariants as outcome
use Rattle.myria_top.specs.Outcomes.{line_of}
use Rattle.output_texts.proofs.PieceLemmas.{offers_line}
use Rattle.myria_top.proofs.messages.tell.Goals as goal

said : (name : List ℕ) (answer other : Outcome) → answer ≡ other → line_of name other ≡ line_of name answer
said name answer other is = ap (line_of name) (sym is)

pub returns-in-Usage : goal.returns-in-Usage
returns-in-Usage g c = offers_line _ _ _ _ (said c.args.name.now c.args.answer.now outcome.Usage c.in-Usage.is) c.offer_all.ensures

pub returns-in-NoScript : goal.returns-in-NoScript
returns-in-NoScript g c =
    offers_line _ _ _ _ (said c.args.name.now c.args.answer.now outcome.NoScript c.in-NoScript.is) c.offer_all-in-NoScript.ensures

pub returns-in-ScriptTooLong : goal.returns-in-ScriptTooLong
returns-in-ScriptTooLong g c =
    offers_line _ _ _ _ (said c.args.name.now c.args.answer.now outcome.ScriptTooLong c.in-ScriptTooLong.is) c.offer_all-in-ScriptTooLong.ensures

pub returns-in-ScriptNotText : goal.returns-in-ScriptNotText
returns-in-ScriptNotText g c =
    offers_line _ _ _ _ (said c.args.name.now c.args.answer.now outcome.ScriptNotText c.in-ScriptNotText.is) c.offer_all-in-ScriptNotText.ensures

pub returns-in-NoPlan : goal.returns-in-NoPlan
returns-in-NoPlan g c =
    offers_line _ _ _ _ (said c.args.name.now c.args.answer.now outcome.NoPlan c.in-NoPlan.is) c.offer_all-in-NoPlan.ensures

pub returns-in-PlanTooLong : goal.returns-in-PlanTooLong
returns-in-PlanTooLong g c =
    offers_line _ _ _ _ (said c.args.name.now c.args.answer.now outcome.PlanTooLong c.in-PlanTooLong.is) c.offer_all-in-PlanTooLong.ensures

pub returns-in-BadPlan : goal.returns-in-BadPlan
returns-in-BadPlan g c =
    offers_line _ _ _ _ (said c.args.name.now c.args.answer.now outcome.BadPlan c.in-BadPlan.is) c.offer_all-in-BadPlan.ensures
