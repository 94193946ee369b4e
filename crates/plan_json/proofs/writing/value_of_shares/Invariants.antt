use Rattle.std.proofs.Common.{◌≡◌, map, take}
use Rattle.serde_json.specs.View.{view}
use Rattle.plan_json.specs.PlanTexts.{whole}
use Rattle.plan_json.proofs.writing.value_of_shares.Given as goal

abbrev pub invariant-loop-share : goal.invariant-loop-share
invariant-loop-share l = map view l.numbers.items ≡ map whole (take l.share-index l.shares)
