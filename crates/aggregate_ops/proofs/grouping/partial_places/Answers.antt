use Rattle.std.proofs.Common.{◌∙◌, ap, map}
use Rattle.std.proofs.lemmas.Result.{IfOk-weaker}
use Rattle.algebra.specs.Trees.{kind_of_emit}
use Rattle.aggregate_ops.specs.Columns.{key_places}
use Rattle.aggregate_ops.proofs.grouping.partial_places.Goals as goal

pub returns : goal.returns
returns c = IfOk-weaker c.key_places.result _ _ (λ made is. is ∙ ap key_places (ap (map kind_of_emit) c.deref.ensures.value ∙ c.in_ok-kinds.ensures)) c.key_places.ensures
