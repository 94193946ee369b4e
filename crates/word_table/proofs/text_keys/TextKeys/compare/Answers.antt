use Rattle.std.proofs.Common.{◌≡◌, ℕ, List, drop, sym, ◌∙◌}
use Rattle.std.specs.Prelude.{IfSome, Option, Some, None}
use Rattle.std.specs.declared.cmp.Ordering.{Ordering}
use Rattle.rel_base.specs.SortKeys.{IsKeyOf}
use Rattle.word_table.specs.Words.{text_order}
use Rattle.word_table.specs.declared.text_keys.TextKeys.{TextKeys}
use Rattle.word_table.specs.inner.TextKeys.{AreKeysOf}
use Rattle.word_table.proofs.TextKeyLemmas.{behind_keys}
use Rattle.word_table.proofs.text_keys.TextKeys.compare.Goals as goal

-- where the first keys are one, the second ones decide
by_second : (found : Option Ordering) (keys others : TextKeys) → keys.first ≡ others.first
    → IfSome found (λ order. (s t : List ℕ) → IsKeyOf s keys.second → IsKeyOf t others.second → order ≡ text_order s t)
    → IfSome found (λ order. (s t : List ℕ) → AreKeysOf s keys → AreKeysOf t others → order ≡ text_order s t)
by_second None keys others same decides = tt
by_second (Some order) keys others same decides =
    λ s t is are. decides (drop 7 s) (drop 7 t) is.second are.second ∙ sym (behind_keys s t keys.first others.first is.first are.first same)

pub returns-in-None : goal.returns-in-None
returns-in-None c = by_second c.decided-in-None.result c.args.self c.args.other c.in-None.ensures.tied c.decided-in-None.ensures.decides
