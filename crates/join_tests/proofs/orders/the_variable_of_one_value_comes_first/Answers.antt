use Rattle.std.proofs.Common.{[], ◌∷◌}
use Rattle.std.proofs.lemmas.List.Sorted.{IsPermutation-append_comm}
use Rattle.join_tests.proofs.orders.the_variable_of_one_value_comes_first.Goals as goal

pub estimate-requires-2 : goal.estimate-requires-2
estimate-requires-2 g c = rw (c.in_ok-counts.ensures.variables, c.in_ok-order_of-2.ensures) (IsPermutation-append_comm (0 ∷ []) (1 ∷ []))
