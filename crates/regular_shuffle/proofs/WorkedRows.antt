-- Worked cases, computed: four numbers at two workers, joined with themselves. The hash seed is 0.
use Rattle.std.proofs.Common.{◌≡◌, ℕ, List, [], ◌∷◌, map, refl}
use Rattle.std.specs.Prelude.{pos}
use Rattle.rel_base.specs.declared.values.ColType.TheVariants as kind
use Rattle.rel_base.specs.declared.values.Value.TheVariants as value
use Rattle.myrial_ast.specs.Scalars.{At}
use Rattle.myrial_ast.specs.Combinations.{Row, Rows}
use Rattle.algebra.specs.declared.notes.Exchange.TheVariants as exchange
use Rattle.algebra.specs.Trees.{Shape}
use Rattle.placement.specs.Exchanges.{PlacedExchange}
use Rattle.placement.specs.Layouts.{Broadcast, by_worker, rows_of, staying_atom, join_parts}
use Rattle.row_exchange.specs.Moves.{sent, received, rows_given}
use Rattle.routed_joins.specs.PlacedJoins.{placed_items}
use Rattle.regular_shuffle.specs.KeySpreads.{key_home, moves_by_key}
use Rattle.regular_shuffle.specs.BroadcastJoins.{moves_to_all}
use Rattle.regular_shuffle.specs.TwoWayJoins.{notes_of, over_steps, steps_of}

abbrev number : ℕ → Row
number n = value.Int (pos n) ∷ []

abbrev numbers : List ℕ → Rows
numbers ns = map number ns

-- rows 0 and 2 lie at worker 0, rows 1 and 3 at worker 1
abbrev fours : List Rows
fours = numbers (0 ∷ 2 ∷ []) ∷ numbers (1 ∷ 3 ∷ []) ∷ []

-- [from R as r, S as s where r.x = s.x emit r.x]
abbrev joined : Shape
joined = record {
  atoms = record { kinds = kind.Int ∷ []; keeps = [] } ∷ record { kinds = kind.Int ∷ []; keeps = [] } ∷ [];
  variables = (0 ∷ 1 ∷ []) ∷ [];
  plain = [];
  arith = [];
  emits = At 0 ∷ [];
}

pub homes-fours : map (λ n. key_home 0 2 (0 ∷ []) (number n)) (0 ∷ 1 ∷ 2 ∷ 3 ∷ []) ≡ 0 ∷ 1 ∷ 1 ∷ 0 ∷ []
homes-fours = refl

-- a key of no columns has its home at worker 0
pub homes-none : map (λ n. key_home 0 2 [] (number n)) (0 ∷ 1 ∷ 2 ∷ 3 ∷ []) ≡ 0 ∷ 0 ∷ 0 ∷ 0 ∷ []
homes-none = refl

pub sent-fours : map (sent (moves_by_key 0 2 (0 ∷ []) fours)) (0 ∷ 1 ∷ []) ≡ 2 ∷ 2 ∷ []
sent-fours = refl

pub received-fours : map (received (moves_by_key 0 2 (0 ∷ []) fours)) (0 ∷ 1 ∷ []) ≡ 2 ∷ 2 ∷ []
received-fours = refl

pub given-fours : rows_given (moves_by_key 0 2 (0 ∷ []) fours) 0 0 ≡ numbers (0 ∷ 3 ∷ [])
given-fours = refl

-- of two atoms of one size the first one stays, and has no moves
pub stays-fours : staying_atom joined (rows_of (placed_items (fours ∷ fours ∷ []))) ≡ 0
stays-fours = refl

pub received-all : map (received (moves_to_all 2 joined (fours ∷ fours ∷ []))) (0 ∷ 1 ∷ []) ≡ 4 ∷ 4 ∷ []
received-all = refl

pub given-all : map (rows_given (moves_to_all 2 joined (fours ∷ fours ∷ [])) 0) (0 ∷ 1 ∷ []) ≡ [] ∷ [] ∷ []
given-all = refl

pub parts-all : join_parts 2 0 Broadcast joined (placed_items (fours ∷ fours ∷ [])) ≡ numbers (0 ∷ 2 ∷ []) ∷ numbers (1 ∷ 3 ∷ []) ∷ []
parts-all = refl

-- the one step of a join two at a time
pub notes-steps : notes_of 2 0 joined (fours ∷ fours ∷ [])
    ≡ record { statement = 0; exchange = exchange.Rs 2; received = 4 ∷ 4 ∷ []; listed = 2 ∷ 2 ∷ [] } ∷ []
notes-steps = refl

pub sent-steps : by_worker 2 (over_steps (λ (step : PlacedExchange). sent step.moves) (steps_of 2 0 joined (fours ∷ fours ∷ []))) ≡ 4 ∷ 4 ∷ []
sent-steps = refl
