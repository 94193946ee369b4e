-- Emitted values that a row has, or that are the same for each row: no part of them is computed.
--
--   is_pick e         it is a column or a literal
--   are_picks es      all of these are
use Rattle.std.specs.Prelude.{Bool, true, false, List}
use Rattle.std.specs.List.{list_all}
use Rattle.myrial_ast.specs.Scalars.{Scalar, Lit, At, Not, Neg, Bin}

-- it is a column or a literal
abbrev pub is_pick : Scalar → Bool
is_pick (Lit v) = true
is_pick (At place) = true
is_pick (Not e) = false
is_pick (Neg e) = false
is_pick (Bin operator l r) = false

-- all of these are
abbrev pub are_picks : List Scalar → Bool
are_picks es = list_all is_pick es
