-- Which statements of a script are needed, statement by statement.
--
--   needed_flags script     for each statement whether it is needed
use Rattle.std.specs.Prelude.{Bool, List, [], ◌∷◌}
use Rattle.myrial_ast.specs.Trees.{StatementTree}
use Rattle.myrial_meaning.specs.Needed.{is_needed}

-- for each statement, in order, whether it is needed where the others follow it
abbrev pub needed_flags : List StatementTree → List Bool
needed_flags [] = []
needed_flags (s ∷ rest) = is_needed s rest ∷ needed_flags rest
