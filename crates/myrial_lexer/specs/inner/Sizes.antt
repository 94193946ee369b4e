-- How many bytes a piece at the front of a text has.
use Rattle.std.specs.Prelude.{◌≤◌, ℕ, List, length}
use Rattle.myrial_lexer.specs.declared.front.Front.{Front}
use Rattle.myrial_lexer.specs.declared.front.Front.TheVariants.{Gap, Piece, Fault}

-- the piece has a byte or more, and no more than the text
abbrev pub IsWithin : Front → List ℕ → Type 0
IsWithin (Gap size) text = (1 ≤ size) × (size ≤ length text)
IsWithin (Piece kind size) text = (1 ≤ size) × (size ≤ length text)
IsWithin (Fault what) text = Unit {0}
