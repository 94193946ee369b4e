-- What the script of a trial reads as.
--
--   ReadsAs text script    the text has tokens, and they read as these statements
--   trial_trees            the statements of the script of a trial
use Rattle.std.specs.Prelude.{ℕ, List, [], ◌∷◌, Some, codes}
use Rattle.myrial_ast.specs.declared.operators.BinOp.TheVariants as op
use Rattle.myrial_ast.specs.declared.expressions.ColRef.TheVariants as ref
use Rattle.myrial_ast.specs.declared.relations.FromItem.{FromItem}
use Rattle.myrial_ast.specs.declared.relations.Operand.TheVariants as operand
use Rattle.myrial_ast.specs.Trees.{Name, Tree, EmitTree, StatementTree}
use Rattle.myrial_ast.specs.Trees.{Assign, Store, Copy, From, One, Bin, Col}
use Rattle.myrial_lexer.specs.Tokens.{AreTokensOf}
use Rattle.myrial_lexer.specs.declared.kinds.Token.{Token}
use Rattle.myrial_parser.specs.Pieces.{IsScript}
use Rattle.trial_gen.specs.Trials.{trial_key}

-- the text has tokens, and they read as these statements
pub record ReadsAs (text : List ℕ) (script : List StatementTree) : Type 0 where
  pub tokens : List Token
  pub are : AreTokensOf text tokens
  pub is : IsScript text tokens script

-- a name is assigned the scan of a key
abbrev pub scanned : Name → Name → StatementTree
scanned name key = Assign name (Copy (operand.Scan (trial_key key)))

-- an item that is called by its name
abbrev pub item : Name → FromItem
item name = record { source = operand.Named name; alias = name }

-- the column of an item
abbrev pub column : Name → Name → Tree
column item name = Col (ref.OfName item name)

-- a column `b` is a column `a`
abbrev pub meets : Name → Name → Tree
meets left right = Bin op.Eq (column left (codes "b")) (column right (codes "a"))

-- a column `a`, by another name
abbrev pub renamed : Name → Name → EmitTree
renamed item name = One (column item (codes "a")) (Some name)

-- each `b` is the next one's `a`, around the ring
abbrev pub in_a_ring : Tree
in_a_ring =
    Bin op.And (Bin op.And (meets (codes "R") (codes "S")) (meets (codes "S") (codes "T")))
    (meets (codes "T") (codes "R"))

-- the triangles of the three relations
abbrev pub triangles : StatementTree
triangles =
    Assign (codes "Tri") (From
    (item (codes "R") ∷ item (codes "S") ∷ item (codes "T") ∷ [])
    (Some in_a_ring)
    (renamed (codes "R") (codes "x") ∷ renamed (codes "S") (codes "y")
    ∷ renamed (codes "T") (codes "z") ∷ []))

-- the three relations are scanned, their triangles listed and stored
abbrev pub trial_trees : List StatementTree
trial_trees =
    scanned (codes "R") (codes "E1") ∷ scanned (codes "S") (codes "E2")
    ∷ scanned (codes "T") (codes "E3") ∷ triangles
    ∷ Store (codes "Tri") (trial_key (codes "Tri")) ∷ []
