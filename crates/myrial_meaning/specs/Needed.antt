-- Which statements are needed: stores, and the statements whose values needed ones use.
--
--   IsNeeded statement rest  the statement is needed where the rest follows it, by the rule
--   mentions name r          the relation expression uses what the name stands for
--   is_live name rest        a needed statement of the rest uses what the name stands for before it
--   is_needed statement rest the same by a test that computes
use Rattle.std.specs.Prelude.{◌≡◌, All, Bool, true, false, ◌&&◌, ◌||◌, not, List, [], ◌∷◌, ◌++◌}
use Rattle.std.specs.List.{list_any}
use Rattle.rel_base.specs.declared.names.Key.{Key}
use Rattle.myrial_ast.specs.declared.relations.Operand.{Operand}
use Rattle.myrial_ast.specs.declared.relations.Operand.TheVariants as operand
use Rattle.myrial_ast.specs.Operands.{operands_of}
use Rattle.myrial_ast.specs.Trees.{Name, RelTree, StatementTree}
use Rattle.myrial_ast.specs.Trees as tree
use Rattle.myrial_scopes.specs.Scopes.{same_name}

-- whether an operand is this name
abbrev pub is_name : Name → Operand → Bool
is_name name (operand.Named n) = same_name n name
is_name name (operand.Scan key) = false
is_name name (operand.Load file schema skip) = false

-- whether the relation expression uses what the name stands for
abbrev pub mentions : Name → RelTree → Bool
mentions name r = list_any (is_name name) (operands_of r)

-- whether a statement uses what the name stands for before it
abbrev pub uses : StatementTree → Name → Bool
uses tree.Nothing name = false
uses (tree.Store n key) name = same_name n name
uses (tree.Assign n r) name = mentions name r

-- whether a statement assigns the name
abbrev pub assigns : StatementTree → Name → Bool
assigns (tree.Assign n r) name = same_name n name
assigns _ name = false

-- the least set with every store and, for each name that a member uses, the statement that assigns it last before the member.
-- A statement is told by the rest of the script, which follows it
pub data IsNeeded : StatementTree → List StatementTree → Type 0 where
  store : (name : Name) (key : Key) (rest : List StatementTree)
      → IsNeeded (tree.Store name key) rest
  used : (name : Name) (r : RelTree) (rest between : List StatementTree) (member : StatementTree)
      (others : List StatementTree)
      → rest ≡ between ++ member ∷ others → All (λ s. assigns s name ≡ false) between
      → uses member name ≡ true → IsNeeded member others
      → IsNeeded (tree.Assign name r) rest

-- whether a needed statement of the rest uses what the name stands for before it: a store of it does, an assignment that
-- mentions it does where it is needed itself, and past an assignment to the name nothing does
abbrev pub is_live : Name → List StatementTree → Bool
is_live name [] = false
is_live name (tree.Nothing ∷ rest) = is_live name rest
is_live name (tree.Store n key ∷ rest) = same_name n name || is_live name rest
is_live name (tree.Assign n r ∷ rest) =
    (mentions name r && is_live n rest) || (not (same_name n name) && is_live name rest)

-- whether a statement is needed where the rest follows it. What a stored key stands for was stored by a store, which is
-- needed anyway
abbrev pub is_needed : StatementTree → List StatementTree → Bool
is_needed tree.Nothing rest = false
is_needed (tree.Store name key) rest = true
is_needed (tree.Assign name r) rest = is_live name rest
