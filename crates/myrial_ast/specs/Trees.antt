-- Syntax trees, without the places in memory where their nodes lie.
--
--   Tree                      what contracts see of an expression
--   tree_of e                 the tree of an expression
--   emit_tree_of i            the tree of an emit item
--   rel_tree_of r             the tree of a relation expression
--   statement_tree_of s       the tree of a statement
--   trees_of script           the trees of a script's statements, in order
use Rattle.std.specs.Prelude.{ℕ, List, map, Option, option_map}
use Rattle.rel_base.specs.declared.values.Value.{Value}
use Rattle.rel_base.specs.declared.names.Key.{Key}
use Rattle.rel_base.specs.declared.relations.Column.{Column}
use Rattle.myrial_ast.specs.declared.operators.BinOp.{BinOp}
use Rattle.myrial_ast.specs.declared.operators.AggOp.{AggOp}
use Rattle.myrial_ast.specs.declared.expressions.ColRef.{ColRef}
use Rattle.myrial_ast.specs.declared.expressions.Expr as code
use Rattle.myrial_ast.specs.declared.relations.Operand.{Operand}
use Rattle.myrial_ast.specs.declared.relations.FromItem.{FromItem}
use Rattle.myrial_ast.specs.declared.relations.EmitItem.{EmitItem}
use Rattle.myrial_ast.specs.declared.relations.EmitItem.TheVariants as emit
use Rattle.myrial_ast.specs.declared.relations.RelExpr.{RelExpr}
use Rattle.myrial_ast.specs.declared.relations.RelExpr.TheVariants as rel
use Rattle.myrial_ast.specs.declared.statements.Stmt.{Stmt}
use Rattle.myrial_ast.specs.declared.statements.Stmt.TheVariants as stmt

-- a name or an alias
abbrev pub Name : Type 0
Name = List ℕ

-- an expression: a value, a column, `not`, the minus sign, two operands with an operator, and an aggregate with an
-- argument or without one
pub data Tree : Type 0 where
  Lit : (value : Value) → Tree
  Col : (column : ColRef) → Tree
  Not : (operand : Tree) → Tree
  Neg : (operand : Tree) → Tree
  Bin : (op : BinOp) (left right : Tree) → Tree
  Agg : (op : AggOp) (argument : Tree) → Tree
  AggAll : (op : AggOp) → Tree

-- an emit item: all columns, those of an alias, or an expression with the name of its column where one is given
pub data EmitTree : Type 0 where
  All : EmitTree
  AllOf : (alias : Name) → EmitTree
  One : (expression : Tree) (name : Option Name) → EmitTree

-- a relation expression
pub data RelTree : Type 0 where
  Copy : (operand : Operand) → RelTree
  Empty : (schema : List Column) → RelTree
  Distinct : (operand : Operand) → RelTree
  UnionAll : (left right : Operand) → RelTree
  Diff : (left right : Operand) → RelTree
  From : (items : List FromItem) (condition : Option Tree) (emits : List EmitTree) → RelTree

-- a statement
pub data StatementTree : Type 0 where
  Nothing : StatementTree
  Assign : (name : Name) (relation : RelTree) → StatementTree
  Store : (name : Name) (key : Key) → StatementTree

abbrev mutual
  -- the tree of an expression
  pub tree_of : code.Expr → Tree
  tree_of (code.Lit v) = Lit v
  tree_of (code.Col c) = Col c
  tree_of (code.Not' p e) = Not (tree_of e)
  tree_of (code.Neg' p e) = Neg (tree_of e)
  tree_of (code.Bin' op p l q r) = Bin op (tree_of l) (tree_of r)
  tree_of (code.Agg' op held) = aggregate_of op held

  -- the tree of an aggregate
  pub aggregate_of : AggOp → code.Held-Expr-Agg-1 → Tree
  aggregate_of op code.None' = AggAll op
  aggregate_of op (code.Some' p e) = Agg op (tree_of e)

-- the tree of an emit item
abbrev pub emit_tree_of : EmitItem → EmitTree
emit_tree_of emit.All = All
emit_tree_of (emit.AllOf alias) = AllOf alias
emit_tree_of (emit.One expression name) = One (tree_of expression) name

-- the tree of a relation expression
abbrev pub rel_tree_of : RelExpr → RelTree
rel_tree_of (rel.Copy operand) = Copy operand
rel_tree_of (rel.Empty schema) = Empty schema
rel_tree_of (rel.Distinct operand) = Distinct operand
rel_tree_of (rel.UnionAll left right) = UnionAll left right
rel_tree_of (rel.Diff left right) = Diff left right
rel_tree_of (rel.From items condition emits) =
    From items (option_map tree_of condition) (map emit_tree_of emits)

-- the tree of a statement
abbrev pub statement_tree_of : Stmt → StatementTree
statement_tree_of stmt.Nothing = Nothing
statement_tree_of (stmt.Assign name relation) = Assign name (rel_tree_of relation)
statement_tree_of (stmt.Store name key) = Store name key

-- the trees of a script's statements, in order
abbrev pub trees_of : List Stmt → List StatementTree
trees_of script = map statement_tree_of script
