-- Shapes, terms and checked scripts, without the places in memory where their nodes lie.
--
--   AtomTree, Shape                         an atom, and the shape of a join
--   atom_tree_of atom                       the tree of an atom
--   shape_of_parts atoms variables plain arith emits
--                                           the shape of these parts
--   TermTree                                what a statement computes of its sources
--   StepTree, CheckedTree                   a numbered term, and a script whose names are resolved
--   kind_of_emit kind                       the aggregate of a column, or nothing where rows are grouped by it
use Rattle.std.specs.Prelude.{ℕ, List, map, Option, Some, None}
use Rattle.rel_base.specs.declared.values.ColType.{ColType}
use Rattle.rel_base.specs.declared.relations.Column.{Column}
use Rattle.myrial_ast.specs.declared.operators.AggOp.{AggOp}
use Rattle.myrial_ast.specs.declared.scalars.Scalar as code
use Rattle.myrial_ast.specs.Scalars.{Scalar}
use Rattle.myrial_ast.specs.ScalarTrees.{scalar_tree_of}
use Rattle.myrial_ast.specs.Groups.{Kinds}
use Rattle.algebra.specs.declared.shapes.Atom.{Atom}
use Rattle.algebra.specs.declared.shapes.EmitKind.{EmitKind}
use Rattle.algebra.specs.declared.shapes.EmitKind.TheVariants as emit
use Rattle.algebra.specs.declared.terms.Source.{Source}
use Rattle.algebra.specs.declared.terms.StoreStep.{StoreStep}

-- an atom of a join: its columns' types, and tests over its own columns
pub record AtomTree : Type 0 where
  pub kinds : List ColType
  pub keeps : List Scalar

-- the shape of a join: its atoms, the columns of each variable, its plain and its arithmetic tests over the combined row, and
-- what it emits
pub record Shape : Type 0 where
  pub atoms : List AtomTree
  pub variables : List (List ℕ)
  pub plain : List Scalar
  pub arith : List Scalar
  pub emits : List Scalar

-- the tree of an atom
abbrev pub atom_tree_of : Atom → AtomTree
atom_tree_of a = record { kinds = a.kinds; keeps = map scalar_tree_of a.keeps }

-- the shape of these parts
abbrev pub shape_of_parts : List Atom → List (List ℕ) → List code.Scalar → List code.Scalar
    → List code.Scalar → Shape
shape_of_parts atoms variables plain arith emits = record {
  atoms = map atom_tree_of atoms;
  variables = variables;
  plain = map scalar_tree_of plain;
  arith = map scalar_tree_of arith;
  emits = map scalar_tree_of emits;
}

-- what a statement computes of its sources
pub data TermTree : Type 0 where
  Same : (source : Source) → TermTree
  Empty : TermTree
  UnionAll : (left right : Source) → TermTree
  Diff : (left right : Source) → TermTree
  Distinct : (source : Source) → TermTree
  Join : (shape : Shape) (sources : List Source) → TermTree
  Group : (shape : Shape) (sources : List Source) (kinds : Kinds) → TermTree

-- a statement that assigns: its number, the columns of its result, and what it computes
pub record StepTree : Type 0 where
  pub statement : ℕ
  pub schema : List Column
  pub term : TermTree

-- a script whose names are resolved: its assignments and its stores, in order
pub record CheckedTree : Type 0 where
  pub steps : List StepTree
  pub stores : List StoreStep

-- the aggregate of a column of a listed row, or nothing where rows are grouped by it
abbrev pub kind_of_emit : EmitKind → Option AggOp
kind_of_emit emit.Key = None
kind_of_emit (emit.Agg op) = Some op
