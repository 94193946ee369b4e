-- What is wrong with the parts of a comprehension.
--
--   no_faults                         nothing is
--   either_faults faults others       what is wrong with one of two parts
--   reference_faults items references     what is wrong with references
--   faults_in items condition emits   what is wrong with a condition and emit items, apart from doubled aliases
use Rattle.std.specs.Prelude.{◌==◌, false, ◌||◌, nat_lt, List, Option}
use Rattle.std.specs.List.{list_any}
use Rattle.myrial_ast.specs.declared.expressions.ColRef.{ColRef}
use Rattle.myrial_ast.specs.Trees.{Tree, EmitTree}
use Rattle.myrial_scopes.specs.Scopes.{ItemSchema}
use Rattle.myrial_types.specs.declared.kinds.Faults.{Faults}
use Rattle.myrial_types.specs.Kinds.{has_mismatch, has_misplaced, has_unknown_alias, has_unknown_column}
use Rattle.myrial_types.specs.Kinds.{is_unknown_behind, meanings_of, references_in}

-- nothing is wrong
abbrev pub no_faults : Faults
no_faults = record {
  relation = false;
  column = false;
  ambiguous = false;
  mismatch = false;
  misplaced = false;
}

-- what is wrong with one of two parts
abbrev pub either_faults : Faults → Faults → Faults
either_faults f g = record {
  relation = f.relation || g.relation;
  column = f.column || g.column;
  ambiguous = f.ambiguous || g.ambiguous;
  mismatch = f.mismatch || g.mismatch;
  misplaced = f.misplaced || g.misplaced;
}

-- what is wrong with references
abbrev pub reference_faults : List ItemSchema → List ColRef → Faults
reference_faults items references = record {
  relation = list_any (is_unknown_behind items) references;
  column = list_any (λ r. meanings_of items r == 0) references;
  ambiguous = list_any (λ r. nat_lt 1 (meanings_of items r)) references;
  mismatch = false;
  misplaced = false;
}

-- what is wrong with a condition and emit items, apart from doubled aliases
abbrev pub faults_in : List ItemSchema → Option Tree → List EmitTree → Faults
faults_in items condition emits = record {
  relation = has_unknown_alias items condition emits;
  column = has_unknown_column items condition emits;
  ambiguous = list_any (λ r. nat_lt 1 (meanings_of items r)) (references_in condition emits);
  mismatch = has_mismatch items condition emits;
  misplaced = has_misplaced condition emits;
}
