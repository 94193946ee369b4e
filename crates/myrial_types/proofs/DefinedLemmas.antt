-- A typed script has a meaning.
use Rattle.std.proofs.Common.{◌≡◌, ◌∙◌, ℕ, ◌+◌, Bool, true, false, not, ◌&&◌, List, [], ◌∷◌, ◌++◌, map, refl, ap, subst, Option, Some, None}
use Rattle.std.specs.Prelude.{is_some, option_map}
use Rattle.std.specs.Option.{option_map_or}
use Rattle.std.specs.List.{flat_map}
use Rattle.rel_base.specs.Keys.{File}
use Rattle.rel_base.specs.Relations.{RelationState}
use Rattle.myrial_ast.specs.declared.relations.Operand.{Operand}
use Rattle.myrial_ast.specs.Operands.{operands_of}
use Rattle.myrial_ast.specs.Trees.{RelTree, StatementTree}
use Rattle.myrial_ast.specs.Trees as tree
use Rattle.myrial_scopes.specs.Scopes.{same_name}
use Rattle.myrial_meaning.specs.Environments.{nothing_yet, operand_of, with_key, with_name}
use Rattle.myrial_meaning.specs.Fetches.{loads_of}
use Rattle.myrial_meaning.specs.Meaning.{RelationEnvironment, after, relation_of}
use Rattle.myrial_meaning.specs.Runnable.{all_defined, have_same_kinds, kinds_of_relation, operands_fit}
use Rattle.algebra.specs.Conditions.{kinds_of_columns, same_kinds}
use Rattle.algebra.specs.Trees.{CheckedTree}
use Rattle.myrial_types.specs.Checking.{with_result}
use Rattle.myrial_types.specs.Kinds.{differ, operand_kinds, relation_kind}
use Rattle.myrial_types.specs.Resolving.{Meant, Names, meant}
use Rattle.myrial_types.specs.Laws.{TypedScriptsHaveMeaning}
use Rattle.myrial_types.proofs.FollowLemmas.{Follows, at_end, a_nothing, an_assignment, a_store, no-mismatch, typed-follows, typed-kinds}
use Rattle.myrial_types.proofs.LoadLemmas.{AllFit, fit-apart}
use Rattle.myrial_types.proofs.ValueLemmas.{Agrees, IfAny, IsEarlier, Results, assigned-agrees, assigned-means, meant-All, named, none-agree, operand-means, stored-agrees, table_of, term-means, typed_table, with_nothing}

-- the operands of a typed `unionall` or `diff` have columns of the same types
module _ (files : List File) (results : Results) (env : RelationEnvironment) (names : Names)
    (assigned : env.assigned ≡ map (named files results) names.assigned) (stored : env.stored ≡ map (named files results) names.stored) where
  kinds-mean : (o : Operand) → AllFit files (loads_of o) → kinds_of_relation (operand_of files env o) ≡ operand_kinds files names o
  kinds-mean o h = ap kinds_of_relation (operand-means files results env names assigned stored o h) ∙ by (meant files names o)
    where
      by : (m : Option Meant) → kinds_of_relation (option_map (table_of files results) m) ≡ option_map_or (λ (m : Meant). kinds_of_columns m.schema) m []
      by None = refl
      by (Some m) = refl

  same-kinds : (o p : Operand) → AllFit files (loads_of o) → AllFit files (loads_of p) → differ files names o p ≡ false → have_same_kinds files env o p ≡ true
  same-kinds o p h k e =
      ap (λ ks. same_kinds ks (kinds_of_relation (operand_of files env p))) (kinds-mean o h)
      ∙ ap (same_kinds (operand_kinds files names o)) (kinds-mean p k)
      ∙ by (same_kinds (operand_kinds files names o) (operand_kinds files names p)) e
    where
      by : (b : Bool) → not b ≡ false → b ≡ true
      by true e = refl
      by false e = cc

  operands-fit : (r : RelTree) → AllFit files (flat_map loads_of (operands_of r)) → relation_kind files names r ≡ None → operands_fit files env r ≡ true
  operands-fit (tree.Copy o) h e = refl
  operands-fit (tree.Empty schema) h e = refl
  operands-fit (tree.Distinct o) h e = refl
  operands-fit (tree.UnionAll o p) h e =
      let parts = fit-apart files (loads_of o) (loads_of p ++ []) h in
      same-kinds o p parts.0 (fit-apart files (loads_of p) [] parts.1).0 (no-mismatch (differ files names o p) e)
  operands-fit (tree.Diff o p) h e =
      let parts = fit-apart files (loads_of o) (loads_of p ++ []) h in
      same-kinds o p parts.0 (fit-apart files (loads_of p) [] parts.1).0 (no-mismatch (differ files names o p) e)
  operands-fit (tree.From items condition emits) h e = refl

defined : (files : List File) (number : ℕ) (names : Names) (script : List StatementTree) (c : CheckedTree) → Follows files number names script c
    → (results : Results) (env : RelationEnvironment) → Agrees files number results env names → all_defined files env script ≡ true
defined files _ _ _ _ (at_end number names) results env a = refl
defined files _ _ _ _ (a_nothing number names rest c f) results env a =
    defined files (number + 1) names rest c f results env (with_nothing files number results env names a)
defined files _ _ _ _ (an_assignment number names name r rest t c typed fit e f) results env a =
    let made : RelationState = typed_table files results t in
    let fits : operands_fit files env r ≡ true =
    operands-fit files results env names a.assigned a.stored r fit (typed-kinds files names r typed).0 in
    ap (λ b. (is_some (relation_of files env r) && b) && all_defined files (after files env (tree.Assign name r)) rest) fits
    ∙ ap (λ o. (is_some o && true) && all_defined files (option_map_or (with_name env name) o env) rest)
    (term-means files results env names a.assigned a.stored r fit ∙ ap (option_map (typed_table files results)) e)
    ∙ defined files (number + 1) (with_result number names name t) rest c f ((number, made) ∷ results) (with_name env name made)
    (assigned-agrees files number results env names a name t)
defined files _ _ _ _ (a_store number names name key rest m c e f) results env a =
    let early : IfAny (IsEarlier files number results) (Some m) =
    subst (IfAny (IsEarlier files number results)) e (meant-All (IsEarlier files number results) (λ n. same_name n name) names.assigned a.earlier) in
    ap (λ o. is_some o && all_defined files (option_map_or (with_key env key) o env) rest)
    (assigned-means files results env names a.assigned a.stored name ∙ ap (option_map (table_of files results)) e)
    ∙ defined files (number + 1) (with_key names key m) rest c f results (with_key env key (table_of files results m))
    (stored-agrees files number results env names a key m early)

pub typed_scripts_have_meaning : TypedScriptsHaveMeaning
typed_scripts_have_meaning files script c forms typed =
    defined files 1 nothing_yet script c (typed-follows files script c forms typed) [] nothing_yet (none-agree files)
