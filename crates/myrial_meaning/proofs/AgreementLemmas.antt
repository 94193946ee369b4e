-- Environments that agree on what the rest of a script uses.
use Rattle.std.proofs.Common.{◌≡◌, ◌∙◌, ℕ, Bool, true, false, not, cond, ◌&&◌, ◌||◌, Option, Some, None, option_map, option_and_then, List, [], ◌∷◌, map, find, is_some, refl, sym, ap}
use Rattle.std.proofs.lemmas.Bool.Decides.{Decides-eqb}
use Rattle.std.proofs.lemmas.Slice.Eq.{slice_eq-Decides}
use Rattle.std.specs.Prelude.{if◌then◌else◌}
use Rattle.std.specs.List.{list_any}
use Rattle.std.specs.Option.{option_map_or}
use Rattle.rel_base.specs.Each.{each_or_none}
use Rattle.rel_base.specs.Keys.{File}
use Rattle.rel_base.specs.Relations.{RelationState}
use Rattle.rel_base.specs.declared.names.Key.{Key}
use Rattle.rel_base.specs.declared.faults.RunFault.TheVariants as fault
use Rattle.myrial_ast.specs.declared.relations.FromItem.{FromItem}
use Rattle.myrial_ast.specs.declared.relations.Operand.{Operand}
use Rattle.myrial_ast.specs.declared.relations.Operand.TheVariants as operand
use Rattle.myrial_ast.specs.Trees.{Name, RelTree, StatementTree}
use Rattle.myrial_ast.specs.Trees as tree
use Rattle.myrial_ast.specs.Bags.{distinct}
use Rattle.myrial_ast.specs.CandidateFaults.{joins_alone, too_many, comprehension_fault}
use Rattle.myrial_scopes.specs.Scopes.{same_name, scope_of}
use Rattle.myrial_scopes.specs.Emits.{Resolved, resolved}
use Rattle.myrial_meaning.specs.Environments.{assigned_to, kept_under, operand_of, with_key, with_name}
use Rattle.myrial_meaning.specs.Meaning.{RelationEnvironment, after, comprehension_over, items_of, of_one, relation_of, item_relation, tables_of}
use Rattle.myrial_meaning.specs.Needed.{is_live, is_name, mentions}
use Rattle.myrial_meaning.specs.Faults.{relation_fault, widths_of}
use Rattle.myrial_meaning.specs.Runnable.{operands_fit}
use Rattle.myrial_meaning.proofs.BoolLemmas.{and-both, or-first, or-second}

-- ---- names

pub same_name-itself : (name : Name) → same_name name name ≡ true
same_name-itself name = (slice_eq-Decides Decides-eqb name name (same_name name name) refl).1 refl

pub same_name-equal : (name other : Name) → same_name name other ≡ true → name ≡ other
same_name-equal name other e = (slice_eq-Decides Decides-eqb name other (same_name name other) refl).0 e

-- ---- relations

-- the environments stored the same, and the names that pass stand for the same in both
pub record AgreesOn (uses : Name → Bool) (there here : RelationEnvironment) : Type 0 where
  pub stored : there.stored ≡ here.stored
  pub names : (name : Name) → uses name ≡ true → assigned_to there name ≡ assigned_to here name

module _ (files : List File) (there here : RelationEnvironment) where
  operand-agrees : (o : Operand) → AgreesOn (λ name. is_name name o) there here → operand_of files there o ≡ operand_of files here o
  operand-agrees (operand.Named name) agrees = agrees.names name (same_name-itself name)
  operand-agrees (operand.Scan key) agrees =
      ap (λ stored. kept_under files (let env : RelationEnvironment = record { assigned = []; stored = stored } in env) key) agrees.stored
  operand-agrees (operand.Load name schema skip) agrees = refl

  -- what agrees on more names agrees on fewer
  fewer : (uses others : Name → Bool) → ((name : Name) → others name ≡ true → uses name ≡ true) → AgreesOn uses there here → AgreesOn others there here
  fewer uses others within agrees = record { stored = agrees.stored; names = λ name e. agrees.names name (within name e) }

  sources-agree : (items : List FromItem) → AgreesOn (λ name. list_any (is_name name) (map (λ (item : FromItem). item.source) items)) there here
      → each_or_none (item_relation files there) items ≡ each_or_none (item_relation files here) items
  sources-agree [] agrees = refl
  sources-agree (item ∷ items) agrees =
      let first : operand_of files there item.source ≡ operand_of files here item.source =
      operand-agrees item.source
      (fewer (λ name. is_name name item.source || list_any (is_name name) (map (λ (i : FromItem). i.source) items)) (λ name. is_name name item.source)
      (λ name e. or-first (is_name name item.source) (list_any (is_name name) (map (λ (i : FromItem). i.source) items)) e) agrees) in
      let others : each_or_none (item_relation files there) items ≡ each_or_none (item_relation files here) items =
      sources-agree items
      (fewer (λ name. is_name name item.source || list_any (is_name name) (map (λ (i : FromItem). i.source) items))
      (λ name. list_any (is_name name) (map (λ (i : FromItem). i.source) items))
      (λ name e. or-second (is_name name item.source) (list_any (is_name name) (map (λ (i : FromItem). i.source) items)) e) agrees) in
      rw (first, others) refl

  left-agrees : (o p : Operand) → AgreesOn (λ name. is_name name o || (is_name name p || false)) there here → operand_of files there o ≡ operand_of files here o
  left-agrees o p agrees =
      operand-agrees o (fewer (λ name. is_name name o || (is_name name p || false)) (λ name. is_name name o)
      (λ name e. or-first (is_name name o) (is_name name p || false) e) agrees)

  right-agrees : (o p : Operand) → AgreesOn (λ name. is_name name o || (is_name name p || false)) there here → operand_of files there p ≡ operand_of files here p
  right-agrees o p agrees =
      operand-agrees p (fewer (λ name. is_name name o || (is_name name p || false)) (λ name. is_name name p)
      (λ name e. or-second (is_name name o) (is_name name p || false) (or-first (is_name name p) false e)) agrees)

  only-agrees : (o : Operand) → AgreesOn (λ name. is_name name o || false) there here → operand_of files there o ≡ operand_of files here o
  only-agrees o agrees =
      operand-agrees o (fewer (λ name. is_name name o || false) (λ name. is_name name o) (λ name e. or-first (is_name name o) false e) agrees)

  -- a relation expression stands for the same where the names that it mentions do
  pub relation-agrees : (r : RelTree) → AgreesOn (λ name. mentions name r) there here → relation_of files there r ≡ relation_of files here r
  relation-agrees (tree.Copy o) agrees = only-agrees o agrees
  relation-agrees (tree.Empty schema) agrees = refl
  relation-agrees (tree.Distinct o) agrees = ap (of_one distinct) (only-agrees o agrees)
  relation-agrees (tree.UnionAll o p) agrees = rw (left-agrees o p agrees, right-agrees o p agrees) refl
  relation-agrees (tree.Diff o p) agrees = rw (left-agrees o p agrees, right-agrees o p agrees) refl
  relation-agrees (tree.From items condition emits) agrees =
      ap (option_and_then (λ sources. comprehension_over sources condition emits)) (sources-agree items agrees)

  -- and its operands fit as well
  pub operands_fit-agrees : (r : RelTree) → AgreesOn (λ name. mentions name r) there here → operands_fit files there r ≡ operands_fit files here r
  operands_fit-agrees (tree.Copy o) agrees = refl
  operands_fit-agrees (tree.Empty schema) agrees = refl
  operands_fit-agrees (tree.Distinct o) agrees = refl
  operands_fit-agrees (tree.UnionAll o p) agrees = rw (left-agrees o p agrees, right-agrees o p agrees) refl
  operands_fit-agrees (tree.Diff o p) agrees = rw (left-agrees o p agrees, right-agrees o p agrees) refl
  operands_fit-agrees (tree.From items condition emits) agrees = refl

  -- and has the same fault
  pub relation_fault-agrees : (number : ℕ) (r : RelTree) → AgreesOn (λ name. mentions name r) there here
      → relation_fault joins_alone number files there r ≡ relation_fault joins_alone number files here r
  relation_fault-agrees number (tree.Copy o) agrees = refl
  relation_fault-agrees number (tree.Empty schema) agrees = refl
  relation_fault-agrees number (tree.Distinct o) agrees = refl
  relation_fault-agrees number (tree.UnionAll o p) agrees =
      ap (option_and_then (λ (t : RelationState). if too_many t.rows then Some (fault.TooManyRows number) else None))
      (relation-agrees (tree.UnionAll o p) agrees)
  relation_fault-agrees number (tree.Diff o p) agrees = refl
  relation_fault-agrees number (tree.From items condition emits) agrees =
      ap (option_and_then (λ sources. option_and_then (λ (b : Resolved). comprehension_fault joins_alone number (widths_of sources) b.comprehension (tables_of sources))
      (resolved (scope_of (items_of sources)) condition emits))) (sources-agree items agrees)

-- ---- one statement

-- the environments agree on what the rest uses
abbrev pub Agrees : List StatementTree → RelationEnvironment → RelationEnvironment → Type 0
Agrees rest = AgreesOn (λ name. is_live name rest)

-- where a name stands for a relation, names that are not live before may be assigned anew
assigned-anew : (env : RelationEnvironment) (n : Name) (t : RelationState) (name : Name)
    → assigned_to (with_name env n t) name ≡ cond (same_name n name) (Some t) (assigned_to env name)
assigned-anew env n t name = by (same_name n name)
  where
    by : (same : Bool) → option_map (λ (p : Name × RelationState). p.1) (cond same (Some (n, t)) (find (λ p. same_name p.0 name) env.assigned))
        ≡ cond same (Some t) (assigned_to env name)
    by true = refl
    by false = refl

both-live : (live assigned uses : Bool) → live ≡ true → (assigned && uses) || (not false && live) ≡ true
both-live true assigned uses e = or-second (assigned && uses) true refl
both-live false assigned uses e = cc

module _ (files : List File) (there here : RelationEnvironment) (rest : List StatementTree) where
  pub after-nothing : Agrees (tree.Nothing ∷ rest) there here → Agrees rest (after files there tree.Nothing) (after files here tree.Nothing)
  after-nothing agrees = agrees

  pub stored-same : (n : Name) (key : Key) → Agrees (tree.Store n key ∷ rest) there here → assigned_to there n ≡ assigned_to here n
  stored-same n key agrees = agrees.names n (or-first (same_name n n) (is_live n rest) (same_name-itself n))

  pub after-store : (n : Name) (key : Key) → Agrees (tree.Store n key ∷ rest) there here
      → Agrees rest (after files there (tree.Store n key)) (after files here (tree.Store n key))
  after-store n key agrees = rw (stored-same n key agrees) (by (assigned_to here n))
    where
      names : (name : Name) → is_live name rest ≡ true → assigned_to there name ≡ assigned_to here name
      names name e = agrees.names name (or-second (same_name n name) (is_live name rest) e)

      by : (found : Option RelationState) → Agrees rest (option_map_or (with_key there key) found there) (option_map_or (with_key here key) found here)
      by None = record { stored = agrees.stored; names = names }
      by (Some t) = record { stored = ap (λ (stored : List File). (key, t) ∷ stored) agrees.stored; names = names }

  -- what a needed relation expression uses
  pub mentioned : (n : Name) (r : RelTree) → is_live n rest ≡ true → Agrees (tree.Assign n r ∷ rest) there here → AgreesOn (λ name. mentions name r) there here
  mentioned n r live agrees = record {
    stored = agrees.stored;
    names = λ name e. agrees.names name (or-first (mentions name r && is_live n rest) (not (same_name n name) && is_live name rest) (and-both (mentions name r) (is_live n rest) e live));
  }

  -- a live name that isn't assigned anew
  others : (n : Name) (r : RelTree) → Agrees (tree.Assign n r ∷ rest) there here
      → (name : Name) → same_name n name ≡ false → is_live name rest ≡ true → assigned_to there name ≡ assigned_to here name
  others n r agrees name apart e =
      agrees.names name
      (or-second (mentions name r && is_live n rest) (not (same_name n name) && is_live name rest) (and-both (not (same_name n name)) (is_live name rest) (rw apart refl) e))

  pub after-assign : (n : Name) (r : RelTree) → is_live n rest ≡ true → is_some (relation_of files there r) ≡ true → Agrees (tree.Assign n r ∷ rest) there here
      → Agrees rest (after files there (tree.Assign n r)) (after files here (tree.Assign n r))
  after-assign n r live stands agrees =
      rw (← relation-agrees files there here r (mentioned n r live agrees)) (by (relation_of files there r) stands)
    where
      by : (found : Option RelationState) → is_some found ≡ true → Agrees rest (option_map_or (with_name there n) found there) (option_map_or (with_name here n) found here)
      by None e = cc
      by (Some t) e = record {
        stored = agrees.stored;
        names = λ name live'. assigned-anew there n t name ∙ (same (same_name n name) name refl live' ∙ sym (assigned-anew here n t name));
      }
        where
          same : (s : Bool) (name : Name) → same_name n name ≡ s → is_live name rest ≡ true
              → cond s (Some t) (assigned_to there name) ≡ cond s (Some t) (assigned_to here name)
          same true name k live' = refl
          same false name k live' = others n r agrees name k live'

  -- an assignment that isn't needed may be left out
  pub after-unneeded : (n : Name) (r : RelTree) → is_live n rest ≡ false → Agrees (tree.Assign n r ∷ rest) there here
      → Agrees rest (after files there (tree.Assign n r)) here
  after-unneeded n r dead agrees = by (relation_of files there r)
    where
      apart : (name : Name) → is_live name rest ≡ true → same_name n name ≡ false
      apart name live = decide (same_name n name) refl
        where
          decide : (s : Bool) → same_name n name ≡ s → same_name n name ≡ false
          decide false k = k
          decide true k = let e = rw (same_name-equal n name k) at dead in cc

      by : (found : Option RelationState) → Agrees rest (option_map_or (with_name there n) found there) here
      by None = record { stored = agrees.stored; names = λ name live. others n r agrees name (apart name live) live }
      by (Some t) = record {
        stored = agrees.stored;
        names = λ name live. assigned-anew there n t name ∙ rw (apart name live) (others n r agrees name (apart name live) live);
      }
