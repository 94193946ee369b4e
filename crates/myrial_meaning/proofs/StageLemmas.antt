-- How far the evaluation of a script has come.
use Rattle.std.proofs.Common.{◌≡◌, ◌∙◌, ℕ, suc, ◌+◌, ◌<◌, true, false, ◌&&◌, cond, Option, Some, None, List, [], ◌∷◌, length, reverse, fold, is_some, map, refl, sym, ap, subst, arith, add-one}
use Rattle.std.specs.Option.{option_map_or}
use Rattle.rel_base.specs.Keys.{File}
use Rattle.rel_base.specs.Relations.{RelationState}
use Rattle.rel_base.specs.declared.faults.RunFault.{RunFault}
use Rattle.rel_base.specs.declared.faults.RunFault.TheVariants as fault
use Rattle.myrial_ast.specs.Trees.{StatementTree}
use Rattle.myrial_ast.specs.Trees as tree
use Rattle.myrial_ast.specs.CandidateFaults.{joins_alone}
use Rattle.myrial_meaning.specs.Environments.{assigned_to, nothing_yet, with_key, with_name}
use Rattle.myrial_meaning.specs.Meaning.{RelationEnvironment, after, relation_of, stored_relations}
use Rattle.myrial_meaning.specs.Needed.{is_needed}
use Rattle.myrial_meaning.specs.Faults.{fault_from, in_each, run_fault, statement_fault}
use Rattle.myrial_meaning.specs.Runnable.{all_defined, has_meaning, is_defined, operands_fit}
use Rattle.myrial_meaning.specs.Evaluating.{IsFault}
use Rattle.myrial_meaning.specs.SortedFiles.{sorted_file}
use Rattle.myrial_meaning.specs.Permuted.{SameEntry, SameEnvironment}
use Rattle.myrial_meaning.proofs.MeaningPermutations.{Alike-reverse, after-same}
use Rattle.myrial_meaning.proofs.FaultPermutations.{SameEnvironment-itself, SameEnvironment-trans, entries-itself, entries-long, files-sorted, statement_fault-permuted}
use Rattle.myrial_meaning.proofs.AgreementLemmas.{Agrees, after-assign, after-nothing, after-store, after-unneeded, mentioned, operands_fit-agrees, relation-agrees, relation_fault-agrees, stored-same}
use Rattle.myrial_meaning.proofs.ColumnLemmas.{is_defined-same}
use Rattle.myrial_meaning.proofs.BoolLemmas.{and-first, and-second}

-- the rest of the script, whose first statement has this number, leads from the evaluator's environment to what the script stores
-- and to its fault
pub record Stage (files : List File) (script rest : List StatementTree) (number : ℕ) (here : RelationEnvironment) : Type 0 where
  -- the environment of the definitions, for which unneeded statements stand too
  pub there : RelationEnvironment
  pub agrees : Agrees rest there here
  pub meaningful : all_defined files there rest ≡ true
  pub stored : reverse (fold (after files) there rest).stored ≡ stored_relations files script
  pub fault : fault_from (in_each joins_alone) files number there rest ≡ run_fault (in_each joins_alone) files script
  -- no more was stored than there were statements
  pub few : length here.stored < number

-- the first fault, or that of the rest
first_or : Option RunFault → Option RunFault → Option RunFault
first_or own others = cond (is_some own) own others

module _ (files : List File) (script : List StatementTree) where
  -- before the first statement
  pub stage-start : has_meaning files script ≡ true → Stage files script script 1 nothing_yet
  stage-start meaningful = record {
    there = nothing_yet;
    agrees = record { stored = refl; names = λ name live. refl };
    meaningful = meaningful;
    stored = refl;
    fault = refl;
    few = omega arith;
  }

  -- behind the last one
  pub stored-end : (number : ℕ) (here : RelationEnvironment) → Stage files script [] number here → reverse here.stored ≡ stored_relations files script
  stored-end number here stage = ap reverse (sym stage.agrees.stored) ∙ stage.stored

  pub fault-end : (number : ℕ) (here : RelationEnvironment) → Stage files script [] number here → run_fault (in_each joins_alone) files script ≡ None
  fault-end number here stage = sym stage.fault

  module _ (s : StatementTree) (rest : List StatementTree) (number : ℕ) (here : RelationEnvironment) (stage : Stage files script (s ∷ rest) number here) where
    meaningful-rest : all_defined files (after files stage.there s) rest ≡ true
    meaningful-rest = and-second (is_defined files stage.there s) (all_defined files (after files stage.there s) rest) stage.meaningful

    meaningful-first : is_defined files stage.there s ≡ true
    meaningful-first = and-first (is_defined files stage.there s) (all_defined files (after files stage.there s) rest) stage.meaningful

    -- the fault of a needed statement, or of those behind it
    fault-needed : is_needed s rest ≡ true
        → run_fault (in_each joins_alone) files script ≡ first_or (statement_fault joins_alone number files stage.there s) (fault_from (in_each joins_alone) files (suc number) (after files stage.there s) rest)
    unfolding first_or
    fault-needed needed = sym stage.fault ∙ rw needed refl

    fault-unneeded : is_needed s rest ≡ false → fault_from (in_each joins_alone) files (suc number) (after files stage.there s) rest ≡ run_fault (in_each joins_alone) files script
    fault-unneeded unneeded = sym (sym stage.fault ∙ rw unneeded refl)

  statement_fault-same : (s : StatementTree) (rest : List StatementTree) (number : ℕ) (there here : RelationEnvironment) → Agrees (s ∷ rest) there here → is_needed s rest ≡ true
      → statement_fault joins_alone number files there s ≡ statement_fault joins_alone number files here s
  statement_fault-same tree.Nothing rest number there here agrees needed = refl
  statement_fault-same (tree.Store n key) rest number there here agrees needed = refl
  statement_fault-same (tree.Assign n r) rest number there here agrees needed =
      relation_fault-agrees files there here number r (mentioned files there here rest n r needed agrees)

  after-needed : (s : StatementTree) (rest : List StatementTree) (there here : RelationEnvironment) → is_needed s rest ≡ true → is_defined files there s ≡ true
      → Agrees (s ∷ rest) there here → Agrees rest (after files there s) (after files here s)
  after-needed tree.Nothing rest there here needed means agrees = after-nothing files there here rest agrees
  after-needed (tree.Store n key) rest there here needed means agrees = after-store files there here rest n key agrees
  after-needed (tree.Assign n r) rest there here needed means agrees =
      after-assign files there here rest n r needed (and-first (is_some (relation_of files there r)) (operands_fit files there r) means) agrees

  -- a needed statement stands for something in both
  defined-same : (s : StatementTree) (rest : List StatementTree) (there here : RelationEnvironment) → is_needed s rest ≡ true → Agrees (s ∷ rest) there here
      → is_defined files there s ≡ is_defined files here s
  defined-same tree.Nothing rest there here needed agrees = refl
  defined-same (tree.Store n key) rest there here needed agrees = ap is_some (stored-same files there here rest n key agrees)
  defined-same (tree.Assign n r) rest there here needed agrees =
      let uses = mentioned files there here rest n r needed agrees in
      λ i. is_some (relation-agrees files there here r uses i) && operands_fit-agrees files there here r uses i

  after-skipped : (s : StatementTree) (rest : List StatementTree) (there here : RelationEnvironment) → is_needed s rest ≡ false
      → Agrees (s ∷ rest) there here → Agrees rest (after files there s) here
  after-skipped tree.Nothing rest there here unneeded agrees = after-nothing files there here rest agrees
  after-skipped (tree.Store n key) rest there here unneeded agrees = cc
  after-skipped (tree.Assign n r) rest there here unneeded agrees = after-unneeded files there here rest n r unneeded agrees

  stored-more : (s : StatementTree) (number : ℕ) (here : RelationEnvironment) → length here.stored < number → length (after files here s).stored < number + 1
  stored-more tree.Nothing number here few = omega arith
  stored-more (tree.Store n key) number here few = by (assigned_to here n)
    where
      by : (found : Option RelationState) → length (option_map_or (with_key here key) found here).stored < number + 1
      by None = omega arith
      by (Some t) = omega arith
  stored-more (tree.Assign n r) number here few = by (relation_of files here r)
    where
      by : (found : Option RelationState) → length (option_map_or (with_name here n) found here).stored < number + 1
      by None = omega arith
      by (Some t) = omega arith

  none-first : (own others : Option RunFault) → own ≡ None → first_or own others ≡ others
  unfolding first_or
  none-first own others e = rw e refl

  some-first : (own others : Option RunFault) (f : RunFault) → own ≡ Some f → first_or own others ≡ Some f
  unfolding first_or
  some-first own others f e = rw e refl

  -- a statement that isn't needed is left out
  pub stage-skipped : (s : StatementTree) (rest : List StatementTree) (number : ℕ) (here : RelationEnvironment) → is_needed s rest ≡ false
      → Stage files script (s ∷ rest) number here → Stage files script rest (number + 1) here
  stage-skipped s rest number here unneeded stage = record {
    there = after files stage.there s;
    agrees = after-skipped s rest stage.there here unneeded stage.agrees;
    meaningful = meaningful-rest s rest number here stage;
    stored = stage.stored;
    fault = rw (add-one number) (fault-unneeded s rest number here stage unneeded);
    few = omega (arith, stage.few);
  }

  -- a needed one without a fault
  pub stage-run : (s : StatementTree) (rest : List StatementTree) (number : ℕ) (here : RelationEnvironment) → is_needed s rest ≡ true
      → statement_fault joins_alone number files here s ≡ None
      → Stage files script (s ∷ rest) number here → Stage files script rest (number + 1) (after files here s)
  stage-run s rest number here needed faultless stage =
      let own : statement_fault joins_alone number files stage.there s ≡ None = statement_fault-same s rest number stage.there here stage.agrees needed ∙ faultless in
      let others = fault_from (in_each joins_alone) files (suc number) (after files stage.there s) rest in
      record {
        there = after files stage.there s;
        agrees = after-needed s rest stage.there here needed (meaningful-first s rest number here stage) stage.agrees;
        meaningful = meaningful-rest s rest number here stage;
        stored = stage.stored;
        fault = rw (add-one number) (sym (fault-needed s rest number here stage needed ∙ none-first (statement_fault joins_alone number files stage.there s) others own));
        few = stored-more s number here stage.few;
      }

  -- and one with a fault
  fault-some : (s : StatementTree) (rest : List StatementTree) (number : ℕ) (here : RelationEnvironment) (f : RunFault) → is_needed s rest ≡ true
      → statement_fault joins_alone number files here s ≡ Some f → Stage files script (s ∷ rest) number here → run_fault (in_each joins_alone) files script ≡ Some f
  fault-some s rest number here f needed faulty stage =
      let own : statement_fault joins_alone number files stage.there s ≡ Some f = statement_fault-same s rest number stage.there here stage.agrees needed ∙ faulty in
      fault-needed s rest number here stage needed
      ∙ some-first (statement_fault joins_alone number files stage.there s) (fault_from (in_each joins_alone) files (suc number) (after files stage.there s) rest) f own

  pub stage-fault : (s : StatementTree) (rest : List StatementTree) (number : ℕ) (here : RelationEnvironment) (f : RunFault) → is_needed s rest ≡ true
      → IsFault f (statement_fault joins_alone number files here s) → Stage files script (s ∷ rest) number here → IsFault f (run_fault (in_each joins_alone) files script)
  stage-fault s rest number here (fault.TooManyRows n) needed is stage = fault-some s rest number here (fault.TooManyRows n) needed is stage
  stage-fault s rest number here (fault.Overflow n) needed is stage = fault-some s rest number here (fault.Overflow n) needed is stage
  stage-fault s rest number here (fault.AggregateOverflow n) needed is stage = fault-some s rest number here (fault.AggregateOverflow n) needed is stage
  stage-fault s rest number here fault.Memory needed is stage = tt

-- the same, where the evaluator's relations have their rows in another order
pub record BagStage (files : List File) (script rest : List StatementTree) (number : ℕ) (here : RelationEnvironment) : Type 0 where
  pub same_as : RelationEnvironment
  pub same : SameEnvironment same_as here
  pub stage : Stage files script rest number same_as

module _ (files : List File) (script : List StatementTree) where
  pub bag-start : has_meaning files script ≡ true → BagStage files script script 1 nothing_yet
  bag-start meaningful = record { same_as = nothing_yet; same = SameEnvironment-itself nothing_yet; stage = stage-start files script meaningful }

  pub bag-stored : (number : ℕ) (here : RelationEnvironment) → BagStage files script [] number here → map sorted_file (reverse here.stored) ≡ map sorted_file (stored_relations files script)
  bag-stored number here b =
      sym (files-sorted (Alike-reverse SameEntry b.same.stored)) ∙ ap (map sorted_file) (stored-end files script number b.same_as b.stage)

  pub bag-few : (number : ℕ) (rest : List StatementTree) (here : RelationEnvironment) → BagStage files script rest number here → length here.stored < number
  bag-few number rest here b = omega (arith, b.stage.few, entries-long b.same.stored)

  pub bag-end : (number : ℕ) (here : RelationEnvironment) → BagStage files script [] number here → run_fault (in_each joins_alone) files script ≡ None
  bag-end number here b = fault-end files script number b.same_as b.stage

  pub bag-skipped : (s : StatementTree) (rest : List StatementTree) (number : ℕ) (here : RelationEnvironment) → is_needed s rest ≡ false
      → BagStage files script (s ∷ rest) number here → BagStage files script rest (number + 1) here
  bag-skipped s rest number here unneeded b =
      record { same_as = b.same_as; same = b.same; stage = stage-skipped files script s rest number b.same_as unneeded b.stage }

  -- a needed statement stands for something
  pub bag-defined : (s : StatementTree) (rest : List StatementTree) (number : ℕ) (here : RelationEnvironment) → is_needed s rest ≡ true
      → BagStage files script (s ∷ rest) number here → is_defined files here s ≡ true
  bag-defined s rest number here needed b =
      sym (defined-same files script s rest b.stage.there b.same_as needed b.stage.agrees ∙ is_defined-same files b.same_as here b.same s)
      ∙ meaningful-first files script s rest number b.same_as b.stage

  -- what a statement without a fault leaves
  pub bag-run : (s : StatementTree) (rest : List StatementTree) (number : ℕ) (here new : RelationEnvironment) → is_needed s rest ≡ true
      → statement_fault joins_alone number files here s ≡ None → SameEnvironment (after files here s) new
      → BagStage files script (s ∷ rest) number here → BagStage files script rest (number + 1) new
  bag-run s rest number here new needed faultless made b = record {
    same_as = after files b.same_as s;
    same =
        SameEnvironment-trans (after files b.same_as s) (after files here s) new
        (after-same files files b.same_as here (entries-itself files) b.same s) made;
    stage =
        stage-run files script s rest number b.same_as needed
        (statement_fault-permuted files (entries-itself files) b.same_as here b.same number s ∙ faultless) b.stage;
  }

  pub bag-fault : (s : StatementTree) (rest : List StatementTree) (number : ℕ) (here : RelationEnvironment) (f : RunFault) → is_needed s rest ≡ true
      → IsFault f (statement_fault joins_alone number files here s) → BagStage files script (s ∷ rest) number here → IsFault f (run_fault (in_each joins_alone) files script)
  bag-fault s rest number here f needed is b =
      stage-fault files script s rest number b.same_as f needed
      (subst (IsFault f) (sym (statement_fault-permuted files (entries-itself files) b.same_as here b.same number s)) is) b.stage
