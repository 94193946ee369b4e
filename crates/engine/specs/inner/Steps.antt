-- Steps, and how far a run has come.
--
--   IsStepDone ..              what running a step does on Ok: its result is held, and what it did is noted
--   IsStep ..                  what it does, whatever it answers
--   AreRun ..                  some steps have run and others are left: what is held and noted is what they mean
--   schema_at files c o        the columns of what a source stands for
--   held_store files c held t  what a store stores, where its rows are held
use Rattle.std.specs.Prelude.{◌≡◌, ⊤, ℕ, List, [], ◌∷◌, ◌++◌, map, length, All, None, Result, IfErr, OnOk}
use Rattle.std.specs.List.{flat_map}
use Rattle.rel_base.specs.Keys.{File}
use Rattle.rel_base.specs.declared.relations.Column.{Column}
use Rattle.rel_base.specs.declared.faults.RunFault.{RunFault}
use Rattle.rel_io.specs.declared.taps.Totals.{Totals}
use Rattle.exchange_channels.specs.Wirings.{ReceiptState}
use Rattle.myrial_ast.specs.Combinations.{Rows}
use Rattle.bag_laws.specs.Permuted.{SameTables}
use Rattle.algebra.specs.declared.notes.PlanNote.TheVariants as note
use Rattle.algebra.specs.declared.settings.Settings.{Settings}
use Rattle.algebra.specs.declared.terms.Source.{Source}
use Rattle.algebra.specs.declared.terms.StoreStep.{StoreStep}
use Rattle.algebra.specs.Meanings.{found, no_relation, relations_of, step_relations, term_fault}
use Rattle.algebra.specs.Trees.{StepTree, CheckedTree}
use Rattle.placement.specs.Layouts.{together, term_parts}
use Rattle.placement.specs.Exchanges.{PlacedExchange, term_exchanges, traffic_note}
use Rattle.placement.specs.Plans.{ShuffleRule, placing_by, plan_kind, term_notes, step_notes}
use Rattle.placement.specs.Runs.{size_of, faults_at}
use Rattle.placement.specs.declared.stores.SpreadStore.{SpreadStore}
use Rattle.routed_joins.specs.TermRuns.{shown_moves, AreShown, AreMoved, AreFair}
use Rattle.run_laws.specs.Values.{meant}
use Rattle.run_laws.specs.Scripts.{step_exchanges, IsSound}
use Rattle.run_laws.specs.Held.{AreHeld}
use Rattle.engine.specs.declared.held.Held.{Held}
use Rattle.engine.specs.declared.noted.Noted.{Noted}
use Rattle.engine.specs.Runs.{IsRunFault}
use Rattle.engine.specs.inner.Held.{parts_held, value_held, UsedAreHeld}

-- ---- one step

-- the exchanges of a step over what is held
abbrev pub held_exchanges : Settings → (ℕ → ShuffleRule) → Held → StepTree
    → List PlacedExchange
held_exchanges s rules held t =
    term_exchanges (placing_by s rules) t.statement (value_held held) t.term

-- the result of a step is held, as bags, with those that a store or a later step uses; its line
-- with its rows and the lines below it, the notes and the receipts of its exchanges stand behind
-- those before; and the taps rose by its exchanges
pub record IsStepDone {T : Type 0} (s : Settings) (rules : ℕ → ShuffleRule) (t : StepTree)
    (stores : List StoreStep) (later : List StepTree) (held after_held : Held)
    (noted after_noted : Noted)
    (totals : T → Totals) (tag : T → ℕ) (before after : List T) : Type 0 where
  pub made : List Rows
  pub receipts : List ReceiptState
  pub files : after_held.files ≡ held.files
  pub results : UsedAreHeld stores later (held.results.items ++ (t.statement, made) ∷ [])
      after_held.results.items
  pub parts : SameTables (term_parts (placing_by s rules) t.statement (value_held held) t.term) made
  pub plan : after_noted.plan ≡ noted.plan
      ++ note.Statement t.statement (plan_kind t.term) (length (together made))
      ∷ term_notes (placing_by s rules) s.local t.statement (value_held held) t.term
  pub traffic : after_noted.traffic ≡ noted.traffic
      ++ map (λ (e : PlacedExchange). traffic_note s.workers (t.statement, e))
      (held_exchanges s rules held t)
  pub noted_receipts : after_noted.receipts ≡ noted.receipts ++ receipts
  pub shown : AreShown (size_of s) (flat_map shown_moves (held_exchanges s rules held t)) receipts
  pub moved : AreMoved totals tag s.workers (held_exchanges s rules held t) before after
  pub sound : term_fault (faults_at s rules t.statement) t.statement
      (λ o. (value_held held o).relation.rows) t.term
      ≡ None

-- what running a step over what is held does
pub record IsStep {T : Type 0} (s : Settings) (rules : ℕ → ShuffleRule) (t : StepTree)
    (stores : List StoreStep) (later : List StepTree) (held after_held : Held)
    (noted after_noted : Noted)
    (totals : T → Totals) (tag : T → ℕ) (before after : List T) (answer : Result ⊤ RunFault)
    : Type 0 where
  pub fair : AreFair totals tag before after
  pub ok : OnOk answer
      (IsStepDone s rules t stores later held after_held noted after_noted totals tag before after)
  pub err : IfErr answer
      (IsRunFault (term_fault (faults_at s rules t.statement) t.statement
      (λ o. (value_held held o).relation.rows) t.term))

-- ---- the steps so far

-- the exchanges of some steps of a script, each with the number of its statement, and without
abbrev pub numbered_exchanges : Settings → (ℕ → ShuffleRule) → List File → CheckedTree
    → List StepTree → List (ℕ × PlacedExchange)
numbered_exchanges s rules files c steps =
    flat_map (step_exchanges (placing_by s rules) (meant (placing_by s rules) files c)) steps

abbrev pub bare_exchanges : Settings → (ℕ → ShuffleRule) → List File → CheckedTree
    → List StepTree → List PlacedExchange
bare_exchanges s rules files c steps =
    map (λ (e : ℕ × PlacedExchange). e.1) (numbered_exchanges s rules files c steps)

-- some steps have run and others are left: the rows of each result that is still used lie where they are placed, as bags; the
-- plan, the traffic and the receipts are those of the steps that have run, the taps rose by their exchanges, and nothing is wrong
-- with them
pub record AreRun {T : Type 0} (s : Settings) (rules : ℕ → ShuffleRule) (files : List File)
    (c : CheckedTree) (steps left : List StepTree)
    (held : Held) (noted : Noted) (totals : T → Totals) (tag : T → ℕ)
    (before after : List T) : Type 0 where
  pub every : List (ℕ × List Rows)
  pub made_as_meant : AreHeld (placing_by s rules) files c steps held.files every
  pub used : UsedAreHeld c.stores left every held.results.items
  pub plan : noted.plan
      ≡ flat_map (step_notes (placing_by s rules) s.local (meant (placing_by s rules) files c))
      steps
  pub traffic :
      noted.traffic ≡ map (traffic_note s.workers) (numbered_exchanges s rules files c steps)
  pub receipts : AreShown (size_of s)
      (flat_map shown_moves (bare_exchanges s rules files c steps)) noted.receipts
  pub moved : AreMoved totals tag s.workers (bare_exchanges s rules files c steps) before after
  pub sound : All (IsSound (placing_by s rules) (faults_at s rules) files c) steps

-- ---- stores

-- the columns of what a source stands for
abbrev pub schema_at : List File → CheckedTree → Source → List Column
schema_at files c o =
    (found no_relation (relations_of files) (step_relations files c.steps) o).schema

-- what is stored of what is held
abbrev pub held_store : List File → CheckedTree → Held → StoreStep → SpreadStore
held_store files c held t =
    record { key = t.key; schema = schema_at files c t.source; parts = parts_held held t.source }
