-- What a script comes to, one statement further at a time.
use Rattle.std.proofs.Common.{◌≡◌, ◌∙◌, ℕ, ◌+◌, List, [], ◌∷◌, ◌++◌, None, refl, sym, ap}
use Rattle.std.specs.Prelude.{Result, Ok, Err}
use Rattle.std.proofs.lemmas.List.{append_assoc, append-nil}
use Rattle.rel_base.specs.Keys.{File}
use Rattle.myrial_ast.specs.Trees.{StatementTree}
use Rattle.myrial_ast.specs.Trees as tree
use Rattle.myrial_meaning.specs.Fetches.{loads_in}
use Rattle.algebra.specs.Trees.{CheckedTree}
use Rattle.myrial_types.specs.declared.faults.TypeFault.{TypeFault}
use Rattle.myrial_types.specs.declared.faults.TypeFault.TheVariants as refusal
use Rattle.myrial_types.specs.Kinds.{first_kind}
use Rattle.myrial_types.specs.Checking.{before, checked_from, checked_of, names_after, with_statement, IsFault}
use Rattle.myrial_types.specs.inner.Progress.{IsKind, Progress, known_after, nothing_known, steps_in, stores_in}

-- what is known, and then what the rest comes to
abbrev pub continued : Progress → Result CheckedTree TypeFault → Result CheckedTree TypeFault
continued p (Ok c) = Ok (record { steps = p.steps ++ c.steps; stores = p.stores ++ c.stores })
continued p (Err fault) = Err fault

-- a script comes to what is known and what the rest comes to, whose first statement has this number
abbrev pub Stage : List File → List StatementTree → List StatementTree → ℕ → Progress → Type 0
Stage files script rest number p = checked_of files script ≡ continued p (checked_from files number p.names p.loads rest)

pub stage-start : (files : List File) (script : List StatementTree) → Stage files script script 1 nothing_known
stage-start files script = by (checked_of files script)
  where
    by : (r : Result CheckedTree TypeFault) → r ≡ continued nothing_known r
    by (Ok c) = refl
    by (Err fault) = refl

pub stage-end : (files : List File) (script : List StatementTree) (number : ℕ) (p : Progress) → Stage files script [] number p
    → checked_of files script ≡ Ok (record { steps = p.steps; stores = p.stores })
stage-end files script number p h =
    h ∙ (λ i. let c : CheckedTree = record { steps = append-nil p.steps i; stores = append-nil p.stores i } in Ok c)

module _ (files : List File) (script : List StatementTree) (s : StatementTree) (rest : List StatementTree) (number : ℕ) (p : Progress) where
  pub stage-fault : (fault : TypeFault) → IsKind number fault (first_kind files p.names p.loads s) → Stage files script (s ∷ rest) number p → IsFault fault (checked_of files script)
  stage-fault (refusal.At statement kind) h stage =
      stage
      ∙ (ap (λ k. continued p (before number k (with_statement files number p.names s) (checked_from files (number + 1) (names_after files number p.names s) (p.loads ++ loads_in s) rest))) h.1
      ∙ ap (λ n. Err (refusal.At n kind)) (sym h.0))
  stage-fault refusal.Memory h stage = tt

  joined-steps : (c : CheckedTree) → p.steps ++ (with_statement files number p.names s c).steps ≡ (p.steps ++ steps_in files number p.names s) ++ c.steps
  joined-steps c = by s
    where
      by : (s : StatementTree) → p.steps ++ (with_statement files number p.names s c).steps ≡ (p.steps ++ steps_in files number p.names s) ++ c.steps
      by tree.Nothing = ap (λ steps. steps ++ c.steps) (sym (append-nil p.steps))
      by (tree.Assign name r) = sym (append_assoc p.steps (steps_in files number p.names (tree.Assign name r)) c.steps)
      by (tree.Store name key) = ap (λ steps. steps ++ c.steps) (sym (append-nil p.steps))

  joined-stores : (c : CheckedTree) → p.stores ++ (with_statement files number p.names s c).stores ≡ (p.stores ++ stores_in number p.names s) ++ c.stores
  joined-stores c = by s
    where
      by : (s : StatementTree) → p.stores ++ (with_statement files number p.names s c).stores ≡ (p.stores ++ stores_in number p.names s) ++ c.stores
      by tree.Nothing = ap (λ stores. stores ++ c.stores) (sym (append-nil p.stores))
      by (tree.Assign name r) = ap (λ stores. stores ++ c.stores) (sym (append-nil p.stores))
      by (tree.Store name key) = sym (append_assoc p.stores (stores_in number p.names (tree.Store name key)) c.stores)

  pub stage-next : first_kind files p.names p.loads s ≡ None → Stage files script (s ∷ rest) number p → Stage files script rest (number + 1) (known_after files number p s)
  stage-next none stage =
      stage
      ∙ (ap (λ k. continued p (before number k (with_statement files number p.names s) (checked_from files (number + 1) (names_after files number p.names s) (p.loads ++ loads_in s) rest))) none
      ∙ by (checked_from files (number + 1) (names_after files number p.names s) (p.loads ++ loads_in s) rest))
    where
      by : (r : Result CheckedTree TypeFault) → continued p (before number None (with_statement files number p.names s) r) ≡ continued (known_after files number p s) r
      by (Ok c) = λ i. let d : CheckedTree = record { steps = joined-steps c i; stores = joined-stores c i } in Ok d
      by (Err fault) = refl
