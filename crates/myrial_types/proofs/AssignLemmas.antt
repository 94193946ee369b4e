-- What is known behind an assignment, and its first kind.
use Rattle.std.proofs.Common.{◌≡◌, ◌∙◌, ℕ, true, false, cond, List, [], ◌++◌, take, drop, length, Some, None, sym, ap}
use Rattle.std.specs.Prelude.{option_map}
use Rattle.std.specs.Option.{option_map_or, option_or, option_to_list}
use Rattle.std.proofs.lemmas.List.{append-nil, drop_at, take_at}
use Rattle.rel_base.specs.Keys.{File}
use Rattle.myrial_ast.specs.Trees.{Name, RelTree}
use Rattle.myrial_ast.specs.Trees as tree
use Rattle.myrial_meaning.specs.Fetches.{Load, loads_in}
use Rattle.myrial_types.specs.declared.faults.TypeFault.{TypeFault}
use Rattle.myrial_types.specs.declared.faults.TypeFault.TheVariants as refusal
use Rattle.myrial_types.specs.declared.faults.TypeKind.TheVariants as fault
use Rattle.myrial_types.specs.Resolving.{Names, Typed, term_of}
use Rattle.myrial_types.specs.Fetching.{has_conflict}
use Rattle.myrial_types.specs.Kinds.{first_kind, typing_kind}
use Rattle.rel_base.specs.declared.names.Key.{Key}
use Rattle.myrial_meaning.specs.Environments.{assigned_to, with_key}
use Rattle.myrial_types.specs.Checking.{step_of, store_of, with_result}
use Rattle.myrial_types.specs.inner.Progress.{IsKind, Progress, known_after, with_step, with_store}

-- with the loads of a statement
abbrev pub with_loads : Progress → List Load → Progress
with_loads p loads = record { names = p.names; loads = p.loads ++ loads; steps = p.steps; stores = p.stores }

module _ (files : List File) (number : ℕ) (p : Progress) (name : Name) (r : RelTree) where
  pub known-some : (t : Typed) → term_of files p.names r ≡ Some t → with_step number (with_loads p (loads_in (tree.Assign name r))) name t ≡ known_after files number p (tree.Assign name r)
  known-some t e =
      λ i. let k : Progress = record {
        names = option_map_or (with_result number p.names name) (sym e i) p.names;
        loads = p.loads ++ loads_in (tree.Assign name r);
        steps = p.steps ++ option_to_list (option_map (step_of number) (sym e i));
        stores = sym (append-nil p.stores) i;
      } in k

  pub known-none : term_of files p.names r ≡ None → with_loads p (loads_in (tree.Assign name r)) ≡ known_after files number p (tree.Assign name r)
  known-none e =
      (λ i. let k : Progress = record {
        names = p.names;
        loads = p.loads ++ loads_in (tree.Assign name r);
        steps = sym (append-nil p.steps) i;
        stores = sym (append-nil p.stores) i;
      } in k)
      ∙ (λ i. let k : Progress = record {
        names = option_map_or (with_result number p.names name) (sym e i) p.names;
        loads = p.loads ++ loads_in (tree.Assign name r);
        steps = p.steps ++ option_to_list (option_map (step_of number) (sym e i));
        stores = p.stores ++ [];
      } in k)

module _ (files : List File) (names : Names) (earlier : List Load) (name : Name) (r : RelTree) where
  pub kind-none : typing_kind files names r ≡ None → has_conflict earlier (loads_in (tree.Assign name r)) ≡ false → first_kind files names earlier (tree.Assign name r) ≡ None
  kind-none e f = λ i. option_or (e i) (cond (f i) (Some fault.LoadConflict) None)

  pub kind-conflict : typing_kind files names r ≡ None → has_conflict earlier (loads_in (tree.Assign name r)) ≡ true
      → first_kind files names earlier (tree.Assign name r) ≡ Some fault.LoadConflict
  kind-conflict e f = λ i. option_or (e i) (cond (f i) (Some fault.LoadConflict) None)

  pub kind-typing : (number : ℕ) (f : TypeFault) → IsKind number f (typing_kind files names r) → IsKind number f (first_kind files names earlier (tree.Assign name r))
  kind-typing number (refusal.At statement kind) h =
      (h.0, ap (λ o. option_or o (cond (has_conflict earlier (loads_in (tree.Assign name r))) (Some fault.LoadConflict) None)) h.1)
  kind-typing number refusal.Memory h = tt

-- the loads that were added behind the earlier ones
pub conflict-split : (earlier loads all : List Load) (n : ℕ) → all ≡ earlier ++ loads → n ≡ length earlier
    → has_conflict (take n all) (drop n all) ≡ has_conflict earlier loads
conflict-split earlier loads all n e f =
    (λ i. has_conflict (take n (e i)) (drop n (e i)))
    ∙ (ap (λ xs. has_conflict xs (drop n (earlier ++ loads))) (take_at earlier loads n (sym f)) ∙ ap (has_conflict earlier) (drop_at earlier loads n (sym f)))

-- a store is what is known behind its statement
pub known-store : (files : List File) (number : ℕ) (p : Progress) (name : Name) (key : Key) → with_store number p name key ≡ known_after files number p (tree.Store name key)
known-store files number p name key =
    λ i. let k : Progress = record {
      names = option_map_or (with_key p.names key) (assigned_to p.names name) p.names;
      loads = sym (append-nil p.loads) i;
      steps = sym (append-nil p.steps) i;
      stores = p.stores ++ option_to_list (option_map (store_of number key) (assigned_to p.names name));
    } in k
