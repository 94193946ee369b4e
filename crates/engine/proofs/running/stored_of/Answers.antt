use Rattle.std.proofs.Common.{arith, ◌∙◌, length, ap, get_or, subst, sym, List}
use Rattle.algebra.specs.CheckedTrees.{checked_tree_of}
use Rattle.algebra.specs.declared.terms.StoreStep.{StoreStep}
use Rattle.run_laws.specs.Values.{IsKnown}
use Rattle.run_laws.specs.Rewritten.{needed}
use Rattle.run_laws.proofs.NeededLemmas.{stores_are_over_needed}
use Rattle.engine.specs.inner.Steps.{held_store}
use Rattle.engine.proofs.ListLemmas.{few-taken}
use Rattle.engine.proofs.running.stored_of.Goals as goal

pub stored_by-requires-clause-known : goal.stored_by-requires-clause-known
stored_by-requires-clause-known c =
    let i = c.loop-store.store-index in
    let own = c.store-item.result in
    subst (λ (t : StoreStep). IsKnown c.args.files.now (needed (checked_tree_of c.args.checked.now)) t.source)
    (sym (c.store-item.is ∙ ap (λ (ts : List StoreStep). get_or ts i own) c.as_slice-store-items.ensures.value))
    (stores_are_over_needed c.args.files.now (checked_tree_of c.args.checked.now) c.requires.of i own
    (omega (arith, c.loop-store-test.true, ap length c.as_slice-store-items.ensures.value)))

pub push-requires : goal.push-requires
push-requires c =
    let long = ap length c.loop-store.invariant in
    omega (
      arith,
      long,
      few-taken (held_store c.args.files.now (checked_tree_of c.args.checked.now) c.args.held.now)
          c.loop-store.store-index c.args.checked.now.stores,
      c.as_slice-store-items.ensures.bound,
      ap length c.as_slice-store-items.ensures.value,
      c.loop-store-test.true,
    )
