use Rattle.std.proofs.Common.{◌≡◌, ◌++◌, ◌∷◌, [], List, subst, sym, arith}
use Rattle.std.proofs.lemmas.Grind.{common_steps}
use Rattle.myrial_ast.specs.declared.scalars.Scalar.{Scalar}
use Rattle.packed_rows.specs.declared.columns.PackedColumn.{PackedColumn}
use Rattle.packed_rows.specs.inner.Twins.{IsTold}
use Rattle.packed_rows.proofs.TwinLemmas.{IsTold-more, IsTold-last}
use Rattle.packed_rows.proofs.twin_columns.Singles.add.Goals as goal

-- what is told by columns and picks is told by lists that are equal to them
moved : (columns more : List PackedColumn) (picks others : List Scalar) (c : PackedColumn) (p : Scalar) → columns ≡ more → picks ≡ others → IsTold columns picks c p → IsTold more others c p
moved columns more picks others c p same equal told = subst (λ (ps : List Scalar). IsTold more ps c p) equal (subst (λ (cs : List PackedColumn). IsTold cs picks c p) same told)

pub returns-clause-told : goal.returns-clause-told
returns-clause-told c =
    moved (c.args.self.now.columns.items ++ c.args.column ∷ []) c.push.new.self.items (c.args.self.now.picks.items ++ c.in_ok-copy.field-0 ∷ []) c.push-2.new.self.items c.args.column c.args.pick.now
    (sym c.in_ok-push.ensures.items) (sym c.in_ok-push-2.ensures.items)
    (IsTold-last c.args.self.now.columns.items c.args.self.now.picks.items c.requires c.args.column c.args.pick.now c.in_ok-copy.field-0 c.in_ok-copy.ensures)

pub returns-clause-kept : goal.returns-clause-kept
returns-clause-kept c column pick told =
    moved (c.args.self.now.columns.items ++ c.args.column ∷ []) c.push.new.self.items (c.args.self.now.picks.items ++ c.in_ok-copy.field-0 ∷ []) c.push-2.new.self.items column pick
    (sym c.in_ok-push.ensures.items) (sym c.in_ok-push-2.ensures.items)
    (IsTold-more c.args.self.now.columns.items c.args.self.now.picks.items c.requires c.args.column c.args.pick.now c.in_ok-copy.field-0 column pick told)

pub returns-clause-long : goal.returns-clause-long
returns-clause-long c = grind (arith, common_steps)
