use Rattle.std.proofs.Common.{◌≡◌, ◌∙◌, ◌<◌, true, false, length, sym, arith, refl}
use Rattle.std.proofs.lemmas.List.{append-nil, map_push}
use Rattle.std.specs.Option.{option_copied}
use Rattle.myrial_scopes.specs.Scopes.{column_at}
use Rattle.myrial_scopes.specs.Resolutions.{emit_of}
use Rattle.myrial_scopes.specs.inner.Columns.{emits_first, is_emitted}
use Rattle.myrial_scopes.proofs.ScopeLemmas.{emits_first-more, emits_first-all}
use Rattle.myrial_scopes.proofs.scopes.Scope.columns_under.Goals as goal
use Rattle.myrial_scopes.proofs.scopes.Scope.columns_under.Goals.{then-is_emitted+in_ok-plain_column+in_ok-push, else-is_emitted}

pub loop-place-preserved : goal.loop-place-preserved
loop-place-preserved c =
    let scope = c.args.self.now in
    let alias = option_copied c.args.alias in
    let i = c.loop-place.place in
    let low : i < length scope = omega (arith, c.loop-place-test.true, c.len-place-end.ensures) in
    let more = emits_first-more scope alias i low in
    elim c.if-is_emitted.branch [
      | then-is_emitted+in_ok-plain_column+in_ok-push w ↦
          let passes : is_emitted alias (column_at scope i) ≡ true = sym c.is_emitted.ensures ∙ w.if-is_emitted.true in
          rw w.columns-is
          (rw (w.in_ok-push.ensures.items, map_push emit_of c.loop-place.columns.items w.in_ok-plain_column.field-0, w.in_ok-plain_column.ensures, c.loop-place.invariant)
          (sym (more ∙ rw passes refl)))
      | else-is_emitted w ↦
          let fails : is_emitted alias (column_at scope i) ≡ false = sym c.is_emitted.ensures ∙ w.if-is_emitted.false in
          rw w.columns-is (c.loop-place.invariant ∙ sym (more ∙ (rw fails (append-nil (emits_first scope alias i)))))
    ]

pub returns : goal.returns
returns c =
    c.loop-place.invariant ∙ emits_first-all c.args.self.now (option_copied c.args.alias) c.loop-place.place
    (omega (arith, c.loop-place-test.false, c.len-place-end.ensures))
