use Rattle.std.proofs.Common.{ℕ, ◌∙◌, ◌++◌, [], ◌∷◌, arith, ap, sym, length, map}
use Rattle.std.specs.List.{range_with_len}
use Rattle.std.proofs.lemmas.List.FromFn.{length-map-range_with_len, map-range_with_len_more}
use Rattle.myrial_ast.specs.Combinations.{Rows}
use Rattle.rel_base.specs.Picks.{every_nth}
use Rattle.engine.proofs.dealing.dealt.Goals as goal

pub push-requires : goal.push-requires
push-requires c =
    let long = ap length c.loop-worker.invariant in
    omega (arith, long, length-map-range_with_len (λ w. every_nth c.args.relation.now.rows c.args.workers w) 0 c.loop-worker.worker, c.loop-worker-test.true)

pub loop-worker-preserved : goal.loop-worker-preserved
loop-worker-preserved c =
    let n : ℕ = c.loop-worker.worker in
    let own : ℕ → Rows = λ w. every_nth c.args.relation.now.rows c.args.workers w in
    c.in_ok-push.ensures.ok ∙ ap (λ l. l ++ c.in_ok-every_nth.field-0 ∷ []) c.loop-worker.invariant
    ∙ ap (λ x. map own (range_with_len 0 n) ++ x ∷ []) (c.in_ok-every_nth.ensures ∙ ap (λ rows. every_nth rows c.args.workers n) c.rows.ensures.value)
    ∙ sym (map-range_with_len_more own 0 n n (omega arith))
