use Rattle.std.proofs.Common.{◌≡◌, ◌∙◌, ◌+◌, ◌-◌, ◌%◌, sym, ap, arith}
use Rattle.std.proofs.Math.Nat.{add-mod_right, mod-add-mod, mod-eq_of_lt}
use Rattle.rel_base.proofs.strides.start_behind.Goals as goal

pub returns-then-over-start-clause-next : goal.returns-then-over-start-clause-next
returns-then-over-start-clause-next c =
    let step = c.args.step in
    let over = c.args.passed % step in
    let whole : over + (c.args.start - over) ≡ c.args.start = omega arith in
    sym (mod-add-mod c.args.passed step (c.args.start - over)) ∙ ap (λ n. n % step) whole ∙ mod-eq_of_lt c.requires

pub returns-else-over-start-clause-next : goal.returns-else-over-start-clause-next
returns-else-over-start-clause-next c =
    let step = c.args.step in
    let over = c.args.passed % step in
    let whole : over + (c.args.start + (step - over)) ≡ c.args.start + step = omega arith in
    sym (mod-add-mod c.args.passed step (c.args.start + (step - over))) ∙ ap (λ n. n % step) whole
    ∙ add-mod_right c.args.start step ∙ mod-eq_of_lt c.requires
