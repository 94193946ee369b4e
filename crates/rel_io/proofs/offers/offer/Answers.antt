use Rattle.std.proofs.Common.{ℕ, ◌+◌, ◌-◌, List, ◌++◌, length, take, drop, Option, ◌∙◌, sym, ap, subst, arith}
use Rattle.std.proofs.lemmas.Grind.{common_steps}
use Rattle.std.proofs.Math.Seq.{take-add}
use Rattle.std.proofs.lemmas.List.{take_rest}
use Rattle.std.specs.Io.KnownBytes.{Appends}
use Rattle.std.proofs.KnownBytes.{Appends-trans}
use Rattle.rel_io.proofs.offers.offer.Goals as goal

-- the first bytes of what is left come behind the first `done` bytes
further : (a b c : Option (List ℕ)) (piece : List ℕ) (done count : ℕ) → Appends a b (take done piece) → Appends b c (take count (take (length piece - done) (drop done piece))) → Appends a c (take (done + count) piece)
further a b c piece done count p q =
    let next = ap (λ rest. take done piece ++ take count rest) (take_rest piece done) ∙ sym (take-add done count piece) in
    subst (Appends a c) next (Appends-trans a b c _ _ p q)

pub loop-done-preserved : goal.loop-done-preserved
loop-done-preserved g c =
    let kept = c.loop-done.invariant in
    let written = c.in_ok-done.ensures in
    record {
      within = grind (arith, written.within);
      taken = further _ _ _ c.args.piece.now _ _ kept.taken written.taken;
      faults = omega (arith, kept.faults, written.faults);
      wants = omega (arith, kept.wants, written.wants);
    }

pub returns : goal.returns
returns g c = grind (arith, common_steps)
