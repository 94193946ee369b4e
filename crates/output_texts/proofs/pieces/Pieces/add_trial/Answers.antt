use Rattle.std.proofs.Common.{Result, Ok, Err, map, sym, subst, arith}
use Rattle.std.specs.Prelude.{OnOk}
use Rattle.std.proofs.lemmas.List.{length-map}
use Rattle.std.proofs.lemmas.List.Sorted.{IsPermutation-refl}
use Rattle.rel_base.specs.Bags.{SameBag}
use Rattle.output_texts.specs.Stores.{all_rows, whole_store}
use Rattle.output_texts.proofs.TrialLemmas.{counts-same}
use Rattle.output_texts.proofs.pieces.Pieces.add_trial.Goals as goal

carried : {X E P Q : Type 0} (r : Result X E) → (P → Q) → OnOk r P → OnOk r Q
carried (Ok x) f h = f h
carried (Err why) f h = tt

pub returns : goal.returns
returns c =
    let rows = map (λ row. row.now) c.in_ok-rows.rows.items in
    let all = all_rows (map whole_store c.args.stored.now) in
    carried c.add_counts.result
    (counts-same c.args.size c.args.self.now c.add_counts.new.self all rows
    c.len-count.result c.number_of_different-different.result (subst (SameBag all) (sym c.in_ok-rows.ensures) (IsPermutation-refl all))
    (omega (arith, c.len-count.ensures, c.in_ok-rows.rows.ok, length-map c.in_ok-rows.rows.items (λ row. row.now)))
    c.number_of_different-different.ensures)
    c.add_counts.ensures
