use Rattle.std.proofs.Common.{◌∙◌, ◌==◌, ℕ, Bool, ◌++◌, ◌∷◌, [], cond, filter, sym, ap}
use Rattle.std.proofs.lemmas.List.{append-nil}
use Rattle.std.specs.Prelude.{slice_index}
use Rattle.std.specs.List.{range_with_len}
use Rattle.myrial_types.proofs.ClassesLemmas.{filter-more, same-true, same-false}
use Rattle.myrial_types.proofs.classes.class_of.Goals as goal
use Rattle.myrial_types.proofs.classes.class_of.Goals.{then-leaders-place+in_ok-push_place, else-leaders-place}

pub loop-place-preserved : goal.loop-place-preserved
loop-place-preserved c =
    let leaders = c.args.leaders.now in
    let place = c.loop-place.place in
    let own = slice_index leaders c.args.column in
    let test : ℕ → Bool = λ d. slice_index leaders c.args.column == slice_index leaders d in
    let before = c.loop-place.invariant in
    elim c.if-leaders-place.branch [
      | then-leaders-place+in_ok-push_place w ↦
          w.found-is
          ∙ (w.in_ok-push_place.ensures
          ∙ (ap (λ found. found ++ place ∷ []) before
          ∙ sym (filter-more test place ∙ ap (λ b. filter test (range_with_len 0 place) ++ cond b (place ∷ []) []) (same-true (slice_index leaders place) own w.if-leaders-place.true))))
      | else-leaders-place w ↦
          w.found-is
          ∙ (before
          ∙ sym (filter-more test place
          ∙ (ap (λ b. filter test (range_with_len 0 place) ++ cond b (place ∷ []) []) (same-false (slice_index leaders place) own w.if-leaders-place.false)
          ∙ append-nil (filter test (range_with_len 0 place)))))
    ]
