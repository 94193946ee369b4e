use Rattle.std.proofs.Common.{ℕ, ◌≡◌, ◌∙◌, ◌+◌, ◌<◌, List, [], ◌∷◌, ◌++◌, length, get_or, take, drop, sym, ap, arith, append_assoc}
use Rattle.std.proofs.lemmas.List.{drop_more, drop-set-lt, take_more}
use Rattle.rel_base.proofs.row_values.move_few.Goals as goal

-- lists with equal rests have equal items there
same_rest : {X : Type 0} (xs ys : List X) (i : ℕ) (d : X) → i < length xs → i < length ys → drop i xs ≡ drop i ys
    → (get_or xs i d ≡ get_or ys i d) × (drop (i + 1) xs ≡ drop (i + 1) ys)
same_rest xs ys i d low low2 same =
    let both = sym (drop_more xs i d low) ∙ same ∙ drop_more ys i d low2 in
    (ap (λ zs. get_or zs 0 d) both, ap (drop 1) both)

pub loop-value-preserved : goal.loop-value-preserved
loop-value-preserved c =
    let i = c.loop-value.value-index in
    let now = c.loop-value.value-items in
    let all = c.args.values.now in
    let item = c.value-item.result in
    let inv = c.loop-value.invariant in
    let low : i < length now = omega (arith, c.loop-value-test.true, c.loop-value.auto.value-items) in
    let same = same_rest now all i item low c.loop-value-test.true inv.rest in
    let moved : c.take.result ≡ get_or all i item = c.take.ensures.value ∙ same.0 in
    let rest = drop-set-lt (i + 1) now i c.take.new.dest (omega arith) in
    let one = ap length (drop_more now i item low) in
    record {
      moved = c.push_reserved.ensures.items ∙ ap (λ xs. xs ++ c.take.result ∷ []) inv.moved
          ∙ append_assoc c.args.into.now.items (take i all) (c.take.result ∷ [])
          ∙ ap (λ x. c.args.into.now.items ++ (take i all ++ x ∷ [])) moved
          ∙ ap (λ xs. c.args.into.now.items ++ xs) (sym (take_more all i item c.loop-value-test.true));
      rest = rest ∙ same.1;
      room = omega (arith, inv.room, one, ap length rest, c.push_reserved.ensures.len, c.push_reserved.ensures.capacity);
    }
