use Rattle.std.proofs.Common.{◌≡◌, ◌+◌, ◌-◌, length, ◌∙◌, arith}
use Rattle.std.proofs.lemmas.List.Sorted.{IsPermutation-put_mid, IsPermutation-trans, length_permutation}
use borrow.Rule.Slice.PartMut.{put_mid}
use Rattle.packed_rows.proofs.packing.sort_groups.Goals as goal

pub loop-done-preserved : goal.loop-done-preserved
loop-done-preserved c =
    let done = c.loop-done.done in
    let words = c.loop-done.words in
    let size = c.loop-done.done + c.group_length.result - c.loop-done.done in
    let sorted = IsPermutation-put_mid done size words c.sort_unstable.new.self c.sort_unstable.ensures.permutation in
    let long : length (put_mid done size words c.sort_unstable.new.self) ≡ length words = length_permutation words (put_mid done size words c.sort_unstable.new.self) sorted in
    let more = c.group_length.ensures.bound in
    record {
      within = omega (arith, long);
      long = long ∙ c.loop-done.invariant.long;
      same = IsPermutation-trans _ _ _ c.loop-done.invariant.same sorted;
    }
