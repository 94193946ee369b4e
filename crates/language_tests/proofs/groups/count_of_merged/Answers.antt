use Rattle.std.proofs.Common.{◌≡◌, [], length, refl}
use Rattle.std.proofs.lemmas.List.Elements.{All-cons, All-nil}
use Rattle.std.proofs.lemmas.List.Sorted.{All-permutation}
use Rattle.myrial_ast.specs.Combinations.{Row}
use Rattle.language_tests.proofs.groups.count_of_merged.Goals as goal

pub merge-requires : goal.merge-requires
merge-requires c =
    let Wide : Row → Type 0 = λ row. length row ≡ 3 in
    let same = rw (c.in_ok-kinds.ensures, c.in_ok-rows.ensures) at c.in_ok-split.ensures in
    rw c.in_ok-kinds.ensures (All-permutation Wide _ _ same (All-cons Wide _ [] refl (All-nil Wide)))
