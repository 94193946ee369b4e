-- What sorting jobs and the merge of what they sorted come to.
use Rattle.std.proofs.Common.{◌≡◌, suc, List, [], ◌∷◌, ◌++◌, map, Ok, refl, sym, ap, ◌∙◌, arith}
use Rattle.std.specs.Prelude.{IsPermutation}
use Rattle.std.specs.Global.{Vec}
use Rattle.std.specs.Borrow.{Bor}
use Rattle.std.specs.List.{flat_map}
use Rattle.std.proofs.lemmas.List.Sorted.{IsPermutation-refl, IsPermutation-append, IsPermutation-map}
use Rattle.std.proofs.lemmas.List.{map-append}
use Rattle.crew.specs.Jobs.{EachHasRun}
use Rattle.rel_base.specs.declared.values.Value.{Value}
use Rattle.rel_base.specs.Bags.{SameBag, sorted}
use Rattle.rel_base.specs.Picks.{joined}
use Rattle.rel_base.specs.Values.{row_order}
use Rattle.rel_base.specs.ValueLaws.{row_order_total, row_order-IsAntisymmetric}
use Rattle.rel_base.proofs.SortedLemmas.{sorted_by-unique}
use Rattle.collector.specs.declared.sorting.Sorting.{Sorting}
use Rattle.collector.specs.inner.Merged.{IsMerged}
use Rattle.collector.specs.inner.Jobs.{HasSorted}
use Rattle.collector.specs.inner.Sorted.{rows_at, reference_order}
use Rattle.collector.proofs.SortingLemmas.{rows_in_order}

abbrev pub Reference : Type 0
Reference = Bor (List Value)

-- what the jobs sorted has the rows of their parts
pub sorted_by_jobs : (before after : List Sorting) (made : List (List (List Value))) → EachHasRun HasSorted before after
    → map Ok made ≡ map (λ job. job.sorted) after
    → SameBag (joined (map (λ job. job.part.now) before)) (joined made)
sorted_by_jobs [] [] [] run same = IsPermutation-refl []
sorted_by_jobs [] [] (part ∷ made) run same = cc
sorted_by_jobs [] (a ∷ after) made run same = absurd (omega (arith, run.len))
sorted_by_jobs (b ∷ before) [] made run same = absurd (omega (arith, run.len))
sorted_by_jobs (b ∷ before) (a ∷ after) [] run same = cc
sorted_by_jobs (b ∷ before) (a ∷ after) (part ∷ made) run same =
    let first : Ok part ≡ a.sorted = cc in
    let others : map Ok made ≡ map (λ (job : Sorting). job.sorted) after = cc in
    let own : HasSorted b a = run.each 0 b (omega arith) in
    let here : SameBag b.part.now part = rw (sym first) at own in
    let rest = sorted_by_jobs before after made
    (record { len = omega (arith, run.len); each = λ k d low. run.each (suc k) d (omega (arith, low)) }) others in
    IsPermutation-append _ _ _ _ here rest

-- the rows that references of lists lead to are those of each list, one list after another
rows_of_lists : (lists : List (List Reference)) → rows_at (flat_map (λ rows. rows) lists) ≡ joined (map rows_at lists)
rows_of_lists [] = refl
rows_of_lists (rows ∷ lists) =
    map-append (λ (row : Reference). row.now) rows (flat_map (λ rows. rows) lists)
    ∙ ap (λ more. rows_at rows ++ more) (rows_of_lists lists)

map_twice : (lists : List (Vec Reference)) → map rows_at (map (λ list. list.items) lists) ≡ map (λ list. rows_at list.items) lists
map_twice [] = refl
map_twice (list ∷ lists) = ap (λ more. rows_at list.items ∷ more) (map_twice lists)

-- the merge of lists that lead to the rows of runs leads to these in ascending order
pub merged_rows : (runs : List (List (List Value))) (lists : List (Vec Reference)) (all : Vec Reference)
    → map (λ list. rows_at list.items) lists ≡ runs → IsMerged reference_order lists all
    → rows_at all.items ≡ sorted (joined runs)
merged_rows runs lists all lead merged =
    let moved : IsPermutation (rows_at (flat_map (λ items. items) (map (λ list. list.items) lists))) (rows_at all.items) =
    IsPermutation-map (λ (row : Reference). row.now) _ _ merged.same_items in
    let same : SameBag (joined runs) (rows_at all.items) =
    rw (rows_of_lists (map (λ (list : Vec Reference). list.items) lists), map_twice lists, lead) at moved in
    sorted_by-unique row_order row_order_total row_order-IsAntisymmetric (joined runs) (rows_at all.items) same
    (rows_in_order all.items merged.in_order)
