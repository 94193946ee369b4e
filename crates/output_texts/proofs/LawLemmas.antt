-- Relations in order read, as they stand, as the text of the relations.
use Rattle.std.proofs.Common.{◌≡◌, List, [], ◌∷◌, ◌++◌, length, map, refl}
use Rattle.std.specs.List.{flat_map}
use Rattle.std.proofs.lemmas.List.Sorted.{length_permutation}
use Rattle.rel_base.specs.Bags.{sorted}
use Rattle.rel_base.specs.Keys.{File}
use Rattle.rel_base.specs.Values.{row_order}
use Rattle.rel_base.proofs.SortedLemmas.{IsPermutation-sorted_by}
use Rattle.relation_csv.specs.RecordTexts.{header_record, row_record}
use Rattle.myrial_meaning.specs.SortedFiles.{sorted_file}
use Rattle.output_texts.specs.OutputText.{output_text, relation_lines, store_line}

pub sorted-lines : (files : List File) → flat_map relation_lines (map sorted_file files) ≡ output_text files
sorted-lines [] = refl
sorted-lines (file ∷ files) =
    let rows = file.1.rows in
    let long : length (sorted rows) ≡ length rows = length_permutation rows (sorted rows) (IsPermutation-sorted_by row_order rows) in
    let others : flat_map relation_lines (map sorted_file files) ≡ output_text files = sorted-lines files in
    λ i. (store_line file.0 (long i) ++ header_record file.1.schema ++ flat_map row_record (sorted rows)) ++ others i
