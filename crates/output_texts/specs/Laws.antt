-- A law of the texts.
--
--   SortedLinesAreTheText      sorted relations read, as they stand, as the text of the relations
use Rattle.std.specs.Prelude.{◌≡◌, List, map}
use Rattle.std.specs.List.{flat_map}
use Rattle.rel_base.specs.Keys.{File}
use Rattle.myrial_meaning.specs.SortedFiles.{sorted_file}
use Rattle.output_texts.specs.OutputText.{relation_lines, output_text}

-- relations whose rows were put in ascending order read, as they stand, as the text of the relations
-- before that
abbrev pub SortedLinesAreTheText : Type 0
SortedLinesAreTheText =
    (files : List File) → flat_map relation_lines (map sorted_file files) ≡ output_text files
