-- the files so far are those of the fetches so far, each good and with the columns of its form; no file changed, and no count fell
use Rattle.std.proofs.Common.{◌≡◌, ◌≤◌, map, take}
use Rattle.std.specs.Prelude.{All}
use Rattle.rel_base.specs.Keys.{File}
use Rattle.myrial_meaning.specs.declared.needed_files.Fetch.{Fetch}
use Rattle.myria_top.specs.EachFile.{MayBeGood}
use Rattle.myria_top.specs.Verdicts.{passes, IfTold}
use Rattle.myria_top.specs.Runs.{IsFetchedBy, files_verdict}
use Rattle.myria_top.proofs.reading.read_files.Given as goal

abbrev pub invariant-loop-fetch : goal.invariant-loop-fetch
invariant-loop-fetch g l = record {
  read : IfTold (files_verdict (g.F.Shelf.content l.fn.shelf) (take l.fetch-index l.fetch-items)) (λ s. s ≡ passes l.files);
  keys : map (λ (file : File). file.0) l.files ≡ map (λ (f : Fetch). f.key) (take l.fetch-index l.fetch-items);
  good : All (MayBeGood (g.F.Shelf.content l.fn.shelf)) (take l.fetch-index l.fetch-items);
  formed : All (IsFetchedBy l.fetch-items) l.files;
  content : g.F.Shelf.content l.shelf ≡ g.F.Shelf.content l.fn.shelf;
  faults : g.F.Shelf.faults l.fn.shelf ≤ g.F.Shelf.faults l.shelf;
  misses : g.F.Shelf.misses l.fn.shelf ≤ g.F.Shelf.misses l.shelf;
}
