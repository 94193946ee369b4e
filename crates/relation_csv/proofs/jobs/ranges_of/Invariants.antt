-- the ranges so far end lines, and are what lies in front of what is left
use Rattle.std.proofs.Common.{◌≡◌, ◌++◌, map, All}
use denote.Shadow.{shadow}
use denote.Text.{Utf8}
use Rattle.rel_base.specs.Picks.{joined}
use Rattle.relation_csv.specs.inner.Ranges.{EndsLine}
use Rattle.relation_csv.proofs.jobs.ranges_of.Given as goal

abbrev pub invariant-cuts : goal.invariant-cuts
invariant-cuts l = record {
  text : shadow (Utf8 l.left);
  ends : All EndsLine (map (λ range. range.now) l.ranges.items);
  whole : joined (map (λ range. range.now) l.ranges.items) ++ l.left ≡ l.text;
}
