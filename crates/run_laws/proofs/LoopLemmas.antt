-- What is held while the steps of a script run, one after another.
use Rattle.std.proofs.Common.{ℕ, ◌<◌, List, [], ◌∷◌, ◌++◌, map, length, get_or, sym, ◌∙◌, ap, subst, arith, Option}
use Rattle.std.specs.Prelude.{All, Contains, option_map, take, unwrap_or}
use Rattle.std.proofs.lemmas.List.{get_or-map, length-map, map-append, map_more}
use Rattle.std.proofs.lemmas.List.Elements.{All-map, All-more, All-weaker, Contains-get_or}
use Rattle.rel_base.specs.Keys.{File}
use Rattle.myrial_ast.specs.Combinations.{Rows}
use Rattle.bag_laws.specs.Permuted.{SameTables}
use Rattle.algebra.specs.declared.terms.Source.{Source}
use Rattle.algebra.specs.declared.terms.Source.TheVariants as source
use Rattle.algebra.specs.declared.terms.StoreStep.{StoreStep}
use Rattle.algebra.specs.Trees.{StepTree, CheckedTree}
use Rattle.algebra.specs.Meanings.{sources_of}
use Rattle.placement.specs.Layouts.{Placing, placed_file}
use Rattle.run_laws.specs.Values.{IsKnown, meant}
use Rattle.run_laws.specs.Rewritten.{needed}
use Rattle.run_laws.specs.Held.{AreDealt, IsHeldStep, parts_in, IsIn, AreHeld, HeldAreReady, OneMoreIsHeld, IsHeldStore, StoresAreHeld}
use Rattle.run_laws.proofs.NeededLemmas.{needed_are_over_needed, stores_are_over_needed, number-of}
use Rattle.run_laws.proofs.RewrittenLemmas.{split-at, needed-lower}
use Rattle.run_laws.proofs.FoundLemmas.{known-each, found-some, found-kept, found-last}
use Rattle.run_laws.proofs.HeldLemmas.{file-held, steps_are_ready}

module _ (p : Placing) (files : List File) (c : CheckedTree) (steps : List StepTree) (dealt : List (List Rows))
    (results : List (ℕ × List Rows))
    (held : AreHeld p files c steps dealt results) where
  -- the rows of a file
  pub held-dealt : AreDealt p files (parts_in dealt results)
  held-dealt place f l =
      ap (λ all. get_or all place []) held.files_dealt
      ∙ get_or-map (λ (f : File). (placed_file p.workers f.1).parts) files place f [] l

  -- whatever is known is there
  pub known-in : (o : Source) → IsKnown files steps o → IsIn dealt results o
  known-in (source.File place) h =
      omega (arith, h, ap length held.files_dealt, length-map files (λ (f : File). (placed_file p.workers f.1).parts))
  known-in (source.Result number) h = found-some results number (subst (λ ns. Contains ns number) (sym held.numbers) h)

  -- as the bags that it means
  pub known-held : (o : Source) → IsKnown files steps o → SameTables (meant p files c o).parts (parts_in dealt results o)
  known-held o h =
      known-each (λ o. SameTables (meant p files c o).parts (parts_in dealt results o)) files
      (file-held p files c (parts_in dealt results) held-dealt) steps held.rows o h

pub held_are_ready : HeldAreReady
held_are_ready p files c good of_files typed dealt results i a l held =
    let before = take i (needed c) in
    let x = get_or (needed c) i a in (
      All-weaker (IsKnown files before) (IsIn dealt results) (known-in p files c before dealt results held) (sources_of x.term)
          (needed_are_over_needed files c of_files before x _ (split-at (needed c) i a l)),
      steps_are_ready p files c good of_files typed (parts_in dealt results)
          (held-dealt p files c before dealt results held) i a l held.rows,
    )

-- ---- one result more

abbrev rows-of : Option (ℕ × List Rows) → List Rows
rows-of found = unwrap_or (option_map (λ (r : ℕ × List Rows). r.1) found) []

pub one_more_is_held : OneMoreIsHeld
one_more_is_held p files c of_files dealt results i a l held made same = record {
  files_dealt = held.files_dealt;
  numbers =
      map-append (λ (r : ℕ × List Rows). r.0) results ((number, made) ∷ [])
      ∙ ap (λ ns. ns ++ number ∷ []) held.numbers
      ∙ sym (map_more (λ (s : StepTree). s.statement) (needed c) i a l);
  rows = All-more (IsHeldStep p files c (parts_in dealt more)) (needed c) i a l before last;
}
  where
    number : ℕ
    number = (get_or (needed c) i a).statement

    more : List (ℕ × List Rows)
    more = results ++ (number, made) ∷ []

    kept : (s : StepTree) → Contains (take i (needed c)) s → IsHeldStep p files c (parts_in dealt results) s
        → IsHeldStep p files c (parts_in dealt more) s
    kept s among h =
        subst (SameTables (meant p files c (source.Result s.statement)).parts)
        (ap rows-of (sym (found-kept results ((number, made) ∷ []) s.statement
        (subst (λ ns. Contains ns s.statement) (sym held.numbers) (number-of (take i (needed c)) s among))))) h

    before : All (IsHeldStep p files c (parts_in dealt more)) (take i (needed c))
    before = λ k d k-lt. kept (get_or (take i (needed c)) k d) (Contains-get_or (take i (needed c)) k d k-lt) (held.rows k d k-lt)

    lower : All (λ n. n < number) (map (λ (r : ℕ × List Rows). r.0) results)
    lower =
        subst (All (λ n. n < number)) (sym held.numbers)
        (All-map (λ n. n < number) (λ (s : StepTree). s.statement) (take i (needed c)) (needed-lower files c of_files i a l))

    last : IsHeldStep p files c (parts_in dealt more) (get_or (needed c) i a)
    last =
        subst (SameTables (meant p files c (source.Result number)).parts)
        (ap rows-of (sym (found-last results number made lower))) same

pub stores_are_held : StoresAreHeld
stores_are_held p files c of_files dealt results held =
    All-weaker (λ (t : StoreStep). IsKnown files (needed c) t.source) (IsHeldStore p files c dealt results)
    (λ t k. record {
      there = known-in p files c (needed c) dealt results held t.source k;
      rows = known-held p files c (needed c) dealt results held t.source k;
    }) c.stores (stores_are_over_needed files c of_files)
