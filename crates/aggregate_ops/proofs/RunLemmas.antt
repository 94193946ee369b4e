-- Groups of rows in order: the first run is the first group, and the rows behind it have the others.
use Rattle.std.proofs.Common.{◌≡◌, ℕ, zero, suc, false, cond, List, [], ◌∷◌, ◌++◌, length, map, take, drop, refl, sym, ◌∙◌, ap, subst, arith}
use Rattle.std.specs.Prelude.{All, filter, IsSorted}
use Rattle.std.proofs.lemmas.List.Elements.{All-nil, All-cons, All-head, All-tail, All-weaker, All-filter, filter-append}
use Rattle.std.proofs.lemmas.List.{take-append-drop, take-map, drop-map}
use Rattle.bag_laws.specs.PartialLaws.{AreGrouped}
use Rattle.rel_base.specs.Values.{row_order}
use Rattle.rel_base.specs.ValueLaws.{row_order_total, row_order-IsAntisymmetric}
use Rattle.rel_base.proofs.SortedLemmas.{Ascending, Ascending-IsSorted}
use Rattle.myrial_ast.specs.Combinations.{Row, Rows}
use Rattle.myrial_ast.specs.Bags.{same_row, distinct}
use Rattle.myrial_ast.specs.Groups.{Kinds, key_of, keys, members, group_row, groups}
use Rattle.bag_laws.proofs.RowPermutations.{same_row-sym}
use Rattle.bag_laws.proofs.PartialLemmas.{other, map-agree}
use Rattle.packed_rows.specs.Runs.{IsRun}
use Rattle.packed_rows.proofs.RunLemmas.{AreAll, NoneIs, same-key, distinct-run, run-all, run-rest}
use Rattle.aggregate_ops.specs.Columns.{key_at}

pub All-distinct : (P : Row → Type 0) (rows : Rows) → All P rows → All P (distinct rows)
All-distinct P [] all = All-nil P
All-distinct P (row ∷ rows) all =
    All-cons P row (filter (other row) (distinct rows)) (All-head P row rows all)
    (All-filter (other row) P (distinct rows) (All-distinct P rows (All-tail P row rows all)))

-- ---- groups: the first run is the first group

module _ (kinds : Kinds) where
  members-run : (key : Row) (run rest : Rows) → AreAll key (map (key_of kinds) run) → NoneIs key (map (key_of kinds) rest) → members kinds (run ++ rest) key ≡ run
  members-run key run rest all none =
      filter-append (λ row. same_row key (key_of kinds row)) run rest
      ∙ (λ i. mine run all i ++ others rest none i) ∙ append-none run
    where
      mine : (run : Rows) → AreAll key (map (key_of kinds) run) → members kinds run key ≡ run
      mine [] all = refl
      mine (row ∷ run) all =
          ap (λ t. cond t (row ∷ members kinds run key) (members kinds run key)) (same-key key (key_of kinds row) (All-head (λ row. row ≡ key) (key_of kinds row) (map (key_of kinds) run) all))
          ∙ ap (λ rows. row ∷ rows) (mine run (All-tail (λ row. row ≡ key) (key_of kinds row) (map (key_of kinds) run) all))

      others : (rest : Rows) → NoneIs key (map (key_of kinds) rest) → members kinds rest key ≡ []
      others [] none = refl
      others (row ∷ rest) none =
          ap (λ t. cond t (row ∷ members kinds rest key) (members kinds rest key)) (All-head (λ row. same_row key row ≡ false) (key_of kinds row) (map (key_of kinds) rest) none)
          ∙ others rest (All-tail (λ row. same_row key row ≡ false) (key_of kinds row) (map (key_of kinds) rest) none)

      append-none : (run : Rows) → run ++ [] ≡ run
      append-none [] = refl
      append-none (row ∷ run) = ap (λ rows. row ∷ rows) (append-none run)

  members-rest : (key one : Row) (run rest : Rows) → AreAll key (map (key_of kinds) run) → same_row key one ≡ false → members kinds (run ++ rest) one ≡ members kinds rest one
  members-rest key one [] rest all apart = refl
  members-rest key one (row ∷ run) rest all apart =
      ap (λ t. cond t (row ∷ members kinds (run ++ rest) one) (members kinds (run ++ rest) one)) here
      ∙ members-rest key one run rest (All-tail (λ row. row ≡ key) (key_of kinds row) (map (key_of kinds) run) all) apart
    where
      here : same_row one (key_of kinds row) ≡ false
      here = subst (λ (r : Row). same_row one r ≡ false) (sym (All-head (λ row. row ≡ key) (key_of kinds row) (map (key_of kinds) run) all)) (same_row-sym one key ∙ apart)

  pub groups-run : (key : Row) (first : Row) (more rest : Rows) → AreAll key (map (key_of kinds) (first ∷ more)) → NoneIs key (map (key_of kinds) rest)
      → groups kinds ((first ∷ more) ++ rest) ≡ group_row kinds (first ∷ more) ∷ groups kinds rest
  groups-run key first more rest all none =
      ap (map make) own ∙ (λ i. group_row kinds (members-run key (first ∷ more) rest all none i) ∷ rest_same i)
    where
      make : Row → Row
      make one = group_row kinds (members kinds ((first ∷ more) ++ rest) one)

      key_is : key_of kinds first ≡ key
      key_is = All-head (λ row. row ≡ key) (key_of kinds first) (map (key_of kinds) more) all

      tail : AreAll key (map (key_of kinds) more)
      tail = All-tail (λ row. row ≡ key) (key_of kinds first) (map (key_of kinds) more) all

      own : keys kinds ((first ∷ more) ++ rest) ≡ key ∷ keys kinds rest
      own =
          ap distinct (parts ∙ ap (λ (r : Row). (r ∷ map (key_of kinds) more) ++ map (key_of kinds) rest) key_is)
          ∙ distinct-run key (map (key_of kinds) more) (map (key_of kinds) rest) tail none
        where
          parts : map (key_of kinds) ((first ∷ more) ++ rest) ≡ (key_of kinds first ∷ map (key_of kinds) more) ++ map (key_of kinds) rest
          parts = ap (λ rows. key_of kinds first ∷ rows) (cut more)
            where
              cut : (more : Rows) → map (key_of kinds) (more ++ rest) ≡ map (key_of kinds) more ++ map (key_of kinds) rest
              cut [] = refl
              cut (row ∷ more) = ap (λ rows. key_of kinds row ∷ rows) (cut more)

      rest_same : map make (keys kinds rest) ≡ groups kinds rest
      rest_same =
          map-agree make (λ one. group_row kinds (members kinds rest one)) (keys kinds rest)
          (All-weaker (λ one. same_row key one ≡ false) (λ one. make one ≡ group_row kinds (members kinds rest one))
          (λ one e. ap (group_row kinds) (members-rest key one (first ∷ more) rest all e)) (keys kinds rest)
          (All-distinct (λ one. same_row key one ≡ false) (map (key_of kinds) rest) none))

-- ---- the first run

module _ (kinds : Kinds) (places : List ℕ) (is_key : (row : Row) → length row ≡ length kinds → key_of kinds row ≡ key_at places row) where
  keys-at : (rows : Rows) → AreGrouped kinds rows → map (key_of kinds) rows ≡ map (key_at places) rows
  keys-at rows all =
      map-agree (key_of kinds) (key_at places) rows
      (All-weaker (λ row. length row ≡ length kinds) (λ row. key_of kinds row ≡ key_at places row) is_key rows all)

  -- the first run is a group, and the rows behind it are the others
  pub groups-step : (rows : Rows) (n : ℕ) → AreGrouped kinds rows → IsSorted row_order (map (key_at places) rows) → IsRun (map (key_at places) rows) n
      → groups kinds rows ≡ group_row kinds (take n rows) ∷ groups kinds (drop n rows)
  groups-step rows zero all s r = let some = r.some in absurd (omega arith)
  groups-step [] (suc n) all s r = let within = r.within in absurd (omega arith)
  groups-step (first ∷ rest) (suc n) all s r =
      ap (λ rows. groups kinds (first ∷ rows)) (sym (take-append-drop n rest))
      ∙ groups-run kinds key first (take n rest) (drop n rest)
      (subst (AreAll key) (take-map (key_of kinds) (suc n) (first ∷ rest)) (run-all own (suc n) mine))
      (subst (NoneIs key) (drop-map (key_of kinds) (suc n) (first ∷ rest)) (run-rest own (suc n) mine order))
    where
      own : Rows
      own = map (key_of kinds) (first ∷ rest)

      key : Row
      key = key_of kinds first

      same : map (key_at places) (first ∷ rest) ≡ own
      same = sym (keys-at (first ∷ rest) all)

      mine : IsRun own (suc n)
      mine = subst (λ (rows : Rows). IsRun rows (suc n)) same r

      order : Ascending row_order own
      order = Ascending-IsSorted row_order row_order_total row_order-IsAntisymmetric own (subst (λ (rows : Rows). IsSorted row_order rows) same s)
