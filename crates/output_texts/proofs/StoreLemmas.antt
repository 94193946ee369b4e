-- The text of what is stored at workers is the text of the bags of all workers' rows.
use Rattle.std.proofs.Common.{◌≡◌, ℕ, List, [], ◌++◌, length, map, refl, sym, ◌∙◌, ap, append_assoc}
use Rattle.std.specs.Prelude.{All}
use Rattle.std.specs.List.{flat_map}
use Rattle.std.proofs.lemmas.List.Elements.{All-head, All-tail}
use Rattle.std.proofs.lemmas.List.Sorted.{length_permutation, IsPermutation-append, IsPermutation-refl, IsPermutation-sym, IsPermutation-trans}
use Rattle.rel_base.specs.Bags.{SameBag, sorted}
use Rattle.rel_base.specs.Keys.{File}
use Rattle.rel_base.specs.Picks.{joined}
use Rattle.rel_base.specs.Values.{row_order}
use Rattle.rel_base.specs.declared.names.Key.{Key}
use Rattle.rel_base.specs.declared.values.Value.{Value}
use Rattle.rel_base.proofs.SortedLemmas.{IsPermutation-sorted_by}
use Rattle.relation_csv.specs.RecordTexts.{header_record, row_record}
use Rattle.placement.specs.Laws.{IsPlaced}
use Rattle.placement.specs.Layouts.{PlacedRelation}
use Rattle.placement.proofs.TogetherLemmas.{together-same}
use Rattle.placement.specs.Stores.{AreStoredAt, no_store, a_store}
use Rattle.placement.specs.declared.stores.SpreadStore.{SpreadStore}
use Rattle.collector.proofs.CutLemmas.{sorted-same}
use Rattle.output_texts.specs.inner.Ranges.{ranges_text}
use Rattle.output_texts.specs.OutputText.{output_text, relation_text, store_line}
use Rattle.output_texts.specs.Stores.{all_rows, whole_store}
use Rattle.output_texts.specs.TrialText.{trial_text}
use Rattle.output_texts.proofs.TrialLemmas.{trial_text-same}

-- ---- a bag has one text

relation_text-same : (file other : File) → file.0 ≡ other.0 → file.1.schema ≡ other.1.schema → SameBag file.1.rows other.1.rows
    → relation_text file ≡ relation_text other
relation_text-same file other keys schemas same =
    let long : length file.1.rows ≡ length other.1.rows = sym (length_permutation file.1.rows other.1.rows same) in
    let rows : sorted file.1.rows ≡ sorted other.1.rows = sym (sorted-same file.1.rows other.1.rows same) in
    λ i. store_line (keys i) (long i) ++ header_record (schemas i) ++ flat_map row_record (rows i)

-- ---- what is stored, where it is placed

-- a placed relation without its places
abbrev pub unplaced : Key × PlacedRelation → File
unplaced placed = (placed.0, placed.1.relation)

pub stores-text : (n : ℕ) (stored : List SpreadStore) (placed : List (Key × PlacedRelation)) → AreStoredAt stored placed
    → All (λ (p : Key × PlacedRelation). IsPlaced n p.1) placed → output_text (map whole_store stored) ≡ output_text (map unplaced placed)
stores-text n _ _ no_store all = refl
stores-text n _ _ (a_store stored placed rest others is more) all =
    let here : IsPlaced n placed.1 = All-head (λ (p : Key × PlacedRelation). IsPlaced n p.1) placed others all in
    let same : SameBag placed.1.relation.rows (joined stored.parts) =
    IsPermutation-trans _ _ _ here.all_rows (together-same placed.1.parts stored.parts is.parts) in
    let first : relation_text (whole_store stored) ≡ relation_text (unplaced placed) =
    relation_text-same (whole_store stored) (unplaced placed) is.key is.schema (IsPermutation-sym _ _ same) in
    let behind : output_text (map whole_store rest) ≡ output_text (map unplaced others) =
    stores-text n rest others more (All-tail (λ (p : Key × PlacedRelation). IsPlaced n p.1) placed others all) in
    λ i. first i ++ behind i

-- and they have the rows of what is placed
stores-rows : (n : ℕ) (stored : List SpreadStore) (placed : List (Key × PlacedRelation)) → AreStoredAt stored placed
    → All (λ (p : Key × PlacedRelation). IsPlaced n p.1) placed
    → SameBag (all_rows (map whole_store stored)) (all_rows (map unplaced placed))
stores-rows n _ _ no_store all = IsPermutation-refl []
stores-rows n _ _ (a_store stored placed rest others is more) all =
    let here : IsPlaced n placed.1 = All-head (λ (p : Key × PlacedRelation). IsPlaced n p.1) placed others all in
    let same : SameBag placed.1.relation.rows (joined stored.parts) =
    IsPermutation-trans _ _ _ here.all_rows (together-same placed.1.parts stored.parts is.parts) in
    IsPermutation-append _ _ _ _ (IsPermutation-sym _ _ same)
    (stores-rows n rest others more (All-tail (λ (p : Key × PlacedRelation). IsPlaced n p.1) placed others all))

-- and so its text as a trial
pub stores-trial : (n size : ℕ) (stored : List SpreadStore) (placed : List (Key × PlacedRelation)) → AreStoredAt stored placed
    → All (λ (p : Key × PlacedRelation). IsPlaced n p.1) placed
    → trial_text size (all_rows (map whole_store stored)) ≡ trial_text size (all_rows (map unplaced placed))
stores-trial n size stored placed are all = trial_text-same size _ _ (stores-rows n stored placed are all)

-- ---- what was written of a store

-- the text of a store: its line, its header, and the ranges of its rows
pub store_text : (store : SpreadStore) (rows : List (List Value)) (ranges : List (List (List Value))) (count : ℕ) (before lined headed text : List ℕ)
    → rows ≡ sorted (joined store.parts) → joined ranges ≡ rows → count ≡ length rows
    → lined ≡ before ++ store_line store.key count
    → headed ≡ lined ++ header_record store.schema → text ≡ headed ++ ranges_text ranges
    → text ≡ before ++ relation_text (whole_store store)
store_text store rows ranges count before lined headed text in_order cut counted line header written =
    let all = joined store.parts in
    let long : count ≡ length all =
    counted ∙ ap length in_order ∙ length_permutation all (sorted all) (IsPermutation-sorted_by row_order all) in
    let records : ranges_text ranges ≡ flat_map row_record (sorted all) = ap (flat_map row_record) (cut ∙ in_order) in
    let line_of_all = store_line store.key (length all) in
    let header_of_all = header_record store.schema in
    let records_of_all = flat_map row_record (sorted all) in
    let known : headed ≡ (before ++ line_of_all) ++ header_of_all =
    header ∙ ap (λ (t : List ℕ). t ++ header_of_all) (line ∙ ap (λ n. before ++ store_line store.key n) long) in
    written ∙ ap (λ (t : List ℕ). headed ++ t) records ∙ ap (λ (t : List ℕ). t ++ records_of_all) known
    ∙ ap (λ (t : List ℕ). t ++ records_of_all) (append_assoc before line_of_all header_of_all)
    ∙ append_assoc before (line_of_all ++ header_of_all) records_of_all
