-- The rows of a text, from those of the ranges that it is cut into.
use Rattle.std.proofs.Common.{◌≡◌, ◌∙◌, ℕ, zero, suc, ◌+◌, ◌-◌, ◌/◌, ◌<◌, ◌≤◌, false, Option, Some, None, is_some, Result, Ok, Err, IfOk, IfSome, List, [], ◌∷◌, ◌++◌, length, map, get_or, take, drop, All, slice_index_or, inl, inr, refl, sym, ap, append_assoc, arith, length-append}
use Rattle.std.specs.Borrow.{Bor}
use Rattle.std.proofs.lemmas.Bool.{cases_Bool, eqb-true}
use Rattle.std.proofs.lemmas.List.{append-nil, get_or-drop, length-drop, map-append, take_all, take_more}
use Rattle.std.proofs.lemmas.List.Elements.{All-head, All-tail}
use Rattle.std.proofs.lemmas.List.Concat.{flat_map-append}
use Rattle.std.proofs.lemmas.Nat.{div-add-mod'}
use Rattle.memchr.specs.Find.{IsFirstByte, NoneBefore, Passes, is_byte, is_byte2}
use Rattle.csv.specs.declared.parser.State.TheVariants as state
use Rattle.rel_base.specs.declared.failure.Memory.{Memory}
use Rattle.rel_base.specs.declared.values.Value.{Value}
use Rattle.rel_base.specs.declared.relations.Column.{Column}
use Rattle.rel_base.specs.Limits.{most_rows}
use Rattle.rel_base.specs.Picks.{joined}
use Rattle.relation_csv.specs.Files.{Record, rows_of_records}
use Rattle.relation_csv.specs.inner.Ranges.{ArePutTogether, AreRanges, EndsLine, HasPlainRows, IsPlain, ReadsRange, found_part, is_quote_or_return}
use Rattle.relation_csv.specs.inner.RecordsLeft.{records_after}
use Rattle.relation_csv.proofs.CutLemmas.{records_after-append}
use Rattle.relation_csv.proofs.NearLemmas.{list_any-none}
use Rattle.relation_csv.proofs.RenumberLemmas.{rows_of_records-append}

-- a part of a number is no more than the number
pub div_le : (n k : ℕ) → 0 < k → n / k ≤ n
div_le n zero some = absurd (omega arith)
div_le n (suc k) some = omega (arith, div-add-mod' n (suc k))

-- the byte that a search for a line feed found, in the whole text
pub line_feed_at : (text hay : List ℕ) (from at : ℕ) → hay ≡ take (length text - from) (drop from text) → from ≤ length text
    → NoneBefore (Passes (is_byte 10) hay) 0 (length hay) at × Passes (is_byte 10) hay at
    → (from + at < length text) × (get_or text (from + at) 0 ≡ 10)
line_feed_at text hay from at is low first =
    let left = length-drop from text in
    let all : hay ≡ drop from text = is ∙ take_all (length text - from) (drop from text) (omega arith) in
    let size : length hay ≡ length text - from = ap length all ∙ left in
    let feed : get_or hay at 0 ≡ 10 = eqb-true (get_or hay at 0) 10 first.1 in
    (omega (arith, first.0.high), sym (get_or-drop from text at 0) ∙ ap (λ (xs : List ℕ). get_or xs at 0) (sym all) ∙ feed)

-- what stands up to a line feed ends a line
pub EndsLine-up_to : (text front : List ℕ) (end : ℕ) → end < length text → get_or text end 0 ≡ 10
    → front ≡ take (end + 1) text → EndsLine front
EndsLine-up_to text front end low feed is =
    inr (take end text, is ∙ take_more text end 0 low ∙ ap (λ (b : ℕ). take end text ++ b ∷ []) feed)

-- one range more
pub joined-push : (ranges : List (List ℕ)) (range left rest text : List ℕ) → joined ranges ++ left ≡ text
    → range ++ rest ≡ left → joined (ranges ++ range ∷ []) ++ rest ≡ text
joined-push ranges range left rest text whole cut =
    ap (λ (xs : List ℕ). xs ++ rest) (flat_map-append (λ (xs : List ℕ). xs) ranges (range ∷ []))
    ∙ append_assoc (joined ranges) (range ++ []) rest
    ∙ ap (λ (xs : List ℕ). joined ranges ++ (xs ++ rest)) (append-nil range)
    ∙ ap (λ (xs : List ℕ). joined ranges ++ xs) cut
    ∙ whole

-- a search that found neither byte
pub IsPlain-none : (range hay : List ℕ) (found : Option ℕ) → hay ≡ range → IsFirstByte (is_byte2 34 13) hay found
    → is_some found ≡ false → IsPlain range
IsPlain-none range hay (Some at) is first none = absurd (cc none)
IsPlain-none range hay None is first none =
    let size : length hay ≡ length range = ap length is in
    let whole : take (length hay) hay ≡ hay = take_all (length hay) hay (omega arith) in
    let none_there = list_any-none is_quote_or_return hay (length hay) (omega arith) (λ k low.
    elim (cases_Bool (is_quote_or_return (get_or hay k 0))) [
      | inl odd ↦ absurd (first k (omega arith) low odd)
      | inr plain ↦ plain
    ]) in
    rw (← is) (rw whole at none_there)

-- what was found of a plain range
pub ReadsRange-from : (schema : List Column) (range : List ℕ) (found : Result (Option (List (List Value))) Memory)
    → IsPlain range
    → IfOk found (λ some. IfSome some (λ rows. rows_of_records schema (records_after state.StartRecord range) ≡ Ok rows))
    → ReadsRange schema range found
ReadsRange-from schema range (Ok (Some rows)) plain reads = (plain, reads)
ReadsRange-from schema range (Ok None) plain reads = tt
ReadsRange-from schema range (Err why) plain reads = tt

-- one part more is put behind the others
pub ArePutTogether-push : (parts : List (Result (Option (List (List Value))) Memory)) (rows part : List (List Value))
    → ArePutTogether parts rows → length rows + length part ≤ most_rows
    → ArePutTogether (parts ++ Ok (Some part) ∷ []) (rows ++ part)
ArePutTogether-push parts rows part h low =
    record {
      found = h.found ++ part ∷ [];
      all = ap (λ (ps : List (Result (Option (List (List Value))) Memory)). ps ++ Ok (Some part) ∷ []) h.all
          ∙ sym (map-append found_part h.found (part ∷ []));
      whole = ap (λ (rs : List (List Value)). rs ++ part) h.whole
          ∙ sym (flat_map-append (λ (xs : List (List Value)). xs) h.found (part ∷ [])
          ∙ ap (λ (rs : List (List Value)). joined h.found ++ rs) (append-nil part));
      few = omega (arith, length-append rows part);
    }

pub ArePutTogether-none : ArePutTogether [] []
ArePutTogether-none = record { found = []; all = refl; whole = refl; few = omega arith }

-- the rows of each range
EachHasRows : List Column → List (List ℕ) → List (List (List Value)) → Type 0
EachHasRows schema [] [] = Unit {0}
EachHasRows schema [] (rows ∷ found) = ⊥
EachHasRows schema (range ∷ ranges) [] = ⊥
EachHasRows schema (range ∷ ranges) (rows ∷ found) = HasPlainRows schema range rows × EachHasRows schema ranges found

module _ (schema : List Column) where
  each_has_rows : (ranges : List (Bor (List ℕ))) (found : List (List (List Value)))
      → length (map found_part found) ≡ length ranges
      → ((i : ℕ) (d : Bor (List ℕ)) (e : Result (Option (List (List Value))) Memory) → i < length ranges
      → ReadsRange schema (slice_index_or ranges i d).now
      (slice_index_or (map found_part found) i e))
      → EachHasRows schema (map (λ range. range.now) ranges) found
  unfolding EachHasRows
  each_has_rows [] [] len each = tt
  each_has_rows [] (rows ∷ found) len each = absurd (omega arith)
  each_has_rows (range ∷ ranges) [] len each = absurd (omega arith)
  each_has_rows (range ∷ ranges) (rows ∷ found) len each = (
    each 0 range (Ok (Some rows)) (omega arith),
    each_has_rows ranges found (omega arith) (λ i d e low. each (suc i) d e (omega (arith, low))),
  )

  rows_of_front : (front : List (List ℕ)) (last : List ℕ) (found : List (List (List Value)))
      → EachHasRows schema (front ++ last ∷ []) found → All EndsLine front → length (joined found) ≤ most_rows
      → rows_of_records schema (records_after state.StartRecord (joined front ++ last)) ≡ Ok (joined found)
  unfolding EachHasRows
  rows_of_front [] last [] each ends few = absurd each
  rows_of_front [] last (rows ∷ []) each ends few =
      each.0.1 ∙ ap (λ (rs : List (List Value)). Ok rs) (sym (append-nil rows))
  rows_of_front [] last (rows ∷ more ∷ found) each ends few = absurd each.1
  rows_of_front (range ∷ front) last [] each ends few = absurd each
  rows_of_front (range ∷ front) last (rows ∷ found) each ends few =
      let size = length-append rows (joined found) in
      let others = rows_of_front front last found each.1 (All-tail EndsLine range front ends) (omega arith) in
      let cut : records_after state.StartRecord (joined (range ∷ front) ++ last)
      ≡ records_after state.StartRecord range ++ records_after state.StartRecord (joined front ++ last) =
      ap (records_after state.StartRecord) (append_assoc range (joined front) last)
      ∙ records_after-append range (joined front ++ last) each.0.0
      (All-head EndsLine range front ends) in
      ap (rows_of_records schema) cut
      ∙ rows_of_records-append schema (records_after state.StartRecord range)
      (records_after state.StartRecord (joined front ++ last)) rows (joined found) each.0.1 others (omega arith)

  pub rows_of_ranges : (text : List ℕ) (ranges : List (Bor (List ℕ)))
      (parts : List (Result (Option (List (List Value))) Memory)) (rows : List (List Value))
      → AreRanges text (map (λ range. range.now) ranges) → length parts ≡ length ranges
      → ((i : ℕ) (d : Bor (List ℕ)) (e : Result (Option (List (List Value))) Memory) → i < length ranges
      → ReadsRange schema (slice_index_or ranges i d).now (slice_index_or parts i e))
      → ArePutTogether parts rows
      → rows_of_records schema (records_after state.StartRecord text) ≡ Ok rows
  rows_of_ranges text ranges parts rows cut len each together =
      let each_one = each_has_rows ranges together.found (rw together.all at len) (rw together.all at each) in
      let few = together.few in
      let size : length rows ≡ length (joined together.found) = ap length together.whole in
      ap (λ (bytes : List ℕ). rows_of_records schema (records_after state.StartRecord bytes)) (sym cut.whole)
      ∙ rows_of_front cut.front cut.last together.found (rw cut.all at each_one) cut.ends (omega arith)
      ∙ ap (λ (rs : List (List Value)). Ok rs) (sym together.whole)

  pub rows_found : (before : List Record) (text : List ℕ) (ranges : List (Bor (List ℕ)))
      (parts : List (Result (Option (List (List Value))) Memory)) (found : Result (Option (List (List Value))) Memory)
      → before ≡ records_after state.StartRecord text
      → AreRanges text (map (λ range. range.now) ranges) → length parts ≡ length ranges
      → ((i : ℕ) (d : Bor (List ℕ)) (e : Result (Option (List (List Value))) Memory) → i < length ranges
      → ReadsRange schema (slice_index_or ranges i d).now (slice_index_or parts i e))
      → IfOk found (λ some. IfSome some (ArePutTogether parts))
      → IfOk found (λ some. IfSome some (λ rows. rows_of_records schema before ≡ Ok rows))
  rows_found before text ranges parts (Ok (Some rows)) is cut len each together =
      ap (rows_of_records schema) is ∙ rows_of_ranges text ranges parts rows cut len each together
  rows_found before text ranges parts (Ok None) is cut len each together = tt
  rows_found before text ranges parts (Err why) is cut len each together = tt
