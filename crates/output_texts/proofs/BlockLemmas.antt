-- The text of ranges of rows, from the blocks that some of them are made into.
use Rattle.std.proofs.Common.{◌≡◌, ◌∙◌, ℕ, suc, ◌+◌, ◌-◌, ◌*◌, ◌<◌, ◌≤◌, Ok, Err, Result, IfOk, List, [], ◌∷◌, ◌++◌, get_or, length, map, take, drop, slice_index_or, refl, sym, ap, arith, append_assoc}
use Rattle.std.specs.Borrow.{Bor}
use Rattle.std.specs.Global.{Vec}
use Rattle.std.specs.Fork.{slice_chunk}
use Rattle.std.specs.List.{flat_map}
use Rattle.std.proofs.lemmas.List.{append-nil, drop-drop, length-drop, length-map, take-append-drop, take_more}
use Rattle.std.proofs.lemmas.List.Concat.{flat_map-append}
use Rattle.std.proofs.lemmas.List.Folds.{flat_map-map}
use Rattle.std.proofs.Math.Nat.{zero-mul, suc-mul}
use Rattle.rel_base.specs.declared.failure.Memory.{Memory}
use Rattle.rel_base.specs.declared.values.Value.{Value}
use Rattle.rel_base.specs.Picks.{joined}
use Rattle.relation_csv.specs.RecordTexts.{row_record}
use Rattle.output_texts.specs.inner.Ranges.{ranges_text, IsTextOf}

abbrev Range : Type 0
Range = List (List Value)

-- the text of ranges behind others
text-append : (ranges others : List Range) → ranges_text (ranges ++ others) ≡ ranges_text ranges ++ ranges_text others
text-append ranges others =
    ap (flat_map row_record) (flat_map-append (λ (range : Range). range) ranges others)
    ∙ flat_map-append row_record (joined ranges) (joined others)

-- the text of the ranges so far, and of one more
pub text-more : (before so_far text : List ℕ) (ranges : List Range) (i : ℕ) (range : Range) → i < length ranges
    → range ≡ get_or ranges i range → so_far ≡ before ++ ranges_text (take i ranges) → text ≡ so_far ++ flat_map row_record range
    → text ≡ before ++ ranges_text (take (i + 1) ranges)
text-more before so_far text ranges i range low is known added =
    let one : ranges_text (range ∷ []) ≡ flat_map row_record range = ap (flat_map row_record) (append-nil range) in
    let all : ranges_text (take (i + 1) ranges) ≡ ranges_text (take i ranges) ++ flat_map row_record range =
    ap ranges_text (take_more ranges i range low ∙ ap (λ (r : Range). take i ranges ++ r ∷ []) (sym is))
    ∙ text-append (take i ranges) (range ∷ []) ∙ ap (λ (t : List ℕ). ranges_text (take i ranges) ++ t) one in
    added ∙ ap (λ (t : List ℕ). t ++ flat_map row_record range) known
    ∙ append_assoc before (ranges_text (take i ranges)) (flat_map row_record range) ∙ ap (λ (t : List ℕ). before ++ t) (sym all)

-- the text of rows is that of a range whose rows they refer to
pub text-of_rows : (rows : List (Bor (List Value))) (range : Range) → map (λ row. row.now) rows ≡ range
    → flat_map (λ row. row_record row.now) rows ≡ flat_map row_record range
text-of_rows rows range same =
    sym (flat_map-map row_record (λ (row : Bor (List Value)). row.now) rows) ∙ ap (flat_map row_record) same

-- a chunk behind the first one
chunk-behind : (size n : ℕ) (ranges : List Range) → slice_chunk (drop size ranges) size n ≡ slice_chunk ranges size (suc n)
chunk-behind size n ranges =
    let place : size + n * size ≡ suc n * size = omega (arith, suc-mul n size) in
    ap (take size) (drop-drop (n * size) size ranges ∙ ap (λ k. drop k ranges) place)

joined-chunks : (size : ℕ) (ranges : List Range) (blocks : List (List ℕ))
    → length ranges ≤ length blocks * size
    → ((n : ℕ) (e : Result (List ℕ) Memory) → n < length blocks → IsTextOf (slice_chunk ranges size n) (slice_index_or (map Ok blocks) n e))
    → joined blocks ≡ ranges_text ranges
joined-chunks size [] [] few each = refl
joined-chunks size (range ∷ ranges) [] few each = absurd (omega (arith, few, zero-mul size))
joined-chunks size ranges (block ∷ blocks) few each =
    let left = length-drop size ranges in
    let first : block ≡ ranges_text (take size (drop (0 * size) ranges)) = each 0 (Ok block) (omega arith) in
    let here : block ≡ ranges_text (take size ranges) = first ∙ ap (λ k. ranges_text (take size (drop k ranges))) (zero-mul size) in
    let behind : joined blocks ≡ ranges_text (drop size ranges) =
    joined-chunks size (drop size ranges) blocks (omega (arith, few, left, suc-mul (length blocks) size))
    (λ n e low. rw (chunk-behind size n ranges) (each (suc n) e (omega (arith, low)))) in
    (λ i. here i ++ behind i) ∙ sym (text-append (take size ranges) (drop size ranges)) ∙ ap ranges_text (take-append-drop size ranges)

-- and so for the blocks that were made
pub text_of_blocks : (size : ℕ) (ranges : List Range) (parts : List (Result (List ℕ) Memory)) (made : Result (Vec (List ℕ)) Memory)
    → length ranges ≤ length parts * size
    → ((n : ℕ) (e : Result (List ℕ) Memory) → n < length parts → IsTextOf (slice_chunk ranges size n) (slice_index_or parts n e))
    → IfOk made (λ blocks. map Ok blocks.items ≡ parts)
    → IfOk made (λ blocks. joined blocks.items ≡ ranges_text ranges)
text_of_blocks size ranges parts (Err why) all each are = tt
text_of_blocks size ranges parts (Ok blocks) all each are =
    let many : length parts ≡ length blocks.items = ap length (sym are) ∙ length-map blocks.items Ok in
    joined-chunks size ranges blocks.items (rw (← many) all) (λ n e low. rw are (each n e (omega (arith, low, many))))
