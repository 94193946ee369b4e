-- Picks, what rows emit by them, and what packed rows have.
use Rattle.std.proofs.Common.{◌≡◌, ℕ, ◌<◌, ◌^◌, true, false, Bool, List, [], ◌∷◌, length, map, get_or, refl, sym, ◌∙◌, ap, arith}
use Rattle.std.specs.Prelude.{◌&&◌, ◌≤ℤ◌, ◌<ℤ◌, All, ℤ, neg_ℤ, pos, negsuc, bit_and, ◌/◌}
use Rattle.std.specs.Int.{w64, int_wrapping_add}
use Rattle.std.proofs.lemmas.Int.{ints}
use Rattle.std.proofs.lemmas.Bool.{lt-ltb}
use Rattle.std.specs.List.{list_all}
use Rattle.std.proofs.lemmas.List.{length-map}
use Rattle.std.proofs.lemmas.List.Folds.{list_all-map, list_all_at}
use Rattle.std.proofs.lemmas.List.Elements.{All-nil, All-cons, All-head, All-tail}
use Rattle.rel_base.specs.Values.{number_of, in_64_bits}
use Rattle.myrial_ast.specs.Scalars.{Scalar, exact_value, value_at, Lit, At, Not, Neg, Bin}
use Rattle.myrial_ast.specs.declared.scalars.Scalar as code
use Rattle.myrial_ast.specs.ScalarTrees.{scalar_tree_of}
use Rattle.myrial_ast.specs.Combinations.{Row, Rows, emitted}
use Rattle.myrial_ast.specs.CandidateFaults.{all_fit}
use Rattle.myrial_ast.specs.Groups.{Kinds, row_fits}
use Rattle.bag_laws.specs.PartialLaws.{AreGrouped}
use Rattle.packed_rows.specs.declared.columns.PackedColumn.{PackedColumn}
use Rattle.packed_rows.specs.Unpacked.{unpacked_row}
use Rattle.packed_rows.specs.Words.{unpacked}
use Rattle.aggregate_ops.specs.Picks.{is_pick, are_picks}

-- ---- picks, one by one

picks-each : (es : List code.Scalar) → are_picks (map scalar_tree_of es) ≡ list_all (λ e. is_pick (scalar_tree_of e)) es
picks-each es = list_all-map is_pick scalar_tree_of es

-- where one of them isn't a pick, not all are
pub picks-fail : (es : List code.Scalar) (i : ℕ) (e : code.Scalar) → i < length es → e ≡ get_or es i e → is_pick (scalar_tree_of e) ≡ false
    → are_picks (map scalar_tree_of es) ≡ false
picks-fail es i e low is fails =
    picks-each es ∙ list_all_at (λ x. is_pick (scalar_tree_of x)) es i e low (ap (λ x. is_pick (scalar_tree_of x)) (sym is) ∙ fails)

-- where all are, each is
pub pick-at : (es : List code.Scalar) (i : ℕ) (e : code.Scalar) → i < length es → e ≡ get_or es i e → are_picks (map scalar_tree_of es) ≡ true
    → is_pick (scalar_tree_of e) ≡ true
pick-at es i e low is picks = by (is_pick (scalar_tree_of e)) refl
  where
    by : (b : Bool) → is_pick (scalar_tree_of e) ≡ b → b ≡ true
    by true h = refl
    by false h = let never : false ≡ true = sym (picks-fail es i e low is h) ∙ picks in never

-- ---- what is emitted fits

-- what is emitted by picks fits where it lies in 64 bits
pub picks-fit : (es : List Scalar) (row : Row) → are_picks es ≡ true → all_fit es row ≡ row_fits (emitted es row)
picks-fit [] row picks = refl
picks-fit (Lit v ∷ es) row picks = ap (λ rest. in_64_bits (number_of v) && rest) (picks-fit es row picks)
picks-fit (At place ∷ es) row picks = ap (λ rest. in_64_bits (number_of (value_at row place)) && rest) (picks-fit es row picks)
picks-fit (Not e ∷ es) row picks = absurd (cc)
picks-fit (Neg e ∷ es) row picks = absurd (cc)
picks-fit (Bin o l r ∷ es) row picks = absurd (cc)

pub all-picks-fit : (es : List Scalar) (rows : Rows) → are_picks es ≡ true → All (λ row. row_fits row ≡ true) (map (emitted es) rows)
    → list_all (all_fit es) rows ≡ true
all-picks-fit es [] picks all = refl
all-picks-fit es (row ∷ rows) picks all =
    let here = picks-fit es row picks ∙ All-head (λ row. row_fits row ≡ true) (emitted es row) (map (emitted es) rows) all in
    let rest = all-picks-fit es rows picks (All-tail (λ row. row_fits row ≡ true) (emitted es row) (map (emitted es) rows) all) in
    λ i. here i && rest i

-- a row that is emitted has a value for each pick
pub picked-wide : (kinds : Kinds) (es : List Scalar) (rows : Rows) → length kinds ≡ length es → AreGrouped kinds (map (emitted es) rows)
picked-wide kinds es [] long = All-nil (λ (row : Row). length row ≡ length kinds)
picked-wide kinds es (row ∷ rows) long =
    All-cons (λ (row : Row). length row ≡ length kinds) (emitted es row) (map (emitted es) rows)
    (length-map es (λ e. exact_value e row) ∙ sym long) (picked-wide kinds es rows long)

between-fits : (z : ℤ) → neg_ℤ (pos (2 ^ 63)) ≤ℤ z → z <ℤ pos (2 ^ 63) → in_64_bits z ≡ true
between-fits (pos n) low high = lt-ltb n (2 ^ 63) (omega (arith, ints, high))
between-fits (negsuc n) low high = lt-ltb n (2 ^ 63) (omega (arith, ints, low))

wrapped-fits : (a b : ℤ) → in_64_bits (int_wrapping_add w64 a b) ≡ true
wrapped-fits a b = between-fits (int_wrapping_add w64 a b) (omega (arith, ints)) (omega (arith, ints))

value-fits : (shift mask : ℕ) (least : ℤ) (is_truth : Bool) (word : ℕ) → in_64_bits (number_of (unpacked shift mask least is_truth word)) ≡ true
value-fits shift mask least true word = refl
value-fits shift mask least false word = wrapped-fits least (pos (bit_and (word / 2 ^ shift) mask))

-- a row that is packed in a word fits
pub unpacked-fits : (columns : List PackedColumn) (word : ℕ) → row_fits (unpacked_row columns word) ≡ true
unpacked-fits [] word = refl
unpacked-fits (c ∷ columns) word =
    let here = value-fits c.shift c.mask c.least c.is_truth word in
    let rest = unpacked-fits columns word in
    λ i. here i && rest i

pub all-unpacked-fit : (columns : List PackedColumn) (words : List ℕ) → All (λ row. row_fits row ≡ true) (map (unpacked_row columns) words)
all-unpacked-fit columns [] = All-nil (λ row. row_fits row ≡ true)
all-unpacked-fit columns (word ∷ words) =
    All-cons (λ row. row_fits row ≡ true) (unpacked_row columns word) (map (unpacked_row columns) words) (unpacked-fits columns word)
    (all-unpacked-fit columns words)
