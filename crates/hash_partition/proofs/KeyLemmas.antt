-- Lemmas on keys and their codes.
use Rattle.std.proofs.Common.{◌≡◌, ℕ, ◌+◌, ◌<◌, pos, List, length, get_or, take, map, All, sym, ap, ◌∙◌, arith}
use Rattle.std.proofs.lemmas.List.{get_or-map, get_or_default, length-map}
use Rattle.std.proofs.lemmas.List.Elements.{All-get_or}
use Rattle.std.proofs.lemmas.List.Sums.{fold_more}
use Rattle.std.specs.List.{fold}
use Rattle.hash_partition.specs.Hashing.{key_of}
use Rattle.rel_base.specs.Codes.{mixed_with, code_of}
use Rattle.rel_base.specs.declared.values.Value.{Value}
use Rattle.rel_base.specs.declared.values.Value.TheVariants as variant

-- the code of the key's value number i
pub code_of-key_of : (row : List Value) (columns : List ℕ) (i : ℕ) (value : Value) → All (λ column. column < length row) columns → i < length columns
    → value ≡ get_or row (get_or columns i 0) value → get_or (map code_of (key_of row columns)) i 0 ≡ code_of value
code_of-key_of row columns i value h l e =
    let zero_value = variant.Int (pos 0) in
    let column = get_or columns i 0 in
    let inside : column < length row = All-get_or (λ column. column < length row) columns i 0 l h in
    let many = length-map columns (λ (column : ℕ). get_or row column zero_value) in
    get_or-map code_of (key_of row columns) i zero_value 0 (omega arith)
    ∙ ap code_of (get_or-map (λ (column : ℕ). get_or row column zero_value) columns i 0 zero_value l ∙ get_or_default row column zero_value value inside ∙ sym e)

-- one value more, as at a step of a loop
pub mixed_more : (row : List Value) (columns : List ℕ) (i : ℕ) (value : Value) → All (λ column. column < length row) columns → i < length columns
    → value ≡ get_or row (get_or columns i 0) value
    → mixed_with (fold mixed_with 0 (take i (map code_of (key_of row columns)))) (code_of value) ≡ fold mixed_with 0 (take (i + 1) (map code_of (key_of row columns)))
mixed_more row columns i value h l e =
    let parts = map code_of (key_of row columns) in
    let many = length-map columns (λ (column : ℕ). get_or row column (variant.Int (pos 0))) in
    let all = length-map (key_of row columns) code_of in
    sym (fold_more mixed_with 0 parts i 0 (omega arith) ∙ ap (λ part. mixed_with (fold mixed_with 0 (take i parts)) part) (code_of-key_of row columns i value h l e))
