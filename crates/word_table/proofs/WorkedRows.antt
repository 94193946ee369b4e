-- Worked cases of this crate's words, each proved by computing.
use Rattle.std.proofs.Common.{◌≡◌, ℕ, zero, suc, ◌^◌, ◌<◌, ◌≤◌, pos, negsuc, true, false, List, [], ◌∷◌, All, length, get_or, refl, ap, codes, arith, rules}
use Rattle.std.specs.Prelude.{Contains, FitsSigned}
use Rattle.std.specs.Int.{w64}
use Rattle.std.specs.declared.cmp.Ordering.TheVariants.{Less}
use Rattle.std.proofs.lemmas.List.Elements.{All-nil, All-cons, All-contains}
use Rattle.std.proofs.lemmas.List.Kept.{AllPairs-cons}
use Rattle.rel_base.specs.declared.values.Value.{Value}
use Rattle.rel_base.specs.declared.values.Value.TheVariants as variant
use Rattle.word_table.specs.WordTables.{word_at, column_of, cut_into, table_by_columns, HasColumnsOf, IsStored, IsRange}
use Rattle.word_table.specs.Words.{text_order, strings_in, IsDictionaryOf, IsHeld, int_word, word_of}
use Rattle.word_table.specs.declared.numbering.Occurrence.{Occurrence}
use Rattle.word_table.specs.declared.occurrences.GatheredPart.{GatheredPart}
use Rattle.word_table.specs.inner.Gathered.{values_at, IsNumber, AddsStrings, IsGathered, AreGatheredUpTo, IsGatheredPart, AreGathered, AreRanksOf}
use Rattle.word_table.specs.inner.Texts.{texts_in}
use Rattle.word_table.specs.inner.Unlike.{AreUnlike}
use Rattle.word_table.proofs.ColumnLemmas.{IsStored-of}
use Rattle.word_table.proofs.GatherLemmas.{IsGathered-none, IsGathered-plain, IsGathered-string, AddsString-new, AddsStrings-one, AddsStrings-more, AreGatheredUpTo-none}
use Rattle.word_table.proofs.UnlikeLemmas.{AreUnlike-none, AreUnlike-known, AreUnlike-new}

-- one part, whose rows have a number and a string each
abbrev part : List (List Value)
part =
    (variant.Int (pos 7) ∷ variant.Str (codes "b") ∷ [])
    ∷ (variant.Int (pos 8) ∷ variant.Str (codes "a") ∷ [])
    ∷ (variant.Int (pos 7) ∷ variant.Str [] ∷ [])
    ∷ (variant.Int (pos 9) ∷ variant.Str (codes "b") ∷ [])
    ∷ []

-- its strings, as often as they stand, and once in byte order
pub strings_of_the_part : strings_in (part ∷ []) ≡ codes "b" ∷ codes "a" ∷ [] ∷ codes "b" ∷ []
strings_of_the_part = refl

abbrev strings : List (List ℕ)
strings = [] ∷ codes "a" ∷ codes "b" ∷ []

-- one string is below another
abbrev below : List ℕ → List ℕ → Type 0
below s t = text_order s t ≡ Less

-- its dictionary: each string once, in byte order
pub dictionary_of_the_part : IsDictionaryOf (part ∷ []) strings
dictionary_of_the_part =
    let found = strings_in (part ∷ []) in
    record {
      ascending =
          AllPairs-cons below [] (codes "a" ∷ codes "b" ∷ []) (All-cons (below []) (codes "a") (codes "b" ∷ []) refl (All-cons (below []) (codes "b") [] refl (All-nil (below []))))
          (AllPairs-cons below (codes "a") (codes "b" ∷ []) (All-cons (below (codes "a")) (codes "b") [] refl (All-nil (below (codes "a"))))
          (AllPairs-cons below (codes "b") [] (All-nil (below (codes "b"))) (λ i j d before within. absurd (omega arith))));
      whole = λ s. (
        All-contains (Contains found) strings s
            (All-cons (Contains found) [] (codes "a" ∷ codes "b" ∷ []) (2, omega arith, refl)
            (All-cons (Contains found) (codes "a") (codes "b" ∷ []) (1, omega arith, refl)
            (All-cons (Contains found) (codes "b") [] (0, omega arith, refl) (All-nil (Contains found))))),
        All-contains (Contains strings) found s
            (All-cons (Contains strings) (codes "b") (codes "a" ∷ [] ∷ codes "b" ∷ []) (2, omega arith, refl)
            (All-cons (Contains strings) (codes "a") ([] ∷ codes "b" ∷ []) (1, omega arith, refl)
            (All-cons (Contains strings) [] (codes "b" ∷ []) (0, omega arith, refl)
            (All-cons (Contains strings) (codes "b") [] (2, omega arith, refl) (All-nil (Contains strings)))))),
      );
    }

-- the words of its strings are their ranks
pub word-empty : word_of strings (variant.Str []) ≡ 0
word-empty = refl

pub word-a : word_of strings (variant.Str (codes "a")) ≡ 1
word-a = refl

pub word-b : word_of strings (variant.Str (codes "b")) ≡ 2
word-b = refl

-- and a string that is none of them has none
pub word-c : IsHeld strings (variant.Str (codes "c")) → ⊥
word-c held =
    let BelowC : List ℕ → Type 0 = λ s. text_order s (codes "c") ≡ Less in
    let below_itself : text_order (codes "c") (codes "c") ≡ Less =
    All-contains BelowC strings (codes "c")
    (All-cons BelowC [] (codes "a" ∷ codes "b" ∷ []) refl
    (All-cons BelowC (codes "a") (codes "b" ∷ []) refl
    (All-cons BelowC (codes "b") [] refl (All-nil BelowC)))) held in
    cc

-- the least and the greatest number of 64 bits, and those round 0
pub word-least : word_of strings (variant.Int (negsuc 9223372036854775807)) ≡ 0
word-least = refl

pub word-minus_one : word_of strings (variant.Int (negsuc 0)) ≡ 9223372036854775807
word-minus_one = refl

pub word-zero : word_of strings (variant.Int (pos 0)) ≡ 9223372036854775808
word-zero = refl

pub word-greatest : word_of strings (variant.Int (pos 9223372036854775807)) ≡ 18446744073709551615
word-greatest = refl

pub word-false : word_of strings (variant.Bool false) ≡ 0
word-false = refl

pub word-true : word_of strings (variant.Bool true) ≡ 1
word-true = refl

-- a string comes before each longer one that begins with it
pub shorter_first : text_order (codes "a") (codes "ab") ≡ Less
shorter_first = refl

-- the empty string, `a` and `ba` one behind another
pub three_texts : texts_in (codes "aba") (0 ∷ 0 ∷ 1 ∷ 3 ∷ []) 3 ≡ [] ∷ codes "a" ∷ codes "ba" ∷ []
three_texts = refl

-- four words as rows of two columns, and three rows of none
pub two_rows : cut_into 2 2 (5 ∷ 6 ∷ 7 ∷ 8 ∷ []) ≡ (5 ∷ 6 ∷ []) ∷ (7 ∷ 8 ∷ []) ∷ []
two_rows = refl

pub rows_without_columns : cut_into 3 0 [] ≡ [] ∷ [] ∷ [] ∷ []
rows_without_columns = refl

pub second_of_the_first : word_at ((5 ∷ 6 ∷ []) ∷ (7 ∷ 8 ∷ []) ∷ []) 0 1 ≡ 6
second_of_the_first = refl

-- the same words, column after column
pub two_rows_by_columns : (table_by_columns 2 2 ((5 ∷ 7 ∷ []) ∷ (6 ∷ 8 ∷ []) ∷ [])).rows ≡ (5 ∷ 6 ∷ []) ∷ (7 ∷ 8 ∷ []) ∷ []
two_rows_by_columns = refl

-- they are the columns of these rows, and no word is left over
pub columns_of_two_rows : HasColumnsOf 2 ((5 ∷ 6 ∷ []) ∷ (7 ∷ 8 ∷ []) ∷ []) ((5 ∷ 7 ∷ []) ∷ (6 ∷ 8 ∷ []) ∷ [])
columns_of_two_rows = record { many = refl; each = each }
  where
    each : (column : ℕ) (d : List ℕ) → column < 2 → get_or ((5 ∷ 7 ∷ []) ∷ (6 ∷ 8 ∷ []) ∷ []) column d ≡ column_of ((5 ∷ 6 ∷ []) ∷ (7 ∷ 8 ∷ []) ∷ []) column
    each zero d h = refl
    each (suc zero) d h = refl
    each (suc (suc column)) d h = absurd (omega (arith, h))

pub two_columns_stored : IsStored 2 2 ((5 ∷ 7 ∷ []) ∷ (6 ∷ 8 ∷ []) ∷ [])
two_columns_stored =
    let Fit : ℕ → Type 0 = λ word. word < 2 ^ 64 in
    let Even : List ℕ → Type 0 = λ column. length column ≡ 2 in
    IsStored-of 2 2 ((5 ∷ 7 ∷ []) ∷ (6 ∷ 8 ∷ []) ∷ []) (omega arith) refl
    (All-cons Even (5 ∷ 7 ∷ []) ((6 ∷ 8 ∷ []) ∷ []) refl (All-cons Even (6 ∷ 8 ∷ []) [] refl (All-nil Even)))
    (All-cons (All Fit) (5 ∷ 7 ∷ []) ((6 ∷ 8 ∷ []) ∷ [])
    (All-cons Fit 5 (7 ∷ []) (omega arith) (All-cons Fit 7 [] (omega arith) (All-nil Fit)))
    (All-cons (All Fit) (6 ∷ 8 ∷ []) []
    (All-cons Fit 6 (8 ∷ []) (omega arith) (All-cons Fit 8 [] (omega arith) (All-nil Fit))) (All-nil (All Fit))))

-- the columns the other way round are those of other rows
pub columns_in_turn : HasColumnsOf 2 ((5 ∷ 6 ∷ []) ∷ (7 ∷ 8 ∷ []) ∷ []) ((6 ∷ 8 ∷ []) ∷ (5 ∷ 7 ∷ []) ∷ []) → ⊥
columns_in_turn has = let first : 6 ≡ 5 = ap (λ (words : List ℕ). get_or words 0 0) (has.each 0 [] (omega arith)) in absurd (omega (arith, first))

-- of the words 7, 5, 7 the least is 5 and the greatest 7
pub five_to_seven : IsRange (7 ∷ 5 ∷ 7 ∷ []) (record { least = 5; greatest = 7 })
five_to_seven = record {
  least = (1, omega arith, refl);
  greatest = (0, omega arith, refl);
  within = All-cons (λ w. (5 ≤ w) × (w ≤ 7)) 7 (5 ∷ 7 ∷ []) (omega arith, omega arith)
      (All-cons (λ w. (5 ≤ w) × (w ≤ 7)) 5 (7 ∷ []) (omega arith, omega arith)
      (All-cons (λ w. (5 ≤ w) × (w ≤ 7)) 7 [] (omega arith, omega arith) (All-nil (λ w. (5 ≤ w) × (w ≤ 7)))));
}

-- of a part, one without rows, and the first again two are unlike
pub first_again : AreUnlike (part ∷ [] ∷ part ∷ []) (2 ∷ 2 ∷ 2 ∷ []) (part ∷ [] ∷ []) (2 ∷ 2 ∷ []) (0 ∷ 1 ∷ 0 ∷ [])
first_again =
    let one = AreUnlike-new [] [] [] [] [] AreUnlike-none part 2 0 refl in
    let two = AreUnlike-new (part ∷ []) (2 ∷ []) (part ∷ []) (2 ∷ []) (0 ∷ []) one [] 2 1 refl in
    AreUnlike-known (part ∷ [] ∷ []) (2 ∷ 2 ∷ []) (part ∷ [] ∷ []) (2 ∷ 2 ∷ []) (0 ∷ 1 ∷ []) two part 2 0 (omega arith) refl refl

-- parts with other rows are not alike, and neither are parts without rows whose widths differ
pub rows_tell : AreUnlike (part ∷ [] ∷ []) (2 ∷ 2 ∷ []) (part ∷ []) (2 ∷ []) (0 ∷ 0 ∷ []) → ⊥
rows_tell is = let same : part ≡ [] = is.rows 1 (omega arith) in absurd (cc)

pub widths_tell : AreUnlike ([] ∷ [] ∷ []) (1 ∷ 2 ∷ []) ([] ∷ []) (1 ∷ []) (0 ∷ 0 ∷ []) → ⊥
widths_tell is = let same : 1 ≡ 2 = is.columns 1 (omega arith) in absurd (omega (arith, same))

-- what is no part is none of the unlike ones
pub none_from_elsewhere : AreUnlike [] [] (part ∷ []) (2 ∷ []) [] → ⊥
none_from_elsewhere is = let from = is.from 0 (omega arith) in let below = from.1 in absurd (omega arith)

-- the values of the part's second column
pub second_column : values_at part 1 ≡ variant.Str (codes "b") ∷ variant.Str (codes "a") ∷ variant.Str [] ∷ variant.Str (codes "b") ∷ []
second_column = refl

-- two strings that are found one after another
abbrev first_b : Occurrence
first_b = record { string = codes "b"; place = 0 }

abbrev then_a : Occurrence
then_a = record { string = codes "a"; place = 1 }

pub b_and_a : AddsStrings [] (first_b ∷ then_a ∷ []) (codes "b" ∷ codes "a" ∷ [])
b_and_a =
    AddsStrings-more [] (first_b ∷ []) (first_b ∷ then_a ∷ []) (codes "b" ∷ []) (codes "a" ∷ [])
    (AddsStrings-one [] (first_b ∷ []) (codes "b") 0 (AddsString-new [] (first_b ∷ []) (codes "b") 0 refl refl))
    (AddsStrings-one (first_b ∷ []) (first_b ∷ then_a ∷ []) (codes "a") 1 (AddsString-new (first_b ∷ []) (first_b ∷ then_a ∷ []) (codes "a") 1 refl refl))

-- no string is found that is none of them
pub none_but_them : AddsStrings [] (first_b ∷ []) [] → ⊥
none_but_them adds = let held = (adds.fresh 0 first_b (omega arith) (omega arith)).1 in absurd (omega (arith, held))

-- a column of a number and a string: its word, and the string's number at its place
pub seven_and_b : IsGathered (variant.Int (pos 7) ∷ variant.Str (codes "b") ∷ []) (int_word (pos 7) ∷ 0 ∷ []) (1 ∷ []) (first_b ∷ [])
seven_and_b =
    let seven = IsGathered-plain [] (variant.Int (pos 7)) [] [] (int_word (pos 7)) [] (IsGathered-none []) refl (λ all. (fits_seven, refl)) in
    IsGathered-string (variant.Int (pos 7) ∷ []) (variant.Str (codes "b")) (int_word (pos 7) ∷ []) [] 0 [] seven (codes "b") refl (first_b ∷ [])
    (AddsString-new [] (first_b ∷ []) (codes "b") 0 refl refl)
  where
    fits_seven : FitsSigned w64 (pos 7)
    fits_seven = search rules

-- the word of another number is none of its words
pub not_eight : IsGathered (variant.Int (pos 7) ∷ []) (int_word (pos 8) ∷ []) [] [] → ⊥
not_eight is = let word : int_word (pos 8) ≡ int_word (pos 7) = (is.plain [] 0 (omega arith) refl).1 in absurd (omega (arith, word))

-- the ranks of the two strings, once they are sorted
pub ranks_of_b_and_a : AreRanksOf (first_b ∷ then_a ∷ []) (1 ∷ 0 ∷ []) (codes "a" ∷ codes "b" ∷ [])
ranks_of_b_and_a = record {
  ascending = AllPairs-cons below (codes "a") (codes "b" ∷ []) (All-cons (below (codes "a")) (codes "b") [] refl (All-nil (below (codes "a"))))
      (AllPairs-cons below (codes "b") [] (All-nil (below (codes "b"))) (λ i j d before within. absurd (omega arith)));
  there = omega arith;
  within = within;
  string = string;
}
  where
    within : (s : List ℕ) (n : ℕ) → IsNumber (first_b ∷ then_a ∷ []) s n → get_or (1 ∷ 0 ∷ []) n 0 < 2
    within s zero is = omega arith
    within s (suc zero) is = omega arith
    within s (suc (suc n)) is = let low = is.within in absurd (omega (arith, low))

    string : (s : List ℕ) (n : ℕ) (d : List ℕ) → IsNumber (first_b ∷ then_a ∷ []) s n → get_or (codes "a" ∷ codes "b" ∷ []) (get_or (1 ∷ 0 ∷ []) n 0) d ≡ s
    string s zero d is = is.string first_b
    string s (suc zero) d is = is.string first_b
    string s (suc (suc n)) d is = let low = is.within in absurd (omega (arith, low))

-- in front of the first place no column has the row's value, and the columns are those of the rows so far
pub none_begun : AreGatheredUpTo [] (variant.Bool true ∷ []) 0 [] []
none_begun = AreGatheredUpTo-none [] (variant.Bool true ∷ []) [] [] (λ c d h. absurd (omega (arith, h)))

-- no parts, and a part without rows and columns
pub no_parts : AreGathered [] [] [] []
no_parts = record { many = refl; each = λ j d h. absurd (omega (arith, h)) }

pub no_rows : (own : GatheredPart) → own.width ≡ 0 → own.count ≡ 0 → own.columns.items ≡ [] → IsGatheredPart [] 0 own []
no_rows own width count none = record {
  wide = All-nil (λ row. length row ≡ 0);
  as_wide = width;
  counted = count;
  many = ap length none;
  columns = λ c d h. absurd (omega (arith, h, ap length none));
}

-- one of another width is not that part
pub width_tells : (own : GatheredPart) → own.width ≡ 1 → IsGatheredPart [] 2 own [] → ⊥
width_tells own width is = let wide = is.as_wide in absurd (omega (arith, width, wide))
