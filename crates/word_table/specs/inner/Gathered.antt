-- Values that are gathered as words, and the ranks that their strings get.
--
--   value_at values place                   the value of this place
--   values_at rows column                   the values of one column, row by row
--   IsStringAt values place                 a string stands at this place
--   StandsAt values o                       the string of an occurrence stands at its place
--   IsNumber found s n                      a string has this number
--   AreNumbered found                       the numbers of occurrences are their places
--   AddsString old new s n                  a string has this number, which may be a new one
--   AddsStrings old new strings             all new occurrences are of these strings
--   IsGathered values words places found    the words of values, with numbers in place of strings
--   AreGatheredColumns rows columns found   of each column the words of its values
--   AreGatheredUpTo rows row place columns found
--                                           the same, while the values of a row more are added
--   IsGatheredPart rows width part found    the words of rows with so many columns
--   AreGathered widths parts gathered found    the words of parts
--   Rise found                              no string of an occurrence is below one in front of it
--   IsLast strings s                        the last of the strings is this one
--   IsRanked found done strings old new     the strings of the first occurrences, and their ranks
--   AreRanksOf found ranks strings          for each number the place of its string
--   HasRanks places ranks old new           ranks in place of the numbers at these places
use Rattle.std.specs.Prelude.{◌≡◌, ◌≢◌, ℕ, ◌-◌, ◌<◌, ◌≤◌, false, List, [], ◌∷◌, ◌++◌, length, map, All, AllPairs, Contains, slice_index, slice_index_or}
use Rattle.std.specs.Ordering.{is_lt}
use Rattle.rel_base.specs.declared.values.Value.{Value}
use Rattle.rel_base.specs.declared.values.Value.TheVariants as variant
use Rattle.word_table.specs.Words.{text_order, strings_of_value, IsAscending, word_of, HasWord}
use Rattle.word_table.specs.declared.numbering.Occurrence.{Occurrence}
use Rattle.word_table.specs.declared.occurrences.GatheredColumn.{GatheredColumn}
use Rattle.word_table.specs.declared.occurrences.GatheredPart.{GatheredPart}

-- the value of this place; past the end no string
abbrev pub value_at : List Value → ℕ → Value
value_at values place = slice_index_or values place (variant.Bool false)

-- the value at the place of the occurrence is its string
pub record StandsAt (values : List Value) (o : Occurrence) : Type 0 where
  pub within : o.place < length values
  pub is : value_at values o.place ≡ variant.Str o.string

-- a string stands at this place
pub record IsStringAt (values : List Value) (place : ℕ) : Type 0 where
  pub within : place < length values
  pub string : (s : List ℕ) × (value_at values place ≡ variant.Str s)

-- the occurrence of this number is of this string
pub record IsNumber (found : List Occurrence) (s : List ℕ) (n : ℕ) : Type 0 where
  pub within : n < length found
  pub string : (d : Occurrence) → (slice_index_or found n d).string ≡ s

-- the number of each occurrence is its place among them
abbrev pub AreNumbered : List Occurrence → Type 0
AreNumbered found =
    (k : ℕ) (d : Occurrence) → k < length found → (slice_index_or found k d).place ≡ k

-- the string has this number; the occurrences are still there, and a new one is of this string
pub record AddsString (old new : List Occurrence) (s : List ℕ) (n : ℕ) : Type 0 where
  pub longer : length old ≤ length new
  pub kept : (k : ℕ) (d : Occurrence) → k < length old
      → slice_index_or new k d ≡ slice_index_or old k d
  pub fresh : (k : ℕ) (d : Occurrence) → length old ≤ k → k < length new
      → (slice_index_or new k d).string ≡ s
  pub numbered : AreNumbered old → AreNumbered new
  pub number : IsNumber new s n

-- the occurrences are still there, and each new one is of one of the strings
pub record AddsStrings (old new : List Occurrence) (strings : List (List ℕ)) : Type 0 where
  pub longer : length old ≤ length new
  pub kept : (k : ℕ) (d : Occurrence) → k < length old
      → slice_index_or new k d ≡ slice_index_or old k d
  pub fresh : (k : ℕ) (d : Occurrence) → length old ≤ k → k < length new
      → Contains strings (slice_index_or new k d).string
  pub numbered : AreNumbered old → AreNumbered new

-- under any strings, each value that is no string has the word that stands in its place; in the place of
-- each string there is its number, and those places ascend
pub record IsGathered (values : List Value) (words places : List ℕ) (found : List Occurrence)
    : Type 0 where
  pub long : length words ≡ length values
  pub plain : (strings : List (List ℕ)) (p : ℕ) → p < length values
      → strings_of_value (value_at values p) ≡ []
      → HasWord strings (value_at values p)
      × (slice_index words p ≡ word_of strings (value_at values p))
  pub strings : (p : ℕ) (s : List ℕ) → p < length values → value_at values p ≡ variant.Str s
      → Contains places p × IsNumber found s (slice_index words p)
  pub at_strings : All (IsStringAt values) places
  pub ascending : AllPairs (λ p q. p < q) places

-- the value of this column in each row
abbrev pub values_at : List (List Value) → ℕ → List Value
values_at rows column = map (λ row. value_at row column) rows

-- the words of each column of the rows
abbrev pub AreGatheredColumns : List (List Value) → List GatheredColumn → List Occurrence → Type 0
AreGatheredColumns rows columns found = (c : ℕ) (d : GatheredColumn) → c < length columns
    → IsGathered (values_at rows c) (slice_index_or columns c d).words.items
    (slice_index_or columns c d).places.items found

-- in front of a place the columns of the rows and of one row more, and from there on those of the
-- rows
pub record AreGatheredUpTo
    (rows : List (List Value)) (row : List Value) (place : ℕ) (columns : List GatheredColumn)
    (found : List Occurrence) : Type 0 where
  pub front : (c : ℕ) (d : GatheredColumn) → c < place
      → IsGathered (values_at (rows ++ row ∷ []) c) (slice_index_or columns c d).words.items
      (slice_index_or columns c d).places.items found
  pub rest : (c : ℕ) (d : GatheredColumn) → place ≤ c → c < length columns
      → IsGathered (values_at rows c) (slice_index_or columns c d).words.items
      (slice_index_or columns c d).places.items found

-- rows of this width, how many they are, and the words of each of their columns
pub record IsGatheredPart
    (rows : List (List Value)) (width : ℕ) (part : GatheredPart) (found : List Occurrence)
    : Type 0 where
  pub wide : All (λ row. length row ≡ width) rows
  pub as_wide : part.width ≡ width
  pub counted : part.count ≡ length rows
  pub many : length part.columns.items ≡ width
  pub columns : AreGatheredColumns rows part.columns.items found

-- the words of each part
pub record AreGathered
    (widths : List ℕ) (parts : List (List (List Value))) (gathered : List GatheredPart)
    (found : List Occurrence) : Type 0 where
  pub many : length gathered ≡ length parts
  pub each : (j : ℕ) (d : GatheredPart) → j < length parts
      → IsGatheredPart (slice_index_or parts j []) (slice_index widths j)
      (slice_index_or gathered j d) found

-- no string of an occurrence is below one in front of it
pub record Rise (found : List Occurrence) : Type 0 where
  pub in_turn : (i j : ℕ) (d : Occurrence) → i ≤ j → j < length found
      → is_lt (text_order (slice_index_or found j d).string (slice_index_or found i d).string)
      ≡ false

-- there is a last one of the strings, and it is this one
abbrev pub IsLast : List (List ℕ) → List ℕ → Type 0
IsLast strings s = (0 < length strings) × (slice_index_or strings (length strings - 1) [] ≡ s)

-- of the first occurrences: their strings, each once and ascending, and in the place of each its string's place among them;
-- in all other places the words are as before
pub record IsRanked (found : List Occurrence) (done : ℕ) (strings : List (List ℕ))
    (old new : List ℕ) : Type 0 where
  pub long : length new ≡ length old
  pub ascending : IsAscending strings
  pub earlier : (k : ℕ) (d : List ℕ) (o : Occurrence) → k < length strings
      → (j : ℕ) × (j < done) × (slice_index_or strings k d ≡ (slice_index_or found j o).string)
  pub ranked : (values : List Value) → All (StandsAt values) found
      → (j : ℕ) (o : Occurrence) (d : List ℕ) → j < done
      → (slice_index new (slice_index_or found j o).place < length strings)
      × (slice_index_or strings (slice_index new (slice_index_or found j o).place) d
      ≡ (slice_index_or found j o).string)
  pub others : (p : ℕ)
      → ((j : ℕ) (o : Occurrence) → j < done → (slice_index_or found j o).place ≢ p)
      → slice_index new p ≡ slice_index old p

-- the rank of each number is the place of its string among strings that ascend
pub record AreRanksOf (found : List Occurrence) (ranks : List ℕ) (strings : List (List ℕ))
    : Type 0 where
  pub ascending : IsAscending strings
  pub there : length found ≤ length ranks
  pub within : (s : List ℕ) (n : ℕ) → IsNumber found s n
      → slice_index ranks n < length strings
  pub string : (s : List ℕ) (n : ℕ) (d : List ℕ) → IsNumber found s n
      → slice_index_or strings (slice_index ranks n) d ≡ s

-- at each of the places there is the rank of the number that was there, and elsewhere the word as before
pub record HasRanks (places ranks old new : List ℕ) : Type 0 where
  pub long : length new ≡ length old
  pub ranked : (k d : ℕ) → k < length places
      → slice_index new (slice_index_or places k d)
      ≡ slice_index ranks (slice_index old (slice_index_or places k d))
  pub others : (p : ℕ) → ((k d : ℕ) → k < length places → slice_index_or places k d ≢ p)
      → slice_index new p ≡ slice_index old p
