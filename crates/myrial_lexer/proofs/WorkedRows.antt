-- Worked rows of the token rules.
use Rattle.std.specs.Prelude.{◌≡◌, ◌++◌, [], ◌∷◌, Ok, Err, codes, refl}
use Rattle.myrial_lexer.specs.declared.faults.LexWhat.TheVariants.{BadChar, OpenString, NumberTooLarge}
use Rattle.myrial_lexer.specs.declared.kinds.TokenKind.TheVariants.{Word, Int, Str, Sign}
use Rattle.myrial_lexer.specs.declared.kinds.Sign.TheVariants.{Eq, Ne, Le}
use Rattle.myrial_lexer.specs.Tokens.{tokens_of, line_at, slice_of}
use Rattle.myrial_lexer.specs.Slices.{unquoted}

-- a comment takes the rest of its line
pub a_comment_behind_a_word : tokens_of (codes "a--b") ≡ Ok (record { kind = Word; start = 0; end = 1 } ∷ [])
a_comment_behind_a_word = refl

-- and no more
pub the_line_behind_a_comment : tokens_of (codes "--x" ++ 10 ∷ codes "y") ≡ Ok (record { kind = Word; start = 4; end = 5 } ∷ [])
the_line_behind_a_comment = refl

-- the longest sign is taken
pub signs_by_length : tokens_of (codes "<><=") ≡ Ok (record { kind = Sign Ne; start = 0; end = 2 } ∷ record { kind = Sign Le; start = 2; end = 4 } ∷ [])
signs_by_length = refl

-- two equal signs are one
pub equal_signs : tokens_of (codes "a===1") ≡ Ok
    (record { kind = Word; start = 0; end = 1 } ∷ record { kind = Sign Eq; start = 1; end = 3 } ∷ record { kind = Sign Eq; start = 3; end = 4 } ∷ record { kind = Int; start = 4; end = 5 } ∷ [])
equal_signs = refl

-- a backslash is an ordinary character, and so is the other quote
pub a_string : tokens_of (39 ∷ 97 ∷ 92 ∷ 34 ∷ 39 ∷ []) ≡ Ok (record { kind = Str; start = 0; end = 5 } ∷ [])
a_string = refl

-- the largest number, and the next
pub largest_number : tokens_of (codes "9223372036854775807") ≡ Ok (record { kind = Int; start = 0; end = 19 } ∷ [])
largest_number = refl

pub number_too_large : tokens_of (codes "0 9223372036854775808") ≡ Err (2, NumberTooLarge)
number_too_large = refl

-- a string ends on its line
pub open_string : tokens_of (codes "A = " ++ 34 ∷ codes "x" ++ 10 ∷ 34 ∷ []) ≡ Err (4, OpenString)
open_string = refl

-- the first fault is told
pub bad_char : tokens_of (codes "a !" ++ 34 ∷ []) ≡ Err (2, BadChar)
bad_char = refl

-- lines are counted from 1
pub second_line : line_at (codes "a" ++ 10 ∷ codes "#") 2 ≡ 2
second_line = refl

-- the slice of a token, and what stands between the quotes of a string
pub slice_of_a_string : slice_of (codes "x = 'a b'") (record { kind = Str; start = 4; end = 9 }) ≡ codes "'a b'"
slice_of_a_string = refl

pub between_quotes : unquoted (codes "'a b'") ≡ codes "a b"
between_quotes = refl

pub between_two_quotes_alone : unquoted (codes "''") ≡ []
between_two_quotes_alone = refl
