-- The statements of the script of a trial: each piece is read by the descent, which is computed, and is within the limits.
use Rattle.std.proofs.Common.{◌≡◌, ℕ, ◌≤◌, true, List, [], length, refl, arith}
use Rattle.std.specs.Prelude.{nat_le, count_by, take, Some}
use Rattle.std.proofs.lemmas.Bool.Decides.{nat_tests}
use Rattle.std.proofs.lemmas.List.Sums.{sum_by-take-le}
use Rattle.myrial_ast.specs.Trees.{StatementTree}
use Rattle.myrial_lexer.specs.declared.kinds.Token.{Token}
use Rattle.myrial_parser.specs.declared.faults.What.TheVariants.{Statements, Tokens, Nesting, FromItems, Columns}
use Rattle.myrial_parser.specs.Terminals.{terminals_of, reserved}
use Rattle.myrial_parser.specs.Pieces.{Piece, HasFault, IsRead, IsScript, Syntax, TooMany, too_many_statements, too_many_tokens, nests_too_deep, no_piece, a_piece, is_open, items_of, columns_of}
use Rattle.myrial_parser.specs.inner.Descent as d
use Rattle.myrial_parser.proofs.FaultLemmas.{IsShort, sound-IsRead}
use Rattle.myrial_parser.proofs.StatementLemmas.{statement-sound, statement-unique}
use Rattle.trial_gen.specs.TrialScript.{trial_script}
use Rattle.trial_laws.specs.TrialTrees.{trial_trees}
use Rattle.trial_laws.proofs.TokenLemmas.{trial_tokens}

-- ---- limits

at_most : (a b : ℕ) → nat_le a b ≡ true → a ≤ b
at_most a b e = grind (arith, nat_tests)

-- how many parentheses a piece opens
abbrev opened : List Token → ℕ
opened tokens = count_by (λ t. is_open t.kind) tokens

-- a piece with a small number, few tokens and few parentheses has no fault before it is read
module _ (number : ℕ) (piece : Piece) (low : number ≤ 256) (short : length piece.tokens ≤ 1024) (flat : opened piece.tokens ≤ 64) where
  not_late : HasFault trial_script number piece (TooMany Statements) → ⊥
  not_late (too_many_statements h) = omega (arith, low, h)

  not_long : HasFault trial_script number piece (TooMany Tokens) → ⊥
  not_long (too_many_tokens h) = omega (arith, short, h)

  not_deep : HasFault trial_script number piece (TooMany Nesting) → ⊥
  not_deep (nests_too_deep h) =
      let part : opened (take h.0 piece.tokens) ≤ opened piece.tokens = sum_by-take-le _ piece.tokens h.0 in
      omega (arith, flat, h.1, part)

  is_short : IsShort trial_script number piece
  is_short (TooMany Statements) before has = not_late has
  is_short (TooMany Tokens) before has = not_long has
  is_short (TooMany Nesting) before has = not_deep has
  is_short Syntax before has = absurd (omega (arith, before))
  is_short (TooMany FromItems) before has = absurd (omega (arith, before))
  is_short (TooMany Columns) before has = absurd (omega (arith, before))

-- a piece that the descent reads as a statement is that statement, and has no fault, where these numbers are small
is_read : (number : ℕ) (piece : Piece) (s : StatementTree) → piece.ended ≡ true
    → d.statement (terminals_of trial_script piece.tokens) ≡ Some (s, [])
    → nat_le number 256 ≡ true → nat_le (length piece.tokens) 1024 ≡ true → nat_le (opened piece.tokens) 64 ≡ true
    → nat_le (items_of s) 8 ≡ true → nat_le (columns_of s) 16 ≡ true
    → IsRead trial_script number piece s
is_read number piece s ended reads low short flat items columns =
    sound-IsRead trial_script number piece statement-unique s (record { ended = ended; reads = statement-sound _ s [] reads })
    (is_short number piece (at_most _ _ low) (at_most _ _ short) (at_most _ _ flat))
    (at_most _ _ items) (at_most _ _ columns)

-- ---- the statements

pub trial-IsScript : IsScript trial_script trial_tokens trial_trees
unfolding trial_script reserved d.statement d.assignment d.store d.relation d.sees_select d.comprehension d.bracketed_emits d.item d.source d.condition d.emit d.emitted d.emitted_alias d.whole_expression d.expression d.disjunction d.conjunction d.negation d.comparison d.sum d.product d.signed d.primary d.key d.same_symbol
trial-IsScript =
    a_piece 1 _ _ _ _ (is_read 1 _ _ refl refl refl refl refl refl refl)
    (a_piece 2 _ _ _ _ (is_read 2 _ _ refl refl refl refl refl refl refl)
    (a_piece 3 _ _ _ _ (is_read 3 _ _ refl refl refl refl refl refl refl)
    (a_piece 4 _ _ _ _ (is_read 4 _ _ refl refl refl refl refl refl refl)
    (a_piece 5 _ _ _ _ (is_read 5 _ _ refl refl refl refl refl refl refl)
    (no_piece 6)))))
