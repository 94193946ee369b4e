-- digits are ASCII, so they are text, and `parse` reads them as their value
use Rattle.std.proofs.Common.{ℕ, List, length, subst, ◌∙◌}
use Rattle.std.specs.Int.{w64}
use Rattle.std.specs.Str.Parse.{digits_value, ParsesSigned}
use Rattle.std.proofs.lemmas.Str.{IsUtf8-from_ascii}
use Rattle.std.proofs.lemmas.Str.Parse.{numerals_by_value, tells_all_ascii_digits, parse_signed_digits}
use Rattle.myrial_lexer.proofs.DigitLemmas.{digits-IsAscii, is_ok-fits}
use Rattle.myrial_lexer.proofs.front.fits_int.Goals as goal

pub unreachable-requires : goal.unreachable-requires
unreachable-requires c = c.in-Err.ensures.cases.0 (IsUtf8-from_ascii c.args.digits.now (digits-IsAscii c.args.digits.now c.requires.digits))

pub returns : goal.returns
returns c =
    let own = numerals_by_value _ tells_all_ascii_digits in
    let parsed = subst (λ (ds : List ℕ). ParsesSigned w64 10 ds c.parse.result) c.in-Ok.ensures.cases.0 c.parse.ensures.value.0 in
    c.is_ok.ensures.value ∙ is_ok-fits c.parse.result (digits_value 10 c.args.digits.now) (length c.args.digits.now) _ (parse_signed_digits own w64 c.args.digits.now _ parsed c.requires.digits) c.requires.some
