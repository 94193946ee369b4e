use Rattle.std.proofs.Common.{take, ap, ◌∙◌}
use Rattle.std.specs.Str.{all_ascii_digits}
use Rattle.myrial_lexer.proofs.DigitLemmas.{digits-take}
use Rattle.myrial_lexer.proofs.front.number.Goals as goal

pub fits_int-requires-clause-digits : goal.fits_int-requires-clause-digits
fits_int-requires-clause-digits c =
    ap (λ n. all_ascii_digits (take n c.args.text.now)) c.run_len-len.ensures.value ∙ digits-take c.args.text.now
