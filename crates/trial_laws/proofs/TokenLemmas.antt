-- The tokens of the script of a trial, which are computed.
use Rattle.std.proofs.Common.{◌≡◌, true, List, [], Result, Ok, Err, refl}
use Rattle.std.specs.Char.{encode_utf8}
use Rattle.std.specs.Str.{chars, is_utf8}
use Rattle.std.proofs.lemmas.Str.{IsUtf8-from_is_utf8}
use Rattle.myrial_lexer.specs.declared.kinds.Token.{Token}
use Rattle.myrial_lexer.specs.Tokens.{Break, AreTokensOf, tokens_of}
use Rattle.trial_gen.specs.TrialScript.{trial_script}

-- the tokens that were cut, or none
abbrev tokens_in : Result (List Token) Break → List Token
tokens_in (Ok tokens) = tokens
tokens_in (Err fault) = []

abbrev pub trial_tokens : List Token
trial_tokens = tokens_in (tokens_of trial_script)

is_text : is_utf8 trial_script ≡ true
unfolding trial_script is_utf8 chars encode_utf8
is_text = refl

all_are_cut : tokens_of trial_script ≡ Ok trial_tokens
unfolding trial_script
all_are_cut = refl

pub trial-AreTokensOf : AreTokensOf trial_script trial_tokens
trial-AreTokensOf = record { is_text = IsUtf8-from_is_utf8 trial_script is_text; are = all_are_cut }
