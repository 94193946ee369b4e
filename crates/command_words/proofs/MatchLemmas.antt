-- What a getter of the matches answers is what the definitions read of their rows.
use Rattle.std.proofs.Common.{◌≡◌, ◌∙◌, ap, sym, Bool, false, Option, Some, None, option_map}
use Rattle.std.specs.Borrow.{Bor}
use Rattle.std.specs.Option.{option_map_or}
use Rattle.clap.specs.Words.{Text, first_of, first_value, rows_of}
use Rattle.clap.specs.declared.parser.matches.Found.{Found}
use Rattle.clap.proofs.WalkLemmas.{first_value-rows}
use Rattle.command_words.specs.Requests.{given}

abbrev pub behind : Option (Bor Text) → Option Text
behind = option_map (λ text. text.now)

pub text-given : (f : Found) (name : Text) (o : Option (Bor Text)) → behind o ≡ first_value f name → behind o ≡ first_of name (rows_of f)
text-given f name o e = e ∙ first_value-rows f name

-- where the option is given, and where it is not
pub given-some : {X : Type 0} (f : Found) (name : Text) (usual : X) (read : Text → Option X) (o : Option (Bor Text)) (text : Bor Text)
    → behind o ≡ first_value f name → o ≡ Some text → given name usual read (rows_of f) ≡ read text.now
given-some f name usual read o text e some =
    ap (λ t. option_map_or read t (Some usual)) (sym (text-given f name o e) ∙ ap behind some)

pub given-none : {X : Type 0} (f : Found) (name : Text) (usual : X) (read : Text → Option X) (o : Option (Bor Text))
    → behind o ≡ first_value f name → o ≡ None → given name usual read (rows_of f) ≡ Some usual
given-none f name usual read o e none =
    ap (λ t. option_map_or read t (Some usual)) (sym (text-given f name o e) ∙ ap behind none)

pub test-some : (f : Found) (name : Text) (test : Text → Bool) (o : Option (Bor Text)) (text : Bor Text)
    → behind o ≡ first_value f name → o ≡ Some text → option_map_or test (first_of name (rows_of f)) false ≡ test text.now
test-some f name test o text e some =
    ap (λ t. option_map_or test t false) (sym (text-given f name o e) ∙ ap behind some)

pub test-none : (f : Found) (name : Text) (test : Text → Bool) (o : Option (Bor Text))
    → behind o ≡ first_value f name → o ≡ None → option_map_or test (first_of name (rows_of f)) false ≡ false
test-none f name test o e none =
    ap (λ t. option_map_or test t false) (sym (text-given f name o e) ∙ ap behind none)
