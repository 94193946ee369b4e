-- Each token of a text is a slice of it, such as its kind has.
use Rattle.std.proofs.Common.{◌≡◌, ℕ, zero, suc, ◌+◌, ◌-◌, ◌≤◌, List, [], ◌∷◌, length, take, drop, length-drop, Result, Ok, Err, All, refl, sym, ap, subst, ◌∙◌, arith}
use Rattle.std.specs.Str.{IsUtf8}
use Rattle.std.proofs.lemmas.List.{drop-drop}
use Rattle.std.proofs.lemmas.List.Elements.{All-nil, All-cons}
use Rattle.std.proofs.lemmas.Str.{IsUtf8-drop, IsUtf8-take}
use Rattle.myrial_lexer.specs.declared.front.Front.{Front}
use Rattle.myrial_lexer.specs.declared.front.Front.TheVariants.{Gap, Piece, Fault}
use Rattle.myrial_lexer.specs.declared.kinds.Token.{Token}
use Rattle.myrial_lexer.specs.declared.kinds.TokenKind.{TokenKind}
use Rattle.myrial_lexer.specs.Tokens.{Break, with_first, cut, front_of, tokens_from, AreTokensOf}
use Rattle.myrial_lexer.specs.Slices.{IsOfKind, IsCut}
use Rattle.myrial_lexer.proofs.FrontLemmas.{Ends, IsFrontOf, front-IsFrontOf}

-- behind a token stand the tokens of the text behind it
first_of_all : (token : Token) (behind : Result (List Token) Break) (tokens : List Token) → with_first token behind ≡ Ok tokens
    → (others : List Token) × (behind ≡ Ok others) × (tokens ≡ token ∷ others)
first_of_all token (Ok others) tokens e = let same : token ∷ others ≡ tokens = cc in (others, refl, sym same)
first_of_all token (Err fault) tokens e = cc

-- so many bytes at a place of a text are a token of their kind
at_place-IsCut : (text : List ℕ) (place size : ℕ) (kind : TokenKind) → place ≤ length text → IsUtf8 (drop place text) → Ends (drop place text) size
    → IsOfKind kind (take size (drop place text)) → IsCut text (record { kind = kind; start = place; end = place + size })
at_place-IsCut text place size kind inside u ends of_kind =
    let ahead = length-drop place text in
    let some = ends.some in
    let within = ends.within in
    let size_is : size ≡ place + size - place = omega arith in
    record {
      lies = record { some = omega arith; within = omega arith };
      is_text = subst (λ n. IsUtf8 (take n (drop place text))) size_is (IsUtf8-take (drop place text) size u ends.boundary);
      of_kind = subst (λ n. IsOfKind kind (take n (drop place text))) size_is of_kind;
    }

-- the text behind a byte, and behind what stands at the front
behind_byte : (whole : List ℕ) (place b : ℕ) (text : List ℕ) → drop place whole ≡ b ∷ text → drop (place + 1) whole ≡ text
behind_byte whole place b text ahead = sym (drop-drop 1 place whole) ∙ ap (drop 1) ahead

byte_inside : (whole : List ℕ) (place b : ℕ) (text : List ℕ) → drop place whole ≡ b ∷ text → place + 1 ≤ length whole
byte_inside whole place b text ahead =
    let len : length (drop place whole) ≡ suc (length text) = ap length ahead in
    omega (arith, length-drop place whole)

behind_front-IsUtf8 : (b : ℕ) (text : List ℕ) (size : ℕ) → IsUtf8 (b ∷ text) → Ends (b ∷ text) size → IsUtf8 (drop (size - 1) text)
behind_front-IsUtf8 b text zero u ends = let some = ends.some in absurd (omega arith)
behind_front-IsUtf8 b text (suc size) u ends =
    let less : size ≡ suc size - 1 = omega arith in
    subst (λ n. IsUtf8 (drop n text)) less (IsUtf8-drop (b ∷ text) (suc size) u ends.boundary)

-- the tokens behind a place, of whose bytes so many are passed over
pub tokens_from-IsCut : (whole : List ℕ) (place passed : ℕ) (text : List ℕ) (tokens : List Token) → place ≤ length whole → drop place whole ≡ text → IsUtf8 (drop passed text)
    → tokens_from place passed text ≡ Ok tokens → All (IsCut whole) tokens
tokens_from-IsCut whole place passed [] tokens inside ahead u e = let none : [] ≡ tokens = cc in subst (All (IsCut whole)) none (All-nil (IsCut whole))
tokens_from-IsCut whole place (suc passed) (b ∷ text) tokens inside ahead u e =
    tokens_from-IsCut whole (place + 1) passed text tokens (byte_inside whole place b text ahead) (behind_byte whole place b text ahead) u e
tokens_from-IsCut whole place zero (b ∷ text) tokens inside ahead u e =
    by (front_of (b ∷ text)) (front-IsFrontOf (b ∷ text) u (omega arith)) e
    (λ size others. tokens_from-IsCut whole (place + 1) (size - 1) text others (byte_inside whole place b text ahead) (behind_byte whole place b text ahead))
  where
    by : (front : Front) → IsFrontOf (b ∷ text) front → cut place front (λ size. tokens_from (place + 1) (size - 1) text) ≡ Ok tokens
        → ((size : ℕ) (others : List Token) → IsUtf8 (drop (size - 1) text) → tokens_from (place + 1) (size - 1) text ≡ Ok others → All (IsCut whole) others)
        → All (IsCut whole) tokens
    by (Gap size) ends e behind = behind size tokens (behind_front-IsUtf8 b text size u ends) e
    by (Piece kind size) front e behind =
        let token : Token = record { kind = kind; start = place; end = place + size } in
        let read = first_of_all token (tokens_from (place + 1) (size - 1) text) tokens e in
        let here = at_place-IsCut whole place size kind inside (subst IsUtf8 (sym ahead) u) (subst (λ t. Ends t size) (sym ahead) front.0) (subst (λ t. IsOfKind kind (take size t)) (sym ahead) front.1) in
        subst (All (IsCut whole)) (sym read.2) (All-cons (IsCut whole) token read.0 here (behind size read.0 (behind_front-IsUtf8 b text size u front.0) read.1))
    by (Fault what) front e behind = cc

-- each token of a text is a slice of it, such as its kind has
pub AreTokensOf-IsCut : (text : List ℕ) (tokens : List Token) → AreTokensOf text tokens → All (IsCut text) tokens
AreTokensOf-IsCut text tokens a = tokens_from-IsCut text 0 0 text tokens (omega arith) refl a.is_text a.are
