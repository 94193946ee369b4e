-- Cutting a text goes on behind each piece.
use Rattle.std.proofs.Common.{◌≡◌, ℕ, zero, suc, ◌+◌, ◌-◌, ◌<◌, ◌≤◌, List, [], ◌∷◌, ◌++◌, drop, length, Result, Ok, Err, refl, sym, ap, ◌∙◌, append_assoc, add-zero, subst, arith}
use Rattle.std.proofs.lemmas.List.{drop-drop}
use Rattle.std.proofs.Common.{length-drop}
use Rattle.myrial_lexer.specs.declared.front.Front.{Front}
use Rattle.myrial_lexer.specs.declared.front.Front.TheVariants.{Gap, Piece, Fault}
use Rattle.myrial_lexer.specs.declared.faults.LexWhat.{LexWhat}
use Rattle.myrial_lexer.specs.declared.kinds.Token.{Token}
use Rattle.myrial_lexer.specs.declared.kinds.TokenKind.{TokenKind}
use Rattle.myrial_lexer.specs.Tokens.{Break, with_first, cut, front_of, tokens_from}
use Rattle.myrial_lexer.specs.inner.Sizes.{IsWithin}

-- tokens before those of the text behind them
abbrev pub with_all : List Token → Result (List Token) Break → Result (List Token) Break
with_all front (Ok tokens) = Ok (front ++ tokens)
with_all front (Err fault) = Err fault

pub with_all-nil : (read : Result (List Token) Break) → with_all [] read ≡ read
with_all-nil (Ok tokens) = refl
with_all-nil (Err fault) = refl

pub with_all-first : (front : List Token) (token : Token) (read : Result (List Token) Break) → with_all front (with_first token read) ≡ with_all (front ++ token ∷ []) read
with_all-first front token (Ok tokens) = ap Ok (sym (append_assoc front (token ∷ []) tokens))
with_all-first front token (Err fault) = refl

-- bytes that belong to what stands before are passed over
pub tokens_from-passed : (place passed : ℕ) (text : List ℕ) → passed ≤ length text → tokens_from place passed text ≡ tokens_from (place + passed) 0 (drop passed text)
tokens_from-passed place zero text within = ap (λ n. tokens_from n 0 text) (sym (add-zero place))
tokens_from-passed place (suc passed) [] within = absurd (omega arith)
tokens_from-passed place (suc passed) (b ∷ text) within =
    let on : place + 1 + passed ≡ place + suc passed = omega arith in
    tokens_from-passed (place + 1) passed text (omega arith) ∙ ap (λ n. tokens_from n 0 (drop passed text)) on

-- the tokens of a text are its front's, and those behind it
pub tokens_from-front : (place : ℕ) (text : List ℕ) → 0 < length text → IsWithin (front_of text) text
    → tokens_from place 0 text ≡ cut place (front_of text) (λ size. tokens_from (place + size) 0 (drop size text))
tokens_from-front place [] some within = absurd (omega arith)
tokens_from-front place (b ∷ text) some within = by (front_of (b ∷ text)) within
  where
    behind : (size : ℕ) → 1 ≤ size → size ≤ length (b ∷ text) → tokens_from (place + 1) (size - 1) text ≡ tokens_from (place + size) 0 (drop size (b ∷ text))
    behind zero low high = absurd (omega arith)
    behind (suc size) low high =
        let on : place + 1 + size ≡ place + suc size = omega arith in
        let less : suc size - 1 ≡ size = omega arith in
        ap (λ n. tokens_from (place + 1) n text) less ∙ tokens_from-passed (place + 1) size text (omega arith) ∙ ap (λ n. tokens_from n 0 (drop size text)) on

    by : (front : Front) → IsWithin front (b ∷ text)
        → cut place front (λ size. tokens_from (place + 1) (size - 1) text) ≡ cut place front (λ size. tokens_from (place + size) 0 (drop size (b ∷ text)))
    by (Gap size) w = behind size w.0 w.1
    by (Piece kind size) w = ap (with_first (record { kind = kind; start = place; end = place + size })) (behind size w.0 w.1)
    by (Fault what) w = refl

-- a turn of the loop at a place: its front comes to the tokens so far, and then the text behind it
pub turn : (text : List ℕ) (tokens : List Token) (place : ℕ) (front : Front) → place < length text → front ≡ front_of (drop place text) → IsWithin front (drop place text)
    → with_all tokens (tokens_from place 0 (drop place text)) ≡ with_all tokens (cut place front (λ size. tokens_from (place + size) 0 (drop (place + size) text)))
turn text tokens place front inside is within =
    let some : 0 < length (drop place text) = simp length-drop (omega arith) in
    let here = tokens_from-front place (drop place text) some (subst (λ f. IsWithin f (drop place text)) is within) in
    let there : cut place front (λ size. tokens_from (place + size) 0 (drop size (drop place text))) ≡ cut place front (λ size. tokens_from (place + size) 0 (drop (place + size) text)) =
    ap (cut place front) (λ i size. tokens_from (place + size) 0 (drop-drop size place text i)) in
    ap (with_all tokens) (here ∙ ap (λ f. cut place f (λ size. tokens_from (place + size) 0 (drop size (drop place text)))) (sym is) ∙ there)

-- a blank or comment is passed over
pub turn-gap : (text : List ℕ) (tokens : List Token) (place size : ℕ) (all : Result (List Token) Break) → place < length text → Gap size ≡ front_of (drop place text) → IsWithin (Gap size) (drop place text)
    → with_all tokens (tokens_from place 0 (drop place text)) ≡ all → with_all tokens (tokens_from (place + size) 0 (drop (place + size) text)) ≡ all
turn-gap text tokens place size all inside is within h = sym (turn text tokens place (Gap size) inside is within) ∙ h

-- a token comes to the tokens so far
pub turn-piece : (text : List ℕ) (tokens : List Token) (place size : ℕ) (kind : TokenKind) (all : Result (List Token) Break) → place < length text → Piece kind size ≡ front_of (drop place text) → IsWithin (Piece kind size) (drop place text)
    → with_all tokens (tokens_from place 0 (drop place text)) ≡ all
    → with_all (tokens ++ (record { kind = kind; start = place; end = place + size }) ∷ []) (tokens_from (place + size) 0 (drop (place + size) text)) ≡ all
turn-piece text tokens place size kind all inside is within h =
    sym (with_all-first tokens (record { kind = kind; start = place; end = place + size }) _) ∙ sym (turn text tokens place (Piece kind size) inside is within) ∙ h

-- a fault is the whole text's
pub turn-fault : (text : List ℕ) (tokens : List Token) (place : ℕ) (what : LexWhat) (all : Result (List Token) Break) → place < length text → Fault what ≡ front_of (drop place text)
    → with_all tokens (tokens_from place 0 (drop place text)) ≡ all → all ≡ Err (place, what)
turn-fault text tokens place what all inside is h = sym h ∙ turn text tokens place (Fault what) inside is tt
