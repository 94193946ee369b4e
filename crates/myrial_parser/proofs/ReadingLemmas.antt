-- A script has one reading: its statements, or its first fault.
use Rattle.std.proofs.Common.{◌≡◌, ℕ, zero, suc, ◌+◌, ◌<◌, Bool, true, false, List, [], ◌∷◌, ◌++◌, length, refl, sym, ap, subst, ◌∙◌, add-zero, arith}
use Rattle.std.specs.Prelude.{nat_lt}
use Rattle.std.proofs.lemmas.Bool.Decides.{nat_tests}
use Rattle.myrial_ast.specs.Trees.{StatementTree}
use Rattle.myrial_lexer.specs.declared.kinds.Token.{Token}
use Rattle.myrial_parser.specs.declared.faults.What.TheVariants.{Statements, Tokens, Nesting, FromItems, Columns}
use Rattle.myrial_parser.specs.Terminals.{terminals_of}
use Rattle.myrial_parser.specs.Pieces.{Piece, PieceFault, Syntax, TooMany, HasFault, rank, IsFaulty, IsRead, AreRead, no_piece, a_piece, IsScript, IsFirstFault}
use Rattle.myrial_parser.proofs.FaultLemmas.{OneStatement}

-- ---- a piece has one first fault

-- the fault of a rank
abbrev fault_at : ℕ → PieceFault
fault_at zero = TooMany Statements
fault_at (suc zero) = TooMany Tokens
fault_at (suc (suc zero)) = TooMany Nesting
fault_at (suc (suc (suc zero))) = Syntax
fault_at (suc (suc (suc (suc zero)))) = TooMany FromItems
fault_at _ = TooMany Columns

fault_at-rank : (f : PieceFault) → fault_at (rank f) ≡ f
fault_at-rank (TooMany Statements) = refl
fault_at-rank (TooMany Tokens) = refl
fault_at-rank (TooMany Nesting) = refl
fault_at-rank Syntax = refl
fault_at-rank (TooMany FromItems) = refl
fault_at-rank (TooMany Columns) = refl

rank-same : (f g : PieceFault) → rank f ≡ rank g → f ≡ g
rank-same f g e = sym (fault_at-rank f) ∙ ap fault_at e ∙ fault_at-rank g

pub one_fault : (text : List ℕ) (number : ℕ) (piece : Piece) (f g : PieceFault) → IsFaulty text number piece f → IsFaulty text number piece g → f ≡ g
one_fault text number piece f g a b = by (nat_lt (rank f) (rank g)) (nat_lt (rank g) (rank f)) refl refl
  where
    by : (s t : Bool) → nat_lt (rank f) (rank g) ≡ s → nat_lt (rank g) (rank f) ≡ t → f ≡ g
    by true t e d = let less : rank f < rank g = grind (arith, nat_tests) in absurd (b.first f less a.has)
    by false true e d = let less : rank g < rank f = grind (arith, nat_tests) in absurd (a.first g less b.has)
    by false false e d = rank-same f g (grind (arith, nat_tests))

-- ---- pieces that are read have no fault

-- of pieces that are read the first is read, and so are the others
split_read : (text : List ℕ) (number : ℕ) (piece : Piece) (pieces : List Piece) (script : List StatementTree) → AreRead text number (piece ∷ pieces) script
    → (s : StatementTree) × (others : List StatementTree) × (script ≡ s ∷ others) × IsRead text number piece s × AreRead text (number + 1) pieces others
split_read text _ _ _ _ (a_piece number piece s pieces script read others) = (s, script, refl, read, others)

pub none_faulty : (text : List ℕ) (number : ℕ) (before : List Piece) (piece : Piece) (behind : List Piece) (script : List StatementTree) (f : PieceFault)
    → AreRead text number (before ++ piece ∷ behind) script → IsFaulty text (number + length before) piece f → ⊥
none_faulty text number [] piece behind script f read faulty =
    let this = split_read text number piece behind script read in
    this.3.sound f (subst (λ n. HasFault text n piece f) (add-zero number) faulty.has)
none_faulty text number (p ∷ before) piece behind script f read faulty =
    let this = split_read text number p (before ++ piece ∷ behind) script read in
    let on : number + length (p ∷ before) ≡ number + 1 + length before = omega arith in
    none_faulty text (number + 1) before piece behind this.1 f this.4 (subst (λ n. IsFaulty text n piece f) on faulty)

-- ---- the first fault of pieces

record Same (before later : List Piece) (f g : PieceFault) : Type 0 where
  place : length before ≡ length later
  fault : f ≡ g

same_place : (text : List ℕ) (number : ℕ) (before : List Piece) (piece : Piece) (behind : List Piece) (script : List StatementTree) (f : PieceFault)
    → (later : List Piece) (other : Piece) (rest : List Piece) (others : List StatementTree) (g : PieceFault)
    → before ++ piece ∷ behind ≡ later ++ other ∷ rest
    → AreRead text number before script → IsFaulty text (number + length before) piece f
    → AreRead text number later others → IsFaulty text (number + length later) other g
    → Same before later f g
same_place text number [] piece behind script f [] other rest others g same read faulty read_too faulty_too =
    let one : piece ≡ other = cc in
    record { place = refl; fault = one_fault text (number + 0) piece f g faulty (subst (λ p. IsFaulty text (number + 0) p g) (sym one) faulty_too) }
same_place text number [] piece behind script f (q ∷ later) other rest others g same read faulty read_too faulty_too =
    let one : q ≡ piece = cc in
    let this = split_read text number q later others read_too in
    absurd (this.3.sound f (subst (λ p. HasFault text number p f) (sym one) (subst (λ n. HasFault text n piece f) (add-zero number) faulty.has)))
same_place text number (p ∷ before) piece behind script f [] other rest others g same read faulty read_too faulty_too =
    let one : p ≡ other = cc in
    let this = split_read text number p before script read in
    absurd (this.3.sound g (subst (λ q. HasFault text number q g) (sym one) (subst (λ n. HasFault text n other g) (add-zero number) faulty_too.has)))
same_place text number (p ∷ before) piece behind script f (q ∷ later) other rest others g same read faulty read_too faulty_too =
    let a = split_read text number p before script read in
    let b = split_read text number q later others read_too in
    let on_before : number + length (p ∷ before) ≡ number + 1 + length before = omega arith in
    let on_later : number + length (q ∷ later) ≡ number + 1 + length later = omega arith in
    let tails : before ++ piece ∷ behind ≡ later ++ other ∷ rest = cc in
    let inner = same_place text (number + 1) before piece behind a.1 f later other rest b.1 g tails a.4 (subst (λ n. IsFaulty text n piece f) on_before faulty) b.4 (subst (λ n. IsFaulty text n other g) on_later faulty_too) in
    record { place = ap suc inner.place; fault = inner.fault }

-- ---- scripts

from_one : (n : ℕ) → n + 1 ≡ 1 + n
from_one n = omega arith

pub script-sound : (text : List ℕ) (tokens : List Token) (script : List StatementTree) (number : ℕ) (f : PieceFault)
    → IsScript text tokens script → IsFirstFault text tokens number f → ⊥
script-sound text tokens script number f read first =
    none_faulty text 1 first.before first.piece first.behind script f (subst (λ ps. AreRead text 1 ps script) first.are read)
    (subst (λ n. IsFaulty text n first.piece f) (first.numbered ∙ from_one (length first.before)) first.faulty)

pub one_first_fault : (text : List ℕ) (tokens : List Token) (m n : ℕ) (f g : PieceFault) → IsFirstFault text tokens m f → IsFirstFault text tokens n g → (m ≡ n) × (f ≡ g)
one_first_fault text tokens m n f g a b =
    let same = same_place text 1 a.before a.piece a.behind a.script f b.before b.piece b.behind b.script g (sym a.are ∙ b.are)
    a.read (subst (λ k. IsFaulty text k a.piece f) (a.numbered ∙ from_one (length a.before)) a.faulty)
    b.read (subst (λ k. IsFaulty text k b.piece g) (b.numbered ∙ from_one (length b.before)) b.faulty) in
    (a.numbered ∙ ap (λ k. k + 1) same.place ∙ sym b.numbered, same.fault)

pub AreRead-one : OneStatement → (text : List ℕ) (number : ℕ) (pieces : List Piece) (a b : List StatementTree) → AreRead text number pieces a → AreRead text number pieces b → a ≡ b
AreRead-one one text _ _ _ b (no_piece number) other = nothing_else b other
  where
    nothing_else : (b : List StatementTree) → AreRead text number [] b → [] ≡ b
    nothing_else _ (no_piece _) = refl
AreRead-one one text _ _ _ b (a_piece number piece s pieces script read others) other =
    let two = split_read text number piece pieces b other in
    let same : s ≡ two.0 = one (terminals_of text piece.tokens) s two.0 read.is.reads two.3.is.reads in
    let rest : script ≡ two.1 = AreRead-one one text (number + 1) pieces script two.1 others two.4 in
    ap (λ t. t ∷ script) same ∙ ap (λ ts. two.0 ∷ ts) rest ∙ sym two.2
