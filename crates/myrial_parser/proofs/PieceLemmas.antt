-- Pieces: how the text ahead is cut at its first semicolon, what is wrong with a piece, and what was read of a script so far.
use Rattle.std.proofs.Common.{◌≡◌, ℕ, ◌+◌, ◌<◌, ◌≤◌, Bool, true, false, cond, List, [], ◌∷◌, ◌++◌, length, take, drop, length-append, append_assoc, append-nil, add-zero, add_comm, Some, None, refl, sym, ap, subst, ◌∙◌, arith}
use Rattle.std.specs.Prelude.{nat_lt}
use Rattle.std.specs.List.{slice_split, onto_first, position, position_or_len}
use Rattle.std.proofs.lemmas.Bool.Decides.{nat_tests}
use Rattle.std.proofs.lemmas.List.{map-append}
use Rattle.std.proofs.lemmas.List.Sums.{fails_before_first}
use Rattle.std.proofs.lemmas.List.Splits.{slice_split_first, slice_split_none}
use Rattle.myrial_ast.specs.declared.statements.Stmt.{Stmt}
use Rattle.myrial_ast.specs.Trees.{StatementTree, statement_tree_of, trees_of}
use Rattle.myrial_lexer.specs.declared.kinds.Token.{Token}
use Rattle.myrial_lexer.specs.declared.kinds.TokenKind.TheVariants as kind
use Rattle.myrial_parser.specs.Pieces.{is_semicolon, parts_of, Piece, pieces_of_parts, pieces_of, PieceFault, IsFaulty, IsRead, AreRead, no_piece, a_piece, IsScript, IsFirstFault}

-- ---- cutting at the first semicolon

abbrev pub ends : Token → Bool
ends token = is_semicolon token.kind

some_token : Token
some_token = record { kind = kind.Word; start = 0; end = 0 }

-- the tokens in front of the first semicolon are a part, and so are those of the text behind it
pub parts-Some : (tokens : List Token) (len : ℕ) → position ends tokens ≡ Some len → (len < length tokens) × (parts_of tokens ≡ take len tokens ∷ parts_of (drop (len + 1) tokens))
parts-Some tokens len e = by (nat_lt (position_or_len ends tokens) (length tokens)) refl e
  where
    by : (t : Bool) → nat_lt (position_or_len ends tokens) (length tokens) ≡ t → cond t (Some (position_or_len ends tokens)) None ≡ Some len
        → (len < length tokens) × (parts_of tokens ≡ take len tokens ∷ parts_of (drop (len + 1) tokens))
    by true inside e =
        let same : position_or_len ends tokens ≡ len = cc in
        let below : position_or_len ends tokens < length tokens = grind (arith, nat_tests) in
        subst (λ n. (n < length tokens) × (parts_of tokens ≡ take n tokens ∷ parts_of (drop (n + 1) tokens))) same (below, slice_split_first ends tokens some_token below)
    by false inside e = cc

-- without a semicolon all tokens are one part
pub parts-None : (tokens : List Token) → position ends tokens ≡ None → parts_of tokens ≡ tokens ∷ []
parts-None tokens e = by (nat_lt (position_or_len ends tokens) (length tokens)) refl e
  where
    by : (t : Bool) → nat_lt (position_or_len ends tokens) (length tokens) ≡ t → cond t (Some (position_or_len ends tokens)) None ≡ None → parts_of tokens ≡ tokens ∷ []
    by true inside e = cc
    by false inside e =
        let past : length tokens ≤ position_or_len ends tokens = grind (arith, nat_tests) in
        slice_split_none ends tokens (λ k d below. fails_before_first ends tokens k d (omega arith))

-- there is always a part
onto_some : (token : Token) (parts : List (List Token)) → (first : List Token) × (others : List (List Token)) × (onto_first token parts ≡ first ∷ others)
onto_some token [] = (token ∷ [], [], refl)
onto_some token (part ∷ parts) = (token ∷ part, parts, refl)

some_part : (tokens : List Token) → (first : List Token) × (others : List (List Token)) × (parts_of tokens ≡ first ∷ others)
some_part [] = ([], [], refl)
some_part (token ∷ tokens) = by (ends token)
  where
    by : (t : Bool) → (first : List Token) × (others : List (List Token)) × (cond t ([] ∷ slice_split ends tokens) (onto_first token (slice_split ends tokens)) ≡ first ∷ others)
    by true = ([], slice_split ends tokens, refl)
    by false = onto_some token (slice_split ends tokens)

-- there is always a part, so a part that stands before others is ended
pub ended-first : (part : List Token) (tokens : List Token) → pieces_of_parts (part ∷ parts_of tokens) ≡ record { tokens = part; ended = true } ∷ pieces_of tokens
ended-first part tokens =
    let parts = some_part tokens in
    subst (λ ps. pieces_of_parts (part ∷ ps) ≡ record { tokens = part; ended = true } ∷ pieces_of_parts ps) (sym parts.2) refl

-- ---- what was read of a script so far

pub AreRead-append : (text : List ℕ) (number : ℕ) (pieces : List Piece) (script : List StatementTree) (piece : Piece) (s : StatementTree)
    → AreRead text number pieces script → IsRead text (number + length pieces) piece s → AreRead text number (pieces ++ piece ∷ []) (script ++ s ∷ [])
AreRead-append text _ _ _ piece s (no_piece number) this = a_piece number piece s [] [] (subst (λ n. IsRead text n piece s) (add-zero number) this) (no_piece (number + 1))
AreRead-append text _ _ _ piece s (a_piece number first t pieces script is read) this =
    let on : number + length (first ∷ pieces) ≡ number + 1 + length pieces = omega arith in
    a_piece number first t (pieces ++ piece ∷ []) (script ++ s ∷ []) is
    (AreRead-append text (number + 1) pieces script piece s read (subst (λ n. IsRead text n piece s) on this))

-- the pieces in front of the tokens ahead are read, and the next one has this number
pub record ReadSoFar (text : List ℕ) (tokens ahead : List Token) (number : ℕ) (script : List StatementTree) : Type 0 where
  pub before : List Piece
  pub are : pieces_of tokens ≡ before ++ pieces_of ahead
  pub numbered : number ≡ length before + 1
  pub read : AreRead text 1 before script

pub so_far-none : (text : List ℕ) (tokens : List Token) → ReadSoFar text tokens tokens 1 []
so_far-none text tokens = record { before = []; are = refl; numbered = refl; read = no_piece 1 }

-- the piece in front of the first semicolon, and those behind it
next_piece : (ahead : List Token) (len : ℕ) → position ends ahead ≡ Some len → pieces_of ahead ≡ record { tokens = take len ahead; ended = true } ∷ pieces_of (drop (len + 1) ahead)
next_piece ahead len e = ap pieces_of_parts ((parts-Some ahead len e).1) ∙ ended-first (take len ahead) (drop (len + 1) ahead)

-- one more piece
pub so_far-more : (text : List ℕ) (tokens ahead : List Token) (number len : ℕ) (script : List StatementTree) (s : StatementTree)
    → ReadSoFar text tokens ahead number script → position ends ahead ≡ Some len
    → IsRead text number (record { tokens = take len ahead; ended = true }) s
    → ReadSoFar text tokens (drop (len + 1) ahead) (number + 1) (script ++ s ∷ [])
so_far-more text tokens ahead number len script s so_far e read =
    let piece : Piece = record { tokens = take len ahead; ended = true } in
    let next = next_piece ahead len e in
    let before = so_far.before in
    let numbered : number ≡ 1 + length before = so_far.numbered ∙ add_comm (length before) 1 in
    let longer : length (before ++ piece ∷ []) ≡ length before + 1 = length-append before (piece ∷ []) in
    record {
      before = before ++ piece ∷ [];
      are = so_far.are ∙ ap (λ ps. before ++ ps) next ∙ sym (append_assoc before (piece ∷ []) (pieces_of (drop (len + 1) ahead)));
      numbered = ap (λ n. n + 1) so_far.numbered ∙ ap (λ n. n + 1) (sym longer);
      read = AreRead-append text 1 before script piece s so_far.read (subst (λ n. IsRead text n piece s) numbered read);
    }

-- one more piece, whose statement stands behind those so far
pub so_far-pushed : (text : List ℕ) (tokens ahead behind : List Token) (number len : ℕ) (script longer : List Stmt) (s : Stmt)
    → ReadSoFar text tokens ahead number (trees_of script) → position ends ahead ≡ Some len
    → IsRead text number (record { tokens = take len ahead; ended = true }) (statement_tree_of s)
    → behind ≡ drop (len + 1) ahead → longer ≡ script ++ s ∷ []
    → ReadSoFar text tokens behind (number + 1) (trees_of longer)
so_far-pushed text tokens ahead behind number len script longer s so_far e read is pushed =
    let more = so_far-more text tokens ahead number len (trees_of script) (statement_tree_of s) so_far e read in
    let trees : trees_of longer ≡ trees_of script ++ statement_tree_of s ∷ [] = ap trees_of pushed ∙ map-append statement_tree_of script (s ∷ []) in
    subst (λ (ts : List Token). ReadSoFar text tokens ts (number + 1) (trees_of longer)) (sym is)
    (subst (ReadSoFar text tokens (drop (len + 1) ahead) (number + 1)) (sym trees) more)

-- the next piece has a fault
pub so_far-fault : (text : List ℕ) (tokens ahead : List Token) (number len : ℕ) (script : List StatementTree) (fault : PieceFault)
    → ReadSoFar text tokens ahead number script → position ends ahead ≡ Some len
    → IsFaulty text number (record { tokens = take len ahead; ended = true }) fault
    → IsFirstFault text tokens number fault
so_far-fault text tokens ahead number len script fault so_far e faulty = record {
  before = so_far.before;
  piece = record { tokens = take len ahead; ended = true };
  behind = pieces_of (drop (len + 1) ahead);
  are = so_far.are ∙ ap (λ ps. so_far.before ++ ps) (next_piece ahead len e);
  numbered = so_far.numbered;
  script = script;
  read = so_far.read;
  faulty = faulty;
}

-- nothing stands behind the last semicolon
pub so_far-all : (text : List ℕ) (tokens ahead : List Token) (number : ℕ) (script : List StatementTree)
    → ReadSoFar text tokens ahead number script → ahead ≡ [] → IsScript text tokens script
so_far-all text tokens ahead number script so_far e =
    let none_ahead : pieces_of ahead ≡ [] = ap pieces_of e in
    let all : pieces_of tokens ≡ so_far.before = so_far.are ∙ ap (λ ps. so_far.before ++ ps) none_ahead ∙ append-nil so_far.before in
    subst (λ ps. AreRead text 1 ps script) (sym all) so_far.read

-- the last piece isn't ended
pub so_far-last : (text : List ℕ) (tokens ahead : List Token) (number : ℕ) (script : List StatementTree) (fault : PieceFault)
    → ReadSoFar text tokens ahead number script → position ends ahead ≡ None → 0 < length ahead
    → IsFaulty text number (record { tokens = ahead; ended = false }) fault
    → IsFirstFault text tokens number fault
so_far-last text tokens [] number script fault so_far e some faulty = absurd (omega arith)
so_far-last text tokens (token ∷ ahead) number script fault so_far e some faulty = record {
  before = so_far.before;
  piece = record { tokens = token ∷ ahead; ended = false };
  behind = [];
  are = so_far.are ∙ ap (λ ps. so_far.before ++ ps) (ap pieces_of_parts (parts-None (token ∷ ahead) e));
  numbered = so_far.numbered;
  script = script;
  read = so_far.read;
  faulty = faulty;
}
