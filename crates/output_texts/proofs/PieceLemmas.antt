-- What a sink has taken of a text, piece after piece.
use Rattle.std.proofs.Common.{◌≡◌, ℕ, zero, suc, ◌+◌, ◌-◌, ◌<◌, ◌≤◌, List, [], ◌∷◌, ◌++◌, get_or, length, take, drop, Option, Result, Ok, Err, sym, ◌∙◌, ap, subst, arith, add-one, append_assoc}
use Rattle.std.proofs.Math.Seq.{take-add, take-append-add, take-append-le, take-suc}
use Rattle.std.specs.List.{flat_map}
use Rattle.std.proofs.lemmas.List.{length-append, append-nil, take_rest, take_all, take-append-drop}
use Rattle.std.proofs.lemmas.List.Concat.{flat_map-append}
use Rattle.std.proofs.KnownBytes.{Appends-nil, Appends-trans}
use Rattle.std.specs.Io.KnownBytes.{Appends}
use Rattle.rel_base.specs.Picks.{joined}
use Rattle.rel_io.specs.Outside.{TakesPart}
use Rattle.rel_io.specs.Sinks.{Offers, SinkState, Written}
use Rattle.rel_io.specs.declared.sinks.SinkFault.{SinkFault}
use Rattle.rel_io.proofs.OutsideLemmas.{Rose-part}

-- a part of what stands behind a whole piece
pub part_behind : (a b c : Option (List ℕ)) (first rest whole : List ℕ) → whole ≡ first ++ rest → Appends a b first → TakesPart b c rest → TakesPart a c whole
part_behind a b c first rest whole is p part =
    let size = length-append first rest in
    let same : length whole ≡ length (first ++ rest) = ap length is in
    let next : first ++ take part.count rest ≡ take (length first + part.count) whole =
    sym (take-append-add first rest part.count) ∙ ap (take (length first + part.count)) (sym is) in
    record {
      count = length first + part.count;
      short = omega (arith, part.short);
      appended = subst (Appends a c) next (Appends-trans a b c _ _ p part.appended);
    }

-- ---- offers

abbrev between : SinkState → SinkState → Written
between a b = record { before = a; after = b }

-- nothing was offered
pub offers_nothing : (a : SinkState) → Offers (between a a) [] (Ok tt)
offers_nothing a = record {
  ok = Appends-nil a.taken;
  err = tt;
  failed = λ e. cc;
  memory = λ e. cc;
  faults_kept = omega arith;
  wants_kept = omega arith;
}

-- the same text, said otherwise
pub offers_line : (written : Written) (text line : List ℕ) (r : Result (Unit {0}) SinkFault) → text ≡ line → Offers written text r → Offers written line r
offers_line written text line r is = subst (λ xs. Offers written xs r) is

-- a text was taken, and then what stands behind it was offered
pub offers_further : (a b c : SinkState) (first rest whole : List ℕ) (x : Unit {0}) (r : Result (Unit {0}) SinkFault) → whole ≡ first ++ rest
    → Offers (between a b) first (Ok x) → Offers (between b c) rest r → Offers (between a c) whole r
offers_further a b c first rest whole x (Ok y) is p q = record {
  ok = subst (Appends a.taken c.taken) (sym is) (Appends-trans a.taken b.taken c.taken first rest p.ok q.ok);
  err = tt;
  failed = λ e. cc;
  memory = λ e. cc;
  faults_kept = omega (arith, p.faults_kept, q.faults_kept);
  wants_kept = omega (arith, p.wants_kept, q.wants_kept);
}
offers_further a b c first rest whole x (Err fault) is p q = record {
  ok = tt;
  err = part_behind a.taken b.taken c.taken first rest whole is p.ok q.err;
  failed = λ e. Rose-part a.faults b.faults c.faults c.faults p.faults_kept q.faults_kept (omega arith) (q.failed e);
  memory = λ e. Rose-part a.wants b.wants c.wants c.wants p.wants_kept q.wants_kept (omega arith) (q.memory e);
  faults_kept = omega (arith, p.faults_kept, q.faults_kept);
  wants_kept = omega (arith, p.wants_kept, q.wants_kept);
}

-- a beginning of a text was refused
pub offers_refused : (written : Written) (first rest whole : List ℕ) (fault : SinkFault) → whole ≡ first ++ rest → Offers written first (Err fault) → Offers written whole (Err fault)
offers_refused written first rest whole fault is p =
    let part = p.err in
    let short = part.short in
    let size : length whole ≡ length first + length rest = ap length is ∙ length-append first rest in
    let same : take part.count first ≡ take part.count whole = sym (take-append-le part.count first rest (omega arith)) ∙ ap (take part.count) (sym is) in
    record {
      ok = tt;
      err = record {
        count = part.count;
        short = omega (arith, short, size);
        appended = subst (Appends written.before.taken written.after.taken) same part.appended;
      };
      failed = p.failed;
      memory = p.memory;
      faults_kept = p.faults_kept;
      wants_kept = p.wants_kept;
    }

-- what was taken of a text, and the next piece of it
pub next_piece : (text : List ℕ) (done end : ℕ) → done ≤ end → take end text ≡ take done text ++ take (end - done) (drop done text)
next_piece text done end h =
    let whole : done + (end - done) ≡ end = omega arith in
    ap (λ (k : ℕ). take k text) (sym whole) ∙ take-add done (end - done) text

-- what was taken of a text, and all that is left of it
pub last_piece : (text : List ℕ) (done : ℕ) → text ≡ take done text ++ take (length text - done) (drop done text)
last_piece text done = sym (take-append-drop done text) ∙ ap (λ rest. take done text ++ rest) (sym (take_rest text done))

-- the first of some pieces, and the others
pub flat_map-first : {X : Type 0} (f : X → List ℕ) (xs : List X) (d : X) (first : List ℕ) → 1 ≤ length xs → first ≡ f (get_or xs 0 d) → flat_map f xs ≡ first ++ flat_map f (take (length xs - 1) (drop 1 xs))
flat_map-first f [] d first h e = absurd (omega arith)
flat_map-first f (x ∷ xs) d first h e =
    let others : take (length (x ∷ xs) - 1) (drop 1 (x ∷ xs)) ≡ xs = take_rest (x ∷ xs) 1 in
    λ i. sym e i ++ flat_map f (sym others i)

-- ---- a text in blocks

-- the blocks so far, the next one, and what stands behind it
pub blocks_at : (blocks : List (List ℕ)) (last block : List ℕ) (i : ℕ) → i < length blocks → block ≡ get_or blocks i block
    → joined blocks ++ last ≡ joined (take i blocks) ++ (block ++ (joined (drop (suc i) blocks) ++ last))
blocks_at [] last block i low is = absurd (omega (arith, low))
blocks_at (first ∷ blocks) last block zero low is =
    append_assoc first (joined blocks) last ∙ ap (λ (t : List ℕ). t ++ (joined blocks ++ last)) (sym is)
blocks_at (first ∷ blocks) last block (suc i) low is =
    append_assoc first (joined blocks) last
    ∙ ap (λ (t : List ℕ). first ++ t) (blocks_at blocks last block i (omega (arith, low)) is)
    ∙ sym (append_assoc first (joined (take i blocks)) (block ++ (joined (drop (suc i) blocks) ++ last)))

-- all blocks
pub blocks_whole : (blocks : List (List ℕ)) (last : List ℕ) (i : ℕ) → length blocks ≤ i → joined blocks ++ last ≡ joined (take i blocks) ++ last
blocks_whole blocks last i low = ap (λ (bs : List (List ℕ)). joined bs ++ last) (sym (take_all i blocks low))

-- ---- a text that grows item by item

module _ {X : Type 0} (f : X → List ℕ) (front : List ℕ) (xs : List X) where
  -- one item more
  pub text_more : (text longer : List ℕ) (i : ℕ) (x : X) → i < length xs → x ≡ get_or xs i x → text ≡ front ++ flat_map f (take i xs) → longer ≡ text ++ f x → longer ≡ front ++ flat_map f (take (i + 1) xs)
  text_more text longer i x h is so_far grown =
      let item : take (i + 1) xs ≡ take i xs ++ x ∷ [] = (rw add-one (take-suc xs i x h)) ∙ ap (λ (y : X). take i xs ++ y ∷ []) (sym is) in
      let more : flat_map f (take (i + 1) xs) ≡ flat_map f (take i xs) ++ f x =
      ap (flat_map f) item ∙ flat_map-append f (take i xs) (x ∷ []) ∙ ap (λ (t : List ℕ). flat_map f (take i xs) ++ t) (append-nil (f x)) in
      grown ∙ ap (λ (t : List ℕ). t ++ f x) so_far ∙ append_assoc front (flat_map f (take i xs)) (f x) ∙ ap (λ (t : List ℕ). front ++ t) (sym more)

  -- all items
  pub text_whole : (text : List ℕ) (i : ℕ) → length xs ≤ i → text ≡ front ++ flat_map f (take i xs) → text ≡ front ++ flat_map f xs
  text_whole text i h so_far = so_far ∙ ap (λ (ys : List X). front ++ flat_map f ys) (take_all i xs h)
