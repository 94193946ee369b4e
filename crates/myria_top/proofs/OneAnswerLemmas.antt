-- A file of a script comes to one step alone, and so do what is asked for and the files.
use Rattle.std.proofs.Common.{◌≡◌, ℕ, true, false, List, Option, Ok, Err, Result, refl, sym, ◌∙◌, ap, subst, arith}
use Rattle.rel_io.specs.Outside.{Content}
use Rattle.myrial_ast.specs.Trees.{StatementTree}
use Rattle.myrial_lexer.specs.Tokens.{AreTokensOf, HasFault, line_at}
use Rattle.myrial_lexer.specs.declared.faults.LexWhat.{LexWhat}
use Rattle.myrial_lexer.specs.declared.kinds.Token.{Token}
use Rattle.myrial_parser.specs.Pieces.{IsFirstFault, IsScript, pieces_of}
use Rattle.myrial_parser.proofs.ReadingLemmas.{AreRead-one, script-sound, one_first_fault}
use Rattle.myrial_parser.proofs.StatementLemmas.{statement-unique}
use Rattle.myria_top.specs.declared.outcomes.Outcome.TheVariants as outcome
use Rattle.myria_top.specs.Scripts.{TextComesTo, not_text, bad_token, bad_piece, a_script, ScriptComesTo, not_told, no_script, too_long, short, fault_answer}
use Rattle.myria_top.specs.Verdicts.{Verdict, refused, passes, and_then}
use Rattle.trial_gen.specs.TrialScript.{trial_script}
use Rattle.command_words.specs.declared.requests.Request.{Request}
use Rattle.command_words.specs.Requests.{Asked}
use Rattle.myria_top.specs.Requests.{is_trial}
use Rattle.myria_top.specs.Runs.{ComesTo, unread, of_script, of_trial, printed_verdict, trial_verdict}
use Rattle.myria_top.proofs.RequestLemmas.{one-request, read-asks, trial-or}

abbrev Statements : Type 0
Statements = List StatementTree

one_script : (text : List ℕ) (tokens : List Token) (a b : Statements) → IsScript text tokens a → IsScript text tokens b → a ≡ b
one_script text tokens a b r s = AreRead-one statement-unique text 1 (pieces_of tokens) a b r s

-- ---- tokens

abbrev Cut : Type 0
Cut = Result (List Token) (ℕ × LexWhat)

cut_alike : {a b : List Token} → ◌≡◌ {A = Cut} (Ok a) (Ok b) → a ≡ b
cut_alike e = cc

failed_alike : {a b : ℕ × LexWhat} → ◌≡◌ {A = Cut} (Err a) (Err b) → a ≡ b
failed_alike e = cc

cut_or_failed : {a : List Token} {b : ℕ × LexWhat} → ◌≡◌ {A = Cut} (Ok a) (Err b) → ⊥
cut_or_failed e = cc

same_tokens : (text : List ℕ) (a b : List Token) → AreTokensOf text a → AreTokensOf text b → a ≡ b
same_tokens text a b x y = cut_alike (sym x.are ∙ y.are)

tokens_without_fault : (text : List ℕ) (tokens : List Token) (line : ℕ) (what : LexWhat) → AreTokensOf text tokens → HasFault text line what → ⊥
tokens_without_fault text tokens line what x y = cut_or_failed (sym x.are ∙ y.first)

-- ---- texts

pub text_one : (bytes : List ℕ) (s t : Verdict Statements) → TextComesTo bytes s → TextComesTo bytes t → s ≡ t
text_one bytes s t (not_text n) (not_text m) = refl
text_one bytes s t (not_text n) (bad_token line what h) = absurd (n h.is_text)
text_one bytes s t (not_text n) (bad_piece tokens number fault a f) = absurd (n a.is_text)
text_one bytes s t (not_text n) (a_script tokens trees a r) = absurd (n a.is_text)
text_one bytes s t (bad_token line what h) (not_text n) = absurd (n h.is_text)
text_one bytes s t (bad_token line what h) (bad_token line' what' g) =
    let both : (h.place, what) ≡ (g.place, what') = failed_alike (sym h.first ∙ g.first) in
    let place : h.place ≡ g.place = ap (λ p. p.0) both in
    let kind : what ≡ what' = ap (λ p. p.1) both in
    let same : line ≡ line' = h.on_line ∙ ap (line_at bytes) place ∙ sym g.on_line in
    λ i. refused (outcome.Lex (same i) (kind i))
text_one bytes s t (bad_token line what h) (bad_piece tokens number fault a f) = absurd (tokens_without_fault bytes tokens line what a h)
text_one bytes s t (bad_token line what h) (a_script tokens trees a r) = absurd (tokens_without_fault bytes tokens line what a h)
text_one bytes s t (bad_piece tokens number fault a f) (not_text n) = absurd (n a.is_text)
text_one bytes s t (bad_piece tokens number fault a f) (bad_token line what h) = absurd (tokens_without_fault bytes tokens line what a h)
text_one bytes s t (bad_piece tokens number fault a f) (bad_piece tokens' number' fault' a' f') =
    let same = same_tokens bytes tokens' tokens a' a in
    let g : IsFirstFault bytes tokens number' fault' = subst (λ ts. IsFirstFault bytes ts number' fault') same f' in
    let alike = one_first_fault bytes tokens number number' fault fault' f g in
    λ i. refused (fault_answer (alike.0 i) (alike.1 i))
text_one bytes s t (bad_piece tokens number fault a f) (a_script tokens' trees a' r) =
    absurd (script-sound bytes tokens trees number fault (subst (λ ts. IsScript bytes ts trees) (same_tokens bytes tokens' tokens a' a) r) f)
text_one bytes s t (a_script tokens trees a r) (not_text n) = absurd (n a.is_text)
text_one bytes s t (a_script tokens trees a r) (bad_token line what h) = absurd (tokens_without_fault bytes tokens line what a h)
text_one bytes s t (a_script tokens' trees a' r) (bad_piece tokens number fault a f) =
    absurd (script-sound bytes tokens trees number fault (subst (λ ts. IsScript bytes ts trees) (same_tokens bytes tokens' tokens a' a) r) f)
text_one bytes s t (a_script tokens trees a r) (a_script tokens' trees' a' r') =
    ap passes (one_script bytes tokens trees trees' r (subst (λ ts. IsScript bytes ts trees') (same_tokens bytes tokens' tokens a' a) r'))

-- ---- files and words

pub script_one : (content : Content) (s t : Verdict Statements) → ScriptComesTo content s → ScriptComesTo content t → s ≡ t
script_one content s t not_told not_told = refl
script_one content s t no_script no_script = refl
script_one content s t (too_long bytes h) (too_long bytes' g) = refl
script_one content s t (too_long bytes h) (short bytes' s' g r) = absurd (omega arith)
script_one content s t (short bytes s' h r) (too_long bytes' g) = absurd (omega arith)
script_one content s t (short bytes s' h r) (short bytes' t' g q) = text_one bytes s' t' r q

-- a request comes to one step
script-one-step : (content : List ℕ → Content) (r q : Request) (s t : Verdict Statements) → r ≡ q → ScriptComesTo (content r.script) s
    → ScriptComesTo (content q.script) t → and_then s (printed_verdict r content) ≡ and_then t (printed_verdict q content)
script-one-step content r q s t same h g =
    let both : s ≡ t = script_one (content r.script) s t h (subst (λ (x : Request). ScriptComesTo (content x.script) t) (sym same) g) in
    λ i. and_then (both i) (printed_verdict (same i) content)

trial-one-step : (r q : Request) (s t : Verdict Statements) → r ≡ q → TextComesTo trial_script s → TextComesTo trial_script t
    → and_then s (trial_verdict r) ≡ and_then t (trial_verdict q)
trial-one-step r q s t same h g =
    let both : s ≡ t = text_one trial_script s t h g in
    λ i. and_then (both i) (trial_verdict (same i))

-- a request is no trial and another kind of run
one-kind : (r q : Request) → r ≡ q → is_trial r.mode ≡ true → is_trial q.mode ≡ false → ⊥
one-kind r q same trial other = trial-or q.mode (sym (ap (λ (x : Request). is_trial x.mode) same) ∙ trial) other

-- what is asked for and the files come to one step
pub comes_to_one : (asked : Option Asked) (content : List ℕ → Content) (s t : Verdict (List ℕ)) → ComesTo asked content s → ComesTo asked content t → s ≡ t
comes_to_one asked content s t (unread e) (unread d) = refl
comes_to_one asked content s t (unread e) (of_script q u d k h) = absurd (read-asks asked q e d)
comes_to_one asked content s t (unread e) (of_trial q u d k h) = absurd (read-asks asked q e d)
comes_to_one asked content s t (of_script r v e k h) (unread d) = absurd (read-asks asked r d e)
comes_to_one asked content s t (of_script r v e k h) (of_script q u d l g) = script-one-step content r q v u (one-request asked r q e d) h g
comes_to_one asked content s t (of_script r v e k h) (of_trial q u d l g) = absurd (one-kind q r (one-request asked q r d e) l k)
comes_to_one asked content s t (of_trial r v e k h) (unread d) = absurd (read-asks asked r d e)
comes_to_one asked content s t (of_trial r v e k h) (of_script q u d l g) = absurd (one-kind r q (one-request asked r q e d) k l)
comes_to_one asked content s t (of_trial r v e k h) (of_trial q u d l g) = trial-one-step r q v u (one-request asked r q e d) h g
