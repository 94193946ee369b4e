-- What the answer to words that are read, and to words that aren't, says of a run.
use Rattle.std.proofs.Common.{◌≡◌, ◌≢◌, ◌⊎◌, inl, inr, ◌∙◌, sym, refl, ap, subst, ℕ, Bool, true, false, List, [], Option, Some, None}
use Rattle.rel_io.specs.Outside.{Content}
use Rattle.rel_io.specs.Sinks.{TookNothing, Written}
use Rattle.rel_io.specs.declared.taps.Totals.{Totals}
use Rattle.command_words.specs.declared.requests.Request.{Request}
use Rattle.command_words.specs.declared.requests.WordsFault.{WordsFault}
use Rattle.command_words.specs.declared.requests.WordsFault.TheVariants as words
use Rattle.command_words.specs.Requests.{Asked, asked_of}
use Rattle.myria_top.specs.declared.outcomes.Outcome.{Outcome}
use Rattle.myria_top.specs.declared.outcomes.Outcome.TheVariants as outcome
use Rattle.myria_top.specs.EachFile.{Allows}
use Rattle.myria_top.specs.Headline.{Explains, Headline, Run, TellsLine}
use Rattle.myria_top.specs.Moves.{HasMovedAfter, HasNoReceipt, IsStill}
use Rattle.myria_top.specs.Outcomes.{line_of}
use Rattle.myria_top.specs.Requests.{Asks, is_trial, name_given, script_asked}
use Rattle.myria_top.specs.Runs.{unread, words_answer}
use Rattle.myria_top.specs.Verdicts.{refused}
use Rattle.myria_top.proofs.RequestLemmas.{no-script, none-some, read-asks, script-named, some-same}
use Rattle.myria_top.proofs.RunLemmas.{decided}

-- ---- words that aren't read

unread-explains : (run : Run) (fault : WordsFault) → (fault ≡ words.Usage → run.asked ≡ None) → TookNothing run.out
    → Explains run (words_answer fault)
unread-explains run words.Usage none silent = record {
  agrees = record { step = refused outcome.Usage; comes = unread (none refl); is = refl };
  cause = tt;
  silent = silent;
}
unread-explains run words.Memory none silent = inl silent

unread-usage : (run : Run) (fault : WordsFault) → (fault ≡ words.Usage → run.asked ≡ None)
    → words_answer fault ≡ outcome.Usage → run.asked ≡ None
unread-usage run words.Usage none is = none refl
unread-usage run words.Memory none is = cc

unread-answer : (fault : WordsFault) → (words_answer fault ≡ outcome.Usage) ⊎ (words_answer fault ≡ outcome.Memory)
unread-answer words.Usage = inl refl
unread-answer words.Memory = inr refl

-- and no script is asked for
unread-each : (run : Run) (fault : WordsFault) → (fault ≡ words.Usage → run.asked ≡ None)
    → (name : List ℕ) → script_asked run.asked ≡ Some name → Allows run.content name (words_answer fault)
unread-each run words.Usage none name named = absurd (none-some (sym (ap script_asked (none refl)) ∙ named))
unread-each run words.Memory none name named = tt

-- their line doesn't tell the name
unnamed-line : (fault : WordsFault) (name other : List ℕ) → line_of name (words_answer fault) ≡ line_of other (words_answer fault)
unnamed-line words.Usage name other = refl
unnamed-line words.Memory name other = refl

unread-at : (run : Run) (err : Written) (fault : WordsFault) → (fault ≡ words.Usage → run.asked ≡ None) → TookNothing run.out
    → TellsLine err (line_of [] (words_answer fault)) → Headline run err (words_answer fault)
unread-at run err fault none silent told =
    let explained = unread-explains run fault none silent in
    record {
      explained = explained;
      words_exactly = (unread-usage run fault none, λ e. unread-answer fault);
      decided = decided run (words_answer fault) explained;
      each_file = unread-each run fault none;
      told = subst (TellsLine err) (unnamed-line fault [] (name_given run.asked (words_answer fault))) told;
    }

pub headline-unread : (run : Run) (err : Written) (fault : WordsFault) (answer : Outcome) → answer ≡ words_answer fault
    → (fault ≡ words.Usage → run.asked ≡ None) → TookNothing run.out → TellsLine err (line_of [] answer) → Headline run err answer
headline-unread run err fault answer is none silent told =
    subst (Headline run err) (sym is) (unread-at run err fault none silent (subst (λ (a : Outcome). TellsLine err (line_of [] a)) is told))

-- and nothing is done
module _ {T : Type 0} (asked : Option Asked) (content : List ℕ → Content) (totals : T → Totals) (tag : T → ℕ) (before after : List T) where
  unread-moves : (fault : WordsFault) → HasMovedAfter asked content totals tag before after (words_answer fault)
  unread-moves words.Usage = tt
  unread-moves words.Memory = tt

  pub moved-unread : (fault : WordsFault) (answer : Outcome) → answer ≡ words_answer fault
      → HasMovedAfter asked content totals tag before after answer
  moved-unread fault answer is = subst (HasMovedAfter asked content totals tag before after) (sym is) (unread-moves fault)

unread-receipt : (fault : WordsFault) → HasNoReceipt (words_answer fault)
unread-receipt words.Usage = tt
unread-receipt words.Memory = tt

pub still-unread : {T : Type 0} (taps : List T) (fault : WordsFault) (answer : Outcome) → answer ≡ words_answer fault → IsStill taps taps answer
still-unread taps fault answer is = record { taps = refl; receipts = subst HasNoReceipt (sym is) (unread-receipt fault) }

-- ---- words that are read

-- each file allows the answer, where a script is asked for
read-each : (run : Run) (r : Request) (answer : Outcome) → Asks run.asked r
    → (is_trial r.mode ≡ false → Allows run.content r.script answer)
    → (name : List ℕ) → script_asked run.asked ≡ Some name → Allows run.content name answer
read-each run r answer asks each name named = by (is_trial r.mode) refl
  where
    by : (b : Bool) → is_trial r.mode ≡ b → Allows run.content name answer
    by true e = absurd (none-some (sym (no-script run.asked r asks e) ∙ named))
    by false e =
        subst (λ (n : List ℕ). Allows run.content n answer) (some-same (sym (script-named run.asked r asks e) ∙ named)) (each e)

pub headline-read : (run : Run) (err : Written) (r : Request) (answer : Outcome) → Asks run.asked r
    → Explains (record run { asked = Some (asked_of r) }) answer → (is_trial r.mode ≡ false → Allows run.content r.script answer)
    → answer ≢ outcome.Usage → TellsLine err (line_of (name_given (Some (asked_of r)) answer) answer)
    → Headline run err answer
headline-read run err r answer asks explained each no_usage told =
    let own : Explains run answer = subst (λ (a : Option Asked). Explains (record run { asked = a }) answer) (sym asks) explained in
    record {
      explained = own;
      words_exactly = (λ usage. absurd (no_usage usage), λ none. absurd (read-asks run.asked r none asks));
      decided = decided run answer own;
      each_file = read-each run r answer asks each;
      told = subst (λ (a : Option Asked). TellsLine err (line_of (name_given a answer) answer)) (sym asks) told;
    }

pub moved-read : {T : Type 0} (asked : Option Asked) (r : Request) (content : List ℕ → Content) (totals : T → Totals) (tag : T → ℕ)
    (before after : List T) (answer : Outcome) → Asks asked r
    → HasMovedAfter (Some (asked_of r)) content totals tag before after answer
    → HasMovedAfter asked content totals tag before after answer
moved-read asked r content totals tag before after answer asks moved =
    subst (λ (a : Option Asked). HasMovedAfter a content totals tag before after answer) (sym asks) moved

-- no script is asked for, so it is a trial
pub trial-unnamed : (asked : Option Asked) (r : Request) → Asks asked r → script_asked asked ≡ None → is_trial r.mode ≡ true
trial-unnamed asked r asks none = by (is_trial r.mode) refl
  where
    by : (b : Bool) → is_trial r.mode ≡ b → is_trial r.mode ≡ true
    by true e = e
    by false e = absurd (none-some (sym none ∙ script-named asked r asks e))
