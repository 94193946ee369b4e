-- What is asked for, put together from its parts.
use Rattle.std.proofs.Common.{◌≡◌, ◌∙◌, ap, sym, refl, ℕ, List, Bool, true, false, cond, Option, Some, None, Result, Err}
use Rattle.clap.specs.Words.{Row, Text, matches_of}
use Rattle.command_words.specs.declared.requests.Mode.{Mode}
use Rattle.command_words.specs.Commands.{command, is_read}
use Rattle.command_words.specs.Requests.{Asked, AskedSettings, asked, asked_from, asked_in, with_its_plan}
use Rattle.command_words.specs.Modes.{has_its_plan}

pub asked-from-same : (m m2 : Option Mode) (s s2 : Option AskedSettings) (n n2 : Option ℕ) (t t2 : Option Text) (p p2 q q2 : Bool) (o o2 : Option Text)
    → m ≡ m2 → s ≡ s2 → n ≡ n2 → t ≡ t2 → p ≡ p2 → q ≡ q2 → o ≡ o2 → asked_from m s n t p q o ≡ asked_from m2 s2 n2 t2 p2 q2 o2
asked-from-same m m2 s s2 n n2 t t2 p p2 q q2 o o2 a b c d e f g = rw (a, b, c, d, e, f, g) refl

-- a plan that has to be named is
pub kept-plan : (a : Asked) → has_its_plan a.mode a.from ≡ true → with_its_plan a ≡ Some a
kept-plan a named = ap (λ (b : Bool). cond b (Some a) None) named

pub lost-plan : (a : Asked) → has_its_plan a.mode a.from ≡ false → with_its_plan a ≡ None
lost-plan a unnamed = ap (λ (b : Bool). cond b (Some a) None) unnamed

pub asked-read : (texts words : List Text) (rows : List Row) → texts ≡ words → is_read texts ≡ true → rows ≡ matches_of command texts
    → asked words ≡ asked_in rows
asked-read texts words rows same read e =
    ap asked (sym same) ∙ ap (λ (b : Bool). cond b (asked_in (matches_of command texts)) None) read ∙ ap asked_in (sym e)

pub asked-unread : (texts words : List Text) → texts ≡ words → is_read texts ≡ false → asked words ≡ None
asked-unread texts words same unread =
    ap asked (sym same) ∙ ap (λ (b : Bool). cond b (asked_in (matches_of command texts)) None) unread

pub same-fault : {T F : Type 0} (x y : F) → ◌≡◌ {A = Result T F} (Err x) (Err y) → x ≡ y
same-fault x y e = cc
