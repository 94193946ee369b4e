-- Verdicts on words and files, where each step may refuse.
--
--   Verdict X        what a step comes to: too little is told, a refusal, or a value
--   and_then s f     the verdict s and then, on its value, the verdict of f
--   IfTold s P       P holds of the verdict s, where enough is told
use Rattle.std.specs.Prelude.{⊤}
use Rattle.myria_top.specs.declared.outcomes.Outcome.{Outcome}

-- a verdict: the shelf does not tell enough, a refusal with this answer, or this value passes
pub data Verdict (X : Type 0) : Type 0 where
  untold : Verdict X
  refused : Outcome → Verdict X
  passes : X → Verdict X

-- one verdict and then another, on the value of the first
abbrev pub and_then : {X Y : Type 0} → Verdict X → (X → Verdict Y) → Verdict Y
and_then untold f = untold
and_then (refused answer) f = refused answer
and_then (passes x) f = f x

-- the fact holds of the verdict, where enough is told
abbrev pub IfTold : {X : Type 0} → Verdict X → (Verdict X → Type 0) → Type 0
IfTold untold P = ⊤
IfTold (refused answer) P = P (refused answer)
IfTold (passes x) P = P (passes x)
