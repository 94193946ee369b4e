-- What follows for whole lists of jobs, where each stands to what it was as a job that has run.
use Rattle.std.proofs.Common.{List, [], ◌∷◌, arith, suc}
use Rattle.std.specs.List.{AllZip}
use Rattle.crew.specs.Jobs.{EachHasRun}

-- the jobs after the first have run too
rest_has_run : {J : Type 0} (has_run : J → J → Type 0) (x y : J) (xs ys : List J)
    → EachHasRun has_run (x ∷ xs) (y ∷ ys) → EachHasRun has_run xs ys
rest_has_run has_run x y xs ys run = record { len = omega (arith, run.len); each = λ k d l. run.each (suc k) d (omega arith) }

-- std's word for it, which goes down both lists
pub AllZip-from_run : {J : Type 0} (has_run : J → J → Type 0) (before after : List J)
    → EachHasRun has_run before after → AllZip has_run before after
AllZip-from_run has_run [] [] run = tt
AllZip-from_run has_run [] (y ∷ ys) run = absurd (omega (arith, run.len))
AllZip-from_run has_run (x ∷ xs) [] run = absurd (omega (arith, run.len))
AllZip-from_run has_run (x ∷ xs) (y ∷ ys) run =
    (run.each 0 x (omega arith), AllZip-from_run has_run xs ys (rest_has_run has_run x y xs ys run))
