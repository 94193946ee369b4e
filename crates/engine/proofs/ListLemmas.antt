-- Lists.
use Rattle.std.proofs.Common.{ℕ, zero, suc, ◌≤◌, List, [], ◌∷◌, map, take, length, Result, Ok, Err, arith}
use Rattle.std.specs.Prelude.{OnOk}

-- no more are taken than are asked for
pub few-taken : {X Y : Type 0} (f : X → Y) (i : ℕ) (xs : List X) → length (map f (take i xs)) ≤ i
few-taken f zero xs = omega arith
few-taken f (suc i) [] = omega arith
few-taken f (suc i) (x ∷ xs) = omega (arith, few-taken f i xs)

pub on-ok : {X F : Type 0} (P Q : Type 0) → (P → Q) → (answer : Result X F) → OnOk answer P → OnOk answer Q
on-ok P Q f (Ok x) h = f h
on-ok P Q f (Err e) h = h
