-- What is made of each item of a list, where the items are numbered, or the fault of the first item that has one.
--
--   each_numbered f n xs     what f makes of each item and its number, in order, the first being number n
use Rattle.std.specs.Prelude.{ℕ, ◌+◌, Result, Ok, Err, List, [], ◌∷◌}

-- what is made of an item before what is made of the others; a fault of the item comes before a fault of theirs
abbrev pub put_first : {Y E : Type 0} → Result Y E → Result (List Y) E → Result (List Y) E
put_first (Ok y) (Ok ys) = Ok (y ∷ ys)
put_first (Ok y) (Err e) = Err e
put_first (Err e) others = Err e

-- what f makes of each item and its number, or the first fault
abbrev pub each_numbered : {X Y E : Type 0} → (ℕ → X → Result Y E) → ℕ → List X → Result (List Y) E
each_numbered f n [] = Ok []
each_numbered f n (x ∷ xs) = put_first (f n x) (each_numbered f (n + 1) xs)
