-- What is made of each item of a list, or nothing where one item gives nothing.
--
--   each_or_none f xs     what f makes of each item, in order
use Rattle.std.specs.Prelude.{Option, Some, option_map, option_and_then, List, [], ◌∷◌}

-- an item more, where there is one, before the others
abbrev pub put_before : {X : Type 0} → Option X → Option (List X) → Option (List X)
put_before first rest = option_and_then (λ x. option_map (λ xs. x ∷ xs) rest) first

-- what f makes of each item, if it makes something of each
abbrev pub each_or_none : {X Y : Type 0} → (X → Option Y) → List X → Option (List Y)
each_or_none f [] = Some []
each_or_none f (x ∷ xs) = put_before (f x) (each_or_none f xs)
