-- The places that a stretch has in its block.
use Rattle.std.specs.Prelude.{ℕ, List}
use Rattle.rel_base.specs.inner.Strides.{stepped}
use Rattle.rel_base.specs.declared.stretches.Selection.{Selection}
use Rattle.rel_base.specs.declared.stretches.Selection.TheVariants.{Every, At}

-- the places, in order
abbrev pub places_of : Selection → List ℕ
places_of (Every start step len) = stepped start step len
places_of (At places) = places.items
