-- Rows in another order: relations that are the same bags, one after another.
--
--   SameTable t u         one relation with its rows in another order
--   SameFiles fs gs       the same keys, each with one relation with its rows in another order
--   Alike R xs ys         item by item, alike
--   Matched R a b         nothing twice, or two that are alike
--   SameEnvironment e f   the same names and keys, each with one relation with its rows in another order
use Rattle.std.specs.Prelude.{◌≡◌, List, [], ◌∷◌, Option, Some, None}
use Rattle.rel_base.specs.Bags.{SameBag}
use Rattle.rel_base.specs.Keys.{File}
use Rattle.rel_base.specs.Relations.{RelationState}
use Rattle.rel_base.specs.declared.names.Key.{Key}
use Rattle.myrial_ast.specs.Trees.{Name}
use Rattle.myrial_meaning.specs.Meaning.{RelationEnvironment}

-- one relation with its rows in another order
pub record SameTable (t u : RelationState) : Type 0 where
  pub schema : t.schema ≡ u.schema
  pub rows : SameBag t.rows u.rows

-- the same keys in the same order, each with one relation with its rows in another order
pub data SameFiles : List File → List File → Type 0 where
  no_file : SameFiles [] []
  a_file : (key : Key) (t u : RelationState) (files rest : List File) → SameTable t u
      → SameFiles files rest → SameFiles ((key, t) ∷ files) ((key, u) ∷ rest)

-- item by item, alike
pub data Alike {X : Type 0} (R : X → X → Type 0) : List X → List X → Type 0 where
  no_more : Alike R [] []
  one_more : (x y : X) (xs ys : List X) → R x y → Alike R xs ys → Alike R (x ∷ xs) (y ∷ ys)

-- nothing twice, or two that are alike
pub data Matched {X : Type 0} (R : X → X → Type 0) : Option X → Option X → Type 0 where
  neither : Matched R None None
  both : (x y : X) → R x y → Matched R (Some x) (Some y)

-- one name or key, with one relation in another order
pub record SameEntry {K : Type 0} (p q : K × RelationState) : Type 0 where
  pub name : p.0 ≡ q.0
  pub table : SameTable p.1 q.1

-- the same names and keys, each with one relation in another order
pub record SameEnvironment (there here : RelationEnvironment) : Type 0 where
  pub assigned : Alike (SameEntry {K = Name}) there.assigned here.assigned
  pub stored : Alike (SameEntry {K = Key}) there.stored here.stored
