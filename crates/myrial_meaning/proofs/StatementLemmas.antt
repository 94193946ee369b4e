-- What statements leave, where relations have their rows in another order.
use Rattle.std.proofs.Common.{◌≡◌, ℕ, ◌+◌, ◌<◌, ◌≤◌, true, false, Option, Some, None, List, [], ◌++◌, length, refl, sym, subst, arith, length-append}
use Rattle.std.proofs.lemmas.Bool.Decides.{nat_tests}
use Rattle.std.specs.Option.{option_map_or}
use Rattle.std.proofs.lemmas.List.Sorted.{IsPermutation-refl}
use Rattle.rel_base.specs.Bags.{SameBag}
use Rattle.rel_base.specs.Relations.{RelationState}
use Rattle.rel_base.specs.declared.relations.Column.{Column}
use Rattle.rel_base.specs.Limits.{most_rows}
use Rattle.myrial_ast.specs.Trees.{Name}
use Rattle.myrial_ast.specs.Bags.{union_all}
use Rattle.myrial_ast.specs.CandidateFaults.{too_many}
use Rattle.myrial_ast.specs.Combinations.{Rows}
use Rattle.myrial_meaning.specs.Environments.{with_name}
use Rattle.myrial_meaning.specs.Meaning.{RelationEnvironment}
use Rattle.myrial_meaning.specs.Permuted.{SameTable, Matched, neither, both, SameEnvironment, one_more}
use Rattle.myrial_meaning.proofs.MeaningPermutations.{Matched-map_or}
use Rattle.myrial_meaning.proofs.FaultPermutations.{SameEnvironment-itself, SameTable-itself, entries-itself}

-- a name that stands for a relation, or for the same in another order
pub assigned-same : (env : RelationEnvironment) (name : Name) (a b : Option RelationState) → Matched SameTable a b
    → SameEnvironment (option_map_or (with_name env name) a env) (option_map_or (with_name env name) b env)
assigned-same env name a b m =
    Matched-map_or SameTable SameEnvironment (with_name env name) (with_name env name) env env
    (λ t u tables. record {
      assigned = one_more (name, t) (name, u) env.assigned env.assigned (record { name = refl; table = tables }) (entries-itself env.assigned);
      stored = entries-itself env.stored;
    })
    (SameEnvironment-itself env) m

pub matched-itself : (a : Option RelationState) → Matched SameTable a a
matched-itself None = neither
matched-itself (Some t) = both t t (SameTable-itself t)

-- a relation that was made, with its rows in another order
pub made-matched : (schema : List Column) (rows : Rows) (made : RelationState) → made.schema ≡ schema → SameBag rows made.rows
    → Matched SameTable (Some (record { schema = schema; rows = rows })) (Some made)
made-matched schema rows made e same = both _ made (record { schema = sym e; rows = same })

pub empty-matched : (schema : List Column) (made : RelationState) → made.schema ≡ schema → made.rows ≡ []
    → Matched SameTable (Some (record { schema = schema; rows = [] })) (Some made)
empty-matched schema made e none = made-matched schema [] made e (subst (λ (rows : Rows). SameBag [] rows) (sym none) (IsPermutation-refl []))

-- the rows of both, where they are too many, and where they are not
pub union-many : (number : ℕ) (a b : Rows) → most_rows < length a + length b → too_many (union_all a b) ≡ true
union-many number a b many = let long = length-append a b in let h : most_rows < length (a ++ b) = omega (arith, long) in grind (arith, nat_tests)

pub union-few : (number : ℕ) (a b : Rows) → length a + length b ≤ most_rows → too_many (union_all a b) ≡ false
union-few number a b few = let long = length-append a b in let h : length (a ++ b) ≤ most_rows = omega (arith, long) in grind (arith, nat_tests)
