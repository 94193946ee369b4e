-- The term of a comprehension and its first kind, by what was found on the way.
use Rattle.std.proofs.Common.{◌≡◌, ◌∙◌, ◌==◌, ℕ, Bool, true, false, cond, ◌||◌, List, length, Option, Some, None, sym, ap, subst}
use Rattle.std.specs.Prelude.{nat_lt, option_map}
use Rattle.std.specs.Option.{option_or}
use Rattle.rel_base.specs.Limits.{most_columns}
use Rattle.myrial_ast.specs.Trees.{Tree, EmitTree}
use Rattle.myrial_scopes.specs.Scopes.{scope_of}
use Rattle.myrial_scopes.specs.Emits.{Resolved, resolved}
use Rattle.myrial_types.specs.declared.faults.TypeFault.{TypeFault}
use Rattle.myrial_types.specs.declared.faults.TypeKind.{TypeKind}
use Rattle.myrial_types.specs.declared.faults.TypeKind.TheVariants as fault
use Rattle.myrial_types.specs.Resolving.{MeantItem, Typed, comprehension_term, join_term, kinds_of_items, schemas_of, sources_of}
use Rattle.myrial_types.specs.Kinds.{comprehension_kind, is_past_limit, is_term_past_limit, limit_kind}
use Rattle.myrial_types.specs.inner.Terms.{items_kind}
use Rattle.myrial_types.specs.inner.Progress.{IsKind}

-- a fault of the kind that a comprehension has
pub kind-is : (number : ℕ) (f : TypeFault) (kind given : Option TypeKind) → given ≡ kind → IsKind number f kind → IsKind number f given
kind-is number f kind given e h = subst (IsKind number f) (sym e) h

-- whether a term and its columns are past a limit: by the columns, and else by the term
pub past-columns : (t : Typed) → (nat_lt most_columns (length t.schema) || length t.schema == 0) ≡ true → is_past_limit t ≡ true
past-columns t e = ap (λ b. b || is_term_past_limit t.term) e

pub past-term : (t : Typed) (b : Bool) → (nat_lt most_columns (length t.schema) || length t.schema == 0) ≡ false → is_term_past_limit t.term ≡ b → is_past_limit t ≡ b
past-term t b e f = ap (λ x. x || is_term_past_limit t.term) e ∙ f

module _ (items : List MeantItem) (condition : Option Tree) (emits : List EmitTree) where
  -- the term of a resolved comprehension over these items
  abbrev pub typed_of : Resolved → Typed
  typed_of r = record { term = join_term (kinds_of_items items) (sources_of items) r.comprehension; schema = r.schema }

  pub term-resolved : (o : Option Resolved) → o ≡ resolved (scope_of (schemas_of items)) condition emits → comprehension_term items condition emits ≡ option_map typed_of o
  term-resolved o e = ap (option_map typed_of) (sym e)

  pub kind-earlier : (k : TypeKind) → Some k ≡ comprehension_kind (schemas_of items) condition emits → items_kind items condition emits ≡ Some k
  kind-earlier k e = ap (λ o. option_or o (limit_kind (comprehension_term items condition emits))) (sym e)

  pub kind-none : None ≡ comprehension_kind (schemas_of items) condition emits → comprehension_term items condition emits ≡ None → items_kind items condition emits ≡ None
  kind-none e f = (λ i. option_or (sym e i) (limit_kind (f i)))

  pub kind-limit : (t : Typed) (b : Bool) → None ≡ comprehension_kind (schemas_of items) condition emits → comprehension_term items condition emits ≡ Some t → is_past_limit t ≡ b
      → items_kind items condition emits ≡ cond b (Some fault.Limit) None
  kind-limit t b e f g = (λ i. option_or (sym e i) (limit_kind (f i))) ∙ ap (λ b. cond b (Some fault.Limit) None) g
