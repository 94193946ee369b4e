-- Worked texts of plans, proved by computing.
use Rattle.std.proofs.Common.{◌≡◌, ℕ, [], ◌∷◌, ◌++◌, codes, Some, None, refl}
use Rattle.std.specs.Fmt.{digits}
use Rattle.std.specs.Str.{chars, is_utf8}
use Rattle.json.specs.Print.{escape_byte}
use Rattle.serde_json.proofs.OnLiterals.{serde_json_on_literals}
use Rattle.placement.specs.Layouts.{Shuffle, ByCells, ByKeys, Broadcast}
use Rattle.fragmenter.specs.Plans.{PlanTree}
use Rattle.plan_json.specs.PlanTexts.{plan_of_text, written}

-- a plan for 8 workers, of the join of statement 1
abbrev one_join : Shuffle → PlanTree
one_join shuffle = record { workers = 8; choices = record { statement = 1; shuffle = shuffle } ∷ [] }

-- a plan without a join
abbrev no_join : ℕ → PlanTree
no_join workers = record { workers = workers; choices = [] }

-- ---- written

pub by_cells : written (one_join (ByCells (2 ∷ 2 ∷ 2 ∷ []))) ≡ codes "{\"steps\":[{\"shares\":[2,2,2],\"shuffle\":\"hc\",\"statement\":1}],\"workers\":8}\n"
unfolding digits escape_byte
by_cells = refl

pub by_keys : written (one_join ByKeys) ≡ codes "{\"steps\":[{\"shuffle\":\"rs\",\"statement\":1}],\"workers\":8}\n"
unfolding digits escape_byte
by_keys = refl

pub by_broadcast : written (one_join Broadcast) ≡ codes "{\"steps\":[{\"shuffle\":\"br\",\"statement\":1}],\"workers\":8}\n"
unfolding digits escape_byte
by_broadcast = refl

pub without_variables : written (one_join (ByCells [])) ≡ codes "{\"steps\":[{\"shares\":[],\"shuffle\":\"hc\",\"statement\":1}],\"workers\":8}\n"
unfolding digits escape_byte
without_variables = refl

pub without_joins : written (no_join 4) ≡ codes "{\"steps\":[],\"workers\":4}\n"
unfolding digits escape_byte
without_joins = refl

-- ---- read

pub members_swapped : plan_of_text (codes "{\"workers\":8,\"steps\":[{\"statement\":1,\"shuffle\":\"hc\",\"shares\":[8,1,1]}]}") ≡ Some (one_join (ByCells (8 ∷ 1 ∷ 1 ∷ [])))
unfolding serde_json_on_literals chars is_utf8
members_swapped = refl

pub word_for_keys : plan_of_text (codes "{\"workers\":8,\"steps\":[{\"statement\":1,\"shuffle\":\"rs\"}]}") ≡ Some (one_join ByKeys)
unfolding serde_json_on_literals chars is_utf8
word_for_keys = refl

-- white space stands around tokens
pub spaced : plan_of_text (codes " {\"workers\" : 8 ,\t\"steps\":[\r\n]} \n") ≡ Some (no_join 8)
unfolding serde_json_on_literals chars is_utf8
spaced = refl

-- of a member that stands twice the last counts
pub member_twice : plan_of_text (codes "{\"workers\":9,\"workers\":8,\"steps\":[]}") ≡ Some (no_join 8)
unfolding serde_json_on_literals chars is_utf8
member_twice = refl

pub other_kind_first : plan_of_text (codes "{\"workers\":[8.5,\"w\"],\"workers\":8,\"steps\":[]}") ≡ Some (no_join 8)
unfolding serde_json_on_literals chars is_utf8
other_kind_first = refl

-- names are compared by what they say, and so are words
pub escaped : plan_of_text (codes "{\"work\\u0065rs\":8,\"steps\":[{\"statement\":1,\"shuffle\":\"\\u0062r\"}]}") ≡ Some (one_join Broadcast)
unfolding serde_json_on_literals chars is_utf8
escaped = refl

-- ---- refused

pub list : plan_of_text (codes "[]") ≡ None
unfolding serde_json_on_literals chars is_utf8
list = refl

pub no_steps : plan_of_text (codes "{\"workers\":8}") ≡ None
unfolding serde_json_on_literals chars is_utf8
no_steps = refl

pub third_member : plan_of_text (codes "{\"workers\":8,\"steps\":[],\"x\":1}") ≡ None
unfolding serde_json_on_literals chars is_utf8
third_member = refl

-- a whole number is digits alone
pub point : plan_of_text (codes "{\"workers\":8.0,\"steps\":[]}") ≡ None
unfolding serde_json_on_literals chars is_utf8
point = refl

pub exponent : plan_of_text (codes "{\"workers\":8e0,\"steps\":[]}") ≡ None
unfolding serde_json_on_literals chars is_utf8
exponent = refl

pub minus : plan_of_text (codes "{\"workers\":-0,\"steps\":[]}") ≡ None
unfolding serde_json_on_literals chars is_utf8
minus = refl

pub leading_nought : plan_of_text (codes "{\"workers\":08,\"steps\":[]}") ≡ None
unfolding serde_json_on_literals chars is_utf8
leading_nought = refl

pub text_in_place : plan_of_text (codes "{\"workers\":\"8\",\"steps\":[]}") ≡ None
unfolding serde_json_on_literals chars is_utf8
text_in_place = refl

-- within the limits
pub no_worker : plan_of_text (codes "{\"workers\":0,\"steps\":[]}") ≡ None
unfolding serde_json_on_literals chars is_utf8
no_worker = refl

pub many_workers : plan_of_text (codes "{\"workers\":65,\"steps\":[]}") ≡ None
unfolding serde_json_on_literals chars is_utf8
many_workers = refl

pub statement_past : plan_of_text (codes "{\"workers\":8,\"steps\":[{\"statement\":257,\"shuffle\":\"rs\"}]}") ≡ None
unfolding serde_json_on_literals chars is_utf8
statement_past = refl

pub share_of_nought : plan_of_text (codes "{\"workers\":8,\"steps\":[{\"statement\":1,\"shuffle\":\"hc\",\"shares\":[8,0]}]}") ≡ None
unfolding serde_json_on_literals chars is_utf8
share_of_nought = refl

pub nine_shares : plan_of_text (codes "{\"workers\":8,\"steps\":[{\"statement\":1,\"shuffle\":\"hc\",\"shares\":[1,1,1,1,1,1,1,1,1]}]}") ≡ None
unfolding serde_json_on_literals chars is_utf8
nine_shares = refl

-- words are told apart by case, and only a join by cells has shares
pub capitals : plan_of_text (codes "{\"workers\":8,\"steps\":[{\"statement\":1,\"shuffle\":\"HC\",\"shares\":[8]}]}") ≡ None
unfolding serde_json_on_literals chars is_utf8
capitals = refl

pub keys_with_shares : plan_of_text (codes "{\"workers\":8,\"steps\":[{\"statement\":1,\"shuffle\":\"rs\",\"shares\":[]}]}") ≡ None
unfolding serde_json_on_literals chars is_utf8
keys_with_shares = refl

pub cells_without_shares : plan_of_text (codes "{\"workers\":8,\"steps\":[{\"statement\":1,\"shuffle\":\"hc\"}]}") ≡ None
unfolding serde_json_on_literals chars is_utf8
cells_without_shares = refl

-- no byte order mark, no second value, and UTF-8
pub order_mark : plan_of_text (239 ∷ 187 ∷ 191 ∷ codes "{\"workers\":8,\"steps\":[]}") ≡ None
unfolding serde_json_on_literals chars is_utf8
order_mark = refl

pub second_value : plan_of_text (codes "{\"workers\":8,\"steps\":[]}{}") ≡ None
unfolding serde_json_on_literals chars is_utf8
second_value = refl

pub no_utf8 : plan_of_text (codes "{\"workers\":8,\"steps\":[]}" ++ 255 ∷ []) ≡ None
unfolding serde_json_on_literals chars is_utf8
no_utf8 = refl

pub nothing : plan_of_text [] ≡ None
unfolding serde_json_on_literals chars is_utf8
nothing = refl
