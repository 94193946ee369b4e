use Rattle.std.proofs.Common.{◌≡◌, ◌==◌, Some, sym, ap}
use Rattle.serde_json.specs.Find.{as_object}
use Rattle.serde_json.specs.View.{members_view, view}
use Rattle.serde_json.proofs.Views.{members_len-members_view}
use Rattle.plan_json.proofs.values.has_members.Goals as goal

pub returns-in-Some : goal.returns-in-Some
returns-in-Some c =
    let members = c.in-Some.members.now.entries in
    let found : Some (members_view members) ≡ as_object (view c.args.value.now) = c.in-Some.ensures in
    rw (sym found, members_len-members_view members) (ap (λ n. n == c.args.count) c.len.ensures.len)
