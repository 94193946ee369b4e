use Rattle.std.proofs.Common.{◌≡◌, false, is_some, take, refl, arith, rules}
use Rattle.relation_csv.proofs.NearLemmas.{near_end-bound, near_end-plain}
use Rattle.relation_csv.proofs.plain.near_end.Goals as goal

pub returns-clause-bound : goal.returns-clause-bound
returns-clause-bound c =
    let bytes = c.args.bytes.now in
    near_end-bound bytes (take 32 bytes) 32 c.memchr2-2.result refl (omega arith) c.memchr2-2.ensures

pub returns-clause-plain : goal.returns-clause-plain
returns-clause-plain c =
    let bytes = c.args.bytes.now in
    let none : is_some c.memchr2.result ≡ false = search rules in
    near_end-plain bytes (take 32 bytes) 32 c.memchr2.result c.memchr2-2.result refl (omega arith) c.memchr2.ensures none
    c.memchr2-2.ensures
