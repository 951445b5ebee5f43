use Rattle.std.proofs.Common.{◌≡◌, ◌<◌, ◌↔◌, ℕ, Option, length, subst, arith}
use Rattle.std.specs.Prelude.{IsTrue}
use Rattle.csn_look.specs.Reached.{InFollow}
use Rattle.csn_certify.proofs.Answered.{behind_none, behind_first}
use Rattle.csn_certify.proofs.pick.Asked.stands_behind.Goals as goal

pub returns-then-len-eq0 : goal.returns-then-len-eq0
returns-then-len-eq0 c =
    let count = c.len.ensures.count in
    let is = c.if-len-eq0.true in
    let empty : length c.args.self.now.held.now ≡ 0 = omega arith in
    behind_none c.args.self.now.desc.now c.args.self.now.held.now empty

pub returns-else-len-eq0 : goal.returns-else-len-eq0
returns-else-len-eq0 c =
    let d = c.args.self.now.desc.now in
    let octet = c.args.self.now.octet in
    let count = c.len.ensures.count in
    let is = c.if-len-eq0.false in
    let some : 0 < length c.args.self.now.held.now = omega arith in
    let P : Option ℕ → Type 0 = λ sign. IsTrue c.may_follow.result ↔ InFollow d c.args.node octet sign in
    behind_first d c.may_follow.result c.get.result c.args.self.now.held.now some c.get.ensures.value
    (subst P c.sign_of-first.ensures (c.may_follow.ensures d c.requires.ready.plan.follow))
