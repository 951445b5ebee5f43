use Rattle.csn_certify.proofs.Answered.{takes_none, none_there, untaken}
use Rattle.csn_certify.proofs.pick.Asked.without_key.Goals as goal

pub returns-then-stands_behind : goal.returns-then-stands_behind
returns-then-stands_behind c =
    λ parts at h. takes_none c.args.self.now.desc.now at h c.in-Some.i c.in-Some.is (c.stands_behind.ensures.0 c.if-stands_behind.true)

pub returns-else-stands_behind : goal.returns-else-stands_behind
returns-else-stands_behind c =
    let absent = c.if-stands_behind.false in
    λ parts at h. untaken c.args.self.now.desc.now at h c.untaken.result c.untaken.ensures (λ i takes. let behind =
    c.stands_behind.ensures.1 takes.behind in cc)

pub returns-in-None : goal.returns-in-None
returns-in-None c =
    let d = c.args.self.now.desc.now in
    λ parts at h. untaken d at h c.untaken-in-None.result c.untaken-in-None.ensures (none_there d at h c.in-None.is)
