use Rattle.csn_certify.proofs.SearchFacts.{followed_by}
use Rattle.csn_certify.proofs.search.Search.is_followed.Goals as goal

pub returns : goal.returns
returns c =
    let d = c.args.self.now.desc.now in
    followed_by d c.args.node c.args.octet c.follow.result c.at-next.result c.requires.octet
    (c.follow.ensures d c.requires.known.follow) c.at-next.ensures c.has.result c.has-2.result c.has.ensures
    c.has-2.ensures
