use Rattle.std.proofs.Common.{[]}
use Rattle.csn_certify.specs.Search.{IsFirstUnder, IsFirstOrNone}
use Rattle.csn_certify.proofs.Searching.{if_ok_more, first_of_all}
use Rattle.csn_certify.proofs.search.first_conflict.Goals as goal

pub returns : goal.returns
returns c =
    let d = c.args.desc.now in
    if_ok_more c.of_nodes.result (IsFirstUnder d []) (IsFirstOrNone d) (λ r h. first_of_all d r h) c.of_nodes.ensures
