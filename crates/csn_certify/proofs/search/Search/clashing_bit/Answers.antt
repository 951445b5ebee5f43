use Rattle.std.proofs.Common.{◌&&◌, refl}
use Rattle.csn_look.specs.declared.symbol_set.Sign.TheVariants.{Zero, One}
use Rattle.csn_certify.specs.Search.{IsClashing}
use Rattle.csn_certify.proofs.SearchFacts.{clashes, denied, clash_zero, clash_one, clash_none}
use Rattle.csn_certify.proofs.search.Search.clashing_bit.Goals as goal

pub returns-then-has : goal.returns-then-has
returns-then-has c =
    let d = c.args.self.now.desc.now in
    let follow = c.follow.ensures d c.requires.known.follow in
    let zero_test = clashes d c.args.node c.args.octet c.follow.result c.at-next.result c.requires.octet follow
    c.at-next.ensures c.args.part 0 Zero c.has.result c.has-2.result c.starts-starts.result.zero refl
    c.starts-starts.ensures.zero c.has.ensures c.has-2.ensures in
    clash_zero d c.args.part c.args.node c.args.octet (zero_test.0 c.if-has.true)

pub returns-then-has-2 : goal.returns-then-has-2
returns-then-has-2 c =
    let d = c.args.self.now.desc.now in
    let follow = c.follow.ensures d c.requires.known.follow in
    let zero_test = clashes d c.args.node c.args.octet c.follow.result c.at-next.result c.requires.octet follow
    c.at-next.ensures c.args.part 0 Zero c.has.result c.has-2.result c.starts-starts.result.zero refl
    c.starts-starts.ensures.zero c.has.ensures c.has-2.ensures in
    let one_test = clashes d c.args.node c.args.octet c.follow.result c.at-next.result c.requires.octet follow
    c.at-next.ensures c.args.part 1 One c.has-3.result c.has-4.result c.starts-starts.result.one refl
    c.starts-starts.ensures.one c.has-3.ensures c.has-4.ensures in
    clash_one d c.args.part c.args.node c.args.octet (denied (c.has.result && c.has-2.result)
    (IsClashing d c.args.part c.args.node c.args.octet 0) zero_test c.if-has.false) (one_test.0 c.if-has-2.true)

pub returns : goal.returns
returns c =
    let d = c.args.self.now.desc.now in
    let follow = c.follow.ensures d c.requires.known.follow in
    let zero_test = clashes d c.args.node c.args.octet c.follow.result c.at-next.result c.requires.octet follow
    c.at-next.ensures c.args.part 0 Zero c.has.result c.has-2.result c.starts-starts.result.zero refl
    c.starts-starts.ensures.zero c.has.ensures c.has-2.ensures in
    let one_test = clashes d c.args.node c.args.octet c.follow.result c.at-next.result c.requires.octet follow
    c.at-next.ensures c.args.part 1 One c.has-3.result c.has-4.result c.starts-starts.result.one refl
    c.starts-starts.ensures.one c.has-3.ensures c.has-4.ensures in
    clash_none d c.args.part c.args.node c.args.octet
    (denied (c.has.result && c.has-2.result) (IsClashing d c.args.part c.args.node c.args.octet 0) zero_test c.if-has.false)
    (denied (c.has-3.result && c.has-4.result) (IsClashing d c.args.part c.args.node c.args.octet 1) one_test c.if-has-2.false)
