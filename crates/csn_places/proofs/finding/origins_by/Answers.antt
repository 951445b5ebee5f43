use Rattle.std.proofs.Common.{◌≡◌, Some, ◌∙◌}
use Rattle.csn_grammar.specs.Names.{rule_of}
use Rattle.csn_resolve.proofs.Basics.Options.{no_none}
use Rattle.csn_places.proofs.Found.{are_origins}
use Rattle.csn_places.proofs.finding.origins_by.Goals as goal

pub unreachable-requires : goal.unreachable-requires
unreachable-requires c = no_none c.requires.resolved.given.found c.in_default.ensures.rule

pub returns : goal.returns
returns c =
    let found : rule_of c.args.names.now c.args.name.now ≡ Some c.rule-rule.result.now = c.in-Some.ensures.rule ∙ c.rule-rule.ensures in
    are_origins c.args.names.now c.args.name.now c.args.desc.now c.rule-rule.result.now
    c.reading-reading.result _ c.new-found.result.items c.walk_rule.new.out.items c.walks_end.ensures.empty found
    c.reading-reading.ensures c.new-round.ensures c.new-found.ensures.items c.in_ok-walk_rule.ensures
