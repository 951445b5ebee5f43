use Rattle.csn_look.proofs.Sets.LookFacts.{known_sets, ends_are}
use Rattle.csn_look.proofs.look.Look.ends.Goals as goal

pub returns : goal.returns
returns c = λ d look. ends_are d c.args.node c.args.octet c.of.result c.turned.result
    (known_sets d c.args.self.now.sets c.args.node c.of.result look c.of.ensures) c.requires.octet c.turned.ensures
