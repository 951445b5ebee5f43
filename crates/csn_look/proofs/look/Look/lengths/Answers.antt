use Rattle.csn_look.proofs.Sets.LookFacts.{known_sets}
use Rattle.csn_look.proofs.look.Look.lengths.Goals as goal

pub returns : goal.returns
returns c = λ d look. (known_sets d c.args.self.now.sets c.args.node c.of.result look c.of.ensures).lengths
