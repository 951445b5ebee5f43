use Rattle.csn_look.proofs.Sets.LookFacts.{known_sets, firm_is}
use Rattle.csn_look.proofs.look.Look.firm.Goals as goal

pub returns : goal.returns
returns c = λ d look. firm_is d c.args.node c.of-sets.result (known_sets d c.args.self.now.sets c.args.node c.of-sets.result look c.of-sets.ensures)
