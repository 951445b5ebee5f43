use Rattle.csn_movetext.proofs.Gathering.{shifted}
use Rattle.csn_movetext.proofs.writing.Writing.add.Goals as goal

pub returns-clause-bits : goal.returns-clause-bits
returns-clause-bits c = λ small. shifted c.args.self.now.bits c.args.self.now.held c.args.count c.args.value small c.requires.room c.requires.value
