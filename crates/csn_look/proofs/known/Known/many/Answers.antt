use Rattle.std.proofs.Common.{refl}
use Rattle.csn_look.proofs.Sets.RepetitionsTell.{many_sets}
use Rattle.csn_look.proofs.known.Known.many.Goals as goal

pub returns : goal.returns
returns c = many_sets c.args.self.now.desc.now c.args.part c.of-once.result _ c.of-once.ensures refl refl refl c.repeated.ensures refl refl
