use Rattle.std.proofs.Common.{refl}
use Rattle.csn_look.proofs.Sets.Telling.{same_fact, together}
use Rattle.csn_look.proofs.Sets.UnitsTell.{window_sets}
use Rattle.csn_look.proofs.known.Known.window.Goals as goal

pub returns : goal.returns
returns c =
    window_sets c.args.self.now.desc.now c.args.unit c.args.count c.args.part c.of-inside.result _ c.of-inside.ensures
    (together same_fact c.may_be_none.ensures) refl refl c.counted.ensures refl refl
