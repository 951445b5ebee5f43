use Rattle.csn_certify.proofs.PickBlocks.{none_filled}
use Rattle.csn_certify.proofs.pick_table.first_of.Goals as goal

pub loop-place-init : goal.loop-place-init
loop-place-init c = none_filled c.args.entries.now
