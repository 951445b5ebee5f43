use Rattle.std.proofs.Common.{◌-◌, ◌/◌, ◌^◌, eqb-true}
use Rattle.csn_certify.proofs.LayoutNumbers.{admitted}
use Rattle.csn_certify.proofs.layouts.Layout.admits.Goals as goal

pub returns : goal.returns
returns c = λ yes d i o v h.
    let layout = c.args.self.now in
    admitted d i o v layout c.args.number (eqb-true (c.args.number / 2 ^ (layout.width - layout.fixed)) layout.number yes) h
