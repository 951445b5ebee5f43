use Rattle.std.proofs.Common.{◌∙◌, ap, arith}
use Rattle.csn_bits.specs.Numbers.{low_bits}
use Rattle.csn_fields.specs.Places.{PlacesV, took_bits}
use Rattle.csn_fields.proofs.PlaceFacts.{took_number}
use Rattle.csn_fields.proofs.places.Places.take.Goals as goal

pub returns : goal.returns
returns c =
    took_number _ _ c.args.count c.args.number c.self.inside.place c.self.inside.number
    (omega (arith, c.if-count-eq0.false)) (omega (arith, c.requires))
    ∙ ap (λ (s : PlacesV). took_bits (low_bits c.args.count c.args.number) s) c.self.view_is
