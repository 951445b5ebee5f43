use Rattle.std.proofs.Common.{◌-◌, ◌*◌, ◌/◌, ◌^◌, ◌++◌, refl, ◌∙◌, ap, length}
use Rattle.csn_bits.specs.Numbers.{low_bits}
use Rattle.csn_encode.proofs.OctetRuns.{first_number}
use Rattle.csn_encode.proofs.draft.Draft.add_run.Goals as goal

pub returns-clause-bits : goal.returns-clause-bits
returns-clause-bits c =
    let unused = 8 * length c.args.octets.now - c.args.count in
    c.in_ok-add.ensures.ok
    ∙ ap (λ n. c.args.self.now.bits ++ low_bits c.args.count (n / 2 ^ unused)) c.octets_number.ensures.number
    ∙ ap (λ l. c.args.self.now.bits ++ l) (first_number c.args.octets.now c.args.count unused c.octets_number.ensures.bits c.requires.within refl)
