use Rattle.std.proofs.Common.{◌≡◌, Some, None, subst}
use Rattle.csn_rule.specs.Blocks.{block_in}
use Rattle.csn_rule.specs.Streams.{StreamV}
use Rattle.csn_c.specs.Streams.{Pushes}
use Rattle.csn_c.specs.declared.status.TheConstants.{NO_RULE}
use Rattle.csn_c.proofs.Options.{match_some}
use Rattle.csn_c.proofs.stream.csn_stream_push.Goals as goal

pub returns-clause-pushes : goal.returns-clause-pushes
returns-clause-pushes c block =
    let piece = block_in c.args.octets.now c.args.bits in
    let told = c.push_piece-status in
    let Tells : StreamV → Type 0 = λ s. Pushes s piece c.args.bits told.result c.args.number.now told.new.number c.put.new.self.held in
    match_some c.args.stream.now.held c.in-Some.held.value ((told.result ≡ NO_RULE) × (c.put.new.self.held ≡ None)) Tells c.in-Some.ensures.taken
    (subst Tells c.deref_mut.ensures.value (told.new.stream, cc, told.ensures))
