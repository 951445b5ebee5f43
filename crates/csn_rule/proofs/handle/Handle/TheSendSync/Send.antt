-- A handle may cross threads: what it owns does not tell on which it was made.
use Rattle.std.specs.Prelude.{Option, None, Some}
use mir.Raw.{raw}
use base.Shift.{Keyless}
use denote.Memory.{lone}
use denote.RawPtr.{Ptr, block_ptr, null_ptr}
use denote.Param.Send.{IsSend, owning_send, struct_send, sendable}
use denote.Builtin.{RawPtr}
use denote.Struct.Struct.{exits_of}
use denote.Struct.Owning.{shape, fields, to}
use Rattle.std.proofs.Crossing.{frees}
use Rattle.std_alloc.proofs.SendSync.{quiet, lies}
use Rattle.csn_desc.specs.Nodes.{DescV}
use Rattle.csn_rule.specs.contracts.rule.Rule as kept
use Rattle.csn_rule.specs.Handles.{heap, handle_owns}
use Rattle.csn_rule.specs.contracts.handle.Handle.{the_row, the_type}
use Rattle.csn_rule.proofs.Sends.{rule_send}

keyless : (p : Ptr) (held : Option DescV) → Keyless (handle_owns p held)
keyless null_ptr None = tt
keyless null_ptr (Some d) = tt
keyless (block_ptr b o) None = tt
keyless (block_ptr b o) (Some d) = (lies kept.the_row rule_send (block_ptr b o) d, frees.frees heap (raw (lone (kept.the_row).mir)) (block_ptr b o))

pub send : IsSend the_row
send =
    let ps : IsSend RawPtr = search sendable in
    owning_send the_type (ps, tt) (λ d. keyless d.at d.held)
    (λ k. quiet (to the_type) (exits_of k (fields the_type)) ((struct_send (shape the_type) (ps, tt)).leaving k))
