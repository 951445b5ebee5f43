-- What a handle owns: nothing, or a boxed stream with the right to free its memory.
use Rattle.std.specs.Prelude.{Option, None, Some}
use base.Fml.{Fml, ftrue, ffalse}
use denote.RawPtr.{Ptr, block_ptr, null_ptr}
use Rattle.std.specs.Box.Ownership.{box_owns}
use Rattle.std.specs.contracts.impls.GlobalAllocator.TheImpl.{ghosts}
use Rattle.csn_rule.specs.Handles.{heap}
use Rattle.csn_rule.specs.Streams.{StreamV}
use Rattle.csn_rule.specs.contracts.stream.Stream.{the_row}

-- a null pointer owns nothing, and any other what a box of this stream owns
abbrev pub stream_owns : Ptr → Option StreamV → Fml
stream_owns null_ptr None = ftrue
stream_owns null_ptr (Some d) = ffalse
stream_owns (block_ptr b o) None = ffalse
stream_owns (block_ptr b o) (Some d) = box_owns (ghosts.dealloc_token heap) the_row (block_ptr b o) d
