-- What a handle owns: nothing, or a boxed rule with the right to free its memory.
use Rattle.std.specs.Prelude.{Option, None, Some}
use base.Fml.{Fml, ftrue, ffalse}
use denote.RawPtr.{Ptr, block_ptr, null_ptr}
use Rattle.std.specs.Box.Ownership.{box_owns}
use Rattle.std.specs.declared.alloc.Global.{Global}
use Rattle.std.specs.contracts.impls.GlobalAllocator.TheImpl.{ghosts}
use Rattle.csn_desc.specs.Nodes.{DescV}
use Rattle.csn_rule.specs.contracts.rule.Rule.{the_row}

-- the allocator: it has no bytes, so there is one
abbrev pub heap : Global
heap = record { memory = record { seal = tt } }

-- a null pointer owns nothing, and any other what a box of a rule of this description owns
abbrev pub handle_owns : Ptr → Option DescV → Fml
handle_owns null_ptr None = ftrue
handle_owns null_ptr (Some d) = ffalse
handle_owns (block_ptr b o) None = ffalse
handle_owns (block_ptr b o) (Some d) = box_owns (ghosts.dealloc_token heap) the_row (block_ptr b o) d
