use Rattle.std.proofs.Common.{arith}
use Rattle.csn_certify.proofs.pick_blocks.block_of.Goals as goal

pub overflow_mul-first : goal.overflow_mul-first
overflow_mul-first c = omega arith

pub end_of-end-requires : goal.end_of-end-requires
end_of-end-requires c = omega arith

pub overflow_sub-end : goal.overflow_sub-end
overflow_sub-end c = omega arith

pub slice_bounds-extend_from_slice-start : goal.slice_bounds-extend_from_slice-start
slice_bounds-extend_from_slice-start c = omega arith

pub slice_bounds-extend_from_slice-end : goal.slice_bounds-extend_from_slice-end
slice_bounds-extend_from_slice-end c = omega arith
