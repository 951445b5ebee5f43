use Rattle.std.proofs.Common.{[]}
use Rattle.csn_encode.proofs.Blocks.{root_stands, root_adds, taken_block, untaken, stopped}
use Rattle.csn_encode.proofs.encoding.encode.Goals as goal

pub write-requires : goal.write-requires
write-requires g c = (
  [],
  root_stands c.args.plan.now c.new-draft.result c.len-count.ensures.description c.len-count.ensures.certified
      c.new-draft.ensures.bits c.new-draft.ensures.path c.new-draft.ensures.numbers,
)

pub returns-in-Ok-clause-bits : goal.returns-in-Ok-clause-bits
returns-in-Ok-clause-bits g c =
    taken_block c.args.plan.now c.args.tree.now c.write.new.self c.taken.result c.ok_or.result c.ok_or.ensures.value c.taken.ensures
    (root_adds c.args.plan.now c.args.tree.now c.new-draft.result c.write.new.self c.new-draft.ensures.bits
    (c.in-Ok.ensures.added [] (root_stands c.args.plan.now c.new-draft.result c.len-count.ensures.description
    c.len-count.ensures.certified c.new-draft.ensures.bits c.new-draft.ensures.path c.new-draft.ensures.numbers)))

pub returns-in-Ok-clause-misfit : goal.returns-in-Ok-clause-misfit
returns-in-Ok-clause-misfit g c = untaken c.args.plan.now c.args.tree.now c.taken.result c.ok_or.result c.ok_or.ensures.value

pub returns-in-Err-clause-misfit : goal.returns-in-Err-clause-misfit
returns-in-Err-clause-misfit g c =
    stopped c.args.plan.now c.args.tree.now c.new-draft.result c.write.new.self c.in-Err.stop c.fault_of.result
    c.new-draft.ensures.bits c.new-draft.ensures.path
    (root_stands c.args.plan.now c.new-draft.result c.len-count.ensures.description c.len-count.ensures.certified
    c.new-draft.ensures.bits c.new-draft.ensures.path c.new-draft.ensures.numbers)
    c.in-Err.ensures.missed c.fault_of.ensures.misfit c.fault_of.ensures.memory
