use Rattle.std.proofs.Common.{arith}
use Rattle.csn_look.proofs.Tables.MarksCopied.{run_copied}
use Rattle.csn_look.proofs.marks.copy_run.Goals as goal

pub returns-clause-copied : goal.returns-clause-copied
returns-clause-copied c =
    let run = c.run_of-run in
    run_copied c.args.marks.now c.args.others.now c.args.to c.args.from run.result c.word.result c.word.ensures
    run.ensures.some run.ensures.to run.ensures.from
    (omega (arith, c.requires))
