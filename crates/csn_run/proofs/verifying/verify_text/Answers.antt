use Rattle.csn_run.proofs.VerifyLemmas.{line_told}
use Rattle.csn_run.proofs.verifying.verify_text.Goals as goal

pub returns-clause-ok : goal.returns-clause-ok
returns-clause-ok c =
    line_told _ _ c.args.desc.now c.args.text.now c.in-Ok.checked c.push_checked-line.new.out.items c.in-Ok.ensures
    c.push_checked-line.result c.requires.pending c.push_checked-line.ensures.ok c.end_line.result
    c.end_line.ensures.ok
