use Rattle.csn_run.proofs.top.answer_by_plan.Goals as goal

pub answer_lines-requires-clause-ready : goal.answer_lines-requires-clause-ready
answer_lines-requires-clause-ready g c = c.requires.ready

pub answer_lines-requires-in-Write-clause-ready : goal.answer_lines-requires-in-Write-clause-ready
answer_lines-requires-in-Write-clause-ready g c = c.requires.ready

pub returns-in-Show-clause-blames : goal.returns-in-Show-clause-blames
returns-in-Show-clause-blames g c = c.answer_lines.ensures.blames

pub returns-in-Write-clause-blames : goal.returns-in-Write-clause-blames
returns-in-Write-clause-blames g c = c.answer_lines-in-Write.ensures.blames
