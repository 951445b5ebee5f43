use Rattle.csn_lines.proofs.jobs.answer_captures.Goals as goal

pub answer_lines-requires : goal.answer_lines-requires
answer_lines-requires g c = record { begin = c.requires.begin; ready = c.requires.ready; unfailed = c.requires.unfailed }

pub returns-clause-blames : goal.returns-clause-blames
returns-clause-blames g c = c.answer_lines.ensures.blames
