use Rattle.csn_rule.proofs.rule.Rule.compile.Goals as goal

pub returns-in-Err-clause-none : goal.returns-in-Err-clause-none
returns-in-Err-clause-none c = c.of.ensures c.args.text.now c.args.name.now c.args.reading c.in-Err.ensures.none
