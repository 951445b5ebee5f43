use Rattle.csn_certify.proofs.plan.Plan.new.Goals as goal

pub returns-clause-one_tree : goal.returns-clause-one_tree
returns-clause-one_tree c = λ b t u left right.
    c.blocks_have_one_tree.ensures c.args.desc 12 b t u c.len-count.ensures.description c.requires.certified left right
