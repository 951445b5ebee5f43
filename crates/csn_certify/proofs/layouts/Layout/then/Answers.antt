use Rattle.csn_certify.proofs.LayoutNumbers.{same_short, same_joined, any_joined}
use Rattle.csn_certify.proofs.layouts.Layout.then.Goals as goal

pub returns-then-self-clause-short : goal.returns-then-self-clause-short
returns-then-self-clause-short c = same_short c.args.self c.args.behind c.requires.first c.requires.behind c.if-width-gt-MOST_WIDTH.false

pub returns-then-self-clause-joined : goal.returns-then-self-clause-joined
returns-then-self-clause-joined c = same_joined c.args.self c.args.behind c.requires.first c.requires.behind c.if-width-gt-MOST_WIDTH.false c.if-self.true

pub returns-clause-joined : goal.returns-clause-joined
returns-clause-joined c = any_joined c.args.self c.args.behind c.requires.first c.requires.behind c.if-width-gt-MOST_WIDTH.false c.if-behind-gt0.false
