use Rattle.std.proofs.Common.{List, ℕ, drop, sym, subst}
use Rattle.csn_look.proofs.Sets.Telling.{last_none, last_all, last_more}
use Rattle.csn_good.specs.Patterns.{PartsPatterns}
use Rattle.csn_good.specs.Made.{AreMade}
use Rattle.csn_good.proofs.Making.{parts_begin, parts_on}
use Rattle.csn_good.proofs.made.made_of_parts.Goals as goal

pub loop-at-init : goal.loop-at-init
loop-at-init c =
    subst (λ (ps : List ℕ). AreMade c.in_ok-made.made.at.items (PartsPatterns c.args.c.now ps))
    (sym (last_none c.args.parts.now c.len-at.result c.len-at.ensures.len))
    (parts_begin c.args.c.now c.in_ok-made.made.at.items c.in_ok-made.ensures)

pub behind-requires-clause-made : goal.behind-requires-clause-made
behind-requires-clause-made c = c.loop-at.invariant.eight

pub loop-at-preserved : goal.loop-at-preserved
loop-at-preserved c =
    subst (λ (ps : List ℕ). AreMade c.in_ok-more.more.at.items (PartsPatterns c.args.c.now ps))
    (sym (last_more c.args.parts.now c.loop-at.at c.get.result c.loop-at-test.true c.get.ensures))
    (parts_on c.args.c.now (drop c.loop-at.at c.args.parts.now) c.get.result c.loop-at.made.at.items
    c.in_ok-more.more.at.items c.loop-at.invariant c.in_ok-more.ensures)

pub returns : goal.returns
returns c =
    subst (λ (ps : List ℕ). AreMade c.loop-at.made.at.items (PartsPatterns c.args.c.now ps))
    (last_all c.args.parts.now c.loop-at.at c.loop-at-test.false) c.loop-at.invariant
