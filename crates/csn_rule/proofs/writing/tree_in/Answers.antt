use Rattle.std.proofs.Common.{subst, sym}
use Rattle.std.specs.Prelude.{IfOk, IfErr}
use Rattle.csn_desc.specs.Nodes.{DescV}
use Rattle.csn_rule.specs.Refusals.{IsNoBlock, IsRead}
use Rattle.csn_rule.proofs.writing.tree_in.Goals as goal

pub returns-in-Text-clause-tree : goal.returns-in-Text-clause-tree
returns-in-Text-clause-tree c =
    subst (λ form. IfOk c.tree_of_text.result (λ tree. IsRead form tree c.args.bytes.now)) (sym c.in-Text.is)
    c.tree_of_text.ensures.tree

pub returns-in-Text-clause-none : goal.returns-in-Text-clause-none
returns-in-Text-clause-none c =
    subst (λ form. IfErr c.tree_of_text.result (λ why. (d : DescV) → IsNoBlock form d c.args.bytes.now why))
    (sym c.in-Text.is) c.tree_of_text.ensures.none

pub returns-in-Json-clause-none : goal.returns-in-Json-clause-none
returns-in-Json-clause-none c =
    subst (λ form. IfErr c.tree_of_json.result (λ why. (d : DescV) → IsNoBlock form d c.args.bytes.now why))
    (sym c.in-Json.is) c.tree_of_json.ensures.none
