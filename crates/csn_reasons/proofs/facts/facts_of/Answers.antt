use Rattle.std.proofs.lemmas.Result.{IfOk-weaker}
use Rattle.csn_reasons.specs.Facts.{of_nodes}
use Rattle.csn_reasons.proofs.facts.facts_of.Goals as goal

pub returns-in-Ok : goal.returns-in-Ok
returns-in-Ok c = record {
  facts = IfOk-weaker c.all_facts.result _ _
      (λ facts are. of_nodes c.in-Ok.found.desc c.in-Ok.found.origins.items c.in-Ok.ensures.nodes are.0 are.1) c.all_facts.ensures;
}
