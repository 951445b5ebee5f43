use Rattle.std.proofs.Common.{[], ◌∷◌, ◌++◌, ◌∙◌, append_assoc, refl}
use Rattle.std.proofs.lemmas.Result.{IfOk-weaker}
use Rattle.csn_reasons.specs.Facts.{lists_nodes, lists_reason, node_lines}
use Rattle.csn_reasons.proofs.Answered.{told}
use Rattle.csn_reasons.proofs.listing.list_nodes.Goals as goal

pub returns-in-Ok : goal.returns-in-Ok
returns-in-Ok c = record {
  lines = IfOk-weaker c.list.result _ _
      (λ ended h. (
        node_lines h.1 0 h.2,
        h.5,
        lists_nodes h.1 c.in-Ok.found.desc c.in-Ok.found.origins.items h.2 c.in-Ok.ensures.nodes h.3 h.4 refl h.0,
      )) c.list.ensures;
}

pub returns-in-Err : goal.returns-in-Err
returns-in-Err c = record {
  lines = IfOk-weaker c.tell_reason.result _ _
      (λ ended h. (
        h.0 ++ 10 ∷ [],
        h.1 ∙ append_assoc c.args.out.now.items h.0 (10 ∷ []),
        lists_reason h.0 (told c.args.asked.text.now c.args.asked.name.now c.args.asked.reading c.in-Err.reason h.0 ended c.in-Err.ensures.none h.2) refl,
      )) c.tell_reason.ensures;
}
