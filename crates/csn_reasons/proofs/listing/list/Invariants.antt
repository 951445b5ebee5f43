use Rattle.std.proofs.Common.{◌≡◌, List, None, ◌++◌, length, get_or}
use Rattle.csn_reasons.specs.declared.facts.NodeFacts.{NodeFacts}
use Rattle.csn_reasons.specs.Facts.{AreFacts, node_lines}
use Rattle.csn_reasons.proofs.listing.list.Given as goal

abbrev pub invariant-loop-number : goal.invariant-loop-number
invariant-loop-number l = record {
  facts : List NodeFacts;
  so_many : length facts ≡ l.number;
  are : AreFacts l.asked.text.now l.found.desc.nodes l.found.origins.items facts;
  lines : l.out.items ≡ l.fn.out.items ++ node_lines (λ i. get_or l.bits.items i None) 0 facts;
}
