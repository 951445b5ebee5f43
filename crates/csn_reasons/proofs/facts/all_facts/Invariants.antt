use Rattle.std.proofs.Common.{◌≡◌, length}
use Rattle.csn_reasons.specs.Facts.{AreFacts}
use Rattle.csn_reasons.proofs.facts.all_facts.Given as goal

abbrev pub invariant-loop-number : goal.invariant-loop-number
invariant-loop-number l = record {
  so_many : length l.facts.items ≡ l.number;
  are : AreFacts l.asked.text.now l.found.desc.nodes l.found.origins.items l.facts.items;
}
