use Rattle.std.proofs.Common.{arith}
use Rattle.csn_good.proofs.apart.turns_clash.Goals as goal

pub returns : goal.returns
returns c = (
  (λ h. absurd (cc)),
  (λ h.
      let there = (c.through_many-turns.ensures h.octet h.low).1 (record {
        octet = h.from;
        small = h.begin;
        there =
            (c.begins_of.ensures h.from h.begin).1 h.begins;
        fact = h.turns;
      }) in
      let less = h.low in
      let over = c.loop-octet-test.false in
      absurd (c.loop-octet.invariant h.octet (omega arith) there h.clash)),
)
