use Rattle.std.proofs.Common.{◌≡◌, ◌-◌, ◌^◌, take}
use Rattle.std.specs.Prelude.{min, sum_by}
use Rattle.csn_sample.specs.Spans.{span_at}
use Rattle.csn_sample.proofs.chart.Chart.total.Given as goal

abbrev pub invariant-loop-at : goal.invariant-loop-at
invariant-loop-at l = record {
  least : l.total.least ≡ min (sum_by (λ i. (span_at l.self.bits.now i).least) (take l.at l.parts)) (2 ^ 64 - 1);
  most : l.total.most ≡ min (sum_by (λ i. (span_at l.self.bits.now i).most) (take l.at l.parts)) (2 ^ 64 - 1);
}
