use Rattle.std.proofs.Common.{◌∙◌, ◌+◌, ◌-◌, ◌^◌, ap}
use Rattle.std.specs.Prelude.{min}
use Rattle.csn_sample.specs.declared.span.Span.{Span}
use Rattle.csn_sample.specs.Spans.{span_at}
use Rattle.csn_sample.proofs.Draws.{summed_next}
use Rattle.csn_sample.proofs.chart.Chart.total.Goals as goal

pub loop-at-preserved : goal.loop-at-preserved
loop-at-preserved c =
    record {
      least = summed_next (λ i. (span_at c.args.self.now.bits.now i).least) c.args.parts.now c.loop-at.at c.get.result
          c.loop-at.total.least c.and-total.result.least c.get.ensures c.loop-at.invariant.least
          (c.and-total.ensures.least ∙ ap (λ (s : Span). min (c.loop-at.total.least + s.least) (2 ^ 64 - 1)) c.span.ensures);
      most = summed_next (λ i. (span_at c.args.self.now.bits.now i).most) c.args.parts.now c.loop-at.at c.get.result
          c.loop-at.total.most c.and-total.result.most c.get.ensures c.loop-at.invariant.most
          (c.and-total.ensures.most ∙ ap (λ (s : Span). min (c.loop-at.total.most + s.most) (2 ^ 64 - 1)) c.span.ensures);
    }
