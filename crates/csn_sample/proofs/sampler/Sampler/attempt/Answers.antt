use Rattle.std.proofs.Common.{length, ap, subst}
use Rattle.std.specs.Prelude.{Option, IfSome, List, ℕ}
use Rattle.csn_sample.specs.Samples.{Fits}
use Rattle.csn_sample.proofs.Work.{draw_and_judge}
use Rattle.csn_sample.proofs.sampler.Sampler.attempt.Goals as goal

pub returns-clause-steps : goal.returns-clause-steps
returns-clause-steps g c =
    let nodes : ℕ = length c.args.self.now.nodes in
    let fits : Fits c.args.wish.length (length c.in-Some.block) =
    subst (λ (found : Option (List ℕ)). IfSome found (λ block. Fits c.args.wish.length (length block))) c.in-Some.is c.in_ok-block.ensures.fits in
    draw_and_judge c.args.wish.length nodes (length c.self.inside.plan.now.nodes) (length c.in-Some.block) c.args.steps.now c.draw.new.steps c.judged.new.steps
    (ap (λ d. length d.nodes) c.self.view_is) fits c.draw.ensures.steps c.judged.ensures.steps
