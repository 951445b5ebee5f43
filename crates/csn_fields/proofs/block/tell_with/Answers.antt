use Rattle.std.proofs.Common.{◌∙◌, refl, subst, []}
use Rattle.csn_fields.specs.Events.{Told}
use Rattle.csn_fields.proofs.ReadingFacts.{all_told}
use Rattle.csn_fields.proofs.block.tell_with.Goals as goal

pub returns : goal.returns
returns g c =
    let fed = c.feed-verdict.ensures.tells [] [] c.new-reader.ensures.tells in
    all_told g.E.Events.tells c.args.plan.now _ _ _ fed.more _ _ _ _
    (c.feed-verdict.ensures.desc ∙ c.new-reader.ensures.desc) refl
    (subst (λ s. Told g.E.Events.tells fed.more s c.feed-verdict.new.self.track.events) c.new-reader.ensures.events fed.told)
    (c.finish.ensures.ends _ fed.more fed.stands)
