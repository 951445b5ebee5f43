use Rattle.std.proofs.Common.{take, sym, ap, ◌∙◌}
use Rattle.std.proofs.lemmas.List.{take_at}
use Rattle.csn_judge.specs.Coming.{Coming}
use Rattle.csn_bits.proofs.NumberFacts.{length-low_bits}
use Rattle.csn_judge.proofs.source.Source.held.Goals as goal

pub returns-clause-bits : goal.returns-clause-bits
returns-clause-bits c =
    sym (take_at _ _ c.self.inside.held.count (length-low_bits c.self.inside.held.count c.self.inside.held.number))
    ∙ ap (λ (s : Coming). take s.held s.bits) c.self.view_is
