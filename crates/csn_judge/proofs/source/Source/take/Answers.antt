use Rattle.std.proofs.Common.{ℕ, List, ◌+◌, ◌-◌, drop, ap, ◌∙◌, arith}
use Rattle.csn_judge.specs.Coming.{Coming}
use Rattle.csn_judge.proofs.Numbers.{left_over}
use Rattle.csn_judge.proofs.SourceFacts.{known}
use Rattle.csn_judge.proofs.source.Source.take.Goals as goal

pub overflow_add-self : goal.overflow_add-self
overflow_add-self c =
    let k = known _ _ c.self.invariant c.self.view_is in
    omega (arith, c.self.invariant.fits, k.held, c.requires.held)

pub invariant_of-self : goal.invariant_of-self
invariant_of-self c =
    let k = known _ _ c.self.invariant c.self.view_is in
    record {
      octets = c.self.invariant.octets;
      few = omega (arith, c.self.invariant.few);
      within = c.self.invariant.within;
      fits = omega (arith, c.self.invariant.fits, k.held, c.requires.held);
      inside = omega (arith, c.self.invariant.inside, k.place, k.limit, c.requires.inside);
      nothing = λ ended. omega (arith, c.self.invariant.nothing ended);
    }

pub returns-clause-rest : goal.returns-clause-rest
returns-clause-rest c =
    let k = known _ _ c.self.invariant c.self.view_is in
    ap (λ (l : List ℕ). record {
      bits = l;
      held = c.self.inside.held.count - c.args.count;
      place =
          c.self.inside.place + c.args.count;
      limit = c.self.inside.limit;
      ended = c.self.inside.ended;
    })
    (left_over c.self.inside.held.count c.self.inside.held.number c.args.count _ (omega (arith, c.requires.held, k.held)))
    ∙ ap (λ (s : Coming). record {
      bits = drop c.args.count s.bits;
      held = s.held - c.args.count;
      place =
          s.place + c.args.count;
      limit = s.limit;
      ended = s.ended;
    }) c.self.view_is
