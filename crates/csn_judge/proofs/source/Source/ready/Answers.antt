use Rattle.std.proofs.Common.{arith, subst, sym, ◌∙◌}
use Rattle.csn_bits.specs.Octets.{IsBits}
use Rattle.csn_judge.specs.Coming.{Coming}
use Rattle.csn_judge.proofs.Numbers.{IsBits-coming}
use Rattle.csn_judge.proofs.SourceFacts.{known}
use Rattle.csn_judge.proofs.source.Source.ready.Goals as goal
use Rattle.std.proofs.lemmas.List.{nil_from_length}

pub returns-clause-count : goal.returns-clause-count
returns-clause-count c = (let k = known _ _ c.self.invariant c.self.view_is in
    omega (arith, k.all, k.held, k.place, k.limit, c.want.ensures.held, c.min.ensures, c.min-2.ensures))

pub returns-clause-good : goal.returns-clause-good
returns-clause-good c =
    let k = known _ _ c.self.invariant c.self.view_is in
    record {
      bits =
          subst (λ (s : Coming). IsBits s.bits) c.self.view_is
          (IsBits-coming c.self.inside.held.count c.self.inside.held.number c.self.inside.piece.now c.self.inside.at
          c.self.inside.left c.self.invariant.octets);
      fits = omega (arith, k.all, k.place, c.self.invariant.fits);
      inside = omega (arith, k.place, k.limit, c.self.invariant.inside);
      nothing = λ ended. nil_from_length _ (omega (arith, k.all, c.self.invariant.nothing (sym k.ended ∙ ended)));
    }

pub returns-clause-within : goal.returns-clause-within
returns-clause-within c = (let k = known _ _ c.self.invariant c.self.view_is in omega (arith, k.all, k.held, k.place, k.limit))

pub returns-clause-same : goal.returns-clause-same
returns-clause-same c = record { bits = c.want.ensures.bits; place = c.want.ensures.place; limit = c.want.ensures.limit; ended = c.want.ensures.ended }
