use Rattle.std.proofs.Common.{◌+◌, ◌∙◌, take, refl, sym, ap, arith}
use Rattle.std.specs.Prelude.{replicate}
use Rattle.csn_desc.specs.Spelled.{spelled}
use Rattle.csn_judge.proofs.SpellingFacts.{all_alike, spare_sent, spare_unsent, spare_mismatch}
use Rattle.csn_judge.proofs.leaf.take_spare.Goals.{in-Sent+else-alike-count, in_default}
use Rattle.csn_judge.proofs.leaf.take_spare.Goals as goal
use Rattle.csn_desc.proofs.BitFacts.{length-spelled}
use Rattle.std.proofs.lemmas.List.{length-replicate}

pub returns-then-alike-count-clause-some : goal.returns-then-alike-count-clause-some
returns-then-alike-count-clause-some g c =
    let wanted = c.repeated-wanted.ensures.value ∙ ap (λ p. spelled (replicate c.args.count c.args.symbol) p) c.place.ensures.place in
    let m = spare_mismatch c.args.symbol c.args.count c.args.source.now.place c.args.source.now.bits
    c.alike-alike.result c.if-alike-count.true
    (omega (arith, c.place.ensures.held, c.requires.held, c.if-alike-count.true))
    (c.alike-alike.ensures.same ∙ ap (λ l. take c.alike-alike.result l) wanted)
    (λ h. c.alike-alike.ensures.differs c.if-alike-count.true (h ∙ ap (λ l. take (c.alike-alike.result + 1) l) (sym wanted))) in (
      c.in-Sent.is,
      record {
        alike = m.alike;
        bit = m.bit;
        later = m.later;
        bits = m.is;
        few =
            omega (arith, m.long, c.if-alike-count.true);
        place_is =
            omega (arith, m.long, c.place-then-alike-count.ensures.place);
        good = m.good;
        not = m.not;
      },
      refl,
    )

pub returns-clause-none : goal.returns-clause-none
returns-clause-none g c = (
  c.take.ensures.taken,
  elim c.match-reading.branch [
    | in-Sent+else-alike-count w ↦
        let wanted = w.repeated-wanted.ensures.value ∙ ap (λ p. spelled (replicate c.args.count c.args.symbol) p) w.place.ensures.place in
        let long = length-spelled (replicate c.args.count c.args.symbol) c.args.source.now.place ∙ length-replicate c.args.count c.args.symbol in
        spare_sent c.args.reading c.args.symbol c.args.count c.args.source.now.place c.args.source.now.bits
        w.in-Sent.is (omega (arith, w.place.ensures.held, c.requires.held))
        (all_alike w.alike-alike.result c.args.count c.args.source.now.bits
        (spelled (replicate c.args.count c.args.symbol) c.args.source.now.place)
        w.alike-alike.ensures.within w.if-alike-count.false long
        (w.alike-alike.ensures.same ∙ ap (λ l. take w.alike-alike.result l) wanted))
    | in_default w ↦ spare_unsent c.args.reading c.args.symbol c.args.source.now.place
        (take c.args.count c.args.source.now.bits) w.in_default.not-Sent c.take.ensures.bits
  ],
  c.take.ensures.told,
)
