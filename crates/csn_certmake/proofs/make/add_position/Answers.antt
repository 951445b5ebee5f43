use Rattle.std.proofs.Common.{take, refl, ap, ◌∙◌, arith}
use Rattle.csn_cert.specs.PatternV.{PatternV}
use Rattle.csn_cert.specs.CertificateV.{PositionV}
use Rattle.csn_cert.specs.Growing.{with_position, with_pattern}
use Rattle.csn_certmake.proofs.Growing.{there_is_a_position, next_is_in_order, one_pattern_more, item_there, one_taken}
use Rattle.csn_certmake.proofs.make.add_position.Goals as goal

pub pattern-requires-clause-position : goal.pattern-requires-clause-position
pattern-requires-clause-position c =
    let p : PositionV = record {
      octet = c.args.octet;
      ends = c.args.ends;
      start = c.args.start;
      patterns =
          take c.loop-pattern.pattern-index c.args.patterns.now;
    } in
    there_is_a_position c.args.c.now c.loop-pattern.c p c.requires.node c.loop-pattern.invariant

pub pattern-requires-clause-rising : goal.pattern-requires-clause-rising
pattern-requires-clause-rising c =
    let at = c.loop-pattern.pattern-index in
    let patterns = c.args.patterns.now in
    let p : PositionV = record { octet = c.args.octet; ends = c.args.ends; start = c.args.start; patterns = take at patterns } in
    next_is_in_order c.args.c.now c.loop-pattern.c p patterns at c.pattern-item.result c.requires.node c.loop-pattern.invariant refl c.requires.rising
    (item_there patterns at c.pattern-item.result (omega (arith, c.loop-pattern-test.true)) c.pattern-item.is)

pub loop-pattern-preserved : goal.loop-pattern-preserved
loop-pattern-preserved c =
    let at = c.loop-pattern.pattern-index in
    let patterns = c.args.patterns.now in
    let next : PatternV = c.pattern-item.result in
    let p : PositionV = record { octet = c.args.octet; ends = c.args.ends; start = c.args.start; patterns = take at patterns } in
    c.in_ok-pattern.ensures.ok ∙ ap (with_pattern next) c.loop-pattern.invariant
    ∙ one_pattern_more next p c.args.c.now c.requires.node
    ∙ ap (λ ps. with_position (record {
      octet = c.args.octet;
      ends = c.args.ends;
      start = c.args.start;
      patterns =
          ps;
    }) c.args.c.now) (one_taken patterns at next (omega (arith, c.loop-pattern-test.true)) c.pattern-item.is)
