use Rattle.std.proofs.Common.{◌↔◌, refl, IsTrue}
use Rattle.csn_good.specs.ClaimedSets.{claims_of}
use Rattle.csn_good.specs.Told.{PartsReach}
use Rattle.csn_look.proofs.Meaning.ShapeFacts.{has_no_parts}
use Rattle.csn_good.proofs.Arms.{along}
use Rattle.csn_good.proofs.EndsTold.{ends_small}
use Rattle.csn_good.proofs.SetArms.{reached_small, tells}
use Rattle.csn_good.proofs.ReachArms.{no_parts, seq_parts, trunc_parts, choice_parts, window_parts, named_parts, many_parts, times_parts}
use Rattle.csn_good.proofs.reaching.parts_reached.Goals as goal

pub returns-in-Seq : goal.returns-in-Seq
returns-in-Seq c = along (λ n. IsTrue c.in_order.result ↔ PartsReach (claims_of c.args.c.now) c.args.i n) c.in-Seq.is
    (tells c.in_order.ensures (seq_parts (claims_of c.args.c.now) c.args.i c.begins_of-begins.result.has
    c.begins_of-begins.ensures (reached_small c.args.c.now c.requires.certificate c.args.i) c.in-Seq.parts))

pub returns-in-Trunc : goal.returns-in-Trunc
returns-in-Trunc c = along (λ n. IsTrue c.in_order-in-Trunc.result ↔ PartsReach (claims_of c.args.c.now) c.args.i n)
    c.in-Trunc.is
    (tells c.in_order-in-Trunc.ensures (trunc_parts (claims_of c.args.c.now) c.args.i c.begins_of-begins.result.has
    c.begins_of-begins.ensures (reached_small c.args.c.now c.requires.certificate c.args.i) c.in-Trunc.parts))

pub returns-in-Choice : goal.returns-in-Choice
returns-in-Choice c = along (λ n. IsTrue c.each_has.result ↔ PartsReach (claims_of c.args.c.now) c.args.i n)
    c.in-Choice.is
    (tells c.each_has.ensures (choice_parts (claims_of c.args.c.now) c.args.i c.begins_of-begins.result.has
    c.begins_of-begins.ensures (reached_small c.args.c.now c.requires.certificate c.args.i) c.in-Choice.parts))

pub returns-in-Window : goal.returns-in-Window
returns-in-Window c = along (λ n. IsTrue c.has_all-in-Window.result ↔ PartsReach (claims_of c.args.c.now) c.args.i n)
    c.in-Window.is
    (tells c.has_all-in-Window.ensures (window_parts (claims_of c.args.c.now) c.args.i c.begins_of-begins.result.has
    c.begins_of-begins.ensures (reached_small c.args.c.now c.requires.certificate c.args.i)
    c.in-Window.unit c.in-Window.count c.in-Window.part))

pub returns-in-Named : goal.returns-in-Named
returns-in-Named c = along (λ n. IsTrue c.has_all-in-Named.result ↔ PartsReach (claims_of c.args.c.now) c.args.i n)
    c.in-Named.is
    (tells c.has_all-in-Named.ensures (named_parts (claims_of c.args.c.now) c.args.i c.begins_of-begins.result.has
    c.begins_of-begins.ensures (reached_small c.args.c.now c.requires.certificate c.args.i)
    c.in-Named.label c.in-Named.part))

pub returns-in-Many : goal.returns-in-Many
returns-in-Many c = along (λ n. IsTrue c.has_all-in-Many.result ↔ PartsReach (claims_of c.args.c.now) c.args.i n)
    c.in-Many.is (tells c.has_all-in-Many.ensures
    (many_parts (claims_of c.args.c.now) c.args.i c.begins_of-begins.result.has c.begins_of-begins.ensures
    (reached_small c.args.c.now c.requires.certificate c.args.i) (ends_small c.args.c.now)
    c.in-Many.part c.through_many.result.has c.through_many.ensures))

pub returns-in-Times : goal.returns-in-Times
returns-in-Times c = along (λ n. IsTrue c.has_all.result ↔ PartsReach (claims_of c.args.c.now) c.args.i n)
    c.in-Times.is
    (tells c.has_all.ensures (times_parts (claims_of c.args.c.now) c.args.i c.begins_of-begins.result.has
    c.begins_of-begins.ensures (reached_small c.args.c.now c.requires.certificate c.args.i) (ends_small c.args.c.now)
    c.in-Times.count c.in-Times.part c.turns_begin.result.has c.turns_begin.ensures))

pub returns-in_default : goal.returns-in_default
returns-in_default c =
    let other = c.in_default in
    let none = has_no_parts c.args.node.now other.not-Seq other.not-Choice other.not-Times other.not-Many other.not-Trunc other.not-Window other.not-Named in (
      (λ h. no_parts (claims_of c.args.c.now) c.args.i c.begins_of-begins.result.has c.begins_of-begins.ensures
          (reached_small c.args.c.now c.requires.certificate c.args.i) c.args.node.now none),
      (λ h. refl),
    )
