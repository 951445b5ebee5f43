use Rattle.std.proofs.Common.{◌↔◌, IsTrue}
use Rattle.csn_good.specs.Good.{KeepsKeys}
use Rattle.csn_good.proofs.Arms.{along}
use Rattle.csn_good.proofs.SetArms.{tells}
use Rattle.csn_good.proofs.Covered.{other_is_leaf, leaf_keys, seq_keys, choice_keys, named_keys}
use Rattle.csn_good.proofs.keys.keeps_keys.Goals as goal

pub returns-in_default : goal.returns-in_default
returns-in_default c =
    tells c.leaf_is_covered.ensures
    (leaf_keys c.args.desc.now c.args.c.now c.requires.certificate c.args.i c.args.node.now
    (other_is_leaf c.args.node.now c.in_default.not-Seq c.in_default.not-Choice c.in_default.not-Times
    c.in_default.not-Named))

pub returns-in_ok-covered-in-Seq : goal.returns-in_ok-covered-in-Seq
returns-in_ok-covered-in-Seq c =
    along (λ n. IsTrue c.in_ok-covered-in-Seq.covered ↔ KeepsKeys c.args.desc.now c.args.c.now c.args.i n) c.in-Seq.is
    (tells c.in_ok-covered-in-Seq.ensures (seq_keys c.args.desc.now c.args.c.now c.requires.certificate c.args.i
    c.in-Seq.parts _ c.in_ok-made-in-Seq.ensures))

pub returns-in-Choice : goal.returns-in-Choice
returns-in-Choice c = along (λ n. IsTrue c.each_is_covered.result ↔ KeepsKeys c.args.desc.now c.args.c.now c.args.i n)
    c.in-Choice.is
    (tells c.each_is_covered.ensures (choice_keys c.args.desc.now c.args.c.now c.requires.certificate c.args.i
    c.in-Choice.parts))

pub returns-in-Named : goal.returns-in-Named
returns-in-Named c = along (λ n. IsTrue c.part_is_covered.result ↔ KeepsKeys c.args.desc.now c.args.c.now c.args.i n)
    c.in-Named.is
    (tells c.part_is_covered.ensures (named_keys c.args.desc.now c.args.c.now c.requires.certificate c.args.i
    c.in-Named.label c.in-Named.part))
