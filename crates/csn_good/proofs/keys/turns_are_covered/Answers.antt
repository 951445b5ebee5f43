use Rattle.std.proofs.Common.{◌↔◌, ◌∙◌, IsTrue, ap}
use Rattle.csn_desc.specs.declared.node.Node.TheVariants.{Times}
use Rattle.csn_good.specs.Good.{KeepsKeys}
use Rattle.csn_good.specs.Covering.{IsLeaf}
use Rattle.csn_good.proofs.Arms.{along}
use Rattle.csn_good.proofs.SetArms.{tells}
use Rattle.csn_good.proofs.Covered.{leaf_keys, times_keys}
use Rattle.csn_good.proofs.keys.turns_are_covered.Goals as goal

pub returns-in_ok-covered-in-Fixed : goal.returns-in_ok-covered-in-Fixed
returns-in_ok-covered-in-Fixed c =
    along (λ n. IsTrue c.in_ok-covered-in-Fixed.covered ↔ KeepsKeys c.args.desc.now c.args.c.now c.args.i n)
    (c.requires.is ∙ ap (λ k. Times k c.args.part) c.in-Fixed.is)
    (tells c.in_ok-covered-in-Fixed.ensures (times_keys c.args.desc.now c.args.c.now c.requires.certificate c.args.i
    c.in-Fixed.n c.args.part _ c.in_ok-made-in-Fixed.ensures))

pub returns-in-Counted : goal.returns-in-Counted
returns-in-Counted c =
    tells c.leaf_is_covered.ensures (leaf_keys c.args.desc.now c.args.c.now c.requires.certificate c.args.i
    c.args.node.now (along IsLeaf (c.requires.is ∙ ap (λ k. Times k c.args.part) c.in-Counted.is) tt))
