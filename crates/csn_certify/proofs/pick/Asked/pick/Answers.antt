use Rattle.std.proofs.Common.{◌≡◌, Some, length, refl, sym, subst, arith}
use Rattle.std.specs.Prelude.{slice_get}
use Rattle.csn_desc.specs.declared.node.Node.{Node}
use Rattle.csn_desc.specs.Nodes.{parts_of}
use Rattle.csn_look.proofs.Handing.ReachedParts.{parts_below}
use Rattle.csn_certify.proofs.Answered.{not_asked, reached_where_asked}
use Rattle.csn_certify.proofs.pick.Asked.pick.Goals as goal

pub many-requires-clause-part : goal.many-requires-clause-part
many-requires-clause-part c =
    let d = c.args.self.now.desc.now in
    let P : Node → Type 0 = λ n. slice_get (parts_of n) 0 ≡ Some c.in-Many.part in
    parts_below d c.args.node c.node.result.now (length d.nodes) c.requires.ready.plan.description c.node.ensures
    (omega arith) 0 c.in-Many.part (subst P (sym c.in-Many.is) refl)

pub returns-in_default : goal.returns-in_default
returns-in_default c =
    absurd (not_asked c.args.self.now.desc.now c.args.node c.args.self.now.octet c.node.result.now c.node.ensures
    c.in_default.not-Choice c.in_default.not-Many c.requires.asked)

pub choice-requires-clause-reached : goal.choice-requires-clause-reached
choice-requires-clause-reached c =
    let at = c.node.ensures in
    let is = c.in-Choice.is in
    reached_where_asked c.args.self.now.desc.now c.args.node c.args.self.now.octet c.in-Choice.field-0 (cc) c.requires.asked
