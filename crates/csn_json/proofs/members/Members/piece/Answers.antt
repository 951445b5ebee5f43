use Rattle.std.proofs.Common.{arith, sym, ◌∙◌, ap, Some, None}
use Rattle.csn_json.proofs.MembersRead.{full_told, other_told, none_told, fitting_told}
use Rattle.csn_json.proofs.members.Members.piece.Goals as goal

pub returns-then-round-eq-MOST_LEVELS-clause-ok : goal.returns-then-round-eq-MOST_LEVELS-clause-ok
returns-then-round-eq-MOST_LEVELS-clause-ok c = λ members has. full_told c.args.round members (omega (arith, c.if-round-eq-MOST_LEVELS.true))

pub returns-in-None-clause-ok : goal.returns-in-None-clause-ok
returns-in-None-clause-ok c = λ members has.
    none_told c.args.round c.args.self members (omega (arith, c.if-round-eq-MOST_LEVELS.false, c.requires)) c.if-self.false (sym c.fitting.ensures ∙ c.in-None.is) has

pub returns-then-self-clause-ok : goal.returns-then-self-clause-ok
returns-then-self-clause-ok c = λ members has. other_told c.args.round c.args.self members c.if-self.true has
