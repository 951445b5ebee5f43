use Rattle.std.proofs.Common.{List, sym, ◌∙◌, subst}
use Rattle.std.specs.Prelude.{◌↔◌}
use Rattle.csn_cert.specs.PatternV.{PatternV}
use Rattle.csn_good.specs.Apart.{PartsMeet}
use Rattle.csn_good.specs.ListsMeeting.{ListsMeet}
use Rattle.csn_good.specs.ClaimedSets.{patterns_at}
use Rattle.csn_good.proofs.Making.{in_turn}
use Rattle.csn_good.proofs.ListsMeeting.{parts_meet_from}
use Rattle.csn_good.proofs.apart.parts_meet.Goals as goal

pub returns : goal.returns
returns c =
    let goes : (l r : List PatternV) → Type 0 = λ l r. ListsMeet l r 0 ↔ PartsMeet c.args.c.now c.args.left c.args.right c.args.octet in
    let all = parts_meet_from c.args.c.now c.args.left c.args.right c.args.octet in
    let own = c.as_slice.ensures.value ∙ c.in_ok-lefts.ensures in
    let others = c.as_slice-2.ensures.value ∙ c.in_ok-rights.ensures in
    let right = subst (λ (r : List PatternV). goes (patterns_at c.args.c.now c.args.left c.args.octet) r) (sym others) all in
    in_turn c.in_ok-lists_meet.ensures (subst (λ (l : List PatternV). goes l c.as_slice-2.result.now) (sym own) right)
