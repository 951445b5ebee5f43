use Rattle.std.proofs.Common.{List, All, sym, subst}
use Rattle.std.specs.Prelude.{Option, IfSome}
use Rattle.std.proofs.lemmas.List.Elements.{All-push}
use Rattle.csn_sample.specs.declared.near.Near.{Near}
use Rattle.csn_sample.specs.Nearly.{IsNear}
use Rattle.csn_sample.proofs.near.add.Goals as goal

pub returns-in_ok-push : goal.returns-in_ok-push
returns-in_ok-push c =
    let is_near =
    subst (λ (found : Option Near). IfSome found (IsNear c.args.plan.now c.args.block.now)) c.in-Some.is c.in_ok-near.ensures in
    subst (λ (told : List Near). All (IsNear c.args.plan.now c.args.block.now) told) (sym c.in_ok-push.ensures.items)
    (All-push (IsNear c.args.plan.now c.args.block.now) c.args.told.now.items c.in-Some.near c.requires is_near)
