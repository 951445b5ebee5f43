use Rattle.std.proofs.Common.{◌≡◌, Bool, true, false, ◌∙◌}
use Rattle.std.specs.Prelude.{◌&&◌}
use Rattle.csn_good.specs.ClaimedSets.{claims_of}
use Rattle.csn_good.proofs.EndsTold.{ends_small}
use Rattle.csn_good.proofs.Tailing.{tail_behind}
use Rattle.csn_good.proofs.tail.Tail.behind.Goals as goal
use Rattle.csn_good.proofs.tail.Tail.behind.Goals.{then-self, else-self}

both_then : (a n r : Bool) → a ≡ true → r ≡ n → r ≡ (a && n)
both_then true n r is same = same
both_then false n r is same = absurd (cc)

both_else : (a n r : Bool) → a ≡ false → r ≡ false → r ≡ (a && n)
both_else true n r is same = absurd (cc)
both_else false n r is same = same

pub returns : goal.returns
returns c = λ parts old.
    let own = c.args.self.now.nullable in
    let part = (claims_of c.args.c.now).nullable c.args.i in
    let is : c.if-self.result ≡ (own && part) = elim c.if-self.branch [
      | then-self w ↦ both_then own part c.if-self.result w.if-self.true (w.result-is ∙ w.nullable.ensures)
      | else-self w ↦ both_else own part c.if-self.result w.if-self.false (w.result-is ∙ w.if-self.false)
    ] in
    tail_behind (claims_of c.args.c.now) (ends_small c.args.c.now) c.args.self.now
    (record { nullable = c.if-self.result; zero = c.begins_behind.result; one = c.begins_behind-2.result })
    parts c.args.i is c.begins_behind.ensures c.begins_behind-2.ensures old
