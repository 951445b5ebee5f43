use Rattle.std.proofs.Common.{Option, Some, Bool, sym, subst, ◌∙◌}
use Rattle.csn_bits.specs.Numbers.{low_bits}
use Rattle.csn_judge.specs.Told.{BitsTold}
use Rattle.csn_decode.specs.Built.{BuiltV, Makes, unless}
use Rattle.csn_decode.proofs.BuiltFacts.{told_taken, told_refused, building, wanting}
use Rattle.csn_decode.proofs.track.TreeTrackTrack.bits.Goals as goal

pub returns-then-not-self : goal.returns-then-not-self
returns-then-not-self c =
    let P : Option BuiltV → Type 0 = λ s. BitsTold Makes c.args.node.now (low_bits c.args.count c.args.number) s
    (unless c.is_err-self-inside.result c.take.new.self) in
    let Q : Bool → Type 0 = λ b. BitsTold Makes c.args.node.now (low_bits c.args.count c.args.number)
    (Some c.self.inside.builder) (unless b c.take.new.self) in
    subst P (sym (building c.self.inside.refused c.self.inside.builder (cc)) ∙ c.self.view_is)
    (subst Q (sym c.is_err-self-inside.ensures.value)
    (told_taken c.take.result c.args.node.now c.args.count c.args.number c.self.inside.builder c.take.new.self c.take.ensures.ok c.take.ensures.some))

pub returns-else-not-self : goal.returns-else-not-self
returns-else-not-self c =
    let P : Option BuiltV → Type 0 = λ s. BitsTold Makes c.args.node.now (low_bits c.args.count c.args.number) s s in
    subst P (sym (wanting c.self.inside.refused c.self.inside.builder (cc)) ∙ c.self.view_is)
    (told_refused c.args.node.now (low_bits c.args.count c.args.number))
