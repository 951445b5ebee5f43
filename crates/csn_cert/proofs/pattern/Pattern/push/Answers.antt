use Rattle.std.proofs.Common.{◌≡◌, ◌<◌, length, ap, sym, ◌∙◌, arith}
use Rattle.std.proofs.lemmas.List.{length-take-le}
use Rattle.csn_cert.specs.declared.pattern.TheConstants.{MOST_MARKS}
use Rattle.csn_cert.proofs.Patterns.{IsFilled-push}
use Rattle.csn_cert.proofs.pattern.Pattern.push.Goals as goal

pub invariant_of-self : goal.invariant_of-self
invariant_of-self c =
    let count : c.self.inside.len ≡ length c.args.self.now.marks =
    sym (length-take-le c.self.inside.len c.self.inside.marks
    (omega (arith, c.self.invariant.few, c.self.invariant.twelve))) ∙ ap (λ v. length v.marks) c.self.view_is in
    let room : c.self.inside.len < MOST_MARKS = omega (arith, count, c.requires) in
    IsFilled-push c.self.inside.marks c.self.inside.len c.args.mark c.self.invariant room
