use Rattle.std.proofs.Common.{◌≡◌, ◌++◌, ◌-◌, ◌&&◌, List, ap, ◌∙◌, take, arith}
use Rattle.std.specs.Prelude.{nat_le}
use Rattle.std.proofs.lemmas.List.{take_all}
use Rattle.csn_cert.specs.declared.pattern.Mark.{Mark}
use Rattle.csn_cert.specs.PatternV.{PatternV}
use Rattle.csn_certmake.proofs.Shortening.{joined_is}
use Rattle.csn_certmake.proofs.joining.joined.Goals as goal

pub returns : goal.returns
returns c =
    let first = c.args.first.now in
    let rest = c.args.rest.now in
    let room = 12 - c.len.result in
    let all : take c.len-3.result first.marks ≡ first.marks = take_all c.len-3.result first.marks (omega (arith, c.len-3.ensures.count)) in
    let told = ap (λ (p : PatternV). p.whole) c.new-pattern.ensures ∙ ap (λ b. b && nat_le c.len-2.result room)
    c.whole.ensures ∙ ap (λ n. rest.whole && nat_le n room) c.len-2.ensures.count in
    c.push_marks-2.ensures
    ∙ ap (λ (p : PatternV). record p { marks = p.marks ++ take c.min.result rest.marks })
    (c.push_marks.ensures ∙ ap (λ (m : List Mark). record {
      marks = m ++ take c.len-3.result first.marks;
      whole =
          c.new-pattern.result.whole;
    }) (ap (λ (p : PatternV). p.marks) c.new-pattern.ensures)
    ∙ ap (λ (m : List Mark). record { marks = m; whole = c.new-pattern.result.whole }) all)
    ∙ joined_is first rest room c.min.result c.new-pattern.result.whole
    (omega (arith, c.len.ensures.count, c.len.ensures.few)) (omega (arith, c.len.ensures.count))
    (omega (arith, c.min.ensures, c.len-4.ensures.count, c.len.ensures.count)) told
