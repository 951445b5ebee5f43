use Rattle.std.proofs.Common.{◌≡◌, ◌-◌, length, get_or, ap, ◌∙◌, arith}
use Rattle.csn_look.specs.WordV.{word_of}
use Rattle.csn_look.proofs.Basics.Words.{word_bit}
use Rattle.csn_look.proofs.word.Word.get.Goals as goal

pub returns-clause-value : goal.returns-clause-value
returns-clause-value c =
    let size : length (word_of c.self.inside.place) ≡ length c.args.self.now = ap length c.self.view_is in
    word_bit c.self.inside.place c.args.at (c.len.result - 1 - c.args.at) c.self.invariant.0 c.self.invariant.1
    (omega (arith, size, c.requires)) (omega (arith, size, c.len.ensures.count))
    ∙ ap (λ l. get_or l c.args.at 0) c.self.view_is
