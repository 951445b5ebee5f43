use Rattle.std.proofs.Common.{◌≡◌, ◌++◌, ◌∷◌, [], length, ap, ◌∙◌, arith}
use Rattle.csn_look.specs.WordV.{word_of}
use Rattle.csn_look.proofs.Basics.Words.{roomy, word_of-push}
use Rattle.csn_look.proofs.word.Word.push.Goals as goal

pub invariant_of-self : goal.invariant_of-self
invariant_of-self c =
    let size : length (word_of c.self.inside.place) ≡ length c.args.self.now = ap length c.self.view_is in
    let small = roomy c.self.inside.place c.self.invariant.0 c.self.invariant.1 (omega (arith, size, c.requires.room)) in
    (omega (arith, c.self.invariant.0), omega (arith, small, c.requires.bit))

pub returns : goal.returns
returns c =
    let size : length (word_of c.self.inside.place) ≡ length c.args.self.now = ap length c.self.view_is in
    let small = roomy c.self.inside.place c.self.invariant.0 c.self.invariant.1 (omega (arith, size, c.requires.room)) in
    word_of-push c.self.inside.place c.args.bit c.self.invariant.0 small c.requires.bit ∙ ap (λ l. l ++ c.args.bit ∷ []) c.self.view_is
