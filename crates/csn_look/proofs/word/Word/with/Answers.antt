use Rattle.std.proofs.Common.{◌≡◌, ◌+◌, ◌*◌, ◌++◌, ◌∷◌, [], length, ap, ◌∙◌, arith}
use Rattle.csn_look.specs.WordV.{word_of}
use Rattle.csn_look.proofs.Basics.Words.{roomy, word_of-is, word_of-push}
use Rattle.csn_look.proofs.word.Word.with.Goals as goal

pub invariant_of-result : goal.invariant_of-result
invariant_of-result c =
    let size : length (word_of c.self.inside.place) ≡ length c.args.self.now = ap length c.self.view_is in
    let small = roomy c.self.inside.place c.self.invariant.0 c.self.invariant.1 (omega (arith, size, c.requires.room)) in
    (omega (arith, c.self.invariant.0), omega (arith, small, c.requires.bit))

pub returns-clause-value : goal.returns-clause-value
returns-clause-value c =
    let size : length (word_of c.self.inside.place) ≡ length c.args.self.now = ap length c.self.view_is in
    let small = roomy c.self.inside.place c.self.invariant.0 c.self.invariant.1 (omega (arith, size, c.requires.room)) in
    word_of-push c.self.inside.place c.args.bit c.self.invariant.0 small c.requires.bit ∙ ap (λ l. l ++ c.args.bit ∷ []) c.self.view_is

pub returns-clause-word : goal.returns-clause-word
returns-clause-word c =
    let size : length (word_of c.self.inside.place) ≡ length c.args.self.now = ap length c.self.view_is in
    let small = roomy c.self.inside.place c.self.invariant.0 c.self.invariant.1 (omega (arith, size, c.requires.room)) in
    word_of-is (2 * c.self.inside.place + c.args.bit) (omega (arith, c.self.invariant.0)) (omega (arith, small, c.requires.bit))
