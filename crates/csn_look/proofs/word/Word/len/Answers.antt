use Rattle.std.proofs.Common.{List, ℕ, length, ap, subst, ◌∙◌, arith}
use Rattle.csn_bits.specs.Octets.{IsBits}
use Rattle.csn_look.proofs.Basics.Words.{word_of-bits, word_of-short, word_size}
use Rattle.csn_look.proofs.word.Word.len.Goals as goal

pub returns-clause-count : goal.returns-clause-count
returns-clause-count c = word_size c.self.inside.place c.self.invariant.0 c.self.invariant.1 ∙ ap length c.self.view_is

pub returns-clause-within : goal.returns-clause-within
returns-clause-within c =
    let size = word_size c.self.inside.place c.self.invariant.0 c.self.invariant.1 in
    omega (arith, size, word_of-short c.self.inside.place c.self.invariant.0 c.self.invariant.1)

pub returns-clause-bits : goal.returns-clause-bits
returns-clause-bits c =
    let P : List ℕ → Type 0 = IsBits in
    subst P c.self.view_is (word_of-bits c.self.inside.place c.self.invariant.0 c.self.invariant.1)
