use Rattle.std.proofs.Common.{List, ℕ, sym, ap, subst, ◌∙◌}
use Rattle.csn_look.specs.KeyMarks.{IsWord, place_of}
use Rattle.csn_look.proofs.Basics.Words.{word_of-place, word_of-is}
use Rattle.csn_look.proofs.word.Word.place.Goals as goal

pub returns-clause-value : goal.returns-clause-value
returns-clause-value c = sym (word_of-place c.self.inside.place c.self.invariant.0 c.self.invariant.1) ∙ ap place_of c.self.view_is

pub returns-clause-word : goal.returns-clause-word
returns-clause-word c =
    let P : List ℕ → Type 0 = IsWord in
    subst P c.self.view_is (word_of-is c.self.inside.place c.self.invariant.0 c.self.invariant.1)
