use Rattle.std.proofs.Common.{subst}
use Rattle.std.specs.Prelude.{Contains}
use Rattle.std.proofs.lemmas.List.Elements.{Contains-append_right}
use Rattle.csn_good.specs.Numbers.{marked}
use Rattle.csn_good.proofs.pattern_set.PatternSet.numbers.Goals as goal

pub push_marked-requires : goal.push_marked-requires
push_marked-requires c = λ n there.
    let marks = c.self.inside.marks.items in
    c.self.invariant n (Contains-append_right c.self.inside.few.keys (marked 0 marks) n
    (subst (λ l. Contains (marked 0 l) n) c.as_slice-2.ensures.value there))
