use Rattle.std.proofs.Common.{◌≡◌, ◌++◌, Some, true, slice_get, sym, ◌∙◌, subst, nat_eq}
use Rattle.std.specs.Prelude.{IsTrue, Contains}
use Rattle.std.specs.List.{list_any}
use Rattle.std.proofs.lemmas.List.Elements.{Contains-append_left, Contains-append_right}
use Rattle.csn_good.specs.Numbers.{marked, pattern_of}
use Rattle.csn_good.proofs.Numbered.{maps, mark_at, in_table}
use Rattle.csn_good.proofs.pattern_set.PatternSet.is_kept.Goals as goal

pub returns-then-is_marked : goal.returns-then-is_marked
returns-then-is_marked c = λ holds.
    let few = c.self.inside.few.keys in
    let marks = c.self.inside.marks.items in
    let number = c.args.number in
    let at = subst (λ l. slice_get l number ≡ Some true) c.as_slice.ensures.value (c.is_marked.ensures holds) in
    subst (λ l. Contains l (pattern_of number)) c.self.view_is
    (maps (few ++ marked 0 marks) number (Contains-append_right few (marked 0 marks) number (mark_at marks number at)))

pub returns-else-is_marked : goal.returns-else-is_marked
returns-else-is_marked c = λ holds.
    let few = c.self.inside.few.keys in
    let marks = c.self.inside.marks.items in
    let number = c.args.number in
    let told : IsTrue (list_any (λ n. nat_eq number n) few) = sym c.contains.ensures ∙ holds in
    subst (λ l. Contains l (pattern_of number)) c.self.view_is
    (maps (few ++ marked 0 marks) number (Contains-append_left few (marked 0 marks) number (in_table few number told)))
