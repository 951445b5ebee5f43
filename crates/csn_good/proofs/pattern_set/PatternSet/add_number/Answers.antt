use Rattle.std.proofs.Common.{◌≡◌, ◌++◌, ℕ, map, sym, subst, nat_eq}
use Rattle.std.specs.Prelude.{◌⊎◌, ◌↔◌, Contains}
use Rattle.std.proofs.lemmas.Result.{on_ok_weaker}
use Rattle.indexmap.specs.IndexSet.{insert_key}
use Rattle.csn_good.specs.Numbers.{marked, pattern_of}
use Rattle.csn_good.proofs.Numbered.{inserted, behind_few, as_patterns, still_numbers, marked_numbers}
use Rattle.csn_good.proofs.pattern_set.PatternSet.add_number.Goals as goal

pub invariant_of-self-then-len-lt-FEW : goal.invariant_of-self-then-len-lt-FEW
invariant_of-self-then-len-lt-FEW c =
    let few = c.self.inside.few.keys in
    let marks = marked 0 c.self.inside.marks.items in
    let new = c.insert.new.self.keys in
    let number = c.args.number in
    still_numbers (few ++ marks) (new ++ marks) number
    (λ n. subst (λ k. Contains (k ++ marks) n ↔ (Contains (few ++ marks) n ⊎ (n ≡ number))) (sym c.in_ok-insert.ensures.keys)
    (inserted few marks number n))
    c.self.invariant c.requires

pub returns-then-len-lt-FEW : goal.returns-then-len-lt-FEW
returns-then-len-lt-FEW c = λ p.
    let few = c.self.inside.few.keys in
    let marks = marked 0 c.self.inside.marks.items in
    let new = c.insert.new.self.keys in
    let number = c.args.number in
    subst (λ l. Contains (map pattern_of (new ++ marks)) p ↔ (Contains l p ⊎ (p ≡ pattern_of number))) c.self.view_is
    (as_patterns (few ++ marks) (new ++ marks) number
    (λ n. subst (λ k. Contains (k ++ marks) n ↔ (Contains (few ++ marks) n ⊎ (n ≡ number))) (sym c.in_ok-insert.ensures.keys)
    (inserted few marks number n)) p)

pub invariant_of-self-2 : goal.invariant_of-self-2
invariant_of-self-2 c =
    marked_numbers c.mark.result c.self.inside.few.keys (marked 0 c.self.inside.marks.items)
    (marked 0 c.mark.new.marks.items) c.args.number c.mark.ensures.ok c.mark.ensures.err c.self.invariant c.requires

pub returns : goal.returns
returns c =
    let few = c.self.inside.few.keys in
    let marks = marked 0 c.self.inside.marks.items in
    let new = marked 0 c.mark.new.marks.items in
    let number = c.args.number in
    on_ok_weaker c.mark.result
    (λ told p. subst (λ l. Contains (map pattern_of (few ++ new)) p ↔ (Contains l p ⊎ (p ≡ pattern_of number))) c.self.view_is
    (as_patterns (few ++ marks) (few ++ new) number (λ n. behind_few few marks new number n (told n)) p))
    c.mark.ensures.ok
