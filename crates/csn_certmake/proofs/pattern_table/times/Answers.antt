use Rattle.std.proofs.Common.{◌≡◌, ◌+◌, ◌-◌, List, ℕ, suc, subst, arith}
use Rattle.csn_cert.specs.PatternV.{PatternV}
use Rattle.csn_certmake.specs.Patterns.{IsRow, times_of, patterns_in}
use Rattle.csn_certmake.proofs.Members.{row_before, turns_stay}
use Rattle.csn_certmake.proofs.pattern_table.times.Goals as goal

pub loop-k-preserved : goal.loop-k-preserved
loop-k-preserved c =
    let part = patterns_in c.args.part.now in
    let next : suc c.loop-k.k ≡ c.loop-k.k + 1 = omega arith in
    subst (λ (n : ℕ). IsRow (times_of part n) c.in_ok-more.more) next
    (row_before c.args.part.now c.loop-k.row c.in_ok-more.more (times_of part c.loop-k.k)
    c.loop-k.invariant c.in_ok-more.ensures)

pub returns-then-same : goal.returns-then-same
returns-then-same c =
    let part = patterns_in c.args.part.now in
    let again : IsRow (times_of part (suc c.loop-k.k)) c.in_ok-more.more =
    row_before c.args.part.now c.loop-k.row c.in_ok-more.more (times_of part c.loop-k.k)
    c.loop-k.invariant c.in_ok-more.ensures in
    let same : c.in_ok-more.more ≡ c.loop-k.row = c.same.ensures c.if-same.true in
    let all : (c.args.n - c.loop-k.k) + c.loop-k.k ≡ c.args.n = omega arith in
    subst (λ (n : ℕ). IsRow (times_of part n) c.loop-k.row) all (turns_stay part c.loop-k.row c.loop-k.k
    (c.args.n - c.loop-k.k) c.loop-k.invariant
    (subst (λ (r : List (List PatternV)). IsRow (times_of part (suc c.loop-k.k)) r) same again))

pub returns : goal.returns
returns c =
    let all : c.loop-k.k ≡ c.args.n = omega (arith, c.loop-k-test.false, c.loop-k.auto.k-end) in
    subst (λ (n : ℕ). IsRow (times_of (patterns_in c.args.part.now) n) c.loop-k.row) all c.loop-k.invariant
