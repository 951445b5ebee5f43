use Rattle.std.proofs.Common.{ap, arith}
use Rattle.std.proofs.lemmas.List.{drop_all}
use Rattle.std.proofs.lemmas.Bool.{both_ways}
use Rattle.csn_grammar.specs.ExprV.{BranchV}
use Rattle.csn_resolve.proofs.Basics.Parts.{drop_at}
use Rattle.csn_resolve.proofs.Giving.KeptFacts.{only-first, only-past, only-second, only-all}
use Rattle.csn_resolve.proofs.build.Builder.only_kept.Goals as goal

pub returns-then-is_some : goal.returns-then-is_some
returns-then-is_some c =
    only-second c.args.self.now.names.now c.args.self.now.reading c.args.branches.now c.loop-at.only c.if-is_some.ensures
    (drop_at c.args.branches.now c.loop-at.at c.get-branch.result.now c.get-branch.ensures) (c.is_kept.ensures.0 c.if-not-is_kept.false) c.loop-at.invariant

pub loop-at-preserved-then-not-is_kept : goal.loop-at-preserved-then-not-is_kept
loop-at-preserved-then-not-is_kept c =
    only-past c.args.self.now.names.now c.args.self.now.reading c.args.branches.now
    (drop_at c.args.branches.now c.loop-at.at c.get-branch.result.now c.get-branch.ensures)
    (λ k. both_ways _ c.if-not-is_kept.true (c.is_kept.ensures.1 k)) c.loop-at.invariant

pub loop-at-preserved : goal.loop-at-preserved
loop-at-preserved c =
    only-first c.args.self.now.names.now c.args.self.now.reading c.args.branches.now c.loop-at.only _ c.if-is_some.ensures
    (drop_at c.args.branches.now c.loop-at.at c.get-branch.result.now c.get-branch.ensures) (c.is_kept.ensures.0 c.if-not-is_kept.false)
    (ap (λ (z : BranchV). z.body) c.branch.view_is) c.loop-at.invariant

pub returns : goal.returns
returns c =
    only-all c.args.self.now.names.now c.args.self.now.reading c.args.branches.now c.loop-at.only
    (drop_all c.loop-at.at c.args.branches.now (omega (arith, c.len-at-end.ensures.len))) c.loop-at.invariant
