use Rattle.std.proofs.Common.{◌≡◌, ℕ, ◌+◌, ◌-◌, ◌≤◌, length, subst, arith}
use Rattle.csn_certify.specs.Search.{IsLeastFrom}
use Rattle.csn_certify.specs.Overlaps.{HasKeyFrom, Overlaps}
use Rattle.csn_look.specs.KeyMarks.{KeysAre}
use Rattle.csn_certify.proofs.SearchFacts.{denied}
use Rattle.csn_certify.proofs.OverlapSearch.{AreLater, keys_none, least_none, least_stays, least_here}
use Rattle.csn_certify.proofs.search.Search.first_overlapping.Goals as goal

pub meets_later-requires-clause-within : goal.meets_later-requires-clause-within
meets_later-requires-clause-within c = omega (arith, c.len-i.ensures.len, c.loop-i-test.true)

pub meets_later-requires-clause-later : goal.meets_later-requires-clause-later
meets_later-requires-clause-later c =
    let next : c.loop-i.i ≡ c.loop-i.i - 1 + 1 = omega (arith, c.loop-i-test.true) in
    subst (λ (n : ℕ). KeysAre c.loop-i.later (HasKeyFrom c.args.self.now.desc.now c.args.octet c.args.choice.now.parts.now n)) next c.loop-i.invariant.0

pub loop-i-init : goal.loop-i-init
loop-i-init c =
    let d = c.args.self.now.desc.now in
    let all : length c.args.choice.now.parts.now ≤ c.len-i.result = omega (arith, c.len-i.ensures.len) in (
      keys_none d c.args.octet c.args.choice.now.parts.now c.in_ok-later.later c.len-i.result all c.in_ok-later.ensures,
      least_none d c.args.octet c.args.choice.now.parts.now c.len-i.result all,
    )

pub loop-i-preserved-then-meets : goal.loop-i-preserved-then-meets
loop-i-preserved-then-meets c =
    let i = c.loop-i.i - 1 in (
      c.in_ok-meets.ensures.later,
      least_here c.args.self.now.desc.now c.args.octet c.args.choice.now.parts.now i (c.in_ok-meets.ensures.meets.0 c.if-meets.true),
    )

pub loop-i-preserved : goal.loop-i-preserved
loop-i-preserved c =
    let d = c.args.self.now.desc.now in
    let parts = c.args.choice.now.parts.now in
    let o = c.args.octet in
    let i = c.loop-i.i - 1 in
    let next : c.loop-i.i ≡ i + 1 = omega (arith, c.loop-i-test.true) in
    let before = subst (AreLater d o parts c.loop-i.later c.loop-i.first) next c.loop-i.invariant in (
      c.in_ok-meets.ensures.later,
      least_stays d o parts i c.loop-i.first (denied c.in_ok-meets.meets (Overlaps d o parts i) c.in_ok-meets.ensures.meets c.if-meets.false) before.1,
    )

pub returns : goal.returns
returns c =
    let d = c.args.self.now.desc.now in
    let parts = c.args.choice.now.parts.now in
    let o = c.args.octet in
    let last : c.loop-i.i ≡ 0 = omega (arith, c.loop-i-test.false) in
    subst (λ (n : ℕ). IsLeastFrom n (Overlaps d o parts) c.loop-i.first) last c.loop-i.invariant.1
