use Rattle.std.proofs.Common.{◌≡◌, ◌<◌, ◌+◌, ◌*◌, ℕ, Bool, refl, sym, ap, ◌∙◌, subst, arith}
use Rattle.std.specs.Prelude.{◌^◌}
use Rattle.csn_desc.specs.Nodes.{DescV}
use Rattle.csn_look.specs.FollowV.{IsFollowOf}
use Rattle.csn_look.specs.Reached.{InFollow}
use Rattle.csn_certmake.specs.Digits.{with_digit, DigitsAre}
use Rattle.csn_certmake.proofs.Writing.{AtPlace, three_more, small_three, small_more, small_enough, follow_told}
use Rattle.csn_certmake.proofs.digits.follow_digits.Goals as goal

pub with_digit-zero-requires : goal.with_digit-zero-requires
with_digit-zero-requires c = small_enough (3 * c.loop-octet.octet) c.loop-octet.digits c.loop-octet.invariant.0 (omega (arith, c.loop-octet-test.true))

pub with_digit-one-requires : goal.with_digit-one-requires
with_digit-one-requires c =
    let place : ℕ = 3 * c.loop-octet.octet in
    let small = small_more place (place + 1) c.loop-octet.digits c.may_follow.result (omega arith) c.loop-octet.invariant.0 in
    small_enough (place + 1) c.with_digit-zero.result
    (subst (λ (n : ℕ). n < 2 ^ (place + 1)) (sym c.with_digit-zero.ensures) small)
    (omega (arith, c.loop-octet-test.true))

pub with_digit-digits-requires : goal.with_digit-digits-requires
with_digit-digits-requires c =
    let place : ℕ = 3 * c.loop-octet.octet in
    let zero : Bool = c.may_follow.result in
    let one : Bool = c.may_follow-in-loop-octet.result in
    let first = small_more place (place + 1) c.loop-octet.digits zero (omega arith) c.loop-octet.invariant.0 in
    let small = small_more (place + 1) (place + 2) (with_digit c.loop-octet.digits zero) one (omega arith) first in
    let is : c.with_digit-one.result ≡ with_digit (with_digit c.loop-octet.digits zero) one = c.with_digit-one.ensures
    ∙ ap (λ (n : ℕ). with_digit n one) c.with_digit-zero.ensures in
    small_enough (place + 2) c.with_digit-one.result (subst (λ (n : ℕ). n < 2 ^ (place + 2)) (sym is) small) (omega (arith, c.loop-octet-test.true))

pub loop-octet-preserved : goal.loop-octet-preserved
loop-octet-preserved c =
    let octet = c.loop-octet.octet in
    let digits = c.loop-octet.digits in
    let zero : Bool = c.may_follow.result in
    let one : Bool = c.may_follow-in-loop-octet.result in
    let end : Bool = c.may_follow-in-loop-octet-2.result in
    let reach = c.args.reach.now in
    let node = c.args.node in
    let is : c.with_digit-digits.result ≡ with_digit (with_digit (with_digit digits zero) one) end =
    c.with_digit-digits.ensures ∙ ap (λ (n : ℕ). with_digit n end) (c.with_digit-one.ensures ∙ ap (λ (n : ℕ). with_digit n one) c.with_digit-zero.ensures) in
    subst (λ (n : ℕ). (n < 2 ^ (3 * (octet + 1)))
    × ((d : DescV) → IsFollowOf d reach.follow → DigitsAre (3 * (octet + 1)) n (AtPlace (InFollow d node))))
    (sym is) (
      small_three octet (octet + 1) digits zero one end refl c.loop-octet.invariant.0,
      λ d known.
          three_more (InFollow d node) octet (octet + 1) digits zero one end refl (c.loop-octet.invariant.1 d known)
          (c.may_follow.ensures d known) (c.may_follow-in-loop-octet.ensures d known) (c.may_follow-in-loop-octet-2.ensures d known),
    )

pub returns-clause-follow : goal.returns-clause-follow
returns-clause-follow c = λ d known.
    let all : 3 * c.loop-octet.octet ≡ 24 = omega (arith, c.loop-octet-test.false, c.loop-octet.auto.octet-end) in
    follow_told (InFollow d c.args.node) c.loop-octet.digits
    (subst (λ (n : ℕ). DigitsAre n c.loop-octet.digits (AtPlace (InFollow d c.args.node))) all
    (c.loop-octet.invariant.1 d known))
