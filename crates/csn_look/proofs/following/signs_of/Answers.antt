use Rattle.std.proofs.Common.{◌≡◌, ◌<◌, Bool, length, ap, ◌∙◌, arith}
use Rattle.std.specs.FinSet as set
use Rattle.std.proofs.Math.ListN.{length-set}
use Rattle.csn_look.specs.SignsV.{SignsV}
use Rattle.csn_look.specs.FollowV.{signs_at}
use Rattle.csn_look.proofs.Handing.FollowedParts.{put_signs, signs_more}
use Rattle.csn_look.proofs.following.signs_of.Goals as goal

pub loop-octet-preserved : goal.loop-octet-preserved
loop-octet-preserved c =
    let f = c.args.following.now in
    let k = c.loop-octet.octet in
    let third = c.with_if-in-loop-octet-2.result in
    let z = c.has.result in
    let o = c.has-in-loop-octet.result in
    let e = c.has-in-loop-octet-2.result in
    let put = put_signs z o e c.empty.result c.with_if.result c.with_if-in-loop-octet.result third c.empty.ensures
    c.with_if.ensures c.with_if-in-loop-octet.ensures c.with_if-in-loop-octet-2.ensures in
    let is : third ≡ signs_at f k =
    put
    ∙ ap (λ (b : Bool). let s : SignsV = record { zero = b; one = o; end = e } in s) c.has.ensures
    ∙ ap (λ (b : Bool). let s : SignsV = record { zero = set.contains f.zero k; one = b; end = e } in s) c.has-in-loop-octet.ensures
    ∙ ap (λ (b : Bool). let s : SignsV = record { zero = set.contains f.zero k; one = set.contains f.one k; end = b } in s) c.has-in-loop-octet-2.ensures in
    let inside : k < length c.loop-octet.at = omega (arith, c.loop-octet.invariant.0, c.loop-octet-test.true) in (
      length-set c.loop-octet.at k third ∙ c.loop-octet.invariant.0,
      signs_more f c.loop-octet.at k third inside is c.loop-octet.invariant.1,
    )
