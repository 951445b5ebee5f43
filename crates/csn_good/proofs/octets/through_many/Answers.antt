use Rattle.std.proofs.Common.{◌≡◌, ◌<◌, ℕ, Bool, List, true, false, inr, refl, IsTrue, sym, subst}
use Rattle.std.specs.Prelude.{slice_set}
use Rattle.csn_good.specs.ClaimedSets.{claims_of}
use Rattle.csn_good.specs.Octets.{has_octet}
use Rattle.csn_good.proofs.EndsTold.{ends_small, unset, unset-set, many_begin, many_on, many_done}
use Rattle.csn_good.proofs.octets.through_many.Goals as goal

fewer : (old new : List Bool) (end : ℕ) → has_octet old end ≡ false → IsTrue (has_octet new end) → new ≡ slice_set old end true → unset new < unset old
fewer old new end is there same =
    subst (λ l. unset l < unset old) (sym same) (unset-set old end is (subst (λ l. IsTrue (has_octet l end)) same there))

pub loop-end-init : goal.loop-end-init
loop-end-init c = many_begin (claims_of c.args.c.now) (ends_small c.args.c.now) c.args.i c.args.from.now.has

pub loop-end-preserved : goal.loop-end-preserved
loop-end-preserved c =
    many_on (claims_of c.args.c.now) (ends_small c.args.c.now) c.args.i c.in-Some.end c.args.from.now.has
    c.loop-end.ends.has c.with-ends.result.has c.with-ends.ensures.members c.in-Some.ensures.some.2
    c.loop-end.invariant

pub loop-end-smaller : goal.loop-end-smaller
loop-end-smaller c =
    let told = c.in-Some.ensures.some in
    fewer c.loop-end.ends.has c.with-ends.result.has c.in-Some.end told.1
    ((c.with-ends.ensures.members c.in-Some.end told.0).1 (inr refl)) c.with-ends.ensures.same

pub returns : goal.returns
returns c =
    many_done (claims_of c.args.c.now) (ends_small c.args.c.now) c.args.i c.args.from.now.has c.loop-end.ends.has
    c.in_default.ensures.none c.loop-end.invariant
