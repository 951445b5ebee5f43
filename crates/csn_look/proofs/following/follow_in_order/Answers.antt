use Rattle.std.proofs.Common.{◌≡◌, ℕ, suc, ◌-◌, List, drop, Option, refl, sym, subst, arith}
use Rattle.csn_look.specs.FollowV.{SaysFollow, in_order}
use Rattle.csn_look.specs.Reached.{PartFollow}
use Rattle.csn_look.proofs.Sets.LookFacts.{known_sets}
use Rattle.csn_look.proofs.Sets.Telling.{PartsSetsAre, last_none, last_more}
use Rattle.csn_look.proofs.Sets.LeavesTell.{no_parts}
use Rattle.csn_look.proofs.Sets.PartsTell.{more_parts}
use Rattle.csn_look.proofs.Handing.ReachedParts.{kept_more}
use Rattle.csn_look.proofs.Handing.FollowedParts.{put_last, put_before, says_in_order}
use Rattle.csn_look.proofs.following.follow_in_order.Goals as goal

pub loop-at-init : goal.loop-at-init
loop-at-init c =
    let parts = c.args.parts.now in
    let end = c.len-at.result in
    let none = c.no_bits-rest.ensures in (
      (λ i beside. refl),
      (λ d k look says. (
        subst (λ (ps : List ℕ). PartsSetsAre d ps c.no_bits-rest.result) (sym (last_none parts end c.len-at.ensures.len))
            (no_parts d c.no_bits-rest.result
            (record {
              nullable = none.nullable;
              whole_empty = none.whole_empty;
              cut_empty =
                  none.cut_empty;
              lengths = none.lengths;
              zero = none.zero;
              one = none.one;
            })),
        put_last parts end c.args.table.now (λ j p. PartFollow d (in_order c.args.ends_early parts) k (drop (suc j) parts) p) c.len-at.ensures.len,
      )),
    )

pub loop-at-preserved : goal.loop-at-preserved
loop-at-preserved c =
    let parts = c.args.parts.now in
    let at = c.loop-at.at in
    let part = c.get-part.result in
    let f = c.ahead_of.result in
    let then = c.then-rest.ensures in
    let next : at ≡ suc (at - 1) = omega (arith, c.loop-at-test.true) in (
      kept_more parts c.args.table.now c.loop-at.table (at - 1) part f c.get-part.ensures c.loop-at.invariant.0,
      (λ d k look says.
          let h = c.loop-at.invariant.1 d k look says in
          let Q : ℕ → ℕ → ℕ → Option ℕ → Type 0 = λ j p. PartFollow d (in_order c.args.ends_early parts) k (drop (suc j) parts) p in
          let here = says_in_order d c.args.ends_early parts (drop at parts) k part c.loop-at.rest _ c.args.above f
          h.0 refl refl refl says c.ahead_of.ensures in (
            subst (λ (ps : List ℕ). PartsSetsAre d ps c.then-rest.result) (sym (last_more parts at part c.loop-at-test.true c.get-part.ensures))
                (more_parts d part (drop at parts) c.of.result c.loop-at.rest c.then-rest.result
                (known_sets d c.args.look.now.sets part c.of.result look c.of.ensures) h.0
                (record {
                  nullable = then.nullable;
                  whole_empty = then.whole_empty;
                  cut_empty =
                      then.cut_empty;
                  lengths = then.lengths;
                  zero = then.zero;
                  one = then.one;
                })),
            put_before parts at part c.loop-at.table f Q c.requires.once c.loop-at-test.true c.get-part.ensures
                (omega (arith, c.requires.below (at - 1) part c.get-part.ensures))
                (subst (λ (n : ℕ). SaysFollow f (PartFollow d (in_order c.args.ends_early parts) k (drop n parts) part)) next here) h.1,
          )),
    )

pub returns-clause-follows : goal.returns-clause-follows
returns-clause-follows c = λ d k look says j p get. (c.loop-at.invariant.1 d k look says).1 j p (omega (arith, c.loop-at-test.false)) get

pub returns-clause-others : goal.returns-clause-others
returns-clause-others c = c.loop-at.invariant.0

pub bounds-table-part : goal.bounds-table-part
bounds-table-part c = omega (arith, c.requires.below (c.loop-at.at - 1) c.get-part.result c.get-part.ensures)

pub of-requires : goal.of-requires
of-requires c = c.requires.known (c.loop-at.at - 1) c.get-part.result c.get-part.ensures
