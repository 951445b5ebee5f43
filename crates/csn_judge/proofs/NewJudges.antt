-- A judge that begins, new or behind another block, stands for no bits.
use Rattle.std.proofs.Common.{◌≡◌, false, [], ◌∷◌, reverse, None, refl, sym, ap, subst, arith}
use Rattle.csn_desc.specs.Nodes.{DescV}
use Rattle.csn_desc.specs.Laws.{EmptyBlocksAreFollowed}
use Rattle.csn_judge.specs.declared.frame.Frame.TheVariants as frame
use Rattle.csn_judge.specs.declared.machine.Machine.{Machine}
use Rattle.csn_judge.specs.declared.judge.Judge.TheInside.{Inside}
use Rattle.csn_judge.specs.Known.{Known}
use Rattle.csn_judge.specs.Left.{all_left}
use Rattle.csn_judge.specs.Turns.{state_of, Stands}
use Rattle.csn_judge.specs.Judging.{held_of, judge_of, IsJudge, JudgesFor, judges_on}
use Rattle.csn_judge.proofs.JudgingFacts.{new_stands, new_goes}
use Rattle.csn_judge.proofs.Turning.{moving}
use Rattle.csn_judge.proofs.Verdicts.{stands_new}

abbrev pub new_judge : Machine → Inside
new_judge machine = record { machine = machine; held = record { number = 0; count = 0 }; place = 0; limit = 4294967295; seen = 0; refused = None }

module _ (machine : Machine) {d : DescV} (plan : machine.plan.now ≡ d) (known_there : Known d)
    (frames : machine.frames.items ≡ frame.Begin 0 ∷ []) (values : machine.values.items ≡ [])
    (pace : machine.pace ≡ record { next = 1; again = false }) where
  known : Known machine.plan.now
  known = let P : DescV → Type 0 = λ d. Known d in subst P (sym plan) known_there

  begun : Stands machine.plan.now (state_of machine (held_of (new_judge machine))) (all_left 0 [] ∷ []) []
  begun = new_stands machine.plan.now known _ (ap reverse frames) values pace refl

  pub is_judge : IsJudge (new_judge machine)
  is_judge =
      record {
        few = omega arith;
        small = omega arith;
        seen_is = λ e. refl;
        inside = omega arith;
        stands = λ e. record { known = known; stack = all_left 0 [] ∷ []; done = []; stands = begun };
      }

  pub judges_none : EmptyBlocksAreFollowed → JudgesFor (judge_of (new_judge machine)) [] []
  judges_none empties =
      judges_on (all_left 0 [] ∷ []) [] refl refl refl begun
      (stands_new machine.plan.now (moving machine.plan.now known))
      (new_goes machine.plan.now (empties machine.plan.now known.description))
      (λ some. absurd (omega (arith, some)))
