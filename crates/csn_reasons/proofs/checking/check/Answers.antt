use Rattle.std.proofs.Common.{◌≡◌, ℕ, List, [], ◌∷◌, ◌++◌, inl, inr, refl}
use Rattle.csn_plan.specs.declared.ended.Ended.{Ended}
use Rattle.csn_plan.specs.declared.ended.Ended.TheVariants.{Done}
use Rattle.csn_plan.specs.Compiled.{Tells, certified_line}
use Rattle.csn_reasons.specs.Answers.{IsAnswer}
use Rattle.csn_reasons.proofs.Answered.{told, if_ok_more}
use Rattle.csn_reasons.proofs.checking.check.Goals as goal

pub returns-in-Ok : goal.returns-in-Ok
returns-in-Ok c = record {
  answer = if_ok_more c.tell_certified.result
      (λ (ended : Ended). (ended ≡ Done) × (c.tell_certified.new.out.items ≡ c.args.out.now.items ++ certified_line c.in-Ok.plan ++ 10 ∷ []))
      (λ (ended : Ended). (line : List ℕ) × (words : List ℕ) × (c.tell_certified.new.out.items ≡ c.args.out.now.items ++ line ++ 10 ∷ words)
      × IsAnswer c.args.asked.text.now c.args.asked.name.now c.args.asked.reading line ended)
      (λ ended h. (certified_line c.in-Ok.plan, [], h.1, inl (c.in-Ok.ensures.plan.0, c.in-Ok.plan, c.in-Ok.ensures.plan.1, refl, h.0)))
      c.tell_certified.ensures;
}

pub returns-in_ok-words-in-Err : goal.returns-in_ok-words-in-Err
returns-in_ok-words-in-Err c = record {
  answer = if_ok_more c.tell_reason.result
      (λ (ended : Ended). (line : List ℕ) × (c.tell_reason.new.out.items ≡ c.args.out.now.items ++ line ++ 10 ∷ c.as_slice.result.now)
      × Tells c.in-Err.reason line ended)
      (λ (ended : Ended). (line : List ℕ) × (words : List ℕ) × (c.tell_reason.new.out.items ≡ c.args.out.now.items ++ line ++ 10 ∷ words)
      × IsAnswer c.args.asked.text.now c.args.asked.name.now c.args.asked.reading line ended)
      (λ ended h. (
        h.0,
        c.as_slice.result.now,
        h.1,
        inr (told c.args.asked.text.now c.args.asked.name.now c.args.asked.reading c.in-Err.reason h.0 ended c.in-Err.ensures.none h.2),
      ))
      c.tell_reason.ensures;
}
