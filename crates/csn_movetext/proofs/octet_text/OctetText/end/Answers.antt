use Rattle.std.proofs.Common.{◌≡◌, ℕ, List, ◌++◌, take, Ok, Err, ap, subst, arith}
use Rattle.csn_bits.specs.Octets.{bits_of_octet}
use Rattle.csn_desc.specs.Nodes.{DescV}
use Rattle.csn_json.specs.declared.form.TreeForm.{TreeForm}
use Rattle.csn_judge.specs.declared.fed.Fed.TheVariants.{NoMemory}
use Rattle.csn_movetext.specs.declared.fault.BlockFault.TheVariants as fault
use Rattle.csn_judge.specs.Following.{IsNoString}
use Rattle.csn_movetext.specs.Blocks.{BlockV, WritesFor, AddsText, Ends}
use Rattle.csn_movetext.proofs.LineFacts.{goes_on_within, bits_with}
use Rattle.csn_movetext.proofs.StepFacts.{steps_to_end}
use Rattle.csn_movetext.proofs.octet_text.OctetText.end.Goals as goal

pub returns-in-Ok-clause-ends : goal.returns-in-Ok-clause-ends
returns-in-Ok-clause-ends g c =
    let old : BlockV = c.args.self.now.block in
    let fed : BlockV = c.feed-fed.new.self in
    let bits : List ℕ = take c.args.bits (bits_of_octet c.args.octet) in
    let F : TreeForm → List ℕ → Type 0 = λ f b. AddsText f old.desc b c.args.out.now.items c.next_block.new.out.items in
    let D : DescV → List ℕ → Type 0 = λ d b. AddsText fed.form d b c.args.out.now.items c.next_block.new.out.items in
    λ b count writes.
    let fits : ¬ (fed.answer ≡ NoMemory) = λ wants. let clash : Ok c.in-Ok.field-0 ≡ Err fault.NoMemory = c.in-Ok.ensures.no_memory wants in absurd (cc) in
    let for : WritesFor fed (b ++ bits) =
    goes_on_within old fed c.args.octet c.args.bits c.from-2.result c.feed-fed.result c.from-2.ensures
    c.feed-fed.ensures.answer c.feed-fed.ensures.stays c.feed-fed.ensures.writes b writes fits in (
      omega (arith, c.from.ensures, bits_with b c.args.self.now.octets c.args.octet c.args.bits count c.requires.within),
      subst (λ f. F f (b ++ bits)) c.feed-fed.ensures.form (subst (λ d. D d (b ++ bits)) c.feed-fed.ensures.desc (c.in-Ok.ensures.text (b ++ bits) for)),
    )

pub returns-in-Err-Refused-clause-ends : goal.returns-in-Err-Refused-clause-ends
returns-in-Err-Refused-clause-ends g c =
    let old : BlockV = c.args.self.now.block in
    let fed : BlockV = c.feed-fed.new.self in
    let bits : List ℕ = take c.args.bits (bits_of_octet c.args.octet) in
    let refused : Ends fed (Err (fault.Refused c.in-Err-Refused.place)) =
    subst (λ y. Ends fed (Err y)) c.in-Err-Refused.field-0-is c.in-Err-Refused.ensures.why in
    λ b count writes.
    let fits : ¬ (fed.answer ≡ NoMemory) = λ wants.
    let is : Err c.in-Err-Refused.field-0 ≡ Err fault.NoMemory = c.in-Err-Refused.ensures.no_memory wants in
    let place : c.in-Err-Refused.field-0 ≡ fault.Refused c.in-Err-Refused.place = c.in-Err-Refused.field-0-is in absurd (cc) in
    let for : WritesFor fed (b ++ bits) =
    goes_on_within old fed c.args.octet c.args.bits c.from-2.result c.feed-fed.result c.from-2.ensures
    c.feed-fed.ensures.answer c.feed-fed.ensures.stays c.feed-fed.ensures.writes b writes fits in (
      omega (arith, c.from.ensures, bits_with b c.args.self.now.octets c.args.octet c.args.bits count c.requires.within),
      subst (λ d. IsNoString d (b ++ bits) c.in-Err-Refused.place) c.feed-fed.ensures.desc (refused (b ++ bits) for),
      c.in-Err-Refused.ensures.same c.in-Err-Refused.place (ap (λ y. Err y) c.in-Err-Refused.field-0-is),
    )

pub returns-in-Ok-clause-steps : goal.returns-in-Ok-clause-steps
returns-in-Ok-clause-steps g c =
    steps_to_end c.args.self.now.block c.feed-fed.new.self _ _ _ _ _ c.from-2.ensures c.feed-fed.ensures.desc
    c.feed-fed.ensures.steps c.next_block.ensures.steps

pub returns-in-Err-Refused-clause-steps : goal.returns-in-Err-Refused-clause-steps
returns-in-Err-Refused-clause-steps g c =
    steps_to_end c.args.self.now.block c.feed-fed.new.self _ _ _ _ _ c.from-2.ensures c.feed-fed.ensures.desc
    c.feed-fed.ensures.steps c.next_block.ensures.steps

pub returns-in-Err-NoMemory-clause-steps : goal.returns-in-Err-NoMemory-clause-steps
returns-in-Err-NoMemory-clause-steps g c =
    steps_to_end c.args.self.now.block c.feed-fed.new.self _ _ _ _ _ c.from-2.ensures c.feed-fed.ensures.desc
    c.feed-fed.ensures.steps c.next_block.ensures.steps
