use Rattle.std.proofs.Common.{◌≡◌, ◌∙◌, ℕ, List, ap, take, subst, OnOk, IfErr}
use Rattle.csn_bits.specs.Octets.{bits_of_octets}
use Rattle.csn_desc.specs.Nodes.{DescV}
use Rattle.csn_json.specs.declared.form.TreeForm.{TreeForm}
use Rattle.csn_movetext.specs.Blocks.{AddsText, IsFaultOf}
use Rattle.csn_plan.proofs.text_plan.TextPlan.write_counted.Goals as goal

pub returns-clause-text : goal.returns-clause-text
returns-clause-text g c =
    let all : take c.len.result (bits_of_octets c.octets.result.now) ≡ c.args.bits.now =
    ap (λ n. take n (bits_of_octets c.octets.result.now)) c.len.ensures.count ∙ c.octets.ensures.bits in
    let In : TreeForm → Type 0 = λ f. OnOk c.write_block.result
    (AddsText f c.args.self.now c.args.bits.now c.args.out.now.items c.write_block.new.out.items) in
    let Adds : List ℕ → Type 0 = λ b. OnOk c.write_block.result
    (AddsText c.openings.result.now.form c.plan.result.now b c.args.out.now.items c.write_block.new.out.items) in
    let By : DescV → Type 0 = λ d. OnOk c.write_block.result
    (AddsText c.openings.result.now.form d c.args.bits.now c.args.out.now.items c.write_block.new.out.items) in
    subst In c.openings.ensures.form (subst By c.plan.ensures.plan (subst Adds all c.write_block.ensures.text))

pub returns-clause-why : goal.returns-clause-why
returns-clause-why g c =
    let all : take c.len.result (bits_of_octets c.octets.result.now) ≡ c.args.bits.now =
    ap (λ n. take n (bits_of_octets c.octets.result.now)) c.len.ensures.count ∙ c.octets.ensures.bits in
    let Faults : List ℕ → Type 0 = λ b. IfErr c.write_block.result (IsFaultOf c.plan.result.now b) in
    let By : DescV → Type 0 = λ d. IfErr c.write_block.result (IsFaultOf d c.args.bits.now) in
    subst By c.plan.ensures.plan (subst Faults all c.write_block.ensures.why)
