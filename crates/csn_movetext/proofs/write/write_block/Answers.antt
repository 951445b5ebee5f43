use Rattle.std.proofs.Common.{◌≡◌, ℕ, List, take, refl, subst, ◌∙◌}
use Rattle.csn_bits.specs.Octets.{bits_of_octets}
use Rattle.csn_desc.specs.Nodes.{DescV}
use Rattle.csn_json.specs.declared.form.TreeForm.{TreeForm}
use Rattle.csn_movetext.specs.Blocks.{AddsText, IsFaultOf}
use Rattle.csn_movetext.proofs.BlockFacts.{whole_text, whole_fault}
use Rattle.csn_movetext.proofs.write.write_block.Goals as goal

pub returns-in-Ok-clause-text : goal.returns-in-Ok-clause-text
returns-in-Ok-clause-text g c =
    let more : List ℕ = take c.args.bits (bits_of_octets c.args.octets.now) in
    let bytes : c.feed-fed.new.self.before ≡ c.args.out.now.items = c.feed-fed.ensures.before
    ∙ c.new-text.ensures.before ∙ (rw c.replace.ensures.value refl) in
    let desc : c.feed-fed.new.self.desc ≡ c.args.plan.now = c.feed-fed.ensures.desc ∙ c.new-text.ensures.desc in
    let form : c.feed-fed.new.self.form ≡ c.args.openings.now.form = c.feed-fed.ensures.form ∙ c.new-text.ensures.form in
    let B : List ℕ → Type 0 = λ l. AddsText c.args.openings.now.form c.args.plan.now more l c.in-Ok.written.items in
    let D : DescV → Type 0 = λ d. AddsText c.args.openings.now.form d more c.feed-fed.new.self.before c.in-Ok.written.items in
    let F : TreeForm → Type 0 = λ f. AddsText f c.feed-fed.new.self.desc more c.feed-fed.new.self.before c.in-Ok.written.items in
    subst B bytes (subst D desc (subst F form
    (whole_text c.new-text.result c.feed-fed.new.self more c.feed-fed.result c.in-Ok.written.items c.new-text.ensures.writes c.feed-fed.ensures.writes
    (λ wanting. c.in-Ok.ensures.no_memory (c.feed-fed.ensures.answer ∙ wanting)) c.in-Ok.ensures.text)))

pub returns-in-Err-clause-why : goal.returns-in-Err-clause-why
returns-in-Err-clause-why g c =
    let more : List ℕ = take c.args.bits (bits_of_octets c.args.octets.now) in
    let desc : c.feed-fed.new.self.desc ≡ c.args.plan.now = c.feed-fed.ensures.desc ∙ c.new-text.ensures.desc in
    let D : DescV → Type 0 = λ d. IsFaultOf d more c.in-Err.field-0.why in
    subst D desc
    (whole_fault c.new-text.result c.feed-fed.new.self more c.feed-fed.result c.in-Err.field-0.why
    c.feed-fed.ensures.desc c.new-text.ensures.writes c.feed-fed.ensures.writes
    (λ wanting. c.in-Err.ensures.no_memory (c.feed-fed.ensures.answer ∙ wanting)) c.in-Err.ensures.why)
