use Rattle.std.proofs.Common.{◌≡◌, ℕ, ◌||◌, nat_eq, length, ap, ◌∙◌, arith, subst}
use Rattle.csn_look.specs.KeyMarks.{is_marked}
use Rattle.csn_look.specs.KeySteps.{Gains}
use Rattle.csn_look.proofs.Tables.Products.{OfSize, of_size_none, of_size_next, of_size_all}
use Rattle.csn_look.proofs.Tables.StartsMade.{extended}
use Rattle.csn_look.proofs.key_products.add_words.Goals as goal

pub loop-number-init : goal.loop-number-init
loop-number-init c = λ size power few. of_size_none size c.args.whole c.args.marks.now

pub loop-number-preserved : goal.loop-number-preserved
loop-number-preserved c = λ size power few.
    of_size_next size c.args.whole c.args.marks.now c.loop-number.marks c.set_mark.new.marks c.args.words
    c.loop-number.number few power c.loop-number-test.true
    (λ n. c.set_mark.ensures n ∙ ap (λ m. nat_eq n m || is_marked c.loop-number.marks n) c.key_mark.ensures) (c.loop-number.invariant size power few)

pub returns : goal.returns
returns c = λ size power few.
    let same : c.loop-number.number ≡ c.args.words = omega arith in
    let P : ℕ → Type 0 = λ limit. Gains c.args.marks.now c.loop-number.marks (OfSize size c.args.whole limit) in
    extended c.args.marks.now c.loop-number.marks c.mark_starts.new.marks (λ word mark. (length word ≡ size) × (mark ≡ c.args.whole))
    (of_size_all size c.args.whole c.args.marks.now c.loop-number.marks c.args.words power (subst P same (c.loop-number.invariant size power few)))
    c.mark_starts.ensures (omega arith)
