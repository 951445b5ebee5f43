use Rattle.std.proofs.Common.{◌≡◌, ℕ, ◌+◌, ◌-◌, ◌*◌, ◌^◌, ◌<◌, ◌≤◌, false, List, ap, ◌∙◌, subst, arith}
use Rattle.csn_look.specs.KeyMarks.{is_marked}
use Rattle.csn_look.specs.KeySteps.{Gains, IsAfter}
use Rattle.csn_look.proofs.Tables.Products.{room_after, after_none, after_skip, after_next}
use Rattle.csn_look.proofs.key_products.add_after_wholes.Goals as goal

-- marks between two places, by the numbers that the words write
unmarked : (first : List ℕ) (words from upto number : ℕ)
    → words + number ≡ from → ((at : ℕ) → from ≤ at → at < upto → is_marked first at ≡ false) → (k : ℕ)
    → number ≤ k → k < upto - words → is_marked first (words + k) ≡ false
unmarked first words from upto number is none k low high = none (words + k) (omega (arith, is)) (omega arith)

pub loop-at-init : goal.loop-at-init
loop-at-init c =
    let first = c.args.first.now in
    let words = c.words_of-words.result in
    let at = c.next_marked-at.result in
    record {
      low = c.next_marked-at.ensures.low;
      high = c.next_marked-at.ensures.high;
      here = c.next_marked-at.ensures.here;
      added = λ table.
          after_skip first c.args.rest.now c.args.size c.args.marks.now c.args.marks.now words 0 (at - words) c.words_of-words.ensures.value (omega arith)
          (unmarked first words words at 0 (omega arith) c.next_marked-at.ensures.none)
          (after_none first c.args.rest.now c.args.size c.args.marks.now);
    }

pub add_behind-requires-clause-within : goal.add_behind-requires-clause-within
add_behind-requires-clause-within c =
    let words = c.words_of-words.result in
    let low = c.loop-at.invariant.low in
    let number = c.loop-at.at - words in
    let back : words + number ≡ c.loop-at.at = omega arith in
    let P : ℕ → Type 0 = λ at. (at + 1) * 2 ^ (12 - c.args.size) ≤ 8192 in
    subst P back (room_after c.args.size words number c.requires.few c.words_of-words.ensures.value (omega (arith, c.loop-at-test.true)))

pub loop-at-preserved : goal.loop-at-preserved
loop-at-preserved c =
    let first = c.args.first.now in
    let rest = c.args.rest.now in
    let size = c.args.size in
    let words = c.words_of-words.result in
    let power = c.words_of-words.ensures.value in
    let at = c.loop-at.at in
    let next = c.next_marked-at-in-loop-at.result in
    let number = at - words in
    let before = c.loop-at.invariant in
    let inside = c.loop-at-test.true in
    let low = before.low in
    let further = c.next_marked-at-in-loop-at.ensures.low in
    let back : words + number ≡ at = omega arith in
    record {
      low = omega arith;
      high = c.next_marked-at-in-loop-at.ensures.high;
      here = c.next_marked-at-in-loop-at.ensures.here;
      added = λ table.
          after_skip first rest size c.args.marks.now c.add_behind.new.marks words (number + 1) (next - words) power (omega arith)
          (unmarked first words (at + 1) next (number + 1) (omega arith) c.next_marked-at-in-loop-at.ensures.none)
          (after_next first rest size c.args.marks.now c.loop-at.marks c.add_behind.new.marks words number
          c.requires.few power (omega arith) (ap (λ n. is_marked first n) back ∙ before.here inside)
          (λ word is here full. c.add_behind.ensures word is (here ∙ back) full table) (before.added table));
    }

pub returns : goal.returns
returns c = λ table.
    let high = c.loop-at.invariant.high in
    let value = c.words_of-words.ensures.value in
    let all : c.loop-at.at - c.words_of-words.result ≡ 2 ^ c.args.size = omega (arith, c.loop-at-test.false) in
    let P : ℕ → Type 0 = λ limit. Gains c.args.marks.now c.loop-at.marks (IsAfter c.args.first.now c.args.rest.now c.args.size limit) in
    subst P all (c.loop-at.invariant.added table)
