use Rattle.std.proofs.Common.{rules, ◌≡◌, ◌∙◌, IsTrue, ap, sym, arith}
use Rattle.std.specs.Fmt.{decimal}
use Rattle.std.proofs.lemmas.Fmt.{parse-decimal}
use Rattle.csn_command.proofs.command.blocks_of.Goals.{else-blocks-gt0-via-then-blocks-gt0+then-blocks-le-MOST_BLOCKS+else-eq}
use Rattle.csn_command.proofs.command.blocks_of.Goals.{else-blocks-gt0-via-then-blocks-gt0+else-blocks-le-MOST_BLOCKS}
use Rattle.csn_command.proofs.command.blocks_of.Goals.{else-blocks-gt0-via-else-blocks-gt0}
use Rattle.csn_command.proofs.command.blocks_of.Goals as goal

pub returns-in_default-clause-none : goal.returns-in_default-clause-none
returns-in_default-clause-none c = λ n is some few.
    let read = parse-decimal 32 n c.args.word.now c.parse.result (omega (arith, few)) (omega (arith, few)) is c.parse.ensures.value.0 in
    absurd (cc (read, c.in_default.is))

pub returns-else-blocks-gt0-clause-none : goal.returns-else-blocks-gt0-clause-none
returns-else-blocks-gt0-clause-none c = λ n is some few.
    let read = parse-decimal 32 n c.args.word.now c.parse.result (omega (arith, few)) (omega (arith, few)) is c.parse.ensures.value.0 in
    let same : c.in-Ok.blocks ≡ n = cc (read, c.in-Ok.is) in
    elim c.else-blocks-gt0.branch [
      | else-blocks-gt0-via-then-blocks-gt0+then-blocks-le-MOST_BLOCKS+else-eq w ↦
          let written : w.format.result.now ≡ c.args.word.now = w.format.ensures.text ∙ ap decimal same ∙ sym is in
          let yes : IsTrue w.eq.result = search (rules, written) in
          absurd (cc (yes, w.if-eq.false))
      | else-blocks-gt0-via-then-blocks-gt0+else-blocks-le-MOST_BLOCKS w ↦ absurd (search (rules, same, few))
      | else-blocks-gt0-via-else-blocks-gt0 w ↦ absurd (search (rules, same, some))
    ]
