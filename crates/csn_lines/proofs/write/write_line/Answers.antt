use Rattle.std.proofs.Common.{◌++◌, codes, refl, subst}
use Rattle.csn_bits.specs.Line.{written}
use Rattle.csn_desc.specs.Formed.{IsDescription}
use Rattle.csn_encode.specs.Encoding.{IsBlockOf}
use Rattle.csn_lines.specs.OutLine.{writes_block}
use Rattle.csn_lines.proofs.FormLemmas.{block_is_read}
use Rattle.csn_lines.proofs.write.write_line.Goals as goal

pub returns-clause-ok : goal.returns-clause-ok
returns-clause-ok c =
    let found = c.in-Some.ensures in
    let plan = c.args.plan.now in
    let is : IsDescription plan = subst IsDescription c.plan-certified.ensures.plan c.len-count.ensures.description in
    let block : IsBlockOf plan found.0 c.in-Some.bits = subst (λ d. IsBlockOf d found.0 c.in-Some.bits) c.plan-certified.ensures.plan found.2 in (
      codes "ok " ++ written c.in-Some.bits,
      c.in_ok-answer_block.ensures.ok,
      writes_block found.0 c.in-Some.bits
          (block_is_read c.known.ensures c.args.form plan c.in-Some.bits found.0 c.args.line.now is c.plan-certified.ensures.labels block found.1)
          block.within block.means refl,
      refl,
    )

pub returns-in_default-clause-ok : goal.returns-in_default-clause-ok
returns-in_default-clause-ok c = rw c.plan-certified.ensures.plan at c.write_by_tree.ensures.ok
