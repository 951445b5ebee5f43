use Rattle.std.proofs.Common.{◌≡◌, ◌≤◌, length, arith, inl, inr}
use Rattle.csn_json.proofs.Lines.{is_short, is_upper, no_fault_told}
use Rattle.csn_json.proofs.read.bits_of.Goals.{then-line-via-then-line, then-line-via-else-line+then-not-is_upper}
use Rattle.csn_json.proofs.read.bits_of.Goals as goal

pub returns-then-line-clause-refused : goal.returns-then-line-clause-refused
returns-then-line-clause-refused c = λ b is.
    elim c.then-line.branch [
      | then-line-via-then-line w ↦ omega (arith, w.if-line.true, is_short c.args.line.now b is)
      | then-line-via-else-line+then-not-is_upper w ↦ (let yes =
          w.is_upper.ensures.1 (is_upper c.written_is_read.ensures c.args.line.now b is) in let no =
          w.if-not-is_upper.true in absurd cc)
    ]

pub returns-in_default : goal.returns-in_default
returns-in_default c = record {
  ok = tt;
  refused = λ b is. no_fault_told c.written_is_read.ensures c.fault_or_block.ensures c.args.line.now b c.in-Err.fault
      is c.in_default.not-NoMemory c.in-Err.ensures.refused;
}
