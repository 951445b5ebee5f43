use Rattle.std.proofs.Common.{◌≡◌, ◌++◌, length, ap, ◌∙◌, append_assoc, arith}
use Rattle.csn_lines.proofs.AnswerLemmas.{cut_back}
use Rattle.csn_lines.proofs.lines.Lines.end_input.Goals as goal

pub returns-in-Err-clause-err : goal.returns-in-Err-clause-err
returns-in-Err-clause-err g c =
    let ended = c.in_ok-end_line.ensures.ok c.requires.0 c.requires.1 in
    let left = c.in-Err.ensures.err in
    let start : c.len-start.result ≡ length c.args.self.now.pending.items = omega (arith, c.len-start.ensures, c.args.self.now.pending.ok) in
    cut_back c.args.self.now.pending.items c.close.new.out.items _ (ended.1.text ++ left.0) c.len-start.result
    (left.1 ∙ ap (λ l. l ++ left.0) ended.1.new_is ∙ append_assoc c.args.self.now.pending.items ended.1.text
    left.0) c.truncate.ensures.items start

pub returns-clause-ok : goal.returns-clause-ok
returns-clause-ok g c = λ line stands.
    let ended = c.in_ok-end_line.ensures.ok line stands in
    record {
      between = c.end_line.new.self.pending.items;
      after = _;
      refused = ended.0;
      adds = ended.1;
      closed = c.in_default.ensures.ok;
      refused_is = ended.2;
    }
