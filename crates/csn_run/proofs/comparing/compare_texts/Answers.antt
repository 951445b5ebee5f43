use Rattle.csn_run.specs.Planned.{refuses_before, refuses_after}
use Rattle.csn_run.proofs.PairLemmas.{compares_end}
use Rattle.csn_run.proofs.comparing.compare_texts.Goals as goal

pub returns-in-Err : goal.returns-in-Err
returns-in-Err c = refuses_before c.in-Err.reason (rw (c.deref.ensures.value, c.as_bytes-name.ensures.value) at c.in-Err.ensures.none) c.refuse.ensures

pub returns-in-Err-certified_text : goal.returns-in-Err-certified_text
returns-in-Err-certified_text c =
    refuses_after c.in-Ok.ensures.desc.0 c.in-Ok.desc c.in-Err-certified_text.reason
    (rw (c.deref.ensures.value, c.as_bytes-name.ensures.value) at c.in-Ok.ensures.desc.1)
    (rw (c.deref-2.ensures.value, c.as_bytes-name.ensures.value) at c.in-Err-certified_text.ensures.none) c.refuse-in-Err-certified_text.ensures

pub returns : goal.returns
returns c =
    compares_end c.push_compared-line.new.out.items c.in-Ok.ensures.desc.0 c.in-Ok-certified_text.ensures.desc.0 c.in-Ok.desc c.in-Ok-certified_text.desc
    (rw (c.deref.ensures.value, c.as_bytes-name.ensures.value) at c.in-Ok.ensures.desc.1)
    (rw (c.deref-2.ensures.value, c.as_bytes-name.ensures.value) at c.in-Ok-certified_text.ensures.desc.1)
    c.push_compared-line.result c.requires.pending c.push_compared-line.ensures.ok c.end_line.result c.end_line.ensures.ok c.end_line.ensures.err
