use Rattle.std.proofs.Common.{refl}
use Rattle.csn_explaining.proofs.Texts.{more_html}
use Rattle.csn_explaining.proofs.text.push_html.Goals as goal

pub loop-byte-preserved : goal.loop-byte-preserved
loop-byte-preserved c = more_html c.args.text.now c.args.out.now.items c.loop-byte.out.items _ c.loop-byte.byte-index _
    c.loop-byte-test.true c.loop-byte.invariant refl c.in_ok-push_html_byte.ensures
