use Rattle.std.proofs.Common.{ap}
use Rattle.csn_json.specs.Forms.{label_text}
use Rattle.csn_movetext.specs.Kept.{kept_of}
use Rattle.csn_movetext.proofs.Octets.{on_ok, extends_then}
use Rattle.csn_movetext.proofs.Labelled.{entered_more}
use Rattle.csn_movetext.proofs.track.enter_labelled.Goals as goal

pub returns-clause-entered : goal.returns-clause-entered
returns-clause-entered c =
    let mid = kept_of c.enter.new.self in
    on_ok c.push_label.result (λ same. entered_more c.args.form c.args.text.now (label_text c.args.form c.args.label.now)
    (kept_of c.args.writing.now) mid _ c.in_ok-enter.ensures.entered
    (ap (λ t. record { text = t; left = mid.left; long = mid.long; held = mid.held; bits = mid.bits }) same)) c.push_label.ensures.text

pub returns-clause-extends : goal.returns-clause-extends
returns-clause-extends c = extends_then _ _ _ c.enter.ensures.extends c.push_label.ensures.extends
