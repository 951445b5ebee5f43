use Rattle.std.proofs.Common.{ap, ◌∙◌, ◌++◌, ◌∷◌, [], refl, ◌+◌, ◌-◌, ◌*◌, ◌%◌, ◌^◌}
use Rattle.csn_movetext.specs.Kept.{kept_of}
use Rattle.csn_movetext.proofs.Gathering.{ended, end_whole, end_part}
use Rattle.csn_movetext.proofs.Octets.{extends_then, extends_none}
use Rattle.csn_movetext.proofs.writing.Writing.end_line.Goals as goal

pub returns-in_ok-push-2-clause-line : goal.returns-in_ok-push-2-clause-line
returns-in_ok-push-2-clause-line c =
    let wrote = c.in_ok-octets.ensures in
    let after = c.octets.new.self in
    λ w some s. end_part (after.bits * 2 ^ (8 - after.held) % 18446744073709551616) some wrote.few c.if-self-gt0.true refl
    (c.in_ok-push-2.ensures.items ∙ ap (λ l. l ++ (48 + after.held) ∷ [])
    (c.in_ok-push.ensures.items ∙ ap (λ l. l ++ 47 ∷ []) c.in_ok-push_octets.ensures.digits))
    (ended c.args.form (kept_of c.args.self.now) (kept_of after) w wrote.flushed s)

pub returns-else-self-gt0-clause-line : goal.returns-else-self-gt0-clause-line
returns-else-self-gt0-clause-line c =
    let wrote = c.in_ok-octets.ensures in
    λ w some s. end_whole some wrote.few c.if-self-gt0.false (ended c.args.form (kept_of c.args.self.now) (kept_of c.octets.new.self) w wrote.flushed s)

pub returns-in_err-octets-clause-extends : goal.returns-in_err-octets-clause-extends
returns-in_err-octets-clause-extends c = c.in_err-octets.ensures.extends

pub returns-in_err-push_octets-clause-extends : goal.returns-in_err-push_octets-clause-extends
returns-in_err-push_octets-clause-extends c = extends_then _ _ _ c.in_ok-octets.ensures.extends c.in_err-push_octets.ensures.extends

pub returns-in_err-push-clause-extends : goal.returns-in_err-push-clause-extends
returns-in_err-push-clause-extends c =
    extends_then _ _ _ c.in_ok-octets.ensures.extends (extends_then _ _ _ c.in_ok-push_octets.ensures.extends (extends_none _ _ c.in_err-push.ensures.items))

pub returns-in_err-push-2-clause-extends : goal.returns-in_err-push-2-clause-extends
returns-in_err-push-2-clause-extends c =
    extends_then _ _ _ c.in_ok-octets.ensures.extends (extends_then _ _ _ c.in_ok-push_octets.ensures.extends
    (extends_then _ _ _ (_, c.in_ok-push.ensures.items) (extends_none _ _ c.in_err-push-2.ensures.items)))

pub returns-in_ok-push-2-clause-extends : goal.returns-in_ok-push-2-clause-extends
returns-in_ok-push-2-clause-extends c =
    extends_then _ _ _ c.in_ok-octets.ensures.extends (extends_then _ _ _ c.in_ok-push_octets.ensures.extends
    (extends_then _ _ _ (_, c.in_ok-push.ensures.items) (_, c.in_ok-push-2.ensures.items)))

pub returns-else-self-gt0-clause-extends : goal.returns-else-self-gt0-clause-extends
returns-else-self-gt0-clause-extends c = c.in_ok-octets.ensures.extends
