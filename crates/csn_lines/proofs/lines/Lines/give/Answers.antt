use Rattle.std.proofs.Common.{arith, refl}
use Rattle.csn_plan.proofs.Texts.{on_ok_none}
use Rattle.csn_lines.proofs.ReadingLemmas.{at_more, gives_then}
use Rattle.csn_lines.proofs.lines.Lines.give.Goals as goal

pub returns-then-bytes-eq0-clause-rest : goal.returns-then-bytes-eq0-clause-rest
returns-then-bytes-eq0-clause-rest g c = record { work = refl; kept = refl; pending = refl; refused = refl }

pub returns-in_err-give_held : goal.returns-in_err-give_held
returns-in_err-give_held g c = record { ok = on_ok_none c.from_residual.result _ c.from_residual.ensures.0; rest = c.in_err-give_held.ensures.rest }

pub returns-in_err-take : goal.returns-in_err-take
returns-in_err-take g c = record {
  ok = on_ok_none c.from_residual-in_err-take.result _ c.from_residual-in_err-take.ensures.0;
  rest = gives_then c.in_ok-give_held.ensures.rest c.in_err-take.ensures.work c.in_err-take.ensures.kept refl refl;
}

pub returns : goal.returns
returns g c = record {
  ok = λ line stands.
      let whole = c.in_ok-give_held.ensures.ok line stands in
      at_more line c.args.bytes.now _ stands.unended c.requires.unended (omega (arith, c.if-bytes-eq0.false))
      c.split_return-held.ensures.front c.split_return-held.ensures.all (c.in_ok-take.ensures.reads line whole.0)
      (omega (arith, whole.1));
  rest = gives_then c.in_ok-give_held.ensures.rest c.in_ok-take.ensures.work c.in_ok-take.ensures.kept refl refl;
}
