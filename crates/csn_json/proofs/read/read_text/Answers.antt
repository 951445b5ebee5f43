use Rattle.std.proofs.Common.{◌≡◌, length, ap, arith}
use Rattle.json.specs.Lex.{tokens}
use Rattle.csn_json.proofs.Counts.{length-tokens}
use Rattle.csn_json.proofs.read.read_text.Goals as goal

pub piece-requires-clause-few : goal.piece-requires-clause-few
piece-requires-clause-few c = omega (arith, ap (λ ts. length ts) c.in-Ok.ensures.ok, length-tokens c.args.text.now, c.requires)
