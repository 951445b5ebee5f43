use Rattle.std.proofs.Common.{◌≡◌, [], arith}
use Rattle.std.proofs.lemmas.Option.{get_or_from_slice_get}
use Rattle.csn_certmake.specs.Patterns.{patterns_in}
use Rattle.csn_certmake.proofs.NearParts.{least_of_more}
use Rattle.csn_certmake.proofs.near.least_of_row.Goals as goal

pub loop-octet-preserved : goal.loop-octet-preserved
loop-octet-preserved c =
    let row = c.args.row.now in
    let here : patterns_in row c.loop-octet.octet ≡ c.at.result.now =
    get_or_from_slice_get row c.loop-octet.octet c.at.result.now [] c.at.ensures in (
      omega (arith, c.least_of-least.ensures.few, c.loop-octet.invariant.0),
      λ octet low. least_of_more row c.loop-octet.octet c.loop-octet.least c.least_of-least.result octet c.at.result.now here
          c.least_of-least.ensures.few c.least_of-least.ensures.least c.loop-octet.invariant.1 low,
    )

pub returns-clause-least : goal.returns-clause-least
returns-clause-least c = λ octet low. c.loop-octet.invariant.1 octet (omega (arith, low, c.loop-octet-test.false))
