use Rattle.csn_certify.proofs.laws.known.Goals as goal

pub returns : goal.returns
returns c = assumption
