use Rattle.csn_certify.proofs.TableFacts.{FirstSame}
use Rattle.csn_certify.proofs.same_keys.have_same_keys.Given as goal

abbrev pub invariant-loop-j : goal.invariant-loop-j
invariant-loop-j l = FirstSame l.known.look.now l.parts l.octet l.other l.j
