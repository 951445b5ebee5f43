use Rattle.std.proofs.Common.{Result, Ok, Err, IfOk}
use Rattle.csn_certmake.proofs.make.certificate_of_desc.Goals as goal

for_ok : {A E : Type 0} (r : Result A E) {P : Type 0} → P → IfOk r (λ _. P)
for_ok (Ok a) h = h
for_ok (Err e) h = tt

pub returns-clause-description : goal.returns-clause-description
returns-clause-description c = for_ok c.certificate_of_known.result c.certificate_of_known.ensures.description

pub returns-clause-claims : goal.returns-clause-claims
returns-clause-claims c = c.certificate_of_known.ensures.claims

pub new-requires-2 : goal.new-requires-2
new-requires-2 c = c.in_ok-look.ensures.sets

pub certificate_of_known-requires : goal.certificate_of_known-requires
certificate_of_known-requires c = record { sets = c.in_ok-look.ensures.sets; reached = c.in_ok-reach.ensures.reached; follow = c.in_ok-reach.ensures.follow }
