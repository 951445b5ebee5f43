use Rattle.csn_certify.proofs.ExampleFacts as facts
use Rattle.csn_certify.proofs.examples.worked_examples.Goals as goal

pub returns-clause-certified : goal.returns-clause-certified
returns-clause-certified c = facts.certified

pub returns-clause-taken : goal.returns-clause-taken
returns-clause-taken c = facts.second

pub returns-clause-needed : goal.returns-clause-needed
returns-clause-needed c = facts.bit_needed
