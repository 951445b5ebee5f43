use Rattle.csn_certify.proofs.Components.{components_followed, no_components, next_component}
use Rattle.csn_certify.proofs.laws.truncations_go_on.Goals as goal

pub returns-clause-means : goal.returns-clause-means
returns-clause-means c =
    λ d most node from i o parts before after v own others ts certified at is reached ends behind some. next_component
    d most certified before others at is reached ends behind some

pub returns-clause-follows : goal.returns-clause-follows
returns-clause-follows c = λ d o parts v b some followed. components_followed c.strings_are_followed.ensures d some followed

pub returns-clause-ends : goal.returns-clause-ends
returns-clause-ends c = λ d o parts v b t h nothing. no_components d h nothing
