use Rattle.csn_resolve.proofs.Meaning.MeaningFacts.{named_same, strings_kept, followed_kept, places_kept}
use Rattle.csn_resolve.proofs.laws.resolving_keeps_meanings.Goals as goal

pub returns-clause-means : goal.returns-clause-means
returns-clause-means c = λ rules r n d shaped h rule found. (named_same rules r rule shaped h found).means

pub returns-clause-follows : goal.returns-clause-follows
returns-clause-follows c = λ rules r n d shaped h rule found. (named_same rules r rule shaped h found).follows

pub returns-clause-strings : goal.returns-clause-strings
returns-clause-strings c = λ rules r n d shaped h. strings_kept rules r shaped h

pub returns-clause-followed : goal.returns-clause-followed
returns-clause-followed c = λ rules r n d shaped h. followed_kept rules r shaped h

pub returns-clause-places : goal.returns-clause-places
returns-clause-places c = λ rules r n d shaped h. places_kept rules r shaped h
