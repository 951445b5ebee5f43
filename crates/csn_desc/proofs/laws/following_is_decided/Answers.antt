use Rattle.csn_desc.proofs.Decided.{tree_decided, follow_decided}
use Rattle.csn_desc.proofs.laws.following_is_decided.Goals as goal

pub returns-clause-meant : goal.returns-clause-meant
returns-clause-meant c = λ d i o end v b h. tree_decided d h o v b

pub returns-clause-followed : goal.returns-clause-followed
returns-clause-followed c = λ d i o end v b h. follow_decided d h o v b
