use Rattle.std.proofs.Common.{refl}
use Rattle.csn_desc.proofs.Prefixes.{prefix_followed}
use Rattle.csn_desc.proofs.laws.prefixes_are_followed.Goals as goal

pub returns : goal.returns
returns c = λ d i o v b rest h. prefix_followed d h b rest refl
