use Rattle.csn_desc.proofs.Prefixes.{string_followed}
use Rattle.csn_desc.proofs.laws.strings_are_followed.Goals as goal

pub returns : goal.returns
returns c = λ d i o v b t h. string_followed d h
