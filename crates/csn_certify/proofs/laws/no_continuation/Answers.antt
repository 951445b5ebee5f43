use Rattle.std.proofs.Common.{suc, [], ◌++◌, take}
use Rattle.csn_certify.proofs.laws.no_continuation.Goals as goal

pub returns : goal.returns
returns c = λ d b p followed refused rest t h. refused (c.prefixes_are_followed.ensures d 0 0 [] (take (suc p) b) rest
    (c.strings_are_followed.ensures d 0 0 [] (take (suc p) b ++ rest) t h))
