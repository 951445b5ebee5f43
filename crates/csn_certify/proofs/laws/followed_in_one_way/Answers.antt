use Rattle.csn_certify.proofs.Here.{here_of}
use Rattle.csn_certify.proofs.NoFurther.{one_way}
use Rattle.csn_certify.proofs.PicksRight.{stands_of}
use Rattle.csn_certify.proofs.laws.followed_in_one_way.Goals as goal

pub returns : goal.returns
returns c = λ d most node o v ahead t is certified reached fits lies some followed. one_way d most
    (here_of c.known.ensures is) certified lies.others some reached fits lies.means followed lies.split
    (stands_of d lies)
