use Rattle.csn_claims.proofs.Decisions.{nothing_behind}
use Rattle.csn_certify.proofs.Here.{here_of, Follow, parts_ends}
use Rattle.csn_certify.proofs.Clearing.{clear_of}
use Rattle.csn_certify.proofs.PicksRight.{stands_of}
use Rattle.csn_certify.proofs.Components.{no_bit_follows, components_end}
use Rattle.csn_certify.proofs.laws.nothing_is_behind_the_last.Goals as goal

pub returns-clause-ends : goal.returns-clause-ends
returns-clause-ends c = λ d most node from octet bit n certified at last reached ends follow. no_bit_follows d most certified n at last reached ends follow

pub returns-clause-ahead : goal.returns-clause-ahead
returns-clause-ahead c = λ d most node o v ahead t n is certified at last reached fits lies. nothing_behind d most
    (Follow d) (clear_of d most (here_of c.known.ensures is) certified) n lies.others at last reached fits lies.means
    (stands_of d lies)

pub returns-clause-components : goal.returns-clause-components
returns-clause-components c = λ d most node from octet bit parts before after certified at is reached ends follow.
    components_end d most certified before after at is reached ends follow

pub returns-clause-trees : goal.returns-clause-trees
returns-clause-trees c =
    λ d most node o bit parts before after v b ts is certified at split reached fits means follow. components_end d
    most certified before after at split reached (parts_ends d (here_of c.known.ensures is) fits means) follow
