use Rattle.csn_certify.proofs.MoreHeld.{takes_stay}
use Rattle.csn_certify.proofs.laws.takes_stay.Goals as goal

pub returns : goal.returns
returns c = λ d most node octet j held more ended is certified asked pick. takes_stay c.keys_are_of_bits.ensures.start
    c.firm_nodes_have_bits.ensures.keys c.parts_are_reached.ensures.octet d most is certified more asked pick
