-- What the laws of csn_desc say of the nodes of a description and of the values that they see, in one record, which
-- lemmas take. No public contract cites it.
use Rattle.csn_desc.specs.Laws.{NodesAreWellFormed, ValuesStayThere, ValuesStayFitting, NoValuesFit}

pub record Known : Type 0 where
  pub formed : NodesAreWellFormed
  pub there : ValuesStayThere
  pub fitting : ValuesStayFitting
  pub no_values : NoValuesFit
