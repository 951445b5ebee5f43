use Rattle.csn_look.proofs.laws.known.Goals as goal

pub returns : goal.returns
returns c = record {
  formed = c.nodes_are_well_formed.ensures;
  there = c.values_are_kept.ensures.there;
  fitting =
      c.values_are_kept.ensures.fitting;
  no_values = c.values_are_kept.ensures.none;
}
