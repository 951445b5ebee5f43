use Rattle.std.proofs.Common.{sym, subst}
use Rattle.std.proofs.lemmas.Option.{slice_get_within, get_or_from_slice_get}
use Rattle.csn_look.specs.declared.node_sets.NodeSets.{NodeSets}
use Rattle.csn_look.specs.NodeSets.{SetsAre}
use Rattle.csn_look.proofs.known.Known.of.Goals as goal

pub bounds-self-i : goal.bounds-self-i
bounds-self-i c = slice_get_within c.args.self.now.sets.now c.args.i c.requires.0 c.requires.1

pub returns : goal.returns
returns c =
    subst (λ (s : NodeSets). SetsAre c.args.self.now.desc.now c.args.i s)
    (sym (get_or_from_slice_get c.args.self.now.sets.now c.args.i c.requires.0 c.index-self-i.result c.requires.1)) c.requires.2
