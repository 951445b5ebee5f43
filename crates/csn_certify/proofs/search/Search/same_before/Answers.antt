use Rattle.std.proofs.Common.{sym, ◌∙◌, length, arith}
use Rattle.std.proofs.lemmas.Option.{slice_get_within}
use Rattle.csn_desc.specs.declared.node.Node.TheVariants.{Choice}
use Rattle.csn_look.proofs.Handing.ReachedParts.{parts_below}
use Rattle.csn_certify.proofs.SearchFacts.{in_table}
use Rattle.csn_certify.proofs.search.Search.same_before.Goals as goal

pub reached-requires : goal.reached-requires
reached-requires c =
    in_table c.requires.known.reached.same (slice_get_within c.args.self.now.desc.now.nodes c.args.node (Choice c.args.parts.now) c.requires.choice)

pub have_same_keys-requires-clause-below : goal.have_same_keys-requires-clause-below
have_same_keys-requires-clause-below c =
    let d = c.args.self.now.desc.now in
    parts_below d c.args.node (Choice c.args.parts.now) (length d.nodes) c.requires.known.description c.requires.choice (omega arith)

pub returns-then-have_same_keys : goal.returns-then-have_same_keys
returns-then-have_same_keys c =
    let less = c.loop-other-test.true in
    let small = c.requires.octet in
    let reached = c.reached.ensures c.args.self.now.desc.now c.requires.known.reached c.loop-other.other (omega (arith, less, small)) in
    record {
      before = less;
      reached = reached.0 (sym c.has.ensures ∙ c.if-has.true);
      tables = c.have_same_keys.ensures c.if-have_same_keys.true;
    }
