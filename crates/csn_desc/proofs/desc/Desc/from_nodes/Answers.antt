-- Nodes that are all well formed are a description, where no counted field sees 64 others.
use Rattle.std.proofs.Common.{◌≡◌, ℕ, ◌<◌, List, [], length, subst, sym}
use Rattle.csn_desc.specs.declared.node.Node.{Node}
use Rattle.csn_desc.specs.Formed.{counted_marks}
use Rattle.csn_desc.specs.Overfull.{IsFirstOverfull}
use Rattle.csn_desc.specs.Crowds.{Counts, NoneCrowded, FirstCrowded}
use Rattle.csn_desc.proofs.WellFormed.{laid_out, sees_within}
use Rattle.csn_desc.proofs.Finishing.{root_counting, none_overfull, first_of_nodes, is_description}
use Rattle.csn_desc.proofs.desc.Desc.from_nodes.Goals as goal

pub first_overfull-requires-clause-sees : goal.first_overfull-requires-clause-sees
first_overfull-requires-clause-sees c =
    let nodes = c.args.nodes.items in
    let Q : List Node → Type 0 = λ l. Counts l 0 0 0 in
    subst Q (sym c.as_slice-2.ensures.value) ([], root_counting nodes (laid_out nodes c.requires.well_formed c.requires.numbered))

pub returns-in-None-clause-fits : goal.returns-in-None-clause-fits
returns-in-None-clause-fits c = λ i overfull.
    let nodes = c.args.nodes.items in
    let Q : List Node → Type 0 = λ l. NoneCrowded l 0 0 0 in
    none_overfull nodes (laid_out nodes c.requires.well_formed c.requires.numbered) (subst Q c.as_slice-2.ensures.value c.in-None.ensures.none) i overfull

pub returns-in-Some-clause-vals : goal.returns-in-Some-clause-vals
returns-in-Some-clause-vals c = λ node is.
    let nodes = c.args.nodes.items in
    let Q : List Node → Type 0 = λ l. FirstCrowded l 0 0 0 c.in-Some.node in
    let first : IsFirstOverfull nodes c.in-Some.node =
    first_of_nodes nodes (laid_out nodes c.requires.well_formed c.requires.numbered) c.in-Some.node
    (subst Q c.as_slice-2.ensures.value c.in-Some.ensures.some) in
    let same : c.in-Some.node ≡ node = cc in
    let R : ℕ → Type 0 = λ k. IsFirstOverfull nodes k in
    subst R same first

pub returns-in-Some-clause-there : goal.returns-in-Some-clause-there
returns-in-Some-clause-there c = λ node is.
    let nodes = c.args.nodes.items in
    let all = laid_out nodes c.requires.well_formed c.requires.numbered in
    let Q : List Node → Type 0 = λ l. FirstCrowded l 0 0 0 c.in-Some.node in
    let first : IsFirstOverfull nodes c.in-Some.node = first_of_nodes nodes all c.in-Some.node (subst Q c.as_slice-2.ensures.value c.in-Some.ensures.some) in
    let same : c.in-Some.node ≡ node = cc in
    let R : ℕ → Type 0 = λ k. k < length nodes in
    subst R same (sees_within nodes all first.overfull.sees)

pub invariant_of-result : goal.invariant_of-result
invariant_of-result c =
    let nodes = c.args.nodes.items in
    let Q : List Node → Type 0 = λ l. NoneCrowded l 0 0 0 in
    let R : List Node → Type 0 = λ l. c.in-Ok.counted.items ≡ counted_marks l in (
      is_description nodes c.args.reading c.requires.few (laid_out nodes c.requires.well_formed c.requires.numbered)
          (subst Q c.as_slice-2.ensures.value c.in-None.ensures.none),
      subst R c.as_slice.ensures.value c.in-Ok.ensures,
    )
