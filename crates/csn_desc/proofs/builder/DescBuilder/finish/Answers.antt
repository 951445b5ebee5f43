-- The nodes of a whole builder are all well formed.
use Rattle.std.proofs.Common.{◌≡◌, ℕ, ◌<◌, List, [], length, sym, subst, Err, OnOk}
use Rattle.csn_desc.specs.declared.builder.DescFault.TheVariants as DescFault
use Rattle.csn_desc.specs.Overfull.{IsOverfull, IsFirstOverfull}
use Rattle.csn_desc.specs.declared.node.Node.{Node}
use Rattle.csn_desc.specs.Building.{BuilderV, IsWhole}
use Rattle.csn_desc.specs.Laid.{Laid}
use Rattle.csn_desc.specs.Standing.{Stands}
use Rattle.csn_desc.proofs.WellFormed.{laid_spans, well_formed}
use Rattle.csn_desc.proofs.Entering.{all_laid}
use Rattle.csn_desc.proofs.builder.DescBuilder.finish.Goals as goal

whole_laid : (nodes : List Node) (around : List ℕ) → Stands nodes around → 0 < length nodes → around ≡ [] → Laid nodes [] 0 0 (length nodes)
whole_laid nodes around s some none = let P : List ℕ → Type 0 = λ l. Stands nodes l in all_laid nodes (subst P none s) some

abbrev Finished : List Node → Type 0
Finished nodes = Laid nodes [] 0 0 (length nodes)

finished : (inside : BuilderV) (self : BuilderV) → inside ≡ self → Stands inside.nodes inside.around → IsWhole self → Finished inside.nodes
finished inside self view stands whole =
    let P : BuilderV → Type 0 = λ b. IsWhole b in
    let here = subst P (sym view) whole in
    whole_laid inside.nodes inside.around stands here.0 here.1

pub from_nodes-requires-clause-numbered : goal.from_nodes-requires-clause-numbered
from_nodes-requires-clause-numbered c =
    let nodes = c.self.inside.nodes.items in laid_spans nodes (finished _ _ c.self.view_is c.self.invariant c.requires)

pub from_nodes-requires-clause-well_formed : goal.from_nodes-requires-clause-well_formed
from_nodes-requires-clause-well_formed c =
    let nodes = c.self.inside.nodes.items in well_formed nodes (finished _ _ c.self.view_is c.self.invariant c.requires)

pub returns-clause-fits : goal.returns-clause-fits
returns-clause-fits c =
    let P : BuilderV → Type 0 = λ b. OnOk c.from_nodes.result ((i : ℕ) → ¬ IsOverfull b.nodes i) in
    subst P c.self.view_is c.from_nodes.ensures.fits

pub returns-clause-vals : goal.returns-clause-vals
returns-clause-vals c =
    let P : BuilderV → Type 0 = λ b. (node : ℕ) → c.from_nodes.result ≡ Err (DescFault.TooManyVals node) → IsFirstOverfull b.nodes node in
    subst P c.self.view_is c.from_nodes.ensures.vals
