-- The labels of nodes.
use Rattle.std.specs.Prelude.{◌≡◌, ℕ, List, slice_get, Some}
use Rattle.csn_desc.specs.declared.node.Node.TheVariants.{Named}
use Rattle.csn_desc.specs.Label.{IsLabel}
use Rattle.csn_desc.specs.Nodes.{DescV}

-- a node is a part with this label
abbrev pub HasLabel : DescV → ℕ → List ℕ → Type 0
HasLabel d node label = (part : ℕ) × (slice_get d.nodes node ≡ Some (Named label part))

-- the labels of its nodes are words with one space between
abbrev pub LabelsAreLabels : DescV → Type 0
LabelsAreLabels d = (i part : ℕ) (label : List ℕ) → slice_get d.nodes i ≡ Some (Named label part) → IsLabel label
