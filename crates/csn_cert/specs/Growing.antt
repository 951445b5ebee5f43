-- How a certificate grows at its end, and where its claims are found.
use Rattle.std.specs.Prelude.{◌++◌, ◌==◌, ℕ, List, [], ◌∷◌, Option, Some, None, slice_get, find}
use Rattle.csn_cert.specs.PatternV.{PatternV}
use Rattle.csn_cert.specs.CertificateV.{NodeV, PositionV}

-- the last of a list
abbrev pub last_of : {A : Type 0} → List A → Option A
last_of [] = None
last_of (x ∷ []) = Some x
last_of (x ∷ y ∷ rest) = last_of (y ∷ rest)

-- the list with its last one changed
abbrev pub at_last : {A : Type 0} → (A → A) → List A → List A
at_last change [] = []
at_last change (x ∷ []) = change x ∷ []
at_last change (x ∷ y ∷ rest) = x ∷ at_last change (y ∷ rest)

-- the node with one more position
abbrev pub node_with : PositionV → NodeV → NodeV
node_with p n = record n { positions = n.positions ++ p ∷ [] }

-- the position with one more pattern
abbrev pub position_with : PatternV → PositionV → PositionV
position_with k p = record p { patterns = p.patterns ++ k ∷ [] }

-- the node with one more pattern at its last position
abbrev pub node_with_pattern : PatternV → NodeV → NodeV
node_with_pattern k n = record n { positions = at_last (position_with k) n.positions }

-- the certificate with one more position of its last node
abbrev pub with_position : PositionV → List NodeV → List NodeV
with_position p = at_last (node_with p)

-- the certificate with one more pattern at the last position of its last node
abbrev pub with_pattern : PatternV → List NodeV → List NodeV
with_pattern k = at_last (node_with_pattern k)

-- the last of what a thing has, if there is a thing and it has some
abbrev pub last_in : {A B : Type 0} → (A → List B) → Option A → Option B
last_in has None = None
last_in has (Some x) = last_of (has x)

-- the last position of the last node
abbrev pub last_position : List NodeV → Option PositionV
last_position nodes = last_in (λ (n : NodeV). n.positions) (last_of nodes)

-- the last pattern of the last position
abbrev pub last_pattern : List NodeV → Option PatternV
last_pattern nodes = last_in (λ (p : PositionV). p.patterns) (last_position nodes)

-- what is claimed of a node at an octet position, if it is
abbrev pub claimed_of : Option NodeV → ℕ → Option PositionV
claimed_of None octet = None
claimed_of (Some n) octet = find (λ p. p.octet == octet) n.positions

-- what is claimed of the node with a number at an octet position, if it is
abbrev pub claimed : List NodeV → ℕ → ℕ → Option PositionV
claimed nodes i octet = claimed_of (slice_get nodes i) octet
