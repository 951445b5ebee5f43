-- Which descriptions are well formed. That a description is numbered nodes, and the limits on it, are this
-- project's own choice.
use Rattle.std.specs.Prelude.{◌≡◌, ℕ, suc, ◌*◌, ◌^◌, ◌<◌, ◌≤◌, ◌⊎◌, ⊤, Bool, true, false, if◌then◌else◌, ◌==◌, List}
use Rattle.std.specs.Prelude.{[], ◌∷◌, length, map, slice_get, Option, Some, None, IsTrue, IsSome, IsSomeAnd}
use Rattle.std.specs.Prelude.{Contains, count_by}
use Rattle.std.specs.Option.{option_and_then}
use Rattle.std.specs.List.{list_any, range_with_len}
use Rattle.csn_desc.specs.declared.symbol.Symbol.TheVariants.{Zero, Low}
use Rattle.csn_desc.specs.declared.node.Count.{Count}
use Rattle.csn_desc.specs.declared.node.Count.TheVariants.{Fixed, Counted}
use Rattle.csn_desc.specs.declared.node.Node.{Node}
use Rattle.csn_desc.specs.declared.node.Node.TheVariants.{Seq, Trunc, Field, Named, Window, Times}
use Rattle.csn_desc.specs.declared.node.Head.{Head}
use Rattle.csn_desc.specs.declared.node.Head.TheVariants as head
use Rattle.csn_desc.specs.Nodes.{DescV, head_of, parts_of}
use Rattle.csn_desc.specs.Values.{Values, value_of, is_named}

-- ---- counted fields

-- does this count stand on the field with the node `field`?
abbrev pub counts_on : ℕ → Count → Bool
counts_on field (Fixed n) = false
counts_on field (Counted m other c) = other == field

-- does the count of this node, where it has one, stand on that field?
abbrev pub node_counts_on : ℕ → Node → Bool
node_counts_on field (Field unit count) = counts_on field count
node_counts_on field (Times count part) = counts_on field count
node_counts_on field (Window unit count part) = counts_on field count
node_counts_on field _ = false

-- does some count of the description stand on the field with this node?
abbrev pub is_counted : List Node → ℕ → Bool
is_counted nodes field = list_any (node_counts_on field) nodes

-- how many bits a field of constant width has
abbrev pub width_of : Option Node → Option ℕ
width_of (Some (Field unit (Fixed n))) = Some (unit * n)
width_of _ = None

-- what a label stands before
abbrev pub labelled_part : Option Node → Option ℕ
labelled_part (Some (Named label part)) = Some part
labelled_part _ = None

-- the bits of a labelled field of constant width, where the node is one
abbrev pub value_width : List Node → ℕ → Option ℕ
value_width nodes i =
    option_and_then (λ part. width_of (slice_get nodes part)) (labelled_part (slice_get nodes i))

-- ---- the numbering

module _ (nodes : List Node) where
  mutual
    -- node i and all that is inside it are the nodes from i up to, and without, `end`: its first part is
    -- the node after it, and each next part is the node where the part before it ends
    pub data Spans : ℕ → ℕ → Type 0 where
      spans :
          {i end : ℕ}
          (n : Node) → slice_get nodes i ≡ Some n → PartsSpan (parts_of n) (suc i) end
          → Spans i end

    pub data PartsSpan : List ℕ → ℕ → ℕ → Type 0 where
      span_end : {at end : ℕ} → end ≡ at → PartsSpan [] at end
      span_next :
          {i at end : ℕ} {parts : List ℕ}
          (middle : ℕ) → i ≡ at → Spans i middle → PartsSpan parts middle end
          → PartsSpan (i ∷ parts) at end

-- ---- what each node must be

-- a count of 1 to 65,536, or one on a field that the part sees, whose width is 1 to 16 bits
abbrev pub IsCount : List Node → List ℕ → Count → Type 0
IsCount nodes seen (Fixed n) = (1 ≤ n) × (n ≤ 65536)
IsCount nodes seen (Counted m field c) =
    (1 ≤ m) × (c ≤ 65535) × Contains seen field × IsSomeAnd (value_width nodes field) (λ width. (1 ≤ width) × (width ≤ 16))

-- fields and windows are counted in bits or in octets
abbrev pub IsUnit : ℕ → Type 0
IsUnit unit = (unit ≡ 1) ⊎ (unit ≡ 8)

-- a node's head is well formed where the labelled parts `seen` are seen
abbrev pub IsHead : List Node → List ℕ → Head → Type 0
IsHead nodes seen (head.Lits run) = 1 ≤ length run
IsHead nodes seen (head.Spare symbol) = (symbol ≡ Zero) ⊎ (symbol ≡ Low)
IsHead nodes seen (head.Field unit count) = IsUnit unit × IsCount nodes seen count
IsHead nodes seen (head.Times count) = IsCount nodes seen count
IsHead nodes seen (head.Window unit count) = IsUnit unit × IsCount nodes seen count
IsHead nodes seen head.Pad = ⊤
IsHead nodes seen head.Null = ⊤
IsHead nodes seen head.Rest = ⊤
IsHead nodes seen head.Seq = ⊤
IsHead nodes seen head.Choice = ⊤
IsHead nodes seen head.Many = ⊤
IsHead nodes seen head.Trunc = ⊤
IsHead nodes seen (head.Named label) = ⊤

-- a node has this many parts
abbrev pub HasParts : Head → ℕ → Type 0
HasParts head.Seq parts = 2 ≤ parts
HasParts head.Choice parts = 2 ≤ parts
HasParts head.Trunc parts = 1 ≤ parts
HasParts (head.Times count) parts = parts ≡ 1
HasParts head.Many parts = parts ≡ 1
HasParts (head.Window unit count) parts = parts ≡ 1
HasParts (head.Named label) parts = parts ≡ 1
HasParts (head.Lits run) parts = parts ≡ 0
HasParts (head.Spare symbol) parts = parts ≡ 0
HasParts head.Pad parts = parts ≡ 0
HasParts head.Null parts = parts ≡ 0
HasParts (head.Field unit count) parts = parts ≡ 0
HasParts head.Rest parts = parts ≡ 0

-- do the later parts of this node see the earlier ones?
abbrev pub shows_earlier : Node → Bool
shows_earlier (Seq parts) = true
shows_earlier (Trunc parts) = true
shows_earlier _ = false

-- what the parts behind part i see, where the node shows the earlier ones
abbrev pub with_seen : List Node → Bool → ℕ → List ℕ → List ℕ
with_seen nodes false i seen = seen
with_seen nodes true i seen = if is_named nodes i then i ∷ seen else seen

module _ (nodes : List Node) where
  mutual
    -- node i, inside `round` others and seeing the labelled parts `seen`, is well formed with all that is
    -- inside it: at most 64 nodes are inside one another, and a field that a count stands on has fewer
    -- than 64 such fields before it
    pub data Formed : List ℕ → ℕ → ℕ → Type 0 where
      formed :
          {seen : List ℕ} {round i : ℕ}
          (n : Node) → slice_get nodes i ≡ Some n → round < 64 → IsHead nodes seen (head_of n)
          → HasParts (head_of n) (length (parts_of n))
          → (IsTrue (is_counted nodes i) → count_by (is_counted nodes) seen < 64)
          → PartsFormed (shows_earlier n) seen (suc round) (parts_of n)
          → Formed seen round i

    pub data PartsFormed : Bool → List ℕ → ℕ → List ℕ → Type 0 where
      formed_end : {shows : Bool} {seen : List ℕ} {round : ℕ} → PartsFormed shows seen round []
      formed_next :
          {shows : Bool} {seen : List ℕ} {round i : ℕ} {parts : List ℕ}
          → Formed seen round i → PartsFormed shows (with_seen nodes shows i seen) round parts
          → PartsFormed shows seen round (i ∷ parts)

-- at most 16,384 nodes, numbered through from the root, and each of them well formed
pub record IsDescription (d : DescV) : Type 0 where
  pub few : length d.nodes ≤ 16384
  pub numbered : Spans d.nodes 0 (length d.nodes)
  pub well_formed : Formed d.nodes [] 0 0

-- each labelled part that is seen has a value
abbrev pub HaveValues : Values → List ℕ → Type 0
HaveValues v seen = (field : ℕ) → Contains seen field → IsSome (value_of v field)

-- the values are of fields with their widths
pub record FitWidths (d : DescV) (v : Values) : Type 0 where
  pub fit : (field value width : ℕ) → value_of v field ≡ Some value → value_width d.nodes field ≡ Some width → value < 2 ^ width

-- for each node, whether some count stands on it
abbrev pub counted_marks : List Node → List Bool
counted_marks nodes = map (is_counted nodes) (range_with_len 0 (length nodes))
