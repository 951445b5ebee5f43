-- A description while it is built, from its root on: nodes are entered, each inside the last one that was not
-- left, and left again. That a description is built so is this project's own choice.
use Rattle.std.specs.Prelude.{◌≡◌, ℕ, suc, ◌<◌, Bool, false, if◌then◌else◌, ◌==◌, nat_lt, ◌&&◌, not, IsTrue, List, []}
use Rattle.std.specs.Prelude.{◌∷◌, ◌++◌, length, set, drop, slice_get, Option, Some, None, IsSomeAnd, Contains}
use Rattle.std.specs.List.{list_any}
use Rattle.csn_desc.specs.declared.reading.Reading.{Reading}
use Rattle.csn_desc.specs.declared.node.Node.{Node}
use Rattle.csn_desc.specs.declared.node.Node.TheVariants.{Lits, Spare, Pad, Null, Field, Rest, Seq, Choice, Times, Many, Trunc, Window, Named}
use Rattle.csn_desc.specs.declared.node.Head.{Head}
use Rattle.csn_desc.specs.declared.node.Head.TheVariants as head
use Rattle.csn_desc.specs.Nodes.{head_of, parts_of}
use Rattle.csn_desc.specs.Values.{is_named}
use Rattle.csn_desc.specs.Formed.{IsHead, HasParts, shows_earlier}

-- what was entered so far: the nodes in the order in which they were, each with the numbers of those of its
-- parts that were; and the numbers of the nodes that are entered and not left, the innermost first
pub record BuilderV : Type 0 where
  pub reading : Reading
  pub nodes : List Node
  pub around : List ℕ

-- the node with this head as it is entered. A node with one part has the node behind it as its part, and this
-- has the number `next`
abbrev pub node_of : Head → ℕ → Node
node_of (head.Lits run) next = Lits run
node_of (head.Spare symbol) next = Spare symbol
node_of head.Pad next = Pad
node_of head.Null next = Null
node_of (head.Field unit count) next = Field unit count
node_of head.Rest next = Rest
node_of head.Seq next = Seq []
node_of head.Choice next = Choice []
node_of (head.Times count) next = Times count next
node_of head.Many next = Many next
node_of head.Trunc next = Trunc []
node_of (head.Window unit count) next = Window unit count next
node_of (head.Named label) next = Named label next

-- a node with a part more, where it may have many
abbrev pub with_part : ℕ → Node → Node
with_part part (Seq parts) = Seq (parts ++ part ∷ [])
with_part part (Choice parts) = Choice (parts ++ part ∷ [])
with_part part (Trunc parts) = Trunc (parts ++ part ∷ [])
with_part part n = n

-- the nodes, where the next one begins inside the innermost of the nodes `around`
abbrev pub set_part : List Node → ℕ → Option Node → List Node
set_part nodes above None = nodes
set_part nodes above (Some n) = set nodes above (with_part (length nodes) n)

abbrev pub part_begun : List Node → List ℕ → List Node
part_begun nodes [] = nodes
part_begun nodes (above ∷ rest) = set_part nodes above (slice_get nodes above)

-- a node with this head is entered: it is the next one, and a part of the innermost one
abbrev pub entered : Head → BuilderV → BuilderV
entered h b =
    record {
      reading = b.reading;
      nodes = part_begun b.nodes b.around ++ node_of h (suc (length b.nodes)) ∷ [];
      around = length b.nodes ∷ b.around;
    }

-- the innermost node is left
abbrev pub left : BuilderV → BuilderV
left b = record { reading = b.reading; nodes = b.nodes; around = drop 1 b.around }

-- the parts of the innermost node, with this number, that were entered: none, where it is itself the last that
-- was
abbrev pub begun_parts : List Node → ℕ → Node → List ℕ
begun_parts nodes i n = if nat_lt (suc i) (length nodes) then parts_of n else []

-- there is no root yet, or the innermost node takes a part more than it has
abbrev pub TakesPart : List Node → List ℕ → Type 0
TakesPart nodes [] = nodes ≡ []
TakesPart nodes (i ∷ rest) =
    IsSomeAnd (slice_get nodes i) (λ n. (parts : ℕ) × (length (begun_parts nodes i n) < parts) × HasParts (head_of n) parts)

-- is the node, where there is one, a sequence or truncation that has this part?
abbrev pub has_shown : ℕ → Option Node → Bool
has_shown field None = false
has_shown field (Some n) = shows_earlier n && list_any (λ part. part == field) (parts_of n)

-- does the next node see this one? It does where this is a labelled part that was left, of a sequence or
-- truncation that was not
abbrev pub is_shown : List Node → List ℕ → ℕ → Bool
is_shown nodes around field =
    is_named nodes field
    && (not (list_any (λ i. i == field) around) && list_any (λ i. has_shown field (slice_get nodes i)) around)

-- the head is well formed where the next node begins
pub record IsNextHead (b : BuilderV) (h : Head) : Type 0 where
  pub seen : List ℕ
  pub shown : (field : ℕ) → Contains seen field → IsTrue (is_shown b.nodes b.around field)
  pub well_formed : IsHead b.nodes seen h

-- a node with this head may be entered
abbrev pub Takes : BuilderV → Head → Type 0
Takes b h = TakesPart b.nodes b.around × IsNextHead b h

-- a node is entered that has its number of parts
abbrev pub HasItsParts : List Node → List ℕ → Type 0
HasItsParts nodes [] = ⊥
HasItsParts nodes (i ∷ rest) =
    IsSomeAnd (slice_get nodes i) (λ n. HasParts (head_of n) (length (begun_parts nodes i n)))

-- a node is entered, and has its number of parts
abbrev pub MayLeave : BuilderV → Type 0
MayLeave b = HasItsParts b.nodes b.around

-- there is a root, and it was left
abbrev pub IsWhole : BuilderV → Type 0
IsWhole b = (0 < length b.nodes) × (b.around ≡ [])
