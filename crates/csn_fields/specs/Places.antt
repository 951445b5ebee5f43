-- What is kept of a block between two of its moves to tell its events, and what a move makes of that. (This project's own
-- choice.)
use Rattle.std.specs.Prelude.{ℕ, ◌+◌, ◌-◌, ◌*◌, ◌%◌, nat_lt, if◌then◌else◌, List, [], ◌∷◌}
use Rattle.std.specs.Prelude.{length, slice_get, Option, Some, None}
use Rattle.csn_desc.specs.declared.moves.Move.{Move}
use Rattle.csn_desc.specs.declared.moves.Move.TheVariants.{Enter, Bit, Leave}
use Rattle.csn_desc.specs.declared.node.Node.{Node}
use Rattle.csn_desc.specs.declared.node.Node.TheVariants.{Choice, Times, Many}
use Rattle.csn_fields.specs.declared.leaf.LeafKind.{LeafKind}
use Rattle.csn_fields.specs.declared.leaf.Role.{Role}
use Rattle.csn_fields.specs.declared.leaf.Role.TheVariants as role
use Rattle.csn_fields.specs.declared.event.Event.{Event}
use Rattle.csn_fields.specs.declared.event.Event.TheVariants as event
use Rattle.csn_fields.specs.declared.refusal.OpenNode.{OpenNode}
use Rattle.csn_fields.specs.declared.places.Begun.{Begun}
use Rattle.csn_fields.specs.declared.places.Inside.{Inside}
use Rattle.csn_fields.specs.declared.places.Inside.TheVariants.{Part, Alternative, Turn}
use Rattle.csn_fields.specs.Leaves.{kind_of}
use Rattle.csn_fields.specs.Numbers.{number_at}
use Rattle.csn_fields.specs.Events.{next_turn}

-- the numbers of alternatives, the nodes that have begun and not ended, the innermost first, how many bits were taken, and
-- the number that the last 64 of the innermost node's bits write
pub record PlacesV : Type 0 where
  pub numbers : List (Option ℕ)
  pub nodes : List Begun
  pub place : ℕ
  pub number : ℕ

-- nothing of a block
abbrev pub nothing : List (Option ℕ) → PlacesV
nothing numbers = record { numbers = numbers; nodes = []; place = 0; number = 0 }

-- ---- a node begins

-- what the first part of a node is
abbrev pub inside_of : Node → Inside
inside_of (Choice parts) = Alternative
inside_of (Times count i) = Turn 0
inside_of (Many i) = Turn 0
inside_of _ = Part

-- what node i is, which begins as a part of a node, and what the part behind it is
abbrev pub role_by : List (Option ℕ) → ℕ → Inside → Role
role_by numbers i Part = role.Part
role_by numbers i Alternative = role.Alternative (number_at (slice_get numbers i))
role_by numbers i (Turn turn) = role.Turn turn

abbrev pub next_inside : Inside → Inside
next_inside Part = Part
next_inside Alternative = Alternative
next_inside (Turn turn) = Turn (next_turn turn)

-- the same inside the open nodes
abbrev pub role_in : List (Option ℕ) → ℕ → List Begun → Role
role_in numbers i [] = role.Root
role_in numbers i (around ∷ outer) = role_by numbers i around.inside

abbrev pub advanced : List Begun → List Begun
advanced [] = []
advanced (around ∷ outer) = record { node = around.node; inside = next_inside around.inside } ∷ outer

-- one more node is open, of which there are 64 at most
abbrev pub opened_with : Begun → List Begun → List Begun
opened_with begun nodes = if nat_lt (length nodes) 64 then begun ∷ nodes else nodes

abbrev pub begun_as : ℕ → Role → ℕ → Node → Begun
begun_as i role place node =
    record {
      node = record { node = i; role = role; place = place };
      inside = inside_of node;
    }

abbrev pub entered : ℕ → Node → PlacesV → PlacesV
entered i node s =
    record {
      numbers = s.numbers;
      nodes = opened_with (begun_as i (role_in s.numbers i s.nodes) s.place node) (advanced s.nodes);
      place = s.place;
      number = 0;
    }

abbrev pub begins_as : Option LeafKind → ℕ → Role → ℕ → Option Event
begins_as None i role place = Some (event.Begin i role place)
begins_as (Some kind) i role place = None

-- ---- it takes bits

abbrev pub took_bit : ℕ → PlacesV → PlacesV
took_bit bit s =
    record {
      numbers = s.numbers;
      nodes = s.nodes;
      place = (s.place + 1) % 4294967296;
      number = (2 * s.number + bit) % 18446744073709551616;
    }

abbrev pub took_bits : List ℕ → PlacesV → PlacesV
took_bits [] s = s
took_bits (bit ∷ rest) s = took_bits rest (took_bit bit s)

-- ---- it ends

abbrev pub without_last : List Begun → List Begun
without_last [] = []
without_last (last ∷ outer) = outer

abbrev pub left : PlacesV → PlacesV
left s = record { numbers = s.numbers; nodes = without_last s.nodes; place = s.place; number = 0 }

-- a node ends at a place
abbrev pub ends_as : Option LeafKind → OpenNode → ℕ → ℕ → Event
ends_as None ended place number = event.End ended.node place
ends_as (Some kind) ended place number =
    event.Leaf (record {
      node = ended.node;
      kind = kind;
      role = ended.role;
      place = ended.place;
      bits = place - ended.place;
      number = if nat_lt (place - ended.place) 65 then Some number else None;
    })

abbrev pub ended_in : Option LeafKind → List Begun → ℕ → ℕ → Option Event
ended_in kind [] place number = None
ended_in kind (last ∷ outer) place number = Some (ends_as kind last.node place number)

-- ---- a move

abbrev pub behind : PlacesV → Move → Node → PlacesV
behind s (Enter i) node = entered i node s
behind s (Bit bit) node = took_bit bit s
behind s Leave node = left s

-- what a move tells
abbrev pub event_of : PlacesV → Move → Node → Option Event
event_of s (Enter i) node = begins_as (kind_of node) i (role_in s.numbers i s.nodes) s.place
event_of s (Bit bit) node = None
event_of s Leave node = ended_in (kind_of node) s.nodes s.place s.number

-- the innermost of the open nodes
abbrev pub innermost : List Begun → Option OpenNode
innermost [] = None
innermost (last ∷ outer) = Some last.node
