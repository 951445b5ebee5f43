-- The events of a block in numbers alone, as a program in another language has them. (This project's own choice.)
use Rattle.std.specs.Prelude.{◌≡◌, ◌⊎◌, ℕ, Bool, true, false, List, [], ◌∷◌, ◌++◌, length, map, Option, Some, None}
use Rattle.csn_desc.specs.Nodes.{DescV}
use Rattle.csn_fields.specs.declared.leaf.LeafKind.{LeafKind}
use Rattle.csn_fields.specs.declared.leaf.LeafKind.TheVariants as kind
use Rattle.csn_fields.specs.declared.leaf.Role.{Role}
use Rattle.csn_fields.specs.declared.leaf.Role.TheVariants.{Root, Part, Alternative, Turn}
use Rattle.csn_fields.specs.declared.leaf.Leaf.{Leaf}
use Rattle.csn_fields.specs.declared.event.Event.{Event}
use Rattle.csn_fields.specs.declared.event.Event.TheVariants as event
use Rattle.csn_fields.specs.declared.refusal.Ended.{Ended}
use Rattle.csn_fields.specs.Reading.{EndsWith}
use Rattle.csn_rule.specs.declared.event.FlatEvent.{FlatEvent}
use Rattle.csn_rule.specs.Buffers.{copied}

-- the numbers of the kinds of leaf
abbrev pub number_of_kind : LeafKind → ℕ
number_of_kind kind.Literal = 1
number_of_kind kind.Spare = 2
number_of_kind kind.Field = 3
number_of_kind kind.Rest = 4
number_of_kind kind.Padding = 5

-- the numbers of what a node is of the one round it
abbrev pub number_of_role : Role → ℕ
number_of_role Root = 0
number_of_role Part = 1
number_of_role (Alternative n) = 2
number_of_role (Turn n) = 3

-- the number of an alternative or of a turn
abbrev pub number_in_role : Role → ℕ
number_in_role Root = 0
number_in_role Part = 0
number_in_role (Alternative n) = n
number_in_role (Turn n) = n

-- the number that the bits of a leaf write, if they are at most 64; else 0
abbrev pub value_of : Option ℕ → ℕ
value_of (Some value) = value
value_of None = 0

abbrev pub flat_leaf : Leaf → FlatEvent
flat_leaf leaf =
    record {
      node = leaf.node;
      kind = number_of_kind leaf.kind;
      role = number_of_role leaf.role;
      number = number_in_role leaf.role;
      place = leaf.place;
      bits = leaf.bits;
      value = value_of leaf.number;
    }

-- an event in numbers: a node begins, 0, a leaf has ended, 1 to 5, or a node ends, 6
abbrev pub flat_of : Event → FlatEvent
flat_of (event.Begin node role place) =
    record { node = node; kind = 0; role = number_of_role role; number = number_in_role role; place = place; bits = 0; value = 0 }
flat_of (event.Leaf leaf) = flat_leaf leaf
flat_of (event.End node place) =
    record { node = node; kind = 6; role = 0; number = 0; place = place; bits = 0; value = 0 }

-- the events so far, and whether memory was wanting for one
pub record EventsV : Type 0 where
  pub events : List FlatEvent
  pub short : Bool

-- one event more stands in the list, unless memory is wanting or was
abbrev pub AddsEvent : FlatEvent → EventsV → EventsV → Type 0
AddsEvent event old new =
    ((old.short ≡ false) × (new ≡ record { events = old.events ++ event ∷ []; short = false })) ⊎ (new.short ≡ true)

-- what an event makes of the list
abbrev pub Lists : EventsV → Event → EventsV → Type 0
Lists old event new = AddsEvent (flat_of event) old new

-- these are the events, unless memory was wanting
abbrev pub AreListed : List Event → EventsV → Type 0
AreListed events list = list.short ≡ false → list.events ≡ map flat_of events

-- the events of a list stand in the array as far as there was room, and are so many; or memory was wanting, and it is as it
-- was
abbrev pub Copies : EventsV → List FlatEvent → List FlatEvent → Option ℕ → Type 0
Copies list old new (Some count) = (list.short ≡ false) × (count ≡ length list.events) × (new ≡ copied list.events old)
Copies list old new None = (list.short ≡ true) × (new ≡ old)

-- these are the events of a block that ends so: of a string all, and else those with which each block begins that goes on
-- from the place of the refusal
pub record ListsBlock (d : DescV) (block : List ℕ) (ended : Ended) (list : EventsV) : Type 0 where
  pub events : List Event
  pub ends : EndsWith d block events ended
  pub are : AreListed events list

-- such events are so many, and stand in the array as far as there was room
pub record TellsBlock (d : DescV) (block : List ℕ) (ended : Ended) (count : ℕ) (old new : List FlatEvent) : Type 0 where
  pub events : List Event
  pub ends : EndsWith d block events ended
  pub counted : count ≡ length events
  pub there : new ≡ copied (map flat_of events) old
