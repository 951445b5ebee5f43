-- The events of a tree: its nodes in the order of their bits, each with what it is of the node round it. A leaf is one
-- event, which has its bits; each other node has an event where it begins and one where it ends, with those of its parts
-- between them. (This project's own choice; the nodes are the constructs of 3GPP TS 24.007 Annex B.)
use Rattle.std.specs.Prelude.{refl, ◌≡◌, ℕ, suc, ◌+◌, ◌≤◌, nat_lt, if◌then◌else◌, List, [], ◌∷◌, ◌++◌, length}
use Rattle.std.specs.Prelude.{slice_get, Some}
use Rattle.csn_bits.specs.Octets.{most_bits}
use Rattle.csn_desc.specs.declared.reading.Reading.TheVariants.{Received}
use Rattle.csn_desc.specs.declared.symbol.Symbol.TheVariants.{Zero, One}
use Rattle.csn_desc.specs.declared.node.Count.{Count}
use Rattle.csn_desc.specs.declared.node.Count.TheVariants.{Fixed}
use Rattle.csn_desc.specs.declared.node.Node.{Node}
use Rattle.csn_desc.specs.declared.node.Node.TheVariants.{Lits, Null, Field, Seq, Choice, Times, Many, Trunc, Window, Named}
use Rattle.csn_desc.specs.TreeV.{TreeV, empty, bits, row, alt, named, Trees, none, more}
use Rattle.csn_desc.specs.Nodes.{DescV}
use Rattle.csn_desc.specs.Means.{NMeans}
use Rattle.csn_fields.specs.declared.leaf.LeafKind.{LeafKind}
use Rattle.csn_fields.specs.declared.leaf.LeafKind.TheVariants as kind
use Rattle.csn_fields.specs.declared.leaf.Role.{Role}
use Rattle.csn_fields.specs.declared.leaf.Role.TheVariants.{Root, Part, Alternative, Turn}
use Rattle.csn_fields.specs.declared.leaf.Leaf.{Leaf}
use Rattle.csn_fields.specs.declared.event.Event.{Event}
use Rattle.csn_fields.specs.declared.event.Event.TheVariants as event
use Rattle.csn_fields.specs.Leaves.{kind_of, bits_of_leaf, number_in}

-- a leaf with these bits
abbrev pub leaf_with : ℕ → LeafKind → Role → ℕ → List ℕ → Leaf
leaf_with i kind role from b =
    record { node = i; kind = kind; role = role; place = from; bits = length b; number = number_in b }

-- the number of the turn behind a turn; 32 bits hold it
abbrev pub next_turn : ℕ → ℕ
next_turn n = if nat_lt n 4294967295 then suc n else n

module _ (d : DescV) where
  mutual
    -- node i is this of the node round it, its tree is t, and its bits stand from the place `from` up to the place `to`:
    -- then these are its events
    pub data EventsAt : ℕ → Role → ℕ → ℕ → TreeV → List Event → Type 0 where
      events_leaf :
          {i from to : ℕ} {role : Role} {t : TreeV} {events : List Event}
          (n : Node) (kind : LeafKind) (b : List ℕ) → slice_get d.nodes i ≡ Some n → kind_of n ≡ Some kind
          → bits_of_leaf n from t ≡ Some b → to ≡ from + length b
          → events ≡ event.Leaf (leaf_with i kind role from b) ∷ []
          → EventsAt i role from to t events
      events_node :
          {i from to : ℕ} {role : Role} {t : TreeV} {events : List Event}
          (n : Node) (inside : List Event) → slice_get d.nodes i ≡ Some n → InsideEvents n from to t inside
          → events ≡ event.Begin i role from ∷ (inside ++ event.End i to ∷ [])
          → EventsAt i role from to t events

    -- those of the parts of a node that is no leaf
    pub data InsideEvents : Node → ℕ → ℕ → TreeV → List Event → Type 0 where
      inside_null : {from to : ℕ} {events : List Event} → to ≡ from → events ≡ [] → InsideEvents Null from to empty events
      inside_seq :
          {parts : List ℕ} {from to : ℕ} {ts : Trees} {events : List Event}
          → PartsEvents parts from to ts events
          → InsideEvents (Seq parts) from to (row ts) events
      inside_trunc :
          {parts : List ℕ} {from to : ℕ} {ts : Trees} {events : List Event}
          → PartsEvents parts from to ts events
          → InsideEvents (Trunc parts) from to (row ts) events
      inside_choice :
          {parts : List ℕ} {j from to : ℕ} {t : TreeV} {events : List Event}
          (i : ℕ) → slice_get parts j ≡ Some i → EventsAt i (Alternative j) from to t events
          → InsideEvents (Choice parts) from to (alt j t) events
      inside_times :
          {count : Count} {i from to : ℕ} {ts : Trees} {events : List Event}
          → TurnsEvents i 0 from to ts events
          → InsideEvents (Times count i) from to (row ts) events
      inside_many :
          {i from to : ℕ} {ts : Trees} {events : List Event}
          → TurnsEvents i 0 from to ts events
          → InsideEvents (Many i) from to (row ts) events
      inside_window :
          {unit : ℕ} {count : Count} {i from to : ℕ} {t : TreeV} {events : List Event}
          → EventsAt i Part from to t events
          → InsideEvents (Window unit count i) from to t events
      -- of a labelled part: its label is told by the node
      inside_named :
          {label text : List ℕ} {i from to : ℕ} {t : TreeV} {events : List Event}
          → EventsAt i Part from to t events
          → InsideEvents (Named label i) from to (named text t) events

    -- those of the first parts, as many as there are trees, one behind another
    pub data PartsEvents : List ℕ → ℕ → ℕ → Trees → List Event → Type 0 where
      parts_end : {parts : List ℕ} {from to : ℕ} {events : List Event} → to ≡ from → events ≡ [] → PartsEvents parts from to none events
      parts_next :
          {i : ℕ} {parts : List ℕ} {from to : ℕ} {t : TreeV} {ts : Trees} {events : List Event}
          (middle : ℕ) (first rest : List Event) → events ≡ first ++ rest → EventsAt i Part from middle t first
          → PartsEvents parts middle to ts rest
          → PartsEvents (i ∷ parts) from to (more t ts) events

    -- those of the turns of part i, of which the first one has this number, one behind another
    pub data TurnsEvents : ℕ → ℕ → ℕ → ℕ → Trees → List Event → Type 0 where
      turns_end : {i turn from to : ℕ} {events : List Event} → to ≡ from → events ≡ [] → TurnsEvents i turn from to none events
      turns_next :
          {i turn from to : ℕ} {t : TreeV} {ts : Trees} {events : List Event}
          (middle : ℕ) (first rest : List Event) → events ≡ first ++ rest → EventsAt i (Turn turn) from middle t first
          → TurnsEvents i (next_turn turn) middle to ts rest
          → TurnsEvents i turn from to (more t ts) events

-- some events are told one after another, where `tells` says which states one makes of a state
abbrev pub Told : {S : Type 0} → (S → Event → S → Type 0) → List Event → S → S → Type 0
Told tells [] old new = new ≡ old
Told {S} tells (first ∷ rest) old new = (next : S) × tells old first next × Told tells rest next new

-- a block has one tree, and these are its events
pub record AreEvents (d : DescV) (b : List ℕ) (events : List Event) : Type 0 where
  pub tree : TreeV
  pub means : NMeans d 0 0 [] b tree
  pub only : (other : TreeV) → NMeans d 0 0 [] b other → other ≡ tree
  pub events_are : EventsAt d 0 Root 0 (length b) tree events

-- each block of at most 524,288 bits that goes on from these bits has these events, and perhaps some more behind them
abbrev pub BeginEvents : DescV → List ℕ → List Event → Type 0
BeginEvents d b events =
    (later : List ℕ) (tree : TreeV) → length (b ++ later) ≤ most_bits → NMeans d 0 0 [] (b ++ later) tree
    → (rest : List Event) × EventsAt d 0 Root 0 (length (b ++ later)) tree (events ++ rest)

-- ---- examples

-- the bit 1, and behind it a field of two bits
abbrev word_and_field : DescV
word_and_field = record { reading = Received; nodes = Seq (1 ∷ 2 ∷ []) ∷ Lits (One ∷ []) ∷ Field 1 (Fixed 2) ∷ [] }

abbrev word_leaf : Event
word_leaf = event.Leaf (leaf_with 1 kind.Literal Part 0 (1 ∷ []))

abbrev field_leaf : Event
field_leaf = event.Leaf (leaf_with 2 kind.Field Part 1 (1 ∷ 0 ∷ []))

pub two_leaves :
    EventsAt word_and_field 0 Root 0 3 (row (more empty (more (bits (1 ∷ 0 ∷ [])) none)))
    (event.Begin 0 Root 0 ∷ word_leaf ∷ field_leaf ∷ event.End 0 3 ∷ [])
two_leaves =
    events_node (Seq (1 ∷ 2 ∷ [])) (word_leaf ∷ field_leaf ∷ []) refl
    (inside_seq
    (parts_next 1 (word_leaf ∷ []) (field_leaf ∷ []) refl
    (events_leaf (Lits (One ∷ [])) kind.Literal (1 ∷ []) refl refl refl refl refl)
    (parts_next 3 (field_leaf ∷ []) [] refl
    (events_leaf (Field 1 (Fixed 2)) kind.Field (1 ∷ 0 ∷ []) refl refl refl refl refl) (parts_end refl refl))))
    refl

-- any number of bits, each the word 0 or the word 1
abbrev turns_of_words : DescV
turns_of_words =
    record { reading = Received; nodes = Many 1 ∷ Choice (2 ∷ 3 ∷ []) ∷ Lits (Zero ∷ []) ∷ Lits (One ∷ []) ∷ [] }

-- its second turn, from the place 1 on, takes the alternative 1
abbrev second_turn : List Event
second_turn =
    event.Begin 1 (Turn 1) 1 ∷ event.Leaf (leaf_with 3 kind.Literal (Alternative 1) 1 (1 ∷ [])) ∷ event.End 1 2 ∷ []

pub second_alternative : EventsAt turns_of_words 1 (Turn 1) 1 2 (alt 1 empty) second_turn
second_alternative =
    events_node (Choice (2 ∷ 3 ∷ [])) (event.Leaf (leaf_with 3 kind.Literal (Alternative 1) 1 (1 ∷ [])) ∷ []) refl
    (inside_choice 3 refl (events_leaf (Lits (One ∷ [])) kind.Literal (1 ∷ []) refl refl refl refl refl)) refl
