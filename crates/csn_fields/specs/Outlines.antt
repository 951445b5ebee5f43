-- The events of a node whose strings have as many bits each, where the bits are given as a number: a list of marks, each of
-- which is an event with gaps. (This project's own choice.)
use Rattle.std.specs.Prelude.{◌≡◌, ℕ, suc, ◌+◌, ◌-◌, ◌/◌, ◌^◌, ◌<◌, ◌≤◌, List, [], ◌∷◌, ◌++◌, length, slice_get, Option, Some, None, unwrap_or}
use Rattle.csn_bits.specs.Numbers.{low_bits}
use Rattle.csn_desc.specs.declared.moves.Move.{Move}
use Rattle.csn_desc.specs.declared.node.Node.{Node}
use Rattle.csn_desc.specs.TreeV.{TreeV, Trees}
use Rattle.csn_desc.specs.Nodes.{DescV}
use Rattle.csn_desc.specs.Values.{Values}
use Rattle.csn_desc.specs.Means.{NMeans, NodeMeans, PartsMean}
use Rattle.csn_desc.specs.Walks.{bits_of, Walk, NodeWalk, PartsWalk}
use Rattle.csn_judge.specs.Told.{Tells}
use Rattle.csn_fields.specs.declared.leaf.Role.{Role}
use Rattle.csn_fields.specs.declared.leaf.Role.TheVariants.{Part}
use Rattle.csn_fields.specs.declared.event.Event.{Event}
use Rattle.csn_fields.specs.declared.event.Event.TheVariants as event
use Rattle.csn_fields.specs.declared.outline.Form.{Form}
use Rattle.csn_fields.specs.declared.outline.Form.TheVariants as form
use Rattle.csn_fields.specs.declared.outline.Mark.{Mark}
use Rattle.csn_fields.specs.declared.refusal.OpenNode.{OpenNode}
use Rattle.csn_fields.specs.declared.places.Begun.{Begun}
use Rattle.csn_fields.specs.declared.places.Inside.TheVariants as next
use Rattle.csn_fields.specs.Events.{leaf_with}
use Rattle.csn_fields.specs.Places.{role_in, advanced}
use Rattle.csn_fields.specs.Telling.{ToldV, Goes}

-- a mark of this node and form, with so many bits, and so many behind them
pub record IsMark (mark : Mark) (i : ℕ) (form : Form) (width behind : ℕ) : Type 0 where
  pub node_is : mark.node ≡ i
  pub form_is : mark.form ≡ form
  pub width_is : mark.width ≡ width
  pub behind_is : mark.behind ≡ behind

-- the event of a form at a place; a leaf has these bits
abbrev pub form_event : Form → ℕ → Role → ℕ → List ℕ → Event
form_event form.Begin i role place b = event.Begin i role place
form_event (form.Leaf kind) i role place b = event.Leaf (leaf_with i kind role place b)
form_event form.End i role place b = event.End i place

-- the event of a mark, of a node that ends at a place and has the bits in which a number ends
abbrev pub mark_event : Role → Mark → ℕ → ℕ → Event
mark_event role mark end number =
    form_event mark.form mark.node role (end - (mark.behind + mark.width)) (low_bits mark.width (number / 2 ^ mark.behind))

-- those of all marks: the first one is of the node, and the others are of parts
abbrev pub filled : Role → List Mark → ℕ → ℕ → List Event
filled role [] end number = []
filled role (mark ∷ rest) end number = mark_event role mark end number ∷ filled Part rest end number

-- the last bits of a number are these
abbrev pub EndsIn : ℕ → List ℕ → Type 0
EndsIn number b = low_bits (length b) number ≡ b

-- what is kept of a block, and the events that were told
abbrev pub told_at : List (Option ℕ) → List Begun → ℕ → ℕ → List Event → ToldV
told_at numbers nodes place number events =
    record { places = record { numbers = numbers; nodes = nodes; place = place; number = number }; events = events }

-- the moves of node i take these bits, in which a number ends, and tell the events of the marks; so it is from any open
-- nodes on, where 64 have room for the marks, and any place whose end 32 bits hold
pub record Outlined (d : DescV) (i : ℕ) (marks : List Mark) (b : List ℕ) (moves : List Move) (number : ℕ) : Type 0 where
  pub takes : bits_of moves ≡ b
  pub tells :
      (numbers : List (Option ℕ)) (nodes : List Begun) (place last : ℕ) (events : List Event) (around : List ℕ)
      → length nodes + length marks ≤ 64 → place + length b < 4294967296
      → Tells d Goes around moves around (told_at numbers nodes place last events)
      (told_at numbers (advanced nodes) (place + length b) 0 (events ++ filled (role_in numbers i nodes) marks (place + length b) number))

-- these are the marks of node i
abbrev pub IsOutline : DescV → ℕ → List Mark → Type 0
IsOutline d i marks =
    (o : ℕ) (v : Values) (b : List ℕ) (t : TreeV) (moves : List Move) (number : ℕ)
    → NMeans d i o v b t → Walk d i o t moves → EndsIn number b
    → Outlined d i marks b moves number

-- those that a node has, if it has some
abbrev pub outline_at : List (Option (List Mark)) → ℕ → Option (List Mark)
outline_at outlines i = unwrap_or (slice_get outlines i) None

abbrev pub AreOutlines : DescV → List (Option (List Mark)) → Type 0
AreOutlines d outlines = (i : ℕ) (marks : List Mark) → outline_at outlines i ≡ Some marks → IsOutline d i marks

-- ---- how they are made

-- the marks of a part stand before others, and so many bits behind the part
pub record Precedes (part : List Mark) (behind : ℕ) (old new : List Mark) : Type 0 where
  pub count : length new ≡ length part + length old
  pub told : (end number : ℕ) → filled Part new end number ≡ filled Part part (end - behind) (number / 2 ^ behind) ++ filled Part old end number

-- so do those that a part has
pub record HasPart (outlines : List (Option (List Mark))) (part behind : ℕ) (old new : List Mark) : Type 0 where
  pub marks : List Mark
  pub there : outline_at outlines part ≡ Some marks
  pub before : Precedes marks behind old new

-- a node whose next part is a part
abbrev pub with_parts : OpenNode → Begun
with_parts node = record { node = node; inside = next.Part }

-- some moves between the beginning and the end of a node take these bits, and tell the events of the marks before others
pub record Within (d : DescV) (old new : List Mark) (b : List ℕ) (moves : List Move) (number : ℕ) : Type 0 where
  pub takes : bits_of moves ≡ b
  pub tells :
      (numbers : List (Option ℕ)) (node : OpenNode) (nodes : List Begun) (place : ℕ) (events : List Event) (around : List ℕ)
      → suc (length nodes) + length new ≤ 64 → place + length b < 4294967296
      → (more : List Event) × (filled Part new (place + length b) number ≡ more ++ filled Part old (place + length b) number)
      × Tells d Goes around moves around (told_at numbers (with_parts node ∷ nodes) place 0 events)
      (told_at numbers (with_parts node ∷ nodes) (place + length b) 0 (events ++ more))

-- all moves between the beginning and the end of a node of this kind do
abbrev pub WithinNode : DescV → Node → List (Option (List Mark)) → List Mark → List Mark → Type 0
WithinNode d n outlines old new =
    (o : ℕ) (v : Values) (b : List ℕ) (t : TreeV) (moves : List Move) (number : ℕ) → AreOutlines d outlines
    → NodeMeans d n o v b t → NodeWalk d n o t moves → EndsIn number b
    → Within d old new b moves number

-- those of parts one after another do, which have so many bits
abbrev pub WithinParts : DescV → List ℕ → ℕ → List (Option (List Mark)) → List Mark → List Mark → Type 0
WithinParts d parts width outlines old new =
    (o : ℕ) (v : Values) (b : List ℕ) (ts : Trees) (moves : List Move) (number : ℕ) → AreOutlines d outlines
    → PartsMean d parts o v b ts → PartsWalk d parts o ts moves → EndsIn number b
    → (length b ≡ width) × Within d old new b moves number

-- the strings of a part have so many bits with others behind it
abbrev pub HasWidth : DescV → ℕ → ℕ → ℕ → Type 0
HasWidth d part behind width = (o : ℕ) (v : Values) (b : List ℕ) (t : TreeV) → NMeans d part o v b t → length b + behind ≡ width

-- these are the marks of node i, which is of this kind and has so many bits
abbrev pub TellsNode : DescV → ℕ → Node → ℕ → List (Option (List Mark)) → List Mark → Type 0
TellsNode d i n width outlines marks =
    (o : ℕ) (v : Values) (b : List ℕ) (t : TreeV) (moves : List Move) (number : ℕ) → AreOutlines d outlines
    → slice_get d.nodes i ≡ Some n → NodeMeans d n o v b t → Walk d i o t moves → length b ≡ width → EndsIn number b
    → Outlined d i marks b moves number
