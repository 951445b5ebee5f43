-- What the reader knows of a value that it has read along the text, and of the tokens that it took. No public contract
-- rests on it.
use Rattle.std.specs.Prelude.{◌≡◌, ◌⊎◌, ℕ, ◌+◌, ◌<◌, min, List, [], ◌∷◌, length, codes, Bool, true, false, Option, Some, None}
use Rattle.json.specs.Token.{Token}
use Rattle.json.specs.Json.{value, items, members}
use Rattle.serde_json.specs.Data.{Num, unsigned, negative, float, Data, number, string, Items, no_items, item}
use Rattle.serde_json.specs.Data.{Members, no_members, member}
use Rattle.serde_json.specs.Read.{of_json, of_items, of_members, converted}
use Rattle.csn_desc.specs.TreeV.{TreeV, Trees, trees_of}
use Rattle.csn_desc.specs.declared.desc.TheConstants.{MOST_NODES}
use Rattle.csn_treetext.specs.declared.bounds.TheConstants.{MOST_LEVELS}
use Rattle.csn_json.specs.declared.fault.JsonFault.{JsonFault}
use Rattle.csn_json.specs.declared.fault.JsonFault.TheVariants.{NotJson, NotTree, NoMemory}
use Rattle.csn_json.specs.declared.number.Number.{Number}
use Rattle.csn_json.specs.declared.number.Number.TheVariants.{Whole, Other}
use Rattle.csn_json.specs.declared.piece.Piece.{Piece}
use Rattle.csn_json.specs.declared.piece.Piece.TheVariants as piece
use Rattle.csn_json.specs.declared.tag.Tag.{Tag}
use Rattle.csn_json.specs.declared.members.Member.{Member}
use Rattle.csn_json.specs.declared.members.Member.TheVariants.{Absent, Unfit, Fit}
use Rattle.csn_json.specs.declared.members.Members as read
use Rattle.csn_json.specs.Reading.{IsShown, AreShown, IsTag}

-- a number that was read is this one
abbrev pub IsNumberOf : Option Number → Option Num → Type 0
IsNumberOf None None = Unit {0}
IsNumberOf None (Some n) = ⊥
IsNumberOf (Some x) None = ⊥
IsNumberOf (Some (Whole n)) (Some (unsigned m)) = n ≡ m
IsNumberOf (Some (Whole n)) (Some (negative z)) = ⊥
IsNumberOf (Some (Whole n)) (Some (float x)) = ⊥
IsNumberOf (Some Other) (Some (unsigned m)) = ⊥
IsNumberOf (Some Other) (Some (negative z)) = Unit {0}
IsNumberOf (Some Other) (Some (float x)) = Unit {0}

-- ---- one value

-- how many levels are round what is inside, never more than there may be
abbrev pub inside : ℕ → ℕ
inside round = min (round + 1) MOST_LEVELS

-- the value is the number of no alternative, and no label
abbrev pub HasNoTag : Data → Type 0
HasNoTag value = (key : List ℕ) (tag : Tag) → IsTag key value tag → ⊥

abbrev pub ShowsNoTree : ℕ → Data → Type 0
ShowsNoTree round value = (t : TreeV) → IsShown round value t → ⊥

-- what is told of a value with so many levels round it
abbrev pub Tells : ℕ → Piece → Data → Type 0
Tells round (piece.Text s) value = value ≡ string s.now
Tells round (piece.Number n) value = (value ≡ number (unsigned n)) × (n < MOST_NODES)
Tells round (piece.Tree t) value = IsShown round value t × HasNoTag value
Tells round piece.Nothing value = ShowsNoTree round value × HasNoTag value

-- the tree that a value shows, if it shows one
abbrev pub TellsTree : ℕ → Option TreeV → Data → Type 0
TellsTree round (Some t) value = IsShown round value t
TellsTree round None value = ShowsNoTree round value

-- the tag that a value under a key is, if it is one
abbrev pub TellsTag : List ℕ → Option Tag → Data → Type 0
TellsTag key (Some tag) value = IsTag key value tag
TellsTag key None value = (tag : Tag) → IsTag key value tag → ⊥

-- ---- arrays

-- the values with one more at their end
abbrev pub then_item : Items → Data → Items
then_item no_items value = item value no_items
then_item (item first values) value = item first (then_item values value)

-- the trees that the values of an array show, if each of them shows one
abbrev pub TellsRow : ℕ → Option (List TreeV) → Items → Type 0
TellsRow round (Some ts) values = AreShown round values (trees_of ts)
TellsRow round None values = (ts : Trees) → AreShown round values ts → ⊥

-- ---- objects

-- a member that was read tells of the value of the last one with its key, if there is one
abbrev pub TellsMember : {T : Type 0} → (Option T → Data → Type 0) → Member T → Option Data → Type 0
TellsMember P Absent None = Unit {0}
TellsMember P Absent (Some value) = ⊥
TellsMember P Unfit None = ⊥
TellsMember P Unfit (Some value) = P None value
TellsMember P (Fit t) None = ⊥
TellsMember P (Fit t) (Some value) = P (Some t) value

-- the members of an object that has none but these three
abbrev member_if : List ℕ → Option Data → Members → Members
member_if key None more = more
member_if key (Some value) more = member key value more

abbrev pub three : Option Data → Option Data → Option Data → Members
three alternative label tree = member_if (codes "alt") alternative (member_if (codes "label") label (member_if (codes "tree") tree no_members))

-- one of the members has another key
abbrev pub HasOther : Members → Type 0
HasOther no_members = ⊥
HasOther (member key value more) = (¬ (key ≡ codes "alt") × ¬ (key ≡ codes "label") × ¬ (key ≡ codes "tree")) ⊎ HasOther more

-- the members have no other key, and of those with the three keys this is told
pub record AreThree (round : ℕ) (m : read.Members) (all : Members) : Type 0 where
  pub alternative : Option Data
  pub label : Option Data
  pub tree : Option Data
  pub same : all ≡ three alternative label tree
  pub tells_alternative : TellsMember (TellsTag (codes "alt")) m.alternative alternative
  pub tells_label : TellsMember (TellsTag (codes "label")) m.label label
  pub tells_tree : TellsMember (TellsTree round) m.tree tree

-- the one of two members that there is, where it fits
abbrev pub one_of : Member Tag → Member Tag → Option Tag
one_of Absent Absent = None
one_of Absent Unfit = None
one_of Absent (Fit tag) = Some tag
one_of Unfit second = None
one_of (Fit tag) Absent = Some tag
one_of (Fit tag) Unfit = None
one_of (Fit tag) (Fit other) = None

abbrev fitting_by : Option Tag → Member TreeV → Option (Tag × TreeV)
fitting_by tag Absent = None
fitting_by tag Unfit = None
fitting_by None (Fit tree) = None
fitting_by (Some tag) (Fit tree) = Some (tag, tree)

-- the tag and the tree, where there are these two and no third member
abbrev pub fitting : read.Members → Option (Tag × TreeV)
fitting m = fitting_by (one_of m.alternative m.label) m.tree

abbrev pub if_other : Bool → Type 0 → Type 0 → Type 0
if_other true A B = A
if_other false A B = B

-- what was read tells of the members of an object, whose values have so many levels round them
abbrev pub HasMembers : ℕ → read.Members → Members → Type 0
HasMembers round m all = if_other m.other (HasOther all) (AreThree round m all)

-- ---- tokens

-- the tokens begin with a value, or with the values of an array, or with the members of an object, of which this holds;
-- and these tokens are left
pub record Takes (depth : ℕ) (old new : List Token) (P : Data → Type 0) : Type 0 where
  pub found : Data
  pub taken : converted of_json (value depth old) ≡ Some (found, new)
  pub told : P found

pub record TakesItems (depth : ℕ) (old new : List Token) (P : Items → Type 0) : Type 0 where
  pub found : Items
  pub taken : converted of_items (items (value depth) (length old) old) ≡ Some (found, new)
  pub told : P found

pub record TakesMembers (depth : ℕ) (old new : List Token) (P : Members → Type 0) : Type 0 where
  pub found : Members
  pub taken : converted (λ ms. of_members ms no_members) (members (value depth) (length old) old) ≡ Some (found, new)
  pub told : P found

-- and they do not
abbrev pub NoValue : ℕ → List Token → Type 0
NoValue depth old = converted of_json (value depth old) ≡ None

abbrev pub NoItems : ℕ → List Token → Type 0
NoItems depth old = converted of_items (items (value depth) (length old) old) ≡ None

abbrev pub NoMembers : ℕ → List Token → Type 0
NoMembers depth old = converted (λ ms. of_members ms no_members) (members (value depth) (length old) old) ≡ None

-- what a fault says that stops the reading: there is no JSON, or no memory
abbrev pub Stops : JsonFault → Type 0 → Type 0
Stops NotJson nothing = nothing
Stops NotTree nothing = ⊥
Stops NoMemory nothing = Unit {0}
