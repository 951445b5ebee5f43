-- The way from the root to where a block or a tree stands, as it is written. (This project's own choice.)
use Rattle.std.specs.Prelude.{ℕ, ◌-◌, List, [], ◌∷◌, ◌++◌, length, take, slice_get, Option, Some, None, nat_lt, if◌then◌else◌}
use Rattle.std.specs.Fmt.{decimal}
use Rattle.csn_fields.specs.declared.leaf.Role.{Role}
use Rattle.csn_fields.specs.declared.leaf.Role.TheVariants.{Alternative, Turn}
use Rattle.csn_fields.specs.declared.leaf.LeafKind.{LeafKind}
use Rattle.csn_fields.specs.declared.leaf.LeafKind.TheVariants.{Field}
use Rattle.csn_explaining.specs.declared.path.Begun.{Begun}
use Rattle.csn_explaining.specs.LeafLine.{kind_text}

-- a way: its text, the alternatives since the last leaf, and how long both were where each open node began
pub record WayV : Type 0 where
  pub text : List ℕ
  pub chosen : List ℕ
  pub begun : List Begun

-- the way to the root
abbrev pub root_way : WayV
root_way = record { text = []; chosen = []; begun = [] }

-- the number of an alternative, where a node is one
abbrev pub chosen_text : Role → List ℕ
chosen_text (Alternative number) = 35 ∷ decimal number
chosen_text _ = []

-- what a node is of the node round it
abbrev pub role_text : Role → List ℕ
role_text (Turn number) = 91 ∷ (decimal number ++ 93 ∷ [])
role_text role = chosen_text role

-- a sign behind a text, where there is one
abbrev pub sign_behind : ℕ → List ℕ → List ℕ
sign_behind sign text = if nat_lt 0 (length text) then sign ∷ [] else []

-- a text with a label behind it, where there is one
abbrev pub with_label : List ℕ → Option (List ℕ) → List ℕ
with_label text None = text
with_label text (Some label) = text ++ (sign_behind 46 text ++ label)

-- a way that goes on into a node with this role, and with a label where it is a labelled part
abbrev pub entered : Role → Option (List ℕ) → WayV → WayV
entered role label way = record {
  text = with_label (way.text ++ role_text role) label;
  chosen = way.chosen ++ chosen_text role;
  begun = way.begun ++ record { text = length way.text; chosen = length way.chosen } ∷ [];
}

-- a way that goes out of the node that began there, where one did
abbrev pub left_from : Option Begun → WayV → WayV
left_from None way = way
left_from (Some begun) way = record {
  text = take begun.text way.text;
  chosen = take begun.chosen way.chosen;
  begun = take (length way.begun - 1) way.begun;
}

-- a way that goes out of the node that began last
abbrev pub left : WayV → WayV
left way = left_from (slice_get way.begun (length way.begun - 1)) way

-- the way to a leaf, and behind it its kind, where it is no field
abbrev pub leaf_way : LeafKind → List ℕ → List ℕ
leaf_way Field path = path
leaf_way kind path = path ++ (sign_behind 32 path ++ 40 ∷ (kind_text kind ++ 41 ∷ []))
