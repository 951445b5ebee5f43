-- What a move makes of what is kept of a block, and of who is told its events. (This project's own choice.)
use Rattle.std.specs.Prelude.{◌≡◌, Option, Some, None}
use Rattle.csn_desc.specs.declared.moves.Move.{Move}
use Rattle.csn_desc.specs.declared.node.Node.{Node}
use Rattle.csn_fields.specs.declared.event.Event.{Event}
use Rattle.csn_fields.specs.Places.{PlacesV, behind, event_of}

-- what one who is told makes of an event, if there is one
abbrev pub Hears : {S : Type 0} → (S → Event → S → Type 0) → Option Event → S → S → Type 0
Hears tells None old new = new ≡ old
Hears tells (Some event) old new = tells old event new

-- a move that is told to one by whom `tells` says what an event makes
pub record Takes {S : Type 0} (tells : S → Event → S → Type 0) (old : PlacesV) (heard : S) (move : Move) (node : Node)
    (new : PlacesV) (after : S) : Type 0 where
  pub places : new ≡ behind old move node
  pub hears : Hears tells (event_of old move node) heard after
