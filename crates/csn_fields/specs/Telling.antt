-- The events that are told along the moves of a block. (This project's own choice.)
use Rattle.std.specs.Prelude.{◌≡◌, ℕ, List, [], ◌∷◌, ◌++◌, Option, Some, None}
use Rattle.csn_desc.specs.declared.moves.Move.{Move}
use Rattle.csn_desc.specs.declared.node.Node.{Node}
use Rattle.csn_fields.specs.declared.event.Event.{Event}
use Rattle.csn_fields.specs.Places.{PlacesV, nothing, behind, event_of}

-- what is kept of the block, and the events that were told
pub record ToldV : Type 0 where
  pub places : PlacesV
  pub events : List Event

-- nothing of a block, and no events
abbrev pub untold : List (Option ℕ) → ToldV
untold numbers = record { places = nothing numbers; events = [] }

-- one event more, if there is one
abbrev pub with_event : Option Event → List Event → List Event
with_event None events = events
with_event (Some event) events = events ++ event ∷ []

-- what a move makes of it
abbrev pub Goes : ToldV → Move → Node → ToldV → Type 0
Goes old move node new =
    new ≡ record { places = behind old.places move node; events = with_event (event_of old.places move node) old.events }
