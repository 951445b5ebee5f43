-- Room for one tree more.
use Rattle.std.proofs.Common.{◌≡◌, false, List, [], ◌∷◌}
use Rattle.csn_treetext.specs.declared.stack.Frame.{Frame}
use Rattle.csn_treetext.specs.declared.stack.Frame.TheVariants.{Row, Alt, Named}
use Rattle.csn_treetext.specs.reader.Machine.{HasRoom, HasRoomBelow, is_in_row}

pub room_below : (stack : List Frame) → HasRoom stack → HasRoomBelow stack
room_below [] h = tt
room_below (Row ts ∷ stack) h = h.1
room_below (Alt j ∷ stack) h = h
room_below (Named l ∷ stack) h = h

pub room_inside : (frame : Frame) (stack : List Frame) → HasRoom (frame ∷ stack) → HasRoom stack
room_inside (Row ts) stack h = h.1
room_inside (Alt j) stack h = h
room_inside (Named l) stack h = h

pub no_row : (frame : Frame) (stack : List Frame) → is_in_row (frame ∷ stack) ≡ false → is_in_row (frame ∷ []) ≡ false
no_row (Row ts) stack h = h
no_row (Alt j) stack h = h
no_row (Named l) stack h = h
