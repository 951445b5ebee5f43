-- How often small changes may still be tried. (This project's own choice.)
use Rattle.std.specs.Prelude.{ℕ, ◌+◌, ◌*◌, List, slice_index_or}
use Rattle.csn_sample.specs.declared.change.Change.{Change}
use Rattle.csn_sample.specs.declared.change.Change.TheVariants.{Turned, Cut, Behind, Twice}

-- the number of a kind of change
abbrev pub kind_of : Change → ℕ
kind_of (Turned at) = 0
kind_of (Cut at) = 1
kind_of (Behind bit) = 2
kind_of (Twice from to) = 3

-- where the tries of a kind of change at a node stand
abbrev pub place_of : ℕ → Change → ℕ
place_of node change = 4 * node + kind_of change

-- how often such a change may still be tried at a node; at one that is not there never
abbrev pub tries_left : List ℕ → ℕ → Change → ℕ
tries_left tries node change = slice_index_or tries (place_of node change) 0
