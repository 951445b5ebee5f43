-- What is left of a node while a block is read: a part of it is read already, or none of it. Each form is a
-- meaning or a following of csn_desc with its front taken away. (This project's own choice.)
use Rattle.std.specs.Prelude.{◌≡◌, ℕ, ◌<◌, ◌≤◌, Bool, false, List, [], ◌∷◌, ◌++◌, length, drop, map, slice_get, Some}
use Rattle.csn_bits.specs.Octets.{IsBits}
use Rattle.csn_desc.specs.declared.symbol.Symbol.{Symbol}
use Rattle.csn_desc.specs.declared.symbol.Symbol.TheVariants.{Low}
use Rattle.csn_desc.specs.declared.moves.Move.{Move}
use Rattle.csn_desc.specs.declared.moves.Move.TheVariants.{Bit, Leave}
use Rattle.csn_desc.specs.declared.node.Node.TheVariants.{Choice}
use Rattle.csn_desc.specs.TreeV.{TreeV, Trees}
use Rattle.csn_desc.specs.Nodes.{DescV}
use Rattle.csn_desc.specs.Spelled.{spelled, IsSpare}
use Rattle.csn_desc.specs.Values.{Values, with_value}
use Rattle.csn_desc.specs.Means.{NMeans, NodeMeans, PartsMean, TimesMean, ManyMean, LeadMean}
use Rattle.csn_desc.specs.Follows.{NFollow, PartsFollow, TimesFollow, ManyFollow}
use Rattle.csn_desc.specs.Walks.{Walk, NodeWalk, PartsWalk, RepeatsWalk, LeadWalk}

pub data Left : Type 0 where
  -- all of node i, which sees these values and is not entered yet
  all_left : (i : ℕ) → Values → Left
  -- of a field: so many bits
  bits_left : (n : ℕ) → Left
  -- of a literal: these symbols
  symbols_left : List Symbol → Left
  -- a spare bit
  spare_left : Symbol → Left
  -- of padding: what goes on, a bit at least unless one was read
  pad_left : (begun : Bool) → Left
  -- of a rest: what goes on
  rest_left : Left
  -- of a choice: one of these alternatives
  choice_left : (parts : List ℕ) → Values → Left
  -- nothing: of a choice whose alternative is read, and of a label whose part is
  none_left : Left
  -- of a window: to end at this place
  window_left : (end : ℕ) → Left
  -- of a sequence, whose part i begins at the place `from` and sees these values: the parts behind it
  parts_left : (i from : ℕ) → (parts : List ℕ) → Values → Left
  -- of a repetition: the part i so many times
  turns_left : (n i : ℕ) → Values → Left
  -- of a free repetition: the part i any number of times
  free_left : (i : ℕ) → Values → Left
  -- of a truncation: before its first part, and then as of a sequence
  cut_left : (parts : List ℕ) → Values → Left
  lead_left : (i from : ℕ) → (parts : List ℕ) → Values → Left

module _ (d : DescV) where
  -- what the parts behind part i see, which began at the place `from`, where the block so far ends with it
  abbrev pub behind : (i from : ℕ) → Values → List ℕ → Values
  behind i from v done = with_value d.nodes i (drop from done) v

  -- behind the bits `done` of a block, these bits are all that is left, and these moves, with the leaving of the
  -- node, are made for them
  pub data Completes : Left → List ℕ → List ℕ → List Move → Type 0 where
    completes_all :
        {i : ℕ} {v : Values} {done b : List ℕ} {moves : List Move}
        (t : TreeV) → NMeans d i (length done) v b t → Walk d i (length done) t moves
        → Completes (all_left i v) done b moves
    completes_bits :
        {n : ℕ} {done b : List ℕ} {moves : List Move}
        → length b ≡ n → IsBits b → moves ≡ map Bit b ++ Leave ∷ []
        → Completes (bits_left n) done b moves
    completes_symbols :
        {run : List Symbol} {done b : List ℕ} {moves : List Move}
        → b ≡ spelled run (length done) → moves ≡ map Bit b ++ Leave ∷ []
        → Completes (symbols_left run) done b moves
    completes_spare :
        {s : Symbol} {done b : List ℕ} {moves : List Move}
        → length b ≡ 1 → IsSpare d.reading s (length done) b → moves ≡ map Bit b ++ Leave ∷ []
        → Completes (spare_left s) done b moves
    completes_pad :
        {begun : Bool} {done b : List ℕ} {moves : List Move}
        → (begun ≡ false → 0 < length b) → IsSpare d.reading Low (length done) b
        → moves ≡ map Bit b ++ Leave ∷ []
        → Completes (pad_left begun) done b moves
    completes_rest :
        {done b : List ℕ} {moves : List Move}
        → IsBits b → moves ≡ map Bit b ++ Leave ∷ []
        → Completes rest_left done b moves
    completes_choice :
        {parts : List ℕ} {v : Values} {done b : List ℕ} {moves inside : List Move}
        (t : TreeV) → NodeMeans d (Choice parts) (length done) v b t
        → NodeWalk d (Choice parts) (length done) t inside → moves ≡ inside ++ Leave ∷ []
        → Completes (choice_left parts v) done b moves
    completes_none :
        {done b : List ℕ} {moves : List Move}
        → b ≡ [] → moves ≡ Leave ∷ []
        → Completes none_left done b moves
    completes_window :
        {end : ℕ} {done b : List ℕ} {moves : List Move}
        → b ≡ [] → length done ≡ end → moves ≡ Leave ∷ []
        → Completes (window_left end) done b moves
    completes_parts :
        {i from : ℕ} {parts : List ℕ} {v : Values} {done b : List ℕ} {moves inside : List Move}
        (ts : Trees) → PartsMean d parts (length done) (behind i from v done) b ts
        → PartsWalk d parts (length done) ts inside → moves ≡ inside ++ Leave ∷ []
        → Completes (parts_left i from parts v) done b moves
    completes_turns :
        {n i : ℕ} {v : Values} {done b : List ℕ} {moves inside : List Move}
        (ts : Trees) → TimesMean d n i (length done) v b ts → RepeatsWalk d i (length done) ts inside
        → moves ≡ inside ++ Leave ∷ []
        → Completes (turns_left n i v) done b moves
    completes_free :
        {i : ℕ} {v : Values} {done b : List ℕ} {moves inside : List Move}
        (ts : Trees) → ManyMean d i (length done) v b ts → RepeatsWalk d i (length done) ts inside
        → moves ≡ inside ++ Leave ∷ []
        → Completes (free_left i v) done b moves
    -- a truncation may end before its first part, and behind one that has a bit
    completes_cut :
        {parts : List ℕ} {v : Values} {done b : List ℕ} {moves : List Move}
        → b ≡ [] → moves ≡ Leave ∷ []
        → Completes (cut_left parts v) done b moves
    completes_lead :
        {parts : List ℕ} {v : Values} {done b : List ℕ} {moves inside : List Move}
        (ts : Trees) → LeadMean d parts (length done) v b ts → LeadWalk d parts (length done) ts inside
        → moves ≡ inside ++ Leave ∷ []
        → Completes (cut_left parts v) done b moves
    completes_cut_behind :
        {i from : ℕ} {parts : List ℕ} {v : Values} {done b : List ℕ} {moves : List Move}
        → from < length done → b ≡ [] → moves ≡ Leave ∷ []
        → Completes (lead_left i from parts v) done b moves
    completes_lead_behind :
        {i from : ℕ} {parts : List ℕ} {v : Values} {done b : List ℕ} {moves inside : List Move}
        (ts : Trees) → LeadMean d parts (length done) (behind i from v done) b ts
        → LeadWalk d parts (length done) ts inside → moves ≡ inside ++ Leave ∷ []
        → Completes (lead_left i from parts v) done b moves

  -- behind the bits `done`, these bits are all that is left, or begin it as a node follows them
  pub data Begins : Left → List ℕ → List ℕ → Type 0 where
    begins_whole :
        {left : Left} {done b : List ℕ}
        (moves : List Move) → Completes left done b moves
        → Begins left done b
    begins_all :
        {i : ℕ} {v : Values} {done b : List ℕ}
        → NFollow d i (length done) v b
        → Begins (all_left i v) done b
    begins_bits : {n : ℕ} {done b : List ℕ} → length b ≤ n → IsBits b → Begins (bits_left n) done b
    begins_symbols :
        {run : List Symbol} {done b : List ℕ}
        (rest : List ℕ) → spelled run (length done) ≡ b ++ rest
        → Begins (symbols_left run) done b
    begins_spare :
        {s : Symbol} {done b : List ℕ}
        → length b ≤ 1 → IsSpare d.reading s (length done) b
        → Begins (spare_left s) done b
    begins_pad :
        {begun : Bool} {done b : List ℕ}
        → IsSpare d.reading Low (length done) b
        → Begins (pad_left begun) done b
    begins_choice :
        {parts : List ℕ} {v : Values} {done b : List ℕ}
        (j i : ℕ) → slice_get parts j ≡ Some i → NFollow d i (length done) v b
        → Begins (choice_left parts v) done b
    begins_window : {end : ℕ} {done b : List ℕ} → b ≡ [] → length done ≤ end → Begins (window_left end) done b
    begins_parts :
        {i from : ℕ} {parts : List ℕ} {v : Values} {done b : List ℕ}
        → PartsFollow d parts (length done) (behind i from v done) b
        → Begins (parts_left i from parts v) done b
    begins_turns :
        {n i : ℕ} {v : Values} {done b : List ℕ}
        → TimesFollow d n i (length done) v b
        → Begins (turns_left n i v) done b
    begins_free :
        {i : ℕ} {v : Values} {done b : List ℕ}
        → ManyFollow d i (length done) v b
        → Begins (free_left i v) done b
    begins_cut :
        {parts : List ℕ} {v : Values} {done b : List ℕ}
        → PartsFollow d parts (length done) v b
        → Begins (cut_left parts v) done b
    -- the part before is read, and with it all bits so far are followed
    begins_lead_none : {i from : ℕ} {parts : List ℕ} {v : Values} {done b : List ℕ} → b ≡ [] → Begins (lead_left i from parts v) done b
    begins_lead :
        {i from : ℕ} {parts : List ℕ} {v : Values} {done b : List ℕ}
        → PartsFollow d parts (length done) (behind i from v done) b
        → Begins (lead_left i from parts v) done b
