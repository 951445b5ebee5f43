-- A track that writes the text of a tree: what it has, and what a move makes of that. (This project's own choice.)
use Rattle.std.specs.Prelude.{◌≡◌, ℕ, Bool, true, false, List, Some}
use Rattle.csn_desc.specs.declared.moves.Move.{Move}
use Rattle.csn_desc.specs.declared.node.Node.{Node}
use Rattle.csn_desc.specs.declared.node.Node.TheVariants.{Lits}
use Rattle.csn_json.specs.declared.form.TreeForm.{TreeForm}
use Rattle.csn_movetext.specs.Openings.{OpeningsV, opening_in}
use Rattle.csn_movetext.specs.Writing.{WritingV, gathering, entered, behind}
use Rattle.csn_movetext.specs.Kept.{KeptV, Shows, Extends}

-- the openings with their form, what is kept of the text, and whether memory was refused; and, between two bits of a
-- run, those of its bits that have come
pub record TrackV : Type 0 where
  pub openings : OpeningsV
  pub kept : KeptV
  pub refused : Bool
  pub pending : List ℕ

-- the track has this of a text
pub record Shown (t : TrackV) (w : WritingV) : Type 0 where
  pub before : WritingV
  pub shows : Shows t.openings.form t.kept before
  pub with_pending : w ≡ gathering before t.pending

-- a node takes some bits; those of a literal are in no text
abbrev pub is_literal : Node → Bool
is_literal (Lits run) = true
is_literal _ = false

abbrev pub TookBits : TreeForm → Bool → List ℕ → KeptV → KeptV → Type 0
TookBits form true b old new = new ≡ old
TookBits form false b old new = (w : WritingV) → Shows form old w → Shows form new (gathering w b)

abbrev pub TookAll : TreeForm → Node → List ℕ → KeptV → KeptV → Type 0
TookAll form node b old new = TookBits form (is_literal node) b old new

-- the text that is shown goes on by the opening of a node that is entered
abbrev pub Enters : TreeForm → List ℕ → KeptV → KeptV → Type 0
Enters form opening old new = (w next : WritingV) → Shows form old w → entered form opening w ≡ Some next → Shows form new next

-- the text that is shown goes on by a move
abbrev pub Moves : OpeningsV → Move → Node → KeptV → KeptV → Type 0
Moves openings move node old new =
    (w next : WritingV) → Shows openings.form old w
    → behind openings.form (opening_in openings) move node w ≡ Some next → Shows openings.form new next

-- what a move makes: while no memory is refused, the text that was shown goes on by the move, and whatever is refused,
-- the bytes that were written stay in front
pub record Writes (old : TrackV) (move : Move) (node : Node) (new : TrackV) : Type 0 where
  pub same_openings : new.openings ≡ old.openings
  pub extends : Extends old.kept.text new.kept.text
  pub going : new.refused ≡ false → old.refused ≡ false
  pub goes_on :
      new.refused ≡ false → (w next : WritingV) → Shown old w
      → behind old.openings.form (opening_in old.openings) move node w ≡ Some next → Shown new next
