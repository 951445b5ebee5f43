-- What may still come of a block: what is left of the nodes that are open, the innermost first. (This project's
-- own choice.)
use Rattle.std.specs.Prelude.{◌≡◌, ℕ, ◌+◌, ◌≤◌, ⊤, Bool, true, false, List, [], ◌∷◌, ◌++◌, length}
use Rattle.csn_desc.specs.declared.moves.Move.{Move}
use Rattle.csn_desc.specs.TreeV.{TreeV}
use Rattle.csn_desc.specs.Nodes.{DescV}
use Rattle.csn_desc.specs.Means.{NMeans}
use Rattle.csn_desc.specs.Follows.{NFollow}
use Rattle.csn_desc.specs.Walks.{Walk}
use Rattle.csn_judge.specs.Left.{Left, window_left, Completes, Begins}

-- a place is not behind the end of a window
abbrev pub IsUpTo : Left → ℕ → Type 0
IsUpTo (window_left end) place = place ≤ end
IsUpTo _ place = ⊤

-- nor behind the end of any window that is open
abbrev pub Within : List Left → ℕ → Type 0
Within [] place = ⊤
Within (left ∷ outer) place = IsUpTo left place × Within outer place

module _ (d : DescV) where
  -- behind the bits `done`, these bits end the block as it is open, by these moves: each open node is completed,
  -- from where the one inside it ends
  pub data Rest : List Left → List ℕ → List ℕ → List Move → Type 0 where
    rest_end : {done b : List ℕ} {moves : List Move} → b ≡ [] → moves ≡ [] → Rest [] done b moves
    rest_next :
        {left : Left} {outer : List Left} {done b : List ℕ} {moves : List Move}
        (b1 b2 : List ℕ) (first others : List Move) → b ≡ b1 ++ b2 → moves ≡ first ++ others
        → Completes d left done b1 first → Rest outer (done ++ b1) b2 others
        → Rest (left ∷ outer) done b moves

  -- behind the bits `done`, these bits can be followed: some of the open nodes are completed, the innermost first,
  -- and the next one begins with the bits that are left, inside all windows
  pub data Goes : List Left → List ℕ → List ℕ → Type 0 where
    goes_end : {done b : List ℕ} → b ≡ [] → Goes [] done b
    goes_next :
        {left : Left} {outer : List Left} {done b : List ℕ}
        (b1 b2 : List ℕ) (first : List Move) → b ≡ b1 ++ b2 → Completes d left done b1 first
        → Goes outer (done ++ b1) b2
        → Goes (left ∷ outer) done b
    goes_here :
        {left : Left} {outer : List Left} {done b : List ℕ}
        → Begins d left done b → Within (left ∷ outer) (length done + length b)
        → Goes (left ∷ outer) done b

  -- the bits of a block with the moves of the tree that they have
  pub record IsBlock (b : List ℕ) (moves : List Move) : Type 0 where
    pub tree : TreeV
    pub means : NMeans d 0 0 [] b tree
    pub walks : Walk d 0 0 tree moves

-- one list begins the other
pub data Agrees : List ℕ → List ℕ → Type 0 where
  shorter : {b ahead : List ℕ} (rest : List ℕ) → ahead ≡ b ++ rest → Agrees b ahead
  longer : {b ahead : List ℕ} (rest : List ℕ) → b ≡ ahead ++ rest → Agrees b ahead

-- the open nodes `stack` stand for a block whose first bits `done` are read by the moves `made`, where the bits
-- `ahead` come next: what ends the block ends what is open, by the later moves; and what can be followed of it is
-- what can be followed of that
pub record StandsFor (d : DescV) (stack : List Left) (done ahead : List ℕ) (made : List Move) : Type 0 where
  pub ends : (later : List ℕ) (moves : List Move) → IsBlock d (done ++ (ahead ++ later)) moves
      → (rest : List Move) × (moves ≡ made ++ rest) × Rest d stack done (ahead ++ later) rest
  pub ended : (later : List ℕ) (rest : List Move) → Rest d stack done (ahead ++ later) rest
      → IsBlock d (done ++ (ahead ++ later)) (made ++ rest)
  pub goes : (b : List ℕ) → Agrees b ahead → NFollow d 0 0 [] (done ++ b) → Goes d stack done b
  pub went : (b : List ℕ) → Agrees b ahead → Goes d stack done b → NFollow d 0 0 [] (done ++ b)

-- one step from some open nodes to others: behind the bits `done` it takes the bits `taken` and makes the moves
-- `made`, where then the bits `ahead` come next; what ends the block, and what can be followed, is the same before
-- and after it
pub record Steps (d : DescV) (old new : List Left) (done taken ahead : List ℕ) (made : List Move) : Type 0 where
  pub ends : (later : List ℕ) (rest : List Move) → Rest d old done (taken ++ (ahead ++ later)) rest
      → (more : List Move) × (rest ≡ made ++ more) × Rest d new (done ++ taken) (ahead ++ later) more
  pub ended : (later : List ℕ) (more : List Move) → Rest d new (done ++ taken) (ahead ++ later) more
      → Rest d old done (taken ++ (ahead ++ later)) (made ++ more)
  pub goes : (b : List ℕ) → Agrees b ahead → Goes d old done (taken ++ b) → Goes d new (done ++ taken) b
  pub went : (b : List ℕ) → Agrees b ahead → Goes d new (done ++ taken) b → Goes d old done (taken ++ b)

-- the same where the block may have ended behind the bits that come next: then these are all, and what can be followed
-- is not asked
pub record Passes (d : DescV) (ended : Bool) (old new : List Left) (done taken ahead : List ℕ) (made : List Move) : Type 0 where
  pub ends : (later : List ℕ) (rest : List Move) → (ended ≡ true → later ≡ []) → Rest d old done (taken ++ (ahead ++ later)) rest
      → (more : List Move) × (rest ≡ made ++ more) × Rest d new (done ++ taken) (ahead ++ later) more
  pub ended_by : (later : List ℕ) (more : List Move) → (ended ≡ true → later ≡ []) → Rest d new (done ++ taken) (ahead ++ later) more
      → Rest d old done (taken ++ (ahead ++ later)) (made ++ more)
  pub goes : (b : List ℕ) → ended ≡ false → Agrees b ahead → Goes d old done (taken ++ b) → Goes d new (done ++ taken) b
  pub went : (b : List ℕ) → ended ≡ false → Agrees b ahead → Goes d new (done ++ taken) b → Goes d old done (taken ++ b)
