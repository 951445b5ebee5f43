-- Where a node is reached, from the root on, and what may follow it. (This project's own choice.)
use Rattle.std.specs.Prelude.{◌≡◌, ℕ, ◌+◌, ◌⊎◌, List, ◌∷◌, ◌++◌, slice_get, Option, Some, None}
use Rattle.csn_desc.specs.declared.node.Count.{Count}
use Rattle.csn_desc.specs.declared.node.Count.TheVariants.{Fixed, Counted}
use Rattle.csn_desc.specs.declared.node.Node.{Node}
use Rattle.csn_desc.specs.Nodes.{DescV, parts_of}
use Rattle.csn_equations.specs.Least.{Least}
use Rattle.csn_equations.specs.Reached as equation
pub use Rattle.csn_equations.specs.Reached.{reached_seq, reached_trunc, reached_choice, reached_window, reached_named}
pub use Rattle.csn_equations.specs.Reached.{reached_times, reached_counted, reached_many, follow_later, follow_seq}
pub use Rattle.csn_equations.specs.Reached.{follow_kept, follow_trunc, follow_times_again, follow_times}
pub use Rattle.csn_equations.specs.Reached.{follow_many_again, follow_many, follow_choice, follow_named}
pub use Rattle.csn_equations.specs.Reached.{follow_window}
use Rattle.csn_look.specs.Nullable.{Nullable}
use Rattle.csn_look.specs.Ends.{InEnds, TimesEnd, ManyEnd}
use Rattle.csn_look.specs.Starts.{InStart}

module _ (d : DescV) where
  -- a part i with these parts before it, of a node that begins at one octet position, may begin at another
  abbrev pub PartReached : Node → List ℕ → ℕ → ℕ → ℕ → Type 0
  PartReached n before i from o = equation.PartReached (InEnds d) n before i from o

  -- node i may begin at the octet position o
  pub data Reached : ℕ → ℕ → Type 0 where
    -- the root begins with the block
    reached_root : {i o : ℕ} → i ≡ 0 → o ≡ 0 → Reached i o
    -- a part of a node k that may begin at the octet position `from`
    reached_part :
        {i o : ℕ}
        (k from : ℕ) (n : Node) (before after : List ℕ) → slice_get d.nodes k ≡ Some n
        → parts_of n ≡ before ++ i ∷ after → Reached k from → PartReached n before i from o
        → Reached i o

  -- node i is a part of the node k, and what `P` says of it there is so
  pub record OfPart (i : ℕ) (P : ℕ → Node → List ℕ → Type 0) : Type 0 where
    pub above : ℕ
    pub node : Node
    pub before : List ℕ
    pub after : List ℕ
    pub at : slice_get d.nodes above ≡ Some node
    pub split : parts_of node ≡ before ++ i ∷ after
    pub so : P above node after

  -- where node i ends at the octet position o, what may stand next: a bit, or nothing, which is the end, as behind the
  -- root; the least set that the equation allows
  abbrev pub MakesFollow : (ℕ × (ℕ × Option ℕ) → Type 0) → ℕ × (ℕ × Option ℕ) → Type 0
  MakesFollow follow a =
      ((a.0 ≡ 0) × (a.1.1 ≡ None))
      ⊎ OfPart a.0 (λ k n after. equation.PartFollow (Nullable d) (InEnds d) (InStart d) (λ i o s. follow (i, (o, s))) n k after a.0 a.1.0 a.1.1)

  abbrev pub InFollow : ℕ → ℕ → Option ℕ → Type 0
  InFollow i o s = Least MakesFollow (i, (o, s))

  -- what may stand behind a part i of the node with the number k, with these parts after it
  abbrev pub PartFollow : Node → ℕ → List ℕ → ℕ → ℕ → Option ℕ → Type 0
  PartFollow n k after i o s = equation.PartFollow (Nullable d) (InEnds d) (InStart d) InFollow n k after i o s

  -- where `left` turns of the part i are left of a repetition that began at the octet position `from`, the next one
  -- may begin at o: after those that a constant number has before, and after any number where it is counted
  pub data Turn : Count → ℕ → ℕ → ℕ → ℕ → Type 0 where
    turn_fixed : {n i left from o : ℕ} (m : ℕ) → m + left ≡ n → TimesEnd d m i from o → Turn (Fixed n) i left from o
    turn_counted : {m field c i left from o : ℕ} → ManyEnd d i from o → Turn (Counted m field c) i left from o

  -- of bits behind node i, which ends at the octet position o, the first may stand there; or they are none
  abbrev pub MayStandBehind : ℕ → ℕ → List ℕ → Type 0
  MayStandBehind i o b = (bit : ℕ) (rest : List ℕ) → b ≡ bit ∷ rest → InFollow i o (Some bit)
