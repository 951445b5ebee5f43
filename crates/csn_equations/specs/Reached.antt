-- Where a part of a node may begin, and what may stand behind it, from what is so of the node and of its other
-- parts: the equations of these sets. (This project's own choice.)
use Rattle.std.specs.Prelude.{◌≡◌, ℕ, ◌<◌, List, Option, Some, None}
use Rattle.csn_desc.specs.declared.node.Count.{Count}
use Rattle.csn_desc.specs.declared.node.Count.TheVariants.{Fixed, Counted}
use Rattle.csn_desc.specs.declared.node.Node.{Node}
use Rattle.csn_desc.specs.declared.node.Node.TheVariants.{Seq, Choice, Times, Many, Trunc, Window, Named}
use Rattle.csn_equations.specs.Nullable.{AllNullable}
use Rattle.csn_equations.specs.Ends.{PartsEnd, TimesEnd, ManyEnd}
use Rattle.csn_equations.specs.Starts.{PartsStart}

module _ (ends : ℕ → ℕ → ℕ → Type 0) where
  -- a part i with these parts before it, of a node that begins at one octet position, may begin at another
  pub data PartReached : Node → List ℕ → ℕ → ℕ → ℕ → Type 0 where
    -- where the parts before it may end
    reached_seq :
        {parts before : List ℕ} {i from o : ℕ}
        → PartsEnd ends before from o
        → PartReached (Seq parts) before i from o
    reached_trunc :
        {parts before : List ℕ} {i from o : ℕ}
        → PartsEnd ends before from o
        → PartReached (Trunc parts) before i from o
    -- where the node begins
    reached_choice : {parts before : List ℕ} {i from o : ℕ} → o ≡ from → PartReached (Choice parts) before i from o
    reached_window :
        {unit : ℕ} {count : Count} {part : ℕ} {before : List ℕ} {i from o : ℕ}
        → o ≡ from
        → PartReached (Window unit count part) before i from o
    reached_named :
        {label : List ℕ} {part : ℕ} {before : List ℕ} {i from o : ℕ}
        → o ≡ from
        → PartReached (Named label part) before i from o
    -- where a repetition may begin: after fewer than all of a constant number of times, and after any
    -- number of times where it is counted or free
    reached_times :
        {n part : ℕ} {before : List ℕ} {i from o : ℕ}
        (m : ℕ) → m < n → TimesEnd ends m i from o
        → PartReached (Times (Fixed n) part) before i from o
    reached_counted :
        {m field c part : ℕ} {before : List ℕ} {i from o : ℕ}
        → ManyEnd ends i from o
        → PartReached (Times (Counted m field c) part) before i from o
    reached_many :
        {part : ℕ} {before : List ℕ} {i from o : ℕ}
        → ManyEnd ends i from o
        → PartReached (Many part) before i from o

module _ (nullable : ℕ → Type 0) (ends starts : ℕ → ℕ → ℕ → Type 0) (follow : ℕ → ℕ → Option ℕ → Type 0) where
  -- what may stand behind a part i of the node with the number k, with these parts after it: where the part
  -- ends at the octet position o, a bit, or nothing, which is the end
  pub data PartFollow : Node → ℕ → List ℕ → ℕ → ℕ → Option ℕ → Type 0 where
    -- in a sequence: what the later parts may begin with, and what may follow the sequence where these
    -- are all nullable
    follow_later :
        {parts after : List ℕ} {k i o bit : ℕ}
        → PartsStart nullable ends starts after o bit
        → PartFollow (Seq parts) k after i o (Some bit)
    follow_seq :
        {parts after : List ℕ} {k i o : ℕ} {s : Option ℕ}
        → AllNullable nullable after → follow k o s
        → PartFollow (Seq parts) k after i o s
    -- in a truncation: the same, where the later parts may also be cut off
    follow_kept :
        {parts after : List ℕ} {k i o bit : ℕ}
        → PartsStart nullable ends starts after o bit
        → PartFollow (Trunc parts) k after i o (Some bit)
    follow_trunc :
        {parts after : List ℕ} {k i o : ℕ} {s : Option ℕ}
        → follow k o s
        → PartFollow (Trunc parts) k after i o s
    -- in a repetition: the part again, and what may follow the repetition
    follow_times_again :
        {count : Count} {part : ℕ} {after : List ℕ} {k i o bit : ℕ}
        → starts i o bit
        → PartFollow (Times count part) k after i o (Some bit)
    follow_times :
        {count : Count} {part : ℕ} {after : List ℕ} {k i o : ℕ} {s : Option ℕ}
        → follow k o s
        → PartFollow (Times count part) k after i o s
    follow_many_again :
        {part : ℕ} {after : List ℕ} {k i o bit : ℕ}
        → starts i o bit
        → PartFollow (Many part) k after i o (Some bit)
    follow_many :
        {part : ℕ} {after : List ℕ} {k i o : ℕ} {s : Option ℕ}
        → follow k o s
        → PartFollow (Many part) k after i o s
    -- what may follow the node
    follow_choice :
        {parts after : List ℕ} {k i o : ℕ} {s : Option ℕ}
        → follow k o s
        → PartFollow (Choice parts) k after i o s
    follow_named :
        {label : List ℕ} {part : ℕ} {after : List ℕ} {k i o : ℕ} {s : Option ℕ}
        → follow k o s
        → PartFollow (Named label part) k after i o s
    -- in a window: nothing
    follow_window :
        {unit : ℕ} {count : Count} {part : ℕ} {after : List ℕ} {k i o : ℕ} {s : Option ℕ}
        → s ≡ None
        → PartFollow (Window unit count part) k after i o s
