-- Where a tree first misses a description: the tree is gone through with the nodes, each node before its
-- parts and the parts in their order, and at one node the reasons in the order in which they stand here.
-- (This project's own choice.)
use Rattle.std.specs.Prelude.{◌≡◌, ◌≢◌, ℕ, zero, suc, ◌+◌, ◌*◌, ◌<◌, ◌≤◌, Bool, true, false, List, [], ◌∷◌, length, slice_get, Some}
use Rattle.csn_bits.specs.Octets.{most_bits}
use Rattle.csn_desc.specs.declared.reading.Reading.TheVariants.{Sent}
use Rattle.csn_desc.specs.declared.symbol.Symbol.{Symbol}
use Rattle.csn_desc.specs.declared.symbol.Symbol.TheVariants.{Low}
use Rattle.csn_desc.specs.declared.node.Count.{Count}
use Rattle.csn_desc.specs.declared.node.Node.{Node}
use Rattle.csn_desc.specs.declared.node.Node.TheVariants.{Lits, Spare, Pad, Null, Field, Rest, Seq, Choice, Times, Many, Trunc, Window, Named}
use Rattle.csn_desc.specs.TreeV.{TreeV, empty, bits, row, alt, named, Trees, none, more, list_of}
use Rattle.csn_desc.specs.Nodes.{DescV}
use Rattle.csn_desc.specs.Spelled.{IsSpare}
use Rattle.csn_desc.specs.Values.{Values, count_of, with_value}
use Rattle.csn_desc.specs.Means.{NMeans}
use Rattle.csn_encode.specs.declared.misfit.MisfitWhy.{MisfitWhy}
use Rattle.csn_encode.specs.declared.misfit.MisfitWhy.TheVariants.{WrongKind, WrongLabel, WrongCount, WrongWidth}
use Rattle.csn_encode.specs.declared.misfit.MisfitWhy.TheVariants.{WrongSpare, NoSuchAlternative, WindowLength}
use Rattle.csn_encode.specs.declared.misfit.MisfitWhy.TheVariants.{TooManyBits}

-- is the tree of the kind that bits of the node have? A window's tree is that of its part.
abbrev pub has_kind : Node → TreeV → Bool
has_kind (Lits run) empty = true
has_kind Null empty = true
has_kind (Spare symbol) (bits b) = true
has_kind Pad (bits b) = true
has_kind (Field unit count) (bits b) = true
has_kind Rest (bits b) = true
has_kind (Seq parts) (row ts) = true
has_kind (Times count part) (row ts) = true
has_kind (Many part) (row ts) = true
has_kind (Trunc parts) (row ts) = true
has_kind (Choice parts) (alt j t) = true
has_kind (Named label part) (named other t) = true
has_kind (Window unit count part) t = true
has_kind _ _ = false

-- how many trees a row has
abbrev pub tree_count : Trees → ℕ
tree_count ts = length (list_of ts)

-- bits that begin at a place end within a block
abbrev pub IsWithin : ℕ → List ℕ → Type 0
IsWithin o b = o + length b ≤ most_bits

-- this many bits from a place on are more than a block has
abbrev pub IsPast : ℕ → ℕ → Type 0
IsPast o count = most_bits < o + count

abbrev pub kept_with : List ℕ → ℕ → ℕ
kept_with [] zero = zero
kept_with piece later = suc later

-- how many pieces there are without those at the end that have no bits
abbrev pub kept_count : List (List ℕ) → ℕ
kept_count [] = 0
kept_count (piece ∷ pieces) = kept_with piece (kept_count pieces)

module _ (d : DescV) where
  -- the first few parts have these trees, one each, with these pieces of bits, within a block
  pub data HavePieces : List ℕ → ℕ → Values → Trees → List (List ℕ) → Type 0 where
    pieces_end :
        {parts : List ℕ} {o : ℕ} {v : Values} {pieces : List (List ℕ)}
        → pieces ≡ []
        → HavePieces parts o v none pieces
    pieces_next :
        {i : ℕ} {parts : List ℕ} {o : ℕ} {v : Values} {t : TreeV} {ts : Trees}
        {pieces : List (List ℕ)}
        (b : List ℕ) (later : List (List ℕ)) → pieces ≡ b ∷ later → NMeans d i o v b t
        → IsWithin o b → HavePieces parts (o + length b) (with_value d.nodes i b v) ts later
        → HavePieces (i ∷ parts) o v (more t ts) pieces

  -- a tree misses a node itself, whose bits would begin at the place o
  pub data MissesNode : Node → ℕ → Values → TreeV → MisfitWhy → Type 0 where
    wrong_kind :
        {n : Node} {o : ℕ} {v : Values} {t : TreeV} {why : MisfitWhy}
        → has_kind n t ≡ false → why ≡ WrongKind
        → MissesNode n o v t why
    wrong_label :
        {label other : List ℕ} {i o : ℕ} {v : Values} {t : TreeV} {why : MisfitWhy}
        → other ≢ label → why ≡ WrongLabel
        → MissesNode (Named label i) o v (named other t) why
    -- a row of as many trees as wanted
    wrong_seq :
        {parts : List ℕ} {o : ℕ} {v : Values} {ts : Trees} {why : MisfitWhy}
        → tree_count ts ≢ length parts → why ≡ WrongCount (length parts) (tree_count ts)
        → MissesNode (Seq parts) o v (row ts) why
    wrong_times :
        {count : Count} {i o : ℕ} {v : Values} {ts : Trees} {why : MisfitWhy}
        (n : ℕ) → count_of v count ≡ Some n → tree_count ts ≢ n → why ≡ WrongCount n (tree_count ts)
        → MissesNode (Times count i) o v (row ts) why
    wrong_trunc :
        {parts : List ℕ} {o : ℕ} {v : Values} {ts : Trees} {why : MisfitWhy}
        → length parts < tree_count ts → why ≡ WrongCount (length parts) (tree_count ts)
        → MissesNode (Trunc parts) o v (row ts) why
    -- a truncation whose trees all fit, and the last of them has no bits
    idle_trunc :
        {parts : List ℕ} {o : ℕ} {v : Values} {ts : Trees} {why : MisfitWhy}
        (pieces : List (List ℕ)) → HavePieces parts o v ts pieces
        → kept_count pieces < length pieces → why ≡ WrongCount (kept_count pieces) (length pieces)
        → MissesNode (Trunc parts) o v (row ts) why
    -- bits of the width
    wrong_field :
        {unit : ℕ} {count : Count} {o : ℕ} {v : Values} {b : List ℕ} {why : MisfitWhy}
        (n : ℕ) → count_of v count ≡ Some n → length b ≢ unit * n
        → why ≡ WrongWidth (unit * n) (length b)
        → MissesNode (Field unit count) o v (bits b) why
    wide_spare :
        {s : Symbol} {o : ℕ} {v : Values} {b : List ℕ} {why : MisfitWhy}
        → length b ≢ 1 → why ≡ WrongWidth 1 (length b)
        → MissesNode (Spare s) o v (bits b) why
    no_pad :
        {o : ℕ} {v : Values} {b : List ℕ} {why : MisfitWhy}
        → b ≡ [] → why ≡ WrongWidth 1 0
        → MissesNode Pad o v (bits b) why
    -- the value that a sender writes
    wrong_spare :
        {s : Symbol} {o : ℕ} {v : Values} {b : List ℕ} {why : MisfitWhy}
        → length b ≡ 1 → d.reading ≡ Sent → ¬ IsSpare Sent s o b → why ≡ WrongSpare
        → MissesNode (Spare s) o v (bits b) why
    wrong_pad :
        {o : ℕ} {v : Values} {b : List ℕ} {why : MisfitWhy}
        → 0 < length b → d.reading ≡ Sent → ¬ IsSpare Sent Low o b → why ≡ WrongSpare
        → MissesNode Pad o v (bits b) why
    no_alternative :
        {parts : List ℕ} {j o : ℕ} {v : Values} {t : TreeV} {why : MisfitWhy}
        → length parts ≤ j → why ≡ NoSuchAlternative
        → MissesNode (Choice parts) o v (alt j t) why
    -- a window whose part has the tree, with another number of bits
    wrong_window :
        {unit : ℕ} {count : Count} {i o : ℕ} {v : Values} {t : TreeV} {why : MisfitWhy}
        (n : ℕ) (b : List ℕ) → count_of v count ≡ Some n → NMeans d i o v b t → IsWithin o b
        → length b ≢ unit * n → why ≡ WindowLength (unit * n) (length b)
        → MissesNode (Window unit count i) o v t why
    -- bits that a block has no room for, of a tree that fits else
    past_lits :
        {run : List Symbol} {o : ℕ} {v : Values} {why : MisfitWhy}
        → IsPast o (length run) → why ≡ TooManyBits
        → MissesNode (Lits run) o v empty why
    past_field :
        {unit : ℕ} {count : Count} {o : ℕ} {v : Values} {b : List ℕ} {why : MisfitWhy}
        (n : ℕ) → count_of v count ≡ Some n → length b ≡ unit * n → IsPast o (length b)
        → why ≡ TooManyBits
        → MissesNode (Field unit count) o v (bits b) why
    past_rest :
        {o : ℕ} {v : Values} {b : List ℕ} {why : MisfitWhy}
        → IsPast o (length b) → why ≡ TooManyBits
        → MissesNode Rest o v (bits b) why
    past_spare :
        {s : Symbol} {o : ℕ} {v : Values} {b : List ℕ} {why : MisfitWhy}
        → length b ≡ 1 → IsSpare d.reading s o b → IsPast o 1 → why ≡ TooManyBits
        → MissesNode (Spare s) o v (bits b) why
    past_pad :
        {o : ℕ} {v : Values} {b : List ℕ} {why : MisfitWhy}
        → 0 < length b → IsSpare d.reading Low o b → IsPast o (length b) → why ≡ TooManyBits
        → MissesNode Pad o v (bits b) why

  mutual
    -- the tree t at node i, which sees the values v, first misses at `path` inside it, where its bits
    -- would begin at the place o
    pub data Misses : ℕ → ℕ → Values → TreeV → List ℕ → MisfitWhy → Type 0 where
      misses_at :
          {i o : ℕ} {v : Values} {t : TreeV} {path : List ℕ} {why : MisfitWhy}
          (n : Node) → slice_get d.nodes i ≡ Some n → MissesIn n o v t path why
          → Misses i o v t path why

    pub data MissesIn : Node → ℕ → Values → TreeV → List ℕ → MisfitWhy → Type 0 where
      -- the node itself
      misses_here :
          {n : Node} {o : ℕ} {v : Values} {t : TreeV} {path : List ℕ} {why : MisfitWhy}
          → path ≡ [] → MissesNode n o v t why
          → MissesIn n o v t path why
      -- or else a part; 0 is the step below a label and below an alternative, and a window is no step
      misses_named :
          {label other : List ℕ} {i o : ℕ} {v : Values} {t : TreeV} {path : List ℕ}
          {why : MisfitWhy}
          (below : List ℕ) → path ≡ 0 ∷ below → other ≡ label → Misses i o v t below why
          → MissesIn (Named label i) o v (named other t) path why
      misses_choice :
          {parts : List ℕ} {j i o : ℕ} {v : Values} {t : TreeV} {path : List ℕ} {why : MisfitWhy}
          (below : List ℕ) → path ≡ 0 ∷ below → slice_get parts j ≡ Some i
          → Misses i o v t below why
          → MissesIn (Choice parts) o v (alt j t) path why
      misses_window :
          {unit : ℕ} {count : Count} {i o : ℕ} {v : Values} {t : TreeV} {path : List ℕ}
          {why : MisfitWhy}
          → Misses i o v t path why
          → MissesIn (Window unit count i) o v t path why
      misses_seq :
          {parts : List ℕ} {o : ℕ} {v : Values} {ts : Trees} {path : List ℕ} {why : MisfitWhy}
          → tree_count ts ≡ length parts → MissesParts parts 0 o v ts path why
          → MissesIn (Seq parts) o v (row ts) path why
      misses_trunc :
          {parts : List ℕ} {o : ℕ} {v : Values} {ts : Trees} {path : List ℕ} {why : MisfitWhy}
          → tree_count ts ≤ length parts → MissesParts parts 0 o v ts path why
          → MissesIn (Trunc parts) o v (row ts) path why
      misses_times :
          {count : Count} {i o : ℕ} {v : Values} {ts : Trees} {path : List ℕ} {why : MisfitWhy}
          (n : ℕ) → count_of v count ≡ Some n → tree_count ts ≡ n
          → MissesRepeats i 0 o v ts path why
          → MissesIn (Times count i) o v (row ts) path why
      misses_many :
          {i o : ℕ} {v : Values} {ts : Trees} {path : List ℕ} {why : MisfitWhy}
          → MissesRepeats i 0 o v ts path why
          → MissesIn (Many i) o v (row ts) path why

    -- of parts one after another, the first of which has the number `at`: the first tree misses, or it has
    -- bits and a later tree misses
    pub data MissesParts : List ℕ → ℕ → ℕ → Values → Trees → List ℕ → MisfitWhy → Type 0 where
      parts_here :
          {i at o : ℕ} {parts : List ℕ} {v : Values} {t : TreeV} {ts : Trees} {path : List ℕ}
          {why : MisfitWhy}
          (below : List ℕ) → path ≡ at ∷ below → Misses i o v t below why
          → MissesParts (i ∷ parts) at o v (more t ts) path why
      parts_later :
          {i at o : ℕ} {parts : List ℕ} {v : Values} {t : TreeV} {ts : Trees} {path : List ℕ}
          {why : MisfitWhy}
          (b : List ℕ) → NMeans d i o v b t → IsWithin o b
          → MissesParts parts (suc at) (o + length b) (with_value d.nodes i b v) ts path why
          → MissesParts (i ∷ parts) at o v (more t ts) path why

    -- the same of the part i again and again
    pub data MissesRepeats : ℕ → ℕ → ℕ → Values → Trees → List ℕ → MisfitWhy → Type 0 where
      repeats_here :
          {i at o : ℕ} {v : Values} {t : TreeV} {ts : Trees} {path : List ℕ} {why : MisfitWhy}
          (below : List ℕ) → path ≡ at ∷ below → Misses i o v t below why
          → MissesRepeats i at o v (more t ts) path why
      repeats_later :
          {i at o : ℕ} {v : Values} {t : TreeV} {ts : Trees} {path : List ℕ} {why : MisfitWhy}
          (b : List ℕ) → NMeans d i o v b t → IsWithin o b
          → MissesRepeats i (suc at) (o + length b) v ts path why
          → MissesRepeats i at o v (more t ts) path why

-- the first misfit of a tree that stands for a whole block
abbrev pub IsMisfit : DescV → TreeV → List ℕ → MisfitWhy → Type 0
IsMisfit d t path why = Misses d 0 0 [] t path why
