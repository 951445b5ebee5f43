-- When a node of a new description takes the bits of a node of an old one. The kinds of the two nodes choose the
-- case: labels are passed by first, then come any bits, the alternatives of the old node, and those of the new one.
-- That a node is taken is enough for its bits to have a tree, and is not needed for it.
use Rattle.std.specs.Prelude.{◌≡◌, ℕ, ◌*◌, Bool, true, false, List, [], ◌∷◌, length, slice_get, Some, ⊤}
use Rattle.csn_desc.specs.declared.node.Count.{Count}
use Rattle.csn_desc.specs.declared.node.Count.TheVariants.{Fixed}
use Rattle.csn_desc.specs.declared.node.Node.{Node}
use Rattle.csn_desc.specs.declared.node.Node.TheVariants.{Lits, Spare, Pad, Null, Field, Rest, Seq, Choice, Times, Many, Trunc, Window, Named}
use Rattle.csn_desc.specs.Nodes.{DescV}
use Rattle.csn_compat.specs.declared.pairs.Pair.{Pair}
use Rattle.csn_compat.specs.Pairs.{with_pair, CountsAgree}

-- is the node a labelled part?
abbrev pub is_label : Node → Bool
is_label (Named label part) = true
is_label _ = false

-- is the node a labelled part, or any bits?
abbrev pub is_label_or_rest : Node → Bool
is_label_or_rest (Named label part) = true
is_label_or_rest Rest = true
is_label_or_rest _ = false

-- is the node a labelled part, or a choice?
abbrev pub is_label_or_choice : Node → Bool
is_label_or_choice (Named label part) = true
is_label_or_choice (Choice parts) = true
is_label_or_choice _ = false

-- a node that has no parts is taken as it stands: no bits by what may have none, a literal by an equal one or by a
-- field of as many bits, a spare bit by one of the same symbol or by a field of one bit, and a field by one of as
-- many bits
abbrev pub LeafTakes : List Pair → Node → Node → Type 0
LeafTakes pairs Null Null = ⊤
LeafTakes pairs Null (Many other) = ⊤
LeafTakes pairs Null (Trunc others) = ⊤
LeafTakes pairs (Lits run) (Lits other) = run ≡ other
LeafTakes pairs (Lits run) (Field unit (Fixed n)) = unit * n ≡ length run
LeafTakes pairs (Spare symbol) (Spare other) = symbol ≡ other
LeafTakes pairs (Spare symbol) (Field unit (Fixed n)) = unit * n ≡ 1
LeafTakes pairs Pad Pad = ⊤
LeafTakes pairs (Field unit count) (Field other taker) = CountsAgree pairs unit count other taker
LeafTakes pairs _ _ = ⊥

module _ (d : DescV) where
  -- without its labels, the node is any bits
  pub data IsAnyBits : ℕ → Type 0 where
    any_bits : {j : ℕ} → slice_get d.nodes j ≡ Some Rest → IsAnyBits j
    any_bits_labelled :
        {j : ℕ} (label : List ℕ) (part : ℕ) → slice_get d.nodes j ≡ Some (Named label part) → IsAnyBits part
        → IsAnyBits j

module _ (was now : DescV) where
  mutual
    -- node j of the new description takes node i of the old one, where these fields are pairs
    pub data Takes : ℕ → ℕ → List Pair → Type 0 where
      takes_at :
          {i j : ℕ} {pairs : List Pair}
          (n m : Node) → slice_get was.nodes i ≡ Some n → slice_get now.nodes j ≡ Some m → NodeTakes i n j m pairs
          → Takes i j pairs

    pub data NodeTakes : ℕ → Node → ℕ → Node → List Pair → Type 0 where
      -- labels are passed by: first those of the old node
      takes_labelled :
          {i j part : ℕ} {label : List ℕ} {m : Node} {pairs : List Pair}
          → Takes part j pairs
          → NodeTakes i (Named label part) j m pairs
      takes_by_labelled :
          {i j part : ℕ} {label : List ℕ} {n : Node} {pairs : List Pair}
          → is_label n ≡ false → Takes i part pairs
          → NodeTakes i n j (Named label part) pairs
      -- any bits take all
      takes_by_rest :
          {i j : ℕ} {n : Node} {pairs : List Pair}
          → is_label n ≡ false
          → NodeTakes i n j Rest pairs
      -- each alternative of the old choice is taken
      takes_choice :
          {i j : ℕ} {parts : List ℕ} {m : Node} {pairs : List Pair}
          → is_label_or_rest m ≡ false → ((k p : ℕ) → slice_get parts k ≡ Some p → Takes p j pairs)
          → NodeTakes i (Choice parts) j m pairs
      -- some alternative of the new choice takes the old node
      takes_by_choice :
          {i j : ℕ} {others : List ℕ} {n : Node} {pairs : List Pair}
          (k q : ℕ) → is_label_or_choice n ≡ false → slice_get others k ≡ Some q → Takes i q pairs
          → NodeTakes i n j (Choice others) pairs
      takes_leaf : {i j : ℕ} {n m : Node} {pairs : List Pair} → LeafTakes pairs n m → NodeTakes i n j m pairs
      takes_seq :
          {i j : ℕ} {parts others : List ℕ} {pairs : List Pair}
          → PartsTake parts others pairs
          → NodeTakes i (Seq parts) j (Seq others) pairs
      takes_times :
          {i j p q : ℕ} {count taker : Count} {pairs : List Pair}
          → CountsAgree pairs 1 count 1 taker → Takes p q pairs
          → NodeTakes i (Times count p) j (Times taker q) pairs
      takes_many :
          {i j p q : ℕ} {pairs : List Pair}
          → Takes p q pairs
          → NodeTakes i (Many p) j (Many q) pairs
      takes_trunc :
          {i j : ℕ} {parts others : List ℕ} {pairs : List Pair}
          → LeadTake parts others pairs
          → NodeTakes i (Trunc parts) j (Trunc others) pairs
      takes_window :
          {i j p q unit other : ℕ} {count taker : Count} {pairs : List Pair}
          → CountsAgree pairs unit count other taker → Takes p q pairs
          → NodeTakes i (Window unit count p) j (Window other taker q) pairs

    -- each part is taken by the one at its place, or those from some place on by a last one that is any bits
    pub data PartsTake : List ℕ → List ℕ → List Pair → Type 0 where
      parts_taken : {pairs : List Pair} → PartsTake [] [] pairs
      parts_take :
          {p q : ℕ} {parts others : List ℕ} {pairs : List Pair}
          → Takes p q pairs → PartsTake parts others (with_pair was now p q pairs)
          → PartsTake (p ∷ parts) (q ∷ others) pairs
      parts_taken_by_rest :
          {p q : ℕ} {parts : List ℕ} {pairs : List Pair}
          → IsAnyBits now q
          → PartsTake (p ∷ parts) (q ∷ []) pairs

    -- each part is taken by the one at its place, and more may stand behind these
    pub data LeadTake : List ℕ → List ℕ → List Pair → Type 0 where
      lead_taken : {others : List ℕ} {pairs : List Pair} → LeadTake [] others pairs
      lead_takes :
          {p q : ℕ} {parts others : List ℕ} {pairs : List Pair}
          → Takes p q pairs → LeadTake parts others (with_pair was now p q pairs)
          → LeadTake (p ∷ parts) (q ∷ others) pairs
