-- The conflicts of a node, as far as claimed sets tell them: what look-ahead of bounded length cannot decide. (This
-- project's own choice.)
use Rattle.std.specs.Prelude.{◌≡◌, ◌≢◌, ℕ, ◌<◌, ◌⊎◌, ⊤, Bool, List, [], ◌++◌, slice_get, Some, IsTrue}
use Rattle.csn_desc.specs.declared.node.Count.{Count}
use Rattle.csn_desc.specs.declared.node.Node.{Node}
use Rattle.csn_desc.specs.declared.node.Node.TheVariants.{Null, Pad, Rest, Choice, Times, Many, Trunc}
use Rattle.csn_desc.specs.Nodes.{DescV}
use Rattle.csn_claims.specs.Claims.{Claims}
use Rattle.csn_claims.specs.Ends.{ManyEnd}

-- one word begins with the other, or they are equal
abbrev pub IsBegunBy : List ℕ → List ℕ → Type 0
IsBegunBy long short = (rest : List ℕ) × (long ≡ short ++ rest)

-- nodes that end with what is read
abbrev pub IsLast : Node → Type 0
IsLast Rest = ⊤
IsLast Pad = ⊤
IsLast (Trunc parts) = ⊤
IsLast _ = ⊥

-- node i takes no bits
abbrev pub IsNull : DescV → ℕ → Type 0
IsNull d i = slice_get d.nodes i ≡ Some Null

module _ (d : DescV) (claims : Claims) where
  -- node i is not firm: it may have no bits, or some key of it is empty
  abbrev pub IsNotFirm : ℕ → Type 0
  IsNotFirm i = IsTrue (claims.nullable i) ⊎ ((o : ℕ) × (mark : Bool) × IsTrue (claims.keys i o [] mark))

  -- the node, which has the number i, has a conflict
  pub data HasConflict : ℕ → Node → Type 0 where
    -- two alternatives of a choice take no bits
    two_empty :
        {i p q : ℕ} {parts : List ℕ}
        (j k : ℕ) → j < k → slice_get parts j ≡ Some p → slice_get parts k ≡ Some q → IsNull d p → IsNull d q
        → HasConflict i (Choice parts)
    -- an alternative of a choice that takes bits is not firm, or the part of a free repetition is not;
    -- or the part of a repetition by number is nullable
    choice_not_firm :
        {i p : ℕ} {parts : List ℕ}
        (j : ℕ) → slice_get parts j ≡ Some p → ¬ IsNull d p → IsNotFirm p
        → HasConflict i (Choice parts)
    many_not_firm : {i p : ℕ} → IsNotFirm p → HasConflict i (Many p)
    times_not_firm : {i p : ℕ} {count : Count} → IsTrue (claims.nullable p) → HasConflict i (Times count p)
    -- two alternatives that take bits have keys of which one begins with the other
    overlap :
        {i p q : ℕ} {parts : List ℕ}
        (o j k : ℕ) → IsTrue (claims.reached i o) → j < k
        → slice_get parts j ≡ Some p → slice_get parts k ≡ Some q → ¬ IsNull d p → ¬ IsNull d q
        → (word_j word_k : List ℕ) (mark_j mark_k : Bool)
        → IsTrue (claims.keys p o word_j mark_j) → IsTrue (claims.keys q o word_k mark_k)
        → IsBegunBy word_j word_k ⊎ IsBegunBy word_k word_j
        → HasConflict i (Choice parts)
    -- beside an alternative that takes no bits, another one may begin with a bit that may follow the choice
    empty_clash :
        {i p q : ℕ} {parts : List ℕ}
        (o bit j k : ℕ) → IsTrue (claims.reached i o) → slice_get parts j ≡ Some p → IsNull d p
        → slice_get parts k ≡ Some q → k ≢ j → IsTrue (claims.starts q o bit) → IsTrue (claims.follow i o (Some bit))
        → HasConflict i (Choice parts)
    -- where a free repetition may begin its part, the part may begin with a bit that may follow the
    -- repetition
    loop_clash :
        {i p : ℕ}
        (from o bit : ℕ) → IsTrue (claims.reached i from) → ManyEnd claims p from o → IsTrue (claims.starts p o bit)
        → IsTrue (claims.follow i o (Some bit))
        → HasConflict i (Many p)
    -- where a node that must be last ends, a bit may follow
    not_last :
        {i : ℕ} {n : Node}
        (from o bit : ℕ) → IsLast n → IsTrue (claims.reached i from) → IsTrue (claims.ends i from o)
        → IsTrue (claims.follow i o (Some bit))
        → HasConflict i n
