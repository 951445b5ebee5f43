-- What is asked of a description so that bits have at most one tree, and of what may stand behind its nodes, which
-- `Follow` says of a node, the octet position where it ends, and a bit.
use Rattle.std.specs.Prelude.{◌≡◌, ◌≢◌, ℕ, ◌+◌, ◌%◌, ◌<◌, ◌⊎◌, Bool, List, ◌∷◌, length, slice_get, Some}
use Rattle.csn_desc.specs.declared.node.Count.{Count}
use Rattle.csn_desc.specs.declared.node.Node.{Node}
use Rattle.csn_desc.specs.declared.node.Node.TheVariants.{Seq, Choice, Times, Many, Trunc, Named}
use Rattle.csn_desc.specs.Nodes.{DescV}
use Rattle.csn_look.specs.Nullable.{Nullable, AllNullable}
use Rattle.csn_look.specs.Ends.{InEnds, PartsEnd, ManyEnd}
use Rattle.csn_look.specs.Starts.{InStart, PartsStart}
use Rattle.csn_look.specs.Keys.{InKeys}
use Rattle.csn_look.specs.Reached.{Reached}
use Rattle.csn_look.proofs.Meaning.ShapeFacts.{Shaped}
use Rattle.csn_claims.specs.Conflicts.{IsBegunBy, IsLast, IsNull}
use Rattle.csn_claims.specs.Holding.{IsPart}

-- node i may begin at the octet position o and end at p
pub record Lies (d : DescV) (i o p : ℕ) : Type 0 where
  pub begins : Reached d i o
  pub ends : InEnds d i o p

-- behind bits b of node i, from the place o on, stand the bits x, of which the first may stand there
pub record Stands (Follow : ℕ → ℕ → ℕ → Type 0) (i o : ℕ) (b x : List ℕ) : Type 0 where
  pub behind : (bit : ℕ) (rest : List ℕ) → x ≡ bit ∷ rest → Follow i ((o + length b) % 8) bit

pub record Clear (d : DescV) (most : ℕ) (Follow : ℕ → ℕ → ℕ → Type 0) : Type 0 where
  pub shaped : Shaped d
  -- behind a part may stand what the later parts or turns begin with
  pub seq_later : (k i from o p bit : ℕ) (parts before after : List ℕ) → IsPart d k (Seq parts) before i after
      → Reached d k from → PartsEnd d before from o → Lies d i o p → PartsStart d after p bit → Follow i p bit
  pub trunc_later : (k i from o p bit : ℕ) (parts before after : List ℕ) → IsPart d k (Trunc parts) before i after
      → Reached d k from → PartsEnd d before from o → Lies d i o p → PartsStart d after p bit → Follow i p bit
  pub times_again : (k i o p bit : ℕ) (count : Count) → slice_get d.nodes k ≡ Some (Times count i)
      → Lies d i o p → Reached d i p → InStart d i p bit → Follow i p bit
  pub many_again : (k i o p bit : ℕ) → slice_get d.nodes k ≡ Some (Many i) → Lies d i o p → Reached d i p → InStart d i p bit → Follow i p bit
  -- and what may stand behind its node, in a sequence where the later parts have no bits
  pub seq_behind : (k i o p bit : ℕ) (parts before after : List ℕ) → IsPart d k (Seq parts) before i after
      → Lies d i o p → AllNullable d after → Follow k p bit → Follow i p bit
  pub trunc_behind : (k i o p bit : ℕ) (parts before after : List ℕ) → IsPart d k (Trunc parts) before i after → Lies d i o p → Follow k p bit → Follow i p bit
  pub times_behind : (k i o p bit : ℕ) (count : Count) → slice_get d.nodes k ≡ Some (Times count i) → Lies d i o p → Follow k p bit → Follow i p bit
  pub many_behind : (k i o p bit : ℕ) → slice_get d.nodes k ≡ Some (Many i) → Lies d i o p → Follow k p bit → Follow i p bit
  pub choice_behind : (k i o p bit : ℕ) (parts before after : List ℕ) → IsPart d k (Choice parts) before i after
      → Lies d i o p → Follow k p bit → Follow i p bit
  pub named_behind : (k i o p bit : ℕ) (label : List ℕ) → slice_get d.nodes k ≡ Some (Named label i) → Lies d i o p → Follow k p bit → Follow i p bit
  -- and no node has a conflict
  pub two_empty : (k i j p q : ℕ) (parts : List ℕ) → slice_get d.nodes k ≡ Some (Choice parts)
      → i < j → slice_get parts i ≡ Some p → slice_get parts j ≡ Some q → IsNull d p → ¬ IsNull d q
  pub nullable : (k i p : ℕ) (parts : List ℕ) → slice_get d.nodes k ≡ Some (Choice parts) → slice_get parts i ≡ Some p → ¬ IsNull d p → ¬ Nullable d p
  pub overlap : (k o i j p q : ℕ) (parts word_i word_j : List ℕ) (mark_i mark_j : Bool)
      → slice_get d.nodes k ≡ Some (Choice parts) → Reached d k (o % 8) → i < j → slice_get parts i ≡ Some p
      → slice_get parts j ≡ Some q → ¬ IsNull d p → ¬ IsNull d q → InKeys d most p (o % 8) word_i mark_i
      → InKeys d most q (o % 8) word_j mark_j → ¬ (IsBegunBy word_i word_j ⊎ IsBegunBy word_j word_i)
  pub empty_clash : (k o bit i j p q : ℕ) (parts : List ℕ) → slice_get d.nodes k ≡ Some (Choice parts)
      → Reached d k o → slice_get parts i ≡ Some p → IsNull d p → slice_get parts j ≡ Some q → j ≢ i
      → InStart d q o bit → ¬ Follow k o bit
  pub loop_clash : (k i from o bit : ℕ) → slice_get d.nodes k ≡ Some (Many i) → Reached d k from → ManyEnd d i from o → InStart d i o bit → ¬ Follow k o bit
  pub not_last : (k from o bit : ℕ) (n : Node) → slice_get d.nodes k ≡ Some n → IsLast n → Reached d k from → InEnds d k from o → ¬ Follow k o bit
