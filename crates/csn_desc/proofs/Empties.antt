-- A well-formed node follows the empty bits, where the labelled parts that it sees have values.
use Rattle.std.proofs.Common.{◌≡◌, ℕ, zero, suc, ◌+◌, ◌*◌, List, [], ◌∷◌, refl, arith, Some, None}
use Rattle.std.specs.Prelude.{replicate, IsSome}
use Rattle.std.proofs.lemmas.List.{length-replicate}
use Rattle.csn_bits.proofs.Packing.{IsBits-zeros}
use Rattle.csn_desc.specs.declared.symbol.Symbol.TheVariants.{Low}
use Rattle.csn_desc.specs.declared.node.Count.{Count}
use Rattle.csn_desc.specs.declared.node.Count.TheVariants.{Fixed, Counted}
use Rattle.csn_desc.specs.declared.node.Node.{Node}
use Rattle.csn_desc.specs.declared.node.Node.TheVariants.{Lits, Spare, Pad, Null, Field, Rest, Seq, Choice, Times, Many, Trunc, Window, Named}
use Rattle.csn_desc.specs.TreeV.{empty, bits, row, none}
use Rattle.csn_desc.specs.Nodes.{DescV}
use Rattle.csn_desc.specs.Spelled.{spelled}
use Rattle.csn_desc.specs.Values.{Values, value_of, count_of}
use Rattle.csn_desc.specs.Means.{means_lits, means_spare, means_pad, means_null, means_field, means_rest, means_times}
use Rattle.csn_desc.specs.Means.{means_many, means_cut, times_end, many_end}
use Rattle.csn_desc.specs.Follows.{NFollow, NodeFollows, follows_at, follows_whole, follows_lits, follows_spare}
use Rattle.csn_desc.specs.Follows.{follows_pad, follows_field, follows_seq, follows_choice, follows_times}
use Rattle.csn_desc.specs.Follows.{follows_window, follows_named, parts_here, times_here}
use Rattle.csn_desc.specs.Formed.{IsCount, Formed, formed, formed_next, HaveValues}
use Rattle.csn_desc.proofs.BitFacts.{spelled_is_spare}

-- a count that stands on a field with a value is a number
pub has_count : (nodes : List Node) (seen : List ℕ) (v : Values) (count : Count)
    → HaveValues v seen → IsCount nodes seen count → (n : ℕ) × (count_of v count ≡ Some n)
has_count nodes seen v (Fixed n) values is = (n, refl)
has_count nodes seen v (Counted m field c) values is = found (value_of v field) refl (values field is.2)
  where
    found : (value : _) → value_of v field ≡ value → IsSome value → (n : ℕ) × (count_of v (Counted m field c) ≡ Some n)
    found None e some = cc
    found (Some x) e some = (m * x + c, rw e refl)

module _ (d : DescV) (v : Values) where
  times_empty : (count : Count) (p o n : ℕ) → count_of v count ≡ Some n → NFollow d p o v [] → NodeFollows d (Times count p) o v []
  times_empty count p o zero counts first = follows_whole (row none) (means_times 0 counts (times_end refl refl))
  times_empty count p o (suc n) counts first = follows_times (suc n) counts (times_here (omega arith) first)

  pub empty_followed : {seen : List ℕ} {round i : ℕ} (o : ℕ) → HaveValues v seen → Formed d.nodes seen round i → NFollow d i o v []
  empty_followed o values (formed (Lits run) at few head parts room inside) =
      follows_at (Lits run) at (follows_lits (spelled run o) (spelled run o) refl (means_lits refl))
  empty_followed o values (formed (Spare s) at few head parts room inside) =
      follows_at (Spare s) at (follows_spare (spelled (s ∷ []) o) (spelled (s ∷ []) o) refl (means_spare refl (spelled_is_spare d.reading s o)))
  empty_followed o values (formed Pad at few head parts room inside) =
      follows_at Pad at (follows_pad (spelled (Low ∷ []) o) (spelled (Low ∷ []) o) refl (means_pad (omega arith) (spelled_is_spare d.reading Low o)))
  empty_followed o values (formed Null at few head parts room inside) = follows_at Null at (follows_whole empty (means_null refl))
  empty_followed {seen = seen} o values (formed (Field unit count) at few head parts room inside) =
      let c = has_count d.nodes seen v count values head.1 in
      let zeros = replicate (unit * c.0) 0 in
      follows_at (Field unit count) at (follows_field zeros zeros refl (means_field c.0 c.1 (length-replicate (unit * c.0) 0) (IsBits-zeros (unit * c.0))))
  empty_followed o values (formed Rest at few head parts room inside) = follows_at Rest at (follows_whole (bits []) (means_rest tt))
  empty_followed o values (formed (Seq []) at few head parts room inside) = absurd (omega arith)
  empty_followed o values (formed (Seq (p ∷ ps)) at few head parts room (formed_next first others)) =
      follows_at (Seq (p ∷ ps)) at (follows_seq (parts_here (empty_followed o values first)))
  empty_followed o values (formed (Choice []) at few head parts room inside) = absurd (omega arith)
  empty_followed o values (formed (Choice (p ∷ ps)) at few head parts room (formed_next first others)) =
      follows_at (Choice (p ∷ ps)) at (follows_choice 0 refl (empty_followed o values first))
  empty_followed {seen = seen} o values (formed (Times count p) at few head parts room (formed_next first others)) =
      let c = has_count d.nodes seen v count values head in
      follows_at (Times count p) at (times_empty count p o c.0 c.1 (empty_followed o values first))
  empty_followed o values (formed (Many p) at few head parts room inside) = follows_at (Many p) at (follows_whole (row none) (means_many (many_end refl)))
  empty_followed o values (formed (Trunc parts) at few head some room inside) = follows_at (Trunc parts) at (follows_whole (row none) (means_cut refl))
  empty_followed {seen = seen} o values (formed (Window unit count p) at few head parts room (formed_next first others)) =
      let c = has_count d.nodes seen v count values head.1 in
      follows_at (Window unit count p) at (follows_window c.0 c.1 (omega arith) (empty_followed o values first))
  empty_followed o values (formed (Named label p) at few head parts room (formed_next first others)) =
      follows_at (Named label p) at (follows_named (empty_followed o values first))

pub nothing_seen : HaveValues [] []
nothing_seen field h = absurd (omega (arith, h.1))
