-- The keys of a node are words: bits, at most as many as a key may have.
use Rattle.std.proofs.Common.{◌≡◌, ℕ, ◌≤◌, Bool, List, [], length, sym, subst, arith}
use Rattle.std.proofs.lemmas.List.{length-take}
use Rattle.csn_bits.specs.Octets.{IsBits}
use Rattle.csn_bits.proofs.Packing.{IsBits-append, IsBits-take}
use Rattle.csn_desc.specs.declared.symbol.Symbol.TheVariants.{Low}
use Rattle.csn_desc.specs.declared.node.Node.{Node}
use Rattle.csn_desc.specs.Nodes.{DescV}
use Rattle.csn_desc.proofs.BitFacts.{IsBits-spelled, IsBits-spare}
use Rattle.csn_look.specs.Keys.{Cut, kept, cut, InKeys, PartsKeys, TimesKeys, keys_lits}
use Rattle.csn_look.specs.Keys.{keys_spare, keys_field, keys_pad, keys_null, keys_rest, keys_many, keys_trunc}
use Rattle.csn_look.specs.Keys.{keys_window, keys_counted_field, keys_counted_times, keys_seq, keys_times}
use Rattle.csn_look.specs.Keys.{keys_choice, keys_named, parts_none, parts_cut, parts_whole, times_none, times_cut}
use Rattle.csn_look.specs.Keys.{times_whole}
use Rattle.csn_look.specs.KeyMarks.{IsWord}
use Rattle.csn_equations.specs.Keys as equation
use Rattle.csn_look.proofs.Meaning.LeastSets.{KeysWith, each_key}

-- bits, at most so many
pub record AtMost (most : ℕ) (x : List ℕ) : Type 0 where
  pub bits : IsBits x
  pub short : length x ≤ most

none_at_most : {most : ℕ} {x : List ℕ} → x ≡ [] → AtMost most x
none_at_most {most} none = let P : List ℕ → Type 0 = λ l. AtMost most l in subst P (sym none) (record { bits = tt; short = omega arith })

left_at_most : {most : ℕ} {w x : List ℕ} {whole mark : Bool} → IsBits w → Cut most w whole x mark → AtMost most x
left_at_most {most} {w} bits (kept short is same) =
    let P : List ℕ → Type 0 = λ l. AtMost most l in subst P (sym is) (record { bits = bits; short = short })
left_at_most {most} {w} bits (cut long is same) =
    let P : List ℕ → Type 0 = λ l. AtMost most l in
    subst P (sym is) (record { bits = IsBits-take most w bits; short = omega (arith, length-take most w) })

module _ (d : DescV) (most : ℕ) (P : ℕ → ℕ → List ℕ → Bool → Type 0) (few : (i o : ℕ) (x : List ℕ) (mark : Bool) → P i o x mark → AtMost most x) where
  parts_at_most : {parts : List ℕ} {o : ℕ} {x : List ℕ} {mark : Bool} → equation.PartsKeys most P parts o x mark → AtMost most x
  parts_at_most (parts_none e m) = none_at_most e
  parts_at_most (parts_cut h m) = few _ _ _ _ h
  parts_at_most (parts_whole w1 w2 rest h hs c) = left_at_most (IsBits-append w1 w2 (few _ _ _ _ h).bits (parts_at_most hs).bits) c

  times_at_most : {n i o : ℕ} {x : List ℕ} {mark : Bool} → equation.TimesKeys most P n i o x mark → AtMost most x
  times_at_most (times_none e f m) = none_at_most f
  times_at_most (times_cut m is h mark) = few _ _ _ _ h
  times_at_most (times_whole m is w1 w2 rest h hs c) = left_at_most (IsBits-append w1 w2 (few _ _ _ _ h).bits (times_at_most hs).bits) c

  node_at_most : {n : Node} {o : ℕ} {x : List ℕ} {mark : Bool} → equation.NodeKeys d most P n o x mark → AtMost most x
  node_at_most {o = o} (keys_lits {run = run} h) = left_at_most (IsBits-spelled run o) h
  node_at_most {o = o} (keys_spare {s = s} w one spare h) = left_at_most (IsBits-spare d.reading s o w spare) h
  node_at_most (keys_field w wide bits h) = left_at_most bits h
  node_at_most {o = o} (keys_pad w one spare h) = left_at_most (IsBits-spare d.reading Low o w spare) h
  node_at_most (keys_null e m) = none_at_most e
  node_at_most (keys_rest e m) = none_at_most e
  node_at_most (keys_many e m) = none_at_most e
  node_at_most (keys_trunc e m) = none_at_most e
  node_at_most (keys_window e m) = none_at_most e
  node_at_most (keys_counted_field e m) = none_at_most e
  node_at_most (keys_counted_times e m) = none_at_most e
  node_at_most (keys_seq h) = parts_at_most h
  node_at_most (keys_times h) = times_at_most h
  node_at_most (keys_choice j at h) = few _ _ _ _ h
  node_at_most (keys_named h) = few _ _ _ _ h

module _ (d : DescV) (most : ℕ) where
  abbrev AtMostOf : ℕ → ℕ → List ℕ → Bool → Type 0
  AtMostOf i o x mark = AtMost most x

  pub key_at_most : {i o : ℕ} {x : List ℕ} {mark : Bool} → InKeys d most i o x mark → AtMost most x
  key_at_most h = each_key AtMostOf (λ i o x mark made. node_at_most d most (KeysWith d most AtMostOf) (λ j r y m key. key.1) made.has) h

module _ (d : DescV) where
  -- of at most 12 bits
  pub key_word : {i o : ℕ} {x : List ℕ} {mark : Bool} → InKeys d 12 i o x mark → IsWord x
  key_word h = let few = key_at_most d 12 h in record { bits = few.bits; short = few.short }

  pub parts_word : {parts : List ℕ} {o : ℕ} {x : List ℕ} {mark : Bool} → PartsKeys d 12 parts o x mark → IsWord x
  parts_word h = let few = parts_at_most d 12 (InKeys d 12) (λ i o x mark key. key_at_most d 12 key) h in record { bits = few.bits; short = few.short }

  pub times_word : {n i o : ℕ} {x : List ℕ} {mark : Bool} → TimesKeys d 12 n i o x mark → IsWord x
  times_word h = let few = times_at_most d 12 (InKeys d 12) (λ i o x mark key. key_at_most d 12 key) h in record { bits = few.bits; short = few.short }
