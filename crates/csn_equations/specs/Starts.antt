-- Which bits a node may begin with at an octet position, from those that its parts may begin with: the equation of these
-- sets. (This project's own choice.)
use Rattle.std.specs.Prelude.{◌≡◌, ℕ, ◌≤◌, List, [], ◌∷◌, slice_get, Some}
use Rattle.csn_desc.specs.declared.symbol.Symbol.{Symbol}
use Rattle.csn_desc.specs.declared.symbol.Symbol.TheVariants.{Low}
use Rattle.csn_desc.specs.declared.node.Count.{Count}
use Rattle.csn_desc.specs.declared.node.Node.{Node}
use Rattle.csn_desc.specs.declared.node.Node.TheVariants.{Lits, Spare, Pad, Field, Rest, Seq, Choice, Times, Many, Trunc, Window, Named}
use Rattle.csn_desc.specs.Nodes.{DescV}
use Rattle.csn_desc.specs.Spelled.{symbol_bit, IsSpare}

module _ (nullable : ℕ → Type 0) (ends starts : ℕ → ℕ → ℕ → Type 0) where
  -- some part may begin with the bit where all parts before it are nullable and can end
  pub data PartsStart : List ℕ → ℕ → ℕ → Type 0 where
    starts_here :
        {i : ℕ} {parts : List ℕ} {o bit : ℕ}
        → starts i o bit
        → PartsStart (i ∷ parts) o bit
    starts_later :
        {i : ℕ} {parts : List ℕ} {o bit : ℕ}
        (middle : ℕ) → nullable i → ends i o middle → PartsStart parts middle bit
        → PartsStart (i ∷ parts) o bit

module _ (d : DescV) (nullable : ℕ → Type 0) (ends starts : ℕ → ℕ → ℕ → Type 0) where
  -- the node may begin with the bit at the octet position o
  pub data NodeStarts : Node → ℕ → ℕ → Type 0 where
    -- a literal with its first bit
    starts_lits :
        {s : Symbol} {run : List Symbol} {o bit : ℕ}
        → bit ≡ symbol_bit s o
        → NodeStarts (Lits (s ∷ run)) o bit
    -- a spare part with a bit that it takes: any where it is received, and its own where it is sent
    starts_spare :
        {s : Symbol} {o bit : ℕ}
        → IsSpare d.reading s o (bit ∷ [])
        → NodeStarts (Spare s) o bit
    starts_pad : {o bit : ℕ} → IsSpare d.reading Low o (bit ∷ []) → NodeStarts Pad o bit
    -- a field and a rest with any bit
    starts_field : {unit : ℕ} {count : Count} {o bit : ℕ} → bit ≤ 1 → NodeStarts (Field unit count) o bit
    starts_rest : {o bit : ℕ} → bit ≤ 1 → NodeStarts Rest o bit
    starts_seq : {parts : List ℕ} {o bit : ℕ} → PartsStart nullable ends starts parts o bit → NodeStarts (Seq parts) o bit
    starts_trunc : {parts : List ℕ} {o bit : ℕ} → PartsStart nullable ends starts parts o bit → NodeStarts (Trunc parts) o bit
    -- and the others as a part of them does
    starts_choice :
        {parts : List ℕ} {i o bit : ℕ}
        (j : ℕ) → slice_get parts j ≡ Some i → starts i o bit
        → NodeStarts (Choice parts) o bit
    starts_times : {count : Count} {i o bit : ℕ} → starts i o bit → NodeStarts (Times count i) o bit
    starts_many : {i o bit : ℕ} → starts i o bit → NodeStarts (Many i) o bit
    starts_window :
        {unit : ℕ} {count : Count} {i o bit : ℕ}
        → starts i o bit
        → NodeStarts (Window unit count i) o bit
    starts_named : {label : List ℕ} {i o bit : ℕ} → starts i o bit → NodeStarts (Named label i) o bit
