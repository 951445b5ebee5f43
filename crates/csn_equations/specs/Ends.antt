-- Where bits of a node may end, from where those of its parts may: the equation of these sets. An octet position is a
-- place modulo 8. (This project's own choice; 3GPP TS 24.007 Annex B counts `L` and `H` by octet positions.)
use Rattle.std.specs.Prelude.{◌≡◌, ℕ, suc, ◌+◌, ◌*◌, ◌%◌, ◌^◌, ◌<◌, List, [], ◌∷◌, length, slice_get, Some}
use Rattle.csn_desc.specs.declared.symbol.Symbol.{Symbol}
use Rattle.csn_desc.specs.declared.node.Count.{Count}
use Rattle.csn_desc.specs.declared.node.Count.TheVariants.{Fixed, Counted}
use Rattle.csn_desc.specs.declared.node.Node.{Node}
use Rattle.csn_desc.specs.declared.node.Node.TheVariants.{Lits, Spare, Pad, Null, Field, Rest, Seq, Choice, Times, Many, Trunc, Window, Named}
use Rattle.csn_desc.specs.Nodes.{DescV}
use Rattle.csn_desc.specs.Formed.{value_width}

-- a count may be n: the constant, or what some value of its field makes it
pub data MayCount (d : DescV) : Count → ℕ → Type 0 where
  may_fixed : {k n : ℕ} → n ≡ k → MayCount d (Fixed k) n
  may_counted :
      {m field c n : ℕ}
      (width value : ℕ) → value_width d.nodes field ≡ Some width → value < 2 ^ width
      → n ≡ m * value + c
      → MayCount d (Counted m field c) n

module _ (ends : ℕ → ℕ → ℕ → Type 0) where
  -- one part after another
  pub data PartsEnd : List ℕ → ℕ → ℕ → Type 0 where
    parts_end : {o p : ℕ} → p ≡ o → PartsEnd [] o p
    parts_next :
        {i : ℕ} {parts : List ℕ} {o p : ℕ}
        (middle : ℕ) → ends i o middle → PartsEnd parts middle p
        → PartsEnd (i ∷ parts) o p

  -- n times the part i
  pub data TimesEnd : ℕ → ℕ → ℕ → ℕ → Type 0 where
    times_end : {n i o p : ℕ} → n ≡ 0 → p ≡ o → TimesEnd n i o p
    times_next :
        {n i o p : ℕ}
        (m middle : ℕ) → n ≡ suc m → ends i o middle → TimesEnd m i middle p
        → TimesEnd n i o p

  -- any number of times the part i
  pub data ManyEnd : ℕ → ℕ → ℕ → Type 0 where
    many_end : {i o p : ℕ} → p ≡ o → ManyEnd i o p
    many_next : {i o p : ℕ} (middle : ℕ) → ends i o middle → ManyEnd i middle p → ManyEnd i o p

  -- the first few parts, also none
  pub data LeadEnd : List ℕ → ℕ → ℕ → Type 0 where
    lead_end : {parts : List ℕ} {o p : ℕ} → p ≡ o → LeadEnd parts o p
    lead_next :
        {i : ℕ} {parts : List ℕ} {o p : ℕ}
        (middle : ℕ) → ends i o middle → LeadEnd parts middle p
        → LeadEnd (i ∷ parts) o p

module _ (d : DescV) (ends : ℕ → ℕ → ℕ → Type 0) where
  -- bits of the node from the octet position o on may end at the octet position p
  pub data NodeEnds : Node → ℕ → ℕ → Type 0 where
    ends_lits : {run : List Symbol} {o p : ℕ} → p ≡ (o + length run) % 8 → NodeEnds (Lits run) o p
    ends_spare : {s : Symbol} {o p : ℕ} → p ≡ (o + 1) % 8 → NodeEnds (Spare s) o p
    ends_null : {o p : ℕ} → p ≡ o → NodeEnds Null o p
    -- padding and a rest end anywhere
    ends_pad : {o p : ℕ} → p < 8 → NodeEnds Pad o p
    ends_rest : {o p : ℕ} → p < 8 → NodeEnds Rest o p
    -- a field and a window have as many bits as they may count
    ends_field :
        {unit : ℕ} {count : Count} {o p : ℕ}
        (n : ℕ) → MayCount d count n → p ≡ (o + unit * n) % 8
        → NodeEnds (Field unit count) o p
    ends_window :
        {unit : ℕ} {count : Count} {i o p : ℕ}
        (n : ℕ) → MayCount d count n → p ≡ (o + unit * n) % 8
        → NodeEnds (Window unit count i) o p
    ends_seq : {parts : List ℕ} {o p : ℕ} → PartsEnd ends parts o p → NodeEnds (Seq parts) o p
    ends_choice :
        {parts : List ℕ} {i o p : ℕ}
        (j : ℕ) → slice_get parts j ≡ Some i → ends i o p
        → NodeEnds (Choice parts) o p
    -- a constant number of times, and any number of times where it is counted or free
    ends_times : {n i o p : ℕ} → TimesEnd ends n i o p → NodeEnds (Times (Fixed n) i) o p
    ends_counted : {m field c i o p : ℕ} → ManyEnd ends i o p → NodeEnds (Times (Counted m field c) i) o p
    ends_many : {i o p : ℕ} → ManyEnd ends i o p → NodeEnds (Many i) o p
    ends_trunc : {parts : List ℕ} {o p : ℕ} → LeadEnd ends parts o p → NodeEnds (Trunc parts) o p
    ends_named : {label : List ℕ} {i o p : ℕ} → ends i o p → NodeEnds (Named label i) o p
