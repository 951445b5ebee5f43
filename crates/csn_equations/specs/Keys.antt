-- The keys of a node at an octet position, from those of its parts: the equation of these sets. They are the words that
-- bits of it begin with, of at most `most` bits. A key is whole where it is all of some bits of the node, and cut where these may go
-- on or are not looked at. (This project's own choice.)
use Rattle.std.specs.Prelude.{◌≡◌, ℕ, suc, ◌+◌, ◌*◌, ◌%◌, ◌<◌, ◌≤◌, Bool, true, false, List, [], ◌∷◌, ◌++◌, length, take, slice_get, Some}
use Rattle.csn_bits.specs.Octets.{IsBits}
use Rattle.csn_desc.specs.declared.symbol.Symbol.{Symbol}
use Rattle.csn_desc.specs.declared.symbol.Symbol.TheVariants.{Low}
use Rattle.csn_desc.specs.declared.node.Count.{Count}
use Rattle.csn_desc.specs.declared.node.Count.TheVariants.{Fixed, Counted}
use Rattle.csn_desc.specs.declared.node.Node.{Node}
use Rattle.csn_desc.specs.declared.node.Node.TheVariants.{Lits, Spare, Pad, Null, Field, Rest, Seq, Choice, Times, Many, Trunc, Window, Named}
use Rattle.csn_desc.specs.Nodes.{DescV}
use Rattle.csn_desc.specs.Spelled.{spelled, IsSpare}

-- the word x, whole or not, is what is left of the word w with its mark: w where it has at most `most`
-- bits, and else its first `most` bits, cut
pub data Cut : ℕ → List ℕ → Bool → List ℕ → Bool → Type 0 where
  kept :
      {most : ℕ} {w x : List ℕ} {whole mark : Bool}
      → length w ≤ most → x ≡ w → mark ≡ whole
      → Cut most w whole x mark
  cut :
      {most : ℕ} {w x : List ℕ} {whole mark : Bool}
      → most < length w → x ≡ take most w → mark ≡ false
      → Cut most w whole x mark

module _ (most : ℕ) (keys : ℕ → ℕ → List ℕ → Bool → Type 0) where
  -- of one part after another: a cut key of the first part, or a whole one and behind it a key of the
  -- others at its place; of no part the empty word, whole
  pub data PartsKeys : List ℕ → ℕ → List ℕ → Bool → Type 0 where
    parts_none : {o : ℕ} {x : List ℕ} {mark : Bool} → x ≡ [] → mark ≡ true → PartsKeys [] o x mark
    parts_cut :
        {i : ℕ} {parts : List ℕ} {o : ℕ} {x : List ℕ} {mark : Bool}
        → keys i o x false → mark ≡ false
        → PartsKeys (i ∷ parts) o x mark
    parts_whole :
        {i : ℕ} {parts : List ℕ} {o : ℕ} {x : List ℕ} {mark : Bool}
        (w1 w2 : List ℕ) (rest : Bool) → keys i o w1 true
        → PartsKeys parts ((o + length w1) % 8) w2 rest → Cut most (w1 ++ w2) rest x mark
        → PartsKeys (i ∷ parts) o x mark

  -- the same of n times the part i
  pub data TimesKeys : ℕ → ℕ → ℕ → List ℕ → Bool → Type 0 where
    times_none :
        {n i o : ℕ} {x : List ℕ} {mark : Bool}
        → n ≡ 0 → x ≡ [] → mark ≡ true
        → TimesKeys n i o x mark
    times_cut :
        {n i o : ℕ} {x : List ℕ} {mark : Bool}
        (m : ℕ) → n ≡ suc m → keys i o x false → mark ≡ false
        → TimesKeys n i o x mark
    times_whole :
        {n i o : ℕ} {x : List ℕ} {mark : Bool}
        (m : ℕ) → n ≡ suc m → (w1 w2 : List ℕ) (rest : Bool) → keys i o w1 true
        → TimesKeys m i ((o + length w1) % 8) w2 rest → Cut most (w1 ++ w2) rest x mark
        → TimesKeys n i o x mark

module _ (d : DescV) (most : ℕ) (keys : ℕ → ℕ → List ℕ → Bool → Type 0) where
  -- the node has the key x at the octet position o, whole where `mark` is true and else cut
  pub data NodeKeys : Node → ℕ → List ℕ → Bool → Type 0 where
    -- literals, fields of constant width and spare bits: their strings
    keys_lits :
        {run : List Symbol} {o : ℕ} {x : List ℕ} {mark : Bool}
        → Cut most (spelled run o) true x mark
        → NodeKeys (Lits run) o x mark
    keys_spare :
        {s : Symbol} {o : ℕ} {x : List ℕ} {mark : Bool}
        (w : List ℕ) → length w ≡ 1 → IsSpare d.reading s o w → Cut most w true x mark
        → NodeKeys (Spare s) o x mark
    keys_field :
        {unit n o : ℕ} {x : List ℕ} {mark : Bool}
        (w : List ℕ) → length w ≡ unit * n → IsBits w → Cut most w true x mark
        → NodeKeys (Field unit (Fixed n)) o x mark
    -- padding: its first bit, cut
    keys_pad :
        {o : ℕ} {x : List ℕ} {mark : Bool}
        (w : List ℕ) → length w ≡ 1 → IsSpare d.reading Low o w → Cut most w false x mark
        → NodeKeys Pad o x mark
    -- no bits: the empty word, whole
    keys_null : {o : ℕ} {x : List ℕ} {mark : Bool} → x ≡ [] → mark ≡ true → NodeKeys Null o x mark
    -- what is not looked into: the empty word, cut
    keys_rest : {o : ℕ} {x : List ℕ} {mark : Bool} → x ≡ [] → mark ≡ false → NodeKeys Rest o x mark
    keys_many : {i o : ℕ} {x : List ℕ} {mark : Bool} → x ≡ [] → mark ≡ false → NodeKeys (Many i) o x mark
    keys_trunc :
        {parts : List ℕ} {o : ℕ} {x : List ℕ} {mark : Bool}
        → x ≡ [] → mark ≡ false
        → NodeKeys (Trunc parts) o x mark
    keys_window :
        {unit : ℕ} {count : Count} {i o : ℕ} {x : List ℕ} {mark : Bool}
        → x ≡ [] → mark ≡ false
        → NodeKeys (Window unit count i) o x mark
    keys_counted_field :
        {unit m field c o : ℕ} {x : List ℕ} {mark : Bool}
        → x ≡ [] → mark ≡ false
        → NodeKeys (Field unit (Counted m field c)) o x mark
    keys_counted_times :
        {m field c i o : ℕ} {x : List ℕ} {mark : Bool}
        → x ≡ [] → mark ≡ false
        → NodeKeys (Times (Counted m field c) i) o x mark
    keys_seq :
        {parts : List ℕ} {o : ℕ} {x : List ℕ} {mark : Bool}
        → PartsKeys most keys parts o x mark
        → NodeKeys (Seq parts) o x mark
    keys_times :
        {n i o : ℕ} {x : List ℕ} {mark : Bool}
        → TimesKeys most keys n i o x mark
        → NodeKeys (Times (Fixed n) i) o x mark
    keys_choice :
        {parts : List ℕ} {i o : ℕ} {x : List ℕ} {mark : Bool}
        (j : ℕ) → slice_get parts j ≡ Some i → keys i o x mark
        → NodeKeys (Choice parts) o x mark
    keys_named :
        {label : List ℕ} {i o : ℕ} {x : List ℕ} {mark : Bool}
        → keys i o x mark
        → NodeKeys (Named label i) o x mark
