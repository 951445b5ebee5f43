-- The patterns that the equation of a node makes of the patterns that are claimed of its parts. A bit of a field, and
-- one of a received spare part, is `Any`. (This project's own choice.)
use Rattle.std.specs.Prelude.{◌≡◌, ℕ, suc, ◌+◌, ◌*◌, ◌%◌, ◌==◌, nat_le, if◌then◌else◌, ◌⊎◌, ⊤, Bool, true, false}
use Rattle.std.specs.Prelude.{List, [], ◌∷◌, ◌++◌, length, take, map, replicate, slice_get, Some, Contains}
use Rattle.csn_desc.specs.declared.reading.Reading.{Reading}
use Rattle.csn_desc.specs.declared.reading.Reading.TheVariants.{Received, Sent}
use Rattle.csn_desc.specs.declared.symbol.Symbol.{Symbol}
use Rattle.csn_desc.specs.declared.symbol.Symbol.TheVariants.{Low}
use Rattle.csn_desc.specs.declared.node.Count.{Count}
use Rattle.csn_desc.specs.declared.node.Count.TheVariants.{Fixed, Counted}
use Rattle.csn_desc.specs.declared.node.Node.{Node}
use Rattle.csn_desc.specs.declared.node.Node.TheVariants.{Lits, Spare, Pad, Null, Field, Rest, Seq, Choice, Times, Many, Trunc, Window, Named}
use Rattle.csn_desc.specs.Spelled.{symbol_bit, spelled}
use Rattle.csn_cert.specs.declared.pattern.Mark.{Mark}
use Rattle.csn_cert.specs.declared.pattern.Mark.TheVariants.{Zero, One, Any}
use Rattle.csn_cert.specs.declared.pattern.TheConstants.{MOST_MARKS}
use Rattle.csn_cert.specs.PatternV.{PatternV}
use Rattle.csn_cert.specs.CertificateV.{NodeV}
use Rattle.csn_good.specs.ClaimedSets.{patterns_at}

-- ---- patterns

-- the mark that stands for one bit
abbrev pub mark_of : ℕ → Mark
mark_of bit = if bit == 0 then Zero else One

-- a pattern of these marks: where they are more than a pattern has, of the first of them, cut
abbrev pub shortened : List Mark → Bool → PatternV
shortened marks whole =
    if nat_le (length marks) MOST_MARKS
    then record { marks = marks; whole = whole }
    else record { marks = take MOST_MARKS marks; whole = false }

-- the empty pattern, cut: of what is not looked into
abbrev pub unread : PatternV
unread = record { marks = []; whole = false }

-- the mark of a spare bit at an octet position
abbrev pub spare_mark : Reading → Symbol → ℕ → Mark
spare_mark Received symbol octet = Any
spare_mark Sent symbol octet = mark_of (symbol_bit symbol octet)

-- the pattern of a field, and of a node that goes without its parts
abbrev pub field_pattern : ℕ → Count → PatternV
field_pattern unit (Fixed n) = shortened (replicate (unit * n) Any) true
field_pattern unit (Counted m field c) = unread

abbrev pub leaf_pattern : Reading → Node → ℕ → PatternV
leaf_pattern reading (Lits run) octet = shortened (map mark_of (spelled run octet)) true
leaf_pattern reading (Spare s) octet = record { marks = spare_mark reading s octet ∷ []; whole = true }
leaf_pattern reading Pad octet = record { marks = spare_mark reading Low octet ∷ []; whole = false }
leaf_pattern reading Null octet = record { marks = []; whole = true }
leaf_pattern reading (Field unit count) octet = field_pattern unit count
leaf_pattern reading _ octet = unread

-- one pattern covers another: it is whole or cut as that is, and at each place has the same mark or `Any`
abbrev pub CoverMarks : List Mark → List Mark → Type 0
CoverMarks [] [] = ⊤
CoverMarks [] (mark ∷ marks) = ⊥
CoverMarks (wide ∷ wides) [] = ⊥
CoverMarks (wide ∷ wides) (mark ∷ marks) = ((wide ≡ Any) ⊎ (wide ≡ mark)) × CoverMarks wides marks

pub record Covers (wide p : PatternV) : Type 0 where
  pub whole : wide.whole ≡ p.whole
  pub marks : CoverMarks wide.marks p.marks

-- some claimed pattern of node i at the octet position covers this one
pub record IsCovered (c : List NodeV) (i octet : ℕ) (p : PatternV) : Type 0 where
  pub wide : PatternV
  pub is_claimed : Contains (patterns_at c i octet) wide
  pub covers : Covers wide p

-- ---- what the equations make

module _ (c : List NodeV) where
  -- of one part after another: a cut pattern of the first part, or a whole one and behind it one of the others
  -- at its place; of no part the empty one, whole
  pub data PartsPatterns : List ℕ → ℕ → PatternV → Type 0 where
    parts_none : {octet : ℕ} {p : PatternV} → p ≡ record { marks = []; whole = true } → PartsPatterns [] octet p
    parts_cut :
        {i : ℕ} {parts : List ℕ} {octet : ℕ} {p : PatternV}
        → Contains (patterns_at c i octet) p → p.whole ≡ false
        → PartsPatterns (i ∷ parts) octet p
    parts_whole :
        {i : ℕ} {parts : List ℕ} {octet : ℕ} {p : PatternV}
        (first others : PatternV) → Contains (patterns_at c i octet) first → first.whole ≡ true
        → PartsPatterns parts ((octet + length first.marks) % 8) others
        → p ≡ shortened (first.marks ++ others.marks) others.whole
        → PartsPatterns (i ∷ parts) octet p

  -- the same of n times the part i
  pub data TimesPatterns : ℕ → ℕ → ℕ → PatternV → Type 0 where
    times_none :
        {n i octet : ℕ} {p : PatternV}
        → n ≡ 0 → p ≡ record { marks = []; whole = true }
        → TimesPatterns n i octet p
    times_cut :
        {n i octet : ℕ} {p : PatternV}
        (m : ℕ) → n ≡ suc m → Contains (patterns_at c i octet) p → p.whole ≡ false
        → TimesPatterns n i octet p
    times_whole :
        {n i octet : ℕ} {p : PatternV}
        (m : ℕ) → n ≡ suc m → (first others : PatternV) → Contains (patterns_at c i octet) first
        → first.whole ≡ true
        → TimesPatterns m i ((octet + length first.marks) % 8) others
        → p ≡ shortened (first.marks ++ others.marks) others.whole
        → TimesPatterns n i octet p

module _ (reading : Reading) (c : List NodeV) where
  pub data NodePatterns : Node → ℕ → PatternV → Type 0 where
    -- literals, fields of constant width and spare bits: their strings
    patterns_lits :
        {run : List Symbol} {octet : ℕ} {p : PatternV}
        → p ≡ shortened (map mark_of (spelled run octet)) true
        → NodePatterns (Lits run) octet p
    patterns_field :
        {unit n octet : ℕ} {p : PatternV}
        → p ≡ shortened (replicate (unit * n) Any) true
        → NodePatterns (Field unit (Fixed n)) octet p
    patterns_spare :
        {s : Symbol} {octet : ℕ} {p : PatternV}
        → p ≡ record { marks = spare_mark reading s octet ∷ []; whole = true }
        → NodePatterns (Spare s) octet p
    -- padding: its first bit, cut
    patterns_pad :
        {octet : ℕ} {p : PatternV}
        → p ≡ record { marks = spare_mark reading Low octet ∷ []; whole = false }
        → NodePatterns Pad octet p
    -- no bits: the empty pattern, whole
    patterns_null : {octet : ℕ} {p : PatternV} → p ≡ record { marks = []; whole = true } → NodePatterns Null octet p
    -- what is not looked into
    patterns_rest : {octet : ℕ} {p : PatternV} → p ≡ unread → NodePatterns Rest octet p
    patterns_many : {i octet : ℕ} {p : PatternV} → p ≡ unread → NodePatterns (Many i) octet p
    patterns_trunc : {parts : List ℕ} {octet : ℕ} {p : PatternV} → p ≡ unread → NodePatterns (Trunc parts) octet p
    patterns_window :
        {unit : ℕ} {count : Count} {i octet : ℕ} {p : PatternV}
        → p ≡ unread
        → NodePatterns (Window unit count i) octet p
    patterns_counted_field :
        {unit m field k octet : ℕ} {p : PatternV}
        → p ≡ unread
        → NodePatterns (Field unit (Counted m field k)) octet p
    patterns_counted_times :
        {m field k i octet : ℕ} {p : PatternV}
        → p ≡ unread
        → NodePatterns (Times (Counted m field k) i) octet p
    patterns_seq :
        {parts : List ℕ} {octet : ℕ} {p : PatternV}
        → PartsPatterns c parts octet p
        → NodePatterns (Seq parts) octet p
    patterns_times :
        {n i octet : ℕ} {p : PatternV}
        → TimesPatterns c n i octet p
        → NodePatterns (Times (Fixed n) i) octet p
    patterns_choice :
        {parts : List ℕ} {i octet : ℕ} {p : PatternV}
        (j : ℕ) → slice_get parts j ≡ Some i → Contains (patterns_at c i octet) p
        → NodePatterns (Choice parts) octet p
    patterns_named :
        {label : List ℕ} {i octet : ℕ} {p : PatternV}
        → Contains (patterns_at c i octet) p
        → NodePatterns (Named label i) octet p
