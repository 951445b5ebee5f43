-- Each word for which a claimed pattern stands is a key of look-ahead.
use Rattle.std.proofs.Common.{◌≡◌, ℕ, zero, suc, ◌+◌, ◌*◌, ◌%◌, ◌≤◌, Bool, true, false, List, ◌++◌, length, map, refl}
use Rattle.std.proofs.Common.{sym, ◌∙◌, subst, arith, Option, Some, None, slice_get}
use Rattle.std.specs.Prelude.{IsTrue, Contains, is_some, replicate}
use Rattle.csn_desc.specs.declared.symbol.Symbol.TheVariants.{Low}
use Rattle.csn_desc.specs.declared.node.Node.{Node}
use Rattle.csn_desc.specs.Nodes.{DescV, parts_of}
use Rattle.csn_desc.specs.Spelled.{spelled}
use Rattle.csn_desc.specs.Formed.{IsDescription}
use Rattle.csn_desc.proofs.BitFacts.{IsBits-spelled}
use Rattle.csn_desc.proofs.Numbering.{parts_later}
use Rattle.std.proofs.lemmas.Option.{slice_get_within}
use Rattle.csn_cert.specs.declared.pattern.Mark.TheVariants.{Any}
use Rattle.csn_cert.specs.PatternV.{PatternV}
use Rattle.csn_cert.specs.CertificateV.{NodeV, PositionV}
use Rattle.csn_cert.specs.Growing.{claimed}
use Rattle.csn_look.specs.Keys.{Cut, kept, InKeys, PartsKeys, TimesKeys, NodeKeys}
use Rattle.csn_look.specs.Keys as key
use Rattle.csn_look.proofs.Meaning.LeastSets.{keys_at}
use Rattle.csn_good.specs.ClaimedSets.{denotes, patterns_of, patterns_at, claims_of}
use Rattle.csn_good.specs.Patterns.{mark_of, PartsPatterns, TimesPatterns, NodePatterns, parts_none, parts_cut}
use Rattle.csn_good.specs.Patterns.{parts_whole, times_none, times_cut, times_whole, patterns_lits, patterns_field}
use Rattle.csn_good.specs.Patterns.{patterns_spare, patterns_pad, patterns_null, patterns_rest, patterns_many}
use Rattle.csn_good.specs.Patterns.{patterns_trunc, patterns_window, patterns_counted_field, patterns_counted_times}
use Rattle.csn_good.specs.Patterns.{patterns_seq, patterns_times, patterns_choice, patterns_named}
use Rattle.csn_good.proofs.Denoting.{size_of, Says, says, found}
use Rattle.csn_certmake.specs.Claimed.{ClaimsLookAhead}
use Rattle.csn_certmake.proofs.Words.{pieces, left_of, says_along, no_bits, own_word, any_word, spare_word}
use Rattle.csn_certmake.proofs.Told.{known_at}

module _ (d : DescV) (c : List NodeV) where
  -- each word for which a pattern of node i stands is a key of it
  abbrev pub AreKeys : ℕ → Type 0
  AreKeys i =
      (o : ℕ) (p : PatternV) (x : List ℕ) (mark : Bool) → Contains (patterns_at c i o) p → Says p x mark
      → InKeys d 12 i o x mark

  abbrev pub PartsAreKeys : List ℕ → Type 0
  PartsAreKeys parts = (j i : ℕ) → slice_get parts j ≡ Some i → AreKeys i

  parts_keyed : {parts : List ℕ} {o : ℕ} {p : PatternV} (x : List ℕ) (mark : Bool)
      → PartsAreKeys parts → PartsPatterns c parts o p → Says p x mark → PartsKeys d 12 parts o x mark
  parts_keyed x mark keyed (parts_none is) said =
      let none = no_bits true x mark (says_along x mark is said) in key.parts_none none.0 none.1
  parts_keyed x mark keyed (parts_cut {i = i} {octet = o} {p = p} has cut) said =
      key.parts_cut (keyed 0 i refl o p x false has (record { same = cut; bits = said.bits })) (sym said.same ∙ cut)
  parts_keyed x mark keyed (parts_whole {i = i} {parts = parts} {octet = o} first others has whole rest is) said =
      let all = left_of (first.marks ++ others.marks) others.whole x mark (says_along x mark is said) in
      let two = pieces first.marks others.marks all.word all.stands in
      let here = keyed 0 i refl o first two.first true has (record { same = whole; bits = two.here }) in
      let later = parts_keyed two.rest others.whole (λ j k there. keyed (suc j) k there) rest (record { same = refl; bits = two.there }) in
      let P : ℕ → Type 0 = λ n. PartsKeys d 12 parts ((o + n) % 8) two.rest others.whole in
      let Q : List ℕ → Type 0 = λ word. Cut 12 word others.whole x mark in
      key.parts_whole two.first two.rest others.whole here
      (subst P (size_of first.marks two.first two.here) later)
      (subst Q two.is all.left)

  times_keyed : {n i o : ℕ} {p : PatternV} (x : List ℕ) (mark : Bool) → AreKeys i → TimesPatterns c n i o p → Says p x mark → TimesKeys d 12 n i o x mark
  times_keyed x mark keyed (times_none over is) said =
      let none = no_bits true x mark (says_along x mark is said) in key.times_none over none.0 none.1
  times_keyed x mark keyed (times_cut {i = i} {octet = o} {p = p} m over has cut) said =
      key.times_cut m over (keyed o p x false has (record { same = cut; bits = said.bits })) (sym said.same ∙ cut)
  times_keyed x mark keyed (times_whole {i = i} {octet = o} m over first others has whole rest is) said =
      let all = left_of (first.marks ++ others.marks) others.whole x mark (says_along x mark is said) in
      let two = pieces first.marks others.marks all.word all.stands in
      let here = keyed o first two.first true has (record { same = whole; bits = two.here }) in
      let later = times_keyed two.rest others.whole keyed rest (record { same = refl; bits = two.there }) in
      let P : ℕ → Type 0 = λ n. TimesKeys d 12 m i ((o + n) % 8) two.rest others.whole in
      let Q : List ℕ → Type 0 = λ word. Cut 12 word others.whole x mark in
      key.times_whole m over two.first two.rest others.whole here
      (subst P (size_of first.marks two.first two.here) later)
      (subst Q two.is all.left)

  node_keyed : {n : Node} {o : ℕ} {p : PatternV} (x : List ℕ) (mark : Bool) → PartsAreKeys (parts_of n)
      → NodePatterns d.reading c n o p → Says p x mark → NodeKeys d 12 n o x mark
  node_keyed x mark keyed (patterns_lits {run = run} {octet = o} is) said =
      let all = left_of (map mark_of (spelled run o)) true x mark (says_along x mark is said) in
      let same = own_word (spelled run o) all.word (IsBits-spelled run o) all.stands in
      let Q : List ℕ → Type 0 = λ word. Cut 12 word true x mark in
      key.keys_lits (subst Q same all.left)
  node_keyed x mark keyed (patterns_field {unit = unit} {n = n} is) said =
      let all = left_of (replicate (unit * n) Any) true x mark (says_along x mark is said) in
      let bits = any_word (unit * n) all.word all.stands in
      key.keys_field all.word bits.0 bits.1 all.left
  node_keyed x mark keyed (patterns_spare {s = s} {octet = o} is) said =
      let own = says_along x mark is said in
      let one = spare_word d.reading s o x own.bits in
      key.keys_spare x one.0 one.1 (kept (omega (arith, one.0)) refl (sym own.same))
  node_keyed x mark keyed (patterns_pad {octet = o} is) said =
      let own = says_along x mark is said in
      let one = spare_word d.reading Low o x own.bits in
      key.keys_pad x one.0 one.1 (kept (omega (arith, one.0)) refl (sym own.same))
  node_keyed x mark keyed (patterns_null is) said = let none = no_bits true x mark (says_along x mark is said) in key.keys_null none.0 none.1
  node_keyed x mark keyed (patterns_rest is) said = let none = no_bits false x mark (says_along x mark is said) in key.keys_rest none.0 none.1
  node_keyed x mark keyed (patterns_many is) said = let none = no_bits false x mark (says_along x mark is said) in key.keys_many none.0 none.1
  node_keyed x mark keyed (patterns_trunc is) said = let none = no_bits false x mark (says_along x mark is said) in key.keys_trunc none.0 none.1
  node_keyed x mark keyed (patterns_window is) said = let none = no_bits false x mark (says_along x mark is said) in key.keys_window none.0 none.1
  node_keyed x mark keyed (patterns_counted_field is) said = let none =
      no_bits false x mark (says_along x mark is said) in key.keys_counted_field none.0 none.1
  node_keyed x mark keyed (patterns_counted_times is) said = let none =
      no_bits false x mark (says_along x mark is said) in key.keys_counted_times none.0 none.1
  node_keyed x mark keyed (patterns_seq made) said = key.keys_seq (parts_keyed x mark keyed made said)
  node_keyed x mark keyed (patterns_times {i = i} made) said = key.keys_times (times_keyed x mark (keyed 0 i refl) made said)
  node_keyed x mark keyed (patterns_choice {i = i} {octet = o} {p = p} j at has) said = key.keys_choice j at (keyed j i at o p x mark has said)
  node_keyed x mark keyed (patterns_named {i = i} {octet = o} {p = p} has) said = key.keys_named (keyed 0 i refl o p x mark has said)

has_claim : (claim : Option PositionV) (p : PatternV) → Contains (patterns_of claim) p → IsTrue (is_some claim)
has_claim None p has = absurd (omega (arith, has.1))
has_claim (Some at) p has = refl

pub keys_reached : (c : List NodeV) (i o : ℕ) (x : List ℕ) (mark : Bool) → IsTrue ((claims_of c).keys i o x mark) → IsTrue ((claims_of c).reached i o)
keys_reached c i o x mark holds =
    let of_pattern = found (λ p. denotes p x mark) (patterns_at c i o) holds in has_claim (claimed c i o) of_pattern.item of_pattern.there

module _ (d : DescV) (c : List NodeV) (is : IsDescription d) (claims : ClaimsLookAhead d c) where
  -- by induction from the last node on, as parts have later numbers
  keyed : (left i : ℕ) → length d.nodes ≤ left + i → AreKeys d c i
  keyed zero i few o p x mark has said =
      let at = known_at d c claims i o (has_claim (claimed c i o) p has) in
      let inside = slice_get_within d.nodes i at.node at.there in absurd (omega arith)
  keyed (suc left) i few o p x mark has said =
      let at = known_at d c claims i o (has_claim (claimed c i o) p has) in
      let parts : PartsAreKeys d c (parts_of at.node) = parts_later d i at.node (AreKeys d c) is at.there
      (λ k later high. keyed left k (omega (arith, few, later))) in
      keys_at at.node at.there (node_keyed d c x mark parts ((claims.patterns i o at.node p at.there at.low at.reached).0 has) said)

  pub keys_known : (i o : ℕ) (x : List ℕ) (mark : Bool) → IsTrue ((claims_of c).keys i o x mark) → InKeys d 12 i o x mark
  keys_known i o x mark holds =
      let of_pattern = found (λ p. denotes p x mark) (patterns_at c i o) holds in
      keyed (length d.nodes) i (omega arith) o of_pattern.item x mark of_pattern.there (says of_pattern.item x mark of_pattern.passes)
