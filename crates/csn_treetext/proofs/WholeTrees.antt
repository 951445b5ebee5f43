-- What a whole tree ends, and the texts of leaves.
use Rattle.std.specs.Prelude.{if◌then◌else◌, nat_le}
use Rattle.std.proofs.Common.{◌≡◌, ℕ, ◌^◌, ◌<◌, ◌≤◌, ◌==◌, Bool, true, false, List, [], ◌∷◌, ◌++◌, length, Some, None}
use Rattle.std.proofs.Common.{refl, sym, ap, ◌∙◌, subst, arith, inl, inr, append_assoc, eqb-true}
use Rattle.std.specs.Fmt.{decimal}
use Rattle.std.proofs.lemmas.Bool.{cases_Bool, le-leb}
use Rattle.std.proofs.lemmas.Nat.{pow_pos}
use Rattle.csn_treetext.specs.declared.bounds.TheConstants.{MOST_LEVELS, MOST_SHORT, MOST_OCTETS}
use Rattle.csn_desc.specs.TreeV.{TreeV, bits, row, trees_of}
use Rattle.csn_treetext.specs.declared.version.Version.{Version}
use Rattle.csn_treetext.specs.declared.stack.Frame.{Frame}
use Rattle.csn_treetext.specs.declared.stack.Frame.TheVariants.{Row, Alt, Named}
use Rattle.csn_treetext.specs.reader.Mode.{Mode}
use Rattle.csn_treetext.specs.reader.Mode.{Behind}
use Rattle.csn_treetext.specs.Text.{text_of, row_text, is_short}
use Rattle.csn_bits.specs.Numbers.{low_bits}
use Rattle.csn_treetext.specs.reader.Numeral.{greatest_of}
use Rattle.csn_treetext.specs.reader.Machine.{State, state, AreOctets, with_tree, after_tree, closed, closed_at, cut_octets}
use Rattle.csn_bits.proofs.NumberFacts.{length-low_bits, IsBits-low_bits, number_of-low_bits_small}
use Rattle.csn_treetext.proofs.OctetLeaves.{IsBits-cut_bits, length-cut_bits}
use Rattle.csn_treetext.proofs.Spelled.{before, behind, IsTree, IsStack, HasTree, StandsFor, row_is_tree, spaced-row, tree_stands}

-- ---- choices

-- what a choice gives, by its test
pub if_gave : {A P : Type 0} (b : Bool) (x y s : A) → (if b then x else y) ≡ s → (b ≡ true → x ≡ s → P) → (b ≡ false → y ≡ s → P) → P
if_gave true x y s h first second = first refl h
if_gave false x y s h first second = second refl h

-- the one state that was given
pub given : {version : Version} {text : List ℕ} (t s : State) → Some t ≡ Some s → StandsFor version text t → StandsFor version text s
given {version} {text} t s h is = let same : t ≡ s = cc in subst (λ u. StandsFor version text u) same is

pub nothing_given : {P : Type 0} (s : State) → None ≡ Some s → P
nothing_given s h = absurd (let e : None ≡ Some s = h in cc)

pub spelled_as : {version : Version} {text other : List ℕ} (s : State) → text ≡ other → StandsFor version text s → StandsFor version other s
spelled_as {version} s same is = subst (λ l. StandsFor version l s) same is

pub is_byte : (byte k : ℕ) → (byte == k) ≡ true → k ≡ byte
is_byte byte k h = sym (eqb-true byte k h)

-- a byte in place of the numeral that it is
pub with_byte : {version : Version} {s : State} (front : List ℕ) (byte k : ℕ)
    → (byte == k) ≡ true → StandsFor version (front ++ k ∷ []) s → StandsFor version (front ++ byte ∷ []) s
with_byte front byte k h is = spelled_as _ (ap (λ c. front ++ c ∷ []) (is_byte byte k h)) is

-- ---- leaves

pub short_is : (b : List ℕ) → 1 ≤ length b → length b ≤ MOST_SHORT → is_short b ≡ true
short_is b some few =
    let low : nat_le 1 (length b) ≡ true = le-leb 1 (length b) some in
    let high : nat_le (length b) MOST_SHORT ≡ true = le-leb (length b) MOST_SHORT few in
    rw (low, high) refl

-- the text of the leaf of so many bits that write a number
pub number_text : (version : Version) (width number : ℕ) → 1 ≤ width → width ≤ MOST_SHORT → number ≤ greatest_of width
    → text_of version (bits (low_bits width number)) ≡ decimal width ++ 39 ∷ decimal number
number_text version width number some few small =
    let long = length-low_bits width number in
    let power : 0 < 2 ^ width = pow_pos width in
    let short = short_is (low_bits width number) (omega arith) (omega arith) in
    let is = number_of-low_bits_small width number (omega arith) in
    rw short (rw (long, is) refl)

pub number_is_tree : (round width number : ℕ) → round < MOST_LEVELS → width ≤ MOST_SHORT → IsTree round (bits (low_bits width number))
number_is_tree round width number low few = record {
  fits = low;
  parts = (IsBits-low_bits width number, omega (arith, length-low_bits width number));
}

pub cut_is_tree : (round : ℕ) (octets : List ℕ) (used : ℕ) → round < MOST_LEVELS → AreOctets octets
    → 1 ≤ length octets → length octets ≤ MOST_OCTETS → used ≤ 8 → IsTree round (cut_octets octets used)
cut_is_tree round octets used low are some few most = record {
  fits = low;
  parts = (IsBits-cut_bits octets used are, omega (arith, length-cut_bits octets used some most));
}

-- ---- a byte behind a tree

pub after_stands : (version : Version) (stack : List Frame) (byte : ℕ) (s : State) → IsStack stack → HasTree stack
    → after_tree stack byte ≡ Some s → StandsFor version (behind version stack ++ byte ∷ []) s
after_stands version [] byte s h has e = absurd has
after_stands version (Alt j ∷ stack) byte s h has e = absurd has
after_stands version (Named l ∷ stack) byte s h has e = absurd has
after_stands version (Row [] ∷ stack) byte s h has e = absurd has
after_stands version (Row (t ∷ ts) ∷ stack) byte s h has e =
    if_gave (byte == 32) _ _ _ e
    (λ space e1. given _ s e1 (with_byte (behind version (Row (t ∷ ts) ∷ stack)) byte 32 space (record {
      stack = h;
      mode = tt;
      placed = tt;
      bytes = ap (λ l. before version stack ++ 91 ∷ l) (spaced-row version t ts)
          ∙ sym (append_assoc (before version stack) (91 ∷ row_text version (trees_of (t ∷ ts))) (32 ∷ []));
    })))
    (λ _ e1. if_gave (byte == 93) _ _ _ e1
    (λ bracket e2. given _ s e2 (with_byte (behind version (Row (t ∷ ts) ∷ stack)) byte 93 bracket
    (spelled_as _ (sym (append_assoc (before version stack) (91 ∷ row_text version (trees_of (t ∷ ts))) (93 ∷ [])))
    (tree_stands version stack (row (trees_of (t ∷ ts))) h.2 (row_is_tree (length stack) (t ∷ ts) (let k = h.0 in omega arith) h.1)))))
    (λ _ e2. nothing_given s e2))

pub closed_mode : (version : Version) (mode : Mode) (stack : List Frame) (text : List ℕ) (byte : ℕ) (s : State)
    → StandsFor version text (state mode stack) → closed_at mode stack byte ≡ Some s
    → StandsFor version (text ++ byte ∷ []) s
closed_mode version Behind stack text byte s is e = spelled_as s (ap (λ l. l ++ byte ∷ []) is.bytes) (after_stands version stack byte s is.stack is.placed e)
closed_mode version mode stack text byte s is e = nothing_given s e

pub closed_stands : (version : Version) (stack : List Frame) (t : TreeV) (byte : ℕ) (s : State)
    → IsStack stack → IsTree (length stack) t → closed stack t byte ≡ Some s
    → StandsFor version ((before version stack ++ text_of version t) ++ byte ∷ []) s
closed_stands version stack t byte s h is e = closed_mode version (with_tree stack t).mode (with_tree stack t).stack
    (before version stack ++ text_of version t) byte s (tree_stands version stack t h is) e

-- two numbers that are not one
pub eqb-lt : (a b : ℕ) → b < a → (a == b) ≡ false
eqb-lt a b h = elim (cases_Bool (a == b)) [
  | inl same ↦ (let is = eqb-true a b same in absurd (omega arith))
  | inr other ↦ other
]

pub eqb-below : (a b : ℕ) → a < b → (a == b) ≡ false
eqb-below a b h = elim (cases_Bool (a == b)) [
  | inl same ↦ (let is = eqb-true a b same in absurd (omega arith))
  | inr other ↦ other
]
