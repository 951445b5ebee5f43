-- What layouts tell by their numbers: those that the code makes are the layouts of what it makes them of.
use Rattle.std.proofs.Common.{◌≡◌, ◌≢◌, ℕ, suc, ◌+◌, ◌-◌, ◌*◌, ◌/◌, ◌%◌, ◌^◌, ◌<◌, ◌≤◌, false, List, [], ◌∷◌, ◌++◌}
use Rattle.std.proofs.Common.{length, take, sym, ◌∙◌, ap, subst, arith, lit<, inl, inr, Option, Some, None, slice_get}
use Rattle.std.proofs.Common.{get_or-set_same, get_or-set_other}
use Rattle.std.specs.Prelude.{IfSome, slice_set, slice_index_or}
use Rattle.std.specs.Int.Bits.{bit_or}
use Rattle.std.proofs.Math.ListN.{length-set}
use Rattle.std.proofs.Math.Nat.{pow-le-pow_right}
use Rattle.std.proofs.lemmas.Bool.{cases_order}
use Rattle.std.proofs.lemmas.List.{take_all, take_more}
use Rattle.std.proofs.lemmas.Nat.{pow-add, or_lt, shl_below, shl_whole}
use Rattle.std.proofs.lemmas.Option.{slice_get_within, slice_get-get_or, get_or_from_slice_get}
use Rattle.csn_bits.specs.Numbers.{low_bits}
use Rattle.csn_bits.proofs.NumberFacts.{length-low_bits, IsBits-low_bits, low_bits-push, low_bits-first, low_bits-shifted}
use Rattle.csn_desc.specs.declared.symbol.Symbol.{Symbol}
use Rattle.csn_desc.specs.declared.node.Count.{Count}
use Rattle.csn_desc.specs.declared.node.Count.TheVariants.{Fixed}
use Rattle.csn_desc.specs.declared.node.Node.{Node}
use Rattle.csn_desc.specs.declared.node.Node.TheVariants.{Lits, Null, Field, Seq, Named}
use Rattle.csn_desc.specs.TreeV.{TreeV}
use Rattle.csn_desc.specs.Nodes.{DescV}
use Rattle.csn_desc.specs.Spelled.{symbol_bit, spelled}
use Rattle.csn_desc.specs.Values.{Values}
use Rattle.csn_desc.specs.Formed.{is_counted}
use Rattle.csn_desc.specs.Means.{NMeans}
use Rattle.csn_desc.proofs.BitFacts.{symbol_bit-le-one}
use Rattle.csn_certify.specs.declared.layouts.Layout.{Layout}
use Rattle.csn_certify.specs.Layouts.{IsLaid, HasLayout, AreLayouts}
use Rattle.csn_certify.specs.LayoutParts.{IsShort, IsNodeLaid, HasNodeLayout, ArePartsLaid, HavePartsLayout, IsJoined}
use Rattle.csn_certify.proofs.LaidOut.{lits_laid, null_laid, field_laid, named_laid, seq_laid, node_laid, nothing_laid, same_before, any_behind}

-- ---- a number that is read

pub admitted : (d : DescV) (i o : ℕ) (v : Values) (layout : Layout) (number : ℕ)
    → number / 2 ^ (layout.width - layout.fixed) ≡ layout.number → HasLayout d i layout → (t : TreeV)
    × NMeans d i o v (low_bits layout.width number) t
admitted d i o v layout number same h =
    let others = layout.width - layout.fixed in
    let rest = low_bits others number in
    let whole = h.laid.means o v rest (length-low_bits others number) (IsBits-low_bits others number) in
    let is : low_bits layout.width number ≡ low_bits layout.fixed layout.number ++ rest =
    low_bits-first layout.width number layout.fixed h.within ∙ ap (λ n. low_bits layout.fixed n ++ rest) same in
    let P : List ℕ → Type 0 = λ b. NMeans d i o v b whole.0 in
    (whole.0, subst P (sym is) whole.1)

-- ---- kinds of node

pub short_of : {d : DescV} {i : ℕ} {layout : Layout} → HasLayout d i layout → IsShort layout
short_of h = record { few = h.few; within = h.within; small = h.small }

pub node_layout : (d : DescV) (i : ℕ) (n : Node) (layout : Layout) → slice_get d.nodes i ≡ Some n
    → is_counted d.nodes i ≡ false → HasNodeLayout d n layout → HasLayout d i layout
node_layout d i n layout at plain h = record { few = h.short.few; within = h.short.within; small = h.short.small; laid = node_laid d i at plain h.laid }

pub named_layout : (d : DescV) (label : List ℕ) (i : ℕ) (layout : Layout) → HasLayout d i layout → HasNodeLayout d (Named label i) layout
named_layout d label i layout h =
    record {
      short = short_of h;
      laid = named_laid d label i (low_bits layout.fixed layout.number)
          (layout.width - layout.fixed) h.laid;
    }

pub seq_layout : (d : DescV) (parts : List ℕ) (layout : Layout) → HavePartsLayout d parts layout → HasNodeLayout d (Seq parts) layout
seq_layout d parts layout h = record { short = h.short; laid = seq_laid d parts (low_bits layout.fixed layout.number) (layout.width - layout.fixed) h.laid }

abbrev pub no_bits : Layout
no_bits = record { width = 0; fixed = 0; number = 0 }

no_bits_short : IsShort no_bits
no_bits_short = record { few = omega arith; within = omega arith; small = lit< tt }

pub null_layout : (d : DescV) → HasNodeLayout d Null no_bits
null_layout d = record { short = no_bits_short; laid = null_laid d }

pub nothing_layout : (d : DescV) → HavePartsLayout d [] no_bits
nothing_layout d = record { short = no_bits_short; laid = nothing_laid d }

pub field_layout : (d : DescV) (unit n width : ℕ) (count : Count) → count ≡ Fixed n → width ≡ unit * n → width ≤ 56
    → HasNodeLayout d (Field unit count) (record { width = width; fixed = 0; number = 0 })
field_layout d unit n width count fixed is few =
    let P : ℕ → Type 0 = λ k. IsNodeLaid d (Field unit (Fixed n)) [] k in
    let Q : Count → Type 0 = λ k. IsNodeLaid d (Field unit k) [] (width - 0) in
    let size : unit * n ≡ width - 0 = omega (arith, is) in
    record {
      short = record { few = few; within = omega arith; small = lit< tt };
      laid = subst Q (sym fixed) (subst P size (field_laid d unit n));
    }

-- ---- literals

spelled_push : (front : List Symbol) (s : Symbol) (bit place : ℕ) → ((o : ℕ) → symbol_bit s o ≡ bit)
    → spelled (front ++ s ∷ []) place ≡ spelled front place ++ bit ∷ []
spelled_push [] s bit place same = ap (λ b. b ∷ []) (same place)
spelled_push (x ∷ front) s bit place same = ap (λ l. symbol_bit x place ∷ l) (spelled_push front s bit (suc place) same)

-- the number of the first few symbols
abbrev pub Writes : List Symbol → ℕ → ℕ → Type 0
Writes run at number = (number < 2 ^ at) × ((o : ℕ) → spelled (take at run) o ≡ low_bits at number)

-- and of one more, whose bit is the same at all places
pub bit_small : (s : Symbol) (bit : ℕ) → ((o : ℕ) → symbol_bit s o ≡ bit) → bit ≤ 1
bit_small s bit same = let small = symbol_bit-le-one s 0 in let is = same 0 in omega arith

pub writes_more : (run : List Symbol) (at number bit : ℕ) (s : Symbol)
    → slice_get run at ≡ Some s → ((o : ℕ) → symbol_bit s o ≡ bit)
    → Writes run at number → Writes run (at + 1) (2 * number + bit)
writes_more run at number bit s here same h =
    let small = bit_small s bit same in
    let low = h.0 in
    let power : 2 ^ (at + 1) ≡ 2 ^ at * 2 = pow-add 2 at 1 in
    let next : at + 1 ≡ suc at = omega arith in
    let half : (2 * number + bit) / 2 ≡ number = omega arith in
    let last : (2 * number + bit) % 2 ≡ bit = omega arith in
    let symbols : take (at + 1) run ≡ take at run ++ s ∷ [] =
    take_more run at s (slice_get_within run at s here) ∙ ap (λ x. take at run ++ x ∷ []) (get_or_from_slice_get run at s s here) in
    let written : low_bits (at + 1) (2 * number + bit) ≡ low_bits at number ++ bit ∷ [] =
    ap (λ k. low_bits k (2 * number + bit)) next ∙ low_bits-push at (2 * number + bit)
    ∙ ap (λ n. low_bits at n ++ (2 * number + bit) % 2 ∷ []) half ∙ ap (λ b. low_bits at number ++ b ∷ []) last in (
      omega (arith, power, low, small),
      (λ o. ap (λ l. spelled l o) symbols ∙ spelled_push (take at run) s bit o same ∙ ap (λ l. l ++ bit ∷ []) (h.1 o) ∙ sym written),
    )

pub literal_layout : (d : DescV) (run : List Symbol) (width at number : ℕ) → width ≡ length run → width ≤ 56
    → at ≡ width → Writes run at number
    → HasNodeLayout d (Lits run) (record { width = width; fixed = width; number = number })
literal_layout d run width at number is few end h =
    let none : 0 ≡ width - width = omega arith in
    let whole : take at run ≡ run = take_all at run (omega (arith, is, end)) in
    let bits : (o : ℕ) → spelled run o ≡ low_bits width number = λ o. ap (λ l. spelled l o) (sym whole) ∙ h.1 o ∙ ap (λ k. low_bits k number) end in
    let P : ℕ → Type 0 = λ k. IsNodeLaid d (Lits run) (low_bits width number) k in
    let Q : ℕ → Type 0 = λ k. number < 2 ^ k in
    record {
      short = record { few = few; within = omega arith; small = subst Q end h.0 };
      laid = subst P none (lits_laid d run (low_bits width number) bits);
    }

-- ---- one layout behind another

joined_small : (m n a b : ℕ) → a < 2 ^ m → b < 2 ^ n → m + n ≤ 64 → bit_or (a * 2 ^ n % 2 ^ 64) b < 2 ^ (m + n)
joined_small m n a b first later room =
    let kept : a * 2 ^ n % 2 ^ 64 ≡ a * 2 ^ n = shl_whole a m n 64 first room in
    let high = shl_below a m n first in
    let power : 2 ^ n ≤ 2 ^ (m + n) = pow-le-pow_right {n = 2} (omega arith) (omega arith) in
    or_lt (m + n) (a * 2 ^ n % 2 ^ 64) b (omega (arith, kept, high)) (omega (arith, power, later))

module _ (first behind : Layout) (one : IsShort first) (other : IsShort behind) (room : first.width + behind.width ≤ 56) where
  -- where all bits of the first are the same
  abbrev pub same_whole : Layout
  same_whole = record {
    width = first.width + behind.width;
    fixed = first.fixed + behind.fixed;
    number = bit_or (first.number * 2 ^ behind.fixed % 2 ^ 64) behind.number;
  }

  pub same_short : IsShort same_whole
  same_short =
      let inside = one.within in
      let later = other.within in
      record {
        few = room;
        within = omega arith;
        small = joined_small first.fixed behind.fixed first.number behind.number one.small other.small (omega arith);
      }

  pub same_joined : first.fixed ≡ first.width → IsJoined first behind same_whole
  same_joined all d i parts h hs =
      let inside = one.within in
      let later = other.within in
      let front : List ℕ = low_bits first.fixed first.number in
      let back : List ℕ = low_bits behind.fixed behind.number in
      let none : first.width - first.fixed ≡ 0 = omega arith in
      let P : ℕ → Type 0 = λ k. IsLaid d i front k in
      let laid = same_before d i parts front back (behind.width - behind.fixed) (subst P none h.laid) hs.laid in
      let bits : low_bits same_whole.fixed same_whole.number ≡ front ++ back =
      low_bits-shifted first.fixed behind.fixed first.number behind.number (omega arith) other.small in
      let size : behind.width - behind.fixed ≡ same_whole.width - same_whole.fixed = omega arith in
      let Q : ℕ → Type 0 = λ k. ArePartsLaid d (i ∷ parts) (front ++ back) k in
      let R : List ℕ → Type 0 = λ l. ArePartsLaid d (i ∷ parts) l (same_whole.width - same_whole.fixed) in
      record { short = same_short; laid = subst R (sym bits) (subst Q size laid) }

  -- where no bits of the second are the same
  abbrev pub any_whole : Layout
  any_whole = record { width = first.width + behind.width; fixed = first.fixed; number = first.number }

  pub any_short : IsShort any_whole
  any_short = let inside = one.within in record { few = room; within = omega arith; small = one.small }

  pub any_joined : behind.fixed ≤ 0 → IsJoined first behind any_whole
  any_joined any d i parts h hs =
      let inside = one.within in
      let later = other.within in
      let front : List ℕ = low_bits first.fixed first.number in
      let none : behind.fixed ≡ 0 = omega arith in
      let back : low_bits behind.fixed behind.number ≡ [] = ap (λ k. low_bits k behind.number) none in
      let P : List ℕ → Type 0 = λ l. ArePartsLaid d parts l (behind.width - behind.fixed) in
      let laid = any_behind d i parts front (first.width - first.fixed) (behind.width - behind.fixed) h.laid (subst P back hs.laid) in
      let size : (first.width - first.fixed) + (behind.width - behind.fixed) ≡ any_whole.width - any_whole.fixed = omega arith in
      let Q : ℕ → Type 0 = λ k. ArePartsLaid d (i ∷ parts) front k in
      record { short = any_short; laid = subst Q size laid }

-- ---- the layouts of all nodes

shown : (d : DescV) (layouts : List (Option Layout)) (i : ℕ) (layout : Option Layout)
    → AreLayouts d layouts → slice_get layouts i ≡ Some layout → IfSome layout (HasLayout d i)
shown d layouts i None are at = tt
shown d layouts i (Some layout) are at = are.each i layout at

-- what the table has of a node
pub layout_at : (d : DescV) (layouts : List (Option Layout)) (i : ℕ) → AreLayouts d layouts → i < length layouts
    → IfSome (slice_index_or layouts i None) (HasLayout d i)
layout_at d layouts i are inside = shown d layouts i (slice_index_or layouts i None) are (slice_get-get_or layouts i None inside)

-- one node more
pub layouts_more : (d : DescV) (layouts : List (Option Layout)) (i : ℕ) (layout : Option Layout)
    → AreLayouts d layouts → i < length layouts → IfSome layout (HasLayout d i)
    → AreLayouts d (slice_set layouts i layout)
layouts_more d layouts i layout are inside is = record { many = length-set layouts i layout ∙ are.many; each = each }
  where
    each : (j : ℕ) (l : Layout) → slice_get (slice_set layouts i layout) j ≡ Some (Some l) → HasLayout d j l
    each j l at =
        let there = slice_get_within (slice_set layouts i layout) j (Some l) at in
        let size = length-set layouts i layout in
        let read = get_or_from_slice_get (slice_set layouts i layout) j (Some l) layout at in
        elim (cases_order i j) [
          | inl here ↦
              let same : layout ≡ Some l =
              sym (get_or-set_same layouts i layout layout inside) ∙ ap (λ k. slice_index_or (slice_set layouts i layout) k layout) here ∙ read in
              let P : Option Layout → Type 0 = λ x. IfSome x (HasLayout d i) in
              let Q : ℕ → Type 0 = λ k. HasLayout d k l in
              subst Q here (subst P same is)
          | inr apart ↦
              let differ : j ≢ i = omega (arith, apart) in
              let old : slice_index_or layouts j layout ≡ Some l = sym (get_or-set_other layouts i j layout layout differ) ∙ read in
              are.each j l (slice_get-get_or layouts j layout (omega (arith, there, size)) ∙ ap (λ x. Some x) old)
        ]
