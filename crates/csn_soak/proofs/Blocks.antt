-- The blocks of the generator, one more at a time.
use Rattle.std.proofs.Common.{◌≡◌, ◌↔◌, ℕ, zero, suc, ◌+◌, ◌*◌, ◌<◌, ◌≤◌, Bool, true, false, if◌then◌else◌, IsTrue}
use Rattle.std.proofs.Common.{List, ◌++◌, length, take, drop, refl, sym, subst, arith}
use Rattle.std.specs.Int.{to_be_bytes, w64}
use Rattle.csn_bits.specs.Octets.{bits_of_octets}
use Rattle.csn_catalogue.specs.declared.entry.Entry.{Entry}
use Rattle.csn_catalogue.specs.declared.entry.Entry.TheVariants.{Uplink, Downlink, Si1, Si3, Si4, Si13, Ia}
use Rattle.csn_catalogue.specs.Samples.{sample_octets, field_at, field_width}
use Rattle.csn_desc.specs.Nodes.{DescV}
use Rattle.csn_soak.specs.declared.soaking.Soaked.{Soaked}
use Rattle.csn_soak.specs.Generator.{number, sample_bits, sample_with, is_cut, block}
use Rattle.csn_soak.specs.Soaking.{IsString, Counted, one_more, no_more, bits_in, IsSoaked}

-- a number in the field does not change how many bits a sample has, nor its first one
pub as_long : (entry : Entry) (x : ℕ) → length (sample_with entry x) ≡ 8 * length (sample_octets entry)
as_long entry x = elim entry as (λ e. length (sample_with e x) ≡ 8 * length (sample_octets e))
    [ Uplink ↦ refl | Downlink ↦ refl | Si1 ↦ refl | Si3 ↦ refl | Si4 ↦ refl | Si13 ↦ refl | Ia ↦ refl ]

pub first_stays : (entry : Entry) (x : ℕ) → take 1 (sample_with entry x) ≡ take 1 (sample_bits entry)
first_stays entry x = elim entry as (λ e. take 1 (sample_with e x) ≡ take 1 (sample_bits e))
    [ Uplink ↦ refl | Downlink ↦ refl | Si1 ↦ refl | Si3 ↦ refl | Si4 ↦ refl | Si13 ↦ refl | Ia ↦ refl ]

pub cut_long : (entry : Entry) (x : ℕ) → length (take 1 (sample_with entry x)) ≡ 1
cut_long entry x = elim entry as (λ e. length (take 1 (sample_with e x)) ≡ 1)
    [ Uplink ↦ refl | Downlink ↦ refl | Si1 ↦ refl | Si3 ↦ refl | Si4 ↦ refl | Si13 ↦ refl | Ia ↦ refl ]

pub few_octets : (entry : Entry) → length (sample_octets entry) ≤ 22
few_octets entry = elim entry as (λ e. length (sample_octets e) ≤ 22) [
  | Uplink ↦ omega arith
  | Downlink ↦ omega arith
  | Si1 ↦ omega arith
  | Si3 ↦ omega arith
  | Si4 ↦ omega arith
  | Si13
      ↦ omega arith
  | Ia ↦ omega arith
]

-- a field has some bits, and stands near the front
pub some_bits : (entry : Entry) → 0 < field_width entry
some_bits entry = elim entry as (λ e. 0 < field_width e) [
  | Uplink ↦ omega arith
  | Downlink ↦ omega arith
  | Si1 ↦ omega arith
  | Si3 ↦ omega arith
  | Si4 ↦ omega arith
  | Si13
      ↦ omega arith
  | Ia ↦ omega arith
]

pub narrow : (entry : Entry) → field_width entry ≤ 32
narrow entry = elim entry as (λ e. field_width e ≤ 32) [
  | Uplink ↦ omega arith
  | Downlink ↦ omega arith
  | Si1 ↦ omega arith
  | Si3 ↦ omega arith
  | Si4 ↦ omega arith
  | Si13
      ↦ omega arith
  | Ia ↦ omega arith
]

pub near : (entry : Entry) → field_at entry + field_width entry ≤ 64
near entry = elim entry as (λ e. field_at e + field_width e ≤ 64) [
  | Uplink ↦ omega arith
  | Downlink ↦ omega arith
  | Si1 ↦ omega arith
  | Si3 ↦ omega arith
  | Si4 ↦ omega arith
  | Si13
      ↦ omega arith
  | Ia ↦ omega arith
]

-- how a block is made of its sample
made_if : (entry : Entry) (x : ℕ) (cut : Bool)
    → (if cut then take 1 (sample_bits entry) else sample_with entry x) ≡ (if cut then take 1 (sample_with entry x)
    else sample_with entry x)
made_if entry x true = sym (first_stays entry x)
made_if entry x false = refl

pub made : (entry : Entry) (k : ℕ) → (if is_cut k then take 1 (sample_bits entry) else sample_with entry (number (suc k))) ≡ block entry k
made entry k = made_if entry (number (suc k)) (is_cut k)

long_if : (entry : Entry) (x : ℕ) (cut : Bool) → (if cut then 1 else 8 * length (sample_octets entry)) ≡ length
    (if cut then take 1 (sample_with entry x) else sample_with entry x)
long_if entry x true = sym (cut_long entry x)
long_if entry x false = sym (as_long entry x)

pub long : (entry : Entry) (k : ℕ) → (if is_cut k then 1 else 8 * length (sample_octets entry)) ≡ length (block entry k)
long entry k = long_if entry (number (suc k)) (is_cut k)

short_if : (entry : Entry) (x : ℕ) (cut : Bool) → length (if cut then take 1 (sample_with entry x) else sample_with entry x) ≤ 176
short_if entry x true = omega (arith, cut_long entry x)
short_if entry x false = omega (arith, as_long entry x, few_octets entry)

pub short : (entry : Entry) (k : ℕ) → length (block entry k) ≤ 176
short entry k = short_if entry (number (suc k)) (is_cut k)

pub few_bits : (entry : Entry) (n : ℕ) → bits_in entry n ≤ n * 176
few_bits entry zero = omega arith
few_bits entry (suc k) = omega (arith, few_bits entry k, short entry k)

-- one more block
module _ (d : DescV) (entry : Entry) where
  count_more : (k : ℕ) (ok : Bool) (before : ℕ) → IsTrue ok ↔ IsString d (block entry k) → Counted (λ j. IsString d (block entry j)) k before
      → Counted (λ j. IsString d (block entry j)) (suc k) (before + (if ok then 1 else 0))
  count_more k true before tells so_far = one_more k before refl (omega arith) (tells.0 refl) so_far
  count_more k false before tells so_far =
      let same : before ≡ before + 0 = omega arith in
      subst (λ n. Counted (λ j. IsString d (block entry j)) (suc k) n) same (no_more k refl (λ is. let no : false ≡ true = tells.1 is in cc) so_far)

  pub more : (k : ℕ) (ok : Bool) (s t : Soaked) (bits : ℕ) → IsTrue ok ↔ IsString d (block entry k) → bits ≡ length (block entry k)
      → t.ok ≡ s.ok + (if ok then 1 else 0) → t.refused ≡ s.refused + (if ok then 0 else 1) → t.bits ≡ s.bits + bits
      → IsSoaked d entry k s → IsSoaked d entry (suc k) t
  more k ok s t bits tells long is_ok is_refused is_bits so_far =
      record {
        ok = subst (λ n. Counted (λ j. IsString d (block entry j)) (suc k) n) (sym is_ok) (count_more k ok s.ok tells so_far.ok);
        all = all_of ok is_ok is_refused;
        bits = omega (arith, is_bits, long, so_far.bits);
      }
    where
      all_of : (ok : Bool) → t.ok ≡ s.ok + (if ok then 1 else 0) → t.refused ≡ s.refused + (if ok then 0 else 1) → t.ok + t.refused ≡ suc k
      all_of true a b = omega (arith, a, b, so_far.all)
      all_of false a b = omega (arith, a, b, so_far.all)

  -- what is found of the bits that a sample and a number in its field make is found of the block
  pub tells_of : (k : ℕ) (r : Bool) (octets : List ℕ) (at width x : ℕ) → octets ≡ sample_octets entry → at ≡ field_at entry
      → width ≡ field_width entry → x ≡ number (suc k)
      → (IsTrue r ↔ IsString d (if is_cut k then take 1 (bits_of_octets octets)
      else (take at (bits_of_octets octets) ++ take width (bits_of_octets (to_be_bytes w64 x)) ++ drop (at + width) (bits_of_octets octets))))
      → IsTrue r ↔ IsString d (block entry k)
  tells_of k r octets at width x o a w n tells =
      let P : List ℕ → Type 0 = λ bits. IsTrue r ↔ IsString d bits in
      let B : List ℕ → ℕ → ℕ → ℕ → List ℕ = λ octets at width x.
      if is_cut k then take 1 (bits_of_octets octets)
      else (take at (bits_of_octets octets) ++ take width (bits_of_octets (to_be_bytes w64 x)) ++ drop (at + width) (bits_of_octets octets)) in
      subst P (made entry k)
      (subst (λ y. P (B (sample_octets entry) (field_at entry) (field_width entry) y)) n
      (subst (λ y. P (B (sample_octets entry) (field_at entry) y x)) w
      (subst (λ y. P (B (sample_octets entry) y width x)) a
      (subst (λ y. P (B y at width x)) o tells))))
