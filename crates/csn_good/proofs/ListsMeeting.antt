-- Lists of patterns of which some meet: those that may have the same bits.
use Rattle.std.proofs.Common.{◌≡◌, ℕ, ◌+◌, ◌<◌, ◌≤◌, List, [], ◌∷◌, length, take, inl, inr, refl, sym, ap, subst, arith, Some, slice_get}
use Rattle.std.specs.Prelude.{◌⊎◌, ◌↔◌, Contains}
use Rattle.std.proofs.lemmas.Bool.{cases_lt}
use Rattle.std.proofs.lemmas.Bool.Decides.{eqb_tells}
use Rattle.std.proofs.lemmas.Option.{slice_get_within}
use Rattle.csn_cert.specs.declared.pattern.Mark.{Mark}
use Rattle.csn_cert.specs.declared.pattern.Mark.TheVariants.{Zero, One, Any}
use Rattle.csn_cert.specs.PatternV.{PatternV}
use Rattle.csn_cert.specs.CertificateV.{NodeV}
use Rattle.csn_good.specs.Apart.{MarksMeet, PartsMeet}
use Rattle.csn_good.specs.ClaimedSets.{patterns_at}
use Rattle.csn_good.specs.ListsMeeting.{MayHave, HasShort, MeetFrom, ListsMeet}
use Rattle.csn_good.proofs.Conflicting.{item_at, one_item, at_contained, contained_at}
use Rattle.csn_good.proofs.Making.{take_part, take_whole, one_more}

-- ---- marks and bits

told : (a b : Mark) → (a ≡ Any → ⊥) → (b ≡ Any → ⊥) → MarksMeet a b → a ≡ b
told a b left right meet = elim meet [ inl any ↦ elim any [ inl is ↦ absurd (left is) | inr is ↦ absurd (right is) ] | inr same ↦ same ]

-- marks that meet stand for one bit
one_bit : (a b : Mark) → MarksMeet a b → (MarksMeet a Zero × MarksMeet b Zero) ⊎ (MarksMeet a One × MarksMeet b One)
one_bit Zero Zero meet = inl (inr refl, inr refl)
one_bit Zero Any meet = inl (inr refl, inl (inl refl))
one_bit Any Zero meet = inl (inl (inl refl), inr refl)
one_bit Any Any meet = inl (inl (inl refl), inl (inl refl))
one_bit One One meet = inr (inr refl, inr refl)
one_bit One Any meet = inr (inr refl, inl (inl refl))
one_bit Any One meet = inr (inl (inl refl), inr refl)
one_bit Zero One meet = let same = told Zero One (λ e. absurd (cc)) (λ e. absurd (cc)) meet in absurd (cc)
one_bit One Zero meet = let same = told One Zero (λ e. absurd (cc)) (λ e. absurd (cc)) meet in absurd (cc)

-- marks that stand for one bit meet
bit_meets : (bit a b : Mark) → (bit ≡ Any → ⊥) → MarksMeet a bit → MarksMeet b bit → MarksMeet a b
bit_meets bit Any b one left right = inl (inl refl)
bit_meets bit Zero Any one left right = inl (inr refl)
bit_meets bit One Any one left right = inl (inr refl)
bit_meets bit Zero Zero one left right = inr refl
bit_meets bit One One one left right = inr refl
bit_meets bit Zero One one left right =
    let own = told Zero bit (λ e. absurd (cc)) one left in
    let other = told One bit (λ e. absurd (cc)) one right in
    absurd (cc)
bit_meets bit One Zero one left right =
    let own = told One bit (λ e. absurd (cc)) one left in
    let other = told Zero bit (λ e. absurd (cc)) one right in
    absurd (cc)

-- ---- lists that are gone through

pub with_none : (patterns : List PatternV) (at : ℕ) (bit : Mark) (some : List PatternV) → some ≡ [] → (p : PatternV)
    → Contains some p ↔ (Contains (take 0 patterns) p × MayHave at bit p)
with_none patterns at bit some none p = (
  (λ h. let there = subst (λ (l : List PatternV). Contains l p) none h in absurd (omega (arith, there.1))),
  (λ h. let there = h.0 in absurd (omega (arith, there.1))),
)

pub with_next : (patterns : List PatternV) (at k : ℕ) (bit : Mark) (x : PatternV) (old new : List PatternV)
    → slice_get patterns k ≡ Some x
    → ((p : PatternV) → Contains new p ↔ (Contains old p ⊎ ((p ≡ x) × MayHave at bit p)))
    → ((p : PatternV) → Contains old p ↔ (Contains (take k patterns) p × MayHave at bit p)) → (p : PatternV)
    → Contains new p ↔ (Contains (take (k + 1) patterns) p × MayHave at bit p)
with_next patterns at k bit x old new is added before p =
    let same = take_part patterns k x is in
    subst (λ (l : List PatternV). Contains new p ↔ (Contains l p × MayHave at bit p)) (sym same) (
      (λ h. elim ((added p).0 h) [
        | inl there ↦ (let own = (before p).0 there in ((one_more (take k patterns) x p).1 (inl own.0), own.1))
        | inr last ↦ ((one_more (take k patterns) x p).1 (inr last.0), last.1)
      ]),
      (λ h. elim ((one_more (take k patterns) x p).0 h.0) [
        | inl there ↦ (added p).1 (inl ((before p).1 (there, h.1)))
        | inr last ↦ (added p).1 (inr (last, h.1))
      ]),
    )

pub with_all : (patterns : List PatternV) (at k : ℕ) (bit : Mark) (some : List PatternV)
    → length patterns ≤ k → ((p : PatternV) → Contains some p ↔ (Contains (take k patterns) p × MayHave at bit p))
    → (p : PatternV) → Contains some p ↔ (Contains patterns p × MayHave at bit p)
with_all patterns at k bit some long each p =
    subst (λ (l : List PatternV). Contains some p ↔ (Contains l p × MayHave at bit p)) (take_whole patterns k long)
    (each p)

pub short_none : (patterns : List PatternV) (at : ℕ) → HasShort (take 0 patterns) at → ⊥
short_none patterns at h = let there = h.is_one in absurd (omega (arith, there.1))

pub short_next : (patterns : List PatternV) (at k : ℕ) (x : PatternV) → slice_get patterns k ≡ Some x
    → at < length x.marks → (HasShort (take k patterns) at → ⊥) → HasShort (take (k + 1) patterns) at → ⊥
short_next patterns at k x is long before =
    subst (λ (l : List PatternV). HasShort l at → ⊥) (sym (take_part patterns k x is)) (λ h.
    elim ((one_more (take k patterns) x h.pattern).0 h.is_one) [
      | inl there ↦ before (record { pattern = h.pattern; is_one = there; short = h.short })
      | inr last ↦ absurd (omega (arith, long, h.short, ap (λ (q : PatternV). length q.marks) last))
    ])

pub short_all : (patterns : List PatternV) (at k : ℕ) → length patterns ≤ k → (HasShort (take k patterns) at → ⊥) → HasShort patterns at → ⊥
short_all patterns at k long never = subst (λ (l : List PatternV). HasShort l at → ⊥) (take_whole patterns k long) never

pub short_here : (patterns : List PatternV) (at k : ℕ) (x : PatternV) → slice_get patterns k ≡ Some x → length x.marks ≤ at → HasShort patterns at
short_here patterns at k x is short = record { pattern = x; is_one = at_contained patterns k x is; short = short }

-- ---- two lists

within : (p : PatternV) (k : ℕ) (a : Mark) → slice_get p.marks k ≡ Some a → k < length p.marks
within p k a is = slice_get_within p.marks k a is

pub none_left : (left right : List PatternV) (at : ℕ) → length left ≡ 0 → ListsMeet left right at → ⊥
none_left left right at none h = absurd (omega (arith, none, h.is_one.1))

pub none_right : (left right : List PatternV) (at : ℕ) → length right ≡ 0 → ListsMeet left right at → ⊥
none_right left right at none h = absurd (omega (arith, none, h.is_other.1))

some_item : (patterns : List PatternV) → (length patterns ≡ 0 → ⊥) → (p : PatternV) × Contains patterns p
some_item [] some = absurd (some refl)
some_item (p ∷ patterns) some = (p, (0, omega arith, refl))

pub short_left : (left right : List PatternV) (at : ℕ) → (length right ≡ 0 → ⊥) → HasShort left at → ListsMeet left right at
short_left left right at some short =
    let other = some_item right some in
    record {
      one = short.pattern;
      other = other.0;
      is_one = short.is_one;
      is_other = other.1;
      meet = record { marks = λ k a b low at_a at_b. absurd (omega (arith, low, within short.pattern k a at_a, short.short)) };
    }

pub short_right : (left right : List PatternV) (at : ℕ) → (length left ≡ 0 → ⊥) → HasShort right at → ListsMeet left right at
short_right left right at some short =
    let one = some_item left some in
    record {
      one = one.0;
      other = short.pattern;
      is_one = one.1;
      is_other = short.is_one;
      meet = record { marks = λ k a b low at_a at_b. absurd (omega (arith, low, within short.pattern k b at_b, short.short)) };
    }

mark_there : (patterns : List PatternV) (at : ℕ) (p : PatternV) → (HasShort patterns at → ⊥)
    → Contains patterns p → (a : Mark) × (slice_get p.marks at ≡ Some a)
mark_there patterns at p long there =
    elim (cases_lt at (length p.marks)) [
      | inl low ↦ item_at p.marks at low
      | inr past ↦ absurd (long (record { pattern = p; is_one = there; short = past }))
    ]

-- the patterns of a list that may have the bit
abbrev pub AreWith : List PatternV → ℕ → Mark → List PatternV → Type 0
AreWith patterns at bit some = (p : PatternV) → Contains some p ↔ (Contains patterns p × MayHave at bit p)

pub back_from : (left right own others : List PatternV) (at : ℕ) (bit : Mark) → (bit ≡ Any → ⊥)
    → AreWith left at bit own → AreWith right at bit others → ListsMeet own others (at + 1) → ListsMeet left right at
back_from left right own others at bit one are_own are_others h =
    let a_one = (are_own h.one).0 h.is_one in
    let a_other = (are_others h.other).0 h.is_other in
    record {
      one = h.one;
      other = h.other;
      is_one = a_one.0;
      is_other = a_other.0;
      meet = record {
        marks = λ k a b low at_a at_b.
            elim (eqb_tells k at) [
              | inl same ↦
                  let is_a = one_item h.one.marks same.1 at_a a_one.1.there in
                  let is_b = one_item h.other.marks same.1 at_b a_other.1.there in
                  subst (λ (x : Mark). MarksMeet x b) (sym is_a) (subst (λ (y : Mark). MarksMeet a_one.1.mark y)
                  (sym is_b) (bit_meets bit a_one.1.mark a_other.1.mark one a_one.1.meets a_other.1.meets))
              | inr apart ↦ (let differ = apart.1 in h.meet.marks k a b (omega arith) at_a at_b)
            ];
      };
    }

pub either_bit : (left right zeros zero_others ones one_others : List PatternV) (at : ℕ) → (HasShort left at → ⊥)
    → (HasShort right at → ⊥) → AreWith left at Zero zeros → AreWith right at Zero zero_others
    → AreWith left at One ones → AreWith right at One one_others → ListsMeet left right at
    → ListsMeet zeros zero_others (at + 1) ⊎ ListsMeet ones one_others (at + 1)
either_bit left right zeros zero_others ones one_others at long_left long_right are_zeros are_zero_others are_ones are_one_others h =
    let a = mark_there left at h.one long_left h.is_one in
    let b = mark_there right at h.other long_right h.is_other in
    let later : MeetFrom (at + 1) h.one h.other = record { marks = λ k x y low at_x at_y. h.meet.marks k x y (omega (arith, low)) at_x at_y } in
    elim (one_bit a.0 b.0 (h.meet.marks at a.0 b.0 (omega arith) a.1 b.1)) [
      | inl low ↦ inl (record {
        one = h.one;
        other = h.other;
        is_one = (are_zeros h.one).1 (h.is_one, record { mark = a.0; there = a.1; meets = low.0 });
        is_other = (are_zero_others h.other).1 (h.is_other, record { mark = b.0; there = b.1; meets = low.1 });
        meet = later;
      })
      | inr high ↦ inr (record {
        one = h.one;
        other = h.other;
        is_one = (are_ones h.one).1 (h.is_one, record { mark = a.0; there = a.1; meets = high.0 });
        is_other = (are_one_others h.other).1 (h.is_other, record { mark = b.0; there = b.1; meets = high.1 });
        meet = later;
      })
    ]

-- ---- claimed patterns

pub parts_meet_from : (c : List NodeV) (left right octet : ℕ)
    → ListsMeet (patterns_at c left octet) (patterns_at c right octet) 0 ↔ PartsMeet c left right octet
parts_meet_from c left right octet = (
  (λ h. record {
    place = h.is_one.0;
    pattern = h.one;
    at = contained_at (patterns_at c left octet) h.one h.is_one;
    meets = record {
      place = h.is_other.0;
      pattern = h.other;
      at = contained_at (patterns_at c right octet) h.other h.is_other;
      meets = record { marks = λ k a b at_a at_b. h.meet.marks k a b (omega arith) at_a at_b };
    };
  }),
  (λ h. record {
    one = h.pattern;
    other = h.meets.pattern;
    is_one = at_contained (patterns_at c left octet) h.place h.pattern h.at;
    is_other = at_contained (patterns_at c right octet) h.meets.place h.meets.pattern h.meets.at;
    meet = record { marks = λ k a b low at_a at_b. h.meets.meets.marks k a b at_a at_b };
  }),
)
