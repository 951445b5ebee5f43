-- What the calls of a set of octet positions give, position by position.
use Rattle.std.proofs.Common.{◌≡◌, ◌≢◌, ℕ, zero, suc, ◌+◌, ◌-◌, ◌*◌, ◌/◌, ◌%◌, ◌<◌, ◌≤◌, Bool, true, false, ◌&&◌}
use Rattle.std.proofs.Common.{◌||◌, ◌⊎◌, ◌↔◌, nat_eq, nat_le, refl, sym, ap, ◌∙◌, subst, arith, inl, inr}
use Rattle.std.specs.Prelude.{bit_or, ◌==◌, max, if◌then◌else◌}
use Rattle.std.specs.Int.{bit_at}
use Rattle.std.specs.Ordering.{nat_cmp}
use Rattle.std.specs.Cmp.{nat_cmp_total, unsigned_tied}
use Rattle.std.specs.FinSet as set
use Rattle.std.proofs.lemmas.Bool.{agree_below_at, or_cases, or_left, or_right}
use Rattle.std.proofs.lemmas.Bool.Decides.{eqb_tells}
use Rattle.std.proofs.lemmas.Nat.Bits.{bit_at-lt, bit_at_or}
use Rattle.csn_look.specs.Marks.{marked, marks_of, marks_of-marked, contains-marked}
use Rattle.csn_look.specs.Told.{OctetsAre}
use Rattle.csn_look.specs.Sums.{Has, IsSum, SumOf, sum_none, sum_next, Leads}

-- ---- one number more, and two sets together

inserted : (s : set.FinSet nat_cmp) (k q : ℕ) → set.contains (set.insert s k) q ≡ (nat_eq q k || set.contains s q)
inserted s k q = set.contains-insert nat_cmp_total s k q ∙ ap (λ b. b || set.contains s q) (unsigned_tied q k)

pub has_insert : (s : set.FinSet nat_cmp) (k q : ℕ) → Has (set.insert s k) q ↔ ((q ≡ k) ⊎ Has s q)
has_insert s k q =
    elim (eqb_tells q k) [
      | inl same ↦ (
        (λ h. inl same.1),
        (λ h. inserted s k q ∙ or_left (nat_eq q k) (set.contains s q) same.0),
      )
      | inr apart ↦ (
        (λ h. inr (ap (λ b. b || set.contains s q) (sym apart.0) ∙ sym (inserted s k q) ∙ h)),
        (λ h. elim h [
          | inl same ↦ absurd (apart.1 same)
          | inr before ↦ inserted s k q ∙ or_right (nat_eq q k) (set.contains s q) before
        ]),
      )
    ]

pub has_union : (s t : set.FinSet nat_cmp) (q : ℕ) → Has (set.union s t) q ↔ (Has s q ⊎ Has t q)
has_union s t q = (
  (λ h. or_cases (set.contains s q) (set.contains t q) (sym (set.contains-union nat_cmp_total s t q) ∙ h)),
  (λ h. elim h [
    | inl left ↦ set.contains-union nat_cmp_total s t q ∙ or_left (set.contains s q) (set.contains t q) left
    | inr right ↦ set.contains-union nat_cmp_total s t q ∙ or_right (set.contains s q) (set.contains t q) right
  ]),
)

pub has_none : (s : set.FinSet nat_cmp) (q : ℕ) → s ≡ set.empty → Has s q → ⊥
has_none s q none h =
    let e : set.contains s q ≡ false = ap (λ t. set.contains t q) none ∙ set.contains-empty nat_cmp q in
    cc

pub has_all : (q : ℕ) → q ≤ 7 → Has (marked 255) q
has_all q h = contains-marked 255 q ∙ agree_below_at (λ k. bit_at 255 k == 1 && nat_le k 7) (λ _. true) 8 q refl (omega (arith, h))

either_bit : (x y : ℕ) (c : Bool) → x < 2 → y < 2 → (max x y == 1 && c) ≡ ((x == 1 && c) || (y == 1 && c))
either_bit zero zero c h k = refl
either_bit zero (suc zero) c h k = refl
either_bit (suc zero) zero true h k = refl
either_bit (suc zero) zero false h k = refl
either_bit (suc zero) (suc zero) true h k = refl
either_bit (suc zero) (suc zero) false h k = refl
either_bit zero (suc (suc y)) c h k = absurd (omega arith)
either_bit (suc zero) (suc (suc y)) c h k = absurd (omega arith)
either_bit (suc (suc x)) y c h k = absurd (omega arith)

-- the marks of both sets are those of the two together
pub marked_union : (a b : ℕ) → marked (bit_or a b) ≡ set.union (marked a) (marked b)
marked_union a b =
    set.same_set nat_cmp_total set.nat_cmp-IsAntisymmetric _ _
    (λ q. contains-marked (bit_or a b) q
    ∙ ap (λ x. x == 1 && nat_le q 7) (bit_at_or a b q)
    ∙ either_bit (bit_at a q) (bit_at b q) (nat_le q 7) (bit_at-lt a q) (bit_at-lt b q)
    ∙ sym (set.contains-union nat_cmp_total (marked a) (marked b) q ∙ ap (λ x. x || set.contains (marked b) q)
    (contains-marked a q) ∙ ap (λ x. (bit_at a q == 1 && nat_le q 7) || x) (contains-marked b q)))

-- ---- a set that a loop fills, position by position

-- the set has the positions below k with the fact
abbrev pub Below : (ℕ → Type 0) → ℕ → set.FinSet nat_cmp → Type 0
Below P k s = (o : ℕ) → o ≤ 7 → Has s o ↔ ((o < k) × P o)

pub below_none : (P : ℕ → Type 0) (s : set.FinSet nat_cmp) → s ≡ set.empty → Below P 0 s
below_none P s none o small = ((λ h. absurd (has_none s o none h)), (λ h. absurd (omega (arith, h.0))))

pub below_with : (P : ℕ → Type 0) (k : ℕ) (s t : set.FinSet nat_cmp) → Below P k s → P k → t ≡ set.insert s k → Below P (k + 1) t
below_with P k s t below here more o small = (
  (λ h. elim ((has_insert s k o).0 (ap (λ u. set.contains u o) (sym more) ∙ h)) [
    | inl same ↦ (omega arith, subst P (sym same) here)
    | inr before ↦ let p = (below o small).0 before in (omega (arith, p.0), p.1)
  ]),
  (λ h. ap (λ u. set.contains u o) more ∙ (has_insert s k o).1 (elim (eqb_tells o k) [
    | inl same ↦ inl same.1
    | inr apart ↦ let differ = apart.1 in let within = h.0 in inr ((below o small).1 (omega arith, h.1))
  ])),
)

pub below_without : (P : ℕ → Type 0) (k : ℕ) (s t : set.FinSet nat_cmp) → Below P k s → (P k → ⊥) → t ≡ s → Below P (k + 1) t
below_without P k s t below here same o small = (
  (λ h. let p = (below o small).0 (ap (λ u. set.contains u o) (sym same) ∙ h) in (omega (arith, p.0), p.1)),
  (λ h. ap (λ u. set.contains u o) same ∙ (elim (eqb_tells o k) [
    | inl at ↦ absurd (here (subst P at.1 h.1))
    | inr apart ↦ let differ = apart.1 in let within = h.0 in (below o small).1 (omega arith, h.1)
  ])),
)

pub below_all : (P : ℕ → Type 0) (k : ℕ) (s : set.FinSet nat_cmp) → Below P k s → 8 ≤ k → OctetsAre s P
below_all P k s below end o small = ((λ h. ((below o small).0 h).1), (λ h. (below o small).1 (omega arith, h)))

-- the set has the positions that are had for some number below k
abbrev pub Swept : (ℕ → ℕ → Type 0) → ℕ → set.FinSet nat_cmp → Type 0
Swept P k s = (o : ℕ) → o ≤ 7 → Has s o ↔ ((b : ℕ) × (b < k) × P b o)

pub swept_none : (P : ℕ → ℕ → Type 0) (s : set.FinSet nat_cmp) → s ≡ set.empty → Swept P 0 s
swept_none P s none o small = ((λ h. absurd (has_none s o none h)), (λ (b, below, h). absurd (omega (arith, below))))

pub swept_more : (P : ℕ → ℕ → Type 0) (k : ℕ) (s t u : set.FinSet nat_cmp) → Swept P k s → OctetsAre t (P k) → u ≡ set.union s t → Swept P (k + 1) u
swept_more P k s t u swept here more o small = (
  (λ h. elim ((has_union s t o).0 (ap (λ v. set.contains v o) (sym more) ∙ h)) [
    | inl before ↦ let p = (swept o small).0 before in (p.0, omega (arith, p.1), p.2)
    | inr now ↦ (k, omega arith, (here o small).0 now)
  ]),
  (λ (b, below, h). ap (λ v. set.contains v o) more ∙ (has_union s t o).1 (elim (eqb_tells b k) [
    | inl at ↦ inr ((here o small).1 (subst (λ n. P n o) at.1 h))
    | inr apart ↦ let differ = apart.1 in inl ((swept o small).1 (b, omega arith, h))
  ])),
)

pub swept_same : (P : ℕ → ℕ → Type 0) (k : ℕ) (s u : set.FinSet nat_cmp) → Swept P k s → ((o : ℕ) → P k o → ⊥) → u ≡ s → Swept P (k + 1) u
swept_same P k s u swept here same o small = (
  (λ h. let p = (swept o small).0 (ap (λ v. set.contains v o) (sym same) ∙ h) in (p.0, omega (arith, p.1), p.2)),
  (λ (b, below, h). ap (λ v. set.contains v o) same ∙ (elim (eqb_tells b k) [
    | inl at ↦ absurd (here o (subst (λ n. P n o) at.1 h))
    | inr apart ↦ let differ = apart.1 in (swept o small).1 (b, omega arith, h)
  ])),
)

pub plus_is : (a b s : set.FinSet nat_cmp) (k : ℕ) → Swept (λ n o. Has b n × Has a ((o + 8 - n) % 8)) k s → 8 ≤ k → k ≤ 8 → OctetsAre s (IsSum a b)
plus_is a b s k swept end within o small = (
  (λ h.
      let p = (swept o small).0 h in
      let below = p.1 in
      record {
        a = (o + 8 - p.0) % 8;
        b = p.0;
        a_small = omega arith;
        b_small = omega arith;
        has_a = p.2.1;
        has_b = p.2.0;
        is = omega arith;
      }),
  (λ h.
      let is = h.is in
      let left = h.a_small in
      let right = h.b_small in
      let back : h.a ≡ (o + 8 - h.b) % 8 = omega arith in
      (swept o small).1 (h.b, omega arith, (h.has_b, subst (λ q. Has a q) back h.has_a))),
)

-- what is behind a set by numbers that lead back lies before it by those that led on
pub before_is : (s lengths back t : set.FinSet nat_cmp) → OctetsAre back (λ o. Has lengths ((8 - o) % 8))
    → OctetsAre t (IsSum s back) → OctetsAre t (Leads lengths s)
before_is s lengths back t opposite behind o small = (
  (λ h.
      let sum = (behind o small).0 h in
      let low = sum.a_small in
      let led = sum.b_small in
      let is = sum.is in
      let there : sum.a ≡ (o + (8 - sum.b) % 8) % 8 = omega arith in
      record {
        length = (8 - sum.b) % 8;
        small = omega arith;
        has_length = (opposite sum.b sum.b_small).0 sum.has_b;
        reaches = subst (λ n. Has s n) there sum.has_a;
      }),
  (λ h.
      let led = h.small in
      let twice : h.length ≡ (8 - (8 - h.length) % 8) % 8 = omega arith in
      (behind o small).1 (record {
        a = (o + h.length) % 8;
        b = (8 - h.length) % 8;
        a_small = omega arith;
        b_small = omega arith;
        has_a = h.reaches;
        has_b = (opposite ((8 - h.length) % 8) (omega arith)).1 (subst (λ n. Has lengths n) twice h.has_length);
        is = omega arith;
      })),
)

-- ---- sums

pub sum_small : {s : set.FinSet nat_cmp} {n r : ℕ} → SumOf s n r → r ≤ 7
sum_small (sum_none e f) = omega arith
sum_small (sum_next m a b e small has others is) = omega arith

pub join_sums : {s : set.FinSet nat_cmp} {m k a b : ℕ} → SumOf s m a → SumOf s k b → SumOf s (m + k) ((a + b) % 8)
join_sums {s} {m} {k} {a} {b} (sum_none e f) right =
    let small = sum_small right in
    let same : b ≡ (a + b) % 8 = omega arith in
    let count : k ≡ m + k = omega arith in
    subst (λ n. SumOf s n ((a + b) % 8)) count (subst (λ r. SumOf s k r) same right)
join_sums {s} {m} {k} {a} {b} (sum_next n x y e small has others is) right =
    sum_next (n + k) x ((y + b) % 8) (omega arith) small has (join_sums others right) (omega arith)

pub record Cut (s : set.FinSet nat_cmp) (m k r : ℕ) : Type 0 where
  pub a : ℕ
  pub b : ℕ
  pub left : SumOf s m a
  pub right : SumOf s k b
  pub is : r ≡ (a + b) % 8

pub cut_sum : {s : set.FinSet nat_cmp} {n r : ℕ} (m k : ℕ) → n ≡ m + k → SumOf s n r → Cut s m k r
cut_sum {s} {n} {r} zero k e h =
    let small = sum_small h in
    let count : n ≡ k = omega arith in
    record { a = 0; b = r; left = sum_none refl refl; right = subst (λ j. SumOf s j r) count h; is = omega arith }
cut_sum (suc m) k e (sum_none f g) = absurd (omega arith)
cut_sum (suc m) k e (sum_next n x y f small has others is) =
    let c = cut_sum m k (omega arith) others in
    let inner = c.is in
    record { a = (x + c.a) % 8; b = c.b; left = sum_next m x c.a refl small has c.left refl; right = c.right; is = omega arith }

-- ---- what a loop that doubles keeps

pub record Folds (numbers : set.FinSet nat_cmp) (n left : ℕ) (sums each : set.FinSet nat_cmp) : Type 0 where
  pub done : ℕ
  pub unit : ℕ
  pub sums_are : OctetsAre sums (SumOf numbers done)
  pub each_are : OctetsAre each (SumOf numbers unit)
  pub total : done + unit * left ≡ n

pub only_zero : (numbers s : set.FinSet nat_cmp) → s ≡ set.insert set.empty 0 → OctetsAre s (SumOf numbers 0)
only_zero numbers s e o small = (
  (λ h. elim ((has_insert set.empty 0 o).0 (ap (λ u. set.contains u o) (sym e) ∙ h)) [
    | inl same ↦ sum_none refl same
    | inr before ↦ absurd (has_none set.empty o refl before)
  ]),
  (λ h. ap (λ u. set.contains u o) e ∙ (has_insert set.empty 0 o).1 (inl (zero_sum h refl))),
)
  where
    zero_sum : {n r : ℕ} → SumOf numbers n r → n ≡ 0 → r ≡ 0
    zero_sum (sum_none f g) none = g
    zero_sum (sum_next m a b f has_small has others is) none = absurd (omega arith)

one_number : {numbers : set.FinSet nat_cmp} {n r : ℕ} → SumOf numbers n r → n ≡ 1 → Has numbers r
one_number (sum_none f g) one = absurd (omega arith)
one_number {numbers} {n} {r} (sum_next m a b f small has (sum_none g z) is) one =
    let same : a ≡ r = omega arith in subst (λ k. Has numbers k) same has
one_number (sum_next m a b f small has (sum_next k x y g h i others j) is) one = absurd (omega arith)

pub numbers_are : (numbers : set.FinSet nat_cmp) → OctetsAre numbers (SumOf numbers 1)
numbers_are numbers o small = (
  (λ h. sum_next 0 o 0 refl small h (sum_none refl refl) (omega arith)),
  (λ h. one_number h refl),
)

-- the sums of two sets of sums are the sums of both counts
pub sums_of_sums : (numbers s t u : set.FinSet nat_cmp) (m k : ℕ) → OctetsAre s (SumOf numbers m)
    → OctetsAre t (SumOf numbers k) → OctetsAre u (IsSum s t) → OctetsAre u (SumOf numbers (m + k))
sums_of_sums numbers s t u m k left right both o small = (
  (λ h.
      let p = (both o small).0 h in
      let joined = join_sums ((left p.a p.a_small).0 p.has_a) ((right p.b p.b_small).0 p.has_b) in
      subst (λ r. SumOf numbers (m + k) r) (sym p.is) joined),
  (λ h.
      let c = cut_sum m k refl h in
      (both o small).1 (record {
        a = c.a;
        b = c.b;
        a_small = sum_small c.left;
        b_small = sum_small c.right;
        has_a = (left c.a (sum_small c.left)).1 c.left;
        has_b = (right c.b (sum_small c.right)).1 c.right;
        is = c.is;
      })),
)

halves : (done unit left half n : ℕ) → left ≡ half + half → done + unit * left ≡ n → done + (unit + unit) * half ≡ n
halves done unit left half n e total = let seen : done + unit * (half + half) ≡ n = subst (λ l. done + unit * l ≡ n) e total in omega arith

odd_halves : (done unit left half n : ℕ) → left ≡ half + half + 1 → done + unit * left ≡ n → (done + unit) + (unit + unit) * half ≡ n
odd_halves done unit left half n e total = let seen : done + unit * (half + half + 1) ≡ n = subst (λ l. done + unit * l ≡ n) e total in omega arith

pub fold_even : (numbers sums each twice : set.FinSet nat_cmp) (n left : ℕ) → Folds numbers n left sums each
    → left % 2 ≢ 1 → OctetsAre twice (IsSum each each) → Folds numbers n (left / 2) sums twice
fold_even numbers sums each twice n left f even both =
    let half : left ≡ left / 2 + left / 2 = omega arith in
    record {
      done = f.done;
      unit = f.unit + f.unit;
      sums_are = f.sums_are;
      each_are = sums_of_sums numbers each each twice f.unit f.unit f.each_are f.each_are both;
      total = halves f.done f.unit left (left / 2) n half f.total;
    }

pub fold_odd : (numbers sums each more twice : set.FinSet nat_cmp) (n left : ℕ) → Folds numbers n left sums each
    → left % 2 ≡ 1 → OctetsAre more (IsSum sums each) → OctetsAre twice (IsSum each each)
    → Folds numbers n (left / 2) more twice
fold_odd numbers sums each more twice n left f odd one both =
    let half : left ≡ left / 2 + left / 2 + 1 = omega arith in
    record {
      done = f.done + f.unit;
      unit = f.unit + f.unit;
      sums_are = sums_of_sums numbers sums each more f.done f.unit f.sums_are f.each_are one;
      each_are = sums_of_sums numbers each each twice f.unit f.unit f.each_are f.each_are both;
      total = odd_halves f.done f.unit left (left / 2) n half f.total;
    }

pub fold_end : (numbers sums each : set.FinSet nat_cmp) (n left : ℕ) → Folds numbers n left sums each → left ≡ 0 → OctetsAre sums (SumOf numbers n)
fold_end numbers sums each n left f none =
    let count : f.done ≡ n = nothing_left f.done f.unit left n none f.total in
    subst (λ k. OctetsAre sums (SumOf numbers k)) count f.sums_are
  where
    nothing_left : (done unit left n : ℕ) → left ≡ 0 → done + unit * left ≡ n → done ≡ n
    nothing_left done unit left n none total = let seen : done + unit * 0 ≡ n = subst (λ l. done + unit * l ≡ n) none total in omega arith

-- ---- what a loop that closes a set keeps

abbrev pub AnySum : set.FinSet nat_cmp → ℕ → Type 0
AnySum numbers sum = (n : ℕ) × SumOf numbers n sum

pub record Closing (numbers sums : set.FinSet nat_cmp) : Type 0 where
  pub begins : Has sums 0
  pub sound : (sum : ℕ) → sum ≤ 7 → Has sums sum → AnySum numbers sum

pub closing_none : (numbers s : set.FinSet nat_cmp) → s ≡ set.insert set.empty 0 → Closing numbers s
closing_none numbers s e =
    let are = only_zero numbers s e in
    record {
      begins = (are 0 (omega arith)).1 (sum_none refl refl);
      sound = λ sum small h. (0, (are sum small).0 h);
    }

pub closing_more : (numbers sums plus more : set.FinSet nat_cmp)
    → Closing numbers sums → OctetsAre plus (IsSum sums numbers) → more ≡ set.union sums plus → Closing numbers more
closing_more numbers sums plus more closing sum_is e =
    record {
      begins = ap (λ u. set.contains u 0) e ∙ (has_union sums plus 0).1 (inl closing.begins);
      sound = λ sum small h.
          elim ((has_union sums plus sum).0 (ap (λ u. set.contains u sum) (sym e) ∙ h)) [
            | inl before ↦ closing.sound sum small before
            | inr new ↦
                let p = (sum_is sum small).0 new in
                let q = closing.sound p.a p.a_small p.has_a in
                let was = p.is in
                let turned : sum ≡ (p.b + p.a) % 8 = omega arith in
                (suc q.0, sum_next q.0 p.b p.a refl p.b_small p.has_b q.1 turned)
          ];
    }

closed_sum : (numbers sums plus : set.FinSet nat_cmp) → Closing numbers sums → OctetsAre plus (IsSum sums numbers)
    → ((o : ℕ) → Has plus o → Has sums o) → {n r : ℕ} → SumOf numbers n r → Has sums r
closed_sum numbers sums plus closing sum_is closed {n} {r} (sum_none e f) = subst (λ k. Has sums k) (sym f) closing.begins
closed_sum numbers sums plus closing sum_is closed {n} {r} (sum_next m a b e small has others is) =
    closed r ((sum_is r (omega arith)).1 (record {
      a = b;
      b = a;
      a_small = sum_small others;
      b_small = small;
      has_a = closed_sum numbers sums plus closing sum_is closed others;
      has_b = has;
      is = omega arith;
    }))

pub closing_end : (numbers sums plus more : set.FinSet nat_cmp)
    → Closing numbers sums → OctetsAre plus (IsSum sums numbers) → more ≡ set.union sums plus → more ≡ sums
    → OctetsAre sums (AnySum numbers)
closing_end numbers sums plus more closing sum_is e same o small = (
  closing.sound o small,
  (λ (n, h). closed_sum numbers sums plus closing sum_is (λ q new. ap (λ u. set.contains u q) (sym same ∙ e) ∙ (has_union sums plus q).1 (inr new)) h),
)

-- a mark of a set is one of any larger set
mark_grows : (a b : Bool) (mark : ℕ) → (a ≡ true → b ≡ true) → (if a then mark else 0) ≤ (if b then mark else 0)
mark_grows true true mark h = omega arith
mark_grows true false mark h = let e = h refl in cc
mark_grows false b mark h = omega arith

grown : (s t : set.FinSet nat_cmp) → ((o : ℕ) → Has s o → Has t o) → marks_of s ≤ marks_of t
grown s t larger =
    let at = λ (p : ℕ) (mark : ℕ). mark_grows (set.contains s p) (set.contains t p) mark (larger p) in
    let a = at 0 1 in
    let b = at 1 2 in
    let c = at 2 4 in
    let d = at 3 8 in
    let e = at 4 16 in
    let f = at 5 32 in
    let g = at 6 64 in
    let h = at 7 128 in
    omega arith

pub closing_falls : (a b : ℕ) (s t plus : set.FinSet nat_cmp) → a < 256 → b < 256 → marked a ≡ s → marked b ≡ t
    → t ≡ set.union s plus → b ≢ a → 256 - marks_of t < 256 - marks_of s
closing_falls a b s t plus a_small b_small a_is b_is e differ =
    let at_a : marks_of s ≡ a = ap marks_of (sym a_is) ∙ marks_of-marked a a_small in
    let at_b : marks_of t ≡ b = ap marks_of (sym b_is) ∙ marks_of-marked b b_small in
    let up = grown s t (λ o h. ap (λ u. set.contains u o) e ∙ (has_union s plus o).1 (inl h)) in
    omega arith
