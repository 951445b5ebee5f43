-- What stands behind the patterns of a part makes the same where it is cut to the marks that there is room for.
use Rattle.std.proofs.Common.{◌≡◌, ℕ, ◌+◌, ◌-◌, ◌%◌, ◌<◌, ◌≤◌, Bool, true, false, List, [], ◌∷◌, ◌++◌, length, take}
use Rattle.std.proofs.Common.{inl, inr, refl, sym, ◌∙◌, ap, subst, arith, Option, Some, None, slice_get}
use Rattle.std.proofs.Common.{length-append}
use Rattle.std.specs.Prelude.{◌⊎◌, ◌↔◌, Contains, nat_le, ◌&&◌, IfSome}
use Rattle.std.proofs.lemmas.Bool.Decides.{nat_tests}
use Rattle.std.proofs.Math.Seq.{take-append-add}
use Rattle.csn_cert.specs.declared.pattern.Mark.{Mark}
use Rattle.csn_cert.specs.PatternV.{PatternV}
use Rattle.csn_good.specs.Patterns.{shortened}
use Rattle.csn_good.specs.Behind.{cut_to, CutsSome, JoinsOne, MakesSame, IsBehind}
use Rattle.csn_good.proofs.Making.{take_part, take_whole, take_size, one_more, shorter, earlier, last, pushed_at}

-- ---- one pattern

pub cut_joins : (first rest : PatternV) (room : ℕ) → length first.marks + room ≡ 12
    → shortened (first.marks ++ (cut_to room rest).marks) (cut_to room rest).whole ≡ shortened
    (first.marks ++ rest.marks) rest.whole
cut_joins first rest room fits = by_test (nat_le (length rest.marks) room) refl
  where
    never : (b : Bool) → false ≡ (b && false)
    never true = refl
    never false = refl

    by_test : (test : Bool) → nat_le (length rest.marks) room ≡ test
        → shortened (first.marks ++ (cut_to room rest).marks) (cut_to room rest).whole ≡ shortened
        (first.marks ++ rest.marks) rest.whole
    by_test true low = rw low refl
    by_test false low =
        let big : room < length rest.marks = grind (arith, nat_tests, low) in
        let few : List Mark = take room rest.marks in
        let both : PatternV = record { marks = first.marks ++ few; whole = false } in
        let size : length (first.marks ++ few) ≡ 12 = length-append first.marks few ∙ ap (λ n. length first.marks + n)
        (take_size rest.marks room (omega (arith, big))) ∙ fits in
        let long : 12 < length (first.marks ++ rest.marks) = let all = length-append first.marks rest.marks in omega (arith, all, big, fits) in
        let fit : nat_le (length (first.marks ++ few)) 12 ≡ true = grind (arith, nat_tests, size) in
        let over : nat_le (length (first.marks ++ rest.marks)) 12 ≡ false = grind (arith, nat_tests, long) in
        let cut : both ≡ shortened (first.marks ++ few) false = shorter (first.marks ++ few) false true fit both
        (sym (take_whole (first.marks ++ few) 12 (omega (arith, size)))) refl in
        let all : both ≡ shortened (first.marks ++ rest.marks) rest.whole =
        shorter (first.marks ++ rest.marks) rest.whole false over both
        (sym (ap (λ n. take n (first.marks ++ rest.marks)) (sym fits)
        ∙ take-append-add first.marks rest.marks room)) (never rest.whole) in
        rw low (sym cut ∙ all)

-- ---- patterns one by one

pub cuts_none : (room : ℕ) (patterns : List PatternV) (p : PatternV) → CutsSome room (take 0 patterns) p → ⊥
cuts_none room patterns p h = absurd (omega (arith, h.there.1))

pub cuts_on : (room k : ℕ) (patterns : List PatternV) (x p : PatternV) → slice_get patterns k ≡ Some x
    → CutsSome room (take (k + 1) patterns) p ↔ (CutsSome room (take k patterns) p ⊎ (p ≡ cut_to room x))
cuts_on room k patterns x p at =
    let same = take_part patterns k x at in
    subst (λ (l : List PatternV). CutsSome room l p ↔ (CutsSome room (take k patterns) p ⊎ (p ≡ cut_to room x))) (sym same) (
      (λ h. elim ((one_more (take k patterns) x h.pattern).0 h.there) [
        | inl there ↦ inl (record { pattern = h.pattern; there = there; cut = h.cut })
        | inr is ↦ inr (h.cut ∙ ap (λ q. cut_to room q) is)
      ]),
      (λ h. elim h [
        | inl before ↦ record { pattern = before.pattern; there = (one_more (take k patterns) x before.pattern).1 (inl before.there); cut = before.cut }
        | inr is ↦ record { pattern = x; there = (one_more (take k patterns) x x).1 (inr refl); cut = is }
      ]),
    )

pub cuts_done : (room k : ℕ) (patterns : List PatternV) (p : PatternV) → length patterns ≤ k → CutsSome room (take k patterns) p ↔ CutsSome room patterns p
cuts_done room k patterns p long = subst (λ (l : List PatternV). CutsSome room l p ↔ CutsSome room patterns p)
    (sym (take_whole patterns k long)) ((λ h. h), (λ h. h))

-- ---- what makes the same

pub same_itself : (made : List (List PatternV)) (octet size : ℕ) (these : List PatternV)
    → slice_get made ((octet + size) % 8) ≡ Some these → MakesSame made octet size these
same_itself made octet size these at rests first p there marks =
    let list : these ≡ rests = cc in
    subst (λ (l : List PatternV). JoinsOne first these p ↔ JoinsOne first l p) list ((λ h. h), (λ h. h))

pub same_cut : (made : List (List PatternV)) (octet size : ℕ) (these : List PatternV)
    → size ≤ 12 → IsBehind made octet size these → MakesSame made octet size these
same_cut made octet size these few behind rests first p there marks = (to, back)
  where
    room : ℕ
    room = 12 - size

    fits : length first.marks + (12 - size) ≡ 12
    fits = omega (arith, few, marks)

    to : JoinsOne first these p → JoinsOne first rests p
    to h = (let own = (behind rests h.rest there).0 h.is_rest in record {
      rest = own.pattern;
      is_rest = own.there;
      joined = h.joined ∙ ap (λ (q : PatternV). shortened (first.marks ++ q.marks) q.whole) own.cut ∙ cut_joins first own.pattern (12 - size) fits;
    })

    back : JoinsOne first rests p → JoinsOne first these p
    back h = record {
      rest = cut_to (12 - size) h.rest;
      is_rest = (behind rests (cut_to (12 - size) h.rest) there).1 (record { pattern = h.rest; there = h.is_rest; cut = refl });
      joined = h.joined ∙ sym (cut_joins first h.rest (12 - size) fits);
    }

pub behind_is : (made : List (List PatternV)) (octet size : ℕ) (later these : List PatternV)
    → slice_get made ((octet + size) % 8) ≡ Some later
    → ((p : PatternV) → Contains these p ↔ CutsSome (12 - size) later p) → IsBehind made octet size these
behind_is made octet size later these at are rests p there =
    let list : later ≡ rests = cc in
    subst (λ (l : List PatternV). Contains these p ↔ CutsSome (12 - size) l p) list (are p)

-- ---- for each number of marks

pub record BehindTo (made : List (List PatternV)) (octet : ℕ) (behind : List (Option (List PatternV))) (n : ℕ) : Type 0 where
  pub sizes : length behind ≡ n
  pub each : (size : ℕ) (these : List PatternV) → slice_get behind size ≡ Some (Some these) → IsBehind made octet size these

pub behind_begin : (made : List (List PatternV)) (octet : ℕ) (behind : List (Option (List PatternV))) → behind ≡ [] → BehindTo made octet behind 0
behind_begin made octet behind none = subst (λ (l : List (Option (List PatternV))). BehindTo made octet l 0)
    (sym none) (record { sizes = refl; each = λ size these at. absurd (cc) })

pub behind_on : (made : List (List PatternV)) (octet : ℕ) (behind : List (Option (List PatternV))) (n : ℕ)
    (x : Option (List PatternV)) → BehindTo made octet behind n → IfSome x (IsBehind made octet n)
    → BehindTo made octet (behind ++ x ∷ []) (n + 1)
behind_on made octet behind n x to here = record {
  sizes = length-append behind (x ∷ []) ∙ ap (λ m. m + 1) to.sizes;
  each = λ size these at. elim (pushed_at behind x size (Some these) at) [
    | earlier there ↦ to.each size these there
    | last end is ↦
        let place : size ≡ n = end ∙ to.sizes in
        subst (λ (m : ℕ). IsBehind made octet m these) (sym place) (one x here these is)
  ];
}
  where
    one : (y : Option (List PatternV)) → IfSome y (IsBehind made octet n) → (these : List PatternV) → Some these ≡ y → IsBehind made octet n these
    one None told these is = absurd (cc)
    one (Some own) told these is = (let list : own ≡ these = cc in subst (λ (l : List PatternV). IsBehind made octet n l) list told)
