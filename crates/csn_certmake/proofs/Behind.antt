-- What stands behind first patterns, cut to the marks that there is room for, makes the same with them.
use Rattle.std.proofs.Common.{◌≡◌, ℕ, zero, suc, inl, inr, ◌+◌, ◌-◌, ◌%◌, ◌<◌, ◌≤◌, Bool, true, false, ◌&&◌, List, []}
use Rattle.std.proofs.Common.{◌∷◌, ◌++◌, length, take, map, flat_map, refl, sym, ap, ◌∙◌, subst, arith, get_or}
use Rattle.std.proofs.Common.{length-append}
use Rattle.std.specs.Prelude.{nat_le}
use Rattle.std.specs.List.{Contains}
use Rattle.std.proofs.lemmas.Bool.Decides.{nat_tests}
use Rattle.std.proofs.lemmas.List.{take_all, take_more, length-take-le}
use Rattle.std.proofs.lemmas.List.Elements.{Contains-append_cases}
use Rattle.csn_cert.specs.declared.pattern.Mark.{Mark}
use Rattle.csn_cert.specs.PatternV.{PatternV}
use Rattle.csn_certmake.specs.Patterns.{joined, continued, patterns_in, HasSame}
use Rattle.csn_certmake.specs.Behind.{cut_to, continued_by, HaveFewMarks, HasSize, AreBehindSize, AreBehind}
use Rattle.csn_certmake.proofs.Shortening.{joined_is}
use Rattle.csn_certmake.proofs.Rows.{one_more}
use Rattle.csn_certmake.proofs.Members.{from_flat, to_flat, map_same}

-- ---- patterns cut to the room behind another

pub cut_joins : (first rest : PatternV) (room : ℕ) → length first.marks ≤ 12 → room ≡ 12 - length first.marks
    → joined first (cut_to room rest) ≡ joined first rest
cut_joins first rest room few is_room = by_test (nat_le (length rest.marks) room) refl
  where
    never : (b : Bool) → false ≡ (b && false)
    never true = refl
    never false = refl

    by_test : (test : Bool) → nat_le (length rest.marks) room ≡ test → joined first (cut_to room rest) ≡ joined first rest
    by_test true low = rw low refl
    by_test false low =
        let big : room < length rest.marks = grind (arith, nat_tests, low) in
        let cut : PatternV = record { marks = take room rest.marks; whole = false } in
        let size : length cut.marks ≡ room = length-take-le room rest.marks (omega (arith, big)) in
        let own : take room cut.marks ≡ cut.marks = take_all room cut.marks (omega (arith, size)) in
        rw low (
        sym (joined_is first cut room room false few is_room (omega (arith, size)) refl)
        ∙ ap (λ (m : List Mark). record { marks = first.marks ++ m; whole = false }) own
        ∙ joined_is first rest room room false few is_room (omega (arith, big)) (never rest.whole ∙ ap (λ b. rest.whole && b) (sym low))
        )

maps_cut : (first : PatternV) (room : ℕ) (rests : List PatternV)
    → length first.marks ≤ 12 → room ≡ 12 - length first.marks → map (joined first) (map (cut_to room) rests) ≡ map
    (joined first) rests
maps_cut first room [] few is_room = refl
maps_cut first room (rest ∷ rests) few is_room =
    ap (λ p. p ∷ map (joined first) (map (cut_to room) rests)) (cut_joins first rest room few is_room)
    ∙ ap (λ l. joined first rest ∷ l) (maps_cut first room rests few is_room)

-- ---- what first patterns make

by_size_same : (firsts : List PatternV) (octet : ℕ) (rests behind : List (List PatternV)) (first : PatternV)
    → AreBehind firsts octet rests behind → Contains firsts first → length first.marks ≤ 12
    → HasSame (continued_by behind first) (continued rests octet first)
by_size_same firsts octet rests behind first are there few = by_whole first.whole refl
  where
    by_whole : (b : Bool) → first.whole ≡ b → HasSame (continued_by behind first) (continued rests octet first)
    by_whole false is = rw is (λ p. (λ h. h, λ h. h))
    by_whole true is =
        let size : ℕ = length first.marks in
        let own : List PatternV = patterns_in rests ((octet + size) % 8) in
        let cut : List PatternV = map (cut_to (12 - size)) own in
        let same = map_same (joined first) (patterns_in behind size) cut (are.each size few (record { pattern = first; there = there; marks = refl })) in
        rw is (subst (λ (l : List PatternV). HasSame (map (joined first) (patterns_in behind size)) l) (maps_cut first (12 - size) own few refl) same)

pub all_same : (firsts : List PatternV) (octet : ℕ) (rests behind : List (List PatternV))
    → AreBehind firsts octet rests behind → HaveFewMarks firsts → HasSame (flat_map (continued_by behind) firsts)
    (flat_map (continued rests octet) firsts)
all_same firsts octet rests behind are few p = (
  λ h. let found = from_flat (continued_by behind) firsts p h in
      to_flat (continued rests octet) firsts found.1.0 found.0 p found.1.1 found.1.2
      ((by_size_same firsts octet rests behind found.0 are found.1 (few found.0 found.1) p).0 found.2),
  λ h. let found = from_flat (continued rests octet) firsts p h in
      to_flat (continued_by behind) firsts found.1.0 found.0 p found.1.1 found.1.2
      ((by_size_same firsts octet rests behind found.0 are found.1 (few found.0 found.1) p).1 found.2),
)

-- ---- lists that are gone through

only_one : (x p : PatternV) → Contains (x ∷ []) p → x ≡ p
only_one x p (zero, low, is) = is
only_one x p (suc k, low, is) = absurd (omega arith)

pub none_few : (patterns : List PatternV) → HaveFewMarks (take 0 patterns)
none_few patterns p h = absurd (omega (arith, h.1))

pub next_few : (patterns : List PatternV) (k : ℕ) (x : PatternV) → k < length patterns → x ≡ get_or patterns k x
    → length x.marks ≤ 12 → HaveFewMarks (take k patterns) → HaveFewMarks (take (k + 1) patterns)
next_few patterns k x low is few before =
    subst (λ (l : List PatternV). HaveFewMarks l) (sym (take_more patterns k x low ∙ ap (λ y. take k patterns ++ y ∷ []) (sym is))) (λ p h.
    elim (Contains-append_cases (take k patterns) (x ∷ []) p h) [
      | inl there ↦ before p there
      | inr last ↦ subst (λ (q : PatternV). length q.marks ≤ 12) (only_one x p last) few
    ])

pub none_sized : (patterns : List PatternV) (size : ℕ) → HasSize (take 0 patterns) size → ⊥
none_sized patterns size h = absurd (omega (arith, h.there.1))

pub next_sized : (patterns : List PatternV) (k size : ℕ) (x : PatternV)
    → k < length patterns → x ≡ get_or patterns k x → (length x.marks ≡ size → ⊥)
    → (HasSize (take k patterns) size → ⊥) → HasSize (take (k + 1) patterns) size → ⊥
next_sized patterns k size x low is other before =
    subst (λ (l : List PatternV). HasSize l size → ⊥) (sym (take_more patterns k x low ∙ ap (λ y. take k patterns ++ y ∷ []) (sym is))) (λ h.
    elim (Contains-append_cases (take k patterns) (x ∷ []) h.pattern h.there) [
      | inl there ↦ before (record { pattern = h.pattern; there = there; marks = h.marks })
      | inr last ↦ other (ap (λ (q : PatternV). length q.marks) (only_one x h.pattern last) ∙ h.marks)
    ])

pub sized_here : (patterns : List PatternV) (k size : ℕ) (x : PatternV)
    → k < length patterns → x ≡ get_or patterns k x → length x.marks ≡ size → HasSize patterns size
sized_here patterns k size x low is marks = record { pattern = x; there = (k, low, sym is); marks = marks }

-- ---- for each number of marks

pub record BehindTo (first : List PatternV) (octet : ℕ) (rests behind : List (List PatternV)) (n : ℕ) : Type 0 where
  pub sizes : length behind ≡ n
  pub each : (size : ℕ) → size < n → AreBehindSize first size (patterns_in rests ((octet + size) % 8)) (patterns_in behind size)

pub behind_none : (first : List PatternV) (octet : ℕ) (rests : List (List PatternV)) → BehindTo first octet rests [] 0
behind_none first octet rests = record { sizes = refl; each = λ size low. absurd (omega arith) }

pub behind_more : (first : List PatternV) (octet : ℕ) (rests behind new : List (List PatternV)) (n : ℕ)
    (own patterns : List PatternV) → BehindTo first octet rests behind n → patterns_in rests ((octet + n) % 8) ≡ own
    → AreBehindSize first n own patterns → new ≡ behind ++ patterns ∷ [] → BehindTo first octet rests new (n + 1)
behind_more first octet rests behind new n own patterns to is here pushed =
    subst (λ (l : List (List PatternV)). BehindTo first octet rests l (n + 1)) (sym pushed) (record {
      sizes = length-append behind (patterns ∷ []) ∙ ap (λ k. k + 1) to.sizes;
      each = one_more (λ s l. AreBehindSize first s (patterns_in rests ((octet + s) % 8)) l)
          behind patterns n to.sizes to.each (subst (λ (l : List PatternV). AreBehindSize first n l patterns) (sym is)
          here);
    })

pub behind_all : (first : List PatternV) (octet : ℕ) (rests behind : List (List PatternV)) (n : ℕ)
    → n ≡ 13 → BehindTo first octet rests behind n → AreBehind first octet rests behind
behind_all first octet rests behind n is to =
    record {
      sizes = to.sizes ∙ is;
      each = λ size low. to.each size (omega arith);
    }
