-- Labelled items that are seen, with what stands behind their labels and with their nodes: the nodes are among
-- those that are shown, and where a count may stand on the item, its node is a field of 1 to 16 bits.
use Rattle.std.proofs.Common.{◌≡◌, ℕ, zero, suc, ◌*◌, ◌≤◌, Bool, true, false, nat_lt, ltb-false, List, [], ◌∷◌, refl}
use Rattle.std.proofs.Common.{sym, ◌∙◌, ap, subst, arith, Option, Some, None, Contains}
use Rattle.std.specs.Prelude.{slice_get, if◌then◌else◌, ◌==◌, IsSomeAnd}
use Rattle.std.specs.Option.{option_map, option_or, option_and_then}
use Rattle.std.proofs.lemmas.Bool.{or_parts}
use Rattle.csn_desc.specs.declared.reading.Reading.{Reading}
use Rattle.csn_desc.specs.declared.node.Count.{Count}
use Rattle.csn_desc.specs.declared.node.Count.TheVariants.{Counted}
use Rattle.csn_desc.specs.declared.node.Node.{Node}
use Rattle.csn_desc.specs.declared.node.Node.TheVariants.{Named}
use Rattle.csn_desc.specs.Values.{is_labelled, is_named}
use Rattle.csn_desc.specs.Formed.{IsCount, width_of, labelled_part, value_width, with_seen}
use Rattle.csn_desc.specs.Laid.{seen_behind}
use Rattle.csn_grammar.specs.declared.exponent.Exponent.{Exponent}
use Rattle.csn_grammar.specs.declared.exponent.Exponent.TheVariants.{Number, Linear}
use Rattle.csn_grammar.specs.ExprV.{ExprV}
use Rattle.csn_grammar.specs.RulesV.{RulesV}
use Rattle.csn_grammar.specs.Names.{same_name}
use Rattle.csn_grammar.specs.Environment.{label_of}
use Rattle.csn_resolve.specs.declared.why.Why.{Why}
use Rattle.csn_resolve.specs.declared.why.Why.TheVariants.{ZeroCount, CountTooLarge}
use Rattle.csn_resolve.specs.Seen.{Frame, Seen, seen_in, seen_of, with_labelled, inner_of}
use Rattle.csn_resolve.specs.Counts.{Narrow, CountSteps, size_steps, is_zero, is_too_large, count_number, count_unknown, count_wide, count_narrow}
use Rattle.csn_resolve.specs.Steps.{Step, refused_if}
use Rattle.csn_resolve.specs.Gives.{Placed, placed, count_at, Gives}
use Rattle.csn_resolve.proofs.Walking.Quiet.{Quiet, quiet_along, first_of, rest_of}
use Rattle.csn_resolve.proofs.Laying.Holding.{Holds, holds_along}
use Rattle.csn_resolve.proofs.Naming.LabelledFacts.{IsShort, narrow_short, item_labelled}

-- all numbers of the one list are in the other
abbrev pub AreAmong : List ℕ → List ℕ → Type 0
AreAmong some all = (i : ℕ) → Contains some i → Contains all i

pub not_refused : (b : Bool) (why : Why) (place : ℕ) → Quiet (refused_if b why place) → b ≡ false
not_refused true why place q = absurd q
not_refused false why place q = refl

-- numbers that are not refused
sizes_of :
    (k : Exponent) (place : ℕ) {steps : List Step}
    → steps ≡ size_steps k place → Quiet steps → (is_zero k ≡ false) × (is_too_large k ≡ false)
sizes_of k place p q =
    let zeros = refused_if (is_zero k) ZeroCount place in
    let larges = refused_if (is_too_large k) CountTooLarge place in (
      not_refused (is_zero k) ZeroCount place (first_of zeros larges p q),
      not_refused (is_too_large k) CountTooLarge place (rest_of zeros larges p q),
    )

not_zero : (n : ℕ) → (n == 0) ≡ false → 1 ≤ n
not_zero zero p = absurd (cc)
not_zero (suc n) p = omega arith

module _ (all : List Node) where
  -- what is shown is shown behind a part too
  pub still_shown : (at : ℕ) (shown : List ℕ) → AreAmong shown (with_seen all true at shown)
  still_shown at shown = by_test (is_named all at)
    where
      by_test : (b : Bool) → AreAmong shown (if b then at ∷ shown else shown)
      by_test true i h = (suc h.0, omega (arith, h.1), h.2)
      by_test false i h = h

  pub behind_shown : (parts shown : List ℕ) → AreAmong shown (seen_behind all true parts shown)
  behind_shown [] shown i h = h
  behind_shown (at ∷ parts) shown i h = behind_shown parts (with_seen all true at shown) i (still_shown at shown i h)

  newly_shown : (at : ℕ) (shown : List ℕ) → is_named all at ≡ true → Contains (with_seen all true at shown) at
  newly_shown at shown named =
      let P : Bool → Type 0 = λ b. Contains (if b then at ∷ shown else shown) at in
      subst P (sym named) (0, omega arith, refl)

  -- the node is a labelled part, whose part is a field of 1 to 16 bits
  abbrev IsCounting : ℕ → Type 0
  IsCounting i = IsSomeAnd (value_width all i) (λ width. (1 ≤ width) × (width ≤ 16))

  is_counting :
      (at place : ℕ) (label : List ℕ) {nodes inner : List Placed}
      → nodes ≡ placed (Named label (suc at)) place ∷ inner → Holds all at nodes → IsShort inner → IsCounting at
  is_counting at place label p h short =
      let here = holds_along all at p h in
      let field = holds_along all (suc at) short.is here.1 in
      let width : value_width all at ≡ Some (short.unit * short.count) =
      ap (λ o. option_and_then (λ part. width_of (slice_get all part)) (labelled_part o)) here.0 ∙ ap width_of field.0 in
      let P : Option ℕ → Type 0 = λ o. IsSomeAnd o (λ width. (1 ≤ width) × (width ≤ 16)) in
      subst P (sym width) (short.some, short.few)

  module _ (rules : RulesV) (r : Reading) where
    abbrev IsShown : List ℕ → ExprV → ℕ → Type 0
    IsShown shown x i = Contains shown i × (Narrow rules r x → IsCounting i)

    abbrev pub FrameShown : List ℕ → Frame ExprV → Frame ℕ → Type 0
    FrameShown shown [] [] = Unit {0}
    FrameShown shown (x ∷ frame) (i ∷ other) = (x.0 ≡ i.0) × IsShown shown x.1 i.1 × FrameShown shown frame other
    FrameShown shown _ _ = ⊥

    abbrev pub SeenShown : List ℕ → Seen ExprV → Seen ℕ → Type 0
    SeenShown shown [] [] = Unit {0}
    SeenShown shown (frame ∷ seen) (other ∷ others) = FrameShown shown frame other × SeenShown shown seen others
    SeenShown shown _ _ = ⊥

    -- ---- where more is shown

    frame_wider :
        (shown wider : List ℕ) (frame : Frame ExprV) (other : Frame ℕ)
        → AreAmong shown wider → FrameShown shown frame other → FrameShown wider frame other
    frame_wider shown wider [] [] more h = tt
    frame_wider shown wider (x ∷ frame) (i ∷ other) more h =
        (h.0, (more i.1 h.1.0, h.1.1), frame_wider shown wider frame other more h.2)
    frame_wider shown wider [] (i ∷ other) more h = absurd h
    frame_wider shown wider (x ∷ frame) [] more h = absurd h

    pub seen_wider :
        (shown wider : List ℕ) (seen : Seen ExprV) (others : Seen ℕ)
        → AreAmong shown wider → SeenShown shown seen others → SeenShown wider seen others
    seen_wider shown wider [] [] more h = tt
    seen_wider shown wider (frame ∷ seen) (other ∷ others) more h =
        (frame_wider shown wider frame other more h.0, seen_wider shown wider seen others more h.1)
    seen_wider shown wider [] (other ∷ others) more h = absurd h
    seen_wider shown wider (frame ∷ seen) [] more h = absurd h

    -- an item more of a sequence or truncation
    pub item_shown :
        (x : ExprV) (at : ℕ) (shown : List ℕ) (frame : Frame ExprV) (other : Frame ℕ) {seen : Seen ℕ} {nodes : List Placed}
        → Gives rules r x at seen nodes → Holds all at nodes → FrameShown shown frame other
        → FrameShown (with_seen all true at shown) (with_labelled (label_of r x) (inner_of r x) frame)
        (with_labelled (label_of r x) at other)
    item_shown x at shown frame other given h same = by_label (label_of r x) refl
      where
        wider : FrameShown (with_seen all true at shown) frame other
        wider = frame_wider shown (with_seen all true at shown) frame other (still_shown at shown) same

        by_label :
            (o : Option (List ℕ)) → label_of r x ≡ o
            → FrameShown (with_seen all true at shown) (with_labelled o (inner_of r x) frame) (with_labelled o at other)
        by_label None has = wider
        by_label (Some label) has =
            let labelled = item_labelled rules r label has given in
            let here = holds_along all at labelled.is h in (
              refl,
              (
                newly_shown at shown (ap is_labelled here.0),
                λ narrow. is_counting at labelled.place labelled.label labelled.is h (narrow_short rules r narrow labelled.given),
              ),
              wider,
            )

    -- ---- the item that a label stands on

    abbrev BothShown : List ℕ → Option ExprV → Option ℕ → Type 0
    BothShown shown None None = Unit {0}
    BothShown shown (Some x) (Some i) = IsShown shown x i
    BothShown shown _ _ = ⊥

    either_shown :
        (shown : List ℕ) (a s : Option ExprV) (b t : Option ℕ)
        → BothShown shown a b → BothShown shown s t → BothShown shown (option_or a s) (option_or b t)
    either_shown shown (Some x) s (Some i) t first later = first
    either_shown shown None s None t first later = later
    either_shown shown (Some x) s None t first later = absurd first
    either_shown shown None s (Some i) t first later = absurd first

    picked_shown :
        (shown : List ℕ) (b c : Bool) (x : ExprV) (i : ℕ) (s : Option ExprV) (t : Option ℕ)
        → b ≡ c → IsShown shown x i → BothShown shown s t
        → BothShown shown (if b then Some x else s) (if c then Some i else t)
    picked_shown shown true true x i s t p here later = here
    picked_shown shown false false x i s t p here later = later
    picked_shown shown true false x i s t p here later = absurd (cc)
    picked_shown shown false true x i s t p here later = absurd (cc)

    found_in :
        (shown label : List ℕ) (frame : Frame ExprV) (other : Frame ℕ)
        → FrameShown shown frame other → BothShown shown (seen_in frame label) (seen_in other label)
    found_in shown label [] [] h = tt
    found_in shown label (x ∷ frame) (i ∷ other) h =
        picked_shown shown (same_name x.0 label) (same_name i.0 label) x.1 i.1 (seen_in frame label) (seen_in other label)
        (ap (λ l. same_name l label) h.0) h.1 (found_in shown label frame other h.2)
    found_in shown label [] (i ∷ other) h = absurd h
    found_in shown label (x ∷ frame) [] h = absurd h

    found_shown :
        (shown label : List ℕ) (seen : Seen ExprV) (others : Seen ℕ)
        → SeenShown shown seen others → BothShown shown (seen_of seen label) (seen_of others label)
    found_shown shown label [] [] h = tt
    found_shown shown label (frame ∷ seen) (other ∷ others) h =
        either_shown shown (seen_in frame label) (seen_of seen label) (seen_in other label) (seen_of others label)
        (found_in shown label frame other h.0) (found_shown shown label seen others h.1)
    found_shown shown label [] (other ∷ others) h = absurd h
    found_shown shown label (frame ∷ seen) [] h = absurd h

    -- ---- counts

    abbrev CountShown : List ℕ → Option Count → Type 0
    CountShown shown None = Unit {0}
    CountShown shown (Some count) = IsCount all shown count

    linear_shown :
        (shown : List ℕ) (m c : ℕ) (x : ExprV) (s : Option ExprV) (t : Option ℕ)
        → BothShown shown s t → s ≡ Some x → Narrow rules r x → 1 ≤ m → c ≤ 65535
        → CountShown shown (option_map (λ field. Counted m field c) t)
    linear_shown shown m c x None None h is narrow some few = tt
    linear_shown shown m c x (Some y) (Some i) h is narrow some few =
        let P : ExprV → Type 0 = λ z. Narrow rules r z in
        (some, few, h.0, h.1 (subst P (some_is is) narrow))
      where
        some_is : Some y ≡ Some x → x ≡ y
        some_is p = cc
    linear_shown shown m c x (Some y) None h is narrow some few = absurd h
    linear_shown shown m c x None (Some i) h is narrow some few = absurd h

    given_shown :
        (shown : List ℕ) (others : Seen ℕ) {seen : Seen ExprV} {place : ℕ} {k : Exponent} {steps : List Step}
        → SeenShown shown seen others → CountSteps rules r seen place k steps → Quiet steps
        → CountShown shown (count_at others k)
    given_shown shown others {place = place} same (count_number {n = n} p) q =
        let sizes = sizes_of (Number n) place p q in (not_zero n sizes.0, ltb-false 65536 n sizes.1)
    given_shown shown others same (count_unknown none p) q = absurd (quiet_along p q)
    given_shown shown others same (count_wide x is wide p) q = absurd (quiet_along p q)
    given_shown shown others {seen = seen} {place = place} same (count_narrow {m = m} {c = c} {label = label} x is narrow p) q =
        let sizes = sizes_of (Linear m label c) place p q in
        linear_shown shown m c x (seen_of seen label) (seen_of others label) (found_shown shown label seen others same) is narrow
        (not_zero m sizes.0) (ltb-false 65535 c ((or_parts (nat_lt 255 m) (nat_lt 65535 c) sizes.1).1))

    -- a number exponent that is not refused is a count
    pub count_shown :
        (shown : List ℕ) (others : Seen ℕ) {seen : Seen ExprV} {place : ℕ} {k : Exponent} {steps : List Step} {count : Count}
        → SeenShown shown seen others → CountSteps rules r seen place k steps → Quiet steps
        → count_at others k ≡ Some count → IsCount all shown count
    count_shown shown others same steps quiet given =
        let P : Option Count → Type 0 = λ o. CountShown shown o in subst P given (given_shown shown others same steps quiet)
