-- The bodies that wait behind one more segment.
use Rattle.std.proofs.Common.{◌≡◌, ◌≢◌, ℕ, zero, suc, ◌<◌, ◌==◌, ◌&&◌, Bool, true, false, cond, eqb-true, eq-eqb}
use Rattle.std.proofs.Common.{List, [], ◌∷◌, ◌++◌, map, length, set, get_or, take, drop, ◌-◌, slice_get, option_map}
use Rattle.std.proofs.Common.{option_and_then, Option, Some, None, refl, sym, ap, ◌∙◌, arith}
use Rattle.std.proofs.lemmas.Bool.{eqb-false}
use Rattle.std.proofs.lemmas.List.{map-set, length-map, length-drop, take_all}
use Rattle.std.proofs.lemmas.Option.{slice_get-map, slice_get_within, slice_get-get_or, same_Some}
use Rattle.std.specs.Array.{AllOfLen}
use Rattle.arrayvec.specs.ArrayVec.{ArrayVec}
use Rattle.csn_segment.specs.declared.header.PayloadType.TheVariants.{SegmentedControl}
use Rattle.csn_segment.specs.declared.header.Segment.{Segment}
use Rattle.csn_segment.specs.declared.header.Segment.TheVariants.{Only, First, Second, NotFinal}
use Rattle.csn_segment.specs.declared.joined.Joined.TheVariants.{Refused}
use Rattle.csn_segment.specs.declared.joined.SegmentWhy.{SegmentWhy}
use Rattle.csn_segment.specs.Header.{block_octets, transactions, payload_type_of, segment_of, rti_of, body_of}
use Rattle.csn_segment.specs.Joining.{carries_segment, counts, is_segment_of, last_segment, body_of_first, waiting, answer_to_segment, JoinsFor}
use Rattle.csn_segment.specs.Kept.{kept_after}
use Rattle.csn_segment.proofs.Lasts.{last-append}

-- a body as clauses see it
abbrev pub octets_of : Option (ArrayVec ℕ) → Option (List ℕ)
octets_of = option_map (λ body. body.items)

-- what was written at a place, and what stands at another one
get-set_same : {X : Type 0} (xs : List X) (i : ℕ) (x : X) → i < length xs → slice_get (set xs i x) i ≡ Some x
get-set_same [] i x below = absurd (omega (arith, below))
get-set_same (y ∷ ys) zero x below = refl
get-set_same (y ∷ ys) (suc i) x below = get-set_same ys i x (omega (arith, below))

get-set_other : {X : Type 0} (xs : List X) (i j : ℕ) (x : X) → j ≢ i → slice_get (set xs i x) j ≡ slice_get xs j
get-set_other [] i j x other = refl
get-set_other (y ∷ ys) zero zero x other = absurd (other refl)
get-set_other (y ∷ ys) zero (suc j) x other = refl
get-set_other (y ∷ ys) (suc i) zero x other = refl
get-set_other (y ∷ ys) (suc i) (suc j) x other = get-set_other ys i j x (λ e. other (ap suc e))

-- nothing waits where there are no blocks
pub joins_none : (bodies : List (Option (ArrayVec ℕ))) → AllOfLen (λ body. body ≡ None) bodies transactions → JoinsFor (map octets_of bodies) []
joins_none bodies none =
    record {
      waits = λ rti below.
          slice_get-map octets_of bodies rti
          ∙ ap (option_map octets_of) (slice_get-get_or bodies rti None (omega (arith, none.long)) ∙ ap Some (none.at rti None below));
    }

module _ (blocks : List (List ℕ)) (block : List ℕ) where
  -- a segment that counts decides what waits in its transaction
  counted : (rti : ℕ) → is_segment_of rti block ≡ true → waiting (blocks ++ block ∷ []) rti ≡ body_of_first (segment_of block) (body_of block)
  counted rti is =
      ap (option_and_then (λ b. body_of_first (segment_of b) (body_of b)))
      (last-append (is_segment_of rti) blocks block ∙ ap (λ b. cond b (Some block) (last_segment blocks rti)) is)

  -- a block that is no segment of a transaction leaves alone what waits in it
  passed_over : (rti : ℕ) → is_segment_of rti block ≡ false → waiting (blocks ++ block ∷ []) rti ≡ waiting blocks rti
  passed_over rti is =
      ap (option_and_then (λ b. body_of_first (segment_of b) (body_of b)))
      (last-append (is_segment_of rti) blocks block ∙ ap (λ b. cond b (Some block) (last_segment blocks rti)) is)

  module _ (long : length block ≡ block_octets) (kind : payload_type_of block ≡ SegmentedControl) where
    is_segment : (rti : ℕ) → is_segment_of rti block ≡ (rti_of block == rti) && counts (segment_of block)
    is_segment rti =
        ap (λ n. (n == block_octets) && carries_segment (payload_type_of block) && (rti_of block == rti) && counts (segment_of block)) long
        ∙ ap (λ k. carries_segment k && (rti_of block == rti) && counts (segment_of block)) kind

    is_counted : (s : Segment) → segment_of block ≡ s → is_segment_of (rti_of block) block ≡ counts s
    is_counted s e =
        is_segment (rti_of block) ∙ ap (λ b. b && counts (segment_of block)) (eq-eqb (rti_of block) (rti_of block) refl) ∙ ap counts e

    -- in its own transaction
    waits_own : (s : Segment) → segment_of block ≡ s → waiting (blocks ++ block ∷ []) (rti_of block) ≡ kept_after s
        (waiting blocks (rti_of block)) (body_of block)
    waits_own Only e = counted (rti_of block) (is_counted Only e) ∙ ap (λ s. body_of_first s (body_of block)) e
    waits_own First e = counted (rti_of block) (is_counted First e) ∙ ap (λ s. body_of_first s (body_of block)) e
    waits_own Second e = counted (rti_of block) (is_counted Second e) ∙ ap (λ s. body_of_first s (body_of block)) e
    waits_own NotFinal e = passed_over (rti_of block) (is_counted NotFinal e)

    -- and in another one
    waits_other : (rti : ℕ) → (rti_of block == rti) ≡ false → waiting (blocks ++ block ∷ []) rti ≡ waiting blocks rti
    waits_other rti other =
        passed_over rti (is_segment rti ∙ ap (λ b. b && counts (segment_of block)) other)

    -- the joiner stands for one block more
    pub joins_after : (bodies : List (Option (ArrayVec ℕ))) (i : ℕ) (new any : Option (ArrayVec ℕ)) → i ≡ rti_of block → i < transactions
        → octets_of new ≡ kept_after (segment_of block) (octets_of (get_or bodies i any)) (body_of block)
        → JoinsFor (map octets_of bodies) blocks → JoinsFor (map octets_of (set bodies i new)) (blocks ++ block ∷ [])
    joins_after bodies i new any is small new_is joins =
        record { waits = λ rti below. at rti below (rti_of block == rti) refl }
      where
        within : i < length bodies
        within = omega (arith, slice_get_within (map octets_of bodies) i (waiting blocks i) (joins.waits i small), length-map bodies octets_of)

        old_waits : octets_of (get_or bodies i any) ≡ waiting blocks i
        old_waits =
            same_Some _ _
            (sym (slice_get-map octets_of bodies i ∙ ap (option_map octets_of) (slice_get-get_or bodies i any within))
            ∙ joins.waits i small)

        new_waits : octets_of new ≡ waiting (blocks ++ block ∷ []) i
        new_waits =
            new_is ∙ ap (λ o. kept_after (segment_of block) o (body_of block)) old_waits
            ∙ ap (λ rti. kept_after (segment_of block) (waiting blocks rti) (body_of block)) is
            ∙ sym (waits_own (segment_of block) refl)
            ∙ ap (waiting (blocks ++ block ∷ [])) (sym is)

        at : (rti : ℕ) → rti < transactions → (b : Bool)
            → (rti_of block == rti) ≡ b → slice_get (map octets_of (set bodies i new)) rti ≡ Some
            (waiting (blocks ++ block ∷ []) rti)
        at rti below true same =
            let here : i ≡ rti = is ∙ eqb-true (rti_of block) rti same in
            ap (slice_get (map octets_of (set bodies i new))) (sym here)
            ∙ ap (λ l. slice_get l i) (map-set octets_of bodies i new)
            ∙ get-set_same (map octets_of bodies) i (octets_of new) (omega (arith, within, length-map bodies octets_of))
            ∙ ap Some new_waits
            ∙ ap (λ r. Some (waiting (blocks ++ block ∷ []) r)) here
        at rti below false other =
            ap (λ l. slice_get l rti) (map-set octets_of bodies i new)
            ∙ get-set_other (map octets_of bodies) i rti (octets_of new) (λ e. eqb-false (rti_of block) rti other (sym is ∙ sym e))
            ∙ joins.waits rti below
            ∙ ap Some (sym (waits_other rti other))

-- a refused segment leaves what waits as it is
pub refused_keeps : (segment : Segment) (rti : ℕ) (first : Option (List ℕ)) (body : List ℕ) (reason : SegmentWhy)
    → answer_to_segment segment rti first body ≡ Refused reason → kept_after segment first body ≡ first
refused_keeps Only rti first body reason e = cc
refused_keeps First rti first body reason e = cc
refused_keeps NotFinal rti first body reason e = refl
refused_keeps Second rti (Some first) body reason e = cc
refused_keeps Second rti None body reason e = refl

-- the octets behind the header
pub rest_is : (n : ℕ) (octets : List ℕ) → take (length octets - n) (drop n octets) ≡ drop n octets
rest_is n octets = take_all (length octets - n) (drop n octets) (omega (arith, length-drop n octets))
