-- Truncations: a component is read where a bit is at hand, and behind the last one nothing is left.
use Rattle.std.proofs.Common.{◌≡◌, ℕ, suc, ◌+◌, ◌-◌, ◌%◌, ◌<◌, ◌⊎◌, inl, inr, List, [], ◌∷◌, ◌++◌, length, take, refl}
use Rattle.std.proofs.Common.{sym, ◌∙◌, ap, subst, arith, append_assoc, append-nil, length-append, Option, Some}
use Rattle.std.proofs.Common.{slice_get}
use Rattle.csn_desc.specs.declared.moves.Move.{Move}
use Rattle.csn_desc.specs.declared.moves.Move.TheVariants.{Leave}
use Rattle.csn_desc.specs.declared.node.Node.TheVariants.{Trunc}
use Rattle.csn_desc.specs.TreeV.{TreeV, Trees}
use Rattle.csn_desc.specs.TreeV as tree
use Rattle.csn_desc.specs.Nodes.{DescV}
use Rattle.csn_desc.specs.Values.{Values, with_value}
use Rattle.csn_desc.specs.Means.{NMeans, LeadMean, lead_last, lead_next}
use Rattle.csn_desc.specs.Follows.{NFollow, PartsFollow, parts_here, parts_later}
use Rattle.csn_desc.specs.Walks.{bits_of, Walk, LeadWalk}
use Rattle.csn_desc.specs.Walks as walk
use Rattle.csn_desc.specs.Formed.{IsDescription}
use Rattle.csn_look.specs.Ends.{PartsEnd}
use Rattle.csn_look.specs.Reached.{MayStandBehind}
use Rattle.csn_certify.specs.Conflicts.{Certified}
use Rattle.csn_judge.specs.Left.{Left, all_left, none_left, cut_left, lead_left, behind, Completes, completes_all}
use Rattle.csn_judge.specs.Left.{completes_none, completes_cut, completes_lead, completes_cut_behind}
use Rattle.csn_judge.specs.Left.{completes_lead_behind, Begins, begins_whole, begins_all, begins_cut, begins_lead}
use Rattle.csn_judge.specs.Left.{begins_lead_none}
use Rattle.csn_judge.specs.Remains.{IsUpTo, Within, Rest, rest_next, Goes, goes_next, goes_here, Steps}
use Rattle.csn_judge.specs.Inside.{IsReady, Inside}
use Rattle.csn_judge.proofs.StepFacts.{rest_from, goes_from, Both, takes_all, BeginsBoth, begins_inner, begins_left}
use Rattle.csn_judge.proofs.StepFacts.{BothGone, gone_here, gone_on, both_gone, both_go, Alike, both_rest, both_goes}
use Rattle.csn_judge.proofs.StepFacts.{rest_both, steps_quietly}
use Rattle.csn_judge.proofs.Parts.{Moving, walk_takes, follow_whole, followed_all, ended, later_on, later_off, walk_on, walk_off, part_apart}
use Rattle.csn_judge.proofs.Standing.{rest_stands, goes_stands, truncation_width}
use Rattle.csn_judge.proofs.LookAhead.{Against, beyond, before, against_of, within_less}
use Rattle.csn_judge.specs.Known.{Known}

module _ (d : DescV) (laws : Moving) where
  -- the components of which the first is j have some bits
  pub record LeadTold (j : ℕ) (ps : List ℕ) (v : Values) (done b : List ℕ) (moves : List Move) : Type 0 where
    pub trees : Trees
    pub inside : List Move
    pub means : LeadMean d (j ∷ ps) (length done) v b trees
    pub walks : LeadWalk d (j ∷ ps) (length done) trees inside
    pub leave : moves ≡ inside ++ Leave ∷ []

  pub lead_apart : (j : ℕ) (ps : List ℕ) (v : Values) (done : List ℕ) {b : List ℕ} {moves : List Move}
      → LeadTold j ps v done b moves → Both d (all_left j v) (lead_left j (length done) ps v) done b moves
  lead_apart j ps v done {b} {moves} told = by told.means told.walks refl
    where
      by : {ts us : Trees} → LeadMean d (j ∷ ps) (length done) v b ts → LeadWalk d (j ∷ ps) (length done)
          us told.inside → ts ≡ us → Both d (all_left j v) (lead_left j (length done) ps v) done b moves
      by means (walk.lead_end stays) e = absurd (no_trees means e)
        where
          no_trees : {ts : Trees} → LeadMean d (j ∷ ps) (length done) v b ts → ts ≡ tree.none → ⊥
          no_trees (lead_last has h) e = absurd (cc)
          no_trees (lead_next b1 b2 cut h others) e = absurd (cc)
      by (lead_last {t = t} has h) (walk.lead_next {t = u} {ts = us} first rest made w ws) e =
          let trees : t ≡ u = cc in
          let later : us ≡ tree.none = cc in
          let P : TreeV → Type 0 = λ x. NMeans d j (length done) v b x in
          let means = subst P trees h in
          let stays = nothing_more later ws in
          takes_all d b first (told.leave ∙ ap (λ l. l ++ Leave ∷ []) (made ∙ ap (λ l. first ++ l) stays ∙ append-nil first))
          (completes_all u means w) (completes_cut_behind (omega (arith, has, length-append done b)) refl refl)
        where
          nothing_more : {qs : List ℕ} {o : ℕ} {us : Trees} {rest : List Move} → us ≡ tree.none → LeadWalk d qs o us rest → rest ≡ []
          nothing_more e (walk.lead_end stays) = stays
          nothing_more e (walk.lead_next first rest made w ws) = absurd (cc)
      by (lead_next {t = t} {ts = ts} b1 b2 cut h others) (walk.lead_next {t = u} {ts = us} first rest made w ws) e =
          let trees : t ≡ u = cc in
          let later : ts ≡ us = cc in
          let Q : Trees → Type 0 = λ x. LeadMean d ps (length done + length b1) (with_value d.nodes j b1 v) b2 x in
          part_apart d laws rest cut h w trees told.leave made
          (λ takes. completes_lead_behind us (later_on d laws (λ o w. LeadMean d ps o w b2 us) j v done b1
          (subst Q later others)) (walk_on d laws (λ o. LeadWalk d ps o us rest) done b1 first takes ws) refl)

  pub lead_together : (j : ℕ) (ps : List ℕ) (v : Values) (done : List ℕ) {b : List ℕ} {moves : List Move}
      → Both d (all_left j v) (lead_left j (length done) ps v) done b moves → LeadTold j ps v done b moves
  lead_together j ps v done {b} {moves} both = by both.b1 both.b2 both.first both.others both.cut both.is both.inside both.outside
    where
      by : (b1 b2 : List ℕ) (first others : List Move) → b ≡ b1 ++ b2 → moves ≡ first ++ others
          → Completes d (all_left j v) done b1 first → Completes d (lead_left j (length done) ps v) (done ++ b1)
          b2 others → LeadTold j ps v done b moves
      by b1 b2 first others cut is (completes_all t h w) (completes_cut_behind has nothing leave) =
          let same : b1 ≡ b = sym (append-nil b1) ∙ ap (λ l. b1 ++ l) (sym nothing) ∙ sym cut in
          let P : List ℕ → Type 0 = λ l. NMeans d j (length done) v l t in
          let size = ap length same in
          record {
            trees = tree.more t tree.none;
            inside = first;
            means = lead_last (omega (arith, has, length-append done b1, size)) (subst P same h);
            walks = walk.lead_next first [] (sym (append-nil first)) w (walk.lead_end refl);
            leave = is ∙ ap (λ l. first ++ l) leave;
          }
      by b1 b2 first others cut is (completes_all t h w) (completes_lead_behind {inside = rest} ts means ws leave) =
          record {
            trees = tree.more t ts;
            inside = first ++ rest;
            means = lead_next b1 b2 cut h (later_off d laws (λ o w. LeadMean d ps o w b2 ts) j v done b1 means);
            walks = walk.lead_next first rest refl w (walk_off d laws (λ o. LeadWalk d ps o ts rest) done b1 first (walk_takes laws d h w) ws);
            leave = is ∙ ap (λ l. first ++ l) leave ∙ sym (append_assoc first rest (Leave ∷ []));
          }

  pub follow_apart : (j : ℕ) (ps : List ℕ) (v : Values) (done : List ℕ) {b : List ℕ}
      → PartsFollow d (j ∷ ps) (length done) v b → BeginsBoth d (all_left j v) (lead_left j (length done) ps v) done b
  follow_apart j ps v done (parts_here f) = begins_inner (begins_all f) tt
  follow_apart j ps v done (parts_later b1 b2 cut h rest) =
      let first = ended d laws h in
      begins_left b1 b2 first.moves cut (completes_all first.tree first.means first.walks)
      (begins_lead (later_on d laws (λ o w. PartsFollow d ps o w b2) j v done b1 rest)) tt

  pub whole_apart : (j : ℕ) (ps : List ℕ) (v : Values) (done : List ℕ) {b : List ℕ} {moves : List Move}
      → Both d (all_left j v) (lead_left j (length done) ps v) done b moves
      → BeginsBoth d (all_left j v) (lead_left j (length done) ps v) done b
  whole_apart j ps v done both = begins_left both.b1 both.b2 both.first both.cut both.inside (begins_whole both.others both.outside) tt

  pub data LeadBegun (j : ℕ) (ps : List ℕ) (v : Values) (done b : List ℕ) : Type 0 where
    lead_follow : PartsFollow d (j ∷ ps) (length done) v b → LeadBegun j ps v done b
    lead_whole : (moves : List Move) → LeadTold j ps v done b moves → LeadBegun j ps v done b

  pub follow_together : (j : ℕ) (ps : List ℕ) (v : Values) (done : List ℕ) {b : List ℕ}
      → BeginsBoth d (all_left j v) (lead_left j (length done) ps v) done b → LeadBegun j ps v done b
  follow_together j ps v done (begins_inner h up) = lead_follow (parts_here (followed_all d laws h))
  follow_together j ps v done {b} (begins_left b1 b2 first cut h rest up) = by h rest
    where
      by : Completes d (all_left j v) done b1 first → Begins d (lead_left j (length done) ps v) (done ++ b1) b2 → LeadBegun j ps v done b
      by (completes_all t means w) (begins_lead f) =
          lead_follow (parts_later b1 b2 cut means (later_off d laws (λ o w. PartsFollow d ps o w b2) j v done b1 f))
      by (completes_all t means w) (begins_lead_none nothing) =
          let same : b1 ≡ b = sym (append-nil b1) ∙ ap (λ l. b1 ++ l) (sym nothing) ∙ sym cut in
          let P : List ℕ → Type 0 = λ l. NMeans d j (length done) v l t in
          lead_follow (parts_here (follow_whole d laws (subst P same means)))
      by h (begins_whole others k) =
          lead_whole (first ++ others)
          (lead_together j ps v done (record {
            b1 = b1;
            b2 = b2;
            first = first;
            others = others;
            cut = cut;
            is =
                refl;
            inside = h;
            outside = k;
          }))

-- a bit is at hand for a truncation, of whose components some are read and others left
pub record AtHand (d : DescV) (k start : ℕ) (parts before after : List ℕ) (v0 : Values) (outer : List Left) (done : List ℕ) : Type 0 where
  pub at : slice_get d.nodes k ≡ Some (Trunc parts)
  pub split : parts ≡ before ++ after
  pub so_far : PartsEnd d before (start % 8) (length done % 8)
  pub ready : IsReady d k start (length outer) v0
  pub fresh : Option ℕ
  pub inner : Inside d fresh outer k start v0
  pub within : Within outer (suc (length done))

behind_none : (done : List ℕ) {b1 : List ℕ} → b1 ≡ [] → done ++ b1 ≡ done
behind_none done none = ap (λ l. done ++ l) none ∙ append-nil done

module _ (d : DescV) (most : ℕ) (is : IsDescription d) (certified : Certified d most) (moving : Moving) (known : Known d) where
  module _ {k start : ℕ} {parts before after : List ℕ} {v0 : Values} {outer : List Left} {done : List ℕ}
      (how : AtHand d k start parts before after v0 outer done) where
    -- the truncation does not end before the bit
    no_end : (bit : ℕ) (rest : List ℕ) → MayStandBehind d k (length done % 8) (take (suc (length done) - length done) (bit ∷ rest)) → ⊥
    no_end bit rest stands =
        let one : suc (length done) - length done ≡ 1 = omega arith in
        known.components d most k (start % 8) (length done % 8) bit parts before after certified how.at how.split
        how.ready.reached how.so_far (stands bit [] (ap (λ n. take n (bit ∷ rest)) one))

    -- of bits that end what is open, and of bits that can be followed
    pub rest_not_here : (bit : ℕ) {rest b2 : List ℕ} {others : List Move} → bit ∷ rest ≡ b2 → Rest d outer done b2 others → ⊥
    rest_not_here bit {rest} {b2} {others} e o =
        let P : List ℕ → Type 0 = λ l. Rest d outer done l others in
        no_end bit rest (rest_stands d is known (suc (length done)) how.inner (truncation_width d how.at) how.within (subst P (sym e) o))

    pub goes_not_here : (bit : ℕ) {rest b2 : List ℕ} → bit ∷ rest ≡ b2 → Goes d outer done b2 → ⊥
    goes_not_here bit {rest} {b2} e g =
        let P : List ℕ → Type 0 = λ l. Goes d outer done l in
        no_end bit rest (goes_stands d is known (suc (length done)) how.inner (truncation_width d how.at) how.within (subst P (sym e) g))

  -- ---- a component begins

  -- a form of a truncation whose next component is j
  record Opens (old : Left) (j : ℕ) (ps : List ℕ) (v : Values) (done : List ℕ) : Type 0 where
    pub told : (b : List ℕ) (moves : List Move) → Completes d old done b moves → (b ≡ []) ⊎ LeadTold d moving j ps v done b moves
    pub whole : (b : List ℕ) (moves : List Move) → LeadTold d moving j ps v done b moves → Completes d old done b moves
    pub begins : (b : List ℕ) → Begins d old done b → (b ≡ [])
        ⊎ (PartsFollow d (j ∷ ps) (length done) v b ⊎ ((moves : List Move) × LeadTold d moving j ps v done b moves))
    pub begun : (b : List ℕ) → PartsFollow d (j ∷ ps) (length done) v b → Begins d old done b
    pub up : (place : ℕ) → IsUpTo old place

  module _ {k start : ℕ} {parts earlier : List ℕ} {v0 : Values} {outer : List Left} {done : List ℕ} {old : Left}
      (j : ℕ) (ps : List ℕ) (v : Values) (how : AtHand d k start parts earlier (j ∷ ps) v0 outer done)
      (form : Opens old j ps v done) where
    component : (bit : ℕ) (more : List ℕ) → NFollow d j (length done) v []
        → Steps d (old ∷ outer) (all_left j v ∷ lead_left j (length done) ps v ∷ outer) done [] (bit ∷ more) []
    component bit more empty =
        steps_quietly d on
        (λ x rest g. rest_both d [] (λ b moves both. form.whole b moves (lead_together d moving j ps v done both))
        g) (λ b agrees g. forth b (against_of b (bit ∷ []) more agrees) g) (λ b agrees g. home b (both_gone d g))
      where
        on : (later : List ℕ) (rest : List Move) → Rest d (old ∷ outer) done ((bit ∷ more) ++ later) rest
            → Rest d (all_left j v ∷ lead_left j (length done) ps v ∷ outer) done ((bit ∷ more) ++ later) rest
        on later rest (rest_next b1 b2 first others cut made c o) =
            elim (form.told b1 first c) [
              | inl none ↦ absurd (rest_not_here how bit (cut ∙ ap (λ l. l ++ b2) none) (rest_from d (behind_none done none) o))
              | inr told ↦ both_rest d cut made (lead_apart d moving j ps v done told) o
            ]

        forth : (b : List ℕ) → Against b (bit ∷ []) → Goes d (old ∷ outer) done b → Goes d (all_left j v ∷ lead_left j (length done) ps v ∷ outer) done b
        forth [] against_it g = goes_here (begins_all empty) (tt, (tt, within_less outer _ _ (omega arith) how.within))
        forth (a ∷ b) (before r e longer_rest) g = absurd (omega (arith, ap length e, longer_rest, length-append b r))
        forth (a ∷ b) (beyond later e) (goes_here begun within) =
            elim (form.begins (a ∷ b) begun) [
              | inl none ↦ absurd (cc)
              | inr some ↦ elim some [
                | inl f ↦ both_go d outer (λ place. tt) (follow_apart d moving j ps v done f) within.1
                | inr told ↦ both_go d outer (λ place. tt) (whole_apart d moving j ps v done (lead_apart d moving j ps v done told.1)) within.1
              ]
            ]
        forth (a ∷ b) (beyond later e) (goes_next b1 b2 first cut c g) =
            elim (form.told b1 first c) [
              | inl none ↦ absurd (goes_not_here how a (cut ∙ ap (λ l. l ++ b2) none) (goes_from d (behind_none done none) g))
              | inr told ↦ both_goes d cut (lead_apart d moving j ps v done told) g
            ]

        home : (b : List ℕ) → BothGone d (all_left j v) (lead_left j (length done) ps v) outer done b → Goes d (old ∷ outer) done b
        home b (gone_on b1 b2 moves cut both g) = goes_next b1 b2 moves cut (form.whole b1 moves (lead_together d moving j ps v done both)) g
        home b (gone_here h within) =
            elim (follow_together d moving j ps v done h) [
              | lead_follow f ↦ goes_here (form.begun b f) (form.up _, within)
              | lead_whole moves told ↦ goes_here (begins_whole moves (form.whole b moves told)) (form.up _, within)
            ]

  -- the first one
  pub first_component : {k start : ℕ} {parts before : List ℕ} {v0 : Values} {outer : List Left} {done : List ℕ}
      (j : ℕ) (ps : List ℕ) (v : Values) (bit : ℕ) (more : List ℕ)
      → AtHand d k start parts before (j ∷ ps) v0 outer done → NFollow d j (length done) v []
      → Steps d (cut_left (j ∷ ps) v ∷ outer) (all_left j v ∷ lead_left j (length done) ps v ∷ outer) done []
      (bit ∷ more) []
  first_component {done = done} j ps v bit more how empty =
      component j ps v how (record {
        told = told;
        whole = λ b moves t. completes_lead t.trees t.means t.walks t.leave;
        begins = begins;
        begun = λ b f. begins_cut f;
        up = λ place. tt;
      }) bit more empty
    where
      told : (b : List ℕ) (moves : List Move) → Completes d (cut_left (j ∷ ps) v) done b moves → (b ≡ []) ⊎ LeadTold d moving j ps v done b moves
      told b moves (completes_cut none leave) = inl none
      told b moves (completes_lead {inside = inside} ts h ws leave) = inr (record { trees = ts; inside = inside; means = h; walks = ws; leave = leave })

      begins : (b : List ℕ) → Begins d (cut_left (j ∷ ps) v) done b → (b ≡ [])
          ⊎ (PartsFollow d (j ∷ ps) (length done) v b ⊎ ((moves : List Move) × LeadTold d moving j ps v done b moves))
      begins b (begins_cut f) = inr (inl f)
      begins b (begins_whole moves c) = elim (told b moves c) [ inl none ↦ inl none | inr t ↦ inr (inr (moves, t)) ]

  -- and each later one
  pub next_component : {k start : ℕ} {parts before : List ℕ} {v0 : Values} {outer : List Left} {done : List ℕ}
      (i from j : ℕ) (ps : List ℕ) (v : Values) (bit : ℕ) (more : List ℕ)
      → AtHand d k start parts before (j ∷ ps) v0 outer done → NFollow d j (length done) (behind d i from v done) []
      → Steps d (lead_left i from (j ∷ ps) v ∷ outer) (all_left j (behind d i from v done) ∷ lead_left j (length done)
      ps (behind d i from v done) ∷ outer) done [] (bit ∷ more) []
  next_component {done = done} i from j ps v bit more how empty =
      component j ps (behind d i from v done) how
      (record {
        told = told;
        whole = λ b moves t. completes_lead_behind t.trees t.means t.walks t.leave;
        begins =
            begins;
        begun = λ b f. begins_lead f;
        up = λ place. tt;
      }) bit more empty
    where
      told : (b : List ℕ) (moves : List Move) → Completes d (lead_left i from (j ∷ ps) v) done b moves → (b ≡ [])
          ⊎ LeadTold d moving j ps (behind d i from v done) done b moves
      told b moves (completes_cut_behind some none leave) = inl none
      told b moves (completes_lead_behind {inside = inside} ts h ws leave) = inr (record { trees = ts; inside = inside; means = h; walks = ws; leave = leave })

      begins : (b : List ℕ) → Begins d (lead_left i from (j ∷ ps) v) done b → (b ≡ [])
          ⊎ (PartsFollow d (j ∷ ps) (length done) (behind d i from v done) b ⊎ ((moves : List Move)
          × LeadTold d moving j ps (behind d i from v done) done b moves))
      begins b (begins_lead f) = inr (inl f)
      begins b (begins_lead_none none) = inl none
      begins b (begins_whole moves c) = elim (told b moves c) [ inl none ↦ inl none | inr t ↦ inr (inr (moves, t)) ]

  -- ---- nothing is left

  -- behind the last component, which took a bit
  pub no_components : (i from : ℕ) (v : Values) (done : List ℕ) → from < length done → Alike d (lead_left i from [] v) none_left done
  no_components i from v done took =
      record { completes = on; completed = back; begins = forth; begun = home; up_old = λ place. tt; up_new = λ place. tt }
    where
      on : (b : List ℕ) (moves : List Move) → Completes d (lead_left i from [] v) done b moves → Completes d none_left done b moves
      on b moves (completes_cut_behind some none leave) = completes_none none leave
      on b moves (completes_lead_behind ts h ws leave) = elim h [ ]

      back : (b : List ℕ) (moves : List Move) → Completes d none_left done b moves → Completes d (lead_left i from [] v) done b moves
      back b moves (completes_none nothing leave) = completes_cut_behind took nothing leave

      forth : (b : List ℕ) → Begins d (lead_left i from [] v) done b → Begins d none_left done b
      forth b (begins_lead f) = elim f [ ]
      forth b (begins_lead_none none) = begins_whole (Leave ∷ []) (completes_none none refl)
      forth b (begins_whole moves h) = begins_whole moves (on b moves h)

      home : (b : List ℕ) → Begins d none_left done b → Begins d (lead_left i from [] v) done b
      home b (begins_whole moves h) = begins_whole moves (back b moves h)

  -- behind the last component where it took none, and the bit is still at hand: then none ends what is open
  pub none_behind : {k start : ℕ} {parts before : List ℕ} {v0 : Values} {outer : List Left} {done : List ℕ}
      (i from : ℕ) (v : Values) (bit : ℕ) (more : List ℕ) → AtHand d k start parts before [] v0 outer done
      → Steps d (lead_left i from [] v ∷ outer) (none_left ∷ outer) done [] (bit ∷ more) []
  none_behind {outer = outer} {done = done} i from v bit more how =
      record {
        ends = λ later rest g. absurd (old_rest (more ++ later) rest g);
        ended = λ later rest g. absurd (new_rest (more ++ later) rest (rest_from d (append-nil done) g));
        goes = λ b agrees g. goes_from d (sym (append-nil done)) (forth b (against_of b (bit ∷ []) more agrees) g);
        went = λ b agrees g. home b (against_of b (bit ∷ []) more agrees) (goes_from d (append-nil done) g);
      }
    where
      old_rest : (x : List ℕ) (rest : List Move) → Rest d (lead_left i from [] v ∷ outer) done (bit ∷ x) rest → ⊥
      old_rest x rest (rest_next b1 b2 first others cut made (completes_cut_behind some none leave) o) =
          rest_not_here how bit (cut ∙ ap (λ l. l ++ b2) none) (rest_from d (behind_none done none) o)
      old_rest x rest (rest_next b1 b2 first others cut made (completes_lead_behind ts h ws leave) o) = elim h [ ]

      new_rest : (x : List ℕ) (rest : List Move) → Rest d (none_left ∷ outer) done (bit ∷ x) rest → ⊥
      new_rest x rest (rest_next b1 b2 first others cut made (completes_none none leave) o) =
          rest_not_here how bit (cut ∙ ap (λ l. l ++ b2) none) (rest_from d (behind_none done none) o)

      forth : (b : List ℕ) → Against b (bit ∷ []) → Goes d (lead_left i from [] v ∷ outer) done b → Goes d (none_left ∷ outer) done b
      forth [] against_it g = goes_here (begins_whole (Leave ∷ []) (completes_none refl refl)) (tt, within_less outer _ _ (omega arith) how.within)
      forth (a ∷ b) against_it (goes_here (begins_lead f) within) = elim f [ ]
      forth (a ∷ b) against_it (goes_here (begins_lead_none none) within) = absurd (cc)
      forth (a ∷ b) against_it (goes_here (begins_whole moves (completes_cut_behind some none leave)) within) = absurd (cc)
      forth (a ∷ b) against_it (goes_here (begins_whole moves (completes_lead_behind ts h ws leave)) within) = elim h [ ]
      forth (a ∷ b) against_it (goes_next b1 b2 first cut (completes_cut_behind some none leave) g) =
          absurd (goes_not_here how a (cut ∙ ap (λ l. l ++ b2) none) (goes_from d (behind_none done none) g))
      forth (a ∷ b) against_it (goes_next b1 b2 first cut (completes_lead_behind ts h ws leave) g) = elim h [ ]

      home : (b : List ℕ) → Against b (bit ∷ []) → Goes d (none_left ∷ outer) done b → Goes d (lead_left i from [] v ∷ outer) done b
      home [] against_it g = goes_here (begins_lead_none refl) (tt, within_less outer _ _ (omega arith) how.within)
      home (a ∷ b) against_it (goes_here (begins_whole moves (completes_none none leave)) within) = absurd (cc)
      home (a ∷ b) against_it (goes_next b1 b2 first cut (completes_none none leave) g) =
          absurd (goes_not_here how a (cut ∙ ap (λ l. l ++ b2) none) (goes_from d (behind_none done none) g))
