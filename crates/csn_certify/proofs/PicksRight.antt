-- The answers of look-ahead, each against the trees of what lies ahead.
use Rattle.std.proofs.Common.{◌≡◌, ℕ, ◌%◌, ◌<◌, Bool, true, false, List, [], ◌++◌, length, refl, sym, ◌∙◌, ap, subst, arith, length-append, Some, slice_get}
use Rattle.csn_desc.specs.declared.node.Node.TheVariants.{Choice, Many}
use Rattle.csn_desc.specs.TreeV.{TreeV, row, alt, Trees, none}
use Rattle.csn_desc.specs.Nodes.{DescV}
use Rattle.csn_desc.specs.Values.{Values}
use Rattle.csn_desc.specs.Means.{NMeans, NodeMeans, ManyMean, means_choice, means_many, many_end, many_next}
use Rattle.csn_desc.specs.Follows.{NFollow}
use Rattle.csn_desc.specs.Formed.{FitWidths}
use Rattle.csn_desc.proofs.Nodewise.{meaning_at}
use Rattle.csn_look.specs.Starts.{InStart}
use Rattle.csn_look.specs.Reached.{Reached}
use Rattle.csn_claims.proofs.Pieces.{no_front}
use Rattle.csn_certify.specs.declared.pick.Pick.TheVariants.{Take, Leave, Refuse}
use Rattle.csn_certify.specs.Conflicts.{Certified}
use Rattle.csn_certify.specs.Picks.{Picks, BeginsWithKey, BeginsKey, TakesNone, pick_key, pick_none, pick_refuse, pick_again, pick_leave, pick_ended}
use Rattle.csn_certify.specs.Ahead.{LiesAhead}
use Rattle.csn_certify.proofs.Here.{Here, Stands}
use Rattle.csn_certify.proofs.PickFacts.{ChoiceFormed, key_decides, key_decides_followed, none_decides}
use Rattle.csn_certify.proofs.PickFacts.{none_decides_followed, refused_means, refused_follows, goes_on, stops}

-- ---- trees of the kinds of node

module _ (d : DescV) where
  pub stands_of : {i o : ℕ} {v : Values} {ahead : List ℕ} {t : TreeV} (h : LiesAhead d i o v ahead t) → Stands d i o h.own h.others
  stands_of h = record { behind = h.behind }

  -- a tree at a choice, where its alternative is known
  with_alternative : {parts : List ℕ} {o j : ℕ} {v : Values} {b : List ℕ} {t : TreeV}
      → NodeMeans d (Choice parts) o v b t
      → ((m q : ℕ) (u : TreeV) → slice_get parts m ≡ Some q → NMeans d q o v b u → m ≡ j) → (u : TreeV)
      × (t ≡ alt j u)
  with_alternative (means_choice {j = m} {i = q} {t = u} at h) decides = (u, ap (λ k. alt k u) (decides m q u at h))

  no_alternative : {parts : List ℕ} {o : ℕ} {v : Values} {b : List ℕ} {t : TreeV} → NodeMeans d (Choice parts) o v b t
      → ((m q : ℕ) (u : TreeV) → slice_get parts m ≡ Some q → NMeans d q o v b u → ⊥) → ⊥
  no_alternative (means_choice {j = m} {i = q} {t = u} at h) never = never m q u at h

  -- a repetition without turns has no bits, and one without bits no turns
  turns_none : {i o : ℕ} {v : Values} {b : List ℕ} {ts : Trees} → ManyMean d i o v b ts → ts ≡ none → b ≡ []
  turns_none (many_end nothing) is = nothing
  turns_none (many_next b1 b2 split some h others) is = absurd (cc)

  none_turns : {i o : ℕ} {v : Values} {b : List ℕ} {ts : Trees} → ManyMean d i o v b ts → b ≡ [] → ts ≡ none
  none_turns (many_end nothing) is = refl
  none_turns (many_next b1 b2 split some h others) is =
      let size = ap length (sym split ∙ is) in absurd (omega (arith, length-append b1 b2))

  row_none : {i o : ℕ} {v : Values} {b : List ℕ} {t : TreeV} → NodeMeans d (Many i) o v b t → t ≡ row none → b ≡ []
  row_none (means_many h) is = turns_none h (cc)

  none_row : {i o : ℕ} {v : Values} {b : List ℕ} {t : TreeV} → NodeMeans d (Many i) o v b t → b ≡ [] → t ≡ row none
  none_row (means_many h) is = ap row (none_turns h is)

module _ (d : DescV) (most : ℕ) (here : Here d) (certified : Certified d most) where
  pub takes_right : {node o j : ℕ} {v : Values} {parts held later : List ℕ} {ended : Bool} {t : TreeV}
      → slice_get d.nodes node ≡ Some (Choice parts) → Reached d node (o % 8)
      → FitWidths d v → (ended ≡ true → later ≡ []) → LiesAhead d node o v (held ++ later) t
      → Picks d most node (o % 8) held ended (Take j) → (u : TreeV) × (t ≡ alt j u)
  takes_right {node} {o} {j} {parts = parts} {held = held} {later = later} at reached widths over ahead (pick_key those is h) =
      let same : those ≡ parts = cc in
      let P : List ℕ → Type 0 = λ l. BeginsWithKey d most l (o % 8) held j in
      let key = subst P same h in
      with_alternative d (meaning_at d at ahead.means)
      (λ m q u at_m meaning. key_decides d most here certified node o parts at m ahead.others later reached key at_m
      meaning (sym ahead.split) (stands_of d ahead))
  takes_right {node} {o} {j} {parts = parts} {held = held} {later = later} {ended = ended} at reached widths over ahead (pick_none those is no_key h) =
      let same : those ≡ parts = cc in
      let P : List ℕ → Type 0 = λ l. TakesNone d most node l (o % 8) held ended j in
      let takes = subst P same h in
      with_alternative d (meaning_at d at ahead.means)
      (λ m q u at_m meaning. none_decides d most here certified node o parts at m ahead.others later reached widths takes over at_m meaning (sym ahead.split))
  takes_right at reached widths over ahead (pick_again part is start) = absurd (cc)

  pub refuses_right : {node o : ℕ} {v : Values} {parts held later : List ℕ} {ended : Bool} {t : TreeV}
      → ChoiceFormed d parts → slice_get d.nodes node ≡ Some (Choice parts) → Reached d node (o % 8)
      → (ended ≡ true → later ≡ []) → LiesAhead d node o v (held ++ later) t
      → Picks d most node (o % 8) held ended Refuse → ⊥
  refuses_right {node} {o} {parts = parts} {held = held} {later = later} {ended = ended}
      formed_parts at reached over ahead (pick_refuse those is no_key no_none no_more) =
      let same : those ≡ parts = cc in
      let P : List ℕ → Type 0 = λ l. (j : ℕ) → ¬ BeginsWithKey d most l (o % 8) held j in
      let Q : List ℕ → Type 0 = λ l. (i : ℕ) → ¬ TakesNone d most node l (o % 8) held ended i in
      let R : List ℕ → Type 0 = λ l. ended ≡ false → ¬ BeginsKey d most l (o % 8) held in
      no_alternative d (meaning_at d at ahead.means)
      (λ m q u at_m meaning. refused_means d most here certified node o parts at m ended ahead.others later
      formed_parts (subst P same no_key) (subst Q same no_none) (subst R same no_more) over at_m meaning
      (sym ahead.split) (stands_of d ahead))

  pub takes_followed : {node o i j part : ℕ} {v : Values} {parts held : List ℕ} {ended : Bool} (later : List ℕ)
      → ChoiceFormed d parts → slice_get d.nodes node ≡ Some (Choice parts) → Reached d node (o % 8)
      → FitWidths d v → 0 < length held → slice_get parts i ≡ Some part → NFollow d part o v (held ++ later)
      → Picks d most node (o % 8) held ended (Take j) → i ≡ j
  takes_followed {node} {o} {i} {j} {part} {parts = parts} {held = held} later formed_parts at reached widths some at_i followed (pick_key those is h) =
      let same : those ≡ parts = cc in
      let P : List ℕ → Type 0 = λ l. BeginsWithKey d most l (o % 8) held j in
      key_decides_followed d most here certified node o parts at i later reached (subst P same h) at_i followed
  takes_followed {node} {o} {i} {j} {parts = parts} {held = held} {ended = ended} later formed_parts at reached widths
      some at_i followed (pick_none those is no_key h) =
      let same : those ≡ parts = cc in
      let P : List ℕ → Type 0 = λ l. TakesNone d most node l (o % 8) held ended j in
      none_decides_followed d most here certified node o parts at i later reached widths (subst P same h) some at_i followed
  takes_followed later formed_parts at reached widths some at_i followed (pick_again those is start) = absurd (cc)

  pub refuses_followed : {node o part : ℕ} {v : Values} {parts held : List ℕ} (i : ℕ) (later : List ℕ)
      → ChoiceFormed d parts → slice_get d.nodes node ≡ Some (Choice parts) → slice_get parts i ≡ Some part
      → NFollow d part o v (held ++ later) → Picks d most node (o % 8) held false Refuse → ⊥
  refuses_followed {node} {o} {part} {parts = parts} {held = held} i later formed_parts at at_i followed (pick_refuse those is no_key no_none no_more) =
      let same : those ≡ parts = cc in
      let P : List ℕ → Type 0 = λ l. (j : ℕ) → ¬ BeginsWithKey d most l (o % 8) held j in
      let R : List ℕ → Type 0 = λ l. ¬ BeginsKey d most l (o % 8) held in
      refused_follows d most here certified node o parts at i later formed_parts (subst P same no_key) (subst R same (no_more refl)) at_i followed

  pub goes_on_right : {node part o j : ℕ} {v : Values} {held : List ℕ} {ended : Bool} {t : TreeV} (later : List ℕ)
      → slice_get d.nodes node ≡ Some (Many part) → Reached d part (o % 8) → LiesAhead d node o v (held ++ later) t
      → Picks d most node (o % 8) held ended (Take j) → t ≡ row none → ⊥
  goes_on_right {part = part} {o = o} later at reached ahead (pick_again {bit = bit} {rest = rest} those is start) same =
      let that : those ≡ part = cc in
      let P : ℕ → Type 0 = λ i. InStart d i (o % 8) bit in
      let some = goes_on d most here certified {o = o} bit (rest ++ later) at reached (subst P that start) (sym ahead.split) (stands_of d ahead) in
      let size = ap length (row_none d (meaning_at d at ahead.means) same) in
      omega arith
  goes_on_right later at reached ahead (pick_key parts is h) same = absurd (cc)
  goes_on_right later at reached ahead (pick_none parts is no_key h) same = absurd (cc)

module _ (d : DescV) (here : Here d) where
  pub stops_right : {most node part o : ℕ} {v : Values} {held later : List ℕ} {ended : Bool} {t : TreeV}
      → slice_get d.nodes node ≡ Some (Many part) → FitWidths d v → (ended ≡ true → later ≡ [])
      → LiesAhead d node o v (held ++ later) t → Picks d most node (o % 8) held ended Leave → t ≡ row none
  stops_right {node = node} {part = part} {o = o} {v = v} {later = later} at widths over ahead (pick_leave {bit = bit} {rest = rest} those is never) =
      let that : those ≡ part = cc in
      let P : ℕ → Type 0 = λ i. InStart d i (o % 8) bit → ⊥ in
      of_many (meaning_at d at ahead.means) (subst P that never)
    where
      of_many : {t : TreeV} → NodeMeans d (Many part) o v ahead.own t → (InStart d part (o % 8) bit → ⊥) → t ≡ row none
      of_many (means_many h) absent = none_row d (means_many h) (stops d here node ahead.others bit (rest ++ later) at widths absent h (sym ahead.split))
  stops_right at widths over ahead (pick_ended those is ended) =
      none_row d (meaning_at d at ahead.means) (no_front ahead.own ahead.others (sym ahead.split ∙ over ended))
