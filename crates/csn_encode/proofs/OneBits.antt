-- A tree has one string of bits.
use Rattle.std.proofs.Common.{◌≡◌, ℕ, List, ◌++◌, refl}
use Rattle.csn_desc.specs.declared.node.Node.{Node}
use Rattle.csn_desc.specs.TreeV.{TreeV, Trees, none}
use Rattle.csn_desc.specs.Nodes.{DescV}
use Rattle.csn_desc.specs.Values.{Values}
use Rattle.csn_desc.specs.Means.{NMeans, NodeMeans, PartsMean, TimesMean, ManyMean, LeadMean, means_at, means_lits}
use Rattle.csn_desc.specs.Means.{means_spare, means_pad, means_null, means_field, means_rest, means_seq, means_choice}
use Rattle.csn_desc.specs.Means.{means_times, means_many, means_cut, means_trunc, means_window, means_named}
use Rattle.csn_desc.specs.Means.{parts_end, parts_next, times_end, times_next, many_end, many_next, lead_last}
use Rattle.csn_desc.specs.Means.{lead_next}
use Rattle.csn_desc.proofs.Nodewise.{meaning_at}

module _ (d : DescV) where
  -- some part of a truncation has a tree
  pub lead_some : {parts : List ℕ} {o : ℕ} {v : Values} {b : List ℕ} {ts : Trees} → LeadMean d parts o v b ts → ts ≡ none → ⊥
  lead_some (lead_last some h) same = cc
  lead_some (lead_next b1 b2 cut h hs) same = cc

  joined : {b c : List ℕ} (b1 b2 c1 c2 : List ℕ) → b ≡ b1 ++ b2 → c ≡ c1 ++ c2 → b1 ≡ c1 → b2 ≡ c2 → b ≡ c
  joined b1 b2 c1 c2 left right first rest = cc

  mutual
    pub one_bits : {i j o p : ℕ} {v w : Values} {b c : List ℕ} {t u : TreeV} → NMeans d i o v b t → NMeans d j p w c u → i ≡ j → o ≡ p → v ≡ w → t ≡ u → b ≡ c
    one_bits (means_at n at h) right node place seen same = one_node h (meaning_at d (cc) right) place seen same

    one_node : {n : Node} {o p : ℕ} {v w : Values} {b c : List ℕ} {t u : TreeV} → NodeMeans d n o v b t → NodeMeans d n p w c u → o ≡ p → v ≡ w → t ≡ u → b ≡ c
    one_node (means_lits h) (means_lits k) place seen same = cc
    one_node (means_spare one h) (means_spare two k) place seen same = cc
    one_node (means_pad some h) (means_pad few k) place seen same = cc
    one_node (means_null h) (means_null k) place seen same = cc
    one_node (means_field n count wide h) (means_field m counts width k) place seen same = cc
    one_node (means_rest h) (means_rest k) place seen same = cc
    one_node (means_seq h) (means_seq k) place seen same = one_parts h k place seen (cc)
    one_node (means_choice at h) (means_choice there k) place seen same = one_bits h k (cc) place seen (cc)
    one_node (means_times n count h) (means_times m counts k) place seen same = one_times h k place seen (cc)
    one_node (means_many h) (means_many k) place seen same = one_many h k place seen (cc)
    one_node (means_cut h) (means_cut k) place seen same = cc
    one_node (means_cut h) (means_trunc k) place seen same = absurd (lead_some k (cc))
    one_node (means_trunc h) (means_cut k) place seen same = absurd (lead_some h (cc))
    one_node (means_trunc h) (means_trunc k) place seen same = one_lead h k place seen (cc)
    one_node (means_window n count wide h) (means_window m counts width k) place seen same = one_bits h k refl place seen same
    one_node (means_named h) (means_named k) place seen same = one_bits h k refl place seen (cc)

    one_parts : {parts : List ℕ} {o p : ℕ} {v w : Values} {b c : List ℕ} {ts us : Trees}
        → PartsMean d parts o v b ts → PartsMean d parts p w c us → o ≡ p → v ≡ w → ts ≡ us → b ≡ c
    one_parts (parts_end h) (parts_end k) place seen same = cc
    one_parts (parts_next b1 b2 cut h hs) (parts_next c1 c2 split k ks) place seen same =
        let first = one_bits h k refl place seen (cc) in
        joined b1 b2 c1 c2 cut split first (one_parts hs ks (cc) (cc) (cc))

    one_times : {n m i o p : ℕ} {v w : Values} {b c : List ℕ} {ts us : Trees}
        → TimesMean d n i o v b ts → TimesMean d m i p w c us → o ≡ p → v ≡ w → ts ≡ us → b ≡ c
    one_times (times_end over h) (times_end done k) place seen same = cc
    one_times (times_end over h) (times_next n are c1 c2 split k ks) place seen same = cc
    one_times (times_next m is b1 b2 cut h hs) (times_end done k) place seen same = cc
    one_times (times_next m is b1 b2 cut h hs) (times_next n are c1 c2 split k ks) place seen same =
        let first = one_bits h k refl place seen (cc) in
        joined b1 b2 c1 c2 cut split first (one_times hs ks (cc) seen (cc))

    one_many : {i o p : ℕ} {v w : Values} {b c : List ℕ} {ts us : Trees} → ManyMean d i o v b ts → ManyMean d i p w c us → o ≡ p → v ≡ w → ts ≡ us → b ≡ c
    one_many (many_end h) (many_end k) place seen same = cc
    one_many (many_end h) (many_next c1 c2 split few k ks) place seen same = cc
    one_many (many_next b1 b2 cut some h hs) (many_end k) place seen same = cc
    one_many (many_next b1 b2 cut some h hs) (many_next c1 c2 split few k ks) place seen same =
        let first = one_bits h k refl place seen (cc) in
        joined b1 b2 c1 c2 cut split first (one_many hs ks (cc) seen (cc))

    one_lead : {parts : List ℕ} {o p : ℕ} {v w : Values} {b c : List ℕ} {ts us : Trees}
        → LeadMean d parts o v b ts → LeadMean d parts p w c us → o ≡ p → v ≡ w → ts ≡ us → b ≡ c
    one_lead (lead_last some h) (lead_last few k) place seen same = one_bits h k refl place seen (cc)
    one_lead (lead_last some h) (lead_next c1 c2 split k ks) place seen same = absurd (lead_some ks (cc))
    one_lead (lead_next b1 b2 cut h hs) (lead_last few k) place seen same = absurd (lead_some hs (cc))
    one_lead (lead_next b1 b2 cut h hs) (lead_next c1 c2 split k ks) place seen same =
        let first = one_bits h k refl place seen (cc) in
        joined b1 b2 c1 c2 cut split first (one_lead hs ks (cc) (cc) (cc))
