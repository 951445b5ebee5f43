-- The trees of a description have labels that are labels and leaves that are bits.
use Rattle.std.proofs.Common.{◌≡◌, ℕ, ◌≤◌, List, ◌++◌, length, Some, ap, arith, length-append}
use Rattle.std.specs.Prelude.{slice_get}
use Rattle.csn_bits.specs.Octets.{most_bits}
use Rattle.csn_desc.specs.declared.node.Node.{Node}
use Rattle.csn_desc.specs.declared.node.Node.TheVariants.{Named}
use Rattle.csn_desc.specs.TreeV.{TreeV, Trees}
use Rattle.csn_desc.specs.TreeParts.{HasTreeParts, AllHaveTreeParts}
use Rattle.csn_desc.specs.Label.{IsLabel}
use Rattle.csn_desc.specs.Nodes.{DescV}
use Rattle.csn_desc.specs.Values.{Values}
use Rattle.csn_desc.specs.Laws.{MeaningsAreBits}
use Rattle.csn_desc.specs.Means.{NMeans, NodeMeans, PartsMean, TimesMean, ManyMean, LeadMean, means_at, means_lits}
use Rattle.csn_desc.specs.Means.{means_spare, means_pad, means_null, means_field, means_rest, means_seq, means_choice}
use Rattle.csn_desc.specs.Means.{means_times, means_many, means_cut, means_trunc, means_window, means_named}
use Rattle.csn_desc.specs.Means.{parts_end, parts_next, times_end, times_next, many_end, many_next, lead_last}
use Rattle.csn_desc.specs.Means.{lead_next}

-- of two pieces each is no longer than both
front_few : {w : List ℕ} (b1 b2 : List ℕ) → w ≡ b1 ++ b2 → length w ≤ most_bits → length b1 ≤ most_bits
front_few b1 b2 cut few = omega (arith, few, ap length cut, length-append b1 b2)

back_few : {w : List ℕ} (b1 b2 : List ℕ) → w ≡ b1 ++ b2 → length w ≤ most_bits → length b2 ≤ most_bits
back_few b1 b2 cut few = omega (arith, few, ap length cut, length-append b1 b2)

module _ (d : DescV) (labels : (i part : ℕ) (label : List ℕ) → slice_get d.nodes i ≡ Some (Named label part)
    → IsLabel label) (are_bits : MeaningsAreBits) where
  mutual
    pub node_parts : {i o : ℕ} {v : Values} {b : List ℕ} {t : TreeV} → NMeans d i o v b t → length b ≤ most_bits → HasTreeParts t
    node_parts {i = i} (means_at n at h) few = kind_parts i at h few

    kind_parts :
        {n : Node} {o : ℕ} {v : Values} {b : List ℕ} {t : TreeV} (i : ℕ)
        → slice_get d.nodes i ≡ Some n → NodeMeans d n o v b t → length b ≤ most_bits → HasTreeParts t
    kind_parts i at (means_lits h) few = tt
    kind_parts {o = o} {v = v} {b = b} {t = t} i at (means_spare one h) few = (are_bits d i o v b t (means_at _ at (means_spare one h)), few)
    kind_parts {o = o} {v = v} {b = b} {t = t} i at (means_pad some h) few = (are_bits d i o v b t (means_at _ at (means_pad some h)), few)
    kind_parts i at (means_null h) few = tt
    kind_parts i at (means_field n count wide h) few = (h, few)
    kind_parts i at (means_rest h) few = (h, few)
    kind_parts i at (means_seq h) few = parts_parts h few
    kind_parts i at (means_choice get h) few = node_parts h few
    kind_parts i at (means_times n count h) few = times_parts h few
    kind_parts i at (means_many h) few = many_parts h few
    kind_parts i at (means_cut h) few = tt
    kind_parts i at (means_trunc h) few = lead_parts h few
    kind_parts i at (means_window n count wide h) few = node_parts h few
    kind_parts i at (means_named {label = label} {i = part} h) few = (labels i part label at, node_parts h few)

    parts_parts : {parts : List ℕ} {o : ℕ} {v : Values} {b : List ℕ} {ts : Trees} → PartsMean d parts o v b ts → length b ≤ most_bits → AllHaveTreeParts ts
    parts_parts (parts_end h) few = tt
    parts_parts (parts_next b1 b2 cut h later) few = (node_parts h (front_few b1 b2 cut few), parts_parts later (back_few b1 b2 cut few))

    times_parts : {n i o : ℕ} {v : Values} {b : List ℕ} {ts : Trees} → TimesMean d n i o v b ts → length b ≤ most_bits → AllHaveTreeParts ts
    times_parts (times_end over h) few = tt
    times_parts (times_next m is b1 b2 cut h later) few = (node_parts h (front_few b1 b2 cut few), times_parts later (back_few b1 b2 cut few))

    many_parts : {i o : ℕ} {v : Values} {b : List ℕ} {ts : Trees} → ManyMean d i o v b ts → length b ≤ most_bits → AllHaveTreeParts ts
    many_parts (many_end h) few = tt
    many_parts (many_next b1 b2 cut some h later) few = (node_parts h (front_few b1 b2 cut few), many_parts later (back_few b1 b2 cut few))

    lead_parts : {parts : List ℕ} {o : ℕ} {v : Values} {b : List ℕ} {ts : Trees} → LeadMean d parts o v b ts → length b ≤ most_bits → AllHaveTreeParts ts
    lead_parts (lead_last some h) few = (node_parts h few, tt)
    lead_parts (lead_next b1 b2 cut h later) few = (node_parts h (front_few b1 b2 cut few), lead_parts later (back_few b1 b2 cut few))
