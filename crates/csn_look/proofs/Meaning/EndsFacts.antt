-- Bits that have a tree end at an octet position at which bits of the node may end.
use Rattle.std.proofs.Common.{◌≡◌, ℕ, ◌+◌, ◌*◌, ◌%◌, ◌<◌, List, length, refl, sym, ◌∙◌, ap, subst, arith, Some}
use Rattle.csn_desc.specs.declared.node.Count.{Count}
use Rattle.csn_desc.specs.declared.node.Count.TheVariants.{Fixed, Counted}
use Rattle.csn_desc.specs.declared.node.Node.{Node}
use Rattle.csn_desc.specs.declared.node.Node.TheVariants.{Times}
use Rattle.csn_desc.specs.TreeV.{TreeV, Trees}
use Rattle.csn_desc.specs.Nodes.{DescV}
use Rattle.csn_desc.specs.Values.{Values, count_of}
use Rattle.csn_desc.specs.Means.{NMeans, NodeMeans, PartsMean, TimesMean, ManyMean, LeadMean, means_at, means_lits}
use Rattle.csn_desc.specs.Means.{means_spare, means_pad, means_null, means_field, means_rest, means_seq, means_choice}
use Rattle.csn_desc.specs.Means.{means_times, means_many, means_cut, means_trunc, means_window, means_named}
use Rattle.csn_desc.specs.Means.{lead_last}
use Rattle.csn_desc.specs.Means as mean
use Rattle.csn_desc.specs.Formed.{FitWidths}
use Rattle.csn_desc.proofs.BitFacts.{length-spelled}
use Rattle.csn_look.specs.Ends.{InEnds, NodeEnds, PartsEnd, TimesEnd, ManyEnd, LeadEnd, ends_lits}
use Rattle.csn_look.specs.Ends.{ends_spare, ends_null, ends_pad, ends_rest, ends_field, ends_window, ends_seq}
use Rattle.csn_look.specs.Ends.{ends_choice, ends_times, ends_counted, ends_many, ends_trunc, ends_named, parts_end}
use Rattle.csn_look.specs.Ends.{parts_next, times_end, times_next, many_end, many_next, lead_end, lead_next}
use Rattle.csn_look.proofs.Meaning.LeastSets.{ends_at}
use Rattle.csn_look.proofs.Meaning.ShapeFacts.{NodeIs, Shaped, may_count, octet-on, octet-same, place-split, kept}

octet-lt : (p : ℕ) → p % 8 < 8
octet-lt p = omega arith

module _ (d : DescV) (shaped : Shaped d) where
  repeated : (count : Count) (v : Values) {i o p n : ℕ} → count_of v count ≡ Some n → TimesEnd d n i o p → ManyEnd d i o p → NodeEnds d (Times count i) o p
  repeated (Fixed k) v {i = i} {o = o} {p = p} counts h others =
      let same : k ≡ _ = cc in
      let P : ℕ → Type 0 = λ n. TimesEnd d n i o p in
      ends_times (subst P (sym same) h)
  repeated (Counted m field c) v counts h others = ends_counted others

  mutual
    -- p is the place behind the bits
    pub ends : {i o : ℕ} {v : Values} {b : List ℕ} {t : TreeV} (p : ℕ) → p ≡ o + length b → FitWidths d v → NMeans d i o v b t → InEnds d i (o % 8) (p % 8)
    ends {i = i} p is widths (means_at n at h) = ends_at n at (node_ends p is (shaped.node i n at) widths h)

    pub node_ends : {n : Node} {o : ℕ} {v : Values} {b : List ℕ} {t : TreeV} (p : ℕ)
        → p ≡ o + length b → NodeIs d.nodes n → FitWidths d v → NodeMeans d n o v b t → NodeEnds d n (o % 8) (p % 8)
    node_ends {o = o} {b = b} p is shape widths (means_lits {run = run} h) =
        ends_lits (octet-on o p (length b) (length run) is (ap length h ∙ length-spelled run o))
    node_ends {o = o} {b = b} p is shape widths (means_spare one h) = ends_spare (octet-on o p (length b) 1 is one)
    node_ends p is shape widths (means_pad some h) = ends_pad (octet-lt p)
    node_ends {o = o} {b = b} p is shape widths (means_null h) = ends_null (octet-same o p (length b) is (ap length h))
    node_ends {o = o} {v = v} {b = b} p is shape widths (means_field {unit = unit} {count = count} n counts wide h) =
        ends_field n (may_count d v count shape.1 widths counts) (octet-on o p (length b) (unit * n) is wide)
    node_ends p is shape widths (means_rest h) = ends_rest (octet-lt p)
    node_ends p is shape widths (means_seq h) = ends_seq (parts_ends p is widths h)
    node_ends p is shape widths (means_choice {j = j} at h) = ends_choice j at (ends p is widths h)
    node_ends {v = v} p is shape widths (means_times {count = count} n counts h) =
        repeated count v counts (times_ends p is widths h) (counted_ends p is widths h)
    node_ends p is shape widths (means_many h) = ends_many (many_ends p is widths h)
    node_ends {o = o} {b = b} p is shape widths (means_cut h) = ends_trunc (lead_end (octet-same o p (length b) is (ap length h)))
    node_ends p is shape widths (means_trunc h) = ends_trunc (lead_ends p is widths h)
    node_ends {o = o} {v = v} {b = b} p is shape widths (means_window {unit = unit} {count = count} n counts wide h) =
        ends_window n (may_count d v count shape.1 widths counts) (octet-on o p (length b) (unit * n) is wide)
    node_ends p is shape widths (means_named h) = ends_named (ends p is widths h)

    pub parts_ends : {parts : List ℕ} {o : ℕ} {v : Values} {b : List ℕ} {ts : Trees} (p : ℕ)
        → p ≡ o + length b → FitWidths d v → PartsMean d parts o v b ts → PartsEnd d parts (o % 8) (p % 8)
    parts_ends {o = o} {b = b} p is widths (mean.parts_end h) = parts_end (octet-same o p (length b) is (ap length h))
    parts_ends {o = o} p is widths (mean.parts_next b1 b2 cut h others) =
        parts_next ((o + length b1) % 8) (ends (o + length b1) refl widths h) (parts_ends p (place-split o b1 b2 p is cut) (kept d shaped widths h) others)

    pub times_ends : {n i o : ℕ} {v : Values} {b : List ℕ} {ts : Trees} (p : ℕ) → p ≡ o + length b → FitWidths d v
        → TimesMean d n i o v b ts → TimesEnd d n i (o % 8) (p % 8)
    times_ends {o = o} {b = b} p is widths (mean.times_end over h) = times_end over (octet-same o p (length b) is (ap length h))
    times_ends {o = o} p is widths (mean.times_next m over b1 b2 cut h others) =
        times_next m ((o + length b1) % 8) over (ends (o + length b1) refl widths h) (times_ends p (place-split o b1 b2 p is cut) widths others)

    pub counted_ends : {n i o : ℕ} {v : Values} {b : List ℕ} {ts : Trees} (p : ℕ) → p ≡ o + length b → FitWidths d v
        → TimesMean d n i o v b ts → ManyEnd d i (o % 8) (p % 8)
    counted_ends {o = o} {b = b} p is widths (mean.times_end over h) = many_end (octet-same o p (length b) is (ap length h))
    counted_ends {o = o} p is widths (mean.times_next m over b1 b2 cut h others) =
        many_next ((o + length b1) % 8) (ends (o + length b1) refl widths h) (counted_ends p (place-split o b1 b2 p is cut) widths others)

    pub many_ends : {i o : ℕ} {v : Values} {b : List ℕ} {ts : Trees} (p : ℕ) → p ≡ o + length b → FitWidths d v
        → ManyMean d i o v b ts → ManyEnd d i (o % 8) (p % 8)
    many_ends {o = o} {b = b} p is widths (mean.many_end h) = many_end (octet-same o p (length b) is (ap length h))
    many_ends {o = o} p is widths (mean.many_next b1 b2 cut some h others) =
        many_next ((o + length b1) % 8) (ends (o + length b1) refl widths h) (many_ends p (place-split o b1 b2 p is cut) widths others)

    pub lead_ends : {parts : List ℕ} {o : ℕ} {v : Values} {b : List ℕ} {ts : Trees} (p : ℕ)
        → p ≡ o + length b → FitWidths d v → LeadMean d parts o v b ts → LeadEnd d parts (o % 8) (p % 8)
    lead_ends {o = o} p is widths (lead_last some h) = lead_next (p % 8) (ends p is widths h) (lead_end refl)
    lead_ends {o = o} p is widths (mean.lead_next b1 b2 cut h others) =
        lead_next ((o + length b1) % 8) (ends (o + length b1) refl widths h) (lead_ends p (place-split o b1 b2 p is cut) (kept d shaped widths h) others)
