-- Bits that have a tree are zeros and ones, and so are bits that are followed.
use Rattle.std.proofs.Common.{ℕ, List}
use Rattle.csn_bits.specs.Octets.{IsBits}
use Rattle.csn_desc.specs.declared.symbol.Symbol.TheVariants.{Low}
use Rattle.csn_desc.specs.declared.node.Node.{Node}
use Rattle.csn_desc.specs.TreeV.{TreeV, Trees}
use Rattle.csn_desc.specs.Nodes.{DescV}
use Rattle.csn_desc.specs.Values.{Values}
use Rattle.csn_desc.specs.Means.{NMeans, NodeMeans, PartsMean, TimesMean, ManyMean, LeadMean, means_at, means_lits}
use Rattle.csn_desc.specs.Means.{means_spare, means_pad, means_null, means_field, means_rest, means_seq, means_choice}
use Rattle.csn_desc.specs.Means.{means_times, means_many, means_cut, means_trunc, means_window, means_named}
use Rattle.csn_desc.specs.Means.{parts_end, parts_next, times_end, times_next, many_end, many_next, lead_last}
use Rattle.csn_desc.specs.Means.{lead_next}
use Rattle.csn_desc.specs.Follows.{NFollow, NodeFollows, PartsFollow, TimesFollow, ManyFollow, follows_at}
use Rattle.csn_desc.specs.Follows.{follows_whole, follows_lits, follows_spare, follows_pad, follows_field}
use Rattle.csn_desc.specs.Follows.{follows_seq, follows_choice, follows_times, follows_many, follows_trunc}
use Rattle.csn_desc.specs.Follows.{follows_window, follows_named, parts_here, parts_later, times_here, times_later}
use Rattle.csn_desc.specs.Follows.{many_here, many_later}
use Rattle.csn_desc.proofs.BitFacts.{IsBits-along, IsBits-split, IsBits-cut, IsBits-spelled, IsBits-spare}

module _ (d : DescV) where
  mutual
    pub meant_bits : {i o : ℕ} {v : Values} {b : List ℕ} {t : TreeV} → NMeans d i o v b t → IsBits b
    meant_bits (means_at n at h) = node_bits h

    node_bits : {n : Node} {o : ℕ} {v : Values} {b : List ℕ} {t : TreeV} → NodeMeans d n o v b t → IsBits b
    node_bits {o = o} (means_lits {run = run} h) = IsBits-along h (IsBits-spelled run o)
    node_bits {o = o} {b = b} (means_spare {s = s} one h) = IsBits-spare d.reading s o b h
    node_bits {o = o} {b = b} (means_pad some h) = IsBits-spare d.reading Low o b h
    node_bits (means_null h) = IsBits-along h tt
    node_bits (means_field k count wide h) = h
    node_bits (means_rest h) = h
    node_bits (means_seq h) = parts_bits h
    node_bits (means_choice at h) = meant_bits h
    node_bits (means_times k count h) = times_bits h
    node_bits (means_many h) = many_bits h
    node_bits (means_cut h) = IsBits-along h tt
    node_bits (means_trunc h) = lead_bits h
    node_bits (means_window k count wide h) = meant_bits h
    node_bits (means_named h) = meant_bits h

    parts_bits : {parts : List ℕ} {o : ℕ} {v : Values} {b : List ℕ} {ts : Trees} → PartsMean d parts o v b ts → IsBits b
    parts_bits (parts_end h) = IsBits-along h tt
    parts_bits (parts_next b1 b2 cut h others) = IsBits-split b1 b2 cut (meant_bits h) (parts_bits others)

    times_bits : {n i o : ℕ} {v : Values} {b : List ℕ} {ts : Trees} → TimesMean d n i o v b ts → IsBits b
    times_bits (times_end zero h) = IsBits-along h tt
    times_bits (times_next m is b1 b2 cut h others) = IsBits-split b1 b2 cut (meant_bits h) (times_bits others)

    many_bits : {i o : ℕ} {v : Values} {b : List ℕ} {ts : Trees} → ManyMean d i o v b ts → IsBits b
    many_bits (many_end h) = IsBits-along h tt
    many_bits (many_next b1 b2 cut some h others) = IsBits-split b1 b2 cut (meant_bits h) (many_bits others)

    lead_bits : {parts : List ℕ} {o : ℕ} {v : Values} {b : List ℕ} {ts : Trees} → LeadMean d parts o v b ts → IsBits b
    lead_bits (lead_last some h) = meant_bits h
    lead_bits (lead_next b1 b2 cut h others) = IsBits-split b1 b2 cut (meant_bits h) (lead_bits others)

  mutual
    pub followed_bits : {i o : ℕ} {v : Values} {b : List ℕ} → NFollow d i o v b → IsBits b
    followed_bits (follows_at n at h) = node_followed_bits h

    node_followed_bits : {n : Node} {o : ℕ} {v : Values} {b : List ℕ} → NodeFollows d n o v b → IsBits b
    node_followed_bits (follows_whole t h) = node_bits h
    node_followed_bits {b = b} (follows_lits whole rest cut h) = IsBits-cut b rest cut (node_bits h)
    node_followed_bits {b = b} (follows_spare whole rest cut h) = IsBits-cut b rest cut (node_bits h)
    node_followed_bits {b = b} (follows_pad whole rest cut h) = IsBits-cut b rest cut (node_bits h)
    node_followed_bits {b = b} (follows_field whole rest cut h) = IsBits-cut b rest cut (node_bits h)
    node_followed_bits (follows_seq h) = parts_followed_bits h
    node_followed_bits (follows_choice j at h) = followed_bits h
    node_followed_bits (follows_times k count h) = times_followed_bits h
    node_followed_bits (follows_many h) = many_followed_bits h
    node_followed_bits (follows_trunc h) = parts_followed_bits h
    node_followed_bits (follows_window k count wide h) = followed_bits h
    node_followed_bits (follows_named h) = followed_bits h

    parts_followed_bits : {parts : List ℕ} {o : ℕ} {v : Values} {b : List ℕ} → PartsFollow d parts o v b → IsBits b
    parts_followed_bits (parts_here h) = followed_bits h
    parts_followed_bits (parts_later b1 b2 cut h others) = IsBits-split b1 b2 cut (meant_bits h) (parts_followed_bits others)

    times_followed_bits : {n i o : ℕ} {v : Values} {b : List ℕ} → TimesFollow d n i o v b → IsBits b
    times_followed_bits (times_here some h) = followed_bits h
    times_followed_bits (times_later m is b1 b2 cut h others) = IsBits-split b1 b2 cut (meant_bits h) (times_followed_bits others)

    many_followed_bits : {i o : ℕ} {v : Values} {b : List ℕ} → ManyFollow d i o v b → IsBits b
    many_followed_bits (many_here h) = followed_bits h
    many_followed_bits (many_later b1 b2 cut some h others) = IsBits-split b1 b2 cut (meant_bits h) (many_followed_bits others)
