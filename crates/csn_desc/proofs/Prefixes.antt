-- Every prefix of bits that are followed is followed.
use Rattle.std.proofs.Common.{◌≡◌, ℕ, List, ◌++◌, ◌⊎◌, inl, inr, length, sym, ◌∙◌, ap, arith, length-append}
use Rattle.csn_desc.specs.declared.node.Node.{Node}
use Rattle.csn_desc.specs.TreeV.{TreeV, empty, bits, row, Trees, none, more}
use Rattle.csn_desc.specs.Nodes.{DescV}
use Rattle.csn_desc.specs.Values.{Values}
use Rattle.csn_desc.specs.Means.{NMeans, NodeMeans, PartsMean, TimesMean, ManyMean, LeadMean, means_at, means_lits}
use Rattle.csn_desc.specs.Means.{means_spare, means_pad, means_null, means_field, means_rest, means_seq, means_choice}
use Rattle.csn_desc.specs.Means.{means_times, means_many, means_cut, means_trunc, means_window, means_named}
use Rattle.csn_desc.specs.Means.{parts_end, parts_next, times_end, times_next, many_end, many_next, lead_last}
use Rattle.csn_desc.specs.Means.{lead_next}
use Rattle.csn_desc.specs.Follows.{NFollow, NodeFollows, PartsFollow, TimesFollow, ManyFollow, follows_at}
use Rattle.csn_desc.specs.Follows.{follows_whole, follows_lits, follows_spare, follows_pad, follows_field}
use Rattle.csn_desc.specs.Follows.{follows_seq, follows_choice, follows_times, follows_many, follows_trunc}
use Rattle.csn_desc.specs.Follows.{follows_window, follows_named, parts_here, parts_later, times_here, times_later}
use Rattle.csn_desc.specs.Follows.{many_here, many_later}
use Rattle.csn_desc.proofs.Splits.{inside, behind, splits, front_begun, front_empty, cut_again}
use Rattle.csn_desc.proofs.BitFacts.{IsBits-front, IsBits-along}

module _ (d : DescV) where
  -- bits are followed by some parts, or have trees for all of them
  abbrev PartsBegun : List ℕ → ℕ → Values → List ℕ → Type 0
  PartsBegun parts o v b = PartsFollow d parts o v b ⊎ ((ts : Trees) × PartsMean d parts o v b ts)

  abbrev TimesBegun : ℕ → ℕ → ℕ → Values → List ℕ → Type 0
  TimesBegun n i o v b = TimesFollow d n i o v b ⊎ ((ts : Trees) × TimesMean d n i o v b ts)

  abbrev ManyBegun : ℕ → ℕ → Values → List ℕ → Type 0
  ManyBegun i o v b = ManyFollow d i o v b ⊎ ((ts : Trees) × ManyMean d i o v b ts)

  -- ---- of bits that have a tree

  mutual
    pub begins : {i o : ℕ} {v : Values} {w : List ℕ} {t : TreeV} → NMeans d i o v w t → (b c : List ℕ) → w ≡ b ++ c → NFollow d i o v b
    begins (means_at n at h) b c e = follows_at n at (node_begins h b c e)

    node_begins : {n : Node} {o : ℕ} {v : Values} {w : List ℕ} {t : TreeV} → NodeMeans d n o v w t → (b c : List ℕ) → w ≡ b ++ c → NodeFollows d n o v b
    node_begins {w = w} (means_lits h) b c e = follows_lits w c e (means_lits h)
    node_begins {w = w} (means_spare one h) b c e = follows_spare w c e (means_spare one h)
    node_begins {w = w} (means_pad some h) b c e = follows_pad w c e (means_pad some h)
    node_begins (means_null h) b c e = follows_whole empty (means_null (front_empty b c (sym e ∙ h)))
    node_begins {w = w} (means_field k count wide h) b c e = follows_field w c e (means_field k count wide h)
    node_begins (means_rest h) b c e = follows_whole (bits b) (means_rest (IsBits-front b c (IsBits-along (sym e) h)))
    node_begins (means_seq h) b c e =
        elim (parts_begin h b c e) [ inl f ↦ follows_seq f | inr whole ↦ follows_whole (row whole.0) (means_seq whole.1) ]
    node_begins (means_choice {j = j} at h) b c e = follows_choice j at (begins h b c e)
    node_begins (means_times k count h) b c e =
        elim (times_begin h b c e) [ inl f ↦ follows_times k count f | inr whole ↦ follows_whole (row whole.0) (means_times k count whole.1) ]
    node_begins (means_many h) b c e =
        elim (many_begin h b c e) [ inl f ↦ follows_many f | inr whole ↦ follows_whole (row whole.0) (means_many whole.1) ]
    node_begins (means_cut h) b c e = follows_whole (row none) (means_cut (front_empty b c (sym e ∙ h)))
    node_begins (means_trunc h) b c e = follows_trunc (lead_begins h b c e)
    node_begins {w = w} (means_window k count wide h) b c e = follows_window k count (omega (arith, ap length e, length-append b c)) (begins h b c e)
    node_begins (means_named h) b c e = follows_named (begins h b c e)

    parts_begin : {parts : List ℕ} {o : ℕ} {v : Values} {w : List ℕ} {ts : Trees}
        → PartsMean d parts o v w ts → (b c : List ℕ) → w ≡ b ++ c → PartsBegun parts o v b
    parts_begin (parts_end h) b c e = inr (none, parts_end (front_empty b c (sym e ∙ h)))
    parts_begin (parts_next {t = t} b1 b2 cut h more_parts) b c e =
        front_begun b1 b2 b c (sym cut ∙ e) (λ m p. inl (parts_here (begins h b m p))) (λ m q. parts_begin more_parts m c q)
        (λ m p f. inl (parts_later b1 m p h f)) (λ m p ts are. inr (more t ts, parts_next b1 m p h are))

    times_begin : {n i o : ℕ} {v : Values} {w : List ℕ} {ts : Trees} → TimesMean d n i o v w ts → (b c : List ℕ) → w ≡ b ++ c → TimesBegun n i o v b
    times_begin (times_end zero h) b c e = inr (none, times_end zero (front_empty b c (sym e ∙ h)))
    times_begin (times_next {t = t} m is b1 b2 cut h others) b c e =
        front_begun b1 b2 b c (sym cut ∙ e) (λ r p. inl (times_here (omega arith) (begins h b r p))) (λ r q. times_begin others r c q)
        (λ r p f. inl (times_later m is b1 r p h f)) (λ r p ts are. inr (more t ts, times_next m is b1 r p h are))

    many_begin : {i o : ℕ} {v : Values} {w : List ℕ} {ts : Trees} → ManyMean d i o v w ts → (b c : List ℕ) → w ≡ b ++ c → ManyBegun i o v b
    many_begin (many_end h) b c e = inr (none, many_end (front_empty b c (sym e ∙ h)))
    many_begin (many_next {t = t} b1 b2 cut some h others) b c e =
        front_begun b1 b2 b c (sym cut ∙ e) (λ r p. inl (many_here (begins h b r p))) (λ r q. many_begin others r c q)
        (λ r p f. inl (many_later b1 r p some h f)) (λ r p ts are. inr (more t ts, many_next b1 r p some h are))

    lead_begins : {parts : List ℕ} {o : ℕ} {v : Values} {w : List ℕ} {ts : Trees}
        → LeadMean d parts o v w ts → (b c : List ℕ) → w ≡ b ++ c → PartsFollow d parts o v b
    lead_begins (lead_last some h) b c e = parts_here (begins h b c e)
    lead_begins (lead_next b1 b2 cut h others) b c e =
        elim (splits b1 b2 b c (sym cut ∙ e)) [
          | inside m p q ↦ parts_here (begins h b m p)
          | behind m p q ↦ parts_later b1 m p h (lead_begins others m c q)
        ]

  -- ---- of bits that are followed

  mutual
    pub prefix_followed : {i o : ℕ} {v : Values} {w : List ℕ} → NFollow d i o v w → (b c : List ℕ) → w ≡ b ++ c → NFollow d i o v b
    prefix_followed (follows_at n at h) b c e = follows_at n at (node_prefix h b c e)

    node_prefix : {n : Node} {o : ℕ} {v : Values} {w : List ℕ} → NodeFollows d n o v w → (b c : List ℕ) → w ≡ b ++ c → NodeFollows d n o v b
    node_prefix (follows_whole t h) b c e = node_begins h b c e
    node_prefix {w = w} (follows_lits whole rest cut h) b c e = follows_lits whole (c ++ rest) (cut_again w b c rest cut e) h
    node_prefix {w = w} (follows_spare whole rest cut h) b c e = follows_spare whole (c ++ rest) (cut_again w b c rest cut e) h
    node_prefix {w = w} (follows_pad whole rest cut h) b c e = follows_pad whole (c ++ rest) (cut_again w b c rest cut e) h
    node_prefix {w = w} (follows_field whole rest cut h) b c e = follows_field whole (c ++ rest) (cut_again w b c rest cut e) h
    node_prefix (follows_seq h) b c e = follows_seq (parts_prefix h b c e)
    node_prefix (follows_choice j at h) b c e = follows_choice j at (prefix_followed h b c e)
    node_prefix (follows_times k count h) b c e = follows_times k count (times_prefix h b c e)
    node_prefix (follows_many h) b c e = follows_many (many_prefix h b c e)
    node_prefix (follows_trunc h) b c e = follows_trunc (parts_prefix h b c e)
    node_prefix (follows_window k count wide h) b c e = follows_window k count (omega (arith, ap length e, length-append b c)) (prefix_followed h b c e)
    node_prefix (follows_named h) b c e = follows_named (prefix_followed h b c e)

    parts_prefix : {parts : List ℕ} {o : ℕ} {v : Values} {w : List ℕ} → PartsFollow d parts o v w → (b c : List ℕ) → w ≡ b ++ c → PartsFollow d parts o v b
    parts_prefix (parts_here h) b c e = parts_here (prefix_followed h b c e)
    parts_prefix (parts_later b1 b2 cut h others) b c e =
        elim (splits b1 b2 b c (sym cut ∙ e)) [
          | inside m p q ↦ parts_here (begins h b m p)
          | behind m p q ↦ parts_later b1 m p h (parts_prefix others m c q)
        ]

    times_prefix : {n i o : ℕ} {v : Values} {w : List ℕ} → TimesFollow d n i o v w → (b c : List ℕ) → w ≡ b ++ c → TimesFollow d n i o v b
    times_prefix (times_here some h) b c e = times_here some (prefix_followed h b c e)
    times_prefix (times_later m is b1 b2 cut h others) b c e =
        elim (splits b1 b2 b c (sym cut ∙ e)) [
          | inside r p q ↦ times_here (omega arith) (begins h b r p)
          | behind r p q ↦ times_later m is b1 r p h (times_prefix others r c q)
        ]

    many_prefix : {i o : ℕ} {v : Values} {w : List ℕ} → ManyFollow d i o v w → (b c : List ℕ) → w ≡ b ++ c → ManyFollow d i o v b
    many_prefix (many_here h) b c e = many_here (prefix_followed h b c e)
    many_prefix (many_later b1 b2 cut some h others) b c e =
        elim (splits b1 b2 b c (sym cut ∙ e)) [
          | inside r p q ↦ many_here (begins h b r p)
          | behind r p q ↦ many_later b1 r p some h (many_prefix others r c q)
        ]

  pub string_followed : {i o : ℕ} {v : Values} {b : List ℕ} {t : TreeV} → NMeans d i o v b t → NFollow d i o v b
  string_followed {t = t} (means_at n at h) = follows_at n at (follows_whole t h)
