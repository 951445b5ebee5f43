-- The trees of a description are no deeper than its nodes are inside one another, and have no further alternatives.
use Rattle.std.proofs.Common.{◌≡◌, ℕ, zero, suc, ◌+◌, ◌<◌, ◌≤◌, Bool, List, [], Some, refl, subst, arith}
use Rattle.std.specs.Prelude.{slice_get}
use Rattle.std.proofs.lemmas.Option.{slice_get_within}
use Rattle.csn_desc.specs.declared.node.Node.{Node}
use Rattle.csn_desc.specs.TreeV.{TreeV, empty, bits, row, alt, named, Trees, none, more}
use Rattle.csn_desc.specs.Nodes.{DescV, parts_of}
use Rattle.csn_desc.specs.Values.{Values}
use Rattle.csn_desc.specs.Formed.{Formed, formed, PartsFormed, formed_end, formed_next, shows_earlier, IsDescription}
use Rattle.csn_desc.specs.Means.{NMeans, NodeMeans, PartsMean, TimesMean, ManyMean, LeadMean, means_at, means_lits}
use Rattle.csn_desc.specs.Means.{means_spare, means_pad, means_null, means_field, means_rest, means_seq, means_choice}
use Rattle.csn_desc.specs.Means.{means_times, means_many, means_cut, means_trunc, means_window, means_named}
use Rattle.csn_desc.specs.Means.{parts_end, parts_next, times_end, times_next, many_end, many_next, lead_last}
use Rattle.csn_desc.specs.Means.{lead_next}
use Rattle.csn_desc.specs.Formed.{PartsSpan, span_end, span_next}
use Rattle.csn_desc.proofs.Numbering.{span_grows, span_inside, span_parts, part_before}
use Rattle.csn_treetext.specs.Fits.{FitsInside, AllFitInside, Fits}

mutual
  fits_less : (round less : ℕ) (t : TreeV) → less ≤ round → FitsInside round t → FitsInside less t
  fits_less round less empty small fits = omega (arith, fits)
  fits_less round less (bits b) small fits = omega (arith, fits)
  fits_less round less (row ts) small fits = (omega (arith, fits.0), all_fit_less (suc round) (suc less) ts (omega arith) fits.1)
  fits_less round less (alt j t) small fits = (fits.0, fits_less (suc round) (suc less) t (omega arith) fits.1)
  fits_less round less (named l t) small fits = fits_less (suc round) (suc less) t (omega arith) fits

  all_fit_less : (round less : ℕ) (ts : Trees) → less ≤ round → AllFitInside round ts → AllFitInside less ts
  all_fit_less round less none small fits = tt
  all_fit_less round less (more t ts) small fits = (fits_less round less t small fits.0, all_fit_less round less ts small fits.1)

module _ (d : DescV) where
  -- a part stands behind as many nodes as there are parts before it
  part_behind :
      {parts : List ℕ} {at end : ℕ} (j p : ℕ)
      → PartsSpan d.nodes parts at end → slice_get parts j ≡ Some p → at + j ≤ p
  part_behind j p (span_end e) get = absurd (cc)
  part_behind zero p (span_next {i = i} middle e h others) get = let same : i ≡ p = cc in omega (arith, same, e)
  part_behind (suc j) p (span_next middle e h others) get =
      let grows = span_grows d.nodes h in let later = part_behind j p others get in omega (arith, grows, later, e)

  -- one of some well-formed parts is well formed
  part_formed :
      {shows : Bool} {seen : List ℕ} {round i : ℕ} {parts : List ℕ} (j : ℕ)
      → PartsFormed d.nodes shows seen round parts → slice_get parts j ≡ Some i → (sees : List ℕ) × Formed d.nodes sees round i
  part_formed j formed_end at = absurd (cc)
  part_formed {seen = seen} {round = round} {i = i} zero (formed_next {i = first} h others) at =
      let same : first ≡ i = cc in let P : ℕ → Type 0 = λ k. Formed d.nodes seen round k in (seen, subst P same h)
  part_formed (suc j) (formed_next h others) at = part_formed j others at

  module _ (is : IsDescription d) where
    -- the number of an alternative is below that of the nodes
    few_alternatives : (i j p : ℕ) (n : Node) → slice_get d.nodes i ≡ Some n → slice_get (parts_of n) j ≡ Some p → j < 16384
    few_alternatives i j p n at get =
        let s = span_inside d.nodes i is.numbered (omega arith) (slice_get_within d.nodes i n at) in
        let parts = span_parts d.nodes at s.span in
        omega (arith, part_behind j p parts get, part_before d.nodes j p parts get, s.within, is.few)

    mutual
      pub node_fits :
          {seen : List ℕ} {round i o : ℕ} {v : Values} {b : List ℕ} {t : TreeV}
          → Formed d.nodes seen round i → NMeans d i o v b t → FitsInside round t
      node_fits {seen = seen} {round = round} {i = i} (formed n at small head has counted parts) (means_at m there h) =
          let same : n ≡ m = cc in
          let P : Node → Type 0 = λ k. PartsFormed d.nodes (shows_earlier k) seen (suc round) (parts_of k) in
          kind_fits i there small (subst P same parts) h

      kind_fits :
          {n : Node} {seen : List ℕ} {round o : ℕ} {v : Values} {b : List ℕ} {t : TreeV} (i : ℕ)
          → slice_get d.nodes i ≡ Some n → round < 64 → PartsFormed d.nodes (shows_earlier n) seen (suc round) (parts_of n)
          → NodeMeans d n o v b t → FitsInside round t
      kind_fits i at small parts (means_lits h) = small
      kind_fits i at small parts (means_spare one h) = small
      kind_fits i at small parts (means_pad some h) = small
      kind_fits i at small parts (means_null h) = small
      kind_fits i at small parts (means_field n count wide h) = small
      kind_fits i at small parts (means_rest h) = small
      kind_fits i at small parts (means_seq h) = (small, parts_fit parts h)
      kind_fits i at small parts (means_choice {parts = alternatives} {j = j} {i = p} get h) =
          (few_alternatives i j p _ at get, node_fits (part_formed j parts get).1 h)
      kind_fits i at small parts (means_times n count h) = (small, times_fit (part_formed 0 parts refl).1 h)
      kind_fits i at small parts (means_many h) = (small, many_fit (part_formed 0 parts refl).1 h)
      kind_fits i at small parts (means_cut h) = (small, tt)
      kind_fits i at small parts (means_trunc h) = (small, lead_fit parts h)
      kind_fits {round = round} {t = t} i at small parts (means_window n count wide h) =
          fits_less (suc round) round t (omega arith) (node_fits (part_formed 0 parts refl).1 h)
      kind_fits i at small parts (means_named h) = node_fits (part_formed 0 parts refl).1 h

      parts_fit :
          {shows : Bool} {seen : List ℕ} {round o : ℕ} {parts : List ℕ} {v : Values} {b : List ℕ} {ts : Trees}
          → PartsFormed d.nodes shows seen round parts → PartsMean d parts o v b ts → AllFitInside round ts
      parts_fit formed_end (parts_end h) = tt
      parts_fit (formed_next first others) (parts_next b1 b2 cut h later) = (node_fits first h, parts_fit others later)

      times_fit :
          {seen : List ℕ} {round n i o : ℕ} {v : Values} {b : List ℕ} {ts : Trees}
          → Formed d.nodes seen round i → TimesMean d n i o v b ts → AllFitInside round ts
      times_fit part (times_end over h) = tt
      times_fit part (times_next m is b1 b2 cut h later) = (node_fits part h, times_fit part later)

      many_fit :
          {seen : List ℕ} {round i o : ℕ} {v : Values} {b : List ℕ} {ts : Trees}
          → Formed d.nodes seen round i → ManyMean d i o v b ts → AllFitInside round ts
      many_fit part (many_end h) = tt
      many_fit part (many_next b1 b2 cut some h later) = (node_fits part h, many_fit part later)

      lead_fit :
          {shows : Bool} {seen : List ℕ} {round o : ℕ} {parts : List ℕ} {v : Values} {b : List ℕ} {ts : Trees}
          → PartsFormed d.nodes shows seen round parts → LeadMean d parts o v b ts → AllFitInside round ts
      lead_fit formed_end h = elim h [ ]
      lead_fit (formed_next first others) (lead_last some h) = (node_fits first h, tt)
      lead_fit (formed_next first others) (lead_next b1 b2 cut h later) = (node_fits first h, lead_fit others later)

    -- the tree of a block fits
    pub tree_fits : (b : List ℕ) (t : TreeV) → NMeans d 0 0 [] b t → Fits t
    tree_fits b t h = node_fits is.well_formed h
