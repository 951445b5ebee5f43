-- In a certified description bits of a node are followed in one way: where they have a tree, and a bit goes on
-- behind them that may stand there, the node does not follow them and that bit together.
use Rattle.std.proofs.Common.{◌≡◌, ℕ, ◌+◌, ◌*◌, ◌%◌, inl, inr, List, [], ◌∷◌, ◌++◌, length, refl, sym, ◌∙◌, ap, subst}
use Rattle.std.proofs.Common.{arith, append_assoc, append-nil, length-append, Some, slice_get}
use Rattle.std.proofs.lemmas.List.{append_cancel_left}
use Rattle.csn_desc.specs.declared.node.Count.{Count}
use Rattle.csn_desc.specs.declared.node.Node.{Node}
use Rattle.csn_desc.specs.declared.node.Node.TheVariants.{Seq, Choice, Times, Many, Trunc}
use Rattle.csn_desc.specs.TreeV.{TreeV, Trees}
use Rattle.csn_desc.specs.Nodes.{DescV}
use Rattle.csn_desc.specs.Values.{Values, with_value}
use Rattle.csn_desc.specs.Means.{NMeans, NodeMeans, PartsMean, TimesMean, ManyMean, means_at, means_seq, means_choice}
use Rattle.csn_desc.specs.Means.{means_times, means_many, means_cut, means_trunc, means_window, means_named}
use Rattle.csn_desc.specs.Means.{parts_end, parts_next, times_end, times_next, many_end, many_next}
use Rattle.csn_desc.specs.Follows.{NFollow, NodeFollows, PartsFollow, TimesFollow, ManyFollow, follows_whole}
use Rattle.csn_desc.specs.Follows.{follows_lits, follows_spare, follows_pad, follows_field, follows_seq}
use Rattle.csn_desc.specs.Follows.{follows_choice, follows_times, follows_many, follows_trunc, follows_window}
use Rattle.csn_desc.specs.Follows.{follows_named, parts_here, parts_later, times_here, times_later, many_here}
use Rattle.csn_desc.specs.Follows.{many_later}
use Rattle.csn_desc.specs.Formed.{FitWidths}
use Rattle.csn_desc.proofs.Nodewise.{follow_at}
use Rattle.csn_look.specs.Ends.{PartsEnd, ManyEnd}
use Rattle.csn_look.specs.Ends as end
use Rattle.csn_look.specs.Keys.{InKeys}
use Rattle.csn_look.specs.Reached.{Reached, Turn}
use Rattle.csn_look.specs.Beginnings.{Near, near_begun, near_within}
use Rattle.csn_look.proofs.Meaning.ReachFacts.{turn_first, turn_next, turn_reached, parts_end_more, many_end_more, seq_reached, named_reached, many_reached}
use Rattle.csn_claims.proofs.Pieces.{order, equal_numbers, first_less, second_less, begun_both}
use Rattle.csn_claims.proofs.FollowFacts.{end_stands, stands_here, behind_first}
use Rattle.csn_claims.proofs.Decisions.{nothing_behind, null_bits}
use Rattle.csn_claims.proofs.OneTree.{one_tree}
use Rattle.csn_certify.specs.declared.conflict.Conflict.TheVariants.{LoopClash}
use Rattle.csn_certify.specs.Conflicts.{IsNull, loop_clash, Certified}
use Rattle.csn_certify.proofs.Here.{Here, Follow, Stands, fits_kept, ends, follows, many_follow_start, keys}
use Rattle.csn_certify.proofs.Here.{near_keys, choice_reached, choice_stands, named_stands, seq_stands, times_stands}
use Rattle.csn_certify.proofs.Here.{many_stands, seq_stands_followed, times_stands_followed, many_stands_followed}
use Rattle.csn_certify.proofs.Clearing.{clear_of}
use Rattle.csn_certify.proofs.PickFacts.{null_followed, part_null, apart, no_clash}

not_both : (b x : List ℕ) (a : ℕ) (r : List ℕ) → x ≡ a ∷ r → b ++ x ≡ [] → ⊥
not_both [] x a r is none = absurd (cc)
not_both (k ∷ b) x a r is none = absurd (cc)

module _ (d : DescV) where
  parts_along : (i : ℕ) (parts : List ℕ) (o : ℕ) (v : Values) {c : List ℕ} (b1 c1 : List ℕ)
      → b1 ≡ c1 → PartsFollow d parts (o + length c1) (with_value d.nodes i c1 v) c
      → PartsFollow d parts (o + length b1) (with_value d.nodes i b1 v) c
  parts_along i parts o v {c} b1 c1 same h = let P : List ℕ → Type 0 = λ l. PartsFollow d parts (o + length l)
      (with_value d.nodes i l v) c in subst P (sym same) h

  times_along : {i m n : ℕ} (o : ℕ) {v : Values} {c : List ℕ} (b1 c1 : List ℕ)
      → m ≡ n → b1 ≡ c1 → TimesFollow d n i (o + length c1) v c → TimesFollow d m i (o + length b1) v c
  times_along {i} {m} {n} o {v} {c} b1 c1 count same h =
      let P : List ℕ → Type 0 = λ l. TimesFollow d n i (o + length l) v c in
      let Q : ℕ → Type 0 = λ k. TimesFollow d k i (o + length b1) v c in
      subst Q (sym count) (subst P (sym same) h)

  many_along : {i : ℕ} (o : ℕ) {v : Values} {c : List ℕ} (b1 c1 : List ℕ) → b1 ≡ c1 → ManyFollow d i (o + length c1) v c → ManyFollow d i (o + length b1) v c
  many_along {i} o {v} {c} b1 c1 same h = let P : List ℕ → Type 0 = λ l. ManyFollow d i (o + length l) v c in subst P (sym same) h

  follow_along : {i k o : ℕ} {v : Values} {c : List ℕ} → i ≡ k → NFollow d k o v c → NFollow d i o v c
  follow_along {o = o} {v = v} {c = c} same h = let P : ℕ → Type 0 = λ i. NFollow d i o v c in subst P (sym same) h

  -- the same bit stands behind, with more behind it
  stands_more : {i o : ℕ} {b : List ℕ} (a : ℕ) (r x rest : List ℕ) → x ≡ a ∷ r → Stands d i o b x → Stands d i o b (x ++ rest)
  stands_more {b = b} a r x rest is s =
      record {
        behind = λ bit tail e. let whole : a ∷ (r ++ rest) ≡ bit ∷ tail = ap (λ l. l ++ rest) (sym is)
            ∙ e in let same : x ≡ bit ∷ r = cc in s.behind bit r same;
      }

-- what is left behind a first piece
piece : (b1 b2 x : List ℕ) {b c : List ℕ} → b ≡ b1 ++ b2 → c ≡ b ++ x → c ≡ b1 ++ (b2 ++ x)
piece b1 b2 x cut is = is ∙ ap (λ l. l ++ x) cut ∙ append_assoc b1 b2 x

cut_behind : (b1 y c1 z : List ℕ) → b1 ≡ c1 → b1 ++ y ≡ c1 ++ z → y ≡ z
cut_behind b1 y c1 z same e = append_cancel_left b1 y z (e ∙ ap (λ l. l ++ z) (sym same))

-- behind some bits and a bit there is a bit
some_behind : (b2 x : List ℕ) (a : ℕ) (r : List ℕ) → x ≡ a ∷ r → (k : ℕ) × (l : List ℕ) × (b2 ++ x ≡ k ∷ l)
some_behind [] x a r is = (a, r, is)
some_behind (k ∷ b2) x a r is = (k, b2 ++ x, refl)

module _ (d : DescV) (most : ℕ) (here : Here d) (certified : Certified d most) where
  -- not by bits that have a tree, and more behind them or not
  whole_further : {i o : ℕ} {v : Values} {b whole : List ℕ} {t u : TreeV} (a : ℕ) (r x rest : List ℕ)
      → x ≡ a ∷ r → Reached d i (o % 8) → FitWidths d v → NMeans d i o v b t → NMeans d i o v whole u
      → whole ≡ (b ++ x) ++ rest → Stands d i o b x → ⊥
  whole_further {i} {o} {b = b} {whole = whole} a r x rest is reached widths h other e s =
      let together : b ++ (x ++ rest) ≡ whole ++ [] = sym (append_assoc b x rest) ∙ sym e ∙ sym (append-nil whole) in
      let same = one_tree d most (Follow d) (clear_of d most here certified) h (x ++ rest)
      [] reached widths other together (stands_more d a r x rest is s) (end_stands (Follow d) i o whole) in
      let size = ap length (same.words ∙ e) in
      let some = ap length is in
      omega (arith, length-append (b ++ x) rest, length-append b x)

  -- two alternatives
  further_apart : {k p q j m o : ℕ} {v : Values} {parts b c : List ℕ} {t : TreeV} (a : ℕ) (r x : List ℕ)
      → x ≡ a ∷ r → slice_get d.nodes k ≡ Some (Choice parts) → Reached d k (o % 8) → FitWidths d v → (j ≡ m → ⊥)
      → slice_get parts j ≡ Some p → slice_get parts m ≡ Some q → NMeans d p o v b t → NFollow d q o v c → c ≡ b ++ x
      → Stands d k o b x → ⊥
  further_apart {k} {p} {q} {o = o} {parts = parts} {b = b} {c = c} a r x is at reached widths differs at_j at_m h followed e s =
      elim (part_null d q) [
        | inl null ↦ not_both b x a r is (sym e ∙ null_followed d null followed)
        | inr real ↦ elim (part_null d p) [
          | inl null ↦
              let nothing = null_bits d null h in
              let ahead : c ≡ a ∷ r = e ∙ ap (λ l. l ++ x) nothing ∙ is in
              no_clash d most here certified k o parts at a reached (λ same. differs (sym same)) at_j at_m null
              (follows d here a r ahead widths followed) (stands_here (Follow d) a r nothing is s)
          | inr real_p ↦ by_near real real_p (near_keys d here most followed)
        ]
      ]
    where
      by_near : (IsNull d q → ⊥) → (IsNull d p → ⊥) → Near (InKeys d most q (o % 8)) c → ⊥
      by_near real real_p (near_begun z) =
          let w = keys d here most h in
          let both = begun_both w.word w.rest z.word z.rest x [] w.begins z.begins (sym e ∙ sym (append-nil c)) in
          apart d most here certified k o parts at reached differs at_j at_m real_p real w.key z.key both
      by_near real real_p (near_within {word = word} rest key begins) =
          let w = keys d here most h in
          let longer : word ≡ w.word ++ (w.rest ++ (x ++ rest)) =
          begins ∙ ap (λ l. l ++ rest) e ∙ append_assoc b x rest ∙ ap (λ l. l ++ (x ++ rest)) w.begins ∙ append_assoc w.word w.rest (x ++ rest) in
          apart d most here certified k o parts at reached differs at_j at_m real_p real w.key key (inr (w.rest ++ (x ++ rest), longer))

  mutual
    pub no_further : {i o : ℕ} {v : Values} {b : List ℕ} {t : TreeV}
        → NMeans d i o v b t → {c : List ℕ} (a : ℕ) (r x : List ℕ) → x ≡ a ∷ r → Reached d i (o % 8)
        → FitWidths d v → NFollow d i o v c → c ≡ b ++ x → Stands d i o b x → ⊥
    no_further (means_at n at h) a r x is reached widths followed e s =
        node_further h at a r x is reached widths (follow_at d at followed) e s

    node_further : {i o : ℕ} {n : Node} {v : Values} {b : List ℕ} {t : TreeV}
        → NodeMeans d n o v b t → slice_get d.nodes i ≡ Some n → {c : List ℕ} (a : ℕ) (r x : List ℕ)
        → x ≡ a ∷ r → Reached d i (o % 8) → FitWidths d v → NodeFollows d n o v c → c ≡ b ++ x → Stands d i o b x → ⊥
    node_further {n = n} h at {c = c} a r x is reached widths (follows_whole u other) e s =
        whole_further a r x [] is reached widths (means_at n at h) (means_at n at other) (sym (append-nil c) ∙ ap (λ l. l ++ []) e) s
    node_further {n = n} h at a r x is reached widths (follows_lits whole rest cut other) e s =
        whole_further a r x rest is reached widths (means_at n at h) (means_at n at other) (cut ∙ ap (λ l. l ++ rest) e) s
    node_further {n = n} h at a r x is reached widths (follows_spare whole rest cut other) e s =
        whole_further a r x rest is reached widths (means_at n at h) (means_at n at other) (cut ∙ ap (λ l. l ++ rest) e) s
    node_further {n = n} h at a r x is reached widths (follows_pad whole rest cut other) e s =
        whole_further a r x rest is reached widths (means_at n at h) (means_at n at other) (cut ∙ ap (λ l. l ++ rest) e) s
    node_further {n = n} h at a r x is reached widths (follows_field whole rest cut other) e s =
        whole_further a r x rest is reached widths (means_at n at h) (means_at n at other) (cut ∙ ap (λ l. l ++ rest) e) s
    node_further (means_seq h) at a r x is reached widths (follows_seq f) e s = parts_further h at [] refl a r x is reached (end.parts_end refl) widths f e s
    node_further (means_choice {parts = parts} {j = j} {i = p} at_j h) at a r x is reached widths (follows_choice {i = q} m at_m f) e s =
        elim (order j m) [
          | equal_numbers same ↦
              let part : p ≡ q = cc in
              no_further h a r x is (choice_reached d here j at at_j reached) widths (follow_along d part f) e (choice_stands d here j at at_j s)
          | first_less less ↦ further_apart a r x is at reached widths (λ same. omega arith) at_j at_m h f e s
          | second_less less ↦ further_apart a r x is at reached widths (λ same. omega arith) at_j at_m h f e s
        ]
    node_further {o = o} {v = v} (means_times {count = count} {i = p} n counts h) at {c = c} a r x is reached widths (follows_times m other_counts f) e s =
        let same : n ≡ m = cc in
        let P : ℕ → Type 0 = λ n. TimesFollow d n p o v c in
        times_further h at a r x is reached (turn_first d v count (o % 8) counts) widths (subst P (sym same) f) e s
    node_further (means_many h) at a r x is reached widths (follows_many f) e s =
        many_further h at a r x is reached (end.many_end refl) widths f e s
    node_further (means_cut {parts = parts} nothing) at a r x is reached widths (follows_trunc f) e s =
        let none = nothing_behind d most (Follow d) (clear_of d most here certified) (Trunc parts)
        x at tt reached widths (means_at (Trunc parts) at (means_cut nothing)) s in absurd (cc)
    node_further (means_trunc {parts = parts} h) at a r x is reached widths (follows_trunc f) e s =
        let none = nothing_behind d most (Follow d) (clear_of d most here certified) (Trunc parts)
        x at tt reached widths (means_at (Trunc parts) at (means_trunc h)) s in absurd (cc)
    node_further {b = b} (means_window {unit = unit} n counts wide h) at a r x is reached widths (follows_window m other_counts few f) e s =
        let same : n ≡ m = cc in
        let all : length b ≡ unit * m = wide ∙ ap (λ k. unit * k) same in
        let size = ap length e in
        let some = ap length is in
        omega (arith, length-append b x)
    node_further (means_named h) at a r x is reached widths (follows_named f) e s =
        no_further h a r x is (named_reached d at reached) widths f e (named_stands d here at s)

    parts_further : {k from o : ℕ} {parts after : List ℕ} {v : Values} {b : List ℕ} {ts : Trees}
        → PartsMean d after o v b ts → slice_get d.nodes k ≡ Some (Seq parts) → (before : List ℕ)
        → parts ≡ before ++ after → {c : List ℕ} (a : ℕ) (r x : List ℕ) → x ≡ a ∷ r → Reached d k from
        → PartsEnd d before from (o % 8) → FitWidths d v → PartsFollow d after o v c → c ≡ b ++ x → Stands d k o b x
        → ⊥
    parts_further (parts_end nothing) at before whole a r x is reached ended widths f e s = elim f [ ]
    parts_further (parts_next {parts = after} b1 b2 cut h others) at before whole a r x is reached ended widths (parts_here f) e s =
        let later = some_behind b2 x a r is in
        no_further h later.0 later.1 (b2 ++ x) later.2 (seq_reached d after at whole reached ended) widths f
        (piece b1 b2 x cut e) (seq_stands d here before b1 at whole (fits_kept d here widths h) others
        (behind_first (Follow d) b1 b2 cut s))
    parts_further {k = k} {o = o} {v = v} (parts_next {i = i} {parts = after} b1 b2 cut h others)
        at before whole a r x is reached ended widths (parts_later c1 c2 other_cut g f) e s =
        let left = behind_first (Follow d) b1 b2 cut s in
        let together = sym (piece b1 b2 x cut e) ∙ other_cut in
        let same = one_tree d most (Follow d) (clear_of d most here certified) h (b2 ++ x) c2
        (seq_reached d after at whole reached ended) widths g together
        (seq_stands d here before b1 at whole (fits_kept d here widths h) others left)
        (seq_stands_followed d here k before c1 at whole (fits_kept d here widths g) f) in
        let next = sym (cut_behind b1 (b2 ++ x) c1 c2 same.words together) in
        parts_further others at (before ++ i ∷ []) (whole ∙ sym (append_assoc before (i ∷ []) after)) a r x is reached
        (parts_end_more d ended (ends d here widths h)) (fits_kept d here widths h)
        (parts_along d i after o v b1 c1 same.words f) next left

    times_further : {k i n from o : ℕ} {count : Count} {v : Values} {b : List ℕ} {ts : Trees}
        → TimesMean d n i o v b ts → slice_get d.nodes k ≡ Some (Times count i) → {c : List ℕ} (a : ℕ) (r x : List ℕ)
        → x ≡ a ∷ r → Reached d k from → Turn d count i n from (o % 8) → FitWidths d v → TimesFollow d n i o v c
        → c ≡ b ++ x → Stands d k o b x → ⊥
    times_further (times_end over nothing) at a r x is reached turn widths (times_here some f) e s = omega arith
    times_further (times_end over nothing) at a r x is reached turn widths (times_later m suc_m c1 c2 other_cut g f) e s = absurd (omega arith)
    times_further (times_next m over b1 b2 cut h others) at a r x is reached turn widths (times_here some f) e s =
        let later = some_behind b2 x a r is in
        no_further h later.0 later.1 (b2 ++ x) later.2 (turn_reached d at reached over turn) widths f
        (piece b1 b2 x cut e) (times_stands d here b1 at widths others (behind_first (Follow d) b1 b2 cut s))
    times_further {k = k} {o = o} (times_next m over b1 b2 cut h others) at a r x is reached turn widths (times_later l other_over c1 c2 other_cut g f) e s =
        let left = behind_first (Follow d) b1 b2 cut s in
        let together = sym (piece b1 b2 x cut e) ∙ other_cut in
        let same = one_tree d most (Follow d) (clear_of d most here certified) h (b2 ++ x) c2
        (turn_reached d at reached over turn) widths g together (times_stands d here b1 at widths others left)
        (times_stands_followed d here k c1 at widths f) in
        let next = sym (cut_behind b1 (b2 ++ x) c1 c2 same.words together) in
        let count_same : m ≡ l = omega arith in
        times_further others at a r x is reached (turn_next d over turn (ends d here widths h)) widths
        (times_along d o b1 c1 count_same same.words f) next left

    many_further : {k i from o : ℕ} {v : Values} {b : List ℕ} {ts : Trees}
        → ManyMean d i o v b ts → slice_get d.nodes k ≡ Some (Many i) → {c : List ℕ} (a : ℕ) (r x : List ℕ)
        → x ≡ a ∷ r → Reached d k from → ManyEnd d i from (o % 8) → FitWidths d v → ManyFollow d i o v c → c ≡ b ++ x
        → Stands d k o b x → ⊥
    many_further {k = k} {o = o} (many_end nothing) at a r x is reached ended widths f e s =
        let ahead = e ∙ ap (λ l. l ++ x) nothing ∙ is in
        certified (LoopClash k (o % 8) a) (loop_clash at (many_reached d at reached ended)
        (many_follow_start d here k a r at ahead widths f) (stands_here (Follow d) a r nothing is s))
    many_further (many_next b1 b2 cut some h others) at a r x is reached ended widths (many_here f) e s =
        let later = some_behind b2 x a r is in
        no_further h later.0 later.1 (b2 ++ x) later.2 (many_reached d at reached ended) widths f
        (piece b1 b2 x cut e) (many_stands d here b1 at widths others (behind_first (Follow d) b1 b2 cut s))
    many_further {k = k} {o = o} (many_next b1 b2 cut some h others) at a r x is reached ended widths (many_later c1 c2 other_cut other_some g f) e s =
        let left = behind_first (Follow d) b1 b2 cut s in
        let together = sym (piece b1 b2 x cut e) ∙ other_cut in
        let same = one_tree d most (Follow d) (clear_of d most here certified) h (b2 ++ x) c2
        (many_reached d at reached ended) widths g together (many_stands d here b1 at widths others left)
        (many_stands_followed d here k c1 at widths f) in
        let next = sym (cut_behind b1 (b2 ++ x) c1 c2 same.words together) in
        many_further others at a r x is reached (many_end_more d ended (ends d here widths h)) widths (many_along d o b1 c1 same.words f) next left

  -- what is said of a node ahead of which bits lie that have a tree there
  pub one_way : {i o : ℕ} {v : Values} {b c : List ℕ} {t : TreeV} (x : List ℕ) → (x ≡ [] → ⊥) → Reached d i (o % 8)
      → FitWidths d v → NMeans d i o v b t → NFollow d i o v c → c ≡ b ++ x → Stands d i o b x → ⊥
  one_way [] some reached widths h followed e s = some refl
  one_way (a ∷ r) some reached widths h followed e s = no_further h a r (a ∷ r) refl reached widths followed e s
