-- An alternative of a choice in the place of the choice.
use Rattle.std.proofs.Common.{◌≡◌, ℕ, List, ◌∷◌, ◌++◌, length, refl, sym, ◌∙◌, ap, subst, append-nil, Some, slice_get}
use Rattle.csn_desc.specs.declared.moves.Move.{Move}
use Rattle.csn_desc.specs.declared.node.Node.TheVariants.{Choice}
use Rattle.csn_desc.specs.TreeV.{TreeV, alt}
use Rattle.csn_desc.specs.Nodes.{DescV}
use Rattle.csn_desc.specs.Values.{Values}
use Rattle.csn_desc.specs.Means.{NMeans, NodeMeans, means_choice}
use Rattle.csn_desc.specs.Walks.{Walk, NodeWalk, walk_choice}
use Rattle.csn_judge.specs.Left.{Left, all_left, choice_left, none_left, Completes, completes_all, completes_choice}
use Rattle.csn_judge.specs.Left.{completes_none, begins_whole, begins_choice}
use Rattle.csn_judge.specs.Remains.{Goes, goes_next, goes_here}
use Rattle.csn_judge.proofs.StepFacts.{Both, takes_all, BothGone, gone_here, gone_on, begins_inner, begins_left}
use Rattle.csn_judge.proofs.Parts.{Moving, followed_all}

module _ (d : DescV) {part : ℕ} (j : ℕ) {parts : List ℕ} (here : slice_get parts j ≡ Some part) {v : Values} {done : List ℕ} where
  -- what completes the choice completes the alternative, where each tree is of it
  pub chosen : {b : List ℕ} {moves : List Move} → Completes d (choice_left parts v) done b moves
      → ((t : TreeV) → NodeMeans d (Choice parts) (length done) v b t → (w : TreeV) × (t ≡ alt j w))
      → Both d (all_left part v) none_left done b moves
  chosen {b} {moves} (completes_choice {inside = within} t means walks leave) one = by means walks refl (one t means)
    where
      by : {t u : TreeV} → NodeMeans d (Choice parts) (length done) v b t → NodeWalk d (Choice parts) (length done)
          u within → t ≡ u → (w : TreeV) × (t ≡ alt j w) → Both d (all_left part v) none_left done b moves
      by (means_choice {j = n} {i = a} {t = x} at_n g) (walk_choice {j = l} {t = y} a2 at_l w) same found =
          let number : n ≡ j = let e = found.1 in cc in
          let other : l ≡ j = let e = found.1 in cc in
          let trees : x ≡ y = cc in
          let first : a ≡ part = let p = here in cc in
          let second : a2 ≡ part = let p = here in cc in
          let P : ℕ → Type 0 = λ z. NMeans d z (length done) v b x in
          let Q : TreeV → Type 0 = λ z. NMeans d part (length done) v b z in
          let R : ℕ → Type 0 = λ z. Walk d z (length done) y within in
          takes_all d b within leave (completes_all y (subst Q trees (subst P first g)) (subst R second w)) (completes_none refl refl)

  -- and the other way round
  pub unchosen : (b : List ℕ) (moves : List Move) → Both d (all_left part v) none_left done b moves → Completes d (choice_left parts v) done b moves
  unchosen b moves both = by both.b1 both.b2 both.first both.others both.cut both.is both.inside both.outside
    where
      by : (b1 b2 : List ℕ) (first others : List Move) → b ≡ b1 ++ b2 → moves ≡ first ++ others
          → Completes d (all_left part v) done b1 first → Completes d none_left (done ++ b1) b2 others
          → Completes d (choice_left parts v) done b moves
      by b1 b2 first others cut made (completes_all t g w) (completes_none nothing leave) =
          let same : b1 ≡ b = sym (append-nil b1) ∙ ap (λ l. b1 ++ l) (sym nothing) ∙ sym cut in
          let P : List ℕ → Type 0 = λ l. NMeans d part (length done) v l t in
          completes_choice (alt j t) (means_choice here (subst P same g)) (walk_choice part here w) (made ∙ ap (λ l. first ++ l) leave)

  pub unchosen_goes : Moving → {outer : List Left} (b : List ℕ) → BothGone d (all_left part v) none_left outer done b
      → Goes d (choice_left parts v ∷ outer) done b
  unchosen_goes moving b (gone_on b1 b2 moves cut both g) = goes_next b1 b2 moves cut (unchosen b1 moves both) g
  unchosen_goes moving b (gone_here (begins_inner f up) within) = goes_here (begins_choice j part here (followed_all d moving f)) (tt, within)
  unchosen_goes moving b (gone_here (begins_left b1 b2 first cut c (begins_whole others n) up) within) =
      goes_here (begins_whole (first ++ others)
      (unchosen b (first ++ others) (record {
        b1 = b1;
        b2 = b2;
        first = first;
        others = others;
        cut = cut;
        is =
            refl;
        inside = c;
        outside = n;
      }))) (tt, within)
