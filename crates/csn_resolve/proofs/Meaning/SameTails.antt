-- A rule in tail form and its sequence of nodes mean the same bits and follow the same bits, where its items
-- and those of a turn do.
use Rattle.std.proofs.Common.{◌≡◌, ℕ, ◌+◌, ◌≤◌, List, [], ◌∷◌, ◌++◌, length, refl, sym, ◌∙◌, ap, subst, arith, append_assoc, append-nil, length-append, Some}
use Rattle.std.specs.Prelude.{slice_get}
use Rattle.csn_desc.specs.declared.reading.Reading.{Reading}
use Rattle.csn_desc.specs.declared.node.Node.TheVariants.{Lits, Seq, Many}
use Rattle.csn_desc.specs.TreeV.{TreeV, empty, row, Trees, none, more}
use Rattle.csn_desc.specs.Nodes.{DescV}
use Rattle.csn_desc.specs.Spelled.{spelled}
use Rattle.csn_desc.specs.Values.{Values, with_value}
use Rattle.csn_desc.specs.Means.{NMeans, NodeMeans, PartsMean, means_at}
use Rattle.csn_desc.specs.Means as node
use Rattle.csn_desc.specs.Follows.{NFollow, NodeFollows, PartsFollow, follows_at}
use Rattle.csn_desc.specs.Follows as after
use Rattle.csn_grammar.specs.declared.rules.Rule.{Rule}
use Rattle.csn_grammar.specs.RulesV.{RulesV}
use Rattle.csn_grammar.specs.Environment.{Env}
use Rattle.csn_grammar.specs.TailForm.{TailV, tail_of}
use Rattle.csn_grammar.specs.Void.{SomeVoid}
use Rattle.csn_grammar.specs.Meaning.{RuleMeans, TailMeans, with_turns, rule_plain, rule_tail}
use Rattle.csn_grammar.specs.Follow.{Begins, RuleFollows, TailFollows, follows_plain, follows_tail}
use Rattle.csn_grammar.proofs.Prefixes.{rule_followed}
use Rattle.csn_resolve.specs.Seen.{Seen}
use Rattle.csn_resolve.proofs.Giving.Once.{same_tail}
use Rattle.csn_resolve.proofs.Meaning.Agreement.{Agree, agree_kept}
use Rattle.csn_resolve.proofs.Meaning.SameLeaves.{Same, meant_at, followed_at, lits_same}
use Rattle.csn_resolve.proofs.Meaning.SameParts.{SameItems, same_next, items_to, items_from, parts_follow}
use Rattle.csn_resolve.proofs.Meaning.SameParts.{items_follow, more_to, more_from, more_follow, more_followed}
use Rattle.csn_resolve.proofs.Meaning.SameParts.{seq_same}
use Rattle.csn_resolve.proofs.Meaning.SameForms.{SameRule}
use Rattle.csn_resolve.proofs.Meaning.TurnFacts.{turn_of, turn_full, Turns, turns_are, tail_turned, turned_tail}
use Rattle.csn_resolve.proofs.Meaning.TurnFacts.{TailBegun, in_items, in_turns, in_stop, tail_begun, begun_tail}

-- no part stands before this number
abbrev pub AllFrom : ℕ → List ℕ → Type 0
AllFrom at [] = Unit {0}
AllFrom at (i ∷ parts) = (at ≤ i) × AllFrom at parts

abbrev with_trees : Trees → Trees → Trees
with_trees none later = later
with_trees (more t ts) later = more t (with_trees ts later)

turns_last : (ts turns : Trees) → with_trees ts (more (row turns) (more empty none)) ≡ with_turns ts turns
turns_last none turns = refl
turns_last (more t ts) turns = ap (more t) (turns_last ts turns)

-- ---- parts behind parts: what the later ones see has the fields of env still

module _ (d : DescV) (at : ℕ) (env : Env) (seen : Seen ℕ) where
  parts_from : {parts : List ℕ} {o p : ℕ} {v : Values} {b : List ℕ} {ts : Trees} → o ≡ p → PartsMean d parts o v b ts → PartsMean d parts p v b ts
  parts_from {parts} {o} {p} {v} {b} {ts} e h = let P : ℕ → Type 0 = λ z. PartsMean d parts z v b ts in subst P e h

  parts_along : {parts : List ℕ} {o : ℕ} {v : Values} {b c : List ℕ} {ts : Trees} → b ≡ c → PartsMean d parts o v b ts → PartsMean d parts o v c ts
  parts_along {parts} {o} {v} {b} {c} {ts} e h = let P : List ℕ → Type 0 = λ z. PartsMean d parts o v z ts in subst P e h

  follow_from : {parts : List ℕ} {o p : ℕ} {v : Values} {b : List ℕ} → o ≡ p → PartsFollow d parts o v b → PartsFollow d parts p v b
  follow_from {parts} {o} {p} {v} {b} e h = let P : ℕ → Type 0 = λ z. PartsFollow d parts z v b in subst P e h

  follow_along : {parts : List ℕ} {o : ℕ} {v : Values} {b c : List ℕ} → b ≡ c → PartsFollow d parts o v b → PartsFollow d parts o v c
  follow_along {parts} {o} {v} {b} {c} e h = let P : List ℕ → Type 0 = λ z. PartsFollow d parts o v z in subst P e h

  data Split (parts others : List ℕ) (o : ℕ) (v : Values) (b : List ℕ) (us : Trees) : Type 0 where
    split_at :
        {ts later : Trees} {w : Values} (b1 b2 : List ℕ)
        → b ≡ b1 ++ b2 → PartsMean d parts o v b1 ts → Agree at w env seen → PartsMean d others (o + length b1) w b2 later
        → us ≡ with_trees ts later → Split parts others o v b us

  split_next :
      {i o : ℕ} {parts others : List ℕ} {v : Values} {b b2 : List ℕ} {t : TreeV} {us : Trees} (b1 : List ℕ)
      → b ≡ b1 ++ b2 → NMeans d i o v b1 t → Split parts others (o + length b1) (with_value d.nodes i b1 v) b2 us
      → Split (i ∷ parts) others o v b (more t us)
  split_next {t = t} b1 joins h (split_at c1 c2 joins' first a later e) =
      split_at (b1 ++ c1) c2 (joins ∙ (ap (λ z. b1 ++ z) joins' ∙ sym (append_assoc b1 c1 c2)))
      (node.parts_next b1 c1 refl h first) a (parts_from (omega (arith, length-append b1 c1)) later) (ap (more t) e)

  split_parts :
      (parts others : List ℕ) {o : ℕ} {v : Values} {b : List ℕ} {us : Trees}
      → AllFrom at parts → Agree at v env seen → PartsMean d (parts ++ others) o v b us → Split parts others o v b us
  split_parts [] others {b = b} from a h = split_at [] b refl (node.parts_end refl) a (parts_from (omega arith) h) refl
  split_parts (i ∷ parts) others {v = v} from a (node.parts_next b1 b2 joins h later) =
      split_next b1 joins h (split_parts parts others from.1 (agree_kept d.nodes at i b1 v env seen from.0 a) later)

  -- what goes on in others goes on in parts that have trees with the others behind them
  join_behind :
      (F : List ℕ → ℕ → Values → List ℕ → Trees → Type 0)
      → ((i : ℕ) (parts : List ℕ) (o : ℕ) (v : Values) (b b1 b2 : List ℕ) (t : TreeV) (us : Trees) → b ≡ b1 ++ b2 → NMeans d i o v b1 t
      → F parts (o + length b1) (with_value d.nodes i b1 v) b2 us → F (i ∷ parts) o v b (more t us))
      → (parts others : List ℕ) {o : ℕ} {v : Values} {b1 b2 : List ℕ} {ts us : Trees}
      → AllFrom at parts → Agree at v env seen → PartsMean d parts o v b1 ts
      → ((w : Values) → Agree at w env seen → F others (o + length b1) w b2 us)
      → F (parts ++ others) o v (b1 ++ b2) (with_trees ts us)
  join_behind F next [] others {o = o} {v = v} {b1 = b1} {b2 = b2} {us = us} from a (node.parts_end p) later =
      let here : o + length b1 ≡ o = omega (arith, ap length p) in
      let P : ℕ → Type 0 = λ z. F others z v b2 us in
      let Q : List ℕ → Type 0 = λ z. F others o v (z ++ b2) us in
      subst Q (sym p) (subst P here (later v a))
  join_behind F next (i ∷ parts) others {o = o} {v = v} {b2 = b2} {us = us} from a (node.parts_next {t = t} c1 c2 joins h first) later =
      let there : o + length (c1 ++ c2) ≡ (o + length c1) + length c2 = omega (arith, length-append c1 c2) in
      let P : Values → ℕ → Type 0 = λ w z. F others z w b2 us in
      next i (parts ++ others) o v _ c1 (c2 ++ b2) t _ (ap (λ z. z ++ b2) joins ∙ append_assoc c1 c2 b2) h
      (join_behind F next parts others from.1 (agree_kept d.nodes at i c1 v env seen from.0 a) first
      (λ w fits. subst (P w) (ap (λ z. o + length z) joins ∙ there) (later w fits)))

  join_parts :
      (parts others : List ℕ) {o : ℕ} {v : Values} {b1 b2 : List ℕ} {ts us : Trees}
      → AllFrom at parts → Agree at v env seen → PartsMean d parts o v b1 ts
      → ((w : Values) → Agree at w env seen → PartsMean d others (o + length b1) w b2 us)
      → PartsMean d (parts ++ others) o v (b1 ++ b2) (with_trees ts us)
  join_parts = join_behind (λ parts o v b ts. PartsMean d parts o v b ts) (λ i parts o v b b1 b2 t us joins h rest. node.parts_next b1 b2 joins h rest)

  data FollowSplit (parts others : List ℕ) (o : ℕ) (v : Values) (b : List ℕ) : Type 0 where
    in_parts : PartsFollow d parts o v b → FollowSplit parts others o v b
    behind :
        {ts : Trees} {w : Values} (b1 b2 : List ℕ)
        → b ≡ b1 ++ b2 → PartsMean d parts o v b1 ts → Agree at w env seen → PartsFollow d others (o + length b1) w b2
        → FollowSplit parts others o v b

  follow_next :
      {i o : ℕ} {parts others : List ℕ} {v : Values} {b b2 : List ℕ} {t : TreeV} (b1 : List ℕ)
      → b ≡ b1 ++ b2 → NMeans d i o v b1 t → FollowSplit parts others (o + length b1) (with_value d.nodes i b1 v) b2
      → FollowSplit (i ∷ parts) others o v b
  follow_next {b2 = b2} b1 joins h (in_parts f) = in_parts (after.parts_later b1 b2 joins h f)
  follow_next b1 joins h (behind c1 c2 joins' first a f) =
      behind (b1 ++ c1) c2 (joins ∙ (ap (λ z. b1 ++ z) joins' ∙ sym (append_assoc b1 c1 c2)))
      (node.parts_next b1 c1 refl h first) a (follow_from (omega (arith, length-append b1 c1)) f)

  split_follow :
      (parts others : List ℕ) {o : ℕ} {v : Values} {b : List ℕ}
      → AllFrom at parts → Agree at v env seen → PartsFollow d (parts ++ others) o v b → FollowSplit parts others o v b
  split_follow [] others {b = b} from a f = behind [] b refl (node.parts_end refl) a (follow_from (omega arith) f)
  split_follow (i ∷ parts) others from a (after.parts_here f) = in_parts (after.parts_here f)
  split_follow (i ∷ parts) others {v = v} from a (after.parts_later b1 b2 joins h later) =
      follow_next b1 joins h (split_follow parts others from.1 (agree_kept d.nodes at i b1 v env seen from.0 a) later)

  join_follow :
      (parts others : List ℕ) {o : ℕ} {v : Values} {b1 b2 : List ℕ} {ts : Trees}
      → AllFrom at parts → Agree at v env seen → PartsMean d parts o v b1 ts
      → ((w : Values) → Agree at w env seen → PartsFollow d others (o + length b1) w b2)
      → PartsFollow d (parts ++ others) o v (b1 ++ b2)
  join_follow parts others from a first later =
      join_behind (λ parts o v b ts. PartsFollow d parts o v b) (λ i parts o v b b1 b2 t us joins h rest. after.parts_later b1 b2 joins h rest)
      parts others {us = none} from a first later

  more_parts :
      (parts others : List ℕ) {o : ℕ} {v : Values} {b : List ℕ}
      → PartsFollow d parts o v b → PartsFollow d (parts ++ others) o v b
  more_parts (i ∷ parts) others (after.parts_here f) = after.parts_here f
  more_parts (i ∷ parts) others (after.parts_later b1 b2 joins h f) = after.parts_later b1 b2 joins h (more_parts parts others f)
  more_parts [] others f = elim f [ ]

-- ---- the rule

module _ (rules : RulesV) (r : Reading) (d : DescV) (at : ℕ) (env : Env) (seen : Seen ℕ) (rule : Rule) (tail : TailV)
    (is : tail_of rule ≡ Some tail) (some : 1 ≤ length tail.end.again.run) (full : ¬ SomeVoid rules r tail.items)
  where
    module _ (many stop : ℕ) (parts turn_parts : List ℕ) (from : AllFrom at parts) (later : at ≤ many)
        (many_at : slice_get d.nodes many ≡ Some (Many (many + 1))) (seq_at : slice_get d.nodes (many + 1) ≡ Some
        (Seq ((many + 2) ∷ turn_parts))) (word_at : slice_get d.nodes (many + 2) ≡ Some (Lits tail.end.again.run))
        (stop_at : slice_get d.nodes stop ≡ Some (Lits tail.end.stop.run)) (turns : (w : Values)
        → Agree at w env seen → SameItems rules r d tail.items [] env turn_parts w) where
      turn : (w : Values) → Agree at w env seen → Same rules r d (turn_of tail) (many + 1) env w
      turn w fits =
          seq_same rules r d (turn_full rules r tail full)
          (same_next (lits_same rules r d word_at) (λ b. turns (with_value d.nodes (many + 2) b w)
          (agree_kept d.nodes at (many + 2) b w env seen (omega (arith, later)) fits)))
          seq_at

      data Ends (o : ℕ) (w : Values) (b : List ℕ) : Trees → Type 0 where
        ends :
            {rows : Trees} (b2 b3 : List ℕ)
            → b ≡ b2 ++ b3 → node.ManyMean d (many + 1) o w b2 rows → b3 ≡ spelled tail.end.stop.run (o + length b2)
            → Ends o w b (more (row rows) (more empty none))

      ends_by :
          {o p : ℕ} {w u : Values} {b c2 c4 : List ℕ} {t1 t2 : TreeV} (c1 c3 : List ℕ)
          → NodeMeans d (Many (many + 1)) o w c1 t1 → NodeMeans d (Lits tail.end.stop.run) p u c3 t2 → p ≡ o + length c1
          → b ≡ c1 ++ c2 → c2 ≡ c3 ++ c4 → c4 ≡ [] → Ends o w b (more t1 (more t2 none))
      ends_by c1 c3 (node.means_many m) (node.means_lits p) place joins joins' last =
          ends c1 c3 (joins ∙ ap (λ z. c1 ++ z) (joins' ∙ (ap (λ z. c3 ++ z) last ∙ append-nil c3))) m (p ∙ ap (spelled tail.end.stop.run) place)

      ends_of : {o : ℕ} {w : Values} {b : List ℕ} {us : Trees} → PartsMean d (many ∷ stop ∷ []) o w b us → Ends o w b us
      ends_of (node.parts_next c1 c2 joins hm (node.parts_next c3 c4 joins' hs (node.parts_end p))) =
          ends_by c1 c3 (meant_at rules r d many_at hm) (meant_at rules r d stop_at hs) refl joins joins' p

      module _ (v : Values) (a : Agree at v env seen) (first : SameItems rules r d tail.items [] env parts v) where
        -- ---- whole strings

        turns_to :
            {o : ℕ} {b : List ℕ} {ts rows : Trees}
            → Turns rules r tail o env b ts rows → NodeMeans d (Seq (parts ++ many ∷ stop ∷ [])) o v b (row (with_turns ts rows))
        turns_to {o = o} {b = b} {ts = ts} {rows = rows} (turns_are b1 b2 b3 joins h m word) =
            let P : Trees → Type 0 = λ z. PartsMean d (parts ++ many ∷ stop ∷ []) o v b z in
            let all =
            join_parts d at env seen parts (many ∷ stop ∷ []) from a (items_to rules r d first h)
            (λ w fits. node.parts_next b2 b3 refl (means_at _ many_at (node.means_many (more_to rules r d (turn w fits) m)))
            (node.parts_next b3 [] (sym (append-nil b3)) (means_at _ stop_at (node.means_lits word)) (node.parts_end refl))) in
            node.means_seq (subst P (turns_last ts rows) (parts_along d at env seen (sym joins) all))

        means_to :
            {o : ℕ} {b : List ℕ} {t : TreeV} → RuleMeans rules r rule o env b t → NodeMeans d (Seq (parts ++ many ∷ stop ∷ [])) o v b t
        means_to (rule_plain other h) = cc
        means_to {o = o} {b = b} (rule_tail {ts = ts} {turns = rows} other is' h) =
            let P : TailV → Type 0 = λ z. TailMeans rules r z o env b ts rows in
            turns_to (tail_turned rules r tail some (subst P (same_tail rule is' is) h))

        rule_by :
            {o : ℕ} {b b2 : List ℕ} {w : Values} {ts later' us : Trees} (b1 : List ℕ)
            → b ≡ b1 ++ b2 → PartsMean d parts o v b1 ts → Agree at w env seen → Ends (o + length b1) w b2 later'
            → us ≡ with_trees ts later' → RuleMeans rules r rule o env b (row us)
        rule_by {o = o} {b = b} {ts = ts} b1 joins p fits (ends {rows = rows} c1 c2 joins' m word) e =
            let P : Trees → Type 0 = λ z. RuleMeans rules r rule o env b (row z) in
            subst P (sym (e ∙ turns_last ts rows))
            (rule_tail tail is (turned_tail rules r tail
            (turns_are b1 c1 c2 (joins ∙ ap (λ z. b1 ++ z) joins') (items_from rules r d first p) (more_from rules r d (turn _ fits) m) word)))

        split_rule :
            {o : ℕ} {b : List ℕ} {us : Trees}
            → Split d at env seen parts (many ∷ stop ∷ []) o v b us → RuleMeans rules r rule o env b (row us)
        split_rule (split_at b1 b2 joins p fits q e) = rule_by b1 joins p fits (ends_of q) e

        means_from :
            {o : ℕ} {b : List ℕ} {t : TreeV} → NodeMeans d (Seq (parts ++ many ∷ stop ∷ [])) o v b t → RuleMeans rules r rule o env b t
        means_from (node.means_seq h) = split_rule (split_parts d at env seen parts (many ∷ stop ∷ []) from a h)

        -- ---- followed bits

        begun_to :
            {o : ℕ} {b : List ℕ} → TailBegun rules r tail o env b → NodeFollows d (Seq (parts ++ many ∷ stop ∷ [])) o v b
        begun_to (in_items f) = after.follows_seq (more_parts d at env seen parts (many ∷ stop ∷ []) (parts_follow rules r d first f))
        begun_to (in_turns b1 b2 joins h m) =
            after.follows_seq (follow_along d at env seen (sym joins)
            (join_follow d at env seen parts (many ∷ stop ∷ []) from a (items_to rules r d first h)
            (λ w fits. after.parts_here (follows_at _ many_at (after.follows_many (more_follow rules r d (turn w fits) m))))))
        begun_to {o = o} (in_stop b1 b2 b3 joins h m begins) =
            after.follows_seq (follow_along d at env seen (sym joins)
            (join_follow d at env seen parts (many ∷ stop ∷ []) from a (items_to rules r d first h)
            (λ w fits. after.parts_later b2 b3 refl (means_at _ many_at (node.means_many (more_to rules r d (turn w fits) m)))
            (after.parts_here (follows_at _ stop_at
            (after.follows_lits (spelled tail.end.stop.run (o + length b1 + length b2)) begins.0 begins.1 (node.means_lits refl)))))))

        follows_to :
            {o : ℕ} {b : List ℕ} → RuleFollows rules r rule o env b → NodeFollows d (Seq (parts ++ many ∷ stop ∷ [])) o v b
        follows_to (follows_plain other f) = cc
        follows_to {o = o} {b = b} (follows_tail other is' f) =
            let P : TailV → Type 0 = λ z. TailFollows rules r z o env b in
            begun_to (tail_begun rules r tail full some (subst P (same_tail rule is' is) f))

        word_begun : {o : ℕ} {w : Values} {b : List ℕ} → NodeFollows d (Lits tail.end.stop.run) o w b → Begins b (spelled tail.end.stop.run o)
        word_begun {b = b} (after.follows_whole t (node.means_lits p)) = ([], sym p ∙ sym (append-nil b))
        word_begun (after.follows_lits whole rest joins (node.means_lits p)) = (rest, sym p ∙ joins)

        turns_begun :
            {o : ℕ} {w : Values} {b b2 : List ℕ} {ts : Trees} (b1 : List ℕ)
            → b ≡ b1 ++ b2 → PartsMean d parts o v b1 ts → Agree at w env seen
            → NodeFollows d (Many (many + 1)) (o + length b1) w b2 → TailBegun rules r tail o env b
        turns_begun {o = o} {b2 = b2} b1 joins p fits (after.follows_whole t (node.means_many m)) =
            in_stop b1 b2 [] (joins ∙ ap (λ z. b1 ++ z) (sym (append-nil b2))) (items_from rules r d first p) (more_from rules r d (turn _ fits) m)
            (spelled tail.end.stop.run (o + length b1 + length b2), refl)
        turns_begun {b2 = b2} b1 joins p fits (after.follows_many m) =
            in_turns b1 b2 joins (items_from rules r d first p) (more_followed rules r d (turn _ fits) m)

        stop_begun :
            {o : ℕ} {w u : Values} {b b2 c2 : List ℕ} {ts : Trees} {t : TreeV} (b1 c1 : List ℕ)
            → b ≡ b1 ++ b2 → PartsMean d parts o v b1 ts → Agree at w env seen → b2 ≡ c1 ++ c2
            → NodeMeans d (Many (many + 1)) (o + length b1) w c1 t
            → NodeFollows d (Lits tail.end.stop.run) (o + length b1 + length c1) u c2 → TailBegun rules r tail o env b
        stop_begun {c2 = c2} b1 c1 joins p fits joins' (node.means_many m) f =
            in_stop b1 c1 c2 (joins ∙ ap (λ z. b1 ++ z) joins') (items_from rules r d first p) (more_from rules r d (turn _ fits) m) (word_begun f)

        behind_begun :
            {o : ℕ} {w : Values} {b b2 : List ℕ} {ts : Trees} (b1 : List ℕ)
            → b ≡ b1 ++ b2 → PartsMean d parts o v b1 ts → Agree at w env seen
            → PartsFollow d (many ∷ stop ∷ []) (o + length b1) w b2 → TailBegun rules r tail o env b
        behind_begun b1 joins p fits (after.parts_here f) = turns_begun b1 joins p fits (followed_at rules r d many_at f)
        behind_begun b1 joins p fits (after.parts_later c1 c2 joins' h (after.parts_here f)) =
            stop_begun b1 c1 joins p fits joins' (meant_at rules r d many_at h) (followed_at rules r d stop_at f)
        behind_begun b1 joins p fits (after.parts_later c1 c2 joins' h (after.parts_later e1 e2 joins'' h' f)) = elim f [ ]

        split_begun :
            {o : ℕ} {b : List ℕ} → FollowSplit d at env seen parts (many ∷ stop ∷ []) o v b → TailBegun rules r tail o env b
        split_begun (in_parts f) = in_items (items_follow rules r d first f)
        split_begun (behind b1 b2 joins p fits f) = behind_begun b1 joins p fits f

        follows_from :
            {o : ℕ} {b : List ℕ} → NodeFollows d (Seq (parts ++ many ∷ stop ∷ [])) o v b → RuleFollows rules r rule o env b
        follows_from (after.follows_whole t h) = rule_followed rules r (means_from h)
        follows_from (after.follows_seq f) =
            follows_tail tail is (begun_tail rules r tail full (split_begun (split_follow d at env seen parts (many ∷ stop ∷ []) from a f)))

        pub tail_same : slice_get d.nodes at ≡ Some (Seq (parts ++ many ∷ stop ∷ [])) → SameRule rules r d rule at env v
        tail_same root = record {
          means = λ o b t. (λ h. means_at _ root (means_to h), λ h. means_from (meant_at rules r d root h));
          follows = λ o b. (λ f. follows_at _ root (follows_to f), λ f. follows_from (followed_at rules r d root f));
        }
