-- What a named rule means and follows is what its description means and follows.
use Rattle.std.proofs.Common.{◌≡◌, ◌↔◌, ℕ, suc, ◌+◌, List, [], ◌∷◌, ◌++◌, length, take, refl, sym, subst, arith, Some, None}
use Rattle.csn_desc.specs.declared.reading.Reading.{Reading}
use Rattle.csn_desc.specs.declared.node.Node.{Node}
use Rattle.csn_desc.specs.declared.node.Node.TheVariants.{Lits, Seq, Many}
use Rattle.csn_desc.specs.TreeV.{TreeV}
use Rattle.csn_desc.specs.Nodes.{DescV}
use Rattle.csn_desc.specs.Values.{Values, with_value}
use Rattle.csn_desc.specs.Means.{NMeans}
use Rattle.csn_desc.specs.Follows.{NFollow}
use Rattle.csn_desc.specs.Follows as after
use Rattle.csn_grammar.specs.declared.rules.Rule.{Rule}
use Rattle.csn_grammar.specs.ExprV.{ExprV, ExprsV, no_item, item}
use Rattle.csn_grammar.specs.RulesV.{RulesV}
use Rattle.csn_grammar.specs.Names.{rule_of}
use Rattle.csn_grammar.specs.Environment as grammar
use Rattle.csn_grammar.specs.Environment.{Env, label_of, with_item}
use Rattle.csn_grammar.specs.TailForm.{tail_of}
use Rattle.csn_grammar.specs.Void.{SomeVoid, void_seq}
use Rattle.csn_grammar.specs.Meaning as meaning
use Rattle.csn_grammar.specs.Meaning.{RuleMeans}
use Rattle.csn_grammar.specs.Follow.{RuleFollows, follows_plain, follows_tail}
use Rattle.csn_grammar.specs.Strings.{Strings, Followed}
use Rattle.csn_grammar.specs.Strings as blocks
use Rattle.csn_grammar.proofs.VoidFacts.{same_rule}
use Rattle.csn_resolve.specs.Seen.{Frame, Seen}
use Rattle.csn_grammar.specs.Shaped.{IsShaped, AreShaped}
use Rattle.csn_resolve.specs.Gives.{Placed, placed, Gives, ItemsGive, EachGives, RuleGives, gives_lits, gives_null}
use Rattle.csn_resolve.specs.Gives.{gives_bit, gives_octet, gives_field, gives_rest, gives_spare_bit, gives_spare_low}
use Rattle.csn_resolve.specs.Gives.{gives_padding, gives_seq, gives_choice, gives_only, gives_times, gives_many}
use Rattle.csn_resolve.specs.Gives.{gives_cut, gives_window, gives_labelled, gives_name, gives_group, gives_received}
use Rattle.csn_resolve.specs.Gives.{gives_sent, items_end, items_next, each_end, each_next, rule_plain, rule_tail}
use Rattle.csn_resolve.specs.Resolved.{nodes_of, IsResolved}
use Rattle.csn_resolve.proofs.Emptiness.Full.{gives_full}
use Rattle.csn_resolve.proofs.Laying.Holding.{Holds, holds_along, holds_from, holds_first, holds_rest, holds_behind, node_from}
use Rattle.csn_resolve.proofs.Meaning.Agreement.{Agree, counts_agree, agree_later, agree_item}
use Rattle.csn_resolve.proofs.Laying.NodeFacts.{gives_some, items_behind, label_named}
use Rattle.csn_resolve.proofs.Meaning.SameLeaves.{Same, lits_same, null_same, is_one_bit, is_one_octet, unit_same}
use Rattle.csn_resolve.proofs.Meaning.SameLeaves.{field_same, rest_same, padding_same, spare_same, spare_zero}
use Rattle.csn_resolve.proofs.Meaning.SameLeaves.{spare_one_low}
use Rattle.csn_resolve.proofs.Meaning.SameParts.{SameItems, same_end, same_next, seq_same, cut_same, times_same, many_same}
use Rattle.csn_resolve.proofs.Meaning.SameForms.{SameEach, SameRule, choice_same, only_same, window_same, label_same}
use Rattle.csn_resolve.proofs.Meaning.SameForms.{group_same, received_same, sent_same, name_same}
use Rattle.csn_resolve.proofs.Meaning.SameForms as forms
use Rattle.csn_resolve.proofs.Meaning.SameTails.{tail_same}
use Rattle.csn_resolve.proofs.Naming.TailShaped.{again_some, rule_shaped}

module _ (rules : RulesV) (r : Reading) where
  items_full :
      {xs : ExprsV} {at : ℕ} {seen : Seen ℕ} {parts : List ℕ} {nodes : List Placed}
      → ItemsGive rules r xs (suc at) [] seen parts nodes → ¬ SomeVoid rules r xs
  items_full {parts = parts} {nodes = nodes} g v = gives_full rules r (gives_seq {s = 0} {e = 0} g refl) (void_seq v)

  module _ (d : DescV) where
    -- ---- rules that are not in tail form

    module _ {rule : Rule} {i : ℕ} {env : Env} {v : Values} (plain : tail_of rule ≡ None) (same : Same rules r d rule.body i env v) where
      plain_to : {o : ℕ} {b : List ℕ} {t : TreeV} → RuleMeans rules r rule o env b t → NMeans d i o v b t
      plain_to {o = o} {b = b} {t = t} (meaning.rule_plain is h) = (same.means o b t).0 h
      plain_to (meaning.rule_tail tail is h) = cc

      plain_follows : {o : ℕ} {b : List ℕ} → RuleFollows rules r rule o env b → NFollow d i o v b
      plain_follows {o = o} {b = b} (follows_plain is f) = (same.follows o b).0 f
      plain_follows (follows_tail tail is f) = cc

      plain_same : SameRule rules r d rule i env v
      plain_same = record {
        means = λ o b t. (plain_to, λ h. meaning.rule_plain plain ((same.means o b t).1 h));
        follows = λ o b. (plain_follows, λ f. follows_plain plain ((same.follows o b).1 f));
      }

    module _ (reading : d.reading ≡ r) (shaped : AreShaped rules) where
      mutual
        gives_same :
            {x : ExprV} {at : ℕ} {seen : Seen ℕ} {nodes : List Placed} → Gives rules r x at seen nodes → Holds d.nodes at nodes
            → (env : Env) (v : Values) → Agree at v env seen → Same rules r d x at env v
        gives_same {at = at} (gives_lits p) h env v a = let here = holds_along d.nodes at p h in lits_same rules r d here.0
        gives_same {at = at} (gives_null p) h env v a = let here = holds_along d.nodes at p h in null_same rules r d here.0
        gives_same {at = at} (gives_bit p) h env v a = let here = holds_along d.nodes at p h in unit_same rules r d is_one_bit here.0
        gives_same {at = at} (gives_octet p) h env v a = let here = holds_along d.nodes at p h in unit_same rules r d is_one_octet here.0
        gives_same {at = at} {seen = seen} (gives_field {k = k} unit count is counted p) h env v a =
            let here = holds_along d.nodes at p h in
            field_same rules r d unit count seen is counted (counts_agree at v env seen k count a counted) here.0
        gives_same {at = at} (gives_rest is p) h env v a = let here = holds_along d.nodes at p h in rest_same rules r d is here.0
        gives_same {at = at} (gives_spare_bit is p) h env v a = let here = holds_along d.nodes at p h in spare_same rules r d reading (spare_zero is) here.0
        gives_same {at = at} (gives_spare_low is p) h env v a = let here = holds_along d.nodes at p h in spare_same rules r d reading (spare_one_low is) here.0
        gives_same {at = at} (gives_padding is p) h env v a = let here = holds_along d.nodes at p h in padding_same rules r d reading is here.0
        gives_same {at = at} {seen = seen} (gives_seq g p) h env v a =
            let here = holds_along d.nodes at p h in
            seq_same rules r d (items_full g) (items_same g here.1 env v [] (tt, agree_later at (suc at) v env seen (omega arith) a)) here.0
        gives_same {at = at} {seen = seen} (gives_choice xs kept two g p) h env v a =
            let here = holds_along d.nodes at p h in
            choice_same rules r d kept two (each_same g here.1 env v (agree_later at (suc at) v env seen (omega arith) a)) here.0
        gives_same (gives_only kept g) h env v a = only_same rules r d kept (gives_same g h env v a)
        gives_same {at = at} {seen = seen} (gives_times {k = k} count none g_count g p) h env v a =
            let here = holds_along d.nodes at p h in
            times_same rules r d (gives_same g here.1 env v (agree_later at (suc at) v env seen (omega arith) a)) count seen none g_count
            (counts_agree at v env seen k count a g_count) here.0
        gives_same {at = at} {seen = seen} (gives_many other g p) h env v a =
            let here = holds_along d.nodes at p h in
            many_same rules r d (gives_same g here.1 env v (agree_later at (suc at) v env seen (omega arith) a)) other here.0
        gives_same {at = at} {seen = seen} (gives_cut g p) h env v a =
            let here = holds_along d.nodes at p h in
            cut_same rules r d (items_same g here.1 env v [] (tt, agree_later at (suc at) v env seen (omega arith) a)) here.0
        gives_same {at = at} {seen = seen} (gives_window w count is counted g p) h env v a =
            let here = holds_along d.nodes at p h in
            window_same rules r d w count is (counts_agree at v env seen w.width.count count a counted)
            (gives_same g here.1 env v (agree_later at (suc at) v env seen (omega arith) a)) here.0
        gives_same {at = at} {seen = seen} (gives_labelled g p) h env v a =
            let here = holds_along d.nodes at p h in
            label_same rules r d (gives_same g here.1 env v (agree_later at (suc at) v env seen (omega arith) a)) here.0
        gives_same (gives_name {n = n} rule is g) h env v a =
            name_same rules r d n rule is (rule_same (rule_shaped rules n rule shaped is) g h env v a)
        gives_same (gives_group g) h env v a = group_same rules r d (gives_same g h env v a)
        gives_same (gives_received is g) h env v a = received_same rules r d (gives_same g h env v a) is
        gives_same (gives_sent is g) h env v a = sent_same rules r d (gives_same g h env v a) is

        items_same :
            {xs : ExprsV} {at : ℕ} {frame : Frame ℕ} {seen : Seen ℕ} {parts : List ℕ} {nodes : List Placed}
            → ItemsGive rules r xs at frame seen parts nodes → Holds d.nodes at nodes
            → (env : Env) (v : Values) (fields : grammar.Frame) → Agree at v (fields ∷ env) (frame ∷ seen)
            → SameItems rules r d xs fields env parts v
        items_same (items_end p q) h env v fields a =
            let P : List ℕ → Type 0 = λ z. SameItems rules r d no_item fields env z v in subst P (sym p) same_end
        items_same {at = at} {frame = frame} {seen = seen} (items_next {x = x} {xs = xs} first rest g others p q) h env v fields a =
            let here = holds_along d.nodes at q h in
            let own = holds_first d.nodes at first rest here in
            let P : List ℕ → Type 0 = λ z. SameItems rules r d (item x xs) fields env z v in
            subst P (sym p)
            (same_next (gives_same g own (fields ∷ env) v a)
            (λ b. items_same others (holds_rest d.nodes at first rest here) env (with_value d.nodes at b v) (with_item r x b fields)
            (agree_item d.nodes r x at (at + length first) b v env seen fields frame (label_named rules r d.nodes g own)
            (omega (arith, gives_some rules r g)) a)))

        each_same :
            {xs : List ExprV} {at : ℕ} {seen : Seen ℕ} {parts : List ℕ} {nodes : List Placed}
            → EachGives rules r xs at seen parts nodes → Holds d.nodes at nodes
            → (env : Env) (v : Values) → Agree at v env seen → SameEach rules r d xs parts env v
        each_same (each_end p q) h env v a =
            let P : List ℕ → Type 0 = λ z. SameEach rules r d [] z env v in subst P (sym p) forms.each_end
        each_same {at = at} {seen = seen} (each_next {x = x} {xs = xs} first rest g others p q) h env v a =
            let here = holds_along d.nodes at q h in
            let P : List ℕ → Type 0 = λ z. SameEach rules r d (x ∷ xs) z env v in
            subst P (sym p)
            (forms.each_next (gives_same g (holds_first d.nodes at first rest here) env v a)
            (each_same others (holds_rest d.nodes at first rest here) env v (agree_later at (at + length first) v env seen (omega arith) a)))

        rule_same :
            {rule : Rule} {at : ℕ} {seen : Seen ℕ} {nodes : List Placed}
            → IsShaped rule.body → RuleGives rules r rule at seen nodes → Holds d.nodes at nodes
            → (env : Env) (v : Values) → Agree at v env seen → SameRule rules r d rule at env v
        rule_same body (rule_plain is g) h env v a = plain_same is (gives_same g h env v a)
        rule_same {rule = rule} {at = at} {seen = seen} {nodes = nodes} body
            (rule_tail tail many stop parts turn_parts items turn is i many_is t stop_is p) h env v a =
            let last : List Placed = placed (Lits tail.end.stop.run) tail.end.stop.at ∷ [] in
            let turns : List Placed =
            placed (Many (many + 1)) tail.end.braces ∷ placed (Seq ((many + 2) ∷ turn_parts)) tail.end.again.at
            ∷ placed (Lits tail.end.again.run) tail.end.again.at ∷ (turn ++ last) in
            let root : Node = Seq (parts ++ many ∷ stop ∷ []) in
            let all = holds_along d.nodes at p h in
            let here : Holds d.nodes (suc at) (items ++ turns) = all.1 in
            let at_many : Holds d.nodes many turns = holds_from d.nodes turns (sym many_is) (holds_rest d.nodes (suc at) items turns here) in
            let at_turn : Holds d.nodes (many + 3) (turn ++ last) = holds_from d.nodes (turn ++ last) (omega arith) at_many.1.1.1 in
            let at_stop : Holds d.nodes stop last = holds_from d.nodes last (sym stop_is) (holds_rest d.nodes (many + 3) turn last at_turn) in
            tail_same rules r d at env seen rule tail is (again_some rule tail is body) (items_full i) many stop parts turn_parts
            (items_behind rules r at (omega arith) i) (omega (arith, many_is)) at_many.0
            (node_from d.nodes (omega arith) at_many.1.0) (node_from d.nodes (omega arith) at_many.1.1.0) at_stop.0
            (λ w fits. items_same t (holds_first d.nodes (many + 3) turn last at_turn) env w []
            (tt, agree_later at (many + 3) w env seen (omega (arith, many_is)) fits))
            v a (items_same i (holds_first d.nodes (suc at) items turns here) env v [] (tt, agree_later at (suc at) v env seen (omega arith) a))
            all.0

  -- ---- named rules

  pub named_same :
      {n : List ℕ} {d : DescV} (rule : Rule) → AreShaped rules → IsResolved rules n r d → rule_of rules n ≡ Some rule → SameRule rules r d rule 0 [] []
  named_same {n = n} {d = d} rule shaped h found =
      let given = h.given in
      let nodes = h.nodes in
      let is = h.is in
      let whole : DescV = record { reading = r; nodes = nodes_of nodes } in
      let same = rule_same whole refl shaped (rule_shaped rules n given.rule shaped given.found) given.gives (holds_behind [] nodes) [] [] tt in
      let P : DescV → Type 0 = λ z. SameRule rules r z rule 0 [] [] in
      let Q : Rule → Type 0 = λ z. SameRule rules r whole z 0 [] [] in
      subst P (sym is) (subst Q (same_rule rules n given.found found) same)

  module _ {n : List ℕ} {d : DescV} (shaped : AreShaped rules) (h : IsResolved rules n r d) where
    pub strings_kept : (b : List ℕ) (t : TreeV) → Strings rules n r b t ↔ NMeans d 0 0 [] b t
    strings_kept b t = (
      λ s. ((named_same s.0 shaped h s.1).means 0 b t).0 s.2,
      λ m. (let given = h.given in (given.rule, given.found, ((named_same given.rule shaped h given.found).means 0 b t).1 m)),
    )

    pub followed_kept : (b : List ℕ) → Followed rules n r b ↔ NFollow d 0 0 [] b
    followed_kept b = (
      λ s. ((named_same s.0 shaped h s.1).follows 0 b).0 s.2,
      λ f. (let given = h.given in (given.rule, given.found, ((named_same given.rule shaped h given.found).follows 0 b).1 f)),
    )

    pub places_kept : (b : List ℕ) (place : ℕ) → blocks.IsPlace rules n r b place ↔ after.IsPlace d b place
    places_kept b place = (
      λ p. record {
        within = p.within;
        followed = (followed_kept (take place b)).0 p.followed;
        greatest = λ many few f. p.greatest many few ((followed_kept (take many b)).1 f);
      },
      λ p. record {
        within = p.within;
        followed = (followed_kept (take place b)).1 p.followed;
        greatest = λ many few f. p.greatest many few ((followed_kept (take many b)).0 f);
      },
    )
