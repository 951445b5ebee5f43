-- An expression and a node that mean the same bits and follow the same bits, where their parts do: sequences,
-- truncations and repetitions.
use Rattle.std.proofs.Common.{◌≡◌, ℕ, List, [], ◌∷◌, sym, ◌∙◌, Some, None, IsFalse}
use Rattle.std.specs.Prelude.{slice_get}
use Rattle.csn_desc.specs.declared.reading.Reading.{Reading}
use Rattle.csn_desc.specs.declared.node.Count.{Count}
use Rattle.csn_desc.specs.declared.node.Node.TheVariants.{Seq, Times, Many, Trunc}
use Rattle.csn_desc.specs.TreeV.{TreeV, Trees}
use Rattle.csn_desc.specs.Nodes.{DescV}
use Rattle.csn_desc.specs.Values.{Values, with_value}
use Rattle.csn_desc.specs.Values as values
use Rattle.csn_desc.specs.Means.{NMeans, NodeMeans, PartsMean}
use Rattle.csn_desc.specs.Means as node
use Rattle.csn_desc.specs.Follows.{NFollow, NodeFollows, PartsFollow}
use Rattle.csn_desc.specs.Follows as after
use Rattle.csn_grammar.specs.declared.exponent.Exponent.{Exponent}
use Rattle.csn_grammar.specs.declared.exponent.Exponent.TheVariants.{Any}
use Rattle.csn_grammar.specs.ExprV.{ExprV, expr, ExprsV, no_item, item, seq, power, cut}
use Rattle.csn_grammar.specs.RulesV.{RulesV}
use Rattle.csn_grammar.specs.Forms.{unit_of, is_bit}
use Rattle.csn_grammar.specs.Environment.{Frame, Env, count_of, with_item}
use Rattle.csn_grammar.specs.Void.{SomeVoid}
use Rattle.csn_grammar.specs.Meaning.{Means, ItemsMean, TimesMean, ManyMean, LeadMean, means_field, means_rest}
use Rattle.csn_grammar.specs.Meaning.{means_seq, means_times, means_many, means_cut_all, means_cut, items_end}
use Rattle.csn_grammar.specs.Meaning.{items_next, times_end, times_next, many_end, many_next, lead_last, lead_next}
use Rattle.csn_grammar.specs.Follow.{Follow, ItemsFollow, TimesFollow, ManyFollow, follows_whole, follows_leaf}
use Rattle.csn_grammar.specs.Follow.{follows_seq, follows_times, follows_many, follows_cut, items_here, items_later}
use Rattle.csn_grammar.specs.Follow.{times_here, times_later, many_here, many_later}
use Rattle.csn_resolve.specs.Seen.{Seen}
use Rattle.csn_resolve.specs.Gives.{count_at}
use Rattle.csn_resolve.proofs.Meaning.SameLeaves.{Same, node_same}
use Rattle.csn_resolve.proofs.Meaning.SameLeaves as leaves

module _ (rules : RulesV) (r : Reading) (d : DescV) where
  -- items and parts one behind the other: each item and its part mean and follow the same, whatever bits the
  -- items before them have
  pub data SameItems : ExprsV → Frame → Env → List ℕ → Values → Type 0 where
    same_end : {fields : Frame} {env : Env} {v : Values} → SameItems no_item fields env [] v
    same_next :
        {x : ExprV} {xs : ExprsV} {fields : Frame} {env : Env} {i : ℕ} {parts : List ℕ} {v : Values}
        → Same rules r d x i (fields ∷ env) v
        → ((b : List ℕ) → SameItems xs (with_item r x b fields) env parts (with_value d.nodes i b v))
        → SameItems (item x xs) fields env (i ∷ parts) v

  -- ---- items

  pub items_to :
      {xs : ExprsV} {o : ℕ} {fields : Frame} {env : Env} {parts : List ℕ} {v : Values} {b : List ℕ} {ts : Trees}
      → SameItems xs fields env parts v → ItemsMean rules r xs o fields env b ts → PartsMean d parts o v b ts
  items_to same_end (items_end p) = node.parts_end p
  items_to (same_next here later) (items_next {t = t} b1 b2 joins h others) =
      node.parts_next b1 b2 joins ((here.means _ b1 t).0 h) (items_to (later b1) others)

  pub items_from :
      {xs : ExprsV} {o : ℕ} {fields : Frame} {env : Env} {parts : List ℕ} {v : Values} {b : List ℕ} {ts : Trees}
      → SameItems xs fields env parts v → PartsMean d parts o v b ts → ItemsMean rules r xs o fields env b ts
  items_from same_end (node.parts_end p) = items_end p
  items_from (same_next here later) (node.parts_next {t = t} b1 b2 joins h others) =
      items_next b1 b2 joins ((here.means _ b1 t).1 h) (items_from (later b1) others)

  lead_to :
      {xs : ExprsV} {o : ℕ} {fields : Frame} {env : Env} {parts : List ℕ} {v : Values} {b : List ℕ} {ts : Trees}
      → SameItems xs fields env parts v → LeadMean rules r xs o fields env b ts → node.LeadMean d parts o v b ts
  lead_to same_end h = elim h [ ]
  lead_to (same_next here later) (lead_last {b = b} {t = t} some h) = node.lead_last some ((here.means _ b t).0 h)
  lead_to (same_next here later) (lead_next {t = t} b1 b2 joins h others) =
      node.lead_next b1 b2 joins ((here.means _ b1 t).0 h) (lead_to (later b1) others)

  lead_from :
      {xs : ExprsV} {o : ℕ} {fields : Frame} {env : Env} {parts : List ℕ} {v : Values} {b : List ℕ} {ts : Trees}
      → SameItems xs fields env parts v → node.LeadMean d parts o v b ts → LeadMean rules r xs o fields env b ts
  lead_from same_end h = elim h [ ]
  lead_from (same_next here later) (node.lead_last {b = b} {t = t} some h) = lead_last some ((here.means _ b t).1 h)
  lead_from (same_next here later) (node.lead_next {t = t} b1 b2 joins h others) =
      lead_next b1 b2 joins ((here.means _ b1 t).1 h) (lead_from (later b1) others)

  pub parts_follow :
      {xs : ExprsV} {o : ℕ} {fields : Frame} {env : Env} {parts : List ℕ} {v : Values} {b : List ℕ}
      → SameItems xs fields env parts v → ItemsFollow rules r xs o fields env b → PartsFollow d parts o v b
  parts_follow same_end f = elim f [ ]
  parts_follow (same_next here later) (items_here {b = b} f) = after.parts_here ((here.follows _ b).0 f)
  parts_follow (same_next here later) (items_later {t = t} b1 b2 joins h others) =
      after.parts_later b1 b2 joins ((here.means _ b1 t).0 h) (parts_follow (later b1) others)

  pub items_follow :
      {xs : ExprsV} {o : ℕ} {fields : Frame} {env : Env} {parts : List ℕ} {v : Values} {b : List ℕ}
      → SameItems xs fields env parts v → PartsFollow d parts o v b → ItemsFollow rules r xs o fields env b
  items_follow same_end f = elim f [ ]
  items_follow (same_next here later) (after.parts_here {b = b} f) = items_here ((here.follows _ b).1 f)
  items_follow (same_next here later) (after.parts_later {t = t} b1 b2 joins h others) =
      items_later b1 b2 joins ((here.means _ b1 t).1 h) (items_follow (later b1) others)

  -- ---- sequences and truncations

  module _ {xs : ExprsV} {env : Env} {parts : List ℕ} {v : Values} (same : SameItems xs [] env parts v) where
    seq_to : {s e o : ℕ} {b : List ℕ} {t : TreeV} → Means rules r (expr s e (seq xs)) o env b t → NodeMeans d (Seq parts) o v b t
    seq_to (means_seq h) = node.means_seq (items_to same h)

    seq_from : {s e o : ℕ} {b : List ℕ} {t : TreeV} → NodeMeans d (Seq parts) o v b t → Means rules r (expr s e (seq xs)) o env b t
    seq_from (node.means_seq h) = means_seq (items_from same h)

    seq_follows : {s e o : ℕ} {b : List ℕ} → Follow rules r (expr s e (seq xs)) o env b → NodeFollows d (Seq parts) o v b
    seq_follows (follows_whole t h) = after.follows_whole t (seq_to h)
    seq_follows (follows_leaf whole rest leaf joins h) = cc
    seq_follows (follows_seq full f) = after.follows_seq (parts_follow same f)

    seq_followed :
        {s e o : ℕ} {b : List ℕ}
        → ¬ SomeVoid rules r xs → NodeFollows d (Seq parts) o v b → Follow rules r (expr s e (seq xs)) o env b
    seq_followed full (after.follows_whole t h) = follows_whole t (seq_from h)
    seq_followed full (after.follows_seq f) = follows_seq full (items_follow same f)

    cut_to : {s e o : ℕ} {b : List ℕ} {t : TreeV} → Means rules r (expr s e (cut xs)) o env b t → NodeMeans d (Trunc parts) o v b t
    cut_to (means_cut_all p) = node.means_cut p
    cut_to (means_cut h) = node.means_trunc (lead_to same h)

    cut_from : {s e o : ℕ} {b : List ℕ} {t : TreeV} → NodeMeans d (Trunc parts) o v b t → Means rules r (expr s e (cut xs)) o env b t
    cut_from (node.means_cut p) = means_cut_all p
    cut_from (node.means_trunc h) = means_cut (lead_from same h)

    cut_follows : {s e o : ℕ} {b : List ℕ} → Follow rules r (expr s e (cut xs)) o env b → NodeFollows d (Trunc parts) o v b
    cut_follows (follows_whole t h) = after.follows_whole t (cut_to h)
    cut_follows (follows_leaf whole rest leaf joins h) = cc
    cut_follows (follows_cut f) = after.follows_trunc (parts_follow same f)

    cut_followed : {s e o : ℕ} {b : List ℕ} → NodeFollows d (Trunc parts) o v b → Follow rules r (expr s e (cut xs)) o env b
    cut_followed (after.follows_whole t h) = follows_whole t (cut_from h)
    cut_followed (after.follows_trunc f) = follows_cut (items_follow same f)

  pub seq_same :
      {s e i : ℕ} {xs : ExprsV} {env : Env} {parts : List ℕ} {v : Values} → ¬ SomeVoid rules r xs
      → SameItems xs [] env parts v → slice_get d.nodes i ≡ Some (Seq parts) → Same rules r d (expr s e (seq xs)) i env v
  seq_same {parts = parts} full same at =
      node_same rules r d (Seq parts) at (λ o b t. (seq_to same, seq_from same)) (λ o b. (seq_follows same, seq_followed same full))

  pub cut_same :
      {s e i : ℕ} {xs : ExprsV} {env : Env} {parts : List ℕ} {v : Values}
      → SameItems xs [] env parts v → slice_get d.nodes i ≡ Some (Trunc parts) → Same rules r d (expr s e (cut xs)) i env v
  cut_same {parts = parts} same at =
      node_same rules r d (Trunc parts) at (λ o b t. (cut_to same, cut_from same)) (λ o b. (cut_follows same, cut_followed same))

  -- ---- repetitions

  module _ {x : ExprV} {i : ℕ} {env : Env} {v : Values} (same : Same rules r d x i env v) where
    turns_to : {n o : ℕ} {b : List ℕ} {ts : Trees} → TimesMean rules r n x o env b ts → node.TimesMean d n i o v b ts
    turns_to (times_end none p) = node.times_end none p
    turns_to (times_next {t = t} m is b1 b2 joins h others) = node.times_next m is b1 b2 joins ((same.means _ b1 t).0 h) (turns_to others)

    turns_from : {n o : ℕ} {b : List ℕ} {ts : Trees} → node.TimesMean d n i o v b ts → TimesMean rules r n x o env b ts
    turns_from (node.times_end none p) = times_end none p
    turns_from (node.times_next {t = t} m is b1 b2 joins h others) = times_next m is b1 b2 joins ((same.means _ b1 t).1 h) (turns_from others)

    turns_follow : {n o : ℕ} {b : List ℕ} → TimesFollow rules r n x o env b → after.TimesFollow d n i o v b
    turns_follow (times_here {b = b} some f) = after.times_here some ((same.follows _ b).0 f)
    turns_follow (times_later {t = t} m is b1 b2 joins h others) = after.times_later m is b1 b2 joins ((same.means _ b1 t).0 h) (turns_follow others)

    turns_followed : {n o : ℕ} {b : List ℕ} → after.TimesFollow d n i o v b → TimesFollow rules r n x o env b
    turns_followed (after.times_here {b = b} some f) = times_here some ((same.follows _ b).1 f)
    turns_followed (after.times_later {t = t} m is b1 b2 joins h others) = times_later m is b1 b2 joins ((same.means _ b1 t).1 h) (turns_followed others)

    pub more_to : {o : ℕ} {b : List ℕ} {ts : Trees} → ManyMean rules r x o env b ts → node.ManyMean d i o v b ts
    more_to (many_end p) = node.many_end p
    more_to (many_next {t = t} b1 b2 joins some h others) = node.many_next b1 b2 joins some ((same.means _ b1 t).0 h) (more_to others)

    pub more_from : {o : ℕ} {b : List ℕ} {ts : Trees} → node.ManyMean d i o v b ts → ManyMean rules r x o env b ts
    more_from (node.many_end p) = many_end p
    more_from (node.many_next {t = t} b1 b2 joins some h others) = many_next b1 b2 joins some ((same.means _ b1 t).1 h) (more_from others)

    pub more_follow : {o : ℕ} {b : List ℕ} → ManyFollow rules r x o env b → after.ManyFollow d i o v b
    more_follow (many_here {b = b} f) = after.many_here ((same.follows _ b).0 f)
    more_follow (many_later {t = t} b1 b2 joins some h others) = after.many_later b1 b2 joins some ((same.means _ b1 t).0 h) (more_follow others)

    pub more_followed : {o : ℕ} {b : List ℕ} → after.ManyFollow d i o v b → ManyFollow rules r x o env b
    more_followed (after.many_here {b = b} f) = many_here ((same.follows _ b).1 f)
    more_followed (after.many_later {t = t} b1 b2 joins some h others) = many_later b1 b2 joins some ((same.means _ b1 t).1 h) (more_followed others)

    times_to :
        {s e o : ℕ} {k : Exponent} {b : List ℕ} {t : TreeV} (count : Count) (seen : Seen ℕ)
        → unit_of x ≡ None → count_at seen k ≡ Some count → count_of env k ≡ values.count_of v count
        → Means rules r (expr s e (power x k)) o env b t → NodeMeans d (Times count i) o v b t
    times_to count seen none counted agree (means_field unit n is number wide h) = cc
    times_to count seen none counted agree (means_rest is h) = cc
    times_to count seen none counted agree (means_times n none' number h) = node.means_times n (sym agree ∙ number) (turns_to h)
    times_to count seen none counted agree (means_many not h) = cc

    times_from :
        {s e o : ℕ} {k : Exponent} {b : List ℕ} {t : TreeV} (count : Count)
        → unit_of x ≡ None → count_of env k ≡ values.count_of v count
        → NodeMeans d (Times count i) o v b t → Means rules r (expr s e (power x k)) o env b t
    times_from count none agree (node.means_times n number h) = means_times n none (agree ∙ number) (turns_from h)

    times_follows :
        {s e o : ℕ} {k : Exponent} {b : List ℕ} (count : Count) (seen : Seen ℕ)
        → unit_of x ≡ None → count_at seen k ≡ Some count → count_of env k ≡ values.count_of v count
        → Follow rules r (expr s e (power x k)) o env b → NodeFollows d (Times count i) o v b
    times_follows count seen none counted agree (follows_whole t h) = after.follows_whole t (times_to count seen none counted agree h)
    times_follows {s = s} {e = e} {k = k} count seen none counted agree (follows_leaf whole rest leaf joins h) =
        absurd (leaves.no_field s e x k none leaf)
    times_follows count seen none counted agree (follows_times n none' number f) = after.follows_times n (sym agree ∙ number) (turns_follow f)
    times_follows count seen none counted agree (follows_many not f) = cc

    times_followed :
        {s e o : ℕ} {k : Exponent} {b : List ℕ} (count : Count)
        → unit_of x ≡ None → count_of env k ≡ values.count_of v count
        → NodeFollows d (Times count i) o v b → Follow rules r (expr s e (power x k)) o env b
    times_followed count none agree (after.follows_whole t h) = follows_whole t (times_from count none agree h)
    times_followed count none agree (after.follows_times n number f) = follows_times n none (agree ∙ number) (turns_followed f)

    pub times_same :
        {s e j : ℕ} {k : Exponent} (count : Count) (seen : Seen ℕ)
        → unit_of x ≡ None → count_at seen k ≡ Some count → count_of env k ≡ values.count_of v count
        → slice_get d.nodes j ≡ Some (Times count i) → Same rules r d (expr s e (power x k)) j env v
    times_same count seen none counted agree at =
        node_same rules r d (Times count i) at
        (λ o b t. (times_to count seen none counted agree, times_from count none agree))
        (λ o b. (times_follows count seen none counted agree, times_followed count none agree))

    module _ (other : IsFalse (is_bit x)) where
      many_to :
          {s e o : ℕ} {b : List ℕ} {t : TreeV}
          → Means rules r (expr s e (power x Any)) o env b t → NodeMeans d (Many i) o v b t
      many_to (means_field unit n is number wide h) = cc
      many_to (means_rest is h) = cc
      many_to (means_times n none number h) = cc
      many_to (means_many not h) = node.means_many (more_to h)

      many_from :
          {s e o : ℕ} {b : List ℕ} {t : TreeV}
          → NodeMeans d (Many i) o v b t → Means rules r (expr s e (power x Any)) o env b t
      many_from (node.means_many h) = means_many other (more_from h)

      many_follows :
          {s e o : ℕ} {b : List ℕ} → Follow rules r (expr s e (power x Any)) o env b → NodeFollows d (Many i) o v b
      many_follows (follows_whole t h) = after.follows_whole t (many_to h)
      many_follows (follows_leaf whole rest leaf joins h) = cc
      many_follows (follows_times n none number f) = cc
      many_follows (follows_many not f) = after.follows_many (more_follow f)

      many_followed :
          {s e o : ℕ} {b : List ℕ} → NodeFollows d (Many i) o v b → Follow rules r (expr s e (power x Any)) o env b
      many_followed (after.follows_whole t h) = follows_whole t (many_from h)
      many_followed (after.follows_many f) = follows_many other (more_followed f)

      pub many_same : {s e j : ℕ} → slice_get d.nodes j ≡ Some (Many i) → Same rules r d (expr s e (power x Any)) j env v
      many_same at =
          node_same rules r d (Many i) at (λ o b t. (many_to, many_from)) (λ o b. (many_follows, many_followed))
