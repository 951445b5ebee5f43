-- What stays so where nodes are added at the end and the innermost one gets a part more.
use Rattle.std.proofs.Common.{◌≡◌, ℕ, ◌<◌, ◌≤◌, Bool, true, false, if◌then◌else◌, List, [], ◌∷◌, ◌++◌, refl, sym, ◌∙◌}
use Rattle.std.proofs.Common.{ap, subst, arith, Option, Some, None, IsSomeAnd}
use Rattle.std.specs.Prelude.{slice_get}
use Rattle.std.specs.Option.{option_and_then}
use Rattle.csn_desc.specs.declared.node.Count.{Count}
use Rattle.csn_desc.specs.declared.node.Count.TheVariants.{Fixed, Counted}
use Rattle.csn_desc.specs.declared.node.Node.{Node}
use Rattle.csn_desc.specs.declared.node.Node.TheVariants.{Lits, Spare, Pad, Null, Field, Rest, Seq, Choice, Times, Many, Trunc, Window, Named}
use Rattle.csn_desc.specs.declared.node.Head.{Head}
use Rattle.csn_desc.specs.declared.node.Head.TheVariants as head
use Rattle.csn_desc.specs.Nodes.{head_of}
use Rattle.csn_desc.specs.Values.{is_labelled, is_named}
use Rattle.csn_desc.specs.Formed.{width_of, labelled_part, value_width, IsCount, IsHead, shows_earlier, with_seen}
use Rattle.csn_desc.specs.Building.{with_part}
use Rattle.csn_desc.specs.Laid.{Laid, PartsLaid, laid, laid_end, laid_next, seen_behind}
use Rattle.csn_desc.specs.Standing.{IsPartAfter, Chain, chain_out, chain_in}
use Rattle.csn_desc.proofs.WellFormed.{laid_behind, parts_behind}

-- a node and what it is later: the same, or with other parts where it may have many
pub data Grown (n : Node) : Node → Type 0 where
  grown_same : {m : Node} → m ≡ n → Grown n m
  grown_seq : {m : Node} (parts more : List ℕ) → n ≡ Seq parts → m ≡ Seq more → Grown n m
  grown_choice : {m : Node} (parts more : List ℕ) → n ≡ Choice parts → m ≡ Choice more → Grown n m
  grown_trunc : {m : Node} (parts more : List ℕ) → n ≡ Trunc parts → m ≡ Trunc more → Grown n m

pub grown_part : (p : ℕ) (n : Node) → Grown n (with_part p n)
grown_part p (Lits run) = grown_same refl
grown_part p (Spare symbol) = grown_same refl
grown_part p Pad = grown_same refl
grown_part p Null = grown_same refl
grown_part p (Field unit count) = grown_same refl
grown_part p Rest = grown_same refl
grown_part p (Seq parts) = grown_seq parts (parts ++ p ∷ []) refl refl
grown_part p (Choice parts) = grown_choice parts (parts ++ p ∷ []) refl refl
grown_part p (Times count part) = grown_same refl
grown_part p (Many part) = grown_same refl
grown_part p (Trunc parts) = grown_trunc parts (parts ++ p ∷ []) refl refl
grown_part p (Window unit count part) = grown_same refl
grown_part p (Named label part) = grown_same refl

-- what does not go by the parts of such nodes stays
pub grown_keeps : {A : Type 0} (f : Node → A) → ((a b : List ℕ) → f (Seq a) ≡ f (Seq b))
    → ((a b : List ℕ) → f (Choice a) ≡ f (Choice b)) → ((a b : List ℕ) → f (Trunc a) ≡ f (Trunc b)) → {n m : Node}
    → Grown n m → f m ≡ f n
grown_keeps f s c t (grown_same e) = ap f e
grown_keeps f s c t (grown_seq parts more a b) = ap f b ∙ s more parts ∙ sym (ap f a)
grown_keeps f s c t (grown_choice parts more a b) = ap f b ∙ c more parts ∙ sym (ap f a)
grown_keeps f s c t (grown_trunc parts more a b) = ap f b ∙ t more parts ∙ sym (ap f a)

pub grown_head : {n m : Node} → Grown n m → head_of m ≡ head_of n
grown_head h = grown_keeps head_of (λ a b. refl) (λ a b. refl) (λ a b. refl) h

pub grown_shows : {n m : Node} → Grown n m → shows_earlier m ≡ shows_earlier n
grown_shows h = grown_keeps shows_earlier (λ a b. refl) (λ a b. refl) (λ a b. refl) h

grown_labelled : {n m : Node} → Grown n m → is_labelled (Some m) ≡ is_labelled (Some n)
grown_labelled h = grown_keeps (λ n. is_labelled (Some n)) (λ a b. refl) (λ a b. refl) (λ a b. refl) h

grown_behind : {n m : Node} → Grown n m → labelled_part (Some m) ≡ labelled_part (Some n)
grown_behind h = grown_keeps (λ n. labelled_part (Some n)) (λ a b. refl) (λ a b. refl) (λ a b. refl) h

grown_width : {n m : Node} → Grown n m → width_of (Some m) ≡ width_of (Some n)
grown_width h = grown_keeps (λ n. width_of (Some n)) (λ a b. refl) (λ a b. refl) (λ a b. refl) h

module _ (nodes others : List Node) where
  abbrev pub Grows : Type 0
  Grows = (k : ℕ) (n : Node) → slice_get nodes k ≡ Some n → (m : Node) × (slice_get others k ≡ Some m) × Grown n m

  module _ (grows : Grows) where
    pub named_kept : (k : ℕ) (n : Node) → slice_get nodes k ≡ Some n → is_named others k ≡ is_named nodes k
    named_kept k n at = let h = grows k n at in ap is_labelled h.1 ∙ grown_labelled h.2 ∙ sym (ap is_labelled at)

    width_same : (field part : ℕ) (n k : Node) → slice_get nodes field ≡ Some n → labelled_part (Some n) ≡ Some part
        → slice_get nodes part ≡ Some k → value_width others field ≡ value_width nodes field
    width_same field part n k at labelled inside =
        let above = grows field n at in
        let below = grows part k inside in
        let later : labelled_part (slice_get others field) ≡ Some part = ap labelled_part above.1 ∙ grown_behind above.2 ∙ labelled in
        let earlier : labelled_part (slice_get nodes field) ≡ Some part = ap labelled_part at ∙ labelled in
        ap (λ o. option_and_then (λ p. width_of (slice_get others p)) o) later
        ∙ ap width_of below.1 ∙ grown_width below.2 ∙ sym (ap width_of inside)
        ∙ sym (ap (λ o. option_and_then (λ p. width_of (slice_get nodes p)) o) earlier)

    width_at_part : (P : ℕ → Type 0) (field part : ℕ) (n : Node) (q : Option Node) → slice_get nodes field ≡ Some n
        → labelled_part (Some n) ≡ Some part → slice_get nodes part ≡ q → IsSomeAnd (value_width nodes field) P
        → IsSomeAnd (value_width others field) P
    width_at_part P field part n (Some k) at labelled inside h =
        let Q : Option ℕ → Type 0 = λ o. IsSomeAnd o P in subst Q (sym (width_same field part n k at labelled inside)) h
    width_at_part P field part n None at labelled inside h =
        let Q : Option ℕ → Type 0 = λ o. IsSomeAnd o P in
        let none : value_width nodes field ≡ None = ap (λ o. option_and_then (λ p. width_of (slice_get nodes p)) o)
        (ap labelled_part at ∙ labelled) ∙ ap width_of inside in
        absurd (subst Q none h)

    width_at_node : (P : ℕ → Type 0) (field : ℕ) (n : Node) (q : Option ℕ) → slice_get nodes field ≡ Some n
        → labelled_part (Some n) ≡ q → IsSomeAnd (value_width nodes field) P → IsSomeAnd (value_width others field) P
    width_at_node P field n (Some part) at labelled h = width_at_part P field part n (slice_get nodes part) at labelled refl h
    width_at_node P field n None at labelled h =
        let Q : Option ℕ → Type 0 = λ o. IsSomeAnd o P in
        let none : value_width nodes field ≡ None = ap (λ o. option_and_then (λ p. width_of (slice_get nodes p)) o) (ap labelled_part at ∙ labelled) in
        absurd (subst Q none h)

    width_at : (P : ℕ → Type 0) (field : ℕ) (q : Option Node)
        → slice_get nodes field ≡ q → IsSomeAnd (value_width nodes field) P → IsSomeAnd (value_width others field) P
    width_at P field (Some n) at h = width_at_node P field n (labelled_part (Some n)) at refl h
    width_at P field None at h =
        let Q : Option ℕ → Type 0 = λ o. IsSomeAnd o P in
        let none : value_width nodes field ≡ None = ap (λ o. option_and_then (λ p. width_of (slice_get nodes p)) (labelled_part o)) at in
        absurd (subst Q none h)

    -- the width of a labelled field stays
    pub width_kept : (P : ℕ → Type 0) (field : ℕ) → IsSomeAnd (value_width nodes field) P → IsSomeAnd (value_width others field) P
    width_kept P field h = width_at P field (slice_get nodes field) refl h

    count_kept : (seen : List ℕ) (count : Count) → IsCount nodes seen count → IsCount others seen count
    count_kept seen (Fixed n) h = h
    count_kept seen (Counted m field c) h = (h.0, h.1, h.2, width_kept (λ width. (1 ≤ width) × (width ≤ 16)) field h.3)

    pub head_kept : (seen : List ℕ) (h : Head) → IsHead nodes seen h → IsHead others seen h
    head_kept seen (head.Lits run) h = h
    head_kept seen (head.Spare symbol) h = h
    head_kept seen (head.Field unit count) h = (h.0, count_kept seen count h.1)
    head_kept seen (head.Times count) h = count_kept seen count h
    head_kept seen (head.Window unit count) h = (h.0, count_kept seen count h.1)
    head_kept seen head.Pad h = h
    head_kept seen head.Null h = h
    head_kept seen head.Rest h = h
    head_kept seen head.Seq h = h
    head_kept seen head.Choice h = h
    head_kept seen head.Many h = h
    head_kept seen head.Trunc h = h
    head_kept seen (head.Named label) h = h

    seen_kept : (shows : Bool) (i : ℕ) (seen : List ℕ) (n : Node) → slice_get nodes i ≡ Some n → with_seen others shows i seen ≡ with_seen nodes shows i seen
    seen_kept false i seen n at = refl
    seen_kept true i seen n at = ap (λ named. if named then i ∷ seen else seen) (named_kept i n at)

    laid_node : {seen : List ℕ} {round i end : ℕ} → Laid nodes seen round i end → (n : Node) × (slice_get nodes i ≡ Some n)
    laid_node (laid n at deep head has parts) = (n, at)

    abbrev pub SameFrom : ℕ → ℕ → Type 0
    SameFrom from end = (k : ℕ) → from ≤ k → k < end → slice_get others k ≡ slice_get nodes k

    mutual
      -- nodes stay laid where they stay the same
      pub laid_kept : {seen : List ℕ} {round i end : ℕ} → SameFrom i end → Laid nodes seen round i end → Laid others seen round i end
      laid_kept {seen = seen} {i = i} same (laid n at deep head has parts) =
          let here : slice_get others i ≡ Some n = same i (omega arith) (omega (arith, parts_behind nodes parts)) ∙ at in
          laid n here deep (head_kept seen (head_of n) head) has (parts_kept (λ k a b. same k (omega arith) b) parts)

      pub parts_kept : {shows : Bool} {seen : List ℕ} {round at end : ℕ} {parts : List ℕ}
          → SameFrom at end → PartsLaid nodes shows seen round parts at end
          → PartsLaid others shows seen round parts at end
      parts_kept same (laid_end e) = laid_end e
      parts_kept {shows = shows} {seen = seen} {round = round} {end = end} same (laid_next {i = i} {parts = parts} middle e h rest) =
          let node = laid_node h in
          let P : List ℕ → Type 0 = λ s. PartsLaid others shows s round parts middle end in
          let later : PartsLaid others shows (with_seen nodes shows i seen) round parts middle end =
          parts_kept (λ k a b. same k (omega (arith, laid_behind nodes h)) b) rest in
          laid_next middle e (laid_kept (λ k a b. same k (omega arith) (omega (arith, parts_behind nodes rest))) h)
          (subst P (sym (seen_kept shows i seen node.0 node.1)) later)

    pub behind_kept : {shows : Bool} {seen : List ℕ} {round at end : ℕ} {parts : List ℕ}
        → PartsLaid nodes shows seen round parts at end
        → seen_behind others shows parts seen ≡ seen_behind nodes shows parts seen
    behind_kept (laid_end e) = refl
    behind_kept {shows = shows} {seen = seen} (laid_next {i = i} {parts = parts} middle e h rest) =
        let node = laid_node h in
        ap (λ s. seen_behind others shows parts s) (seen_kept shows i seen node.0 node.1) ∙ behind_kept rest

    -- the innermost node stands before what comes next
    pub innermost_before : {above end : ℕ} {rest parts seen : List ℕ} → Chain nodes (above ∷ rest) end parts seen → above < end
    innermost_before (chain_in n before round c after at deep head h e) = omega (arith, parts_behind nodes h)

    pub after_kept : {end : ℕ} {parts seen : List ℕ} (before rest : List ℕ) (i : ℕ) → Chain nodes rest end parts seen
        → SameFrom 0 end → IsPartAfter nodes rest before i → IsPartAfter others rest before i
    after_kept before [] i c same h = h
    after_kept before (above ∷ rest) i c same h = (h.0, same above (omega arith) (innermost_before c) ∙ h.1, h.2)

    pub chain_kept : {around parts seen : List ℕ} {end : ℕ} → SameFrom 0 end → Chain nodes around end parts seen → Chain others around end parts seen
    chain_kept same (chain_out h e) = chain_out (parts_kept same h) e
    chain_kept same (chain_in {i = i} {rest = rest} n before round c after at deep head parts e) =
        let lower : SameFrom 0 i = λ k a b. same k a (omega (arith, parts_behind nodes parts)) in
        chain_in n before round (chain_kept lower c) (after_kept before rest i c lower after)
        (same i (omega arith) (omega (arith, parts_behind nodes parts)) ∙ at) deep (head_kept round (head_of n) head)
        (parts_kept (λ k a b. same k (omega arith) b) parts) (e ∙ sym (behind_kept parts))
