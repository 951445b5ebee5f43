-- Look-ahead: the alternative of a choice that is taken, and the turns of a free repetition.
use Rattle.std.proofs.Common.{◌≡◌, ℕ, suc, ◌+◌, ◌-◌, ◌%◌, ◌<◌, ◌≤◌, false, List, [], ◌∷◌, ◌++◌, length, take, refl}
use Rattle.std.proofs.Common.{sym, ◌∙◌, ap, subst, arith, append_assoc, append-nil, length-append, Option, Some}
use Rattle.std.proofs.Common.{slice_get}
use Rattle.std.proofs.Math.Seq.{take-append_seam}
use Rattle.csn_desc.specs.declared.moves.Move.{Move}
use Rattle.csn_desc.specs.declared.moves.Move.TheVariants.{Leave}
use Rattle.csn_desc.specs.declared.node.Node.TheVariants.{Choice, Many}
use Rattle.csn_desc.specs.TreeV.{TreeV, Trees, row, alt}
use Rattle.csn_desc.specs.TreeV as tree
use Rattle.csn_desc.specs.Nodes.{DescV}
use Rattle.csn_desc.specs.Values.{Values}
use Rattle.csn_desc.specs.Means.{NMeans, ManyMean, means_at, means_choice, means_many, many_end, many_next}
use Rattle.csn_desc.specs.Follows.{NFollow, ManyFollow, follows_at, follows_whole, follows_many, many_here, many_later}
use Rattle.csn_desc.specs.Walks.{RepeatsWalk, repeats_end, repeats_next}
use Rattle.csn_desc.specs.Formed.{IsDescription}
use Rattle.csn_desc.proofs.Splits.{splits}
use Rattle.csn_desc.proofs.Splits as split
use Rattle.csn_look.specs.Reached.{Reached, MayStandBehind}
use Rattle.csn_certify.specs.declared.pick.Pick.TheVariants.{Take, Leave as LeaveIt}
use Rattle.csn_certify.specs.Conflicts.{Certified}
use Rattle.csn_certify.specs.Picks.{Picks}
use Rattle.csn_certify.specs.Ahead.{LiesAhead}
use Rattle.csn_judge.specs.Left.{Left, all_left, window_left, choice_left, none_left, free_left, Completes}
use Rattle.csn_judge.specs.Left.{completes_all, completes_choice, completes_none, completes_free, Begins}
use Rattle.csn_judge.specs.Left.{begins_whole, begins_all, begins_choice, begins_free}
use Rattle.csn_judge.specs.Remains.{IsUpTo, Within, Rest, rest_next, Goes, goes_next, goes_here, Agrees, shorter, longer, Steps}
use Rattle.csn_judge.specs.Inside.{IsReady, Inside}
use Rattle.csn_judge.proofs.StepFacts.{Both, BeginsBoth, begins_inner, begins_left, BothGone, gone_here, gone_on}
use Rattle.csn_judge.proofs.StepFacts.{both_gone, both_go, both_rest, both_goes, rest_both, steps_quietly}
use Rattle.csn_judge.proofs.Parts.{Moving, walk_takes, follow_whole, followed_all, ended, walk_on, walk_off, part_apart}
use Rattle.csn_judge.proofs.Standing.{rest_stands, goes_stands, choice_width, many_width}
use Rattle.csn_judge.proofs.Alternatives.{chosen, unchosen, unchosen_goes}
use Rattle.csn_judge.specs.Known.{Known}

-- ---- lists

-- how bits stand to a word, where both begin what comes next
pub data Against (b h : List ℕ) : Type 0 where
  beyond : (rest : List ℕ) → b ≡ h ++ rest → Against b h
  before : (rest : List ℕ) → h ≡ b ++ rest → 0 < length rest → Against b h

against : (b h x y : List ℕ) → b ++ x ≡ h ++ y → Against b h
against b h x y e =
    elim (splits b x h y e) [
      | split.inside m p q ↦ beyond m p
      | split.behind m p q ↦ parted m p
    ]
  where
    parted : (m : List ℕ) → h ≡ b ++ m → Against b h
    parted [] p = beyond [] (sym (append-nil b) ∙ sym p ∙ sym (append-nil h))
    parted (a ∷ m) p = before (a ∷ m) p (omega arith)

pub against_of : (b h more : List ℕ) → Agrees b (h ++ more) → Against b h
against_of b h more (shorter rest e) = against b h rest more (sym e)
against_of b h more (longer rest e) = against b h [] (more ++ rest) (append-nil b ∙ e ∙ append_assoc h more rest)

-- what lies ahead up to the end of a word begins with the word
pub record Reaches (h b1 b2 : List ℕ) : Type 0 where
  pub later : List ℕ
  pub is : b1 ++ take (length h - length b1) b2 ≡ h ++ later

pub reaches : (h rest b1 b2 : List ℕ) → h ++ rest ≡ b1 ++ b2 → Reaches h b1 b2
reaches h rest b1 b2 e =
    elim (splits h rest b1 b2 e) [
      | split.inside m p q ↦
          let size : length h - length b1 ≡ length m = omega (arith, ap length p, length-append b1 m) in
          record {
            later = [];
            is = ap (λ n. b1 ++ take n b2) size ∙ ap (λ l. b1 ++ take (length m) l) q
                ∙ ap (λ l. b1 ++ l) (take-append_seam m rest) ∙ sym p ∙ sym (append-nil h);
          }
      | split.behind m p q ↦
          let size : length h - length b1 ≡ 0 = omega (arith, ap length p, length-append h m) in
          record {
            later = m;
            is = ap (λ n. b1 ++ take n b2) size ∙ append-nil b1 ∙ p;
          }
    ]

up_less : (left : Left) (m n : ℕ) → m ≤ n → IsUpTo left n → IsUpTo left m
up_less (window_left end) m n less h = omega (arith, less, h)
up_less _ m n less h = tt

pub within_less : (outer : List Left) (m n : ℕ) → m ≤ n → Within outer n → Within outer m
within_less [] m n less h = tt
within_less (left ∷ outer) m n less h = (up_less left m n less h.0, within_less outer m n less h.1)

module _ (d : DescV) (most : ℕ) (is : IsDescription d) (certified : Certified d most) (moving : Moving) (known : Known d) where
  -- what lies ahead of a node that begins where the block so far ends
  ahead_of : {i : ℕ} {v : Values} {t : TreeV} (m : ℕ) (done b1 b2 : List ℕ) → NMeans d i (length done) v b1 t
      → MayStandBehind d i (length (done ++ b1) % 8) (take (m - length (done ++ b1)) b2)
      → LiesAhead d i (length done) v (b1 ++ take (m - length (done ++ b1)) b2) t
  ahead_of {i} m done b1 b2 means stands =
      let rest = take (m - length (done ++ b1)) b2 in
      let P : ℕ → Type 0 = λ k. MayStandBehind d i (k % 8) rest in
      record { own = b1; others = rest; split = refl; means = means; behind = subst P (length-append done b1) stands }

  ahead_along : {i o : ℕ} {v : Values} {t : TreeV} {b c : List ℕ} → b ≡ c → LiesAhead d i o v b t → LiesAhead d i o v c t
  ahead_along {i} {o} {v} {t} e h = let P : List ℕ → Type 0 = λ l. LiesAhead d i o v l t in subst P e h

  room : (done h b1 : List ℕ) → (length done + length h) - length (done ++ b1) ≡ length h - length b1
  room done h b1 = omega (arith, length-append done b1)

  -- the alternative j of a choice is taken by bits h, and each front of them that is shorter is followed by it
  pub record Decides (k part j : ℕ) (parts : List ℕ) (v : Values) (outer : List Left) (done h : List ℕ) : Type 0 where
    pub at : slice_get d.nodes k ≡ Some (Choice parts)
    pub is_part : slice_get parts j ≡ Some part
    pub ready : IsReady d k (length done) (length outer) v
    pub fresh : Option ℕ
    pub inner : Inside d fresh outer k (length done) v
    pub some : 0 < length h
    pub picks : Picks d most k (length done % 8) h false (Take j)
    pub within : Within outer (length done + length h)
    pub fronts : (y r : List ℕ) → h ≡ y ++ r → 0 < length r → NFollow d part (length done) v y

  module _ {k part j : ℕ} {parts : List ℕ} {v : Values} {outer : List Left} {done h : List ℕ} (how : Decides k part j parts v outer done h) where
    -- the tree of the choice is of the alternative
    alternative : {t : TreeV} (later : List ℕ) → LiesAhead d k (length done) v (h ++ later) t → (u : TreeV) × (t ≡ alt j u)
    alternative {t} later lies = known.takes d most k (length done) j v parts h later false t is certified how.at
        how.ready.reached how.ready.widths (λ e. absurd (cc)) lies how.picks

    -- an alternative that follows the bits is the one
    followed_one : (i a : ℕ) (later : List ℕ) {b : List ℕ} → slice_get parts i ≡ Some a → b ≡ h ++ later
        → NFollow d a (length done) v b → NFollow d part (length done) v b
    followed_one i a later {b} at e f =
        let P : List ℕ → Type 0 = λ l. NFollow d a (length done) v l in
        let number : i ≡ j = known.takes_followed d most k (length done) i j a v parts h later false is certified
        how.at how.ready.reached how.ready.widths how.some at (subst P e f) how.picks in
        let same : a ≡ part = cc in
        let Q : ℕ → Type 0 = λ n. NFollow d n (length done) v b in
        subst Q same f

    -- what completes the choice completes the alternative
    one_chosen : {b : List ℕ} {moves : List Move} (b2 rest : List ℕ)
        → h ++ rest ≡ b ++ b2 → Completes d (choice_left parts v) done b moves
        → MayStandBehind d k (length (done ++ b) % 8) (take ((length done + length h) - length (done ++ b)) b2)
        → Both d (all_left part v) none_left done b moves
    one_chosen {b} b2 rest e c stands =
        let reach = reaches h rest b b2 e in
        chosen d j how.is_part c
        (λ t means. alternative reach.later (ahead_along (ap (λ n. b ++ take n b2) (room done h b) ∙ reach.is)
        (ahead_of (length done + length h) done b b2 (means_at (Choice parts) how.at means) stands)))

    -- one alternative is taken
    pub take_decided : (more : List ℕ) → Steps d (choice_left parts v ∷ outer) (all_left part v ∷ none_left ∷ outer) done [] (h ++ more) []
    take_decided more =
        steps_quietly d on (λ x rest g. rest_both d [] (unchosen d j how.is_part) g)
        (λ b agrees g. forth b (against_of b h more agrees) g)
        (λ b agrees g. unchosen_goes d j how.is_part moving b (both_gone d g))
      where
        on : (later : List ℕ) (rest : List Move) → Rest d (choice_left parts v ∷ outer) done ((h ++ more) ++ later)
            rest → Rest d (all_left part v ∷ none_left ∷ outer) done ((h ++ more) ++ later) rest
        on later rest (rest_next b1 b2 first others cut made c o) =
            let stands = rest_stands d is known (length done + length h) how.inner (choice_width d how.at) how.within o in
            both_rest d cut made (one_chosen b2 (more ++ later) (sym (append_assoc h more later) ∙ cut) c stands) o

        one_follows : (b later : List ℕ) → b ≡ h ++ later → Begins d (choice_left parts v) done b → NFollow d part (length done) v b
        one_follows b later e (begins_choice i a at f) = followed_one i a later at e f
        one_follows b later e (begins_whole moves (completes_choice t (means_choice {j = i} {i = a} at g) w leave)) =
            followed_one i a later at e (follow_whole d moving g)

        forth : (b : List ℕ) → Against b h → Goes d (choice_left parts v ∷ outer) done b → Goes d (all_left part v ∷ none_left ∷ outer) done b
        forth b (before r e longer_rest) g =
            let less : length done + length b ≤ length done + length h = omega (arith, ap length e, length-append b r) in
            goes_here (begins_all (how.fronts b r e longer_rest)) (tt, (tt, within_less outer _ _ less how.within))
        forth b (beyond later e) (goes_here begun within) = goes_here (begins_all (one_follows b later e begun)) (tt, (tt, within.1))
        forth b (beyond later e) (goes_next b1 b2 first cut c g) =
            let stands = goes_stands d is known (length done + length h) how.inner (choice_width d how.at) how.within g in
            both_goes d cut (one_chosen b2 later (sym e ∙ cut) c stands) g

  -- ---- a free repetition

  -- bits that lie ahead decide whether another turn of a free repetition comes
  pub record Repeats (k part from : ℕ) (v : Values) (outer : List Left) (done : List ℕ) (bit : ℕ) : Type 0 where
    pub at : slice_get d.nodes k ≡ Some (Many part)
    pub ready : IsReady d k from (length outer) v
    pub reached : Reached d part (length done % 8)
    pub fresh : Option ℕ
    pub inner : Inside d fresh outer k from v
    pub within : Within outer (suc (length done))

  module _ {k part from : ℕ} {v : Values} {outer : List Left} {done : List ℕ} {bit : ℕ} (how : Repeats k part from v outer done bit) where
    -- the turns that bits have, where others lie ahead behind them
    turns_of : {b : List ℕ} {ts : Trees} (b2 : List ℕ) → ManyMean d part (length done) v b ts
        → MayStandBehind d k (length (done ++ b) % 8) (take (suc (length done) - length (done ++ b)) b2)
        → LiesAhead d k (length done) v (b ++ take (suc (length done) - length (done ++ b)) b2) (row ts)
    turns_of {b} b2 h stands = ahead_of (suc (length done)) done b b2 (means_at (Many part) how.at (means_many h)) stands

    one_room : (b1 : List ℕ) → suc (length done) - length (done ++ b1) ≡ length (bit ∷ []) - length b1
    one_room b1 = omega (arith, length-append done b1)

    lies_here : {b : List ℕ} {ts : Trees} (b2 rest : List ℕ)
        → bit ∷ rest ≡ b ++ b2 → ManyMean d part (length done) v b ts → MayStandBehind d k (length (done ++ b) % 8)
        (take (suc (length done) - length (done ++ b)) b2) → (later : List ℕ)
        × LiesAhead d k (length done) v ((bit ∷ []) ++ later) (row ts)
    lies_here {b} b2 rest e h stands =
        let reach = reaches (bit ∷ []) rest b b2 e in
        (reach.later, ahead_along (ap (λ n. b ++ take n b2) (one_room b) ∙ reach.is) (turns_of b2 h stands))

    -- another turn
    turned : {b : List ℕ} {moves : List Move} → Completes d (free_left part v) done b moves
        → ((ts : Trees) → ManyMean d part (length done) v b ts → ¬ (row ts ≡ row tree.none))
        → Both d (all_left part v) (free_left part v) done b moves
    turned {b} {moves} (completes_free {inside = within} ts h ws leave) some = by h ws refl (some ts h)
      where
        by : {us vs : Trees} → ManyMean d part (length done) v b us → RepeatsWalk d part (length done) vs within
            → us ≡ vs → ¬ (row us ≡ row tree.none) → Both d (all_left part v) (free_left part v) done b moves
        by (many_end nothing) ws same not = absurd (not refl)
        by (many_next b1 b2 cut has g others) (repeats_end stays) same not = absurd (cc)
        by (many_next {t = t} {ts = us} b1 b2 cut has g others) (repeats_next {t = u} {ts = vs} first rest made w ws) same not =
            let trees : t ≡ u = cc in
            let later : us ≡ vs = cc in
            let Q : Trees → Type 0 = λ x. ManyMean d part (length done + length b1) v b2 x in
            let R : ℕ → Type 0 = λ o. ManyMean d part o v b2 vs in
            part_apart d moving rest cut g w trees leave made
            (λ takes. completes_free vs (subst R (sym (length-append done b1)) (subst Q later others))
            (walk_on d moving (λ o. RepeatsWalk d part o vs rest) done b1 first takes ws) refl)

    has_bits : {b : List ℕ} {t : TreeV} → NMeans d part (length done) v b t → 0 < length b
    has_bits {b} {t} h = known.free_turns d most k part (length done) v b t is certified how.at h

    unturned : (b : List ℕ) (moves : List Move) → Both d (all_left part v) (free_left part v) done b moves → Completes d (free_left part v) done b moves
    unturned b moves both = by both.b1 both.b2 both.first both.others both.cut both.is both.inside both.outside
      where
        by : (b1 b2 : List ℕ) (first others : List Move) → b ≡ b1 ++ b2 → moves ≡ first ++ others
            → Completes d (all_left part v) done b1 first → Completes d (free_left part v) (done ++ b1) b2 others
            → Completes d (free_left part v) done b moves
        by b1 b2 first others cut made (completes_all t g w) (completes_free {inside = within} ts h ws leave) =
            let P : ℕ → Type 0 = λ o. ManyMean d part o v b2 ts in
            completes_free (tree.more t ts) (many_next b1 b2 cut (has_bits g) g (subst P (length-append done b1) h))
            (repeats_next first within refl w (walk_off d moving (λ o. RepeatsWalk d part o ts within)
            done b1 first (walk_takes moving d g w) ws)) (made ∙ ap (λ l. first ++ l) leave ∙ sym
            (append_assoc first within (Leave ∷ [])))

    -- look-ahead takes another turn
    pub take_turn : (more : List ℕ) → Picks d most k (length done % 8) (bit ∷ []) false (Take 0)
        → NFollow d part (length done) v [] → Steps d (free_left part v ∷ outer)
        (all_left part v ∷ free_left part v ∷ outer) done [] (bit ∷ more) []
    take_turn more picks empty =
        steps_quietly d on (λ x rest g. rest_both d [] unturned g)
        (λ b agrees g. forth b (against_of b (bit ∷ []) more agrees) g) (λ b agrees g. home b (both_gone d g))
      where
        some_turn : {b : List ℕ} {ts : Trees} (b2 rest : List ℕ)
            → bit ∷ rest ≡ b ++ b2 → ManyMean d part (length done) v b ts
            → MayStandBehind d k (length (done ++ b) % 8) (take (suc (length done) - length (done ++ b)) b2)
            → ¬ (row ts ≡ row tree.none)
        some_turn b2 rest e h stands =
            let lies = lies_here b2 rest e h stands in
            known.goes_on d most k part (length done) 0 v (bit ∷ []) lies.0 false (row _) is certified how.at how.reached lies.1 picks

        on : (later : List ℕ) (rest : List Move) → Rest d (free_left part v ∷ outer) done ((bit ∷ more) ++ later) rest
            → Rest d (all_left part v ∷ free_left part v ∷ outer) done ((bit ∷ more) ++ later) rest
        on later rest (rest_next b1 b2 first others cut made c o) =
            let stands = rest_stands d is known (suc (length done)) how.inner (many_width d how.at) how.within o in
            both_rest d cut made (turned c (λ ts h. some_turn b2 (more ++ later) cut h stands)) o

        begins_turn : (b later : List ℕ) → b ≡ (bit ∷ []) ++ later → Begins d (free_left part v) done b
            → BeginsBoth d (all_left part v) (free_left part v) done b
        begins_turn b later e (begins_free (many_here f)) = begins_inner (begins_all f) tt
        begins_turn b later e (begins_free (many_later b1 b2 cut has h f)) =
            let first = ended d moving h in
            let P : ℕ → Type 0 = λ o. ManyFollow d part o v b2 in
            begins_left b1 b2 first.moves cut (completes_all first.tree first.means first.walks) (begins_free (subst P (sym (length-append done b1)) f)) tt
        begins_turn b later e (begins_whole moves c) =
            let both = turned c (λ ts h. has_some ts h) in
            begins_left both.b1 both.b2 both.first both.cut both.inside (begins_whole both.others both.outside) tt
          where
            has_some : (ts : Trees) → ManyMean d part (length done) v b ts → ¬ (row ts ≡ row tree.none)
            has_some ts (many_end nothing) same = absurd (cc)
            has_some ts (many_next b1 b2 cut has g others) same = absurd (cc)

        forth : (b : List ℕ) → Against b (bit ∷ []) → Goes d (free_left part v ∷ outer) done b → Goes d (all_left part v ∷ free_left part v ∷ outer) done b
        forth [] against_it g = goes_here (begins_all empty) (tt, (tt, within_less outer _ _ (omega arith) how.within))
        forth (a ∷ b) (before r e longer_rest) g = absurd (omega (arith, ap length e, longer_rest, length-append b r))
        forth (a ∷ b) (beyond later e) (goes_here begun within) = both_here (begins_turn (a ∷ b) later e begun) within.1
          where
            both_here : {c : List ℕ} → BeginsBoth d (all_left part v) (free_left part v) done c
                → Within outer (length done + length c) → Goes d (all_left part v ∷ free_left part v ∷ outer) done c
            both_here h within = both_go d outer (λ place. tt) h within
        forth (a ∷ b) (beyond later e) (goes_next b1 b2 first cut c g) =
            let stands = goes_stands d is known (suc (length done)) how.inner (many_width d how.at) how.within g in
            both_goes d cut (turned c (λ ts h. some_turn b2 later (sym e ∙ cut) h stands)) g

        home : (b : List ℕ) → BothGone d (all_left part v) (free_left part v) outer done b → Goes d (free_left part v ∷ outer) done b
        home b (gone_on b1 b2 moves cut both g) = goes_next b1 b2 moves cut (unturned b1 moves both) g
        home b (gone_here (begins_inner f up) within) = goes_here (begins_free (many_here (followed_all d moving f))) (tt, within)
        home b (gone_here (begins_left b1 b2 first cut c h up) within) = by c h
          where
            by : Completes d (all_left part v) done b1 first → Begins d (free_left part v) (done ++ b1) b2 → Goes d (free_left part v ∷ outer) done b
            by (completes_all t g w) (begins_free f) =
                let P : ℕ → Type 0 = λ o. ManyFollow d part o v b2 in
                goes_here (begins_free (many_later b1 b2 cut (has_bits g) g (subst P (length-append done b1) f))) (tt, within)
            by c (begins_whole others n) =
                goes_here (begins_whole (first ++ others)
                (unturned b (first ++ others) (record {
                  b1 = b1;
                  b2 = b2;
                  first = first;
                  others = others;
                  cut =
                      cut;
                  is = refl;
                  inside = c;
                  outside = n;
                }))) (tt, within)

    -- what completes the repetition with no turn
    unrepeated : {b : List ℕ} {moves : List Move} → Completes d (free_left part v) done b moves
        → ((ts : Trees) → ManyMean d part (length done) v b ts → row ts ≡ row tree.none)
        → Completes d none_left done b moves
    unrepeated {b} {moves} (completes_free {inside = within} ts h ws leave) none = by h ws refl (none ts h)
      where
        by : {us vs : Trees} → ManyMean d part (length done) v b us → RepeatsWalk d part (length done) vs within
            → us ≡ vs → row us ≡ row tree.none → Completes d none_left done b moves
        by (many_end nothing) (repeats_end stays) same empty = completes_none nothing (leave ∙ ap (λ l. l ++ Leave ∷ []) stays)
        by (many_end nothing) (repeats_next first rest made w ws) same empty = absurd (cc)
        by (many_next b1 b2 cut has g others) ws same empty = absurd (cc)

    repeated_none : {b : List ℕ} {moves : List Move} → Completes d none_left done b moves → Completes d (free_left part v) done b moves
    repeated_none (completes_none nothing leave) = completes_free tree.none (many_end nothing) (repeats_end refl) leave

    -- look-ahead leaves the repetition
    pub leave_free : (more : List ℕ) → Picks d most k (length done % 8) (bit ∷ []) false LeaveIt
        → Steps d (free_left part v ∷ outer) (none_left ∷ outer) done [] (bit ∷ more) []
    leave_free more picks =
        steps_quietly d on back (λ b agrees g. forth b (against_of b (bit ∷ []) more agrees) g) (λ b agrees g. home b g)
      where
        no_turn : {b : List ℕ} {ts : Trees} (b2 rest : List ℕ)
            → bit ∷ rest ≡ b ++ b2 → ManyMean d part (length done) v b ts
            → MayStandBehind d k (length (done ++ b) % 8) (take (suc (length done) - length (done ++ b)) b2)
            → row ts ≡ row tree.none
        no_turn b2 rest e h stands =
            let lies = lies_here b2 rest e h stands in
            known.stops d most k part (length done) v (bit ∷ []) lies.0 false (row _) is how.at how.ready.widths (λ e. absurd (cc)) lies.1 picks

        on : (later : List ℕ) (rest : List Move) → Rest d (free_left part v ∷ outer) done ((bit ∷ more) ++ later) rest
            → Rest d (none_left ∷ outer) done ((bit ∷ more) ++ later) rest
        on later rest (rest_next b1 b2 first others cut made c o) =
            let stands = rest_stands d is known (suc (length done)) how.inner (many_width d how.at) how.within o in
            rest_next b1 b2 first others cut made (unrepeated c (λ ts h. no_turn b2 (more ++ later) cut h stands)) o

        back : (x : List ℕ) (rest : List Move) → Rest d (none_left ∷ outer) done x rest → Rest d (free_left part v ∷ outer) done x rest
        back x rest (rest_next b1 b2 first others cut made c o) = rest_next b1 b2 first others cut made (repeated_none c) o

        not_followed : (a : ℕ) (b later : List ℕ) → a ∷ b ≡ (bit ∷ []) ++ later → NFollow d k (length done) v (a ∷ b) → ⊥
        not_followed a b later e f =
            let P : List ℕ → Type 0 = λ l. NFollow d k (length done) v l in
            known.stops_followed d most k part (length done) v (bit ∷ []) later false is how.at how.ready.widths
            (λ e. absurd (cc)) (λ e. absurd (cc)) picks (subst P e f)

        forth : (b : List ℕ) → Against b (bit ∷ []) → Goes d (free_left part v ∷ outer) done b → Goes d (none_left ∷ outer) done b
        forth [] against_it g = goes_here (begins_whole (Leave ∷ []) (completes_none refl refl)) (tt, within_less outer _ _ (omega arith) how.within)
        forth (a ∷ b) (before r e longer_rest) g = absurd (omega (arith, ap length e, longer_rest, length-append b r))
        forth (a ∷ b) (beyond later e) (goes_here (begins_free f) within) = absurd (not_followed a b later e (follows_at (Many part) how.at (follows_many f)))
        forth (a ∷ b) (beyond later e) (goes_here (begins_whole moves (completes_free ts h ws leave)) within) =
            absurd (not_followed a b later e (follows_at (Many part) how.at (follows_whole (row ts) (means_many h))))
        forth (a ∷ b) (beyond later e) (goes_next b1 b2 first cut c g) =
            let stands = goes_stands d is known (suc (length done)) how.inner (many_width d how.at) how.within g in
            goes_next b1 b2 first cut (unrepeated c (λ ts h. no_turn b2 later (sym e ∙ cut) h stands)) g

        home : (b : List ℕ) → Goes d (none_left ∷ outer) done b → Goes d (free_left part v ∷ outer) done b
        home b (goes_next b1 b2 first cut c g) = goes_next b1 b2 first cut (repeated_none c) g
        home b (goes_here (begins_whole moves c) within) = goes_here (begins_whole moves (repeated_none c)) (tt, within.1)
