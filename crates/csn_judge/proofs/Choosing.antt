-- What can be followed with no bits, and of a choice that waits or refuses.
use Rattle.std.proofs.Common.{◌≡◌, ℕ, zero, suc, ◌+◌, ◌-◌, ◌%◌, ◌≤◌, Bool, true, false, List, [], ◌∷◌, ◌++◌, length}
use Rattle.std.proofs.Common.{drop, take, refl, sym, ◌∙◌, ap, subst, arith, append-nil, length-append, Option, Some}
use Rattle.std.proofs.Common.{slice_get}
use Rattle.csn_desc.specs.declared.moves.Move.{Move}
use Rattle.csn_desc.specs.declared.moves.Move.TheVariants.{Leave}
use Rattle.csn_desc.specs.declared.node.Node.TheVariants.{Choice}
use Rattle.csn_desc.specs.TreeV.{TreeV}
use Rattle.csn_desc.specs.TreeV as tree
use Rattle.csn_desc.specs.Nodes.{DescV}
use Rattle.csn_desc.specs.Values.{Values}
use Rattle.csn_desc.specs.Means.{NodeMeans, means_at, means_choice, parts_end, times_end, many_end}
use Rattle.csn_desc.specs.Follows.{NFollow, parts_here, times_here}
use Rattle.csn_desc.specs.Walks as walk
use Rattle.csn_desc.specs.Formed.{Formed, PartsFormed, with_seen, IsDescription}
use Rattle.csn_desc.specs.Laws.{EmptyBitsAreFollowed}
use Rattle.csn_certify.specs.declared.pick.Pick.TheVariants.{Wait, Refuse}
use Rattle.csn_certify.specs.Conflicts.{Certified}
use Rattle.csn_certify.specs.Picks.{Picks}
use Rattle.csn_certify.specs.Ahead.{LiesAhead}
use Rattle.csn_look.specs.Reached.{MayStandBehind}
use Rattle.csn_certify.specs.CountedValues.{fields_of}
use Rattle.csn_certify.proofs.CountedValues.{fields_have_values, fields_behind}
use Rattle.csn_judge.specs.Left.{Left, choice_left, parts_left, turns_left, behind, Completes, completes_choice}
use Rattle.csn_judge.specs.Left.{completes_none, completes_parts, completes_turns, completes_free, completes_cut}
use Rattle.csn_judge.specs.Left.{Begins, begins_whole, begins_all, begins_choice, begins_window, begins_parts}
use Rattle.csn_judge.specs.Left.{begins_turns, begins_lead_none}
use Rattle.csn_judge.specs.Remains.{Within, Rest, rest_next, Goes, goes_end, goes_next, goes_here}
use Rattle.csn_judge.specs.Inside.{IsReady, Inside, IsLeftOf, of_all, of_field, of_literal, of_spare, of_pad}
use Rattle.csn_judge.specs.Inside.{of_pad_begun, of_rest, of_read, of_choice, of_window, of_parts, of_turns, of_free}
use Rattle.csn_judge.specs.Inside.{of_cut, of_lead, IsStack, stack_end, stack_node}
use Rattle.csn_judge.proofs.Parts.{Moving, follow_whole}
use Rattle.csn_judge.proofs.Standing.{rest_stands, goes_stands, choice_width}
use Rattle.csn_judge.proofs.LookAhead.{reaches}
use Rattle.csn_judge.proofs.Closing.{Full, goes_within}
use Rattle.csn_judge.proofs.Refusing.{alive, bits_alive, symbols_alive, spare_alive, pad_alive, rest_alive, choice_begun, stuck}
use Rattle.csn_desc.proofs.Nodewise.{parts_formed, first_formed}
use Rattle.std.proofs.lemmas.List.{length-take}
use Rattle.csn_judge.specs.Known.{Known}

module _ (d : DescV) (moving : Moving) (empties : EmptyBitsAreFollowed) where
  -- a well-formed node follows no bits
  pub node_empty : {i round : ℕ} (o : ℕ) (v : Values) → Formed d.nodes (fields_of v) round i → NFollow d i o v []
  node_empty {i} {round} o v well = empties d (fields_of v) round i o v well (fields_have_values v)

  -- the next of some parts
  next_empty : (i from : ℕ) {j round : ℕ} {ps : List ℕ} (v : Values) (done : List ℕ)
      → PartsFormed d.nodes true (with_seen d.nodes true i (fields_of v)) round (j ∷ ps)
      → NFollow d j (length done) (behind d i from v done) []
  next_empty i from {j} {round} v done well =
      let P : List ℕ → Type 0 = λ l. Formed d.nodes l round j in
      node_empty (length done) (behind d i from v done) (subst P (sym (fields_behind d i (drop from done) v)) (first_formed d.nodes well))

  parts_empty : {i from round : ℕ} (parts : List ℕ) {v : Values} (done : List ℕ)
      → PartsFormed d.nodes true (with_seen d.nodes true i (fields_of v)) round parts
      → Begins d (parts_left i from parts v) done []
  parts_empty [] done well = begins_whole (Leave ∷ []) (completes_parts tree.none (parts_end refl) (walk.parts_end refl) refl)
  parts_empty {i} {from} (j ∷ ps) {v = v} done well = begins_parts (parts_here (next_empty i from v done well))

  turns_empty : (n part : ℕ) (v : Values) (done : List ℕ) → NFollow d part (length done) v [] → Begins d (turns_left n part v) done []
  turns_empty zero part v done f = begins_whole (Leave ∷ []) (completes_turns tree.none (times_end refl refl) (walk.repeats_end refl) refl)
  turns_empty (suc n) part v done f = begins_turns (times_here (omega arith) f)

  begins_none : (outer : List Left) {next : ℕ} {left : Left} {i from round : ℕ} {v : Values} {done : List ℕ}
      → IsReady d i from round v → IsLeftOf d next left i from round v done → Within (left ∷ outer) (length done)
      → Begins d left done []
  begins_none outer {v = v} {done = done} ready (of_all {i = i} {round = round} {w = w} same place just) within =
      let P : Values → Type 0 = λ x. Formed d.nodes (fields_of x) round i in
      begins_all (node_empty (length done) w (subst P (sym same) ready.formed))
  begins_none outer {done = done} ready (of_field {n = n} all at counts place order upto) within = bits_alive d n done
  begins_none outer {done = done} ready (of_literal {run = run} earlier at place upto) within = symbols_alive d run done
  begins_none outer {done = done} ready (of_spare {s = s} at place upto) within = spare_alive d s done
  begins_none outer {done = done} ready (of_pad at place upto) within = pad_alive d false done
  begins_none outer {done = done} ready (of_pad_begun at place upto) within = pad_alive d true done
  begins_none outer {done = done} ready (of_rest at order upto) within = rest_alive d done
  begins_none outer ready (of_read read upto) within = begins_whole (Leave ∷ []) (completes_none refl refl)
  begins_none outer {done = done} ready (of_choice {i = i} {round = round} {w = w} at same place just) within =
      let P : Values → Type 0 = λ x. Formed d.nodes (fields_of x) round i in
      choice_begun d moving at (node_empty (length done) w (subst P (sym same) ready.formed))
  begins_none outer ready (of_window n at counts end read upto) within = begins_window refl within.0
  begins_none outer {done = done} ready (of_parts {after = after} parts earlier at split so_far order none fits well
      read upto) within = parts_empty after done well
  begins_none outer {done = done} ready (of_turns {round = round} {n = n} {part = part} {w = w} at same turn order none upto turned) within =
      let P : Values → Type 0 = λ x. Formed d.nodes (fields_of x) (suc round) part in
      turns_empty n part w done (node_empty (length done) w (subst P (sym same) (first_formed d.nodes (parts_formed d.nodes at ready.formed))))
  begins_none outer ready (of_free at same so_far order upto turned) within =
      begins_whole (Leave ∷ []) (completes_free tree.none (many_end refl) (walk.repeats_end refl) refl)
  begins_none outer ready (of_cut at same place just) within = begins_whole (Leave ∷ []) (completes_cut refl refl)
  begins_none outer ready (of_lead parts earlier at split so_far order fits well read upto) within = begins_lead_none refl

  -- what is open follows no bits
  pub nothing_goes : {next : ℕ} {fresh : Option ℕ} {stack : List Left} {done : List ℕ}
      → IsStack d next fresh stack done → Within stack (length done) → Goes d stack done []
  nothing_goes (stack_end good) within = goes_end refl
  nothing_goes (stack_node i from v good ready left inner) within = alive d (begins_none _ ready left within) within

module _ (d : DescV) (most : ℕ) (is : IsDescription d) (certified : Certified d most) (moving : Moving) (known : Known d) where
  -- a choice that is entered and not decided
  pub record Undecided (k : ℕ) (parts : List ℕ) (v : Values) (outer : List Left) (done : List ℕ) : Type 0 where
    pub at : slice_get d.nodes k ≡ Some (Choice parts)
    pub ready : IsReady d k (length done) (length outer) v
    pub fresh : Option ℕ
    pub inner : Inside d fresh outer k (length done) v

  module _ {k : ℕ} {parts : List ℕ} {v : Values} {outer : List Left} {done : List ℕ} (how : Undecided k parts v outer done) where
    -- it follows the bits with which it waits
    pub wait_goes : {held : List ℕ} (ended : Bool) → Picks d most k (length done % 8) held ended Wait
        → Within outer (length done + length held) → Goes d (choice_left parts v ∷ outer) done held
    wait_goes {held} ended picks within =
        goes_here (choice_begun d moving how.at (known.waits d most k (length outer) (length done) (fields_of v)
        v held ended how.ready.formed (fields_have_values v) picks)) (tt, within)

    lies : (h later : List ℕ) {b1 : List ℕ} {t : TreeV} (b2 : List ℕ) (m : ℕ)
        → NodeMeans d (Choice parts) (length done) v b1 t → MayStandBehind d k (length (done ++ b1) % 8)
        (take (m - length (done ++ b1)) b2) → b1 ++ take (m - length (done ++ b1)) b2 ≡ h ++ later
        → LiesAhead d k (length done) v (h ++ later) t
    lies h later {b1} b2 m means stands e =
        let rest = take (m - length (done ++ b1)) b2 in
        let P : ℕ → Type 0 = λ n. MayStandBehind d k (n % 8) rest in
        record { own = b1; others = rest; split = sym e; means = means_at (Choice parts) how.at means; behind = subst P (length-append done b1) stands }

    room : (h b1 : List ℕ) → (length done + length h) - length (done ++ b1) ≡ length h - length b1
    room h b1 = omega (arith, length-append done b1)

    -- nor any alternative, nor the whole, where it refuses
    none_follows : {h : List ℕ} → Picks d most k (length done % 8) h false Refuse → ¬ Begins d (choice_left parts v) done h
    none_follows {h} picks (begins_choice j i here f) =
        let P : List ℕ → Type 0 = λ l. NFollow d i (length done) v l in
        known.refuses_followed d most k (length done) j i v parts h [] is certified how.at here (subst P (sym (append-nil h)) f) picks
    none_follows {h} picks (begins_whole moves (completes_choice t (means_choice {j = j} {i = i} here g) w leave)) =
        let P : List ℕ → Type 0 = λ l. NFollow d i (length done) v l in
        known.refuses_followed d most k (length done) j i v parts h [] is certified how.at here (subst P (sym (append-nil h)) (follow_whole d moving g)) picks

    pub refused : {h : List ℕ} → Picks d most k (length done % 8) h false Refuse
        → Within outer (length done + length h) → ¬ Goes d (choice_left parts v ∷ outer) done h
    refused {h} picks within (goes_here begun room_more) = none_follows picks begun
    refused {h} picks within (goes_next b1 b2 first cut (completes_choice t means w leave) g) =
        let stands = goes_stands d is known (length done + length h) how.inner (choice_width d how.at) within g in
        let reach = reaches h [] b1 b2 (append-nil h ∙ cut) in
        known.refuses d most k (length done) v parts h reach.later false t is certified how.at how.ready.reached
        (λ e. absurd (cc)) (lies h reach.later b2 (length done + length h) means stands
        (ap (λ n. b1 ++ take n b2) (room h b1) ∙ reach.is)) picks

    -- where it waits with all bits that a window has, and more come behind the window
    pub wait_full : {held : List ℕ} (bit : ℕ) (rest : List ℕ) → ¬ (held ≡ [])
        → Picks d most k (length done % 8) held false Wait → Within outer (length done + length held)
        → ((place : ℕ) → Within outer place → place ≤ length done + length held)
        → ¬ Goes d (choice_left parts v ∷ outer) done (held ++ bit ∷ rest)
    wait_full {held} bit rest some picks within full (goes_here begun room_more) =
        let size = length-append held (bit ∷ rest) in
        absurd (omega (arith, full (length done + length (held ++ bit ∷ rest)) room_more.1, size))
    wait_full {held} bit rest some picks within full (goes_next b1 b2 first cut (completes_choice t means w leave) g) =
        let stands = goes_stands d is known (length done + length held) how.inner (choice_width d how.at) within g in
        let reach = reaches held (bit ∷ rest) b1 b2 cut in
        let short : length b1 ≤ length held = omega (arith, full (length (done ++ b1)) (goes_within d g), length-append done b1) in
        let none : reach.later ≡ [] = no_more reach.later reach.is short in
        known.refuses d most k (length done) v parts held reach.later true t is certified how.at how.ready.reached
        (λ e. none) (lies held reach.later b2 (length done + length held) means stands
        (ap (λ n. b1 ++ take n b2) (room held b1) ∙ reach.is)) (known.waits_end d most k (length done % 8)
        held some picks)
      where
        no_more : (later : List ℕ) → b1 ++ take (length held - length b1) b2 ≡ held ++ later → length b1 ≤ length held → later ≡ []
        no_more [] e short = refl
        no_more (a ∷ later) e short =
            absurd (omega (
              arith,
              ap length e,
              length-append b1 (take (length held - length b1) b2),
              length-append held (a ∷ later),
              length-take (length held - length b1) b2,
              short,
            ))

    -- a block that ends where it refuses without bits has no tree
    pub refused_never : Picks d most k (length done % 8) [] true Refuse → (moves : List Move) → ¬ Completes d (choice_left parts v) done [] moves
    refused_never picks moves (completes_choice t means w leave) = known.never_empty d most k (length done % 8)
        (length done) v [] t is certified picks (means_at (Choice parts) how.at means) refl

    -- and in a full window no bit is followed
    pub refused_empty : (bit : ℕ) (rest : List ℕ) → Picks d most k (length done % 8) [] true Refuse → Full outer done
        → ¬ Goes d (choice_left parts v ∷ outer) done (bit ∷ rest)
    refused_empty bit rest picks full = stuck d bit rest full (refused_never picks)

    -- a block that ends where it waits has no tree
    pub wait_ends : {held : List ℕ} {rest : List Move} → ¬ (held ≡ [])
        → Picks d most k (length done % 8) held false Wait → Within outer (length done + length held)
        → ¬ Rest d (choice_left parts v ∷ outer) done held rest
    wait_ends {held} {rest} some picks within (rest_next b1 b2 first others cut made (completes_choice t means w leave) o) =
        let stands = rest_stands d is known (length done + length held) how.inner (choice_width d how.at) within o in
        let reach = reaches held [] b1 b2 (append-nil held ∙ cut) in
        let none : reach.later ≡ [] = no_later reach.later reach.is in
        known.refuses d most k (length done) v parts held reach.later true t is certified how.at how.ready.reached
        (λ e. none) (lies held reach.later b2 (length done + length held) means stands
        (ap (λ n. b1 ++ take n b2) (room held b1) ∙ reach.is)) (known.waits_end d most k (length done % 8)
        held some picks)
      where
        no_later : (later : List ℕ) → b1 ++ take (length held - length b1) b2 ≡ held ++ later → later ≡ []
        no_later [] e = refl
        no_later (a ∷ later) e =
            absurd (omega (
              arith,
              ap length e,
              ap length cut,
              length-append b1 b2,
              length-append b1
                  (take (length held - length b1) b2),
              length-append held (a ∷ later),
              length-take
                  (length held - length b1) b2,
            ))
