-- A rule in tail form goes round as a repetition does: its items, then any number of turns, each its word and
-- then the items, then the word that stops it.
use Rattle.std.proofs.Common.{◌≡◌, ℕ, ◌+◌, ◌≤◌, List, [], ◌++◌, length, refl, sym, ◌∙◌, ap, subst, arith, append_assoc, append-nil, length-append}
use Rattle.csn_desc.specs.declared.reading.Reading.{Reading}
use Rattle.csn_desc.specs.declared.symbol.Symbol.{Symbol}
use Rattle.csn_desc.specs.TreeV.{empty, row, Trees, more}
use Rattle.csn_desc.specs.Spelled.{spelled}
use Rattle.csn_grammar.specs.ExprV.{ExprV, expr, ExprsV, item, lits, seq}
use Rattle.csn_grammar.specs.RulesV.{RulesV}
use Rattle.csn_grammar.specs.Environment.{Env}
use Rattle.csn_grammar.specs.TailForm.{TailV}
use Rattle.csn_grammar.specs.Void.{SomeVoid, void_here, void_later}
use Rattle.csn_grammar.specs.Meaning.{Means, ItemsMean, ManyMean, TailMeans, means_lits, means_seq, items_next, many_end, many_next, tail_stop, tail_again}
use Rattle.csn_grammar.specs.Follow.{Begins, Follow, ItemsFollow, ManyFollow, TailFollows, follows_whole}
use Rattle.csn_grammar.specs.Follow.{follows_leaf, follows_seq, items_here, items_later, many_here, many_later}
use Rattle.csn_grammar.specs.Follow.{tail_items, tail_stops, tail_goes_on, tail_turns}
use Rattle.csn_desc.proofs.BitFacts.{length-spelled}

abbrev pub word : List Symbol → ExprV
word run = expr 0 0 (lits run)

-- a turn: the word before the rule's name, and the items
abbrev pub turn_of : TailV → ExprV
turn_of tail = expr 0 0 (seq (item (word tail.end.again.run) tail.items))

-- ---- lists joined

-- a turn joined to what stands behind it
regroup : (b c d e : List ℕ) → b ++ (c ++ (d ++ e)) ≡ ((b ++ c) ++ d) ++ e
regroup b c d e =
    sym (append_assoc b c (d ++ e)) ∙ sym (append_assoc (b ++ c) d e)

grouped : (d1 d2 c2 b3 : List ℕ) {b2 c1 : List ℕ} → b2 ≡ c1 ++ c2 → c1 ≡ d1 ++ d2 → b2 ++ b3 ≡ d1 ++ (d2 ++ (c2 ++ b3))
grouped d1 d2 c2 b3 p q = ap (λ z. z ++ b3) p ∙ ap (λ z. (z ++ c2) ++ b3) q ∙ sym (regroup d1 d2 c2 b3)

module _ (rules : RulesV) (r : Reading) where
  items_from : {xs : ExprsV} {o p : ℕ} {env : Env} {b : List ℕ} {ts : Trees} → o ≡ p → ItemsMean rules r xs o [] env b ts → ItemsMean rules r xs p [] env b ts
  items_from {xs} {o} {p} {env} {b} {ts} e h = let P : ℕ → Type 0 = λ z. ItemsMean rules r xs z [] env b ts in subst P e h

  many_from : {x : ExprV} {o p : ℕ} {env : Env} {b : List ℕ} {ts : Trees} → o ≡ p → ManyMean rules r x o env b ts → ManyMean rules r x p env b ts
  many_from {x} {o} {p} {env} {b} {ts} e h = let P : ℕ → Type 0 = λ z. ManyMean rules r x z env b ts in subst P e h

  more_from : {x : ExprV} {o p : ℕ} {env : Env} {b : List ℕ} → o ≡ p → ManyFollow rules r x o env b → ManyFollow rules r x p env b
  more_from {x} {o} {p} {env} {b} e h = let P : ℕ → Type 0 = λ z. ManyFollow rules r x z env b in subst P e h

  items_along : {xs : ExprsV} {o p : ℕ} {env : Env} {b : List ℕ} → o ≡ p → ItemsFollow rules r xs o [] env b → ItemsFollow rules r xs p [] env b
  items_along {xs} {o} {p} {env} {b} e h = let P : ℕ → Type 0 = λ z. ItemsFollow rules r xs z [] env b in subst P e h

  module _ (tail : TailV) where
    -- ---- one turn

    turn_is :
        {o : ℕ} {env : Env} {b : List ℕ} {ts : Trees} (b1 b2 : List ℕ)
        → b ≡ b1 ++ b2 → b1 ≡ spelled tail.end.again.run o → ItemsMean rules r tail.items (o + length b1) [] env b2 ts
        → Means rules r (turn_of tail) o env b (row (more empty ts))
    turn_is b1 b2 joins p h = means_seq (items_next b1 b2 joins (means_lits p) h)

    -- ---- whole strings

    -- the items, some turns, and the word that stops
    pub data Turns (o : ℕ) (env : Env) (b : List ℕ) (ts turns : Trees) : Type 0 where
      turns_are :
          (b1 b2 b3 : List ℕ) → b ≡ b1 ++ (b2 ++ b3) → ItemsMean rules r tail.items o [] env b1 ts
          → ManyMean rules r (turn_of tail) (o + length b1) env b2 turns
          → b3 ≡ spelled tail.end.stop.run (o + length b1 + length b2) → Turns o env b ts turns

    -- a turn in front of others
    turn_before :
        {env : Env} {b b3 : List ℕ} {next turns : Trees} (o : ℕ) (b1 b2 c1 c2 c3 : List ℕ) → 1 ≤ length tail.end.again.run
        → b ≡ b1 ++ (b2 ++ b3) → b2 ≡ spelled tail.end.again.run (o + length b1) → b3 ≡ c1 ++ (c2 ++ c3)
        → ItemsMean rules r tail.items (o + length b1 + length b2) [] env c1 next
        → ManyMean rules r (turn_of tail) (o + length b1 + length b2 + length c1) env c2 turns
        → (b ≡ b1 ++ (((b2 ++ c1) ++ c2) ++ c3))
        × ManyMean rules r (turn_of tail) (o + length b1) env ((b2 ++ c1) ++ c2) (more (row (more empty next)) turns)
        × (o + length b1 + length b2 + length c1 + length c2 ≡ o + length b1 + length ((b2 ++ c1) ++ c2))
    turn_before o b1 b2 c1 c2 c3 some joins p joins' h m =
        let long = ap length p ∙ length-spelled tail.end.again.run (o + length b1) in
        let both = length-append b2 c1 in (
          joins ∙ ap (λ z. b1 ++ z) (ap (λ z. b2 ++ z) joins' ∙ regroup b2 c1 c2 c3),
          many_next (b2 ++ c1) c2 refl (omega (arith, long, both, some)) (turn_is b2 c1 refl p h) (many_from (omega (arith, both)) m),
          omega (arith, both, length-append (b2 ++ c1) c2),
        )

    turn_more :
        {o : ℕ} {env : Env} {b b3 : List ℕ} {ts next turns : Trees} (b1 b2 : List ℕ) → 1 ≤ length tail.end.again.run
        → b ≡ b1 ++ (b2 ++ b3) → ItemsMean rules r tail.items o [] env b1 ts
        → b2 ≡ spelled tail.end.again.run (o + length b1)
        → Turns (o + length b1 + length b2) env b3 next turns → Turns o env b ts (more (row (more empty next)) turns)
    turn_more {o = o} b1 b2 some joins h p (turns_are c1 c2 c3 joins' h' m stop) =
        let before = turn_before o b1 b2 c1 c2 c3 some joins p joins' h' m in
        turns_are b1 ((b2 ++ c1) ++ c2) c3 before.0 h before.1 (stop ∙ ap (spelled tail.end.stop.run) before.2)

    pub tail_turned :
        {o : ℕ} {env : Env} {b : List ℕ} {ts turns : Trees} → 1 ≤ length tail.end.again.run
        → TailMeans rules r tail o env b ts turns → Turns o env b ts turns
    tail_turned some (tail_stop b1 b2 joins h stop) = turns_are b1 [] b2 joins h (many_end refl) (stop ∙ ap (spelled tail.end.stop.run) (omega arith))
    tail_turned some (tail_again b1 b2 b3 joins h p next) = turn_more b1 b2 some joins h p (tail_turned some next)

    turns_tail :
        {o p : ℕ} {env : Env} {b b2 b3 : List ℕ} {ts turns : Trees} (b1 : List ℕ)
        → p ≡ o + length b1 → ItemsMean rules r tail.items o [] env b1 ts → ManyMean rules r (turn_of tail) p env b2 turns
        → b ≡ b1 ++ (b2 ++ b3) → b3 ≡ spelled tail.end.stop.run (p + length b2) → TailMeans rules r tail o env b ts turns
    turns_tail {b3 = b3} b1 place h (many_end e) joins stop =
        tail_stop b1 b3 (joins ∙ ap (λ z. b1 ++ (z ++ b3)) e) h (stop ∙ ap (spelled tail.end.stop.run) (omega (arith, place, ap length e)))
    turns_tail {o = o} {p = p} {b2 = b2} {b3 = b3} b1 place h
        (many_next c1 c2 joins' some (means_seq (items_next d1 d2 joins'' (means_lits q) h')) others) joins stop =
        tail_again b1 d1 (d2 ++ (c2 ++ b3)) (joins ∙ ap (λ z. b1 ++ z) (grouped d1 d2 c2 b3 joins' joins'')) h
        (q ∙ ap (spelled tail.end.again.run) place)
        (turns_tail {o = o + length b1 + length d1} d2 (omega (arith, place, ap length joins'', length-append d1 d2))
        (items_from (ap (λ z. z + length d1) place) h') others refl
        (stop ∙ ap (spelled tail.end.stop.run) (omega (arith, ap length joins', length-append c1 c2))))

    pub turned_tail :
        {o : ℕ} {env : Env} {b : List ℕ} {ts turns : Trees} → Turns o env b ts turns → TailMeans rules r tail o env b ts turns
    turned_tail (turns_are b1 b2 b3 joins h m stop) = turns_tail b1 refl h m joins stop

    -- ---- followed bits

    -- the items follow; or some turns do behind them; or the word that stops begins with the last bits
    pub data TailBegun (o : ℕ) (env : Env) (b : List ℕ) : Type 0 where
      in_items : ItemsFollow rules r tail.items o [] env b → TailBegun o env b
      in_turns :
          {ts : Trees} (b1 b2 : List ℕ)
          → b ≡ b1 ++ b2 → ItemsMean rules r tail.items o [] env b1 ts
          → ManyFollow rules r (turn_of tail) (o + length b1) env b2 → TailBegun o env b
      in_stop :
          {ts turns : Trees} (b1 b2 b3 : List ℕ)
          → b ≡ b1 ++ (b2 ++ b3) → ItemsMean rules r tail.items o [] env b1 ts
          → ManyMean rules r (turn_of tail) (o + length b1) env b2 turns
          → Begins b3 (spelled tail.end.stop.run (o + length b1 + length b2)) → TailBegun o env b

    word_begins : {run : List Symbol} {o : ℕ} {env : Env} {b : List ℕ} → Follow rules r (word run) o env b → Begins b (spelled run o)
    word_begins {b = b} (follows_whole t (means_lits p)) = ([], sym p ∙ sym (append-nil b))
    word_begins (follows_leaf whole rest leaf joins (means_lits p)) = (rest, sym p ∙ joins)

    module _ (full : ¬ SomeVoid rules r tail.items) where
      pub turn_full : ¬ SomeVoid rules r (item (word tail.end.again.run) tail.items)
      turn_full (void_here v) = elim v [ ]
      turn_full (void_later v) = full v

      begun_more :
          {o : ℕ} {env : Env} {b b3 : List ℕ} {ts : Trees} (b1 b2 : List ℕ) → 1 ≤ length tail.end.again.run
          → b ≡ b1 ++ (b2 ++ b3) → ItemsMean rules r tail.items o [] env b1 ts
          → b2 ≡ spelled tail.end.again.run (o + length b1)
          → TailBegun (o + length b1 + length b2) env b3 → TailBegun o env b
      begun_more {b3 = b3} b1 b2 some joins h p (in_items f) =
          in_turns b1 (b2 ++ b3) joins h (many_here (follows_seq turn_full (items_later b2 b3 refl (means_lits p) f)))
      begun_more {o = o} b1 b2 some joins h p (in_turns c1 c2 joins' h' m) =
          let long = ap length p ∙ length-spelled tail.end.again.run (o + length b1) in
          let both = length-append b2 c1 in
          in_turns b1 ((b2 ++ c1) ++ c2) (joins ∙ ap (λ z. b1 ++ z) (ap (λ z. b2 ++ z) joins' ∙ sym (append_assoc b2 c1 c2))) h
          (many_later (b2 ++ c1) c2 refl (omega (arith, long, both, some)) (turn_is b2 c1 refl p h') (more_from (omega (arith, both)) m))
      begun_more {o = o} b1 b2 some joins h p (in_stop c1 c2 c3 joins' h' m begins) =
          let before = turn_before o b1 b2 c1 c2 c3 some joins p joins' h' m in
          in_stop b1 ((b2 ++ c1) ++ c2) c3 before.0 h before.1
          (begins.0, ap (spelled tail.end.stop.run) (sym before.2) ∙ begins.1)

      pub tail_begun :
          {o : ℕ} {env : Env} {b : List ℕ} → 1 ≤ length tail.end.again.run → TailFollows rules r tail o env b → TailBegun o env b
      tail_begun some (tail_items full' f) = in_items f
      tail_begun some (tail_stops b1 b2 joins h begins) = in_stop b1 [] b2 joins h (many_end refl)
          (begins.0, ap (spelled tail.end.stop.run) (omega arith) ∙ begins.1)
      tail_begun {o = o} some (tail_goes_on b1 b2 joins h begins) =
          in_turns b1 b2 joins h
          (many_here (follows_seq turn_full (items_here (follows_leaf (spelled tail.end.again.run (o + length b1)) begins.0 refl begins.1 (means_lits refl)))))
      tail_begun some (tail_turns b1 b2 b3 joins h p next) = begun_more b1 b2 some joins h p (tail_begun some next)

      turns_follow :
          {o p : ℕ} {env : Env} {b b2 : List ℕ} {ts : Trees} (b1 : List ℕ)
          → p ≡ o + length b1 → ItemsMean rules r tail.items o [] env b1 ts → ManyFollow rules r (turn_of tail) p env b2
          → b ≡ b1 ++ b2 → TailFollows rules r tail o env b
      turns_follow {o = o} b1 place h (many_here (follows_whole t (means_seq (items_next d1 d2 joins' (means_lits q) h')))) joins =
          tail_turns b1 d1 d2 (joins ∙ ap (λ z. b1 ++ z) joins') h (q ∙ ap (spelled tail.end.again.run) place)
          (tail_stops d2 [] (sym (append-nil d2)) (items_from (ap (λ z. z + length d1) place) h')
          (spelled tail.end.stop.run (o + length b1 + length d1 + length d2), refl))
      turns_follow b1 place h (many_here (follows_leaf whole rest leaf joins' h')) joins = cc
      turns_follow {b2 = b2} b1 place h (many_here (follows_seq full' (items_here f))) joins =
          let begins = word_begins f in
          tail_goes_on b1 b2 joins h (begins.0, ap (spelled tail.end.again.run) (sym place) ∙ begins.1)
      turns_follow b1 place h (many_here (follows_seq full' (items_later d1 d2 joins' (means_lits q) f))) joins =
          tail_turns b1 d1 d2 (joins ∙ ap (λ z. b1 ++ z) joins') h (q ∙ ap (spelled tail.end.again.run) place)
          (tail_items full (items_along (ap (λ z. z + length d1) place) f))
      turns_follow {o = o} b1 place h (many_later c1 c2 joins' some (means_seq (items_next d1 d2 joins'' (means_lits q) h')) others) joins =
          tail_turns b1 d1 (d2 ++ c2) (joins ∙ ap (λ z. b1 ++ z) (joins' ∙ ap (λ z. z ++ c2) joins'' ∙ append_assoc d1 d2 c2)) h
          (q ∙ ap (spelled tail.end.again.run) place)
          (turns_follow {o = o + length b1 + length d1} d2
          (omega (arith, place, ap length joins'', length-append d1 d2))
          (items_from (ap (λ z. z + length d1) place) h') others refl)

      stop_follows :
          {o p : ℕ} {env : Env} {b b2 : List ℕ} {ts turns : Trees} (b1 b3 : List ℕ)
          → p ≡ o + length b1 → ItemsMean rules r tail.items o [] env b1 ts → ManyMean rules r (turn_of tail) p env b2 turns
          → b ≡ b1 ++ (b2 ++ b3) → Begins b3 (spelled tail.end.stop.run (p + length b2)) → TailFollows rules r tail o env b
      stop_follows b1 b3 place h (many_end e) joins begins =
          tail_stops b1 b3 (joins ∙ ap (λ z. b1 ++ (z ++ b3)) e) h
          (begins.0, ap (spelled tail.end.stop.run) (omega (arith, place, ap length e)) ∙ begins.1)
      stop_follows {o = o} b1 b3 place h (many_next c1 c2 joins' some (means_seq (items_next d1 d2 joins'' (means_lits q) h')) others) joins begins =
          tail_turns b1 d1 (d2 ++ (c2 ++ b3)) (joins ∙ ap (λ z. b1 ++ z) (grouped d1 d2 c2 b3 joins' joins'')) h
          (q ∙ ap (spelled tail.end.again.run) place)
          (stop_follows {o = o + length b1 + length d1} d2 b3
          (omega (arith, place, ap length joins'', length-append d1 d2))
          (items_from (ap (λ z. z + length d1) place) h') others refl
          (begins.0, ap (spelled tail.end.stop.run) (omega (arith, ap length joins', length-append c1 c2)) ∙ begins.1))

      pub begun_tail : {o : ℕ} {env : Env} {b : List ℕ} → TailBegun o env b → TailFollows rules r tail o env b
      begun_tail (in_items f) = tail_items full f
      begun_tail (in_turns b1 b2 joins h m) = turns_follow b1 refl h m joins
      begun_tail (in_stop b1 b2 b3 joins h m begins) = stop_follows b1 b3 refl h m joins begins
