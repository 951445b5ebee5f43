-- Steps from some open nodes to others: what they are made of, and one after another.
use Rattle.std.proofs.Common.{◌≡◌, ℕ, ◌+◌, ◌≤◌, List, [], ◌∷◌, ◌++◌, length, refl, sym, ◌∙◌, ap, subst, arith, append_assoc, append-nil, length-append, Bool}
use Rattle.csn_desc.specs.declared.moves.Move.{Move}
use Rattle.csn_desc.specs.declared.moves.Move.TheVariants.{Leave}
use Rattle.csn_desc.specs.Nodes.{DescV}
use Rattle.csn_desc.specs.Follows.{NFollow}
use Rattle.csn_desc.proofs.Splits.{splits, inside, behind}
use Rattle.csn_judge.specs.Left.{Left, none_left, Completes, completes_none, Begins, begins_whole}
use Rattle.csn_judge.specs.Remains.{IsUpTo, Within, Rest, rest_next, Goes, goes_next, goes_here, IsBlock, Agrees, shorter, longer, StandsFor, Steps, Passes}
use Rattle.std.proofs.lemmas.List.{nil_from_length}

pub agrees_behind : (x : List ℕ) {b ahead : List ℕ} → Agrees b ahead → Agrees (x ++ b) (x ++ ahead)
agrees_behind x {b} (shorter rest e) = shorter rest (ap (λ l. x ++ l) e ∙ sym (append_assoc x b rest))
agrees_behind x {ahead = ahead} (longer rest e) = longer rest (ap (λ l. x ++ l) e ∙ sym (append_assoc x ahead rest))

module _ (d : DescV) where
  pub rest_along : {stack : List Left} {done b c : List ℕ} {moves : List Move} → b ≡ c → Rest d stack done b moves → Rest d stack done c moves
  rest_along {stack} {done} {moves = moves} e h = let P : List ℕ → Type 0 = λ l. Rest d stack done l moves in subst P e h

  pub rest_from : {stack : List Left} {done other b : List ℕ} {moves : List Move} → done ≡ other → Rest d stack done b moves → Rest d stack other b moves
  rest_from {stack} {b = b} {moves = moves} e h = let P : List ℕ → Type 0 = λ l. Rest d stack l b moves in subst P e h

  pub rest_by : {stack : List Left} {done b : List ℕ} {moves others : List Move} → moves ≡ others → Rest d stack done b moves → Rest d stack done b others
  rest_by {stack} {done} {b} e h = let P : List Move → Type 0 = λ l. Rest d stack done b l in subst P e h

  pub goes_along : {stack : List Left} {done b c : List ℕ} → b ≡ c → Goes d stack done b → Goes d stack done c
  goes_along {stack} {done} e h = let P : List ℕ → Type 0 = λ l. Goes d stack done l in subst P e h

  pub goes_from : {stack : List Left} {done other b : List ℕ} → done ≡ other → Goes d stack done b → Goes d stack other b
  goes_from {stack} {b = b} e h = let P : List ℕ → Type 0 = λ l. Goes d stack l b in subst P e h

  block_along : {b c : List ℕ} {moves others : List Move} → b ≡ c → moves ≡ others → IsBlock d b moves → IsBlock d c others
  block_along {b} {others = others} e f h =
      let P : List ℕ → Type 0 = λ l. IsBlock d l others in
      let Q : List Move → Type 0 = λ l. IsBlock d b l in
      subst P e (subst Q f h)

  followed_along : {b c : List ℕ} → b ≡ c → NFollow d 0 0 [] b → NFollow d 0 0 [] c
  followed_along e h = let P : List ℕ → Type 0 = λ l. NFollow d 0 0 [] l in subst P e h

  regrouped : (done taken ahead later : List ℕ) → (done ++ taken) ++ (ahead ++ later) ≡ done ++ ((taken ++ ahead) ++ later)
  regrouped done taken ahead later =
      append_assoc done taken (ahead ++ later) ∙ ap (λ l. done ++ l) (sym (append_assoc taken ahead later))

  -- what stood for a block before a step stands for it after the step
  pub stands_after : {old new : List Left} {done ahead : List ℕ} {made more : List Move} (taken : List ℕ)
      → StandsFor d old done (taken ++ ahead) made → Steps d old new done taken ahead more
      → StandsFor d new (done ++ taken) ahead (made ++ more)
  stands_after {done = done} {ahead = ahead} {made = made} {more = more} taken stands step =
      record {
        ends = λ later moves block.
            let before = stands.ends later moves (block_along (regrouped done taken ahead later) refl block) in
            let after = step.ends later before.0 (rest_along (append_assoc taken ahead later) before.2) in
            (after.0, before.1 ∙ ap (λ l. made ++ l) after.1 ∙ sym (append_assoc made more after.0), after.2);
        ended = λ later rest h.
            let before = step.ended later rest h in
            block_along (sym (regrouped done taken ahead later)) (sym (append_assoc made more rest))
            (stands.ended later (more ++ rest) (rest_along (sym (append_assoc taken ahead later)) before));
        goes = λ b agrees f. step.goes b agrees (stands.goes (taken ++ b) (agrees_behind taken agrees) (followed_along (append_assoc done taken b) f));
        went = λ b agrees g. followed_along (sym (append_assoc done taken b)) (stands.went (taken ++ b) (agrees_behind taken agrees) (step.went b agrees g));
      }

  -- two steps are one
  pub steps_then : {ended : Bool} {old middle new : List Left} {done ahead : List ℕ} {made more : List Move} (taken also : List ℕ)
      → Passes d ended old middle done taken (also ++ ahead) made → Passes d ended middle new (done ++ taken) also ahead more
      → Passes d ended old new done (taken ++ also) ahead (made ++ more)
  steps_then {done = done} {ahead = ahead} {made = made} {more = more} taken also first second =
      record {
        ends = λ later rest e h.
            let middle = first.ends later rest e
            (rest_along (append_assoc taken also (ahead ++ later)
            ∙ ap (λ l. taken ++ l) (sym (append_assoc also ahead later))) h) in
            let after = second.ends later middle.0 e (rest_along (append_assoc also ahead later) middle.2) in
            (after.0, middle.1 ∙ ap (λ l. made ++ l) after.1 ∙ sym (append_assoc made more after.0), rest_from (append_assoc done taken also) after.2);
        ended_by = λ later rest e h.
            let middle = second.ended_by later rest e (rest_from (sym (append_assoc done taken also)) h) in
            let before = first.ended_by later (more ++ rest) e (rest_along (sym (append_assoc also ahead later)) middle) in
            rest_by (sym (append_assoc made more rest))
            (rest_along (ap (λ l. taken ++ l) (append_assoc also ahead later)
            ∙ sym (append_assoc taken also (ahead ++ later))) before);
        goes = λ b going agrees g.
            let middle = first.goes (also ++ b) going (agrees_behind also agrees) (goes_along (append_assoc taken also b) g) in
            goes_from (append_assoc done taken also) (second.goes b going agrees middle);
        went = λ b going agrees g.
            let middle = second.went b going agrees (goes_from (sym (append_assoc done taken also)) g) in
            goes_along (sym (append_assoc taken also b)) (first.went (also ++ b) going (agrees_behind also agrees) middle);
      }

  -- no step
  pub steps_none : (stack : List Left) (done ahead : List ℕ) → Steps d stack stack done [] ahead []
  steps_none stack done ahead =
      record {
        ends = λ later rest h. (rest, refl, rest_from (sym (append-nil done)) h);
        ended = λ later rest h. rest_from (append-nil done) h;
        goes = λ b agrees g. goes_from (sym (append-nil done)) g;
        went = λ b agrees g. goes_from (append-nil done) g;
      }

  -- a step that takes no bits and makes no moves
  pub steps_quietly : {old new : List Left} {done ahead : List ℕ}
      → ((later : List ℕ) (rest : List Move) → Rest d old done (ahead ++ later) rest → Rest d new done (ahead ++ later) rest)
      → ((x : List ℕ) (rest : List Move) → Rest d new done x rest → Rest d old done x rest)
      → ((b : List ℕ) → Agrees b ahead → Goes d old done b → Goes d new done b)
      → ((b : List ℕ) → Agrees b ahead → Goes d new done b → Goes d old done b)
      → Steps d old new done [] ahead []
  steps_quietly {done = done} {ahead = ahead} on back forth home =
      let same : done ≡ done ++ [] = sym (append-nil done) in
      record {
        ends = λ later rest h. (rest, refl, rest_from same (on later rest h));
        ended = λ later rest h. back (ahead ++ later) rest (rest_from (sym same) h);
        goes = λ b agrees g. goes_from same (forth b agrees g);
        went = λ b agrees g. home b agrees (goes_from (sym same) g);
      }

  pub completes_along : {left : Left} {done b c : List ℕ} {moves : List Move} → b ≡ c → Completes d left done b moves → Completes d left done c moves
  completes_along {left} {done} {moves = moves} e h = let P : List ℕ → Type 0 = λ l. Completes d left done l moves in subst P e h

  pub within_along : (outer : List Left) {m n : ℕ} → m ≡ n → Within outer m → Within outer n
  within_along outer e h = let P : ℕ → Type 0 = λ k. Within outer k in subst P e h

  -- ---- one form in place of another

  -- behind `done`, what is left becomes another form by taking these bits and making these moves
  pub record Replaces (old new : Left) (done taken : List ℕ) (made : List Move) : Type 0 where
    pub completes : (b : List ℕ) (moves : List Move) → Completes d old done (taken ++ b) moves → (more : List Move)
        × (moves ≡ made ++ more) × Completes d new (done ++ taken) b more
    pub completed : (b : List ℕ) (more : List Move) → Completes d new (done ++ taken) b more → Completes d old done (taken ++ b) (made ++ more)
    pub begins : (b : List ℕ) → Begins d old done (taken ++ b) → Begins d new (done ++ taken) b
    pub begun : (b : List ℕ) → Begins d new (done ++ taken) b → Begins d old done (taken ++ b)
    pub up_old : (place : ℕ) → IsUpTo old place
    pub up_new : (place : ℕ) → IsUpTo new place

  -- forms that are completed and begun alike
  pub record Alike (old new : Left) (done : List ℕ) : Type 0 where
    pub completes : (b : List ℕ) (moves : List Move) → Completes d old done b moves → Completes d new done b moves
    pub completed : (b : List ℕ) (moves : List Move) → Completes d new done b moves → Completes d old done b moves
    pub begins : (b : List ℕ) → Begins d old done b → Begins d new done b
    pub begun : (b : List ℕ) → Begins d new done b → Begins d old done b
    pub up_old : (place : ℕ) → IsUpTo old place
    pub up_new : (place : ℕ) → IsUpTo new place

  pub completes_from : {left : Left} {done other b : List ℕ} {moves : List Move}
      → done ≡ other → Completes d left done b moves → Completes d left other b moves
  completes_from {left} {b = b} {moves = moves} e h = let P : List ℕ → Type 0 = λ l. Completes d left l b moves in subst P e h

  pub begins_from : {left : Left} {done other b : List ℕ} → done ≡ other → Begins d left done b → Begins d left other b
  begins_from {left} {b = b} e h = let P : List ℕ → Type 0 = λ l. Begins d left l b in subst P e h

  pub alike : {old new : Left} {done : List ℕ} → Alike old new done → Replaces old new done [] []
  alike {done = done} a =
      record {
        completes = λ b moves h. (moves, refl, completes_from (sym (append-nil done)) (a.completes b moves h));
        completed = λ b more h. a.completed b more (completes_from (append-nil done) h);
        begins = λ b h. begins_from (sym (append-nil done)) (a.begins b h);
        begun = λ b h. a.begun b (begins_from (append-nil done) h);
        up_old = a.up_old;
        up_new = a.up_new;
      }

  -- what is left is not completed before these bits are taken
  pub record NotBefore (left : Left) (outer : List Left) (done taken : List ℕ) : Type 0 where
    pub rest : (x b1 b2 : List ℕ) (first others : List Move) → taken ++ x ≡ b1 ++ b2 → Completes d left done b1 first
        → Rest d outer (done ++ b1) b2 others → length taken ≤ length b1
    pub goes : (x b1 b2 : List ℕ) (first : List Move) → taken ++ x ≡ b1 ++ b2 → Completes d left done b1 first
        → Goes d outer (done ++ b1) b2 → length taken ≤ length b1

  -- since all bits that complete it are as many
  pub as_many : {left : Left} {outer : List Left} {done taken : List ℕ}
      → ((b : List ℕ) (moves : List Move) → Completes d left done b moves → length taken ≤ length b)
      → NotBefore left outer done taken
  as_many long = record { rest = λ x b1 b2 first others e h o. long b1 first h; goes = λ x b1 b2 first e h o. long b1 first h }

  -- no bits are taken
  pub none_taken : {left : Left} {outer : List Left} {done : List ℕ} → NotBefore left outer done []
  none_taken = as_many (λ b moves h. omega arith)

  -- the first of two splits of one list, where it begins with these bits
  record Cut (taken x b1 b2 : List ℕ) : Type 0 where
    pub more : List ℕ
    pub is : b1 ≡ taken ++ more
    pub others : x ≡ more ++ b2

  cut_at : (taken x b1 b2 : List ℕ) → taken ++ x ≡ b1 ++ b2 → length taken ≤ length b1 → Cut taken x b1 b2
  cut_at taken x b1 b2 e long =
      elim (splits taken x b1 b2 e) [
        | behind m p q ↦ record { more = m; is = p; others = q }
        | inside m p q ↦
            let none = nil_from_length m (omega (arith, ap length p, length-append b1 m, long)) in
            record {
              more = [];
              is = sym (append-nil b1) ∙ ap (λ l. b1 ++ l) (sym none)
                  ∙ sym p ∙ sym (append-nil taken);
              others = ap (λ l. l ++ x) (sym none) ∙ sym q;
            }
      ]

  pub replaced : {old new : Left} {outer : List Left} {done taken : List ℕ} {made : List Move} (ahead : List ℕ)
      → NotBefore old outer done taken → Replaces old new done taken made → Steps d (old ∷ outer) (new ∷ outer)
      done taken ahead made
  replaced {old} {new} {outer} {done} {taken} {made} ahead least r =
      record {
        ends = λ later rest h. on (ahead ++ later) rest h;
        ended = λ later more h. back (ahead ++ later) more h;
        goes = λ b agrees g. forth b g;
        went = λ b agrees g. home b g;
      }
    where
      on : (x : List ℕ) (rest : List Move) → Rest d (old ∷ outer) done (taken ++ x) rest → (more : List Move)
          × (rest ≡ made ++ more) × Rest d (new ∷ outer) (done ++ taken) x more
      on x rest (rest_next b1 b2 first others cut is h o) =
          let pieces = cut_at taken x b1 b2 cut (least.rest x b1 b2 first others cut h o) in
          let made_of = r.completes pieces.more first (completes_along pieces.is h) in
          let place : done ++ b1 ≡ (done ++ taken) ++ pieces.more = ap (λ l. done ++ l) pieces.is ∙ sym (append_assoc done taken pieces.more) in (
            made_of.0 ++ others,
            is ∙ ap (λ l. l ++ others) made_of.1 ∙ append_assoc made made_of.0 others,
            rest_next pieces.more b2 made_of.0 others pieces.others refl made_of.2 (rest_from place o),
          )

      back : (x : List ℕ) (more : List Move) → Rest d (new ∷ outer) (done ++ taken) x more → Rest d (old ∷ outer) done (taken ++ x) (made ++ more)
      back x more (rest_next b1 b2 first others cut is h o) =
          rest_next (taken ++ b1) b2 (made ++ first) others
          (ap (λ l. taken ++ l) cut ∙ sym (append_assoc taken b1 b2))
          (ap (λ l. made ++ l) is ∙ sym (append_assoc made first others)) (r.completed b1 first h)
          (rest_from (append_assoc done taken b1) o)

      forth : (x : List ℕ) → Goes d (old ∷ outer) done (taken ++ x) → Goes d (new ∷ outer) (done ++ taken) x
      forth x (goes_next b1 b2 first cut h o) =
          let pieces = cut_at taken x b1 b2 cut (least.goes x b1 b2 first cut h o) in
          let made_of = r.completes pieces.more first (completes_along pieces.is h) in
          let place : done ++ b1 ≡ (done ++ taken) ++ pieces.more = ap (λ l. done ++ l) pieces.is ∙ sym (append_assoc done taken pieces.more) in
          goes_next pieces.more b2 made_of.0 pieces.others made_of.2 (goes_from place o)
      forth x (goes_here h within) =
          goes_here (r.begins x h) (
            r.up_new (length (done ++ taken) + length x),
            within_along outer
                (omega (arith, length-append taken x, length-append done taken)) within.1,
          )

      home : (x : List ℕ) → Goes d (new ∷ outer) (done ++ taken) x → Goes d (old ∷ outer) done (taken ++ x)
      home x (goes_next b1 b2 first cut h o) =
          goes_next (taken ++ b1) b2 (made ++ first) (ap (λ l. taken ++ l) cut ∙ sym (append_assoc taken b1 b2))
          (r.completed b1 first h) (goes_from (append_assoc done taken b1) o)
      home x (goes_here h within) =
          goes_here (r.begun x h) (
            r.up_old (length done + length (taken ++ x)),
            within_along outer
                (omega (arith, length-append taken x, length-append done taken)) within.1,
          )

  -- ---- one form made two

  -- two forms, the inner one first, are completed by these bits and moves
  pub record Both (inner left : Left) (done b : List ℕ) (moves : List Move) : Type 0 where
    pub b1 : List ℕ
    pub b2 : List ℕ
    pub first : List Move
    pub others : List Move
    pub cut : b ≡ b1 ++ b2
    pub is : moves ≡ first ++ others
    pub inside : Completes d inner done b1 first
    pub outside : Completes d left (done ++ b1) b2 others

  -- the inner one by all bits, and the other one is left behind them
  pub takes_all : {inner left : Left} {done : List ℕ} {moves : List Move} (b : List ℕ) (first : List Move) → moves ≡ first ++ Leave ∷ []
      → Completes d inner done b first → Completes d left (done ++ b) [] (Leave ∷ []) → Both inner left done b moves
  takes_all b first is within later = record {
    b1 = b;
    b2 = [];
    first = first;
    others = Leave ∷ [];
    cut =
        sym (append-nil b);
    is = is;
    inside = within;
    outside = later;
  }

  -- the bits begin the inner one of two forms, or end it and begin the other one, inside a window that the other
  -- one may be
  pub data BeginsBoth (inner left : Left) (done b : List ℕ) : Type 0 where
    begins_inner : Begins d inner done b → IsUpTo left (length done + length b) → BeginsBoth inner left done b
    begins_left :
        (b1 b2 : List ℕ) (first : List Move) → b ≡ b1 ++ b2 → Completes d inner done b1 first
        → Begins d left (done ++ b1) b2 → IsUpTo left (length done + length b)
        → BeginsBoth inner left done b

  -- behind `done`, what is left is what is left of a part that begins there, and of the node behind it; the moves are
  -- made first
  pub record Splits (old inner left : Left) (done : List ℕ) (made : List Move) : Type 0 where
    pub completes : (b : List ℕ) (moves : List Move) → Completes d old done b moves → (more : List Move) × (moves ≡ made ++ more) × Both inner left done b more
    pub completed : (b : List ℕ) (more : List Move) → Both inner left done b more → Completes d old done b (made ++ more)
    pub begins : (b : List ℕ) → Begins d old done b → BeginsBoth inner left done b
    pub begun : (b : List ℕ) → BeginsBoth inner left done b → Begins d old done b
    pub up_old : (place : ℕ) → IsUpTo old place
    pub up_inner : (place : ℕ) → IsUpTo inner place

  up_along : (left : Left) {m n : ℕ} → m ≡ n → IsUpTo left m → IsUpTo left n
  up_along left e h = let P : ℕ → Type 0 = λ k. IsUpTo left k in subst P e h

  placed_behind : (done b1 b2 : List ℕ) {b : List ℕ} → b ≡ b1 ++ b2 → length done + length b ≡ length (done ++ b1) + length b2
  placed_behind done b1 b2 cut = omega (arith, ap length cut, length-append b1 b2, length-append done b1)

  -- ways to follow two forms, the inner one first
  pub both_go : {inner left : Left} (outer : List Left) {done b : List ℕ} → ((place : ℕ) → IsUpTo inner place)
      → BeginsBoth inner left done b → Within outer (length done + length b) → Goes d (inner ∷ left ∷ outer) done b
  both_go outer {done = done} {b = b} up (begins_inner h below) within = goes_here h (up (length done + length b), (below, within))
  both_go {left = left} outer {done = done} {b = b} up (begins_left b1 b2 first cut h rest below) within =
      let same = placed_behind done b1 b2 cut in
      goes_next b1 b2 first cut h (goes_here rest (up_along left same below, within_along outer same within))

  -- and no others
  pub data BothGone (inner left : Left) (outer : List Left) (done b : List ℕ) : Type 0 where
    gone_here : BeginsBoth inner left done b → Within outer (length done + length b) → BothGone inner left outer done b
    gone_on :
        (b1 b2 : List ℕ) (moves : List Move) → b ≡ b1 ++ b2 → Both inner left done b1 moves
        → Goes d outer (done ++ b1) b2
        → BothGone inner left outer done b

  pub both_gone : {inner left : Left} {outer : List Left} {done b : List ℕ} → Goes d (inner ∷ left ∷ outer) done b → BothGone inner left outer done b
  both_gone {inner} {left} {outer} {done} {b} (goes_here h within) = gone_here (begins_inner h within.1.0) within.1.1
  both_gone {inner} {left} {outer} {done} {b} (goes_next b1 b2 first cut h g) = behind_it b1 b2 first cut h g
    where
      behind_it : (b1 b2 : List ℕ) (first : List Move) → b ≡ b1 ++ b2 → Completes d inner done b1 first
          → Goes d (left ∷ outer) (done ++ b1) b2 → BothGone inner left outer done b
      behind_it b1 b2 first cut h (goes_here rest within) =
          let same = sym (placed_behind done b1 b2 cut) in
          gone_here (begins_left b1 b2 first cut h rest (up_along left same within.0)) (within_along outer same within.1)
      behind_it b1 b2 first cut h (goes_next c1 c2 others cut_more rest g) =
          gone_on (b1 ++ c1) c2 (first ++ others) (cut ∙ ap (λ l. b1 ++ l) cut_more ∙ sym (append_assoc b1 c1 c2))
          (record {
            b1 = b1;
            b2 = c1;
            first = first;
            others = others;
            cut = refl;
            is = refl;
            inside = h;
            outside =
                rest;
          }) (goes_from (append_assoc done b1 c1) g)

  -- what ends the block, or can be followed, behind two forms that are completed
  pub both_rest : {inner left : Left} {outer : List Left} {done b1 b2 x : List ℕ} {first others rest : List Move}
      → x ≡ b1 ++ b2 → rest ≡ first ++ others → Both inner left done b1 first → Rest d outer (done ++ b1) b2 others
      → Rest d (inner ∷ left ∷ outer) done x rest
  both_rest {done = done} {b2 = b2} {others = others} cut made both o =
      rest_next both.b1 (both.b2 ++ b2) both.first (both.others ++ others)
      (cut ∙ ap (λ l. l ++ b2) both.cut ∙ append_assoc both.b1 both.b2 b2)
      (made ∙ ap (λ l. l ++ others) both.is ∙ append_assoc both.first both.others others) both.inside
      (rest_next both.b2 b2 both.others others refl refl both.outside
      (rest_from (ap (λ l. done ++ l) both.cut ∙ sym (append_assoc done both.b1 both.b2)) o))

  pub both_goes : {inner left : Left} {outer : List Left} {done b1 b2 x : List ℕ} {first : List Move}
      → x ≡ b1 ++ b2 → Both inner left done b1 first → Goes d outer (done ++ b1) b2 → Goes d (inner ∷ left ∷ outer)
      done x
  both_goes {done = done} {b2 = b2} cut both g =
      goes_next both.b1 (both.b2 ++ b2) both.first
      (cut ∙ ap (λ l. l ++ b2) both.cut ∙ append_assoc both.b1 both.b2 b2) both.inside
      (goes_next both.b2 b2 both.others refl both.outside
      (goes_from (ap (λ l. done ++ l) both.cut ∙ sym (append_assoc done both.b1 both.b2)) g))

  -- what ends the block completes two forms first, and so the one that they were made of
  pub rest_both : {old inner left : Left} {outer : List Left} {done x : List ℕ} {rest : List Move} (made : List Move)
      → ((b : List ℕ) (moves : List Move) → Both inner left done b moves → Completes d old done b (made ++ moves))
      → Rest d (inner ∷ left ∷ outer) done x rest → Rest d (old ∷ outer) done x (made ++ rest)
  rest_both {done = done} made whole (rest_next b1 y first others cut is h (rest_next c1 c2 second last cut_more is_more h2 o)) =
      rest_next (b1 ++ c1) c2 (made ++ (first ++ second)) last
      (cut ∙ ap (λ l. b1 ++ l) cut_more ∙ sym (append_assoc b1 c1 c2))
      (ap (λ l. made ++ l) (is ∙ ap (λ l. first ++ l) is_more ∙ sym (append_assoc first second last))
      ∙ sym (append_assoc made (first ++ second) last))
      (whole (b1 ++ c1) (first ++ second) (record {
        b1 = b1;
        b2 = c1;
        first = first;
        others = second;
        cut =
            refl;
        is = refl;
        inside = h;
        outside = h2;
      })) (rest_from (append_assoc done b1 c1) o)

  pub split : {old inner left : Left} {done : List ℕ} {made : List Move} (outer : List Left) (ahead : List ℕ)
      → Splits old inner left done made → Steps d (old ∷ outer) (inner ∷ left ∷ outer) done [] ahead made
  split {old} {inner} {left} {done} {made} outer ahead s =
      record {
        ends = λ later rest h. on (ahead ++ later) rest h;
        ended = λ later more h. rest_both made s.completed (rest_from (append-nil done) h);
        goes = λ b agrees g. goes_from (sym (append-nil done)) (forth b g);
        went = λ b agrees g. home b (both_gone (goes_from (append-nil done) g));
      }
    where
      on : (x : List ℕ) (rest : List Move) → Rest d (old ∷ outer) done x rest → (more : List Move)
          × (rest ≡ made ++ more) × Rest d (inner ∷ left ∷ outer) (done ++ []) x more
      on x rest (rest_next b1 b2 first others cut is h o) =
          let found = s.completes b1 first h in (
            found.0 ++ others,
            is ∙ ap (λ l. l ++ others) found.1 ∙ append_assoc made found.0 others,
            rest_from
                (sym (append-nil done)) (both_rest cut refl found.2 o),
          )

      forth : (x : List ℕ) → Goes d (old ∷ outer) done x → Goes d (inner ∷ left ∷ outer) done x
      forth x (goes_here h within) = both_go outer s.up_inner (s.begins x h) within.1
      forth x (goes_next b1 b2 first cut h g) = both_goes cut (s.completes b1 first h).2 g

      home : (x : List ℕ) → BothGone inner left outer done x → Goes d (old ∷ outer) done x
      home x (gone_here h within) = goes_here (s.begun x h) (s.up_old (length done + length x), within)
      home x (gone_on b1 b2 moves cut both g) = goes_next b1 b2 (made ++ moves) cut (s.completed b1 moves both) g

  -- ---- the innermost node is left

  pub popped : {outer : List Left} {done : List ℕ} (ahead : List ℕ)
      → (Within outer (length done) → Goes d outer done [])
      → Steps d (none_left ∷ outer) outer done [] ahead (Leave ∷ [])
  popped {outer} {done} ahead empty =
      record {
        ends = λ later rest h. on (ahead ++ later) rest h;
        ended = λ later more h. rest_next [] (ahead ++ later) (Leave ∷ []) more refl refl (completes_none refl refl) h;
        goes = λ b agrees g. forth b g;
        went = λ b agrees g. goes_next [] b (Leave ∷ []) refl (completes_none refl refl) g;
      }
    where
      on : (x : List ℕ) (rest : List Move) → Rest d (none_left ∷ outer) done x rest → (more : List Move)
          × (rest ≡ (Leave ∷ []) ++ more) × Rest d outer (done ++ []) x more
      on x rest (rest_next b1 b2 first others cut is (completes_none none leave) o) =
          (others, is ∙ ap (λ l. l ++ others) leave, rest_along (sym (cut ∙ ap (λ l. l ++ b2) none)) (rest_from (ap (λ l. done ++ l) none) o))

      forth : (x : List ℕ) → Goes d (none_left ∷ outer) done x → Goes d outer (done ++ []) x
      forth x (goes_next b1 b2 first cut (completes_none none leave) g) =
          goes_along (sym (cut ∙ ap (λ l. l ++ b2) none)) (goes_from (ap (λ l. done ++ l) none) g)
      forth x (goes_here (begins_whole moves (completes_none none leave)) within) =
          let same : length done + length x ≡ length done = omega (arith, ap length none) in
          goes_along (sym none) (goes_from (sym (append-nil done)) (empty (within_along outer same within.1)))
