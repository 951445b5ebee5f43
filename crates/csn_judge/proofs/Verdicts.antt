-- From what is open to what is told of a block: where it begins, goes on, is refused, and ends.
use Rattle.std.proofs.Common.{◌≡◌, ℕ, zero, suc, ◌+◌, ◌≤◌, inl, inr, true, List, [], ◌∷◌, ◌++◌, length, take, refl}
use Rattle.std.proofs.Common.{sym, ◌∙◌, ap, subst, arith, append_assoc, append-nil, length-append, None}
use Rattle.std.proofs.lemmas.Bool.Decides.{leb_tells}
use Rattle.std.proofs.Math.Seq.{take-append_seam, take-append-add}
use Rattle.csn_desc.specs.declared.moves.Move.{Move}
use Rattle.csn_desc.specs.Nodes.{DescV}
use Rattle.csn_desc.specs.Follows.{NFollow, IsPlace}
use Rattle.csn_desc.specs.Formed.{IsDescription}
use Rattle.csn_desc.specs.Laws.{PrefixesAreFollowed}
use Rattle.csn_look.specs.Reached.{reached_root}
use Rattle.csn_judge.specs.Left.{Left, all_left, completes_all, begins_whole, begins_all, Completes}
use Rattle.csn_judge.specs.Remains.{Rest, rest_end, rest_next, Goes, goes_end, goes_next, goes_here, IsBlock, Agrees, shorter, longer, StandsFor, Passes}
use Rattle.csn_judge.specs.Inside.{IsStack, stack_node, of_all, inside_none}
use Rattle.csn_judge.proofs.StepFacts.{rest_along, rest_from, completes_along}
use Rattle.csn_judge.proofs.Parts.{Moving, follow_whole}
use Rattle.csn_desc.proofs.Splits.{front_empty}

module _ (d : DescV) where
  block_along : {b c : List ℕ} {moves : List Move} → b ≡ c → IsBlock d b moves → IsBlock d c moves
  block_along {moves = moves} e h = let P : List ℕ → Type 0 = λ l. IsBlock d l moves in subst P e h

  followed_along : {b c : List ℕ} → b ≡ c → NFollow d 0 0 [] b → NFollow d 0 0 [] c
  followed_along e h = let P : List ℕ → Type 0 = λ l. NFollow d 0 0 [] l in subst P e h

  -- ---- before the first bit

  pub stands_new : Moving → StandsFor d (all_left 0 [] ∷ []) [] [] []
  stands_new moving =
      record {
        ends = λ later moves block. (
          moves,
          refl,
          rest_next later [] moves [] (sym (append-nil later))
              (sym (append-nil moves)) (completes_all block.tree block.means block.walks) (rest_end refl refl),
        );
        ended = λ later rest h. whole later rest h;
        goes = λ b agrees f. goes_here (begins_all f) (tt, tt);
        went = λ b agrees g. went b g;
      }
    where
      whole : (b : List ℕ) (rest : List Move) → Rest d (all_left 0 [] ∷ []) [] b rest → IsBlock d b rest
      whole b rest (rest_next b1 b2 first others cut made (completes_all t means walks) (rest_end nothing stays)) =
          let same : b1 ≡ b = sym (append-nil b1) ∙ ap (λ l. b1 ++ l) (sym nothing) ∙ sym cut in
          let moves : first ≡ rest = sym (append-nil first) ∙ ap (λ l. first ++ l) (sym stays) ∙ sym made in
          let P : List ℕ → Type 0 = λ l. IsBlock d l first in
          let Q : List Move → Type 0 = λ l. IsBlock d b l in
          subst Q moves (subst P same (record { tree = t; means = means; walks = walks }))

      went : (b : List ℕ) → Goes d (all_left 0 [] ∷ []) [] b → NFollow d 0 0 [] b
      went b (goes_here (begins_all f) within) = f
      went b (goes_here (begins_whole moves (completes_all t means walks)) within) = follow_whole d moving means
      went b (goes_next b1 b2 first cut (completes_all t means walks) (goes_end nothing)) =
          let same : b1 ≡ b = sym (append-nil b1) ∙ ap (λ l. b1 ++ l) (sym nothing) ∙ sym cut in
          followed_along same (follow_whole d moving means)

  pub stack_new : IsDescription d → IsStack d 1 None (all_left 0 [] ∷ []) []
  stack_new is =
      stack_node 0 0 [] tt (record {
        reached = reached_root refl refl;
        widths =
            record { fit = λ field value width at wide. absurd (cc) };
        formed = is.well_formed;
      })
      (of_all refl refl refl) (inside_none refl refl refl refl)

  -- ---- further bits come

  agrees_less : (b ahead piece : List ℕ) → Agrees b (ahead ++ piece) → Agrees b ahead
  agrees_less b ahead piece (longer rest e) = longer (piece ++ rest) (e ∙ append_assoc ahead piece rest)
  agrees_less b ahead piece (shorter rest e) = first_of b ahead piece rest e
    where
      first_of : (b ahead piece rest : List ℕ) → ahead ++ piece ≡ b ++ rest → Agrees b ahead
      first_of [] ahead piece rest e = shorter ahead refl
      first_of (a ∷ b) [] piece rest e = longer (a ∷ b) refl
      first_of (a ∷ b) (c ∷ ahead) piece rest e =
          let first : c ≡ a = cc in
          let others : ahead ++ piece ≡ b ++ rest = cc in
          more first (first_of b ahead piece rest others)
        where
          more : c ≡ a → Agrees b ahead → Agrees (a ∷ b) (c ∷ ahead)
          more same (shorter rest e) = shorter rest (ap (λ l. c ∷ l) e ∙ ap (λ k. k ∷ (b ++ rest)) same)
          more same (longer rest e) = longer rest (ap (λ l. a ∷ l) e ∙ ap (λ k. k ∷ (ahead ++ rest)) (sym same))

  pub feed_on : {stack : List Left} {done ahead : List ℕ} {made : List Move} (piece : List ℕ)
      → StandsFor d stack done ahead made → StandsFor d stack done (ahead ++ piece) made
  feed_on {stack} {done} {ahead} {made} piece s =
      record {
        ends = λ later moves block.
            let same = append_assoc ahead piece later in
            let found = s.ends (piece ++ later) moves (block_along (ap (λ l. done ++ l) same) block) in
            (found.0, found.1, rest_along d (sym same) found.2);
        ended = λ later rest h.
            let same = append_assoc ahead piece later in
            block_along (ap (λ l. done ++ l) (sym same)) (s.ended (piece ++ later) rest (rest_along d same h));
        goes = λ b agrees f. s.goes b (agrees_less b ahead piece agrees) f;
        went = λ b agrees g. s.went b (agrees_less b ahead piece agrees) g;
      }

  -- ---- all bits so far can be followed

  pub going : {stack : List Left} {done ahead : List ℕ} {made : List Move} → StandsFor d stack done ahead made
      → Goes d stack done ahead → NFollow d 0 0 [] (done ++ ahead)
  going {ahead = ahead} s g = s.went ahead (shorter [] (sym (append-nil ahead))) g

  -- the place of a block that is followed is its length
  pub place_at_end : {b : List ℕ} → NFollow d 0 0 [] b → IsPlace d b (length b)
  place_at_end {b} f = record { within = omega arith; followed = followed_along (sym (all b)) f; greatest = λ more less g. less }
    where
      all : (l : List ℕ) → take (length l) l ≡ l
      all [] = refl
      all (a ∷ l) = ap (λ r. a ∷ r) (all l)

  -- ---- a bit cannot be followed

  pub refused_at : {stack : List Left} {done ahead : List ℕ} {made : List Move} (alike : List ℕ) (bit : ℕ)
      (later : List ℕ) → PrefixesAreFollowed → StandsFor d stack done ahead made → ahead ≡ alike ++ bit ∷ later
      → Goes d stack done alike → ¬ Goes d stack done (alike ++ bit ∷ [])
      → IsPlace d (done ++ ahead) (length done + length alike)
  refused_at {stack} {done} {ahead} alike bit later prefixes s is g not =
      record {
        within = omega (arith, ap length is, length-append done ahead, length-append alike (bit ∷ later));
        followed = followed_along (sym (front_of (bit ∷ later) is)) (s.went alike (shorter (bit ∷ later) is) g);
        greatest = λ more less f. no_further more less f;
      }
    where
      front_of : (x : List ℕ) → ahead ≡ alike ++ x → take (length done + length alike) (done ++ ahead) ≡ done ++ alike
      front_of x e =
          take-append-add done ahead (length alike) ∙ ap (λ l. done ++ take (length alike) l) e ∙ ap (λ l. done ++ l) (take-append_seam alike x)

      one_more : ahead ≡ (alike ++ bit ∷ []) ++ later
      one_more = is ∙ sym (append_assoc alike (bit ∷ []) later)

      -- a longer front begins with the bit
      beyond : (m : ℕ) (l : List ℕ) (n : ℕ) → n ≤ m → (rest : List ℕ) × (take m l ≡ take n l ++ rest)
      beyond m l zero less = (take m l, refl)
      beyond zero l (suc n) less = absurd (omega arith)
      beyond (suc m) [] (suc n) less = ([], refl)
      beyond (suc m) (a ∷ l) (suc n) less = let rest = beyond m l n (omega arith) in (rest.0, ap (λ r. a ∷ r) rest.1)

      no_further : (more : ℕ) → more ≤ length (done ++ ahead) → NFollow d 0 0 [] (take more (done ++ ahead)) → more ≤ length done + length alike
      no_further more less f =
          elim (leb_tells more (length done + length alike)) [
            | inl few ↦ few.1
            | inr many ↦
                let size : length done + length (alike ++ bit ∷ []) ≤ more = omega (arith, many.1, length-append alike (bit ∷ [])) in
                let rest = beyond more (done ++ ahead) (length done + length (alike ++ bit ∷ [])) size in
                let front : take (length done + length (alike ++ bit ∷ []))
                (done ++ ahead) ≡ done ++ (alike ++ bit ∷ []) =
                take-append-add done ahead (length (alike ++ bit ∷ []))
                ∙ ap (λ l. done ++ take (length (alike ++ bit ∷ [])) l) one_more
                ∙ ap (λ l. done ++ l) (take-append_seam (alike ++ bit ∷ []) later) in
                let followed = prefixes d 0 0 [] (done ++ (alike ++ bit ∷ [])) rest.0 (followed_along (rest.1 ∙ ap (λ l. l ++ rest.0) front) f) in
                absurd (not (s.goes (alike ++ bit ∷ []) (shorter later one_more) followed))
          ]

  -- ---- the block has ended

  -- what is open stands for a block that has ended
  pub record StandsAtEnd (stack : List Left) (done : List ℕ) (made : List Move) : Type 0 where
    pub ends : (moves : List Move) → IsBlock d done moves → (rest : List Move) × (moves ≡ made ++ rest) × Rest d stack done [] rest
    pub ended : (rest : List Move) → Rest d stack done [] rest → IsBlock d done (made ++ rest)

  pub at_end : {stack : List Left} {done : List ℕ} {made : List Move} → StandsFor d stack done [] made → StandsAtEnd stack done made
  at_end {done = done} s =
      record {
        ends = λ moves block. s.ends [] moves (block_along (sym (append-nil done)) block);
        ended = λ rest h. block_along (append-nil done) (s.ended [] rest h);
      }

  pub at_end_after : {old new : List Left} {done : List ℕ} {made more : List Move}
      → StandsAtEnd old done made → Passes d true old new done [] [] more → StandsAtEnd new done (made ++ more)
  at_end_after {done = done} {made = made} {more = more} s p =
      record {
        ends = λ moves block.
            let before = s.ends moves block in
            let after = p.ends [] before.0 (λ e. refl) before.2 in
            (after.0, before.1 ∙ ap (λ l. made ++ l) after.1 ∙ sym (append_assoc made more after.0), rest_from d (append-nil done) after.2);
        ended = λ rest h.
            let before = p.ended_by [] rest (λ e. refl) (rest_from d (sym (append-nil done)) h) in
            let P : List Move → Type 0 = λ l. IsBlock d done l in
            subst P (sym (append_assoc made more rest)) (s.ended (more ++ rest) before);
      }

  -- where nothing is open the moves made are those of a tree that the bits have
  pub is_string : {done : List ℕ} {made : List Move} → StandsAtEnd [] done made → IsBlock d done made
  is_string {done} {made} s = let P : List Move → Type 0 = λ l. IsBlock d done l in subst P (append-nil made) (s.ended [] (rest_end refl refl))

  -- and of any that they have
  pub only_moves : {done : List ℕ} {made moves : List Move} → StandsAtEnd [] done made → IsBlock d done moves → moves ≡ made
  only_moves {done} {made} {moves} s block = by (s.ends moves block)
    where
      none_of : (rest : List Move) → Rest d [] done [] rest → rest ≡ []
      none_of rest (rest_end nothing stays) = stays

      by : (rest : List Move) × (moves ≡ made ++ rest) × Rest d [] done [] rest → moves ≡ made
      by found = found.1 ∙ ap (λ l. made ++ l) (none_of found.0 found.2) ∙ append-nil made

  -- a form that wants bits ends no block without them
  pub never_ends : {left : Left} {outer : List Left} {done : List ℕ} {rest : List Move}
      → ((moves : List Move) → ¬ Completes d left done [] moves) → ¬ Rest d (left ∷ outer) done [] rest
  never_ends never (rest_next b1 b2 first others cut made c o) = never first (completes_along d (front_empty b1 b2 (sym cut)) c)

  -- and so the bits have no tree
  pub no_string : {stack : List Left} {done : List ℕ} {made : List Move}
      → StandsAtEnd stack done made → ((rest : List Move) → ¬ Rest d stack done [] rest) → (moves : List Move)
      → ¬ IsBlock d done moves
  no_string s never moves block = let found = s.ends moves block in never found.0 found.2

  -- nor have they where some are held that nothing ends with
  pub no_string_held : {stack : List Left} {done held : List ℕ} {made : List Move} → StandsFor d stack done held made
      → ((rest : List Move) → ¬ Rest d stack done held rest) → (moves : List Move) → ¬ IsBlock d (done ++ held) moves
  no_string_held {done = done} {held = held} s never moves block =
      let found = s.ends [] moves (block_along (ap (λ l. done ++ l) (sym (append-nil held))) block) in
      never found.0 (rest_along d (append-nil held) found.2)
