-- What is told of moves, one after another.
use Rattle.std.proofs.Common.{◌≡◌, ℕ, List, [], ◌∷◌, ◌++◌, map, append_assoc, append-nil, refl, sym, ◌∙◌, ap, subst, Some, slice_get}
use Rattle.std.specs.Prelude.{⊤}
use Rattle.csn_desc.specs.declared.moves.Move.{Move}
use Rattle.csn_desc.specs.declared.moves.Move.TheVariants.{Bit, Leave}
use Rattle.csn_desc.specs.declared.node.Node.{Node}
use Rattle.csn_desc.specs.TreeV.{TreeV, Trees}
use Rattle.csn_desc.specs.Nodes.{DescV}
use Rattle.csn_desc.specs.Walks.{Walk, NodeWalk, PartsWalk, RepeatsWalk, LeadWalk, walk_at, walk_lits, walk_spare}
use Rattle.csn_desc.specs.Walks.{walk_pad, walk_null, walk_field, walk_rest, walk_seq, walk_choice, walk_times}
use Rattle.csn_desc.specs.Walks.{walk_many, walk_trunc, walk_window, walk_named, parts_end, parts_next, repeats_end}
use Rattle.csn_desc.specs.Walks.{repeats_next, lead_end, lead_next}
use Rattle.csn_judge.specs.Told.{BitsTold, Tells, tells_none, tells_enter, tells_bit, tells_leave}

-- one more bit
pub bits_told-push : {S : Type 0} (takes : S → Move → Node → S → Type 0) (node : Node) (bits : List ℕ) (bit : ℕ) (s t u : S)
    → BitsTold takes node bits s t → takes t (Bit bit) node u → BitsTold takes node (bits ++ bit ∷ []) s u
bits_told-push takes node [] bit s t u told more = (u, subst (λ r. takes r (Bit bit) node u) told more, refl)
bits_told-push takes node (b ∷ bits) bit s t u (next, first, rest) more =
    (next, first, bits_told-push takes node bits bit next t u rest more)

-- where a move may make any state
pub bits_told-all : {S : Type 0} (node : Node) (bits : List ℕ) (s : S) → BitsTold (λ (_ : S) (_ : Move) (_ : Node) (_ : S). ⊤) node bits s s
bits_told-all node [] s = refl
bits_told-all node (bit ∷ bits) s = (s, tt, bits_told-all node bits s)

-- what each move keeps is kept by all
pub tells_fit : (d : DescV) {S : Type 0} (takes : S → Move → Node → S → Type 0) (fits : S → Type 0)
    → ((old new : S) (step : Move) (node : Node) → takes old step node new → fits old → fits new)
    → {around others : List ℕ} {moves : List Move} {s t : S} → Tells d takes around moves others s t → fits s → fits t
tells_fit d takes fits keeps (tells_none same still) fit = subst fits (sym still) fit
tells_fit d takes fits keeps (tells_enter node next at took rest) fit = tells_fit d takes fits keeps rest (keeps _ next _ node took fit)
tells_fit d takes fits keeps (tells_bit node next at took rest) fit = tells_fit d takes fits keeps rest (keeps _ next _ node took fit)
tells_fit d takes fits keeps (tells_leave node next at took rest) fit = tells_fit d takes fits keeps rest (keeps _ next _ node took fit)

-- ---- where a move may make any state, the moves of a tree can be told

module _ (d : DescV) {S : Type 0} (s : S) where
  abbrev Any : S → Move → Node → S → Type 0
  Any old move node new = ⊤

  -- before others
  abbrev Before : List ℕ → List Move → Type 0
  Before around moves = (more : List Move) (others : List ℕ) → Tells d Any around more others s s → Tells d Any around (moves ++ more) others s s

  none_before : {around : List ℕ} {moves : List Move} → moves ≡ [] → Before around moves
  none_before {around} none more others later =
      let P : List Move → Type 0 = λ l. Tells d Any around l others s s in
      subst P (sym (ap (λ l. l ++ more) none)) later

  bits_first : {around : List ℕ} {i : ℕ} {n : Node} (b : List ℕ) → slice_get d.nodes i ≡ Some n → Before (i ∷ around) (map Bit b)
  bits_first [] at more others later = later
  bits_first {n = n} (bit ∷ b) at more others later = tells_bit n s at tt (bits_first b at more others later)

  bits_before : {around : List ℕ} {i : ℕ} {n : Node} {moves : List Move} (b : List ℕ) → slice_get d.nodes i ≡ Some n
      → moves ≡ map Bit b → Before (i ∷ around) moves
  bits_before {around} {i} b at is more others later =
      let P : List Move → Type 0 = λ l. Tells d Any (i ∷ around) l others s s in
      subst P (sym (ap (λ l. l ++ more) is)) (bits_first b at more others later)

  joined_before : {around : List ℕ} {moves : List Move} (first rest : List Move)
      → moves ≡ first ++ rest → Before around first → Before around rest → Before around moves
  joined_before {around} first rest is one then more others later =
      let P : List Move → Type 0 = λ l. Tells d Any around l others s s in
      subst P (sym (ap (λ l. l ++ more) is ∙ append_assoc first rest more)) (one (rest ++ more) others (then more others later))

  mutual
    walk_before : {i o : ℕ} {t : TreeV} {moves : List Move} (around : List ℕ) → Walk d i o t moves → Before around moves
    walk_before {i} around (walk_at n inside at walks is) more others later =
        let P : List Move → Type 0 = λ l. Tells d Any around l others s s in
        let Q : List Move → Type 0 = λ l. Tells d Any (i ∷ around) l others s s in
        let inner = node_before around at walks (Leave ∷ more) others (tells_leave n s at tt later) in
        subst P (sym (ap (λ l. l ++ more) is)) (tells_enter n s at tt (subst Q (sym (append_assoc inside (Leave ∷ []) more)) inner))

    node_before : {i o : ℕ} {n : Node} {t : TreeV} {moves : List Move} (around : List ℕ)
        → slice_get d.nodes i ≡ Some n → NodeWalk d n o t moves → Before (i ∷ around) moves
    node_before around at (walk_lits is) = bits_before _ at is
    node_before around at (walk_spare is) = bits_before _ at is
    node_before around at (walk_pad is) = bits_before _ at is
    node_before around at (walk_null is) = none_before is
    node_before around at (walk_field is) = bits_before _ at is
    node_before around at (walk_rest is) = bits_before _ at is
    node_before {i} around at (walk_seq parts) = parts_before (i ∷ around) parts
    node_before {i} around at (walk_choice j there walk) = walk_before (i ∷ around) walk
    node_before {i} around at (walk_times turns) = turns_before (i ∷ around) turns
    node_before {i} around at (walk_many turns) = turns_before (i ∷ around) turns
    node_before {i} around at (walk_trunc parts) = lead_before (i ∷ around) parts
    node_before {i} around at (walk_window walk) = walk_before (i ∷ around) walk
    node_before {i} around at (walk_named walk) = walk_before (i ∷ around) walk

    parts_before : {parts : List ℕ} {o : ℕ} {ts : Trees} {moves : List Move} (around : List ℕ) → PartsWalk d parts o ts moves → Before around moves
    parts_before around (parts_end is) = none_before is
    parts_before around (parts_next first rest is walk others) = joined_before first rest is (walk_before around walk) (parts_before around others)

    turns_before : {i o : ℕ} {ts : Trees} {moves : List Move} (around : List ℕ) → RepeatsWalk d i o ts moves → Before around moves
    turns_before around (repeats_end is) = none_before is
    turns_before around (repeats_next first rest is walk others) = joined_before first rest is (walk_before around walk) (turns_before around others)

    lead_before : {parts : List ℕ} {o : ℕ} {ts : Trees} {moves : List Move} (around : List ℕ) → LeadWalk d parts o ts moves → Before around moves
    lead_before around (lead_end is) = none_before is
    lead_before around (lead_next first rest is walk others) = joined_before first rest is (walk_before around walk) (lead_before around others)

  -- all moves of a tree
  pub whole_told-all : {i o : ℕ} {t : TreeV} {moves : List Move} (around : List ℕ) → Walk d i o t moves → Tells d Any around moves around s s
  whole_told-all {moves = moves} around walk =
      let P : List Move → Type 0 = λ l. Tells d Any around l around s s in
      subst P (append-nil moves) (walk_before around walk [] around (tells_none refl refl))
