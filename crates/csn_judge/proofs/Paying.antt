-- Steps are paid for by credit.
use Rattle.std.proofs.Common.{◌≡◌, ℕ, suc, ◌+◌, ◌-◌, ◌*◌, ◌<◌, ◌≤◌, ◌⊎◌, inl, inr, ◌||◌, nat_lt, Bool, true, false}
use Rattle.std.proofs.Common.{if◌then◌else◌, List, ◌∷◌, length, refl, sym, ◌∙◌, ap, subst, arith, Some, None}
use Rattle.std.proofs.lemmas.Bool.{ltb-false}
use Rattle.csn_judge.specs.declared.frame.Frame.{Frame}
use Rattle.csn_judge.specs.declared.frame.Frame.TheVariants as frame
use Rattle.csn_judge.specs.declared.pace.Pace.{Pace}
use Rattle.csn_judge.specs.declared.turn.Turn.TheVariants.{Moved}
use Rattle.csn_judge.specs.Credit.{weight_of, weights_of, credit_of, Pays}
use Rattle.csn_desc.specs.Nodes.{DescV}
use Rattle.csn_desc.specs.Values.{Values}
use Rattle.csn_judge.specs.Known.{Known}
use Rattle.csn_judge.specs.Left.{Left, turns_left, free_left}
use Rattle.csn_judge.specs.Inside.{Inside, IsStack, stack_node, of_turns, of_free}
use Rattle.csn_judge.specs.Turns.{begun_by, fresh_at}
use Rattle.csn_judge.proofs.Stacks.{no_second_jump}

-- the nodes that may begin are fewer where one has begun by a rising number, or goes back for the first time
fewer : (nodes next part : ℕ) (again : Bool) → part < nodes → (next ≤ part) ⊎ (again ≡ false)
    → 4 + (4 * (nodes - suc part) + (if again || nat_lt part next then 0 else 4 * nodes)) ≤ 4 * (nodes - next) + (if again then 0 else 4 * nodes)
fewer nodes next part true within (inl rises) = omega (arith, within, rises)
fewer nodes next part true within (inr first) = absurd (cc)
fewer nodes next part false within may = by (nat_lt part next) refl
  where
    by : (back : Bool) → nat_lt part next ≡ back
        → 4 + (4 * (nodes - suc part) + (if back then 0 else 4 * nodes)) ≤ 4 * (nodes - next) + 4 * nodes
    by true e = omega (arith, within)
    by false e = omega (arith, within, ltb-false part next e)

added : (top behind frames left left_after bits : ℕ) → 4 + left_after ≤ left
    → 3 + (behind + frames) + left_after + bits + (1 + top) ≤ top + frames + left + bits + behind
added top behind frames left left_after bits less = omega (arith, less)

-- a part that begins has been paid for
pub begun_credit : {nodes part : ℕ} (top behind : Frame) (frames : List Frame) (pace : Pace) (bits : ℕ)
    → part < nodes → (pace.next ≤ part) ⊎ (pace.again ≡ false)
    → credit_of nodes (frame.Begin part ∷ behind ∷ frames) (begun_by part pace) bits + (1 + weight_of top)
    ≤ credit_of nodes (top ∷ frames) pace bits + weight_of behind
begun_credit {nodes} {part} top behind frames pace bits within may =
    omega (
      arith,
      added (weight_of top) (weight_of behind) (weights_of frames)
          (4 * (nodes - pace.next) + (if pace.again then 0 else 4 * nodes))
          (4 * (nodes - suc part) + (if pace.again || nat_lt part pace.next then 0 else 4 * nodes)) (6 * nodes * bits)
          (fewer nodes pace.next part pace.again within may),
    )

-- so are some steps with it, where the frame was heavier than the one that is left of it
pub begun_pays : {nodes part steps_after : ℕ} {frames frames_after : List Frame} {pace pace_after : Pace} (steps bits spent : ℕ) (top behind : Frame)
    → frames_after ≡ frame.Begin part ∷ behind ∷ frames → pace_after ≡ begun_by part pace → steps_after ≡ steps + spent
    → part < nodes → (pace.next ≤ part) ⊎ (pace.again ≡ false) → spent + weight_of behind ≤ 1 + weight_of top → weight_of behind ≤ weight_of top
    → Pays (credit_of nodes (top ∷ frames) pace bits) (credit_of nodes frames_after pace_after bits) steps steps_after Moved
begun_pays {nodes} {part} {frames = frames} {frames_after} {pace} {pace_after} steps bits spent top behind frames_is
    pace_is steps_is within may enough lighter =
    let less = begun_credit top behind frames pace bits within may in
    let same = ap (λ l. credit_of nodes l pace_after bits) frames_is ∙ ap (λ p. credit_of nodes (frame.Begin part ∷ behind ∷ frames) p bits) pace_is in
    (omega (arith, less, enough, same, steps_is), omega (arith, less, lighter, same))

-- the bits that come may have been made ready
pub begun_pays_on : {nodes part steps_after bits bits_after : ℕ} {frames frames_after : List Frame}
    {pace pace_after : Pace} (steps spent : ℕ) (top behind : Frame)
    → bits_after ≡ bits → frames_after ≡ frame.Begin part ∷ behind ∷ frames → pace_after ≡ begun_by part pace → steps_after ≡ steps + spent
    → part < nodes → (pace.next ≤ part) ⊎ (pace.again ≡ false) → spent + weight_of behind ≤ 1 + weight_of top → weight_of behind ≤ weight_of top
    → Pays (credit_of nodes (top ∷ frames) pace bits) (credit_of nodes frames_after pace_after bits_after) steps steps_after Moved
begun_pays_on {nodes} {steps_after = steps_after} {bits = bits} {frames = frames} {frames_after} {pace} {pace_after}
    steps spent top behind same frames_is pace_is steps_is within may enough lighter =
    let P : ℕ → Type 0 = λ b. Pays (credit_of nodes (top ∷ frames) pace bits) (credit_of nodes frames_after pace_after b) steps steps_after Moved in
    subst P (sym same) (begun_pays steps bits spent top behind frames_is pace_is steps_is within may enough lighter)

-- and a node that is left
pub left_pays : {steps_after : ℕ} {frames frames_after : List Frame} {pace pace_after : Pace} (nodes steps bits spent : ℕ) (top : Frame)
    → frames_after ≡ frames → pace_after ≡ pace → steps_after ≡ steps + spent → spent ≤ weight_of top → 0 < weight_of top
    → Pays (credit_of nodes (top ∷ frames) pace bits) (credit_of nodes frames_after pace_after bits) steps steps_after Moved
left_pays {frames = frames} {frames_after} {pace} {pace_after} nodes steps bits spent top frames_is pace_is steps_is enough some =
    let less = popped (weight_of top) (weights_of frames) (4 * (nodes - pace.next)) (if pace.again then 0 else 4 * nodes) (6 * nodes * bits) in
    let same = ap (λ l. credit_of nodes l pace_after bits) frames_is ∙ ap (λ p. credit_of nodes frames p bits) pace_is in
    (omega (arith, less, enough, same, steps_is), omega (arith, less, some, same))
  where
    popped : (top frames next again bits : ℕ) → frames + next + again + bits + top ≤ top + frames + next + again + bits
    popped top frames next again bits = omega arith

pub left_pays_on : {steps_after bits_after : ℕ} {frames frames_after : List Frame} {pace pace_after : Pace} (nodes steps bits spent : ℕ) (top : Frame)
    → bits_after ≡ bits → frames_after ≡ frames → pace_after ≡ pace → steps_after ≡ steps + spent → spent ≤ weight_of top → 0 < weight_of top
    → Pays (credit_of nodes (top ∷ frames) pace bits) (credit_of nodes frames_after pace_after bits_after) steps steps_after Moved
left_pays_on {steps_after = steps_after} {frames = frames} {frames_after} {pace} {pace_after}
    nodes steps bits spent top same frames_is pace_is steps_is enough some =
    let P : ℕ → Type 0 = λ b. Pays (credit_of nodes (top ∷ frames) pace bits) (credit_of nodes frames_after pace_after b) steps steps_after Moved in
    subst P (sym same) (left_pays nodes steps bits spent top frames_is pace_is steps_is enough some)

-- each frame has some credit
pub weighs : (top : Frame) → 0 < weight_of top
weighs (frame.Begin i) = omega arith
weighs (frame.Leaf i leaf) = omega arith
weighs (frame.Counted counted) = omega arith
weighs (frame.Seq i at count) = omega arith
weighs (frame.Trunc i at count) = omega arith
weighs (frame.Open i) = omega arith
weighs (frame.Choice i) = omega arith
weighs (frame.Times i part left) = omega arith
weighs (frame.Many i part) = omega arith
weighs (frame.Window i start bits outer) = omega arith
weighs (frame.Named i) = omega arith

-- a turn of a repetition begins by a rising number, or it is the first since the last bit that goes back
module _ (d : DescV) where
  goes_back : {outer : List Left} {i from part : ℕ} {v : Values} (done : List ℕ) (pace : Pace) → Known d
      → Inside d (fresh_at pace (length done)) outer i from v → (pace.next ≤ part) ⊎ (from < length done)
      → (pace.next ≤ part) ⊎ (pace.again ≡ false)
  goes_back {outer} {i} {from} {part} {v} done pace known inside turned = by pace.again refl
    where
      by : (again : Bool) → pace.again ≡ again → (pace.next ≤ part) ⊎ (pace.again ≡ false)
      by false e = inr e
      by true e =
          let P : Bool → Type 0 = λ b. Inside d (if b then Some (length done) else None) outer i from v in
          inl (no_second_jump d 12 known.description known.certified done (subst P e inside) turned)

  pub turn_goes_back : {n i : ℕ} {v : Values} {outer : List Left} {done : List ℕ} (pace : Pace) → Known d
      → IsStack d pace.next (fresh_at pace (length done)) (turns_left n i v ∷ outer) done → (pace.next ≤ i) ⊎ (pace.again ≡ false)
  turn_goes_back pace known (stack_node k from w bits ready (of_turns at same turn order none up turned) inside) = goes_back _ pace known inside turned

  pub free_goes_back : {i : ℕ} {v : Values} {outer : List Left} {done : List ℕ} (pace : Pace) → Known d
      → IsStack d pace.next (fresh_at pace (length done)) (free_left i v ∷ outer) done → (pace.next ≤ i) ⊎ (pace.again ≡ false)
  free_goes_back pace known (stack_node k from w bits ready (of_free at same so_far order up turned) inside) = goes_back _ pace known inside turned
