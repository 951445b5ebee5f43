-- Steps are paid for by the bits that are taken.
use Rattle.std.proofs.Common.{inl, ◌≡◌, ℕ, ◌+◌, ◌-◌, ◌*◌, ◌<◌, ◌≤◌, nat_lt, Bool, true, false, if◌then◌else◌, List}
use Rattle.std.proofs.Common.{◌∷◌, length, refl, sym, subst, ◌∙◌, ap, arith, length-append, slice_get, Some}
use Rattle.std.proofs.Math.Nat.{mul-add, le-mul_of_pos_right}
use Rattle.std.proofs.lemmas.Bool.{ltb-true, ltb-false}
use Rattle.csn_desc.specs.declared.moves.Move.{Move}
use Rattle.csn_desc.specs.declared.node.Node.{Node}
use Rattle.csn_desc.specs.Nodes.{DescV}
use Rattle.csn_judge.specs.declared.frame.Frame.{Frame}
use Rattle.csn_judge.specs.declared.frame.Frame.TheVariants as frame
use Rattle.csn_judge.specs.declared.leaf.Leaf.{Leaf}
use Rattle.csn_judge.specs.declared.leaf.Leaf.TheVariants as leaf
use Rattle.csn_judge.specs.declared.leaf.Read.TheVariants as read
use Rattle.csn_certify.specs.declared.numbers.Number.{Number}
use Rattle.csn_judge.specs.declared.pace.Pace.{Pace}
use Rattle.csn_judge.specs.declared.turn.Turn.{Turn}
use Rattle.csn_judge.specs.declared.turn.Turn.TheVariants.{Moved, Waits, Refused}
use Rattle.csn_judge.specs.Credit.{weight_of, weights_of, credit_of, Pays}
use Rattle.csn_judge.specs.Coming.{Coming}
use Rattle.csn_judge.specs.Known.{Known}
use Rattle.csn_judge.specs.Left.{Left}
use Rattle.csn_judge.specs.Reads.{ReadsLeaf}
use Rattle.csn_judge.proofs.Paying.{begun_credit}
use Rattle.csn_judge.specs.Turns.{begun_by, fresh_at, Stands}
use Rattle.csn_judge.proofs.LeafReads.{Given, taken_of, split, size}
use Rattle.csn_judge.proofs.TurningLeaves.{paced, leaf_stands, at_leaf, leaf_state}

-- ---- the credit of bits

more_bits : (m t b : ℕ) → 0 < t → m * b + m ≤ m * (t + b)
more_bits m t b some = omega (arith, mul-add m t b, le-mul_of_pos_right m some)

taken_sum : (w v next again nodes more less : ℕ) → less + 6 * nodes ≤ more → v + next + 4 * nodes + less + (w + 2 * nodes) ≤ w + next + again + more + v
taken_sum w v next again nodes more less h = omega (arith, h)

-- where bits are taken
taken_credit : (nodes t b : ℕ) (frames frames_after : List Frame) (pace : Pace) → 0 < t
    → credit_of nodes frames_after (paced true pace) b + (weights_of frames + 2 * nodes) ≤ credit_of nodes frames pace (t + b) + weights_of frames_after
taken_credit nodes t b frames frames_after pace some =
    taken_sum (weights_of frames) (weights_of frames_after) (4 * (nodes - pace.next))
    (if pace.again then 0 else 4 * nodes) nodes (6 * nodes * (t + b)) (6 * nodes * b)
    (more_bits (6 * nodes) t b some)

same_sum : (w v next again bits : ℕ) → v + next + again + bits + w ≡ w + next + again + bits + v
same_sum w v next again bits = omega arith

-- where none are
same_credit : (nodes b : ℕ) (frames frames_after : List Frame) (pace : Pace)
    → credit_of nodes frames_after pace b + weights_of frames ≡ credit_of nodes frames pace b + weights_of
    frames_after
same_credit nodes b frames frames_after pace =
    same_sum (weights_of frames) (weights_of frames_after) (4 * (nodes - pace.next)) (if pace.again then 0 else 4 * nodes) (6 * nodes * b)

-- ---- what is paid

pub taken_pays : {t old_bits : ℕ} (nodes new_bits : ℕ) {frames_after : List Frame} {next : Pace} (steps spent : ℕ)
    (frames others : List Frame) (pace : Pace) → frames_after ≡ others → next ≡ paced true pace
    → old_bits ≡ t + new_bits → 0 < t
    → spent + weights_of others ≤ weights_of frames + 2 * nodes → weights_of others < weights_of frames + 2 * nodes
    → Pays (credit_of nodes frames pace old_bits) (credit_of nodes frames_after next new_bits) steps (steps + spent) Moved
taken_pays {t} {old_bits} nodes new_bits {frames_after} {next} steps spent frames others pace frames_is pace_is bits_are some enough lighter =
    let less = taken_credit nodes t new_bits frames others pace some in
    let before = ap (λ b. credit_of nodes frames pace b) bits_are in
    let after = ap (λ l. credit_of nodes l next new_bits) frames_is ∙ ap (λ p. credit_of nodes others p new_bits) pace_is in
    by (credit_of nodes frames pace old_bits) (credit_of nodes frames_after next new_bits)
    (credit_of nodes frames pace (t + new_bits)) (credit_of nodes others (paced true pace) new_bits)
    (weights_of frames) (weights_of others) less before after enough lighter
  where
    by : (a b c e w v : ℕ) → e + (w + 2 * nodes) ≤ c + v → a ≡ c → b ≡ e → spent + v ≤ w + 2 * nodes
        → v < w + 2 * nodes → (steps + spent + b ≤ steps + a) × (b < a)
    by a b c e w v less before after enough lighter = (omega (arith, less, before, after, enough), omega (arith, less, before, after, lighter))

pub same_pays : {old_bits : ℕ} (nodes new_bits : ℕ) {frames_after : List Frame} {next : Pace} (steps spent : ℕ)
    (frames others : List Frame) (pace : Pace) → frames_after ≡ others → next ≡ pace → old_bits ≡ new_bits
    → spent + weights_of others ≤ weights_of frames → weights_of others < weights_of frames
    → Pays (credit_of nodes frames pace old_bits) (credit_of nodes frames_after next new_bits) steps (steps + spent) Moved
same_pays {old_bits} nodes new_bits {frames_after} {next} steps spent frames others pace frames_is pace_is bits_are enough lighter =
    let same = same_credit nodes new_bits frames others pace in
    let before = ap (λ b. credit_of nodes frames pace b) bits_are in
    let after = ap (λ l. credit_of nodes l next new_bits) frames_is ∙ ap (λ p. credit_of nodes others p new_bits) pace_is in
    by (credit_of nodes frames pace old_bits) (credit_of nodes frames_after next new_bits)
    (credit_of nodes frames pace new_bits) (credit_of nodes others pace new_bits) (weights_of frames)
    (weights_of others) same before after enough lighter
  where
    by : (a b c e w v : ℕ) → e + w ≡ c + v → a ≡ c → b ≡ e → spent + v ≤ w → v < w → (steps + spent + b ≤ steps + a) × (b < a)
    by a b c e w v same before after enough lighter = (omega (arith, same, before, after, enough), omega (arith, same, before, after, lighter))

-- one step was paid for that is taken before, or besides
pub paid_before : (before after steps steps_after : ℕ) (turn : Turn)
    → Pays before after (steps + 1) (steps_after + 1) turn → Pays before after steps steps_after turn
paid_before before after steps steps_after Moved paid = (omega (arith, paid.0), paid.1)
paid_before before after steps steps_after Waits paid = (omega (arith, paid.0), paid.1, omega (arith, paid.2))
paid_before before after steps steps_after (Refused place) paid = omega (arith, paid)

pub paid_with : (before after steps : ℕ) (turn : Turn) → Pays before after 0 1 turn → Pays before after steps (steps + 1) turn
paid_with before after steps Moved paid = (omega (arith, paid.0), paid.1)
paid_with before after steps Waits paid = (omega (arith, paid.0), paid.1, omega (arith, paid.2))
paid_with before after steps (Refused place) paid = omega (arith, paid)

-- ---- how many bits a leaf takes

pub given_bits : {most n : ℕ} {old new : Coming} → Given most n old new → length old.bits ≡ n + length new.bits
given_bits {n = n} {old = old} {new = new} g = omega (arith, ap (λ l. length l) (split g), length-append (taken_of g) new.bits, size g)

pub record Took (old new : Coming) : Type 0 where
  pub t : ℕ
  pub bits : length old.bits ≡ t + length new.bits
  pub place : new.place ≡ old.place + t

module _ (d : DescV) {S : Type 0} (takes : S → Move → Node → S → Type 0) (before after : S) (values : List Number)
    (pace : Pace) (old new : Coming) (i : ℕ) (frames : List Frame) (node : Node) where
  all_took : {form : Leaf} {stack : List Left} {done : List ℕ} → slice_get d.nodes i ≡ Some node → Known d
      → ReadsLeaf d takes form node old new before after read.All
      → Stands d (leaf_state d takes before after values pace old new i frames node form) stack done → Took old new
  all_took {done = done} at known reads stands =
      let t = leaf_stands d stands.shows in
      let on = reads pace.next (fresh_at pace (length done)) i t.left t.outer done known
      (at_leaf d takes before after values pace old new i frames node at stands t) in
      record { t = length on.taken; bits = ap (λ l. length l) on.bits ∙ length-append on.taken new.bits; place = on.place }

  some_took : {form other : Leaf} {stack : List Left} {done : List ℕ} → slice_get d.nodes i ≡ Some node → Known d
      → ReadsLeaf d takes form node old new before after (read.Some other)
      → Stands d (leaf_state d takes before after values pace old new i frames node form) stack done → Took old new
  some_took {done = done} at known reads stands =
      let t = leaf_stands d stands.shows in
      let k = reads pace.next (fresh_at pace (length done)) i t.left t.outer done known
      (at_leaf d takes before after values pace old new i frames node at stands t) in
      record { t = length k.on.taken; bits = ap (λ l. length l) k.on.bits ∙ length-append k.on.taken new.bits; place = k.on.place }

  -- it ends
  pub all_pays : {form : Leaf} {stack : List Left} {done : List ℕ} {next : Pace} (top : Frame)
      → slice_get d.nodes i ≡ Some node → Known d → ReadsLeaf d takes form node old new before after read.All
      → Stands d (leaf_state d takes before after values pace old new i frames node form) stack done
      → 0 < weight_of top → next ≡ paced (nat_lt old.place new.place) pace
      → Pays (credit_of (length d.nodes) (top ∷ frames) pace (length old.bits)) (credit_of (length d.nodes) frames next (length new.bits)) 0 1 Moved
  all_pays {next = next} top at known reads stands some pace_is = by (all_took at known reads stands) (nat_lt old.place new.place) refl
    where
      by : Took old new → (took : Bool) → nat_lt old.place new.place ≡ took
          → Pays (credit_of (length d.nodes) (top ∷ frames) pace (length old.bits))
          (credit_of (length d.nodes) frames next (length new.bits)) 0 1 Moved
      by k true e =
          taken_pays (length d.nodes) (length new.bits) 0 1 (top ∷ frames) frames pace refl
          (pace_is ∙ ap (λ b. paced b pace) e) k.bits (omega (arith, ltb-true old.place new.place e, k.place))
          (omega (arith, some)) (omega (arith, some))
      by k false e =
          same_pays (length d.nodes) (length new.bits) 0 1 (top ∷ frames) frames pace refl
          (pace_is ∙ ap (λ b. paced b pace) e) (omega (arith, k.bits, ltb-false old.place new.place e, k.place))
          (omega (arith, some)) (omega (arith, some))

  -- it has taken some bits, and waits for more
  pub some_pays : {form other : Leaf} {stack : List Left} {done : List ℕ} {next : Pace}
      {frames_after others : List Frame} (top : Frame) → slice_get d.nodes i ≡ Some node → Known d
      → ReadsLeaf d takes form node old new before after (read.Some other)
      → Stands d (leaf_state d takes before after values pace old new i frames node form) stack done
      → i < length d.nodes → weights_of others ≡ weights_of (top ∷ frames) → frames_after ≡ others
      → old.place < new.place → next ≡ paced (nat_lt old.place new.place) pace
      → Pays (credit_of (length d.nodes) (top ∷ frames) pace (length old.bits)) (credit_of (length d.nodes) frames_after next (length new.bits)) 0 1 Moved
  some_pays {others = others} top at known reads stands within heavy frames_is further pace_is =
      let k = some_took at known reads stands in
      taken_pays (length d.nodes) (length new.bits) 0 1 (top ∷ frames) others pace frames_is
      (pace_is ∙ ap (λ b. paced b pace) (less_than old.place new.place further)) k.bits
      (omega (arith, k.place, further))
      (omega (arith, heavy, within)) (omega (arith, heavy, within))
    where
      less_than : (a b : ℕ) → a < b → nat_lt a b ≡ true
      less_than a b less = by (nat_lt a b) refl
        where
          by : (x : Bool) → nat_lt a b ≡ x → x ≡ true
          by true e = refl
          by false e = absurd (omega (arith, less, ltb-false a b e))

-- a counted field is entered, which is lighter
heavier : (w next again bits : ℕ) → 3 + w + next + again + bits ≡ 3 + (w + next + again + bits)
heavier w next again bits = omega arith

pub counted_credit : {nodes part : ℕ} (i : ℕ) (behind : Frame) (frames : List Frame) (pace : Pace) (bits : ℕ)
    → weight_of behind ≡ 1 → part < nodes → pace.next ≤ part
    → credit_of nodes (behind ∷ frames) (begun_by part pace) bits + 1 ≤ credit_of nodes (frame.Begin i ∷ frames) pace bits
counted_credit {nodes} {part} i behind frames pace bits light within rises =
    let less = begun_credit (frame.Begin i) behind frames pace bits within (inl rises) in
    let same = heavier (weights_of (behind ∷ frames)) (4 * (nodes - (begun_by part pace).next))
    (if (begun_by part pace).again then 0 else 4 * nodes) (6 * nodes * bits) in
    by (credit_of nodes (frame.Begin part ∷ behind ∷ frames) (begun_by part pace) bits)
    (credit_of nodes (behind ∷ frames) (begun_by part pace) bits) (credit_of nodes (frame.Begin i ∷ frames)
    pace bits) (weight_of behind) less same light
  where
    by : (a b c w : ℕ) → a + (1 + 3) ≤ c + w → a ≡ 3 + b → w ≡ 1 → b + 1 ≤ c
    by a b c w less same light = omega (arith, less, same, light)

-- a field is entered with its label, which is lighter too
pub labelled_credit : {nodes part : ℕ} {begun : Pace} (i m : ℕ) (frames : List Frame) (pace : Pace) (bits : ℕ)
    → begun ≡ begun_by part pace → part < nodes → pace.next ≤ part
    → credit_of nodes (frame.Leaf part (leaf.Field m) ∷ frame.Named i ∷ frames) begun bits + 1 ≤ credit_of nodes (frame.Begin i ∷ frames) pace bits
labelled_credit {nodes} {part} i m frames pace bits is within rises =
    let less = begun_credit (frame.Begin i) (frame.Named i) frames pace bits within (inl rises) in
    let same = lighter (weights_of (frame.Named i ∷ frames)) (4 * (nodes - (begun_by part pace).next))
    (if (begun_by part pace).again then 0 else 4 * nodes) (6 * nodes * bits) in
    let P : Pace → Type 0 = λ p. credit_of nodes (frame.Leaf part (leaf.Field m) ∷ frame.Named i ∷ frames)
    p bits + 1 ≤ credit_of nodes (frame.Begin i ∷ frames) pace bits in
    subst P (sym is)
    (by (credit_of nodes (frame.Begin part ∷ frame.Named i ∷ frames) (begun_by part pace) bits)
    (credit_of nodes (frame.Leaf part (leaf.Field m) ∷ frame.Named i ∷ frames) (begun_by part pace) bits)
    (credit_of nodes (frame.Begin i ∷ frames) pace bits) less same)
  where
    lighter : (w next again bits : ℕ) → 3 + w + next + again + bits ≡ 2 + (1 + w + next + again + bits)
    lighter w next again bits = omega arith

    by : (a b c : ℕ) → a + (1 + 3) ≤ c + 1 → a ≡ 2 + b → b + 1 ≤ c
    by a b c less same = omega (arith, less, same)

-- one turn after another is paid for
pub pays_then : (before middle after steps steps_middle steps_after : ℕ) (turn : Turn)
    → Pays before middle steps steps_middle Moved → Pays middle after steps_middle steps_after turn
    → Pays before after steps steps_after turn
pays_then before middle after steps steps_middle steps_after Moved first second = (omega (arith, first.0, second.0), omega (arith, first.1, second.1))
pays_then before middle after steps steps_middle steps_after Waits first second =
    (omega (arith, first.0, second.0), omega (arith, first.1, second.1), omega (arith, first.0, second.2))
pays_then before middle after steps steps_middle steps_after (Refused place) first second = omega (arith, first.0, second)

-- and a turn behind a step that has made the stack lighter
pub entered_pays : (credit lighter after steps middle steps_after : ℕ) (turn : Turn)
    → lighter + 1 ≤ credit → middle ≡ steps + 1 → Pays lighter after middle steps_after turn
    → Pays credit after steps steps_after turn
entered_pays credit lighter after steps middle steps_after turn less one paid =
    pays_then credit lighter after steps middle steps_after turn (omega (arith, less, one), omega (arith, less)) paid

-- a turn is paid for by more, too
pub more_pays : (before more after steps steps_after : ℕ) (turn : Turn)
    → before ≤ more → Pays before after steps steps_after turn → Pays more after steps steps_after turn
more_pays before more after steps steps_after Moved most paid = (omega (arith, most, paid.0), omega (arith, most, paid.1))
more_pays before more after steps steps_after Waits most paid = (omega (arith, most, paid.0), omega (arith, most, paid.1), omega (arith, most, paid.2))
more_pays before more after steps steps_after (Refused place) most paid = omega (arith, most, paid)

-- so is a turn by which an alternative begins, with the look at the choice, the one ahead and the one at the alternative
pub chosen_pays : (before begun after steps steps_after : ℕ) (turn : Turn)
    → begun + 3 ≤ before → Pays (begun + 1) after (steps + 1) steps_after turn
    → Pays before after steps (steps_after + 1) turn
chosen_pays before begun after steps steps_after Moved less paid = (omega (arith, less, paid.0), omega (arith, less, paid.1))
chosen_pays before begun after steps steps_after Waits less paid = (omega (arith, less, paid.0), omega (arith, less, paid.1), omega (arith, less, paid.2))
chosen_pays before begun after steps steps_after (Refused place) less paid = omega (arith, less, paid)
