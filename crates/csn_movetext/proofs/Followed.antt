-- A track along the moves of a block has the text that they write.
use Rattle.std.proofs.Common.{◌≡◌, ℕ, arith, Bool, true, false, List, [], ◌∷◌, ◌++◌, length, refl, sym, ap, subst, ◌∙◌, append-nil, Option, Some, None}
use Rattle.std.specs.Prelude.{slice_get}
use Rattle.std.specs.Option.{option_and_then}
use Rattle.csn_desc.specs.declared.moves.Move.{Move}
use Rattle.csn_desc.specs.declared.moves.Move.TheVariants.{Enter, Bit, Leave}
use Rattle.csn_desc.specs.declared.node.Node.{Node}
use Rattle.csn_desc.specs.Nodes.{DescV}
use Rattle.csn_judge.specs.Told.{Tells, tells_none, tells_enter, tells_bit, tells_leave}
use Rattle.csn_movetext.specs.WithNodes.{with_nodes, inside, with_node}
use Rattle.csn_json.specs.declared.form.TreeForm.{TreeForm}
use Rattle.csn_movetext.specs.Openings.{OpeningsV, opening_in}
use Rattle.csn_movetext.specs.Writing.{WritingV, ready, behind, written_by}
use Rattle.csn_movetext.specs.Kept.{begun, IsFront, Extends}
use Rattle.csn_movetext.specs.Track.{TrackV, Shown, Writes}
use Rattle.csn_movetext.specs.Blocks.{nothing}
use Rattle.csn_movetext.proofs.Octets.{extends_then, extends_none}
use Rattle.csn_movetext.proofs.WholeFacts.{shown_state}

-- what goes on is there
record Goes (o : Option WritingV) (f : WritingV → Option WritingV) (u : WritingV) : Type 0 where
  pub next : WritingV
  pub first : o ≡ Some next
  pub later : f next ≡ Some u

goes_on : (o : Option WritingV) (f : WritingV → Option WritingV) (u : WritingV) → option_and_then f o ≡ Some u → Goes o f u
goes_on None f u e = absurd (cc)
goes_on (Some w) f u e = record { next = w; first = refl; later = e }

module _ (d : DescV) where
  -- the nodes with these numbers
  abbrev AreNodes : List ℕ → List Node → Type 0
  AreNodes [] [] = Unit {0}
  AreNodes [] (n ∷ ns) = ⊥
  AreNodes (i ∷ is) [] = ⊥
  AreNodes (i ∷ is) (n ∷ ns) = (slice_get d.nodes i ≡ Some n) × AreNodes is ns

  -- ---- what stays

  pub same_openings : {around others : List ℕ} {moves : List Move} {old new : TrackV}
      → Tells d Writes around moves others old new → new.openings ≡ old.openings
  same_openings (tells_none others_are new_is) = ap (λ (t : TrackV). t.openings) new_is
  same_openings (tells_enter node next at writes tells) = same_openings tells ∙ writes.same_openings
  same_openings (tells_bit node next at writes tells) = same_openings tells ∙ writes.same_openings
  same_openings (tells_leave node next at writes tells) = same_openings tells ∙ writes.same_openings

  pub extends : {around others : List ℕ} {moves : List Move} {old new : TrackV}
      → Tells d Writes around moves others old new → Extends old.kept.text new.kept.text
  extends {old = old} {new = new} (tells_none others_are new_is) = extends_none old.kept.text new.kept.text (ap (λ (t : TrackV). t.kept.text) new_is)
  extends {old = old} {new = new} (tells_enter node next at writes tells) =
      extends_then old.kept.text next.kept.text new.kept.text writes.extends (extends tells)
  extends {old = old} {new = new} (tells_bit node next at writes tells) =
      extends_then old.kept.text next.kept.text new.kept.text writes.extends (extends tells)
  extends {old = old} {new = new} (tells_leave node next at writes tells) =
      extends_then old.kept.text next.kept.text new.kept.text writes.extends (extends tells)

  pub going_before : {around others : List ℕ} {moves : List Move} {old new : TrackV}
      → Tells d Writes around moves others old new → new.refused ≡ false → old.refused ≡ false
  going_before (tells_none others_are new_is) going = sym (ap (λ (t : TrackV). t.refused) new_is) ∙ going
  going_before (tells_enter node next at writes tells) going = writes.going (going_before tells going)
  going_before (tells_bit node next at writes tells) going = writes.going (going_before tells going)
  going_before (tells_leave node next at writes tells) going = writes.going (going_before tells going)

  -- ---- what is written

  -- the text goes on by one move, and then by the others
  abbrev GoesOn : TrackV → TrackV → List Node → List Move → Type 0
  GoesOn old new nodes moves =
      (w u : WritingV) → Shown old w → written_by old.openings.form (opening_in old.openings) w (with_nodes d nodes moves) ≡ Some u → Shown new u

  one_move :
      (old next new : TrackV) (move : Move) (node : Node) (nodes : List Node) (moves : List Move)
      → Writes old move node next → next.refused ≡ false → GoesOn next new nodes moves
      → (w u : WritingV)
      → Shown old w → option_and_then (λ x. written_by old.openings.form (opening_in old.openings) x
      (with_nodes d nodes moves)) (behind old.openings.form (opening_in old.openings) move node w) ≡ Some u
      → Shown new u
  one_move old next new move node nodes moves writes going later w u shown e =
      let g = goes_on (behind old.openings.form (opening_in old.openings) move node w)
      (λ x. written_by old.openings.form (opening_in old.openings) x (with_nodes d nodes moves)) u e in
      later g.next u (writes.goes_on going w g.next shown g.first)
      (ap (λ l. written_by l.form (opening_in l) g.next (with_nodes d nodes moves)) writes.same_openings ∙ g.later)

  pub followed :
      {around others : List ℕ} {moves : List Move} {old new : TrackV} (nodes : List Node)
      → AreNodes around nodes → Tells d Writes around moves others old new → new.refused ≡ false
      → GoesOn old new nodes moves
  followed {old = old} nodes are (tells_none others_are new_is) going w u shown e =
      let same : w ≡ u = cc in
      subst (λ t. Shown t u) (sym new_is) (subst (λ x. Shown old x) same shown)
  followed {old = old} {new = new} nodes are (tells_enter {i = i} {moves = moves} node next at writes tells) going w u shown e =
      let with_it : written_by old.openings.form (opening_in old.openings) w (with_node (Enter i) (Some node) (with_nodes d (node ∷ nodes) moves)) ≡ Some u =
      sym (ap (λ o. written_by old.openings.form (opening_in old.openings) w (with_node (Enter i) o (with_nodes d (inside o nodes) moves))) at) ∙ e in
      one_move old next new (Enter i) node (node ∷ nodes) moves writes (going_before tells going)
      (followed (node ∷ nodes) (at, are) tells going) w u shown with_it
  followed [] are (tells_bit node next at writes tells) going w u shown e = absurd are
  followed {old = old} {new = new} (n ∷ nodes) are (tells_bit {bit = bit} {moves = moves} node next at writes tells) going w u shown e =
      let twice : Some node ≡ Some n = sym at ∙ are.0 in
      let same : node ≡ n = cc in
      one_move old next new (Bit bit) n (n ∷ nodes) moves (subst (λ m. Writes old (Bit bit) m next) same writes)
      (going_before tells going) (followed (n ∷ nodes) are tells going) w u shown e
  followed [] are (tells_leave node next at writes tells) going w u shown e = absurd are
  followed {old = old} {new = new} (n ∷ nodes) are (tells_leave {moves = moves} node next at writes tells) going w u shown e =
      let twice : Some node ≡ Some n = sym at ∙ are.0 in
      let same : node ≡ n = cc in
      one_move old next new Leave n nodes moves (subst (λ m. Writes old Leave m next) same writes)
      (going_before tells going) (followed nodes are.1 tells going) w u shown e

  -- ---- moves after others

  pub tells-then : {around middle others : List ℕ} {first second : List Move} {old state new : TrackV}
      → Tells d Writes around first middle old state → Tells d Writes middle second others state new
      → Tells d Writes around (first ++ second) others old new
  tells-then {around = around} {others = others} {second = second} {state = state} {new = new} (tells_none open_is new_is) later =
      let P : List ℕ → Type 0 = λ a. Tells d Writes a second others state new in
      let Q : TrackV → Type 0 = λ s. Tells d Writes around second others s new in
      subst Q new_is (subst P open_is later)
  tells-then (tells_enter node next at makes tells) later = tells_enter node next at makes (tells-then tells later)
  tells-then (tells_bit node next at makes tells) later = tells_bit node next at makes (tells-then tells later)
  tells-then (tells_leave node next at makes tells) later = tells_leave node next at makes (tells-then tells later)

-- ---- at both ends

pub nothing_shown : (openings : OpeningsV) (before : List ℕ) → Shown (nothing openings before) (ready before false)
nothing_shown openings before = shown_state openings 0 (ready before false) refl

first_none : (a b : List ℕ) → [] ≡ a ++ b → a ≡ []
first_none [] b e = refl
first_none (x ∷ a) b e = absurd (cc)

nothing_ahead : (form : TreeForm) (long : Bool) (front back : List ℕ) → front ≡ [] → back ≡ [] → IsFront long front back → begun form long front ≡ []
nothing_ahead form false front back none none_held is = refl
nothing_ahead form true front back none none_held is = absurd (omega (arith, is, ap length none, ap length none_held))

second_none : (a b : List ℕ) → [] ≡ a ++ b → b ≡ []
second_none [] b e = sym e
second_none (x ∷ a) b e = absurd (cc)

-- where no leaf is open, all is written
pub all_written : (t : TrackV) (text : List ℕ) (left : Bool) → Shown t (ready text left) → t.kept.text ≡ text
all_written t text left s =
    let gathered : [] ≡ s.before.gathered ++ t.pending = ap (λ (w : WritingV). w.gathered) s.with_pending in
    let none : s.before.gathered ≡ [] = first_none s.before.gathered t.pending gathered in
    let same : text ≡ s.before.text = ap (λ (w : WritingV). w.text) s.with_pending in
    let cut : [] ≡ s.shows.front ++ s.shows.back = sym none ∙ s.shows.cut in
    s.shows.written
    ∙ ap (λ l. s.before.text ++ l) (nothing_ahead t.openings.form t.kept.long s.shows.front s.shows.back
    (first_none s.shows.front s.shows.back cut) (second_none s.shows.front s.shows.back cut)
    s.shows.written_ahead)
    ∙ append-nil s.before.text
    ∙ sym same
