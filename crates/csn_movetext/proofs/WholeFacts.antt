-- A text that is written by all moves of a node at once.
use Rattle.std.proofs.Common.{◌≡◌, ℕ, arith, if◌then◌else◌, Bool, true, false, List, [], ◌∷◌, ◌++◌, length, refl, sym}
use Rattle.std.proofs.Common.{ap, subst, ◌∙◌, append_assoc, append-nil, Option, Some, None, unwrap_or}
use Rattle.std.specs.Prelude.{slice_get, codes, Result, Ok, Err, OnOk, is_err}
use Rattle.std.specs.Option.{option_and_then}
use Rattle.csn_bits.specs.Numbers.{number_of, low_bits}
use Rattle.csn_bits.proofs.NumberFacts.{length-low_bits}
use Rattle.csn_bits.specs.Line.{written}
use Rattle.csn_desc.specs.declared.moves.Move.{Move}
use Rattle.csn_desc.specs.declared.moves.Move.TheVariants.{Enter, Bit, Leave}
use Rattle.csn_desc.specs.declared.node.Node.{Node}
use Rattle.csn_desc.specs.declared.node.Node.TheVariants as node
use Rattle.csn_desc.specs.declared.node.Node.TheVariants.{Lits, Spare, Pad, Null, Field, Seq, Choice, Times, Many, Trunc, Window, Named}
use Rattle.csn_desc.specs.TreeV.{TreeV}
use Rattle.csn_desc.specs.Nodes.{DescV}
use Rattle.csn_desc.specs.Values.{Values}
use Rattle.csn_desc.specs.Walks.{Walk, walk_at}
use Rattle.csn_judge.specs.Told.{Tells, WholeTold}
use Rattle.csn_movetext.specs.WithNodes.{with_nodes, inside, with_node}
use Rattle.csn_json.specs.declared.form.TreeForm.{TreeForm}
use Rattle.csn_json.specs.declared.form.TreeForm.TheVariants.{Text, Json}
use Rattle.csn_movetext.specs.declared.template.Template.{Template}
use Rattle.csn_json.specs.Forms.{gap_after, text_in}
use Rattle.csn_movetext.specs.Templates.{filled, template_at}
use Rattle.csn_movetext.specs.Openings.{OpeningsV, HasOpenings, opening_in, leaf_width}
use Rattle.csn_movetext.specs.Laws.{MovesWriteTheirTree}
use Rattle.csn_movetext.specs.Writing.{WritingV, ready, gathering, when_none, entered, took, shut, passed, part_left}
use Rattle.csn_movetext.specs.Writing.{has_width, bits_text, closed, left_node, behind, written_by}
use Rattle.csn_movetext.specs.Kept.{KeptV, Shows, Extends, IsFront, begun}
use Rattle.csn_movetext.specs.Track.{TrackV, Shown, Writes}
use Rattle.csn_movetext.proofs.Octets.{extends_none}
use Rattle.csn_movetext.proofs.TrackFacts.{view, still, refuses}
use Rattle.csn_movetext.proofs.Going.{gone, Goes, walk_goes}

-- ---- a move never takes back what is written

none_left : (l : List ℕ) (w next : WritingV) → when_none l w ≡ Some next → next ≡ w
none_left [] w next e = cc
none_left (bit ∷ l) w next e = absurd (cc)

more_text : {w next : WritingV} (text more : List ℕ) → next ≡ w → w.text ≡ text ++ more → Extends text next.text
more_text {w} {next} text more same is = (more, ap (λ (x : WritingV). x.text) same ∙ is)

same_text : {w next : WritingV} → next ≡ w → Extends w.text next.text
same_text {w} {next} same = extends_none w.text next.text (ap (λ (x : WritingV). x.text) same)

shut_extends : (byte : ℕ) (w next : WritingV) → shut byte w ≡ Some next → Extends w.text next.text
shut_extends byte w next e = more_text w.text (byte ∷ []) (none_left w.gathered (ready (w.text ++ byte ∷ []) true) next e) refl

passed_extends : (w next : WritingV) → passed w ≡ Some next → Extends w.text next.text
passed_extends w next e = more_text w.text [] (none_left w.gathered (ready w.text true) next e) (sym (append-nil w.text))

part_extends : (form : TreeForm) (w next : WritingV) → part_left form w ≡ Some next → Extends w.text next.text
part_extends Text w next e = passed_extends w next e
part_extends Json w next e = shut_extends 125 w next e

if_extends : (h : Bool) (text more : List ℕ) (next : WritingV) → (if h then Some (ready (text ++ more) true) else None) ≡ Some next → Extends text next.text
if_extends true text more next e =
    let same : ready (text ++ more) true ≡ next = cc in (more, ap (λ (x : WritingV). x.text) (sym same))
if_extends false text more next e = absurd (cc)

closed_extends : (form : TreeForm) (width : Option ℕ) (w next : WritingV) → closed form width w ≡ Some next → Extends w.text next.text
closed_extends Text width w next e = if_extends (has_width width w.gathered) w.text (bits_text width w.gathered) next e
closed_extends Json width w next e = if_extends true w.text (written w.gathered ++ codes "\"") next e

left_extends : (form : TreeForm) (n : Node) (w next : WritingV) → left_node form n w ≡ Some next → Extends w.text next.text
left_extends form (Lits run) w next e = passed_extends w next e
left_extends form (Spare symbol) w next e = closed_extends form (leaf_width (Spare symbol)) w next e
left_extends form Pad w next e = closed_extends form None w next e
left_extends form Null w next e = passed_extends w next e
left_extends form (Field unit count) w next e = closed_extends form (leaf_width (Field unit count)) w next e
left_extends form node.Rest w next e = closed_extends form None w next e
left_extends form (Seq parts) w next e = shut_extends 93 w next e
left_extends form (Choice parts) w next e = part_extends form w next e
left_extends form (Times count part) w next e = shut_extends 93 w next e
left_extends form (Many part) w next e = shut_extends 93 w next e
left_extends form (Trunc parts) w next e = shut_extends 93 w next e
left_extends form (Window unit count part) w next e = passed_extends w next e
left_extends form (Named label part) w next e = part_extends form w next e

took_extends : (bit : ℕ) (n : Node) (w next : WritingV) → took bit n w ≡ Some next → Extends w.text next.text
took_extends bit (Lits run) w next e = let same : w ≡ next = cc in same_text (sym same)
took_extends bit _ w next e = let same : gathering w (bit ∷ []) ≡ next = cc in ([], ap (λ (x : WritingV). x.text) (sym same) ∙ sym (append-nil w.text))

behind_extends : (form : TreeForm) (openings : ℕ → List ℕ) (move : Move) (n : Node) (w next : WritingV)
    → behind form openings move n w ≡ Some next → Extends w.text next.text
behind_extends form openings (Enter i) n w next e =
    more_text w.text (gap_after form w.left ++ openings i) (none_left w.gathered (ready (w.text ++ (gap_after form w.left ++ openings i)) false) next e) refl
behind_extends form openings (Bit bit) n w next e = took_extends bit n w next e
behind_extends form openings Leave n w next e = left_extends form n w next e

-- ---- states that show one text each

first_of : (a b : List ℕ) → length b ≡ 0 → a ≡ b → a ≡ []
first_of a [] none e = e
first_of a (x ∷ b) none e = absurd (omega arith)

-- no leaf is open, but for bits that are pending
abbrev pub state : OpeningsV → ℕ → WritingV → TrackV
state openings bits w =
    record {
      openings = openings;
      kept = record { text = w.text; left = w.left; long = false; held = 0; bits = bits };
      refused = false;
      pending = w.gathered;
    }

module _ (openings : OpeningsV) (bits : ℕ) where
  record Only (w x : WritingV) : Type 0 where
    same : x ≡ w
    none : bits ≡ 0

  shown_only : (w x : WritingV) → Shown (state openings bits w) x → Only w x
  shown_only w x s =
      let back_none : s.shows.back ≡ [] = first_of s.shows.back s.shows.back (sym s.shows.count) refl in
      let cut : s.before.gathered ≡ [] = s.shows.cut ∙ ap (λ l. l ++ s.shows.back) s.shows.written_ahead ∙ back_none in
      let text : s.before.text ≡ w.text = sym (s.shows.written ∙ append-nil s.before.text) in
      let left : s.before.left ≡ w.left = sym s.shows.left_is in
      record {
        same =
            s.with_pending
            ∙ ap (λ l. record { text = l; left = s.before.left; gathered = s.before.gathered ++ w.gathered }) text
            ∙ ap (λ b. record { text = w.text; left = b; gathered = s.before.gathered ++ w.gathered }) left
            ∙ ap (λ l. record { text = w.text; left = w.left; gathered = l ++ w.gathered }) cut;
        none = s.shows.number ∙ ap number_of back_none;
      }

  -- with no bits kept, the track shows what it has written
  pub shown_state : (w : WritingV) → bits ≡ 0 → Shown (state openings bits w) w
  shown_state w none =
      record {
        before = ready w.text w.left;
        shows = record {
          front = [];
          back = [];
          cut = refl;
          octets = refl;
          written_ahead = refl;
          written = sym (append-nil w.text);
          count = refl;
          number = none;
          front_bits = tt;
          back_bits = tt;
          left_is = refl;
        };
        with_pending = refl;
      }

  -- a move leads on where it writes something, and else changes nothing
  abbrev pub led : WritingV → Move → Node → WritingV
  led w move n = unwrap_or (behind openings.form (opening_in openings) move n w) w

  leads_by :
      (w : WritingV) (move : Move) (n : Node) (o : Option WritingV) → behind openings.form (opening_in openings) move n w ≡ o
      → Writes (state openings bits w) move n (state openings bits (unwrap_or o w))
  leads_by w move n None e =
      record {
        same_openings = refl;
        extends = extends_none w.text w.text refl;
        going = λ on. refl;
        goes_on = λ on x next s there.
            let only = shown_only w x s in
            let clash : None ≡ Some next = sym e ∙ ap (λ y. behind openings.form (opening_in openings) move n y) (sym only.same) ∙ there in
            absurd (cc);
      }
  leads_by w move n (Some u) e =
      record {
        same_openings = refl;
        extends = behind_extends openings.form (opening_in openings) move n w u e;
        going = λ on. refl;
        goes_on = λ on x next s there.
            let only = shown_only w x s in
            let one : Some u ≡ Some next = sym e ∙ ap (λ y. behind openings.form (opening_in openings) move n y) (sym only.same) ∙ there in
            let same : u ≡ next = cc in
            subst (λ y. Shown (state openings bits u) y) same (shown_state u only.none);
      }

  pub leads : (w : WritingV) (move : Move) (n : Node) → Writes (state openings bits w) move n (state openings bits (led w move n))
  leads w move n = leads_by w move n (behind openings.form (opening_in openings) move n w) refl

  -- behind moves that write something stands what they write
  abbrev Led : DescV → List (Move × Node) → WritingV → WritingV → Type 0
  Led d pairs w u = written_by openings.form (opening_in openings) w pairs ≡ Some u → gone d Writes (state openings bits) led leads w pairs ≡ u

  led_first : (d : DescV) (first : Move × Node) (pairs : List (Move × Node)) (w u : WritingV) (o : Option WritingV)
      → behind openings.form (opening_in openings) first.0 first.1 w ≡ o
      → ((next : WritingV) → Led d pairs next u) → Led d (first ∷ pairs) w u
  led_first d first pairs w u None is later e =
      let clash : None ≡ Some u = sym (ap (λ o. option_and_then (λ x. written_by openings.form (opening_in openings) x pairs) o) is) ∙ e in absurd (cc)
  led_first d first pairs w u (Some next) is later e =
      ap (λ o. gone d Writes (state openings bits) led leads (unwrap_or o w) pairs) is
      ∙ later next (sym (ap (λ o. option_and_then (λ x. written_by openings.form (opening_in openings) x pairs) o) is) ∙ e)

  led_by : (d : DescV) (pairs : List (Move × Node)) (w u : WritingV) → Led d pairs w u
  led_by d [] w u e = cc
  led_by d (first ∷ pairs) w u e = led_first d first pairs w u (behind openings.form (opening_in openings)
      first.0 first.1 w) refl (λ next. led_by d pairs next u) e

  -- all moves of a tree, where they write a text
  pub told_whole :
      (d : DescV) {i o : ℕ} {t : TreeV} {moves : List Move} (around : List ℕ) (w u : WritingV) → Walk d i o t moves
      → written_by openings.form (opening_in openings) w (with_nodes d [] (moves ++ [])) ≡ Some u
      → Tells d Writes around moves around (state openings bits w) (state openings bits u)
  told_whole d {moves = moves} around w u h e =
      let g = walk_goes d Writes (state openings bits) led leads h around [] w in
      let last : g.last ≡ u = sym (g.leads []) ∙ led_by d (with_nodes d [] (moves ++ [])) w u e in
      subst (λ x. Tells d Writes around moves around (state openings bits w) (state openings bits x)) last g.tells

-- ---- memory is refused in the middle

module _ (openings : OpeningsV) (old new : KeptV) (more : Extends old.text new.text) where
  -- before the first move, or behind it
  abbrev half : Bool → TrackV
  half false = view openings old false
  half true = view openings new true

  refusing : (begun : Bool) (move : Move) (n : Node) → Writes (half begun) move n (half true)
  refusing false move n = refuses openings old new move n more
  refusing true move n = still (half true) move n refl

  stays_refused : (d : DescV) (pairs : List (Move × Node)) → gone d Writes half (λ begun move n. true) refusing true pairs ≡ true
  stays_refused d [] = refl
  stays_refused d (first ∷ pairs) = stays_refused d pairs

  begins : (d : DescV) {i o : ℕ} {t : TreeV} {moves : List Move}
      → Walk d i o t moves → gone d Writes half (λ begun move n. true) refusing false
      (with_nodes d [] (moves ++ [])) ≡ true
  begins d {i = i} {moves = moves} (walk_at n within at h e) =
      ap (λ l. gone d Writes half (λ begun move n. true) refusing false (with_nodes d [] (l ++ []))) e
      ∙ ap (λ o. gone d Writes half (λ begun move n. true) refusing false
      (with_node (Enter i) o (with_nodes d (inside o []) ((within ++ Leave ∷ []) ++ [])))) at
      ∙ stays_refused d (with_nodes d (n ∷ []) ((within ++ Leave ∷ []) ++ []))

  pub told_refused :
      (d : DescV) {i o : ℕ} {t : TreeV} {moves : List Move} (around : List ℕ) → Walk d i o t moves
      → Tells d Writes around moves around (view openings old false) (view openings new true)
  told_refused d {moves = moves} around h =
      let g = walk_goes d Writes half (λ begun move n. true) refusing h around [] false in
      let last : g.last ≡ true = sym (g.leads []) ∙ begins d h in
      subst (λ b. Tells d Writes around moves around (view openings old false) (half b)) last g.tells

-- ---- a template is written

pub told_at_once :
    {E : Type 0} (r : Result (Unit {0}) E) (openings : OpeningsV) (d : DescV) (old new : KeptV) (i width number : ℕ)
    (template : Template) → MovesWriteTheirTree → HasOpenings d openings
    → template_at openings.templates i ≡ Some template → old.held ≡ 0 → old.long ≡ false → Extends old.text new.text
    → OnOk r (new ≡ record {
      text = old.text ++ (gap_after Text old.left ++ filled template number);
      left =
          true;
      long = old.long;
      held = old.held;
      bits = old.bits;
    })
    → WholeTold d Writes i (low_bits width number) (view openings old false) (view openings new (is_err r))
told_at_once (Err e) openings d old new i width number template law has there held long more wrote o v t moves around means walk =
    told_refused openings old new more d around walk
told_at_once (Ok done) openings d old new i width number template law has there held long more wrote o v t moves around means walk =
    let is = has.templates i template there in
    let b : List ℕ = low_bits width number in
    let ends : low_bits (length b) number ≡ b = ap (λ k. low_bits k number) (length-low_bits width number) in
    let text : filled template number ≡ is.mark ++ text_in Text t = is.writes is.mark is.marked o v b t number means ends in
    let before : WritingV = ready old.text old.left in
    let behind_it : WritingV = ready (old.text ++ (gap_after openings.form old.left ++ (is.mark ++ text_in openings.form t))) true in
    let wrote_all = law openings.form d (opening_in openings) i o o v b t moves is.mark [] [] old.text old.left has.opened means walk is.marked in
    let first : state openings old.bits before ≡ view openings old false =
    ap (λ l. view openings (record { text = old.text; left = old.left; long = l; held = 0; bits = old.bits }) false) (sym long)
    ∙ ap (λ h. view openings (record { text = old.text; left = old.left; long = old.long; held = h; bits = old.bits }) false) (sym held) in
    let last : state openings old.bits behind_it ≡ view openings new false =
    ap (λ f. view openings (record {
      text = old.text ++ (gap_after f old.left ++ (is.mark ++ text_in f t));
      left =
          true;
      long = false;
      held = 0;
      bits = old.bits;
    }) false) is.form
    ∙ ap (λ l. view openings (record {
      text = old.text ++ (gap_after Text old.left ++ l);
      left = true;
      long =
          false;
      held = 0;
      bits = old.bits;
    }) false) (sym text)
    ∙ ap (λ l. view openings (record {
      text = old.text ++ (gap_after Text old.left ++ filled template number);
      left =
          true;
      long = l;
      held = 0;
      bits = old.bits;
    }) false) (sym long)
    ∙ ap (λ h. view openings (record {
      text = old.text ++ (gap_after Text old.left ++ filled template number);
      left =
          true;
      long = old.long;
      held = h;
      bits = old.bits;
    }) false) (sym held)
    ∙ ap (λ k. view openings k false) (sym wrote) in
    let A : TrackV → Type 0 = λ x. Tells d Writes around moves around x (state openings old.bits behind_it) in
    let B : TrackV → Type 0 = λ x. Tells d Writes around moves around (view openings old false) x in
    subst B last (subst A first (told_whole openings old.bits d around before behind_it walk wrote_all))
