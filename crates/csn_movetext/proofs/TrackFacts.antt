-- What a move makes of a track.
use Rattle.std.proofs.Common.{◌≡◌, ℕ, zero, suc, ◌<◌, arith, Bool, true, false, List, [], ◌∷◌, ◌++◌, refl, sym, ap, subst, ◌∙◌, append_assoc, append-nil, Some}
use Rattle.std.specs.Prelude.{OnOk, Result, Ok, Err, is_err}
use Rattle.csn_bits.specs.Numbers.{low_bits}
use Rattle.csn_desc.specs.declared.moves.Move.{Move}
use Rattle.csn_desc.specs.declared.moves.Move.TheVariants.{Bit}
use Rattle.csn_desc.specs.declared.node.Node.{Node}
use Rattle.csn_desc.specs.declared.node.Node.TheVariants.{Lits}
use Rattle.csn_judge.specs.Told.{BitsTold}
use Rattle.csn_movetext.specs.Openings.{OpeningsV}
use Rattle.csn_movetext.specs.Writing.{WritingV, gathering, took}
use Rattle.csn_movetext.specs.Kept.{KeptV, Shows, Extends}
use Rattle.csn_movetext.specs.Track.{TrackV, Shown, is_literal, TookBits, TookAll, Moves, Writes}
use Rattle.csn_movetext.proofs.Octets.{extends_none}

-- between two calls nothing is pending
abbrev pub view : OpeningsV → KeptV → Bool → TrackV
view openings kept refused = record { openings = openings; kept = kept; refused = refused; pending = [] }

-- some bits of a run have come
abbrev with_pending : OpeningsV → KeptV → List ℕ → TrackV
with_pending openings kept pending = record { openings = openings; kept = kept; refused = false; pending = pending }

gathering_none : (w : WritingV) → gathering w [] ≡ w
gathering_none w = ap (λ l. record { text = w.text; left = w.left; gathered = l }) (append-nil w.gathered)

gathering_more : (w : WritingV) (a b : List ℕ) → gathering (gathering w a) b ≡ gathering w (a ++ b)
gathering_more w a b = ap (λ l. record { text = w.text; left = w.left; gathered = l }) (append_assoc w.gathered a b)

pub shown_of : (openings : OpeningsV) (kept : KeptV) (refused : Bool) (w : WritingV) → Shows openings.form kept w → Shown (view openings kept refused) w
shown_of openings kept refused w s = record { before = w; shows = s; with_pending = sym (gathering_none w) }

pub shows_of : (openings : OpeningsV) (kept : KeptV) (refused : Bool) (w : WritingV) → Shown (view openings kept refused) w → Shows openings.form kept w
shows_of openings kept refused w s = subst (λ x. Shows openings.form kept x) (sym (gathering_none s.before) ∙ sym s.with_pending) s.shows

-- nothing is made once memory was refused
pub still : (t : TrackV) (move : Move) (node : Node) → t.refused ≡ true → Writes t move node t
still t move node off =
    record {
      same_openings = refl;
      extends = extends_none t.kept.text t.kept.text refl;
      going = λ on. absurd (let clash : true ≡ false = sym off ∙ on in cc);
      goes_on = λ on. absurd (let clash : true ≡ false = sym off ∙ on in cc);
    }

-- memory is refused
pub refuses : (openings : OpeningsV) (old new : KeptV) (move : Move) (node : Node) → Extends old.text new.text
    → Writes (view openings old false) move node (view openings new true)
refuses openings old new move node more =
    record { same_openings = refl; extends = more; going = λ on. cc; goes_on = λ on. absurd (cc) }

-- a move, which memory may be refused to
pub writes_move : {E : Type 0} (r : Result (Unit {0}) E) (openings : OpeningsV) (old new : KeptV) (move : Move) (node : Node) → Extends old.text new.text
    → OnOk r (Moves openings move node old new) → Writes (view openings old false) move node (view openings new (is_err r))
writes_move (Ok x) openings old new move node more moves =
    record {
      same_openings = refl;
      extends = more;
      going = λ on. refl;
      goes_on = λ on w next s e. shown_of openings new false next (moves w next (shows_of openings old false w s) e);
    }
writes_move (Err e) openings old new move node more moves = refuses openings old new move node more

-- ---- runs of bits

pub told_still : (t : TrackV) (node : Node) (bits : List ℕ) → t.refused ≡ true → BitsTold Writes node bits t t
told_still t node [] off = refl
told_still t node (bit ∷ bits) off = (t, still t (Bit bit) node off, told_still t node bits off)

told_off : (openings : OpeningsV) (old new : KeptV) (node : Node) (bit : ℕ) (bits : List ℕ) → Extends old.text new.text
    → BitsTold Writes node (bit ∷ bits) (view openings old false) (view openings new true)
told_off openings old new node bit bits more =
    (view openings new true, refuses openings old new (Bit bit) node more, told_still (view openings new true) node bits refl)

-- what a node makes of a bit
took_literal : (node : Node) (bit : ℕ) (w : WritingV) → is_literal node ≡ true → took bit node w ≡ Some w
took_literal (Lits run) bit w is = refl
took_literal _ bit w is = absurd (cc)

took_other : (node : Node) (bit : ℕ) (w : WritingV) → is_literal node ≡ false → took bit node w ≡ Some (gathering w (bit ∷ []))
took_other (Lits run) bit w is = absurd (cc)
took_other _ bit w is = refl

-- the bits of a literal
told_literal : (openings : OpeningsV) (kept : KeptV) (node : Node) (bits : List ℕ) → is_literal node ≡ true
    → BitsTold Writes node bits (view openings kept false) (view openings kept false)
told_literal openings kept node [] is = refl
told_literal openings kept node (bit ∷ bits) is =
    let t : TrackV = view openings kept false in
    let same : Writes t (Bit bit) node t = record {
      same_openings = refl;
      extends = extends_none kept.text kept.text refl;
      going = λ on. refl;
      goes_on = λ on w next s e.
          let one : Some w ≡ Some next = sym (took_literal node bit w is) ∙ e in
          let here : w ≡ next = cc in
          subst (λ x. Shown t x) here s;
    } in
    (t, same, told_literal openings kept node bits is)

-- one bit more is pending
one_pending : (openings : OpeningsV) (kept : KeptV) (node : Node) (front : List ℕ) (bit : ℕ) → is_literal node ≡ false
    → Writes (with_pending openings kept front) (Bit bit) node (with_pending openings kept (front ++ bit ∷ []))
one_pending openings kept node front bit is =
    record {
      same_openings = refl;
      extends = extends_none kept.text kept.text refl;
      going = λ on. refl;
      goes_on = λ on w next s e.
          let one : Some (gathering w (bit ∷ [])) ≡ Some next = sym (took_other node bit w is) ∙ e in
          let here : gathering w (bit ∷ []) ≡ next = cc in
          record {
            before = s.before;
            shows = s.shows;
            with_pending = sym here ∙ ap (λ x. gathering x (bit ∷ [])) s.with_pending ∙ gathering_more s.before front (bit ∷ []);
          };
    }

-- the last bit of a run
last_pending : (openings : OpeningsV) (old new : KeptV) (node : Node) (front : List ℕ) (bit : ℕ) → is_literal node ≡ false → Extends old.text new.text
    → ((w : WritingV) → Shows openings.form old w → Shows openings.form new (gathering w (front ++ bit ∷ [])))
    → Writes (with_pending openings old front) (Bit bit) node (view openings new false)
last_pending openings old new node front bit is more all =
    record {
      same_openings = refl;
      extends = more;
      going = λ on. refl;
      goes_on = λ on w next s e.
          let one : Some (gathering w (bit ∷ [])) ≡ Some next = sym (took_other node bit w is) ∙ e in
          let here : gathering w (bit ∷ []) ≡ next = cc in
          let there : gathering s.before (front ++ bit ∷ []) ≡ next =
          sym (gathering_more s.before front (bit ∷ [])) ∙ ap (λ x. gathering x (bit ∷ [])) (sym s.with_pending) ∙ here in
          shown_of openings new false next (subst (λ x. Shows openings.form new x) there (all s.before s.shows));
    }

told_gathered : (openings : OpeningsV) (old new : KeptV) (node : Node) (front : List ℕ) (bit : ℕ) (bits : List ℕ)
    → is_literal node ≡ false → Extends old.text new.text
    → ((w : WritingV) → Shows openings.form old w → Shows openings.form new (gathering w (front ++ bit ∷ bits)))
    → BitsTold Writes node (bit ∷ bits) (with_pending openings old front) (view openings new false)
told_gathered openings old new node front bit [] is more all =
    (view openings new false, last_pending openings old new node front bit is more all, refl)
told_gathered openings old new node front bit (next ∷ bits) is more all =
    let P : List ℕ → Type 0 = λ l. (w : WritingV) → Shows openings.form old w → Shows openings.form new (gathering w l) in (
      with_pending openings old (front ++ bit ∷ []),
      one_pending openings old node front bit is,
      told_gathered openings old new node (front ++ bit ∷ []) next bits is more (subst P (sym (append_assoc front (bit ∷ []) (next ∷ bits))) all),
    )

told_by_kind : (openings : OpeningsV) (old new : KeptV) (node : Node) (bit : ℕ) (bits : List ℕ) (literal : Bool)
    → is_literal node ≡ literal → Extends old.text new.text
    → TookBits openings.form literal (bit ∷ bits) old new → BitsTold Writes node (bit ∷ bits) (view openings old false) (view openings new false)
told_by_kind openings old new node bit bits true is more same =
    let P : KeptV → Type 0 = λ k. BitsTold Writes node (bit ∷ bits) (view openings old false) (view openings k false) in
    subst P (sym same) (told_literal openings old node (bit ∷ bits) is)
told_by_kind openings old new node bit bits false is more all = told_gathered openings old new node [] bit bits is more all

-- bits that are taken, which memory may be refused to
pub told_taken : {E : Type 0} (r : Result (Unit {0}) E) (openings : OpeningsV) (old new : KeptV) (node : Node)
    (count number : ℕ) → 0 < count → Extends old.text new.text
    → OnOk r (TookAll openings.form node (low_bits count number) old new)
    → BitsTold Writes node (low_bits count number) (view openings old false) (view openings new (is_err r))
told_taken r openings old new node zero number some more took = absurd (omega (arith, some))
told_taken (Ok x) openings old new node (suc count) number some more took =
    told_by_kind openings old new node _ (low_bits count number) (is_literal node) refl more took
told_taken (Err e) openings old new node (suc count) number some more took = told_off openings old new node _ (low_bits count number) more

-- one bit that is taken
pub moves_bit : (openings : OpeningsV) (node : Node) (bit : ℕ) (old new : KeptV)
    → TookAll openings.form node (bit ∷ []) old new → Moves openings (Bit bit) node old new
moves_bit openings node bit old new took = by_kind (is_literal node) refl took
  where
    by_kind : (literal : Bool) → is_literal node ≡ literal → TookBits openings.form literal (bit ∷ []) old new → Moves openings (Bit bit) node old new
    by_kind true is same w next s e =
        let one : Some w ≡ Some next = sym (took_literal node bit w is) ∙ e in
        let here : w ≡ next = cc in
        subst (λ k. Shows openings.form k next) (sym same) (subst (λ x. Shows openings.form old x) here s)
    by_kind false is all w next s e =
        let one : Some (gathering w (bit ∷ [])) ≡ Some next = sym (took_other node bit w is) ∙ e in
        let here : gathering w (bit ∷ []) ≡ next = cc in
        subst (λ x. Shows openings.form new x) here (all w s)
