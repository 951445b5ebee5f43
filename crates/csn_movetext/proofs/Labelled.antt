-- A node is entered whose opening is a text and more behind it.
use Rattle.std.proofs.Common.{◌≡◌, ℕ, Bool, true, false, List, [], ◌∷◌, ◌++◌, length, refl, sym, ap, ◌∙◌, subst, arith}
use Rattle.std.proofs.Common.{append_assoc, append-nil, length-append, Some}
use Rattle.csn_json.specs.declared.form.TreeForm.{TreeForm}
use Rattle.csn_json.specs.Forms.{gap_after}
use Rattle.csn_movetext.specs.Kept.{KeptV, Shows, IsFront, begun}
use Rattle.csn_movetext.specs.Track.{Enters}
use Rattle.csn_movetext.specs.Writing.{WritingV, ready, when_none}

where_none : (g : List ℕ) (x next : WritingV) → when_none g x ≡ Some next → ((y : WritingV) → when_none g y ≡ Some y) × (x ≡ next)
where_none [] x next e = ((λ y. refl), cc)
where_none (bit ∷ g) x next e = absurd (cc)

none_begun : (form : TreeForm) (long : Bool) (front back : List ℕ) → [] ≡ front ++ back → IsFront long front back → begun form long front ≡ []
none_begun form false front back cut is = refl
none_begun form true front back cut is = absurd (omega (arith, is, ap length cut, length-append front back))

-- the kept text with more behind it
abbrev pub with_more : KeptV → List ℕ → KeptV
with_more s more = record { text = s.text ++ more; left = s.left; long = s.long; held = s.held; bits = s.bits }

shows_more : (form : TreeForm) (s : KeptV) (text more : List ℕ) (left : Bool) → Shows form s (ready text left)
    → Shows form (with_more s more) (ready (text ++ more) left)
shows_more form s text more left h =
    let none = none_begun form s.long h.front h.back h.cut h.written_ahead in
    record {
      front = h.front;
      back = h.back;
      cut = h.cut;
      octets = h.octets;
      written_ahead = h.written_ahead;
      written =
          ap (λ l. l ++ more) (h.written ∙ ap (λ l. text ++ l) none ∙ append-nil text)
          ∙ sym (append-nil (text ++ more))
          ∙ ap (λ l. (text ++ more) ++ l) (sym none);
      count = h.count;
      number = h.number;
      front_bits = h.front_bits;
      back_bits = h.back_bits;
      left_is = h.left_is;
    }

pub entered_more : (form : TreeForm) (text more : List ℕ) (old mid new : KeptV) → Enters form text old mid → new ≡ with_more mid more
    → Enters form (text ++ more) old new
entered_more form text more old mid new enters is w next shows e =
    let gap = gap_after form w.left in
    let whole : WritingV = ready (w.text ++ (gap ++ (text ++ more))) false in
    let begins : WritingV = ready (w.text ++ (gap ++ text)) false in
    let none = where_none w.gathered whole next e in
    let shown = shows_more form mid (w.text ++ (gap ++ text)) more false (enters w begins shows (none.0 begins)) in
    let joined : (w.text ++ (gap ++ text)) ++ more ≡ w.text ++ (gap ++ (text ++ more)) =
    append_assoc w.text (gap ++ text) more ∙ ap (λ l. w.text ++ l) (append_assoc gap text more) in
    subst (λ s. Shows form s next) (sym is) (subst (λ v. Shows form (with_more mid more) v) (ap (λ l. ready l false) joined ∙ none.1) shown)
