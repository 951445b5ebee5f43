-- How patterns are kept, and their texts.
use Rattle.std.proofs.Common.{◌≡◌, ℕ, suc, ◌+◌, ◌-◌, ◌<◌, List, [], ◌∷◌, ◌++◌, length, take, set, replicate, refl}
use Rattle.std.proofs.Common.{sym, ap, ◌∙◌, arith, append_assoc, map, codes, slice_get, Some}
use Rattle.std.proofs.Math.Seq.{take-suc}
use Rattle.std.proofs.lemmas.Option.{slice_get_within, get_or_from_slice_get}
use Rattle.std.proofs.lemmas.List.{length-set, length-take-le, take_more_set, length-append}
use Rattle.std.proofs.Math.Seq.{set-append_seam}
use Rattle.csn_cert.specs.declared.pattern.Mark.{Mark}
use Rattle.csn_cert.specs.declared.pattern.Mark.TheVariants.{Zero}
use Rattle.csn_cert.specs.declared.pattern.TheConstants.{MOST_MARKS}
use Rattle.csn_cert.specs.PatternV.{filled, IsFilled}
use Rattle.csn_cert.specs.PatternText.{mark_character, marks_text}

-- a mark takes the place of the first `Zero` behind the others
set_behind : (front : List Mark) (mark : Mark) → length front < MOST_MARKS → set (filled front) (length front) mark ≡ filled (front ++ mark ∷ [])
set_behind front mark room =
    let left : MOST_MARKS - length front ≡ suc (MOST_MARKS - (length front + 1)) = omega arith in
    let count : length (front ++ mark ∷ []) ≡ length front + 1 = length-append front (mark ∷ []) in
    rw (left, count) (set-append_seam front Zero (replicate (MOST_MARKS - (length front + 1)) Zero) mark ∙ sym
    (append_assoc front (mark ∷ []) (replicate (MOST_MARKS - (length front + 1)) Zero)))

pub IsFilled-push : (marks : List Mark) (len : ℕ) (mark : Mark) → IsFilled marks len → len < MOST_MARKS → IsFilled (set marks len mark) (len + 1)
IsFilled-push marks len mark is room =
    let count : length (take len marks) ≡ len = length-take-le len marks (omega (arith, is.twelve)) in
    let written : set (filled (take len marks)) (length (take len marks)) mark ≡ filled
    (take len marks ++ mark ∷ []) = set_behind (take len marks) mark (omega (arith, count)) in
    record {
      few = omega arith;
      twelve = length-set marks len mark ∙ is.twelve;
      zeros =
          ap (λ m. set m len mark) is.zeros ∙ ap (λ n. set (filled (take len marks)) n mark) (sym count) ∙ written
          ∙ ap filled (sym (take_more_set marks len mark (omega (arith, is.twelve))));
    }

-- where there are marks, their text is their characters
pub marks_text_some : (marks : List Mark) → 0 < length marks → marks_text marks ≡ map mark_character marks
marks_text_some [] some = absurd (omega arith)
marks_text_some (mark ∷ rest) some = refl

pub marks_text_none : (marks : List Mark) → length marks ≡ 0 → marks_text marks ≡ map mark_character marks ++ codes "e"
marks_text_none [] none = refl
marks_text_none (mark ∷ rest) none = absurd (omega arith)

pub take-next : {A : Type 0} (xs : List A) (at : ℕ) (x : A) → slice_get xs at ≡ Some x → take (at + 1) xs ≡ take at xs ++ x ∷ []
take-next xs at x is =
    let count : at + 1 ≡ suc at = omega arith in
    rw count (take-suc xs at x (slice_get_within xs at x is) ∙ ap (λ y. take at xs ++ y ∷ []) (get_or_from_slice_get xs at x x is))
