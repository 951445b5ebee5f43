-- Facts about what contracts see of the values that a walk passes on.
use Rattle.std.proofs.Common.{◌≡◌, ℕ, zero, suc, ◌+◌, ◌<◌, Bool, true, false, ◌||◌, List, [], ◌∷◌, ◌++◌, take}
use Rattle.std.proofs.Common.{slice_get, Some, None, refl, sym, ◌∙◌, ap, rules, length, min, arith}
use Rattle.std.specs.Prelude.{if◌then◌else◌}
use Rattle.std.specs.Borrow.{Bor}
use Rattle.csn_desc.specs.declared.reading.Reading.{Reading}
use Rattle.csn_grammar.specs.declared.expr.Span.{Span}
use Rattle.csn_grammar.specs.declared.expr.Form.{Form}
use Rattle.csn_grammar.specs.ExprV.{ExprV, expr}
use Rattle.csn_grammar.specs.ExprCode.{expr_size, form_size}
use Rattle.csn_grammar.specs.FormView.{form_view, expr_view}
use Rattle.csn_grammar.specs.Names.{same_name}
use Rattle.csn_grammar.specs.Environment.{label_of}
use Rattle.csn_resolve.specs.declared.around.Entered as e
use Rattle.csn_resolve.specs.declared.around.Seen as s
use Rattle.csn_resolve.specs.Seen.{Frame, with_labelled, inner_of, seen_in}
use Rattle.csn_resolve.specs.Walk.{is_among}
use Rattle.csn_resolve.specs.Views.{entered_view, frame_after, seen_view}
use Rattle.csn_resolve.proofs.Basics.Parts.{take_next}

pub entered-Rule : (n : Bor (List ℕ)) (outer : Bor e.Entered) → entered_view (e.Rule n outer) ≡ n.now ∷ entered_view outer.now
entered-Rule n outer = search (rules, e.the_lemmas)

pub entered-Nothing : entered_view e.Nothing ≡ []
entered-Nothing = search (rules, e.the_lemmas)

pub seen-Behind :
    (r : Reading) (items : Bor (List ExprV)) (count : ℕ) (outer : Bor s.Seen)
    → seen_view r (s.Behind items count outer) ≡ frame_after r [] (take count items.now) ∷ seen_view r outer.now
seen-Behind r items count outer = search (rules, s.the_lemmas)

pub seen-Nothing : (r : Reading) → seen_view r s.Nothing ≡ []
seen-Nothing r = search (rules, s.the_lemmas)

-- an expression of which a level is known
pub known : (x : ExprV) (span : Span) (form other : Form) → expr_view span form ≡ x → form ≡ other → x ≡ expr span.start span.end (form_view other)
known x span form other p q = sym p ∙ ap (λ f. expr_view span f) q

-- its size, and that a part is smaller
pub known-size : (x : ExprV) (span : Span) (form other : Form) → expr_view span form ≡ x → form ≡ other → expr_size x ≡ form_size (form_view other)
known-size x span form other p q = ap expr_size (known x span form other p q)

pub part-smaller :
    (x : ExprV) (span : Span) (form other : Form) (part at : ExprV) → expr_view span form ≡ x → form ≡ other → at ≡ part
    → expr_size part < form_size (form_view other) → expr_size at < expr_size x
part-smaller x span form other part at p q here less =
    let whole = known-size x span form other p q in
    let same : expr_size at ≡ expr_size part = ap expr_size here in
    omega (arith, whole, same, less)

-- what a test tells of it
pub told-form :
    (test : ExprV → Bool) (x : ExprV) (span : Span) (form other : Form) (told : Bool) → expr_view span form ≡ x → form ≡ other
    → told ≡ test (expr span.start span.end (form_view other)) → told ≡ test x
told-form test x span form other told p q answer = answer ∙ ap test (sym (known x span form other p q))

-- what a test tells of a part, where it tells the same of the whole
pub told-part :
    (test : ExprV → Bool) (x : ExprV) (span : Span) (form other : Form) (part at : ExprV) (told : Bool)
    → expr_view span form ≡ x → form ≡ other → at ≡ part → test (expr span.start span.end (form_view other)) ≡ test part
    → told ≡ test at → told ≡ test x
told-part test x span form other part at told p q here same answer =
    told-form test x span form other told p q (answer ∙ (ap test here ∙ sym same))

-- two tests that are one in the reading that is asked
pub alike-in-reading : {r q : Reading} (f g : Reading → Bool) → r ≡ q → f q ≡ g q → f r ≡ g r
alike-in-reading f g is same = ap f is ∙ (same ∙ sym (ap g is))

pub among-here : (n m : List ℕ) (ms : List (List ℕ)) → same_name m n ≡ true → is_among n (m ∷ ms) ≡ true
among-here n m ms p = ap (λ b. b || is_among n ms) p

pub among-later : (n m : List ℕ) (ms : List (List ℕ)) → same_name m n ≡ false → is_among n (m ∷ ms) ≡ is_among n ms
among-later n m ms p = ap (λ b. b || is_among n ms) p

-- a frame behind one item more
pub frame-next :
    (r : Reading) (frame : Frame ExprV) (xs : List ExprV) (x : ExprV)
    → frame_after r frame (xs ++ x ∷ []) ≡ with_labelled (label_of r x) (inner_of r x) (frame_after r frame xs)
frame-next r frame [] x = refl
frame-next r frame (y ∷ xs) x = frame-next r (with_labelled (label_of r y) (inner_of r y) frame) xs x

pub frame-more :
    (r : Reading) (xs : List ExprV) (at : ℕ) (x : ExprV) → slice_get xs at ≡ Some x
    → frame_after r [] (take (at + 1) xs) ≡ with_labelled (label_of r x) (inner_of r x) (frame_after r [] (take at xs))
frame-more r xs at x h =
    let next : take (at + 1) xs ≡ take at xs ++ x ∷ [] = take_next xs at x h in
    ap (λ l. frame_after r [] l) next ∙ frame-next r [] (take at xs) x

-- an item with no label is passed by
pub passed-by :
    (r : Reading) (xs : List ExprV) (at : ℕ) (x : ExprV) (label : List ℕ) → slice_get xs at ≡ Some x → label_of r x ≡ None
    → seen_in (frame_after r [] (take (at + 1) xs)) label ≡ seen_in (frame_after r [] (take at xs)) label
passed-by r xs at x label h none =
    ap (λ f. seen_in f label) (frame-more r xs at x h)
    ∙ ap (λ o. seen_in (with_labelled o (inner_of r x) (frame_after r [] (take at xs))) label) none

-- and so is one with another label
pub other-label :
    (r : Reading) (xs : List ExprV) (at : ℕ) (x : ExprV) (label other : List ℕ) → slice_get xs at ≡ Some x
    → label_of r x ≡ Some other → same_name other label ≡ false
    → seen_in (frame_after r [] (take (at + 1) xs)) label ≡ seen_in (frame_after r [] (take at xs)) label
other-label r xs at x label other h some unlike =
    ap (λ f. seen_in f label) (frame-more r xs at x h)
    ∙ (ap (λ o. seen_in (with_labelled o (inner_of r x) (frame_after r [] (take at xs))) label) some
    ∙ ap (λ b. if b then Some (inner_of r x) else seen_in (frame_after r [] (take at xs)) label) unlike)

pub has-label :
    (r : Reading) (xs : List ExprV) (at : ℕ) (x : ExprV) (label other : List ℕ) → slice_get xs at ≡ Some x
    → label_of r x ≡ Some other → same_name other label ≡ true
    → seen_in (frame_after r [] (take (at + 1) xs)) label ≡ Some (inner_of r x)
has-label r xs at x label other h some sure =
    ap (λ f. seen_in f label) (frame-more r xs at x h)
    ∙ (ap (λ o. seen_in (with_labelled o (inner_of r x) (frame_after r [] (take at xs))) label) some
    ∙ ap (λ b. if b then Some (inner_of r x) else seen_in (frame_after r [] (take at xs)) label) sure)

take-nil : {A : Type 0} (n : ℕ) (xs : List A) → xs ≡ [] → take n xs ≡ []
take-nil zero [] p = refl
take-nil (suc n) [] p = refl
take-nil n (x ∷ xs) p = absurd (cc)

-- the first few of a list are no more than it has
pub take-min : {A : Type 0} (n : ℕ) (xs : List A) → take (min n (length xs)) xs ≡ take n xs
take-min zero xs = let none : min 0 (length xs) ≡ 0 = omega arith in ap (λ k. take k xs) none
take-min (suc n) [] = take-nil (min (suc n) 0) [] refl
take-min (suc n) (x ∷ xs) =
    let less : min (suc n) (suc (length xs)) ≡ suc (min n (length xs)) = omega arith in
    ap (λ k. take k (x ∷ xs)) less ∙ ap (λ l. x ∷ l) (take-min n xs)
