-- Patterns in front of texts.
use Rattle.std.proofs.Common.{◌≡◌, ℕ, ◌<◌, Bool, true, false, List, [], ◌∷◌, ◌++◌, length, map, refl, sym, ap, ◌∙◌, arith, append_assoc}
use Rattle.csn_cert.specs.declared.pattern.Mark.{Mark}
use Rattle.csn_cert.specs.declared.pattern.Mark.TheVariants.{Zero, One, Any}
use Rattle.csn_cert.specs.PatternV.{PatternV}
use Rattle.csn_cert.specs.PatternText.{mark_character, marks_text, end_character, pattern_text}
use Rattle.csn_cert.specs.CertificateV.{IsPattern}
use Rattle.csn_cert.specs.Reading.{BeginsNoMark, IsWord}
use Rattle.csn_cert.proofs.Fronts.{Tells, heads, tails}

-- ---- characters

mark_same : (m n : Mark) → mark_character m ≡ mark_character n → m ≡ n
mark_same Zero Zero e = refl
mark_same Zero One e = absurd (omega arith)
mark_same Zero Any e = absurd (omega arith)
mark_same One Zero e = absurd (omega arith)
mark_same One One e = refl
mark_same One Any e = absurd (omega arith)
mark_same Any Zero e = absurd (omega arith)
mark_same Any One e = absurd (omega arith)
mark_same Any Any e = refl

end_same : (v w : Bool) → end_character v ≡ end_character w → v ≡ w
end_same true true e = refl
end_same true false e = absurd (omega arith)
end_same false true e = absurd (omega arith)
end_same false false e = refl

mark_is_no_end : (m : Mark) (w : Bool) → mark_character m ≡ end_character w → ⊥
mark_is_no_end Zero true e = omega arith
mark_is_no_end Zero false e = omega arith
mark_is_no_end One true e = omega arith
mark_is_no_end One false e = omega arith
mark_is_no_end Any true e = omega arith
mark_is_no_end Any false e = omega arith

-- `e` is no mark
empty_is_no_mark : (m : Mark) → 101 ≡ mark_character m → ⊥
empty_is_no_mark Zero e = omega arith
empty_is_no_mark One e = omega arith
empty_is_no_mark Any e = omega arith

pub end_begins_no_mark : (whole : Bool) (behind : List ℕ) → BeginsNoMark (end_character whole ∷ behind)
end_begins_no_mark whole behind mark after same = mark_is_no_end mark whole (sym (heads (end_character whole) (mark_character mark) behind after same))

pub end_tells : (v w : Bool) (a b : List ℕ) → end_character v ∷ a ≡ end_character w ∷ b → (v ≡ w) × (a ≡ b)
end_tells v w a b same = (end_same v w (heads (end_character v) (end_character w) a b same), tails (end_character v) (end_character w) a b same)

-- ---- words

-- marks up to where no mark stands
pub word_tells : (ms ns : List Mark) (a b : List ℕ) → BeginsNoMark a → BeginsNoMark b
    → map mark_character ms ++ a ≡ map mark_character ns ++ b → (ms ≡ ns) × (a ≡ b)
word_tells [] [] a b never never' same = (refl, same)
word_tells [] (n ∷ ns) a b never never' same = absurd (never n (map mark_character ns ++ b) same)
word_tells (m ∷ ms) [] a b never never' same = absurd (never' m (map mark_character ms ++ a) (sym same))
word_tells (m ∷ ms) (n ∷ ns) a b never never' same =
    let first : m ≡ n = mark_same m n (heads (mark_character m) (mark_character n) (map mark_character ms ++ a) (map mark_character ns ++ b) same) in
    let later = word_tells ms ns a b never never' (tails (mark_character m) (mark_character n)
    (map mark_character ms ++ a) (map mark_character ns ++ b) same) in
    (ap (λ x. x ∷ ms) first ∙ ap (λ l. n ∷ l) later.0, later.1)

-- where a mark follows marks, the word is longer
pub word_longer : (ms ns : List Mark) (m : Mark) (a b : List ℕ)
    → BeginsNoMark b → map mark_character ms ++ mark_character m ∷ a ≡ map mark_character ns ++ b
    → length ms < length ns
word_longer [] [] m a b never same = absurd (never m a (sym same))
word_longer [] (n ∷ ns) m a b never same = omega arith
word_longer (x ∷ ms) [] m a b never same = absurd (never x (map mark_character ms ++ mark_character m ∷ a) (sym same))
word_longer (x ∷ ms) (n ∷ ns) m a b never same =
    let later = word_longer ms ns m a b never (tails (mark_character x) (mark_character n)
    (map mark_character ms ++ mark_character m ∷ a) (map mark_character ns ++ b) same) in
    omega (arith, later)

-- where no mark stands, no word does
pub no_word : (ns : List Mark) (a b : List ℕ) → BeginsNoMark a → 0 < length ns → a ≡ map mark_character ns ++ b → ⊥
no_word [] a b never some same = omega arith
no_word (n ∷ ns) a b never some same = never n (map mark_character ns ++ b) same

-- no marks have no text
pub no_marks_text : (ms : List Mark) (a : List ℕ) → length ms ≡ 0 → map mark_character ms ++ a ≡ a
no_marks_text [] a none = refl
no_marks_text (m ∷ ms) a none = absurd (omega arith)

-- ---- patterns

-- a text that begins with `e` begins with no pattern but an empty one
empty_parts : (marks : List Mark) (whole : Bool) (text behind : List ℕ)
    → 101 ∷ text ≡ marks_text marks ++ end_character whole ∷ behind → (marks ≡ [])
    × (text ≡ end_character whole ∷ behind)
empty_parts [] whole text behind same = (refl, tails 101 101 text (end_character whole ∷ behind) same)
empty_parts (m ∷ ms) whole text behind same =
    absurd (empty_is_no_mark m
    (heads 101 (mark_character m) text (map mark_character ms ++ end_character whole ∷ behind) same))

pub empty_pattern : (p : PatternV) (text behind : List ℕ) → 101 ∷ text ≡ pattern_text p ++ behind → (p.marks ≡ []) × (text ≡ end_character p.whole ∷ behind)
empty_pattern p text behind same = empty_parts p.marks p.whole text behind (same ∙ append_assoc (marks_text p.marks) (end_character p.whole ∷ []) behind)

word_parts : (marks : List Mark) (whole : Bool) (text behind : List ℕ) → ((after : List ℕ) → text ≡ 101 ∷ after → ⊥)
    → text ≡ marks_text marks ++ end_character whole ∷ behind → (0 < length marks)
    × (text ≡ map mark_character marks ++ end_character whole ∷ behind)
word_parts [] whole text behind never same = absurd (never (end_character whole ∷ behind) same)
word_parts (m ∷ ms) whole text behind never same = (omega arith, same)

-- one that does not begins with a word and an end
pub word_pattern : (p : PatternV) (text behind : List ℕ) → IsPattern p → ((after : List ℕ) → text ≡ 101 ∷ after → ⊥)
    → text ≡ pattern_text p ++ behind → IsWord p.marks
    × (text ≡ map mark_character p.marks ++ end_character p.whole ∷ behind)
word_pattern p text behind is never same =
    let found = word_parts p.marks p.whole text behind never (same ∙ append_assoc (marks_text p.marks) (end_character p.whole ∷ []) behind) in
    (record { some = found.0; few = is }, found.1)

-- the text of a word and an end
spelled_parts : (marks : List Mark) (whole : Bool) (text rest behind : List ℕ)
    → 0 < length marks → text ≡ map mark_character marks ++ rest → rest ≡ end_character whole ∷ behind
    → text ≡ marks_text marks ++ end_character whole ∷ behind
spelled_parts [] whole text rest behind some same end = absurd (omega arith)
spelled_parts (m ∷ ms) whole text rest behind some same end = same ∙ ap (λ l. map mark_character (m ∷ ms) ++ l) end

pub spelled_word : (marks : List Mark) (whole : Bool) (text rest behind : List ℕ)
    → 0 < length marks → text ≡ map mark_character marks ++ rest → rest ≡ end_character whole ∷ behind
    → text ≡ pattern_text (record { marks = marks; whole = whole }) ++ behind
spelled_word marks whole text rest behind some same end = spelled_parts marks whole text rest behind some same end
    ∙ sym (append_assoc (marks_text marks) (end_character whole ∷ []) behind)

-- ---- patterns are told apart

marks_tell : (ms ns : List Mark) (v w : Bool) (a b : List ℕ)
    → marks_text ms ++ end_character v ∷ a ≡ marks_text ns ++ end_character w ∷ b → (ms ≡ ns) × (v ≡ w) × (a ≡ b)
marks_tell [] [] v w a b same =
    let ends = end_tells v w a b (tails 101 101 (end_character v ∷ a) (end_character w ∷ b) same) in
    (refl, ends.0, ends.1)
marks_tell [] (n ∷ ns) v w a b same =
    absurd (empty_is_no_mark n (heads 101 (mark_character n) (end_character v ∷ a)
    (map mark_character ns ++ end_character w ∷ b) same))
marks_tell (m ∷ ms) [] v w a b same =
    absurd (empty_is_no_mark m (sym (heads (mark_character m) 101 (map mark_character ms ++ end_character v ∷ a)
    (end_character w ∷ b) same)))
marks_tell (m ∷ ms) (n ∷ ns) v w a b same =
    let words = word_tells (m ∷ ms) (n ∷ ns) (end_character v ∷ a) (end_character w ∷ b) (end_begins_no_mark v a) (end_begins_no_mark w b) same in
    let ends = end_tells v w a b words.1 in
    (words.0, ends.0, ends.1)

pub patterns_differ : (p q : PatternV) (a b : List ℕ) → pattern_text p ++ a ≡ pattern_text q ++ b → (p ≡ q) × (a ≡ b)
patterns_differ p q a b same =
    let cut : marks_text p.marks ++ end_character p.whole ∷ a ≡ marks_text q.marks ++ end_character q.whole ∷ b =
    sym (append_assoc (marks_text p.marks) (end_character p.whole ∷ []) a) ∙ same ∙ append_assoc (marks_text q.marks) (end_character q.whole ∷ []) b in
    let found = marks_tell p.marks q.marks p.whole q.whole a b cut in
    (ap (λ (m : List Mark). record { marks = m; whole = p.whole }) found.0 ∙ ap (λ (w : Bool). record { marks = q.marks; whole = w }) found.1, found.2)

pub pattern_tells : Tells IsPattern pattern_text
pattern_tells p q a b is is' same = patterns_differ p q a b same
