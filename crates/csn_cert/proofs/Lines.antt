-- The patterns and the line of a position in front of texts.
use Rattle.std.proofs.Common.{◌≡◌, ℕ, ◌+◌, ◌<◌, ◌≤◌, ◌^◌, List, [], ◌∷◌, ◌++◌, length, flat_map, map, codes, refl}
use Rattle.std.proofs.Common.{sym, ap, ◌∙◌, subst, arith, append_assoc, append-nil, IfSome, ◌-◌, Option, Some}
use Rattle.std.proofs.Common.{slice_get, IsTrue, ltb, length-append}
use Rattle.std.proofs.lemmas.Bool.Decides.{Decides-ltb}
use Rattle.std.specs.List.{AllByRecursion}
use Rattle.std.proofs.lemmas.List.{append_cancel_left, flat_map_more}
use Rattle.csn_cert.specs.PatternV.{PatternV}
use Rattle.csn_cert.specs.PatternText.{ComesBefore, pattern_text, patterns_text, more_patterns_text, marks_text, mark_character, end_character}
use Rattle.csn_cert.specs.declared.pattern.Mark.{Mark}
use Rattle.csn_cert.specs.declared.pattern.Mark.TheVariants.{Zero, One, Any}
use Rattle.csn_cert.specs.CertificateV.{PositionV, IsPattern, IsPosition, Rises}
use Rattle.csn_cert.specs.CertificateText.{digits_text, position_text}
use Rattle.csn_cert.specs.Growing.{last_of}
use Rattle.csn_cert.specs.Reading.{Stands, Lacks, Anything, IsNumber, number_text, IsOctet, octet_text, ArePatterns, patterns_line}
use Rattle.csn_cert.proofs.Fronts.{Tells, GoesOn, goes_on, heads, tails}
use Rattle.csn_cert.proofs.Growth.{last_at, All-push, Rises-push}
use Rattle.csn_cert.proofs.Words.{pattern_tells}
use Rattle.csn_cert.proofs.Numbers.{number_tells, octet_tells}

-- ---- lists that rise

-- what comes after others comes behind the last of them
pub behind_last : {A : Type 0} (Before : A → A → Type 0) (xs : List A) (y : A) (ys : List A)
    → Rises Before (xs ++ y ∷ ys) → IfSome (last_of xs) (λ x. Before x y)
behind_last Before [] y ys rises = tt
behind_last Before (x ∷ []) y ys rises = rises.0
behind_last Before (x ∷ z ∷ xs) y ys rises = behind_last Before (z ∷ xs) y ys rises.1

-- the last is found at the last place
pub last_found : {A : Type 0} (xs : List A) (x : A) → slice_get xs (length xs - 1) ≡ Some x → last_of xs ≡ Some x
last_found [] x is = absurd (cc)
last_found (y ∷ xs) x is = last_at (y ∷ xs) (length (y ∷ xs) - 1) x (omega arith) is

-- a test of the octet of the last position
pub octet_behind : (o : Option PositionV) (p : PositionV) (tested octet : ℕ) → o ≡ Some p → tested ≡ p.octet
    → (IsTrue (ltb tested octet) → IfSome o (λ q. q.octet < octet))
    × (IfSome o (λ q. q.octet < octet) → IsTrue (ltb tested octet))
octet_behind o p tested octet is same =
    let P : Option PositionV → Type 0 = λ x. (IsTrue (ltb tested octet) → IfSome x (λ q. q.octet < octet))
    × (IfSome x (λ q. q.octet < octet) → IsTrue (ltb tested octet)) in
    subst P (sym is) (rw same (Decides-ltb p.octet octet))

-- ---- patterns

-- a pattern behind a comma
abbrev pub comma_text : PatternV → List ℕ
comma_text p = 44 ∷ pattern_text p

comma_tells : Tells IsPattern comma_text
comma_tells p q a b is is' same = pattern_tells p q a b is is' (tails 44 44 (pattern_text p ++ a) (pattern_text q ++ b) same)

-- no pattern begins with `-`
marks_have_no_dash : (marks : List Mark) (rest behind : List ℕ) → marks_text marks ++ rest ≡ 45 ∷ behind → ⊥
marks_have_no_dash [] rest behind same = omega (arith, heads 101 45 rest behind same)
marks_have_no_dash (Zero ∷ marks) rest behind same = omega (arith, heads 48 45 (map mark_character marks ++ rest) behind same)
marks_have_no_dash (One ∷ marks) rest behind same = omega (arith, heads 49 45 (map mark_character marks ++ rest) behind same)
marks_have_no_dash (Any ∷ marks) rest behind same = omega (arith, heads 120 45 (map mark_character marks ++ rest) behind same)

pattern_has_no_dash : (p : PatternV) (rest behind : List ℕ) → pattern_text p ++ rest ≡ 45 ∷ behind → ⊥
pattern_has_no_dash p rest behind same = marks_have_no_dash p.marks (end_character p.whole ∷ rest) behind
    (sym (append_assoc (marks_text p.marks) (end_character p.whole ∷ []) rest) ∙ same)

comma_is_no_feed : (p : PatternV) (after behind : List ℕ) → comma_text p ++ after ≡ 10 ∷ behind → ⊥
comma_is_no_feed p after behind same = omega (arith, heads 44 10 (pattern_text p ++ after) behind same)

-- a line that begins with some patterns goes on with the others
pub patterns_go_on : (front all : List PatternV) (rest behind : List ℕ)
    → 0 < length front → AllByRecursion IsPattern front → AllByRecursion IsPattern all
    → patterns_text front ++ rest ≡ patterns_line all ++ behind → GoesOn IsPattern comma_text front all rest
    (10 ∷ behind)
patterns_go_on [] all rest behind some each each' same = absurd (omega arith)
patterns_go_on (p ∷ front) [] rest behind some each each' same =
    absurd (pattern_has_no_dash p (more_patterns_text front ++ rest) (10 ∷ behind)
    (sym (append_assoc (pattern_text p) (more_patterns_text front) rest) ∙ same))
patterns_go_on (p ∷ front) (q ∷ all) rest behind some each each' same =
    let line : patterns_line (q ∷ all) ++ behind ≡ pattern_text q ++ (more_patterns_text all ++ 10 ∷ behind) =
    append_assoc (pattern_text q ++ more_patterns_text all) (10 ∷ []) behind ∙ append_assoc (pattern_text q) (more_patterns_text all) (10 ∷ behind) in
    let found = pattern_tells p q (more_patterns_text front ++ rest) (more_patterns_text all ++ 10 ∷ behind)
    each.0 each'.0 (sym (append_assoc (pattern_text p) (more_patterns_text front) rest) ∙ same ∙ line) in
    let on = goes_on IsPattern comma_text comma_tells front all rest (10 ∷ behind) each.1 each'.1
    (λ x after same'. comma_is_no_feed x after behind same') found.1 in
    record {
      tail = on.tail;
      each = on.each;
      is = ap (λ l. q ∷ l) on.is ∙ ap (λ z. z ∷ (front ++ on.tail)) (sym found.0);
      spelled = on.spelled;
    }

-- no dash and then no line feed
pub no_patterns : (text rest : List ℕ) → text ≡ 45 ∷ rest → ((after : List ℕ) → rest ≡ 10 ∷ after → ⊥) → Lacks ArePatterns Anything patterns_line text
no_patterns text rest dash never [] behind stands = never behind (tails 45 45 rest (10 ∷ behind) (sym dash ∙ stands.spelled))
no_patterns text rest dash never (q ∷ all) behind stands =
    pattern_has_no_dash q (more_patterns_text all ++ 10 ∷ behind) rest
    (sym (append_assoc (pattern_text q ++ more_patterns_text all) (10 ∷ []) behind ∙ append_assoc (pattern_text q)
    (more_patterns_text all) (10 ∷ behind)) ∙ sym stands.spelled ∙ dash)

-- neither a dash nor a pattern
pub no_first_pattern : (text : List ℕ) → ((after : List ℕ) → text ≡ 45 ∷ after → ⊥)
    → Lacks IsPattern Anything pattern_text text → Lacks ArePatterns Anything patterns_line text
no_first_pattern text never lacks [] behind stands = never (10 ∷ behind) stands.spelled
no_first_pattern text never lacks (q ∷ all) behind stands =
    lacks q (more_patterns_text all ++ 10 ∷ behind) (record {
      is = stands.is.each.0;
      may = tt;
      spelled = stands.spelled ∙ append_assoc (pattern_text q ++ more_patterns_text all) (10 ∷ []) behind
          ∙ append_assoc (pattern_text q) (more_patterns_text all) (10 ∷ behind);
    })

-- a comma and then no pattern
pub no_next_pattern : (front : List PatternV) (text rest behind : List ℕ)
    → 0 < length front → AllByRecursion IsPattern front → text ≡ patterns_text front ++ rest → rest ≡ 44 ∷ behind
    → Lacks IsPattern Anything pattern_text behind → Lacks ArePatterns Anything patterns_line text
no_next_pattern front text rest behind some each read comma lacks all after stands =
    by_tail on.tail on.each on.spelled
  where
    on : GoesOn IsPattern comma_text front all rest (10 ∷ after)
    on = patterns_go_on front all rest after some each stands.is.each (sym read ∙ stands.spelled)

    by_tail : (tail : List PatternV) → AllByRecursion IsPattern tail → rest ≡ flat_map comma_text tail ++ 10 ∷ after → ⊥
    by_tail [] each' spelled = omega (arith, heads 44 10 behind after (sym comma ∙ spelled))
    by_tail (q ∷ tail) each' spelled =
        lacks q (flat_map comma_text tail ++ 10 ∷ after) (record {
          is = each'.0;
          may = tt;
          spelled = tails 44 44 behind (pattern_text q ++ (flat_map comma_text tail ++ 10 ∷ after))
              (sym comma ∙ spelled ∙ append_assoc (comma_text q) (flat_map comma_text tail) (10 ∷ after));
        })

-- a comma and then a pattern that does not come behind the last
pub no_pattern_behind : (front : List PatternV) (next : PatternV) (text rest middle behind : List ℕ)
    → 0 < length front → AllByRecursion IsPattern front → text ≡ patterns_text front ++ rest → rest ≡ 44 ∷ middle
    → Stands IsPattern Anything pattern_text middle next behind
    → (IfSome (last_of front) (λ last. ComesBefore last next) → ⊥) → Lacks ArePatterns Anything patterns_line text
no_pattern_behind front next text rest middle behind some each read comma stood not all after stands =
    by_tail on.tail on.each on.is on.spelled
  where
    on : GoesOn IsPattern comma_text front all rest (10 ∷ after)
    on = patterns_go_on front all rest after some each stands.is.each (sym read ∙ stands.spelled)

    by_tail : (tail : List PatternV) → AllByRecursion IsPattern tail → all ≡ front ++ tail → rest ≡ flat_map comma_text tail ++ 10 ∷ after → ⊥
    by_tail [] each' is spelled = omega (arith, heads 44 10 middle after (sym comma ∙ spelled))
    by_tail (q ∷ tail) each' is spelled =
        let spelled' = tails 44 44 middle (pattern_text q ++ (flat_map comma_text tail ++ 10 ∷ after))
        (sym comma ∙ spelled ∙ append_assoc (comma_text q) (flat_map comma_text tail) (10 ∷ after)) in
        let found = pattern_tells next q behind (flat_map comma_text tail ++ 10 ∷ after) stood.is each'.0 (sym stood.spelled ∙ spelled') in
        let rises : Rises ComesBefore (front ++ q ∷ tail) = subst (λ l. Rises ComesBefore l) is stands.is.rising in
        not (subst (λ n. IfSome (last_of front) (λ last. ComesBefore last n)) (sym found.0) (behind_last ComesBefore front q tail rises))

-- neither a comma nor a line feed behind patterns
pub no_line_feed : (front : List PatternV) (text rest : List ℕ) → 0 < length front → AllByRecursion IsPattern front
    → text ≡ patterns_text front ++ rest → ((after : List ℕ) → rest ≡ 44 ∷ after → ⊥)
    → ((after : List ℕ) → rest ≡ 10 ∷ after → ⊥) → Lacks ArePatterns Anything patterns_line text
no_line_feed front text rest some each read never never' all after stands =
    by_tail on.tail on.spelled
  where
    on : GoesOn IsPattern comma_text front all rest (10 ∷ after)
    on = patterns_go_on front all rest after some each stands.is.each (sym read ∙ stands.spelled)

    by_tail : (tail : List PatternV) → rest ≡ flat_map comma_text tail ++ 10 ∷ after → ⊥
    by_tail [] spelled = never' after spelled
    by_tail (q ∷ tail) spelled = never (pattern_text q ++ (flat_map comma_text tail ++ 10 ∷ after))
        (spelled ∙ append_assoc (comma_text q) (flat_map comma_text tail) (10 ∷ after))

-- one pattern more
pub patterns_pushed : (front : List PatternV) (next : PatternV) (text rest middle behind : List ℕ)
    → 0 < length front → text ≡ patterns_text front ++ rest → rest ≡ 44 ∷ middle
    → middle ≡ pattern_text next ++ behind → text ≡ patterns_text (front ++ next ∷ []) ++ behind
patterns_pushed [] next text rest middle behind some read comma stood = absurd (omega arith)
patterns_pushed (p ∷ front) next text rest middle behind some read comma stood =
    let more : more_patterns_text front ++ comma_text next ≡ more_patterns_text (front ++ next ∷ []) = flat_map_more comma_text [] front next in
    read
    ∙ ap (λ l. pattern_text p ++ more_patterns_text front ++ l) (comma ∙ ap (λ l. 44 ∷ l) stood)
    ∙ append_assoc (pattern_text p) (more_patterns_text front) (comma_text next ++ behind)
    ∙ ap (λ l. pattern_text p ++ l) (sym (append_assoc (more_patterns_text front) (comma_text next) behind))
    ∙ ap (λ l. pattern_text p ++ (l ++ behind)) more
    ∙ sym (append_assoc (pattern_text p) (more_patterns_text (front ++ next ∷ [])) behind)

-- the patterns at the ends of lines are told apart
patterns_tell : (ps qs : List PatternV) (a b : List ℕ) → AllByRecursion IsPattern ps → AllByRecursion IsPattern qs
    → patterns_line ps ++ a ≡ patterns_line qs ++ b → (ps ≡ qs) × (a ≡ b)
patterns_tell [] [] a b each each' same = (refl, append_cancel_left (codes "-\n") a b same)
patterns_tell [] (q ∷ qs) a b each each' same =
    absurd (pattern_has_no_dash q (more_patterns_text qs ++ 10 ∷ b) (10 ∷ a)
    (sym (append_assoc (pattern_text q ++ more_patterns_text qs) (10 ∷ []) b ∙ append_assoc (pattern_text q)
    (more_patterns_text qs) (10 ∷ b)) ∙ sym same))
patterns_tell (p ∷ ps) qs a b each each' same =
    let on = patterns_go_on (p ∷ ps) qs (10 ∷ a) b (omega arith) each each' (sym (append_assoc (patterns_text (p ∷ ps)) (10 ∷ []) a) ∙ same) in
    by_tail on.tail on.is on.spelled
  where
    by_tail : (tail : List PatternV) → qs ≡ (p ∷ ps) ++ tail → 10 ∷ a ≡ flat_map comma_text tail ++ 10 ∷ b → ((p ∷ ps) ≡ qs) × (a ≡ b)
    by_tail [] is spelled = (sym (is ∙ append-nil (p ∷ ps)), tails 10 10 a b spelled)
    by_tail (t ∷ tail) is spelled =
        absurd (comma_is_no_feed t (flat_map comma_text tail ++ 10 ∷ b) a
        (sym (append_assoc (comma_text t) (flat_map comma_text tail) (10 ∷ b)) ∙ sym spelled))

-- ---- the line of a position

parts : (octet : ℕ) (ends start patterns behind : List ℕ)
    → (codes "at " ++ (48 + octet) ∷ codes " " ++ ends ++ codes " " ++ start ++ codes " " ++ patterns)
    ++ 10 ∷ [] ++ behind ≡ octet_text octet
    ++ (codes " " ++ ends ++ (codes " " ++ start ++ (codes " " ++ (patterns ++ 10 ∷ [] ++ behind))))
parts octet ends start patterns behind = simp append_assoc

pub position_parts : (p : PositionV) (behind : List ℕ)
    → position_text p ++ behind ≡ octet_text p.octet
    ++ (number_text 8 p.ends ++ (number_text 2 p.start ++ (codes " " ++ (patterns_line p.patterns ++ behind))))
position_parts p behind = parts p.octet (digits_text 8 p.ends) (digits_text 2 p.start) (patterns_text p.patterns) behind

past : {A : Type 0} (Is : A → Type 0) (text_of : A → List ℕ)
    → Tells Is text_of → (text middle rest : List ℕ) (x y : A) → Stands Is Anything text_of text x middle → Is y
    → text ≡ text_of y ++ rest → (x ≡ y) × (middle ≡ rest)
past Is text_of tells text middle rest x y stood is same = tells x y middle rest stood.is is (sym stood.spelled ∙ same)

pub no_octet : (text : List ℕ) → Lacks IsOctet Anything octet_text text → Lacks IsPosition Anything position_text text
no_octet text lacks p behind stands =
    lacks p.octet
    (number_text 8 p.ends ++ (number_text 2 p.start ++ (codes " " ++ (patterns_line p.patterns ++ behind))))
    (record { is = stands.is.octet; may = tt; spelled = stands.spelled ∙ position_parts p behind })

behind_octet : (text one : List ℕ) (octet : ℕ) → Stands IsOctet Anything octet_text text octet one
    → (p : PositionV) (behind : List ℕ) → Stands IsPosition Anything position_text text p behind → (octet ≡ p.octet)
    × (one ≡ number_text 8 p.ends ++ (number_text 2 p.start ++ (codes " " ++ (patterns_line p.patterns ++ behind))))
behind_octet text one octet first p behind stands = past IsOctet octet_text octet_tells text one
    (number_text 8 p.ends ++ (number_text 2 p.start ++ (codes " " ++ (patterns_line p.patterns ++ behind))))
    octet p.octet first stands.is.octet (stands.spelled ∙ position_parts p behind)

ends_small : (p : PositionV) → IsPosition p → IsNumber 8 p.ends
ends_small p is = (let eight : 2 ^ 8 ≡ 256 = refl in omega (arith, is.ends))

start_small : (p : PositionV) → IsPosition p → IsNumber 2 p.start
start_small p is = (let two : 2 ^ 2 ≡ 4 = refl in omega (arith, is.start))

pub no_ends : (text one : List ℕ) (octet : ℕ) → Stands IsOctet Anything octet_text text octet one
    → Lacks (IsNumber 8) Anything (number_text 8) one → Lacks IsPosition Anything position_text text
no_ends text one octet first lacks p behind stands =
    lacks p.ends (number_text 2 p.start ++ (codes " " ++ (patterns_line p.patterns ++ behind)))
    (record {
      is = ends_small p stands.is;
      may = tt;
      spelled =
          (behind_octet text one octet first p behind stands).1;
    })

behind_ends : (text one two : List ℕ) (octet ends : ℕ) → Stands IsOctet Anything octet_text text octet one
    → Stands (IsNumber 8) Anything (number_text 8) one ends two → (p : PositionV) (behind : List ℕ)
    → Stands IsPosition Anything position_text text p behind → (ends ≡ p.ends)
    × (two ≡ number_text 2 p.start ++ (codes " " ++ (patterns_line p.patterns ++ behind)))
behind_ends text one two octet ends first second p behind stands = past (IsNumber 8) (number_text 8) (number_tells 8)
    one two (number_text 2 p.start ++ (codes " " ++ (patterns_line p.patterns ++ behind))) ends p.ends second
    (ends_small p stands.is) (behind_octet text one octet first p behind stands).1

pub no_start : (text one two : List ℕ) (octet ends : ℕ) → Stands IsOctet Anything octet_text text octet one
    → Stands (IsNumber 8) Anything (number_text 8) one ends two → Lacks (IsNumber 2) Anything (number_text 2) two
    → Lacks IsPosition Anything position_text text
no_start text one two octet ends first second lacks p behind stands =
    lacks p.start (codes " " ++ (patterns_line p.patterns ++ behind))
    (record {
      is = start_small p stands.is;
      may = tt;
      spelled =
          (behind_ends text one two octet ends first second p behind stands).1;
    })

behind_start : (text one two three : List ℕ) (octet ends start : ℕ)
    → Stands IsOctet Anything octet_text text octet one → Stands (IsNumber 8) Anything (number_text 8) one ends two
    → Stands (IsNumber 2) Anything (number_text 2) two start three → (p : PositionV) (behind : List ℕ)
    → Stands IsPosition Anything position_text text p behind → (start ≡ p.start)
    × (three ≡ codes " " ++ (patterns_line p.patterns ++ behind))
behind_start text one two three octet ends start first second third p behind stands =
    past (IsNumber 2) (number_text 2) (number_tells 2) two three (codes " " ++ (patterns_line p.patterns ++ behind))
    start p.start third (start_small p stands.is) (behind_ends text one two octet ends first second p behind stands).1

pub no_space : (text one two three : List ℕ) (octet ends start : ℕ)
    → Stands IsOctet Anything octet_text text octet one → Stands (IsNumber 8) Anything (number_text 8) one ends two
    → Stands (IsNumber 2) Anything (number_text 2) two start three
    → ((after : List ℕ) → three ≡ codes " " ++ after → ⊥) → Lacks IsPosition Anything position_text text
no_space text one two three octet ends start first second third never p behind stands =
    never (patterns_line p.patterns ++ behind) (behind_start text one two three octet ends start first second third p
    behind stands).1

pub no_position_patterns : (text one two three four : List ℕ) (octet ends start : ℕ)
    → Stands IsOctet Anything octet_text text octet one → Stands (IsNumber 8) Anything (number_text 8) one ends two
    → Stands (IsNumber 2) Anything (number_text 2) two start three → three ≡ codes " " ++ four
    → Lacks ArePatterns Anything patterns_line four → Lacks IsPosition Anything position_text text
no_position_patterns text one two three four octet ends start first second third space lacks p behind stands =
    let same : four ≡ patterns_line p.patterns ++ behind = append_cancel_left (codes " ") four
    (patterns_line p.patterns ++ behind)
    (sym space ∙ (behind_start text one two three octet ends start first second third p behind stands).1) in
    lacks p.patterns behind (record { is = record { each = stands.is.patterns; rising = stands.is.rising }; may = tt; spelled = same })

-- all of it was read
pub position_stands : (text one two three four five : List ℕ) (octet ends start : ℕ) (patterns : List PatternV)
    → Stands IsOctet Anything octet_text text octet one → Stands (IsNumber 8) Anything (number_text 8) one ends two
    → Stands (IsNumber 2) Anything (number_text 2) two start three → three ≡ codes " " ++ four
    → Stands ArePatterns Anything patterns_line four patterns five → Stands IsPosition Anything position_text text
    (record { octet = octet; ends = ends; start = start; patterns = patterns }) five
position_stands text one two three four five octet ends start patterns first second third space fifth =
    let eight : 2 ^ 8 ≡ 256 = refl in
    let two' : 2 ^ 2 ≡ 4 = refl in
    record {
      is = record { octet = first.is; ends = omega (arith, second.is); start = omega (arith, third.is); patterns = fifth.is.each; rising = fifth.is.rising };
      may = tt;
      spelled =
          first.spelled ∙ ap (λ l. octet_text octet ++ l) (second.spelled ∙ ap (λ l. number_text 8 ends ++ l)
          (third.spelled ∙ ap (λ l. number_text 2 start ++ l) (space ∙ ap (λ l. codes " " ++ l) fifth.spelled)))
          ∙ sym (position_parts (record { octet = octet; ends = ends; start = start; patterns = patterns }) five);
    }

pub position_tells : Tells IsPosition position_text
position_tells p q a b is is' same =
    let one = octet_tells p.octet q.octet
    (number_text 8 p.ends ++ (number_text 2 p.start ++ (codes " " ++ (patterns_line p.patterns ++ a))))
    (number_text 8 q.ends ++ (number_text 2 q.start ++ (codes " " ++ (patterns_line q.patterns ++ b))))
    is.octet is'.octet (sym (position_parts p a) ∙ same ∙ position_parts q b) in
    let two = number_tells 8 p.ends q.ends (number_text 2 p.start ++ (codes " " ++ (patterns_line p.patterns ++ a)))
    (number_text 2 q.start ++ (codes " " ++ (patterns_line q.patterns ++ b))) (ends_small p is) (ends_small q is')
    one.1 in
    let three = number_tells 2 p.start q.start (codes " " ++ (patterns_line p.patterns ++ a))
    (codes " " ++ (patterns_line q.patterns ++ b)) (start_small p is) (start_small q is') two.1 in
    let four = append_cancel_left (codes " ") (patterns_line p.patterns ++ a) (patterns_line q.patterns ++ b) three.1 in
    let five = patterns_tell p.patterns q.patterns a b is.patterns is'.patterns four in (
      ap (λ (o : ℕ). record { octet = o; ends = p.ends; start = p.start; patterns = p.patterns }) one.0
          ∙ ap (λ (e : ℕ). record { octet = q.octet; ends = e; start = p.start; patterns = p.patterns }) two.0
          ∙ ap (λ (s : ℕ). record { octet = q.octet; ends = q.ends; start = s; patterns = p.patterns }) three.0
          ∙ ap (λ (ks : List PatternV). record { octet = q.octet; ends = q.ends; start = q.start; patterns = ks }) five.0,
      five.1,
    )

-- ---- what was read of patterns

-- these patterns were read of a text, with this one as the last
pub record PatternsRead (text : List ℕ) (front : List PatternV) (newest : PatternV) (rest : List ℕ) : Type 0 where
  pub spelled : text ≡ patterns_text front ++ rest
  pub are : ArePatterns front
  pub last : last_of front ≡ Some newest
  pub few : length front + length rest ≤ length text

pub some_last : (front : List PatternV) (last : PatternV) → last_of front ≡ Some last → 0 < length front
some_last [] last is = absurd (cc)
some_last (p ∷ front) last is = omega arith

-- the first pattern
pub first_read : (text behind : List ℕ) (p : PatternV) → Stands IsPattern Anything pattern_text text p behind → PatternsRead text (p ∷ []) p behind
first_read text behind p stands =
    record {
      spelled = stands.spelled ∙ ap (λ l. l ++ behind) (sym (append-nil (pattern_text p)));
      are = record { each = (stands.is, tt); rising = tt };
      last = refl;
      few = omega (arith, ap length stands.spelled, length-append (pattern_text p) behind, length-append (marks_text p.marks) (end_character p.whole ∷ []));
    }

last_of-push : {A : Type 0} (xs : List A) (x : A) → last_of (xs ++ x ∷ []) ≡ Some x
last_of-push [] x = refl
last_of-push (y ∷ []) x = refl
last_of-push (y ∷ z ∷ xs) x = last_of-push (z ∷ xs) x

-- one pattern more, behind a comma
pub next_read : (text : List ℕ) (front : List PatternV) (newest : PatternV) (rest middle behind : List ℕ)
    (next : PatternV) → PatternsRead text front newest rest → rest ≡ 44 ∷ middle
    → Stands IsPattern Anything pattern_text middle next behind → ComesBefore newest next
    → PatternsRead text (front ++ next ∷ []) next behind
next_read text front newest rest middle behind next read comma stands before =
    record {
      spelled = patterns_pushed front next text rest middle behind (some_last front newest read.last) read.spelled comma stands.spelled;
      are = record {
        each = All-push IsPattern front next read.are.each stands.is;
        rising =
            Rises-push ComesBefore front next read.are.rising
            (subst (λ (o : Option PatternV). IfSome o (λ p. ComesBefore p next)) (sym read.last) before);
      };
      last = last_of-push front next;
      few =
          omega (arith, read.few, length-append front (next ∷ []), ap length comma, ap length stands.spelled, length-append (pattern_text next) behind);
    }

-- all of it was read
pub patterns_stand : (text : List ℕ) (front : List PatternV) (newest : PatternV) (rest behind : List ℕ)
    → PatternsRead text front newest rest → rest ≡ 10 ∷ behind
    → Stands ArePatterns Anything patterns_line text front behind
patterns_stand text front newest rest behind read end =
    record {
      is = read.are;
      may = tt;
      spelled = read.spelled ∙ ap (λ l. patterns_text front ++ l) end ∙ sym
          (append_assoc (patterns_text front) (10 ∷ []) behind);
    }
