-- Text that grows, and text in HTML.
use Rattle.std.proofs.Common.{◌≡◌, ℕ, ◌+◌, ◌<◌, List, [], ◌∷◌, ◌++◌, length, take, map, get_or, slice_get, Some, refl, sym, ap, ◌∙◌, append_assoc, append-nil}
use Rattle.std.proofs.lemmas.List.{map-append, take_more}
use Rattle.std.proofs.lemmas.Option.{slice_get_within, get_or_from_slice_get}
use Rattle.csn_desc.specs.TreeV.{TreeV, list_of, trees_of}
use Rattle.csn_encode.proofs.Rows.{list_of-trees_of}
use Rattle.csn_explaining.specs.Texts.{HasGrown, html_byte, html_text}

pub grown_not : (old new : List ℕ) → new ≡ old → HasGrown old new
grown_not old new same = ([], same ∙ sym (append-nil old))

pub grown_then : (a b c : List ℕ) → HasGrown a b → HasGrown b c → HasGrown a c
grown_then a b c first then =
    (first.0 ++ then.0, then.1 ∙ ap (λ l. l ++ then.0) first.1 ∙ append_assoc a first.0 then.0)

html_text-append : (xs ys : List ℕ) → html_text (xs ++ ys) ≡ html_text xs ++ html_text ys
html_text-append [] ys = refl
html_text-append (x ∷ xs) ys =
    ap (λ l. html_byte x ++ l) (html_text-append xs ys) ∙ sym (append_assoc (html_byte x) (html_text xs) (html_text ys))

-- a text in HTML behind another that gets one byte more
pub more_html :
    (text old now new : List ℕ) (at byte : ℕ) → at < length text → now ≡ old ++ html_text (take at text)
    → byte ≡ get_or text at 0 → new ≡ now ++ html_byte byte → new ≡ old ++ html_text (take (at + 1) text)
more_html text old now new at byte within stood is wrote =
    let one : html_text (byte ∷ []) ≡ html_byte byte = append-nil (html_byte byte) in
    let more : html_text (take (at + 1) text) ≡ html_text (take at text) ++ html_byte byte =
    ap (λ l. html_text l) (take_more text at 0 within)
    ∙ html_text-append (take at text) (get_or text at 0 ∷ [])
    ∙ ap (λ b. html_text (take at text) ++ html_text (b ∷ [])) (sym is)
    ∙ ap (λ l. html_text (take at text) ++ l) one in
    wrote ∙ ap (λ l. l ++ html_byte byte) stood ∙ append_assoc old (html_text (take at text)) (html_byte byte)
    ∙ ap (λ l. old ++ l) (sym more)

-- a literal word that gets one letter more
pub more_letters :
    {A : Type 0} (letter : A → ℕ) (run : List A) (old now new : List ℕ) (at : ℕ) (symbol : A)
    → slice_get run at ≡ Some symbol → now ≡ old ++ map letter (take at run)
    → new ≡ now ++ letter symbol ∷ [] → new ≡ old ++ map letter (take (at + 1) run)
more_letters letter run old now new at symbol is stood wrote =
    let next : take (at + 1) run ≡ take at run ++ symbol ∷ [] =
    take_more run at symbol (slice_get_within run at symbol is)
    ∙ ap (λ s. take at run ++ s ∷ []) (get_or_from_slice_get run at symbol symbol is) in
    wrote ∙ ap (λ l. l ++ letter symbol ∷ []) stood
    ∙ append_assoc old (map letter (take at run)) (letter symbol ∷ [])
    ∙ ap (λ l. old ++ l) (sym (ap (λ l. map letter l) next ∙ map-append letter (take at run) (symbol ∷ [])))

-- four pieces, each pushed behind a text
pub misfit_joined :
    (old n1 n2 n3 n4 a b c d : List ℕ) → n1 ≡ old ++ a → n2 ≡ n1 ++ b → n3 ≡ n2 ++ c → n4 ≡ n3 ++ d
    → n4 ≡ old ++ (a ++ (b ++ (c ++ d)))
misfit_joined old n1 n2 n3 n4 a b c d e1 e2 e3 e4 = rw (e4, e3, e2, e1) (simp append_assoc)

-- how many trees a row has
pub row_count : (trees : List TreeV) → length (list_of (trees_of trees)) ≡ length trees
row_count trees = ap (λ l. length l) (list_of-trees_of trees)
