-- The one kind of token that some bytes are.
use Rattle.std.proofs.Common.{◌≡◌, ℕ, Bool, true, false, ◌&&◌, List, [], ◌∷◌, Option, Some, None, codes, refl, ap}
use Rattle.std.specs.Prelude.{if◌then◌else◌, nat_eq}
use Rattle.std.proofs.lemmas.Bool.{and_parts}
use Rattle.csn_lexer.specs.declared.token.TokenKind.{TokenKind}
use Rattle.csn_lexer.specs.declared.token.TokenKind.TheVariants.{Less, Greater, Colon, Define, Semicolon, BraceLeft}
use Rattle.csn_lexer.specs.declared.token.TokenKind.TheVariants.{BraceRight, Bar, Bang, Ampersand, Equal, ParenLeft}
use Rattle.csn_lexer.specs.declared.token.TokenKind.TheVariants.{ParenRight, Star, StarStar, SlashSlash, Plus, Word}
use Rattle.csn_lexer.specs.Word.{begins_word, is_word, is_word_tail}
use Rattle.csn_lexer.specs.Spelling.{IsSpelled}

abbrev pub same : List ℕ → List ℕ → Bool
same [] [] = true
same [] (y ∷ ys) = false
same (x ∷ xs) [] = false
same (x ∷ xs) (y ∷ ys) = nat_eq x y && same xs ys

abbrev pub starts_word : List ℕ → Bool
starts_word [] = false
starts_word (c ∷ rest) = begins_word c

abbrev pub sign_of : List ℕ → Option TokenKind
sign_of bytes =
    if same bytes (codes "<") then Some Less
    else (if same bytes (codes ">") then Some Greater
    else (if same bytes (codes ":") then Some Colon
    else (if same bytes (codes "::=") then Some Define
    else (if same bytes (codes ";") then Some Semicolon
    else (if same bytes (codes "{") then Some BraceLeft
    else (if same bytes (codes "}") then Some BraceRight
    else (if same bytes (codes "|") then Some Bar
    else (if same bytes (codes "!") then Some Bang
    else (if same bytes (codes "&") then Some Ampersand
    else (if same bytes (codes "=") then Some Equal
    else (if same bytes (codes "(") then Some ParenLeft
    else (if same bytes (codes ")") then Some ParenRight
    else (if same bytes (codes "*") then Some Star
    else (if same bytes (codes "**") then Some StarStar
    else (if same bytes (codes "//") then Some SlashSlash
    else (if same bytes (codes "+") then Some Plus
    else None))))))))))))))))

abbrev pub kind_of : List ℕ → Option TokenKind
kind_of bytes = if starts_word bytes then (if is_word bytes then Some Word else None) else sign_of bytes

word_kind : (bytes : List ℕ) → is_word bytes ≡ true → kind_of bytes ≡ Some Word
word_kind [] h = absurd (cc)
word_kind (c ∷ rest) h =
    let parts = and_parts (begins_word c) (is_word_tail rest) h in rw (parts.0, parts.1) refl

pub kind_is : (k : TokenKind) (bytes : List ℕ) → IsSpelled k bytes → kind_of bytes ≡ Some k
kind_is Less bytes e = ap kind_of e
kind_is Greater bytes e = ap kind_of e
kind_is Colon bytes e = ap kind_of e
kind_is Define bytes e = ap kind_of e
kind_is Semicolon bytes e = ap kind_of e
kind_is BraceLeft bytes e = ap kind_of e
kind_is BraceRight bytes e = ap kind_of e
kind_is Bar bytes e = ap kind_of e
kind_is Bang bytes e = ap kind_of e
kind_is Ampersand bytes e = ap kind_of e
kind_is Equal bytes e = ap kind_of e
kind_is ParenLeft bytes e = ap kind_of e
kind_is ParenRight bytes e = ap kind_of e
kind_is Star bytes e = ap kind_of e
kind_is StarStar bytes e = ap kind_of e
kind_is SlashSlash bytes e = ap kind_of e
kind_is Plus bytes e = ap kind_of e
kind_is Word bytes e = word_kind bytes e

pub one_kind : (k l : TokenKind) (bytes : List ℕ) → IsSpelled k bytes → IsSpelled l bytes → k ≡ l
one_kind k l bytes h g = let a = kind_is k bytes h in let b = kind_is l bytes g in cc

pub no_kind : (bytes : List ℕ) → kind_of bytes ≡ None → (k : TokenKind) → ¬ IsSpelled k bytes
no_kind bytes none k h = let a = kind_is k bytes h in absurd (cc)

-- a byte behind `**`, `//` or `::=` makes no token of them
pub stars_more : (z : ℕ) (rest : List ℕ) → kind_of (42 ∷ 42 ∷ z ∷ rest) ≡ None
stars_more z rest = refl

pub slashes_more : (z : ℕ) (rest : List ℕ) → kind_of (47 ∷ 47 ∷ z ∷ rest) ≡ None
slashes_more z rest = refl

pub define_more : (z : ℕ) (rest : List ℕ) → kind_of (58 ∷ 58 ∷ 61 ∷ z ∷ rest) ≡ None
define_more z rest = refl

-- `*` and another byte, `/` and another byte
pub star_more : (d : ℕ) (rest : List ℕ) → nat_eq d 42 ≡ false → kind_of (42 ∷ d ∷ rest) ≡ None
star_more d rest other = rw other refl

pub slash_more : (d : ℕ) (rest : List ℕ) → nat_eq d 47 ≡ false → kind_of (47 ∷ d ∷ rest) ≡ None
slash_more d rest other = rw other refl

-- `:` and a byte other than `:`, and `::` and a byte other than `=`
pub colon_more : (d : ℕ) (rest : List ℕ) → nat_eq d 58 ≡ false → kind_of (58 ∷ d ∷ rest) ≡ None
colon_more d rest other = rw other refl

pub colons_more : (e : ℕ) (rest : List ℕ) → nat_eq e 61 ≡ false → kind_of (58 ∷ 58 ∷ e ∷ rest) ≡ None
colons_more e rest other = rw other refl

-- bytes that begin as a word does and are none
pub word_more : (c : ℕ) (rest : List ℕ) → begins_word c ≡ true → is_word_tail rest ≡ false
    → kind_of (c ∷ rest) ≡ None
word_more c rest begins ends = rw (begins, ends) refl
