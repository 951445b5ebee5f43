-- What bytes a state of the reader stands for, and that a step adds its byte to them.
use Rattle.std.proofs.Common.{◌≡◌, ℕ, suc, ◌<◌, List, [], ◌∷◌, ◌++◌, length, Option, Some, None, refl, sym, ap, ◌∙◌, subst, arith, append_assoc}
use Rattle.std.specs.Fmt.{decimal}
use Rattle.hex.specs.Hex.{encode_upper, upper_digits}
use Rattle.std.specs.Prelude.{slice_index}
use Rattle.csn_treetext.specs.declared.stack.TheConstants.{MOST_ROUND}
use Rattle.csn_treetext.specs.declared.bounds.TheConstants.{MOST_LEVELS}
use Rattle.csn_desc.specs.declared.desc.TheConstants.{MOST_NODES}
use Rattle.csn_desc.specs.Label.{IsLabel}
use Rattle.csn_desc.specs.TreeV.{TreeV, row, alt, named, trees_of}
use Rattle.csn_treetext.specs.declared.version.Version.{Version}
use Rattle.csn_treetext.specs.declared.version.Version.TheVariants.{First, Second}
use Rattle.csn_treetext.specs.declared.stack.Frame.{Frame}
use Rattle.csn_treetext.specs.declared.stack.Frame.TheVariants.{Row, Alt, Named}
use Rattle.csn_treetext.specs.reader.Mode.{Mode}
use Rattle.csn_treetext.specs.reader.Mode.{Start, Opened, Behind, Done, Width, Quote, Value, Hash, Number, Name, NameEnd, Octets, Slash, Bare}
use Rattle.csn_treetext.specs.Text.{text_of, row_text, rest_text, bit_digits}
use Rattle.csn_desc.specs.TreeParts.{HasTreeParts, AllHaveTreeParts}
use Rattle.csn_treetext.specs.Fits.{FitsInside, AllFitInside}
use Rattle.csn_treetext.specs.reader.Machine.{State, IsMode, with_tree}
use Rattle.csn_treetext.proofs.Rows.{row_text-one, row_text-push}

-- ---- the bytes

-- each tree with a space behind it
abbrev pub spaced : Version → List TreeV → List ℕ
spaced version [] = []
spaced version (t ∷ ts) = text_of version t ++ 32 ∷ spaced version ts

-- what stands before a tree that is the next one inside
abbrev pub before : Version → List Frame → List ℕ
before version [] = []
before version (Row ts ∷ stack) = before version stack ++ 91 ∷ spaced version ts
before version (Alt j ∷ stack) = before version stack ++ 35 ∷ (decimal j ++ 58 ∷ [])
before version (Named l ∷ stack) = before version stack ++ 60 ∷ (l ++ 62 ∷ 61 ∷ [])

-- what stands up to the end of the last tree of the innermost row
abbrev pub behind : Version → List Frame → List ℕ
behind version [] = []
behind version (Row ts ∷ stack) = before version stack ++ 91 ∷ row_text version (trees_of ts)
behind version (Alt j ∷ stack) = []
behind version (Named l ∷ stack) = []

abbrev pub high_text : Option ℕ → List ℕ
high_text None = []
high_text (Some high) = slice_index upper_digits high ∷ []

abbrev pub spelled : Version → Mode → List Frame → List ℕ
spelled version Start stack = before version stack
spelled version Opened stack = before version stack ++ 91 ∷ []
spelled version Behind stack = behind version stack
spelled version (Done t) stack = text_of version t
spelled version (Width width) stack = before version stack ++ decimal width
spelled version (Quote width) stack = before version stack ++ (decimal width ++ 39 ∷ [])
spelled version (Value width number) stack = before version stack ++ (decimal width ++ 39 ∷ decimal number)
spelled version Hash stack = before version stack ++ 35 ∷ []
spelled version (Number number) stack = before version stack ++ 35 ∷ decimal number
spelled version (Name name at) stack = before version stack ++ 60 ∷ name
spelled version (NameEnd name) stack = before version stack ++ 60 ∷ (name ++ 62 ∷ [])
spelled version (Octets octets high) stack = before version stack ++ 120 ∷ (encode_upper octets ++ high_text high)
spelled version (Slash octets) stack = before version stack ++ 120 ∷ (encode_upper octets ++ 47 ∷ [])
spelled version (Bare b) stack = before version stack ++ 98 ∷ bit_digits b

-- ---- the states that stand for bytes

pub record IsTree (round : ℕ) (t : TreeV) : Type 0 where
  pub fits : FitsInside round t
  pub parts : HasTreeParts t

abbrev pub AreTrees : ℕ → List TreeV → Type 0
AreTrees round [] = Unit {0}
AreTrees round (t ∷ ts) = IsTree round t × AreTrees round ts

abbrev pub IsStack : List Frame → Type 0
IsStack [] = Unit {0}
IsStack (Row ts ∷ stack) = (length stack < MOST_ROUND) × AreTrees (suc (length stack)) ts × IsStack stack
IsStack (Alt j ∷ stack) = (length stack < MOST_ROUND) × (j < MOST_NODES) × IsStack stack
IsStack (Named l ∷ stack) = (length stack < MOST_ROUND) × IsLabel l × IsStack stack

-- the innermost tree is a row that has a tree
abbrev pub HasTree : List Frame → Type 0
HasTree [] = ⊥
HasTree (Row [] ∷ stack) = ⊥
HasTree (Row (t ∷ ts) ∷ stack) = Unit {0}
HasTree (Alt j ∷ stack) = ⊥
HasTree (Named l ∷ stack) = ⊥

-- where a mode can stand
abbrev pub IsPlaced : Version → Mode → List Frame → Type 0
IsPlaced version Start stack = Unit {0}
IsPlaced version Opened stack = Unit {0}
IsPlaced version Behind stack = HasTree stack
IsPlaced version (Done t) stack = (stack ≡ []) × IsTree 0 t
IsPlaced version (Width width) stack = Unit {0}
IsPlaced version (Quote width) stack = Unit {0}
IsPlaced version (Value width number) stack = Unit {0}
IsPlaced version Hash stack = length stack < MOST_ROUND
IsPlaced version (Number number) stack = length stack < MOST_ROUND
IsPlaced version (Name name at) stack = length stack < MOST_ROUND
IsPlaced version (NameEnd name) stack = length stack < MOST_ROUND
IsPlaced version (Octets octets high) stack = version ≡ Second
IsPlaced version (Slash octets) stack = version ≡ Second
IsPlaced version (Bare b) stack = version ≡ First

-- the state stands for these bytes
pub record StandsFor (version : Version) (text : List ℕ) (s : State) : Type 0 where
  pub stack : IsStack s.stack
  pub mode : IsMode s.mode
  pub placed : IsPlaced version s.mode s.stack
  pub bytes : spelled version s.mode s.stack ≡ text

pub level_low : (stack : List Frame) → IsStack stack → length stack < MOST_LEVELS
level_low [] h = omega arith
level_low (Row ts ∷ stack) h = (let k = h.0 in omega arith)
level_low (Alt j ∷ stack) h = (let k = h.0 in omega arith)
level_low (Named l ∷ stack) h = (let k = h.0 in omega arith)

pub AreTrees-push : (round : ℕ) (ts : List TreeV) (t : TreeV) → AreTrees round ts → IsTree round t → AreTrees round (ts ++ t ∷ [])
AreTrees-push round [] t are is = (is, tt)
AreTrees-push round (u ∷ ts) t are is = (are.0, AreTrees-push round ts t are.1 is)

all_fit : (round : ℕ) (ts : List TreeV) → AreTrees round ts → AllFitInside round (trees_of ts)
all_fit round [] are = tt
all_fit round (t ∷ ts) are = (are.0.fits, all_fit round ts are.1)

all_have : (round : ℕ) (ts : List TreeV) → AreTrees round ts → AllHaveTreeParts (trees_of ts)
all_have round [] are = tt
all_have round (t ∷ ts) are = (are.0.parts, all_have round ts are.1)

pub row_is_tree : (round : ℕ) (ts : List TreeV) → round < MOST_LEVELS → AreTrees (suc round) ts → IsTree round (row (trees_of ts))
row_is_tree round ts low are = record { fits = (low, all_fit (suc round) ts are); parts = all_have (suc round) ts are }

-- ---- rows

pub has_tree : (ts : List TreeV) (t : TreeV) (stack : List Frame) → HasTree (Row (ts ++ t ∷ []) ∷ stack)
has_tree [] t stack = tt
has_tree (u ∷ ts) t stack = tt

rest_spaced : (version : Version) (ts : List TreeV) → 32 ∷ spaced version ts ≡ rest_text version (trees_of ts) ++ 32 ∷ []
rest_spaced version [] = refl
rest_spaced version (t ∷ ts) =
    ap (λ l. 32 ∷ text_of version t ++ l) (rest_spaced version ts)
    ∙ ap (λ l. 32 ∷ l) (sym (append_assoc (text_of version t) (rest_text version (trees_of ts)) (32 ∷ [])))

-- a space behind the trees of a row
pub spaced-row : (version : Version) (t : TreeV) (ts : List TreeV) → spaced version (t ∷ ts) ≡ row_text version (trees_of (t ∷ ts)) ++ 32 ∷ []
spaced-row version t ts =
    ap (λ l. text_of version t ++ l) (rest_spaced version ts)
    ∙ sym (append_assoc (text_of version t) (rest_text version (trees_of ts)) (32 ∷ []))

-- a tree behind the spaces
pub spaced-push : (version : Version) (ts : List TreeV) (t : TreeV) → row_text version (trees_of (ts ++ t ∷ [])) ≡ spaced version ts ++ text_of version t
spaced-push version [] t = row_text-one version t
spaced-push version (u ∷ ts) t =
    row_text-push version u ts t
    ∙ sym (append_assoc (row_text version (trees_of (u ∷ ts))) (32 ∷ []) (text_of version t))
    ∙ ap (λ l. l ++ text_of version t) (sym (spaced-row version u ts))

-- ---- a whole tree

-- what stands before a tree and the tree, taken apart
stands_behind : (version : Version) (front head mark text : List ℕ) {s : State}
    → StandsFor version (front ++ (head ++ (mark ++ text))) s → StandsFor version ((front ++ (head ++ mark)) ++ text)
    s
stands_behind version front head mark text {s} h =
    subst (λ l. StandsFor version l s)
    (ap (λ l. front ++ l) (sym (append_assoc head mark text)) ∙ sym (append_assoc front (head ++ mark) text))
    h

pub tree_stands : (version : Version) (stack : List Frame) (t : TreeV) → IsStack stack → IsTree (length stack) t
    → StandsFor version (before version stack ++ text_of version t) (with_tree stack t)
tree_stands version [] t h is = record { stack = tt; mode = tt; placed = (refl, is); bytes = refl }
tree_stands version (Row ts ∷ stack) t h is = record {
  stack = (h.0, AreTrees-push (suc (length stack)) ts t h.1 is, h.2);
  mode = tt;
  placed = has_tree ts t stack;
  bytes =
      ap (λ l. before version stack ++ 91 ∷ l) (spaced-push version ts t)
      ∙ sym (append_assoc (before version stack) (91 ∷ spaced version ts) (text_of version t));
}
tree_stands version (Alt j ∷ stack) t h is =
    stands_behind version (before version stack) (35 ∷ decimal j) (58 ∷ []) (text_of version t)
    (tree_stands version stack (alt j t) h.2 (record { fits = (h.1, is.fits); parts = is.parts }))
tree_stands version (Named l ∷ stack) t h is =
    stands_behind version (before version stack) (60 ∷ l) (62 ∷ 61 ∷ []) (text_of version t)
    (tree_stands version stack (named l t) h.2 (record { fits = is.fits; parts = (h.1, is.parts) }))
