-- What a state stands for begins the text of some tree.
use Rattle.std.specs.Prelude.{slice_index, replicate}
use Rattle.std.proofs.Common.{◌≡◌, ℕ, zero, suc, ◌+◌, ◌-◌, ◌*◌, ◌/◌, ◌%◌, ◌<◌, ◌≤◌, List, [], ◌∷◌, ◌++◌, length}
use Rattle.std.proofs.Common.{Option, Some, None, refl, sym, ap, ◌∙◌, subst, arith, append_assoc, append-nil}
use Rattle.std.proofs.Common.{length-append}
use Rattle.std.proofs.lemmas.List.{length-replicate}
use Rattle.std.specs.Fmt.{decimal}
use Rattle.std.proofs.lemmas.List.{map-append, length_push}
use Rattle.csn_treetext.specs.declared.stack.TheConstants.{MOST_ROUND}
use Rattle.csn_treetext.specs.declared.bounds.TheConstants.{MOST_LEVELS, MOST_OCTETS}
use Rattle.csn_bits.specs.declared.bits.TheConstants.{MOST_BITS}
use Rattle.hex.specs.Hex.{encode_upper, encode_with, upper_digits}
use Rattle.csn_bits.specs.Octets.{IsBits}
use Rattle.csn_bits.proofs.Packing.{IsBits-append, IsBits-zeros}
use Rattle.csn_desc.specs.Label.{IsLabel}
use Rattle.csn_desc.specs.TreeV.{TreeV, empty, bits, row, alt, named, none, trees_of}
use Rattle.csn_treetext.specs.declared.version.Version.{Version}
use Rattle.csn_treetext.specs.declared.version.Version.TheVariants.{First, Second}
use Rattle.csn_treetext.specs.declared.stack.Frame.{Frame}
use Rattle.csn_treetext.specs.declared.stack.Frame.TheVariants.{Row, Alt, Named}
use Rattle.csn_treetext.specs.reader.Mode.{Mode}
use Rattle.csn_treetext.specs.reader.Mode.{Start, Opened, Behind, Done, Width, Quote, Value, Hash, Number, Name, NameEnd, Octets, Slash, Bare}
use Rattle.csn_treetext.specs.Text.{text_of, row_text, bit_digits}
use Rattle.csn_treetext.specs.Place.{BeginsText}
use Rattle.csn_bits.specs.Numbers.{low_bits}
use Rattle.csn_treetext.specs.reader.Numeral.{greatest_of}
use Rattle.csn_treetext.specs.reader.Machine.{state, AreOctets, AreDigits, cut_octets}
use Rattle.csn_treetext.proofs.Names.{closed_label}
use Rattle.csn_treetext.proofs.OctetLeaves.{encode_upper-push, long_is_other, cut_text}
use Rattle.csn_treetext.proofs.Spelled.{spaced, before, behind, high_text, IsTree, AreTrees-push, IsStack, HasTree}
use Rattle.csn_treetext.proofs.Spelled.{StandsFor, level_low, row_is_tree, spaced-push}
use Rattle.csn_treetext.proofs.WholeTrees.{number_text, number_is_tree, cut_is_tree}
use Rattle.csn_treetext.proofs.LeafSteps.{AreOctets-push}

-- ---- a tree that has begun can end

as_begun : {version : Version} {a b : List ℕ} → a ≡ b → BeginsText version a → BeginsText version b
as_begun {version} same is = subst (λ l. BeginsText version l) same is

-- where the text of a tree begins with some bytes, these begin a text behind what stands before the tree
pub ends : (version : Version) (stack : List Frame) (t : TreeV) (x y : List ℕ)
    → IsStack stack → IsTree (length stack) t → text_of version t ≡ x ++ y
    → BeginsText version (before version stack ++ x)
ends version [] t x y h is text = (t, y, record { fits = is.fits; parts = is.parts; spelled = sym text })
ends version (Row ts ∷ stack) t x y h is text =
    let trees : List TreeV = ts ++ t ∷ [] in
    let k = h.0 in
    let whole = row_is_tree (length stack) trees (omega arith) (AreTrees-push (suc (length stack)) ts t h.1 is) in
    let spelled_row : text_of version (row (trees_of trees)) ≡ (91 ∷ (spaced version ts ++ x)) ++ (y ++ 93 ∷ []) =
    ap (λ l. 91 ∷ (l ++ 93 ∷ []))
    (spaced-push version ts t ∙ ap (λ l. spaced version ts ++ l) text ∙ sym (append_assoc (spaced version ts) x y))
    ∙ ap (λ l. 91 ∷ l) (append_assoc (spaced version ts ++ x) y (93 ∷ [])) in
    as_begun (sym (append_assoc (before version stack) (91 ∷ spaced version ts) x))
    (ends version stack (row (trees_of trees)) (91 ∷ (spaced version ts ++ x)) (y ++ 93 ∷ []) h.2 whole spelled_row)
ends version (Alt j ∷ stack) t x y h is text =
    let spelled_alt : text_of version (alt j t) ≡ (35 ∷ (decimal j ++ 58 ∷ x)) ++ y =
    ap (λ l. 35 ∷ (decimal j ++ 58 ∷ l)) text ∙ ap (λ l. 35 ∷ l) (sym (append_assoc (decimal j) (58 ∷ x) y)) in
    let there : before version stack ++ 35 ∷ (decimal j ++ 58 ∷ x) ≡ (before version stack ++ 35 ∷ (decimal j ++ 58 ∷ [])) ++ x =
    ap (λ l. before version stack ++ 35 ∷ l) (sym (append_assoc (decimal j) (58 ∷ []) x))
    ∙ sym (append_assoc (before version stack) (35 ∷ (decimal j ++ 58 ∷ [])) x) in
    subst (λ l. BeginsText version l) there
    (ends version stack (alt j t) (35 ∷ (decimal j ++ 58 ∷ x)) y h.2 (record { fits = (h.1, is.fits); parts = is.parts }) spelled_alt)
ends version (Named name ∷ stack) t x y h is text =
    let spelled_name : text_of version (named name t) ≡ (60 ∷ (name ++ 62 ∷ 61 ∷ x)) ++ y =
    ap (λ l. 60 ∷ (name ++ 62 ∷ 61 ∷ l)) text ∙ ap (λ l. 60 ∷ l) (sym (append_assoc name (62 ∷ 61 ∷ x) y)) in
    let there : before version stack ++ 60 ∷ (name ++ 62 ∷ 61 ∷ x) ≡ (before version stack ++ 60 ∷ (name ++ 62 ∷ 61 ∷ [])) ++ x =
    ap (λ l. before version stack ++ 60 ∷ l) (sym (append_assoc name (62 ∷ 61 ∷ []) x))
    ∙ sym (append_assoc (before version stack) (60 ∷ (name ++ 62 ∷ 61 ∷ [])) x) in
    subst (λ l. BeginsText version l) there
    (ends version stack (named name t) (60 ∷ (name ++ 62 ∷ 61 ∷ x)) y h.2 (record { fits = is.fits; parts = (h.1, is.parts) }) spelled_name)

-- ---- leaves that have begun

empty_is_tree : (round : ℕ) → round < MOST_LEVELS → IsTree round empty
empty_is_tree round low = record { fits = low; parts = tt }

power_some : (width : ℕ) → 0 ≤ greatest_of width
power_some width = omega arith

pad : List ℕ → List ℕ
pad octets = octets ++ replicate (9 - length octets) 0

length-pad : (octets : List ℕ) → length octets ≤ MOST_OCTETS → (9 ≤ length (pad octets)) × (length (pad octets) ≤ MOST_OCTETS)
unfolding pad
length-pad octets few =
    let zeros : List ℕ = replicate (9 - length octets) 0 in
    let long : length (octets ++ zeros) ≡ length octets + length zeros = length-append octets zeros in
    let count : length zeros ≡ 9 - length octets = length-replicate (9 - length octets) 0 in
    (omega (arith, long, count), omega (arith, long, count))

AreOctets-zeros : (n : ℕ) → AreOctets (replicate n 0)
AreOctets-zeros zero k = omega arith
AreOctets-zeros (suc n) zero = omega arith
AreOctets-zeros (suc n) (suc k) = AreOctets-zeros n k

AreOctets-append : (a b : List ℕ) → AreOctets a → AreOctets b → AreOctets (a ++ b)
AreOctets-append [] b x y k = y k
AreOctets-append (o ∷ a) b x y zero = x 0
AreOctets-append (o ∷ a) b x y (suc k) = AreOctets-append a b (λ i. x (suc i)) y k

encode_upper-append : (a b : List ℕ) → encode_upper (a ++ b) ≡ encode_upper a ++ encode_upper b
unfolding encode_with
encode_upper-append [] b = refl
encode_upper-append (o ∷ a) b = ap (λ l. slice_index upper_digits (o / 16) ∷ slice_index upper_digits (o % 16) ∷ l) (encode_upper-append a b)

octets_begin : (stack : List Frame) (octets : List ℕ) → IsStack stack → AreOctets octets → length octets ≤ MOST_OCTETS
    → (x y : List ℕ) → encode_upper octets ≡ x ++ y → BeginsText Second (before Second stack ++ 120 ∷ x)
unfolding pad
octets_begin stack octets h are few x y text =
    let (many, small) = length-pad octets few in
    let whole : AreOctets (pad octets) = AreOctets-append octets (replicate (9 - length octets) 0) are (AreOctets-zeros (9 - length octets)) in
    let zeros : List ℕ = encode_upper (replicate (9 - length octets) 0) in
    ends Second stack (cut_octets (pad octets) 8) (120 ∷ x) (y ++ zeros) h
    (cut_is_tree (length stack) (pad octets) 8 (level_low stack h) whole (omega arith) small (omega arith))
    (cut_text (pad octets) 8 whole many small (omega arith) (omega arith) (omega arith)
    ∙ ap (λ l. 120 ∷ l) (append-nil (encode_upper (pad octets)) ∙ encode_upper-append octets (replicate (9 - length octets) 0)
    ∙ ap (λ l. l ++ zeros) text ∙ append_assoc x y zeros))

digits_begin : (stack : List Frame) (octets : List ℕ) (high : Option ℕ) → IsStack stack → AreOctets octets
    → AreDigits octets high → BeginsText Second (before Second stack ++ 120 ∷ (encode_upper octets ++ high_text high))
digits_begin stack octets None h are m =
    subst (λ l. BeginsText Second (before Second stack ++ 120 ∷ l)) (sym (append-nil (encode_upper octets)))
    (octets_begin stack octets h are m (encode_upper octets) [] (sym (append-nil (encode_upper octets))))
digits_begin stack octets (Some high) h are m =
    let small : high < 16 = m.1 in
    let few = m.0 in
    let front : 16 * high / 16 ≡ high = omega arith in
    let last : 16 * high % 16 ≡ 0 = omega arith in
    octets_begin stack (octets ++ 16 * high ∷ []) h (AreOctets-push octets (16 * high) are (omega arith)) (omega (arith, length_push octets (16 * high)))
    (encode_upper octets ++ slice_index upper_digits high ∷ []) (48 ∷ [])
    (encode_upper-push octets (16 * high) ∙ (rw (front, last) (sym (append_assoc (encode_upper octets) (slice_index upper_digits high ∷ []) (48 ∷ [])))))

-- ---- bits that have begun

bits_begin : (stack : List Frame) (b : List ℕ) → IsStack stack → IsBits b → length b ≤ MOST_BITS → BeginsText First (before First stack ++ 98 ∷ bit_digits b)
bits_begin stack b h are few =
    let zeros : List ℕ = replicate (65 - length b) 0 in
    let count : length zeros ≡ 65 - length b = length-replicate (65 - length b) 0 in
    let long = length-append b zeros in
    let other = long_is_other (b ++ zeros) (omega arith) in
    ends First stack (bits (b ++ zeros)) (98 ∷ bit_digits b) (bit_digits zeros) h
    (record { fits = level_low stack h; parts = (IsBits-append b zeros are (IsBits-zeros (65 - length b)), omega arith) })
    (rw other (ap (λ l. 98 ∷ l) (map-append (λ bit. 48 + bit) b zeros)))

-- ---- every state

behind_begins : (version : Version) (stack : List Frame) → IsStack stack → HasTree stack → BeginsText version (behind version stack)
behind_begins version [] h has = absurd has
behind_begins version (Alt j ∷ stack) h has = absurd has
behind_begins version (Named l ∷ stack) h has = absurd has
behind_begins version (Row ts ∷ stack) h has =
    let k = h.0 in
    ends version stack (row (trees_of ts)) (91 ∷ row_text version (trees_of ts)) (93 ∷ []) h.2 (row_is_tree (length stack) ts (omega arith) h.1) refl

name_begins : (version : Version) (stack : List Frame) (l x y : List ℕ) → IsStack stack → length stack < MOST_ROUND
    → IsLabel l → l ++ 62 ∷ 61 ∷ 46 ∷ [] ≡ x ++ y → BeginsText version (before version stack ++ 60 ∷ x)
name_begins version stack l x y h low is text =
    ends version stack (named l empty) (60 ∷ x) y h (record { fits = omega arith; parts = (is, tt) }) (ap (λ k. 60 ∷ k) text)

pub state_begins : (version : Version) (mode : Mode) (stack : List Frame) → (text : List ℕ)
    → StandsFor version text (state mode stack) → BeginsText version text
state_begins version Start stack text is =
    as_begun (append-nil (before version stack) ∙ is.bytes) (ends version stack empty [] (46 ∷ []) is.stack
    (empty_is_tree (length stack) (level_low stack is.stack)) refl)
state_begins version Opened stack text is =
    as_begun is.bytes (ends version stack (row none) (91 ∷ []) (93 ∷ []) is.stack (row_is_tree (length stack) [] (level_low stack is.stack) tt) refl)
state_begins version Behind stack text is = as_begun is.bytes (behind_begins version stack is.stack is.placed)
state_begins version (Done t) stack text is =
    (t, [], record { fits = is.placed.1.fits; parts = is.placed.1.parts; spelled = append-nil text ∙ sym is.bytes })
state_begins version (Width width) stack text is =
    as_begun is.bytes (ends version stack (bits (low_bits width 0)) (decimal width) (39 ∷ decimal 0) is.stack
    (number_is_tree (length stack) width 0 (level_low stack is.stack) is.mode.1) (number_text version width 0 is.mode.0 is.mode.1 (power_some width)))
state_begins version (Quote width) stack text is =
    as_begun is.bytes (ends version stack (bits (low_bits width 0)) (decimal width ++ 39 ∷ []) (decimal 0) is.stack
    (number_is_tree (length stack) width 0 (level_low stack is.stack) is.mode.1)
    (number_text version width 0 is.mode.0 is.mode.1 (power_some width) ∙ sym (append_assoc (decimal width) (39 ∷ []) (decimal 0))))
state_begins version (Value width number) stack text is =
    as_begun is.bytes (ends version stack (bits (low_bits width number)) (decimal width ++ 39 ∷ decimal number) [] is.stack
    (number_is_tree (length stack) width number (level_low stack is.stack) is.mode.1)
    (number_text version width number is.mode.0 is.mode.1 is.mode.2 ∙ sym (append-nil (decimal width ++ 39 ∷ decimal number))))
state_begins version Hash stack text is =
    let low = is.placed in
    as_begun is.bytes (ends version stack (alt 0 empty) (35 ∷ []) (decimal 0 ++ 58 ∷ 46 ∷ []) is.stack
    (record { fits = (omega arith, omega arith); parts = tt }) refl)
state_begins version (Number number) stack text is =
    let low = is.placed in
    let few = is.mode in
    as_begun is.bytes (ends version stack (alt number empty) (35 ∷ decimal number) (58 ∷ 46 ∷ []) is.stack
    (record { fits = (omega arith, omega arith); parts = tt }) refl)
state_begins version (Name name at) stack text is =
    as_begun is.bytes (name_begins version stack (name ++ 48 ∷ []) name (48 ∷ 62 ∷ 61 ∷ 46 ∷ []) is.stack is.placed (closed_label name at is.mode)
    (append_assoc name (48 ∷ []) (62 ∷ 61 ∷ 46 ∷ [])))
state_begins version (NameEnd name) stack text is =
    as_begun is.bytes (name_begins version stack name (name ++ 62 ∷ []) (61 ∷ 46 ∷ []) is.stack is.placed is.mode
    (sym (append_assoc name (62 ∷ []) (61 ∷ 46 ∷ []))))
state_begins version (Octets octets high) stack text is =
    let P : Version → Type 0 = λ v. BeginsText v (before v stack ++ 120 ∷ (encode_upper octets ++ high_text high)) in
    as_begun is.bytes (subst P (sym is.placed) (digits_begin stack octets high is.stack is.mode.0 is.mode.1))
state_begins version (Slash octets) stack text is =
    let P : Version → Type 0 = λ v. BeginsText v (before v stack ++ 120 ∷ (encode_upper octets ++ 47 ∷ [])) in
    let many = is.mode.1 in
    let leaf = cut_text octets 7 is.mode.0 is.mode.1 is.mode.2 (omega arith) (omega arith) is.mode.3 in
    as_begun is.bytes (subst P (sym is.placed)
    (ends Second stack (cut_octets octets 7) (120 ∷ (encode_upper octets ++ 47 ∷ [])) (55 ∷ []) is.stack
    (cut_is_tree (length stack) octets 7 (level_low stack is.stack) is.mode.0 (omega arith) is.mode.2 (omega arith))
    (leaf ∙ ap (λ l. 120 ∷ l) (sym (append_assoc (encode_upper octets) (47 ∷ []) (55 ∷ []))))))
state_begins version (Bare b) stack text is =
    let P : Version → Type 0 = λ v. BeginsText v (before v stack ++ 98 ∷ bit_digits b) in
    as_begun is.bytes (subst P (sym is.placed) (bits_begin stack b is.stack is.mode.0 is.mode.1))
