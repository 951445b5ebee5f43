-- A step adds its byte to the bytes that the state stands for; at the end these are the text of the tree.
use Rattle.std.specs.Prelude.{nat_lt, nat_le}
use Rattle.std.proofs.Common.{◌≡◌, ℕ, ◌+◌, ◌-◌, ◌<◌, ◌≤◌, ◌==◌, true, ◌&&◌, List, [], ◌∷◌, ◌++◌, length, Option, Some}
use Rattle.std.proofs.Common.{None, refl, sym, ap, ◌∙◌, subst, arith, append_assoc, append-nil}
use Rattle.std.specs.Fmt.{decimal}
use Rattle.std.proofs.lemmas.Fmt.{decimal_digit}
use Rattle.std.proofs.lemmas.Bool.{ltb-true, leb-true, and_parts}
use Rattle.csn_treetext.specs.declared.stack.TheConstants.{MOST_ROUND}
use Rattle.csn_treetext.specs.declared.bounds.TheConstants.{GREATEST_ALTERNATIVE}
use Rattle.hex.specs.Hex.{encode_with}
use Rattle.hex.specs.Hex.{encode_upper}
use Rattle.csn_desc.specs.TreeV.{TreeV, empty, bits, row, none}
use Rattle.csn_treetext.specs.declared.version.Version.{Version}
use Rattle.csn_treetext.specs.declared.version.Version.TheVariants.{First, Second}
use Rattle.csn_treetext.specs.declared.stack.Frame.{Frame}
use Rattle.csn_treetext.specs.declared.stack.Frame.TheVariants.{Row}
use Rattle.csn_treetext.specs.declared.name.NameAt.TheVariants.{Front}
use Rattle.csn_treetext.specs.reader.Mode.{Mode}
use Rattle.csn_treetext.specs.reader.Mode.{Start, Opened, Behind, Done, Width, Quote, Value, Hash, Number, Name, NameEnd, Octets, Slash, Bare}
use Rattle.csn_treetext.specs.Text.{text_of, bit_digits, is_short}
use Rattle.csn_bits.specs.Numbers.{low_bits}
use Rattle.csn_treetext.specs.reader.Machine.{State, state, IsMode, AreOctets, with_tree, begun, begun_b, begun_x}
use Rattle.csn_treetext.specs.reader.Machine.{inside, after_name, after_width, after_quote, after_hash, after_high}
use Rattle.csn_treetext.specs.reader.Machine.{are_many, upper_value, cut_octets, step, step_from, steps, root_of}
use Rattle.csn_treetext.specs.reader.Machine.{root_at, ended}
use Rattle.csn_treetext.specs.Place.{IsTextOf}
use Rattle.csn_treetext.proofs.Spelled.{before, spelled, IsTree, IsStack, IsPlaced, StandsFor, level_low, row_is_tree, tree_stands}
use Rattle.csn_treetext.proofs.WholeTrees.{if_gave, given, nothing_given, spelled_as, with_byte, number_text, number_is_tree, cut_is_tree, after_stands}
use Rattle.csn_treetext.proofs.LeafSteps.{with_stands, width_stands, quote_stands, value_stands, hash_stands}
use Rattle.csn_treetext.proofs.LeafSteps.{number_stands, name_stands, high_stands, many_text, octets_stand}
use Rattle.csn_treetext.proofs.LeafSteps.{slash_stands, bits_stand}

-- ---- the first byte of a tree

inside_stands : (version : Version) (stack : List Frame) (mode : Mode) (text : List ℕ) (s : State)
    → (length stack < MOST_ROUND → StandsFor version text (state mode stack))
    → inside stack mode ≡ Some s → StandsFor version text s
inside_stands version stack mode text s is e =
    if_gave (nat_lt (length stack) MOST_ROUND) _ _ _ e (λ low e1. given _ s e1 (is (ltb-true _ _ low))) (λ _ e1. nothing_given s e1)

begun_b_stands : (version : Version) (stack : List Frame) → IsStack stack → StandsFor version (before version stack ++ 98 ∷ []) (begun_b version stack)
begun_b_stands First stack h = record { stack = h; mode = (tt, omega arith); placed = refl; bytes = refl }
begun_b_stands Second stack h = tree_stands Second stack (bits []) h (record { fits = level_low stack h; parts = (tt, omega arith) })

no_octets : AreOctets []
no_octets k = omega arith

begun_x_stands : (version : Version) (stack : List Frame) (s : State) → IsStack stack → begun_x version stack ≡ Some s
    → StandsFor version (before version stack ++ 120 ∷ []) s
unfolding encode_with
begun_x_stands First stack s h e = nothing_given s e
begun_x_stands Second stack s h e = given _ s e (record { stack = h; mode = (no_octets, omega arith); placed = refl; bytes = refl })

begun_stands : (version : Version) (stack : List Frame) (byte : ℕ) (s : State)
    → IsStack stack → begun version stack byte ≡ Some s → StandsFor version (before version stack ++ byte ∷ []) s
begun_stands version stack byte s h e =
    let front : List ℕ = before version stack in
    let low = level_low stack h in
    if_gave (byte == 46) _ _ _ e
    (λ is e1. given _ s e1 (with_byte front byte 46 is (tree_stands version stack empty h (record { fits = low; parts = tt }))))
    (λ _ e1. if_gave (byte == 91) _ _ _ e1
    (λ is e2. given _ s e2 (with_byte front byte 91 is (record { stack = h; mode = tt; placed = tt; bytes = refl })))
    (λ _ e2. if_gave (byte == 35) _ _ _ e2
    (λ is e3. inside_stands version stack Hash _ s (λ few. with_byte front byte 35 is (record { stack = h; mode = tt; placed = few; bytes = refl })) e3)
    (λ _ e3. if_gave (byte == 60) _ _ _ e3
    (λ is e4. inside_stands version stack (Name [] Front) _ s
    (λ few. with_byte front byte 60 is (record { stack = h; mode = refl; placed = few; bytes = refl })) e4)
    (λ _ e4. if_gave (byte == 98) _ _ _ e4
    (λ is e5. given _ s e5 (with_byte front byte 98 is (begun_b_stands version stack h)))
    (λ _ e5. if_gave (byte == 120) _ _ _ e5
    (λ is e6. with_byte front byte 120 is (begun_x_stands version stack s h e6))
    (λ _ e6. if_gave (nat_le 49 byte && nat_le byte 57) _ _ _ e6
    (λ is e7. given _ s e7 (first_digit (and_parts (nat_le 49 byte) (nat_le byte 57) is)))
    (λ _ e7. nothing_given s e7)))))))
  where
    first_digit : (nat_le 49 byte ≡ true) × (nat_le byte 57 ≡ true) → StandsFor version (before version stack ++ byte ∷ []) (state (Width (byte - 48)) stack)
    first_digit (low, high) =
        let least = leb-true _ _ low in
        let most = leb-true _ _ high in
        let is : 48 + (byte - 48) ≡ byte = omega arith in
        record {
          stack = h;
          mode = (omega arith, omega arith);
          placed = tt;
          bytes = ap (λ l. before version stack ++ l) (decimal_digit (byte - 48) (omega arith) ∙ ap (λ c. c ∷ []) is);
        }

-- ---- a step, and many

pub step_stands : (version : Version) (mode : Mode) (stack : List Frame) (byte : ℕ) (s : State)
    → IsStack stack → IsMode mode → IsPlaced version mode stack → step version mode stack byte ≡ Some s
    → StandsFor version (spelled version mode stack ++ byte ∷ []) s
step_stands version Start stack byte s h m p e = begun_stands version stack byte s h e
step_stands version Opened stack byte s h m p e =
    if_gave (byte == 93) _ _ _ e
    (λ is e1. given _ s e1 (with_byte (before version stack ++ 91 ∷ []) byte 93 is
    (spelled_as _ (sym (append_assoc (before version stack) (91 ∷ []) (93 ∷ [])))
    (tree_stands version stack (row none) h (row_is_tree (length stack) [] (level_low stack h) tt)))))
    (λ _ e1. if_gave (nat_lt (length stack) MOST_ROUND) _ _ _ e1
    (λ low e2. begun_stands version (Row [] ∷ stack) byte s (ltb-true _ _ low, tt, h) e2)
    (λ _ e2. nothing_given s e2))
step_stands version Behind stack byte s h m p e = after_stands version stack byte s h p e
step_stands version (Done t) stack byte s h m p e = nothing_given s e
step_stands version (Width width) stack byte s h m p e = with_stands version stack _ (after_width width byte) s
    (λ mode is. width_stands version width stack byte mode h m is) e
step_stands version (Quote width) stack byte s h m p e = with_stands version stack _ (after_quote width byte) s
    (λ mode is. quote_stands version width stack byte mode h m is) e
step_stands version (Value width number) stack byte s h m p e = value_stands version width number stack byte s h m e
step_stands version Hash stack byte s h m p e = with_stands version stack _ (after_hash None byte) s (λ mode is. hash_stands version stack byte mode h p is) e
step_stands version (Number number) stack byte s h m p e =
    if_gave (byte == 58) _ _ _ e
    (λ is e1. given _ s e1 (with_byte (before version stack ++ 35 ∷ decimal number) byte 58 is (record {
      stack = (p, (let few : number ≤ GREATEST_ALTERNATIVE = m in omega arith), h);
      mode = tt;
      placed = tt;
      bytes = sym (append_assoc (before version stack) (35 ∷ decimal number) (58 ∷ []));
    })))
    (λ _ e1. with_stands version stack _ (after_hash (Some number) byte) s (λ mode is. number_stands version number stack byte mode h p is) e1)
step_stands version (Name name at) stack byte s h m p e = with_stands version stack _ (after_name name at byte) s
    (λ mode is. name_stands version name at stack byte mode h m p is) e
step_stands version (NameEnd name) stack byte s h m p e =
    if_gave (byte == 61) _ _ _ e
    (λ is e1. given _ s e1 (with_byte (before version stack ++ 60 ∷ (name ++ 62 ∷ [])) byte 61 is (record {
      stack = (p, m, h);
      mode = tt;
      placed = tt;
      bytes =
          ap (λ l. before version stack ++ 60 ∷ l) (sym (append_assoc name (62 ∷ []) (61 ∷ [])))
          ∙ sym (append_assoc (before version stack) (60 ∷ (name ++ 62 ∷ [])) (61 ∷ []));
    })))
    (λ _ e1. nothing_given s e1)
step_stands version (Octets octets None) stack byte s h m p e =
    let P : Version → Type 0 = λ v. StandsFor v (spelled v (Octets octets None) stack ++ byte ∷ []) s in
    subst P (sym p) (octets_stand octets stack byte s h m e)
step_stands version (Octets octets (Some high)) stack byte s h m p e =
    with_stands version stack _ (after_high octets high (upper_value byte)) s (λ mode is. high_stands version octets high stack byte mode h m p is) e
step_stands version (Slash octets) stack byte s h m p e =
    let P : Version → Type 0 = λ v. StandsFor v (spelled v (Slash octets) stack ++ byte ∷ []) s in
    subst P (sym p) (slash_stands octets stack byte s h m e)
step_stands version (Bare b) stack byte s h m p e =
    let P : Version → Type 0 = λ v. StandsFor v (spelled v (Bare b) stack ++ byte ∷ []) s in
    subst P (sym p) (bits_stand b stack byte s h m e)

pub steps-none : (version : Version) (text : List ℕ) → steps version None text ≡ None
steps-none version [] = refl
steps-none version (byte ∷ rest) = steps-none version rest

pub steps-append : (version : Version) (o : Option State) (a b : List ℕ) → steps version o (a ++ b) ≡ steps version (steps version o a) b
steps-append version o [] b = refl
steps-append version o (byte ∷ a) b = steps-append version (step_from version o byte) a b

pub steps_stand : (version : Version) (front text : List ℕ) (s t : State)
    → StandsFor version front s → steps version (Some s) text ≡ Some t → StandsFor version (front ++ text) t
steps_stand version front [] s t is e = spelled_as t (sym (append-nil front)) (given s t e is)
steps_stand version front (byte ∷ rest) s t is e =
    by_step (λ u h g. steps_stand version (front ++ byte ∷ []) rest u t h g) (step version s.mode s.stack byte) refl
  where
    by_step : ((u : State) → StandsFor version (front ++ byte ∷ []) u → steps version (Some u) rest ≡ Some t
        → StandsFor version ((front ++ byte ∷ []) ++ rest) t) → (o : Option State)
        → step version s.mode s.stack byte ≡ o → StandsFor version (front ++ byte ∷ rest) t
    by_step again None refused = absurd (let z : None ≡ Some t = sym (steps-none version rest) ∙ ap (λ o. steps version o rest) (sym refused) ∙ e in cc)
    by_step again (Some u) some =
        let next = spelled_as u (ap (λ l. l ++ byte ∷ []) is.bytes) (step_stands version s.mode s.stack byte u is.stack is.mode is.placed some) in
        spelled_as t (append_assoc front (byte ∷ []) rest) (again u next (ap (λ o. steps version o rest) (sym some) ∙ e))

pub start_stands : (version : Version) → StandsFor version [] (state Start [])
start_stands version = record { stack = tt; mode = tt; placed = tt; bytes = refl }

-- ---- the end

root_is : (version : Version) (mode : Mode) (stack : List Frame) (text : List ℕ) (t : TreeV)
    → StandsFor version text (state mode stack) → root_at mode ≡ Some t → IsTextOf version t text
root_is version (Done u) stack text t is e =
    let same : u ≡ t = cc in
    let P : TreeV → Type 0 = λ v. IsTextOf version v text in
    subst P same (record { fits = is.placed.1.fits; parts = is.placed.1.parts; spelled = sym is.bytes })
root_is version mode stack text t is e = absurd (let z : None ≡ Some t = e in cc)

root_of_tree : (version : Version) (stack : List Frame) (leaf t : TreeV) (text : List ℕ)
    → IsStack stack → IsTree (length stack) leaf → before version stack ++ text_of version leaf ≡ text
    → root_of (with_tree stack leaf) ≡ Some t → IsTextOf version t text
root_of_tree version stack leaf t text h is same e =
    root_is version (with_tree stack leaf).mode (with_tree stack leaf).stack text t (spelled_as _ same (tree_stands version stack leaf h is)) e

no_tree_there : {P : Type 0} (t : TreeV) → None ≡ Some t → P
no_tree_there t e = absurd (let z : None ≡ Some t = e in cc)

-- the tree at the end has the bytes as its text
pub ended_is : (version : Version) (mode : Mode) (stack : List Frame) (text : List ℕ) (t : TreeV)
    → StandsFor version text (state mode stack) → ended mode stack ≡ Some t → IsTextOf version t text
ended_is version (Done u) stack text t is e = root_is version (Done u) stack text t is e
ended_is version (Value width number) stack text t is e =
    root_of_tree version stack (bits (low_bits width number)) t text is.stack (number_is_tree (length stack) width number (level_low stack is.stack) is.mode.1)
    (ap (λ l. before version stack ++ l) (number_text version width number is.mode.0 is.mode.1 is.mode.2) ∙ is.bytes) e
ended_is version (Octets octets (Some high)) stack text t is e = no_tree_there t e
ended_is version (Octets octets None) stack text t is e =
    if_gave (are_many octets) _ _ _ e
    (λ many e1.
    let count = leb-true _ _ many in
    let of_second : text_of version (cut_octets octets 8) ≡ 120 ∷ (encode_upper octets ++ []) =
    (let P : Version → Type 0 = λ v. text_of v (cut_octets octets 8) ≡ 120 ∷ (encode_upper octets ++ []) in
    subst P (sym is.placed) (many_text octets is.mode.0 count is.mode.1)) in
    root_of_tree version stack (cut_octets octets 8) t text is.stack
    (cut_is_tree (length stack) octets 8 (level_low stack is.stack) is.mode.0 (omega arith) is.mode.1
    (omega arith))
    (ap (λ l. before version stack ++ l) of_second ∙ is.bytes) e1)
    (λ _ e1. no_tree_there t e1)
ended_is version (Bare b) stack text t is e =
    if_gave (is_short b) _ _ _ e
    (λ _ e1. no_tree_there t e1)
    (λ other e1.
    let of_first : text_of version (bits b) ≡ 98 ∷ bit_digits b =
    (let P : Version → Type 0 = λ v. text_of v (bits b) ≡ 98 ∷ bit_digits b in subst P (sym is.placed) (rw other refl)) in
    root_of_tree version stack (bits b) t text is.stack (record { fits = level_low stack is.stack; parts = is.mode })
    (ap (λ l. before version stack ++ l) of_first ∙ is.bytes) e1)
ended_is version mode stack text t is e = no_tree_there t e
