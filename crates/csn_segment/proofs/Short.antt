-- A message is short.
use Rattle.std.proofs.Common.{◌≡◌, ℕ, ◌≤◌, eqb, refl, [], true, false, inl, inr, Bool, List, ◌∷◌, length, Option}
use Rattle.std.proofs.Common.{Some, None, reverse, find, subst, arith, length-append, length-drop}
use Rattle.std.proofs.lemmas.Bool.{cases_Bool}
use Rattle.csn_segment.specs.declared.header.PayloadType.{PayloadType}
use Rattle.csn_segment.specs.declared.header.PayloadType.TheVariants.{Data, Control, SegmentedControl, Reserved}
use Rattle.csn_segment.specs.declared.header.Segment.{Segment}
use Rattle.csn_segment.specs.declared.header.Segment.TheVariants.{Only, First, Second, NotFinal}
use Rattle.csn_segment.specs.Header.{segment_of, rti_of, body_of, payload_type_of, has_address, header_octets}
use Rattle.csn_segment.specs.Joining.{is_segment_of, last_segment, waiting, body_of_first, answer_to_segment, answer_to_payload}
use Rattle.csn_segment.specs.Laws.{IsShort, MessagesAreShort}

-- what is found passes the test
found_passes : (p : List ℕ → Bool) (xs : List (List ℕ)) (x : List ℕ) → find p xs ≡ Some x → p x ≡ true
found_passes p [] x e = absurd (cc)
found_passes p (y ∷ xs) x e = elim (cases_Bool (p y)) [
  | inl is_so ↦ (let same : y ≡ x = (let there : Some y ≡ Some x = (rw is_so at e) in cc) in subst (λ z. p z ≡ true) same is_so)
  | inr is_not ↦ found_passes p xs x (rw is_not at e)
]

-- a segment has as many octets as a block
segment_length : (rti : ℕ) (block : List ℕ) → is_segment_of rti block ≡ true → length block ≡ 23
segment_length rti block e = elim (cases_Bool (eqb (length block) 23)) [
  | inl is_so ↦ grind arith
  | inr is_not ↦ absurd (let clash : false ≡ true = (rw is_not at e) in cc)
]

some_header : (address : Bool) → 2 ≤ header_octets address
some_header true = omega arith
some_header false = omega arith

body_short : (block : List ℕ) → length block ≡ 23 → length (body_of block) ≤ 21
body_short block is = omega (arith, is, some_header (has_address block), length-drop (header_octets (has_address block)) block)

first_short : (block body : List ℕ) (s : Segment) → length block ≡ 23 → body_of_first s (body_of block) ≡ Some body → length body ≤ 21
first_short block body Only is e = absurd (cc)
first_short block body First is e = (let same : body_of block ≡ body = cc in subst (λ (b : List ℕ). length b ≤ 21) same (body_short block is))
first_short block body Second is e = absurd (cc)
first_short block body NotFinal is e = absurd (cc)

-- a body that waits is short
waiting_short : (blocks : List (List ℕ)) (rti : ℕ) (body : List ℕ) → waiting blocks rti ≡ Some body → length body ≤ 21
waiting_short blocks rti body e = go (last_segment blocks rti) refl
  where
    go : (o : Option (List ℕ)) → last_segment blocks rti ≡ o → length body ≤ 21
    go None is = absurd (let clash : None ≡ Some body = (rw is at e) in cc)
    go (Some block) is = first_short block body (segment_of block)
        (segment_length rti block (found_passes (is_segment_of rti) (reverse blocks) block is)) (rw is at e)

segment_short : (s : Segment) (rti : ℕ) (first : Option (List ℕ)) (body : List ℕ)
    → ((b : List ℕ) → first ≡ Some b → length b ≤ 21)
    → length body ≤ 21 → IsShort (answer_to_segment s rti first body)
segment_short Only rti first body waits few = omega (arith, few)
segment_short First rti first body waits few = tt
segment_short NotFinal rti first body waits few = tt
segment_short Second rti (Some first) body waits few = omega (arith, few, waits first refl, length-append first body)
segment_short Second rti None body waits few = tt

payload_short : (payload : PayloadType) (earlier : List (List ℕ)) (block : List ℕ) → length block ≡ 23 → IsShort (answer_to_payload payload earlier block)
payload_short Data earlier block is = tt
payload_short Reserved earlier block is = tt
payload_short Control earlier block is = omega (arith, is, length-drop 1 block)
payload_short SegmentedControl earlier block is = segment_short (segment_of block) (rti_of block)
    (waiting earlier (rti_of block)) (body_of block) (waiting_short earlier (rti_of block)) (body_short block is)

pub messages_are_short : MessagesAreShort
messages_are_short earlier block = elim (cases_Bool (eqb (length block) 23)) [
  | inl is_so ↦ rw is_so (payload_short (payload_type_of block) earlier block (grind arith))
  | inr is_not ↦ rw is_not tt
]
