-- The keys of each kind of node, as tables and rows of them are made.
use Rattle.std.proofs.Common.{◌≡◌, ℕ, zero, suc, ◌+◌, ◌-◌, ◌*◌, ◌%◌, ◌<◌, ◌≤◌, ◌⊎◌, ◌↔◌, Bool, true, false, List, []}
use Rattle.std.proofs.Common.{◌∷◌, ◌++◌, length, get_or, take, nat_le, min, refl, sym, ap, ◌∙◌, subst, arith, inl}
use Rattle.std.proofs.Common.{inr, Some, length-append}
use Rattle.std.specs.Prelude.{IsTrue, slice_get}
use Rattle.std.proofs.Math.ListN.{replicate}
use Rattle.std.proofs.lemmas.Bool.Decides.{leb_tells}
use Rattle.std.proofs.lemmas.Option.{slice_get_within}
use Rattle.std.proofs.lemmas.List.{take_all, take-append-le, length-take, length-replicate}
use Rattle.csn_bits.specs.Octets.{IsBits}
use Rattle.csn_bits.proofs.Packing.{IsBits-append, IsBits-zeros}
use Rattle.csn_desc.specs.declared.reading.Reading.TheVariants.{Received, Sent}
use Rattle.csn_desc.specs.declared.symbol.Symbol.{Symbol}
use Rattle.csn_desc.specs.declared.symbol.Symbol.TheVariants.{Low}
use Rattle.csn_desc.specs.declared.node.Count.{Count}
use Rattle.csn_desc.specs.declared.node.Count.TheVariants.{Fixed, Counted}
use Rattle.csn_desc.specs.declared.node.Node.TheVariants.{Lits, Spare, Pad, Null, Field, Rest, Seq, Choice, Times, Many, Trunc, Window, Named}
use Rattle.csn_desc.specs.Nodes.{DescV}
use Rattle.csn_desc.specs.Spelled.{symbol_bit, spelled, IsSpare}
use Rattle.csn_look.specs.Keys.{Cut, kept, cut, InKeys, NodeKeys, PartsKeys, TimesKeys, keys_lits, keys_spare}
use Rattle.csn_look.specs.Keys.{keys_field, keys_pad, keys_null, keys_rest, keys_many, keys_trunc, keys_window}
use Rattle.csn_look.specs.Keys.{keys_counted_field, keys_counted_times, keys_seq, keys_times, keys_choice, keys_named}
use Rattle.csn_look.specs.Keys.{parts_none, times_none, times_cut, times_whole}
use Rattle.csn_look.specs.KeyMarks.{IsWord, has_key, KeysAre, Adds}
use Rattle.csn_look.specs.KeyRows.{table_of, HasRow, RowAfter, IsSpareKey, AreAlike}
use Rattle.csn_look.proofs.Basics.Below.{below_or}
use Rattle.csn_look.proofs.Meaning.StartFacts.{symbol_bit-octet}
use Rattle.csn_look.proofs.Tables.NodeKeys.{after_is_parts, after_is_times}
use Rattle.csn_look.proofs.Tables.RowFacts.{keys_as, keys_added, row_alike}
use Rattle.csn_desc.proofs.BitFacts.{length-spelled}

-- ---- what is cut of a whole word

cut_to : (w x : List ℕ) (mark : Bool) → x ≡ take 12 w → mark ≡ nat_le (length w) 12 → Cut 12 w true x mark
cut_to w x mark e f =
    elim (leb_tells (length w) 12) [
      | inl short ↦ kept short.1 (e ∙ take_all 12 w short.1) (f ∙ short.0)
      | inr long ↦ cut long.1 e (f ∙ long.0)
    ]

cut_from : (w x : List ℕ) (mark : Bool) → Cut 12 w true x mark → (x ≡ take 12 w) × (mark ≡ nat_le (length w) 12)
cut_from w x mark (kept short is same) =
    elim (leb_tells (length w) 12) [
      | inl here ↦ (is ∙ sym (take_all 12 w short), same ∙ sym here.0)
      | inr long ↦ let more = long.1 in absurd (omega arith)
    ]
cut_from w x mark (cut long is same) =
    elim (leb_tells (length w) 12) [
      | inl short ↦ let few = short.1 in absurd (omega arith)
      | inr here ↦ (is, same ∙ sym here.0)
    ]

-- ---- literals

pub lits_keys :
    (d : DescV) (run : List Symbol) (o size : ℕ) (word : List ℕ) (whole : Bool) → word ≡ take 12 (spelled run o) → size ≡ length run → whole ≡ nat_le size 12
    → (x : List ℕ) (mark : Bool) → ((x ≡ word) × (mark ≡ whole)) ↔ NodeKeys d 12 (Lits run) o x mark
lits_keys d run o size word whole is len all x mark = (
  (λ h. keys_lits (cut_to (spelled run o) x mark (h.0 ∙ is) (h.1 ∙ fits))),
  from,
)
  where
    fits : whole ≡ nat_le (length (spelled run o)) 12
    fits = all ∙ ap (λ n. nat_le n 12) (len ∙ sym (length-spelled run o))

    from : NodeKeys d 12 (Lits run) o x mark → (x ≡ word) × (mark ≡ whole)
    from (keys_lits c) = let h = cut_from (spelled run o) x mark c in (h.0 ∙ sym is, h.1 ∙ sym fits)

-- the bits of a literal one after another
pub spelled_next : (run : List Symbol) (o at place : ℕ) (s : Symbol) → place ≡ o + at → slice_get run at ≡ Some s
    → take (suc at) (spelled run o) ≡ take at (spelled run o) ++ symbol_bit s place ∷ []
spelled_next [] o at place s here there = cc
spelled_next (t ∷ run) o zero place s here there =
    let same : t ≡ s = cc in
    let first : o ≡ place = omega (arith, here) in
    ap (λ b. b ∷ []) (ap (λ k. symbol_bit k o) same ∙ ap (λ p. symbol_bit s p) first)
spelled_next (t ∷ run) o (suc at) place s here there = ap (λ l. symbol_bit t o ∷ l) (spelled_next run (suc o) at place s (omega (arith, here)) there)

pub spelled_push :
    (run : List Symbol) (o at bit : ℕ) (s : Symbol) (word new : List ℕ)
    → slice_get run at ≡ Some s → bit ≡ symbol_bit s ((o + at) % 8) → word ≡ take at (spelled run o)
    → new ≡ word ++ bit ∷ []
    → new ≡ take (at + 1) (spelled run o)
spelled_push run o at bit s word new there is before pushed =
    let next : suc at ≡ at + 1 = omega arith in
    let seen : bit ≡ symbol_bit s (o + at) = is ∙ sym (symbol_bit-octet s (o + at)) in
    pushed ∙ ap (λ l. l ++ bit ∷ []) before ∙ ap (λ b. take at (spelled run o) ++ b ∷ []) seen
    ∙ sym (spelled_next run o at (o + at) s refl there) ∙ ap (λ n. take n (spelled run o)) next

pub spelled_all : (run : List Symbol) (o at size : ℕ) → size ≡ min 12 (length run) → at ≤ size → size ≤ at → take at (spelled run o) ≡ take 12 (spelled run o)
spelled_all run o at size is low high =
    elim (leb_tells (length run) 12) [
      | inl short ↦
          let few = short.1 in
          let end : at ≡ length run = omega arith in
          let all = length-spelled run o in
          take_all at (spelled run o) (omega arith) ∙ sym (take_all 12 (spelled run o) (omega arith))
      | inr long ↦
          let many = long.1 in
          let end : at ≡ 12 = omega arith in
          ap (λ n. take n (spelled run o)) end
    ]

-- ---- spare bits

-- one that is received may be either bit
pub received_spare : (symbol : Symbol) (whole : Bool) (o : ℕ) (word : List ℕ) (mark : Bool)
    → IsWord word → ((length word ≡ 1) × (mark ≡ whole)) ↔ IsSpareKey Received symbol whole o word mark
received_spare symbol whole o word mark is = ((λ h. (h.0, is.bits, h.1)), (λ h. (h.0, h.2)))

-- and one that is sent is its symbol's
pub sent_spare : (symbol : Symbol) (whole : Bool) (o bit : ℕ)
    → bit ≡ symbol_bit symbol o → (word : List ℕ) (mark : Bool)
    → IsWord word → ((word ≡ bit ∷ []) × (mark ≡ whole)) ↔ IsSpareKey Sent symbol whole o word mark
sent_spare symbol whole o bit told word mark is = (
  (λ h.
      let one : word ≡ symbol_bit symbol o ∷ [] = h.0 ∙ ap (λ b. b ∷ []) told in
      let size : length word ≡ 1 = ap length one in
      (size, one ∙ sym (ap (λ n. spelled (replicate n symbol) o) size), h.1)),
  (λ h. (h.1 ∙ ap (λ n. spelled (replicate n symbol) o) h.0 ∙ ap (λ b. b ∷ []) (sym told), h.2)),
)

one_kept : (w x : List ℕ) (whole mark : Bool) → length w ≡ 1 → Cut 12 w whole x mark → (x ≡ w) × (mark ≡ whole)
one_kept w x whole mark one (kept short is same) = (is, same)
one_kept w x whole mark one (cut long is same) = absurd (omega arith)

module _ (d : DescV) where
  pub spare_node : (s : Symbol) (o : ℕ) (x : List ℕ) (mark : Bool) → IsSpareKey d.reading s true o x mark ↔ NodeKeys d 12 (Spare s) o x mark
  spare_node s o x mark = ((λ h. let one = h.0 in keys_spare x h.0 h.1 (kept (omega arith) refl h.2)), from)
    where
      from : NodeKeys d 12 (Spare s) o x mark → IsSpareKey d.reading s true o x mark
      from (keys_spare w one spare c) =
          let h = one_kept w x true mark one c in
          let P : List ℕ → Type 0 = λ l. IsSpare d.reading s o l in
          (ap length h.0 ∙ one, subst P (sym h.0) spare, h.1)

  pub pad_node : (o : ℕ) (x : List ℕ) (mark : Bool) → IsSpareKey d.reading Low false o x mark ↔ NodeKeys d 12 Pad o x mark
  pad_node o x mark = ((λ h. let one = h.0 in keys_pad x h.0 h.1 (kept (omega arith) refl h.2)), from)
    where
      from : NodeKeys d 12 Pad o x mark → IsSpareKey d.reading Low false o x mark
      from (keys_pad w one spare c) =
          let h = one_kept w x false mark one c in
          let P : List ℕ → Type 0 = λ l. IsSpare d.reading Low o l in
          (ap length h.0 ∙ one, subst P (sym h.0) spare, h.1)

-- ---- fields

abbrev pub FieldKey : ℕ → List ℕ → Bool → Type 0
FieldKey width word mark = (w : List ℕ) × (length w ≡ width) × IsBits w × Cut 12 w true word mark

pub wide_field : (width : ℕ) → 12 < width → (x : List ℕ) (mark : Bool) → IsWord x → ((length x ≡ 12) × (mark ≡ false)) ↔ FieldKey width x mark
wide_field width wide x mark is = (
  (λ h.
      let zeros : List ℕ = replicate (width - 12) 0 in
      let size : length (x ++ zeros) ≡ width = omega (arith, length-append x zeros, length-replicate {A = ℕ} (width - 12) 0, h.0) in
      let full : 12 ≤ length x = (let e = h.0 in omega arith) in
      let front : take 12 (x ++ zeros) ≡ x = take-append-le 12 x zeros full ∙ take_all 12 x is.short in
      (x ++ zeros, size, IsBits-append x zeros is.bits (IsBits-zeros (width - 12)), cut (omega arith) (sym front) h.1)),
  (λ h. from h.0 h.1 h.3),
)
  where
    from : (w : List ℕ) → length w ≡ width → Cut 12 w true x mark → (length x ≡ 12) × (mark ≡ false)
    from w size (kept short same is) = absurd (omega arith)
    from w size (cut long same is) = (ap length same ∙ (let few = length-take 12 w in omega arith), is)

pub narrow_field : (width : ℕ) → width ≤ 12 → (x : List ℕ) (mark : Bool) → IsWord x → ((length x ≡ width) × (mark ≡ true)) ↔ FieldKey width x mark
narrow_field width narrow x mark is = (
  (λ h. let e = h.0 in (x, h.0, is.bits, kept (omega arith) refl h.1)),
  (λ h. from h.0 h.1 h.3),
)
  where
    from : (w : List ℕ) → length w ≡ width → Cut 12 w true x mark → (length x ≡ width) × (mark ≡ true)
    from w size (kept short same is) = (ap length same ∙ size, is)
    from w size (cut long same is) = absurd (omega arith)

pub field_node : (d : DescV) (unit n o : ℕ) (x : List ℕ) (mark : Bool) → FieldKey (unit * n) x mark ↔ NodeKeys d 12 (Field unit (Fixed n)) o x mark
field_node d unit n o x mark = ((λ h. keys_field h.0 h.1 h.2 h.3), from)
  where
    from : NodeKeys d 12 (Field unit (Fixed n)) o x mark → FieldKey (unit * n) x mark
    from (keys_field w wide bits c) = (w, wide, bits, c)

-- ---- the empty word

module _ (d : DescV) (o : ℕ) (x : List ℕ) (mark : Bool) where
  abbrev pub IsEmpty : Bool → Type 0
  IsEmpty whole = (x ≡ []) × (mark ≡ whole)

  pub null_node : IsEmpty true ↔ NodeKeys d 12 Null o x mark
  null_node = ((λ h. keys_null h.0 h.1), from)
    where
      from : NodeKeys d 12 Null o x mark → IsEmpty true
      from (keys_null e m) = (e, m)

  pub rest_node : IsEmpty false ↔ NodeKeys d 12 Rest o x mark
  rest_node = ((λ h. keys_rest h.0 h.1), from)
    where
      from : NodeKeys d 12 Rest o x mark → IsEmpty false
      from (keys_rest e m) = (e, m)

  pub many_node : (i : ℕ) → IsEmpty false ↔ NodeKeys d 12 (Many i) o x mark
  many_node i = ((λ h. keys_many h.0 h.1), from)
    where
      from : NodeKeys d 12 (Many i) o x mark → IsEmpty false
      from (keys_many e m) = (e, m)

  pub trunc_node : (parts : List ℕ) → IsEmpty false ↔ NodeKeys d 12 (Trunc parts) o x mark
  trunc_node parts = ((λ h. keys_trunc h.0 h.1), from)
    where
      from : NodeKeys d 12 (Trunc parts) o x mark → IsEmpty false
      from (keys_trunc e m) = (e, m)

  pub window_node : (unit : ℕ) (count : Count) (i : ℕ) → IsEmpty false ↔ NodeKeys d 12 (Window unit count i) o x mark
  window_node unit count i = ((λ h. keys_window h.0 h.1), from)
    where
      from : NodeKeys d 12 (Window unit count i) o x mark → IsEmpty false
      from (keys_window e m) = (e, m)

  pub counted_field : (unit m field c : ℕ) → IsEmpty false ↔ NodeKeys d 12 (Field unit (Counted m field c)) o x mark
  counted_field unit m field c = ((λ h. keys_counted_field h.0 h.1), from)
    where
      from : NodeKeys d 12 (Field unit (Counted m field c)) o x mark → IsEmpty false
      from (keys_counted_field e m) = (e, m)

  pub counted_times : (m field c i : ℕ) → IsEmpty false ↔ NodeKeys d 12 (Times (Counted m field c) i) o x mark
  counted_times m field c i = ((λ h. keys_counted_times h.0 h.1), from)
    where
      from : NodeKeys d 12 (Times (Counted m field c) i) o x mark → IsEmpty false
      from (keys_counted_times e m) = (e, m)

  pub no_parts : IsEmpty true ↔ PartsKeys d 12 [] o x mark
  no_parts = ((λ h. parts_none h.0 h.1), from)
    where
      from : PartsKeys d 12 [] o x mark → IsEmpty true
      from (parts_none e m) = (e, m)

  pub no_times : (i : ℕ) → IsEmpty true ↔ TimesKeys d 12 0 i o x mark
  no_times i = ((λ h. times_none refl h.0 h.1), from)
    where
      from : TimesKeys d 12 0 i o x mark → IsEmpty true
      from (times_none over e m) = (e, m)
      from (times_cut m over h same) = absurd (omega (arith, over))
      from (times_whole m over w1 w2 rest h hs c) = absurd (omega (arith, over))

  -- ---- nodes with parts

  pub seq_node : (parts : List ℕ) → PartsKeys d 12 parts o x mark ↔ NodeKeys d 12 (Seq parts) o x mark
  seq_node parts = ((λ h. keys_seq h), from)
    where
      from : NodeKeys d 12 (Seq parts) o x mark → PartsKeys d 12 parts o x mark
      from (keys_seq h) = h

  pub times_node : (n i : ℕ) → TimesKeys d 12 n i o x mark ↔ NodeKeys d 12 (Times (Fixed n) i) o x mark
  times_node n i = ((λ h. keys_times h), from)
    where
      from : NodeKeys d 12 (Times (Fixed n) i) o x mark → TimesKeys d 12 n i o x mark
      from (keys_times h) = h

  pub named_node : (label : List ℕ) (i : ℕ) → InKeys d 12 i o x mark ↔ NodeKeys d 12 (Named label i) o x mark
  named_node label i = ((λ h. keys_named h), from)
    where
      from : NodeKeys d 12 (Named label i) o x mark → InKeys d 12 i o x mark
      from (keys_named h) = h

module _ (d : DescV) (tables : List (List ℕ)) (first rest : List ℕ) (i : ℕ) where
  pub row_parts :
      (parts : List ℕ) → HasRow tables first (InKeys d 12 i) → HasRow tables rest (PartsKeys d 12 parts)
      → (o : ℕ) (word : List ℕ) (mark : Bool) → o ≤ 7 → IsWord word → RowAfter tables first rest o word mark ↔ PartsKeys d 12 (i ∷ parts) o word mark
  row_parts parts one more o word mark low is =
      after_is_parts d i o (table_of tables (get_or first o 0)) (λ size. table_of tables (get_or rest ((o + size) % 8) 0)) parts
      (one.keys o low).keys (λ size. (more.keys ((o + size) % 8) (omega arith)).keys) word mark is

  pub row_times :
      (n : ℕ) → HasRow tables first (InKeys d 12 i) → HasRow tables rest (TimesKeys d 12 n i)
      → (o : ℕ) (word : List ℕ) (mark : Bool) → o ≤ 7 → IsWord word → RowAfter tables first rest o word mark ↔ TimesKeys d 12 (suc n) i o word mark
  row_times n one more o word mark low is =
      after_is_times d i o (table_of tables (get_or first o 0)) (λ size. table_of tables (get_or rest ((o + size) % 8) 0)) n
      (one.keys o low).keys (λ size. (more.keys ((o + size) % 8) (omega arith)).keys) word mark is

-- ---- one of some parts

-- parts before a place are alike
abbrev pub AreAlikeBelow : DescV → List ℕ → ℕ → Type 0
AreAlikeBelow d parts limit =
    (j i o : ℕ) (word : List ℕ) (mark : Bool) → j < limit → slice_get parts j ≡ Some i → o ≤ 7 → IsWord word
    → InKeys d 12 i 0 word mark ↔ InKeys d 12 i o word mark

module _ (d : DescV) (parts : List ℕ) (o : ℕ) where
  -- keys of a part before a place
  pub record ChoiceBelow (limit : ℕ) (word : List ℕ) (mark : Bool) : Type 0 where
    pub place : ℕ
    pub part : ℕ
    pub below : place < limit
    pub at : slice_get parts place ≡ Some part
    pub key : InKeys d 12 part o word mark

  pub choice_none : (marks : List ℕ) → KeysAre marks (λ word mark. ⊥) → KeysAre marks (ChoiceBelow 0)
  choice_none marks none = keys_as marks (λ word mark. ⊥) (ChoiceBelow 0) none
      (λ word mark is. (λ no. absurd no, λ h. let b = h.below in absurd (omega arith)))

  pub choice_next :
      (old new other : List ℕ) (place part : ℕ) → slice_get parts place ≡ Some part → KeysAre old (ChoiceBelow place) → KeysAre other (InKeys d 12 part o)
      → Adds old new (λ key mark. IsTrue (has_key other key mark)) → KeysAre new (ChoiceBelow (place + 1))
  choice_next old new other place part there are one adds =
      keys_as new (λ word mark. ChoiceBelow place word mark ⊎ IsTrue (has_key other word mark)) (ChoiceBelow (place + 1))
      (keys_added old new (ChoiceBelow place) (λ key mark. IsTrue (has_key other key mark)) are adds)
      (λ word mark is. (
        (λ h. elim h [
          | inl s ↦ let b = s.below in record { place = s.place; part = s.part; below = omega arith; at = s.at; key = s.key }
          | inr key ↦ record { place = place; part = part; below = omega arith; at = there; key = (one word mark is).0 key }
        ]),
        (λ s. elim (below_or s.place place s.below) [
          | inl b ↦ inl (record { place = s.place; part = s.part; below = b; at = s.at; key = s.key })
          | inr e ↦
              let found : slice_get parts place ≡ Some s.part = ap (λ p. slice_get parts p) (sym e) ∙ s.at in
              let same : s.part ≡ part = cc (found, there) in
              let P : ℕ → Type 0 = λ p. InKeys d 12 p o word mark in
              inr ((one word mark is).1 (subst P same s.key))
        ]),
      ))

  pub choice_all : (marks : List ℕ) (limit : ℕ) → length parts ≤ limit → KeysAre marks (ChoiceBelow limit) → KeysAre marks (NodeKeys d 12 (Choice parts) o)
  choice_all marks limit all are =
      keys_as marks (ChoiceBelow limit) (NodeKeys d 12 (Choice parts) o) are (λ word mark is. (λ s. keys_choice s.place s.at s.key, from word mark))
    where
      from : (word : List ℕ) (mark : Bool) → NodeKeys d 12 (Choice parts) o word mark → ChoiceBelow limit word mark
      from word mark (keys_choice {i = i} j at key) = let inside = slice_get_within parts j i at in
          record { place = j; part = i; below = omega arith; at = at; key = key }

-- parts that are alike at all octet positions make one that is
pub choice_alike : (d : DescV) (parts marks : List ℕ)
    → AreAlike d parts → KeysAre marks (NodeKeys d 12 (Choice parts) 0) → (o : ℕ)
    → o ≤ 7 → KeysAre marks (NodeKeys d 12 (Choice parts) o)
choice_alike d parts marks alike are o low =
    keys_as marks (NodeKeys d 12 (Choice parts) 0) (NodeKeys d 12 (Choice parts) o) are (λ word mark is. (to word mark is, from word mark is))
  where
    to : (word : List ℕ) (mark : Bool) → IsWord word → NodeKeys d 12 (Choice parts) 0 word mark → NodeKeys d 12 (Choice parts) o word mark
    to word mark is (keys_choice {i = i} j at key) = keys_choice j at ((alike j i o word mark at low is).0 key)

    from : (word : List ℕ) (mark : Bool) → IsWord word → NodeKeys d 12 (Choice parts) o word mark → NodeKeys d 12 (Choice parts) 0 word mark
    from word mark is (keys_choice {i = i} j at key) = keys_choice j at ((alike j i o word mark at low is).1 key)

-- one part more is alike
pub alike_next : (d : DescV) (tables : List (List ℕ)) (parts row : List ℕ) (at part : ℕ)
    → slice_get parts at ≡ Some part → HasRow tables row (InKeys d 12 part)
    → ((o : ℕ) → o ≤ 7 → get_or row o 0 ≡ get_or row 0 0)
    → AreAlikeBelow d parts at → AreAlikeBelow d parts (at + 1)
alike_next d tables parts row at part there has same before = λ j i o word mark below is_part low is.
    elim (below_or j at below) [
      | inl earlier ↦ before j i o word mark earlier is_part low is
      | inr here ↦
          let found : slice_get parts at ≡ Some i = ap (λ p. slice_get parts p) (sym here) ∙ is_part in
          let one : part ≡ i = cc (there, found) in
          let P : ℕ → Type 0 = λ p. InKeys d 12 p 0 word mark ↔ InKeys d 12 p o word mark in
          subst P one (row_alike tables row (InKeys d 12 part) has same o word mark low is)
    ]
