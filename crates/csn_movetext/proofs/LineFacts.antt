-- The text of a block line while the line comes, and at its end.
use Rattle.std.proofs.Common.{◌≡◌, ℕ, ◌+◌, ◌-◌, ◌*◌, ◌<◌, ◌≤◌, List, [], ◌∷◌, ◌++◌, length, take, drop, get_or}
use Rattle.std.proofs.Common.{slice_set, refl, sym, ap, subst, ◌∙◌, arith, append_assoc, length-append, length-drop}
use Rattle.std.proofs.Common.{codes}
use Rattle.std.specs.Prelude.{Result, Ok, Err, IfOk}
use Rattle.std.proofs.Math.Seq.{take-add}
use Rattle.std.proofs.lemmas.List.{drop-take, length-take, length-take-le, take-take, take_all}
use Rattle.csn_bits.specs.Octets.{bits_of_octet, bits_of_octets}
use Rattle.csn_bits.specs.Line.{BlockLine}
use Rattle.csn_bits.specs.Feed.{Fed, EndsWith, all_but_last, leading_digits, octets_given, seen_of}
use Rattle.csn_bits.specs.declared.feed.HexFeed.{HexFeed}
use Rattle.csn_bits.specs.Line.{octets_of_digits}
use Rattle.csn_bits.proofs.Packing.{length-bits_of_octets, bits_of_octets-append}
use Rattle.csn_bits.proofs.Written.{block_line-dot}
use Rattle.csn_desc.specs.Nodes.{DescV}
use Rattle.csn_json.specs.declared.form.TreeForm.{TreeForm}
use Rattle.csn_judge.specs.declared.fed.Fed.{Fed as Answer}
use Rattle.csn_judge.specs.declared.fed.Fed.TheVariants.{Going, Refused, NoMemory}
use Rattle.csn_movetext.specs.declared.octet_text.OctetText.{OctetText}
use Rattle.csn_movetext.specs.declared.line.LineEnd.{LineEnd}
use Rattle.csn_movetext.specs.declared.line.LineEnd.TheVariants as end
use Rattle.csn_movetext.specs.Blocks.{BlockV, WritesFor, Continues}
use Rattle.csn_movetext.specs.Lines.{LineV, line_of, ReadsLine, WritesOrWants, EndsBlock, EndsText}

-- ---- the block goes on

wants_still : (old new : BlockV) → (¬ (old.answer ≡ Going) → new ≡ old) → ¬ (new.answer ≡ NoMemory) → ¬ (old.answer ≡ NoMemory)
wants_still old new stays fits wants =
    fits (ap (λ (w : BlockV). w.answer) (stays (λ going. let clash : NoMemory ≡ Going = sym wants ∙ going in absurd (cc))) ∙ wants)

pub goes_on : (old new : BlockV) (more : List ℕ) (answer : Answer) → new.answer ≡ answer → (¬ (old.answer ≡ Going) → new ≡ old) → Continues old new more answer
    → (b : List ℕ) → WritesOrWants old b → WritesOrWants new (b ++ more)
goes_on old new more Going is stays continues b writes fits = (continues b (writes (wants_still old new stays fits))).comes
goes_on old new more (Refused place) is stays continues b writes fits = (continues b (writes (wants_still old new stays fits))).comes
goes_on old new more NoMemory is stays continues b writes fits = absurd (fits is)

seen_by : (answer : Answer) (old new : BlockV) (bits : ℕ)
    → old.answer ≡ answer → (old.answer ≡ Going → new.seen ≡ old.seen + bits) → (¬ (old.answer ≡ Going) → new ≡ old)
    → new.seen ≤ old.seen + bits
seen_by Going old new bits is going stays = omega (arith, going is)
seen_by (Refused place) old new bits is going stays =
    let same : new.seen ≡ old.seen = ap (λ (w : BlockV). w.seen) (stays (λ on. let clash : Refused place ≡ Going = sym is ∙ on in absurd (cc))) in
    omega (arith, same)
seen_by NoMemory old new bits is going stays =
    let same : new.seen ≡ old.seen = ap (λ (w : BlockV). w.seen) (stays (λ on. let clash : NoMemory ≡ Going = sym is ∙ on in absurd (cc))) in
    omega (arith, same)

pub seen_grows : (old new : BlockV) (bits : ℕ) → (old.answer ≡ Going → new.seen ≡ old.seen + bits)
    → (¬ (old.answer ≡ Going) → new ≡ old) → new.seen ≤ old.seen + bits
seen_grows old new bits going stays = seen_by old.answer old new bits refl going stays

-- all bits of octets
pub whole_bits : (octets : List ℕ) (bits : ℕ) → bits ≡ 8 * length octets → take bits (bits_of_octets octets) ≡ bits_of_octets octets
whole_bits octets bits all = take_all bits (bits_of_octets octets) (omega (arith, all, length-bits_of_octets octets))

-- some bits of an octet
pub goes_on_within : (old new : BlockV) (octet bits taken : ℕ) (answer : Answer) → taken ≡ bits → new.answer ≡ answer → (¬ (old.answer ≡ Going) → new ≡ old)
    → Continues old new (take taken (bits_of_octets (octet ∷ []))) answer → (b : List ℕ)
    → WritesOrWants old b → WritesOrWants new (b ++ take bits (bits_of_octet octet))
goes_on_within old new octet bits taken answer same is stays continues b writes =
    subst (λ n. WritesOrWants new (b ++ take n (bits_of_octet octet))) same
    (goes_on old new (take taken (bits_of_octets (octet ∷ []))) answer is stays continues b writes)

front_with : (b more : List ℕ) (size count : ℕ) → length b ≡ size → count ≤ length more → length (b ++ take count more) ≡ size + count
front_with b more size count is few = length-append b (take count more) ∙ ap (λ n. n + length (take count more)) is
    ∙ ap (λ n. size + n) (length-take-le count more few)

-- how many bits a block has that ends with some bits of an octet
pub bits_with : (b : List ℕ) (octets octet bits : ℕ) → length b ≡ 8 * octets → bits ≤ 8 → length (b ++ take bits (bits_of_octet octet)) ≡ 8 * octets + bits
bits_with b octets octet bits count few = front_with b (bits_of_octet octet) (8 * octets) bits count few

-- ---- the line goes on

few_taken : (most : ℕ) (xs : List ℕ) → length (take most xs) ≤ most
few_taken most xs = omega (arith, length-take most xs)

-- a line gives no more octets than a block has
pub few_given : (line : List ℕ) → length (octets_given line) ≤ 65536
few_given line = few_taken 65536 (all_but_last (octets_of_digits (leading_digits line)))

pub reads_none : (t : LineV) → Fed t.feed [] → t.seen ≡ 0 → t.octets ≡ 0 → t.block.seen ≡ 0 → WritesFor t.block [] → ReadsLine t []
reads_none t fed count given seen writes =
    record {
      fed = fed;
      count = count;
      given = given;
      few = omega (arith, seen);
      writes = λ fits. writes;
    }

-- the next line begins
pub reads_anew : (feed fresh : HexFeed) (given : OctetText) → feed ≡ fresh → Fed fresh [] → seen_of fresh ≡ 0
    → given.octets ≡ 0 → given.block.seen ≡ 0 → WritesFor given.block []
    → ReadsLine (line_of (record { feed = feed; given = given })) []
reads_anew feed fresh given is fed count none seen writes =
    let F : HexFeed → Type 0 = λ f. ReadsLine (line_of (record { feed = f; given = given })) [] in
    subst F (sym is) (reads_none (line_of (record { feed = fresh; given = given })) fed count none seen writes)

-- some more bytes of it give some more octets
pub reads_more : (old new : LineV) (line more octets : List ℕ) → ReadsLine old line → Fed new.feed (line ++ more)
    → octets_given (line ++ more) ≡ octets_given line ++ octets
    → new.seen ≡ old.seen + length more → new.octets ≡ old.octets + length octets → new.block.seen ≤ 8 * new.octets
    → ((b : List ℕ) → WritesOrWants old.block b → WritesOrWants new.block (b ++ bits_of_octets octets)) → ReadsLine new (line ++ more)
reads_more old new line more octets reads fed gives seen given few writes =
    let count : length (octets_given (line ++ more)) ≡ length (octets_given line) + length octets = ap length gives
    ∙ length-append (octets_given line) octets in
    let bits : bits_of_octets (octets_given (line ++ more)) ≡ bits_of_octets (octets_given line) ++ bits_of_octets octets =
    ap (λ l. bits_of_octets l) gives ∙ bits_of_octets-append (octets_given line) octets in
    record {
      fed = fed;
      count = seen ∙ ap (λ n. n + length more) reads.count ∙ sym (length-append line more);
      given = given ∙ ap (λ n. n + length octets) reads.given ∙ sym count;
      few = few;
      writes = subst (λ l. WritesOrWants new.block l) (sym bits) (writes (bits_of_octets (octets_given line)) reads.writes);
    }

few_sum : (given front all more : ℕ) → given ≡ front → all ≡ front + more → all ≤ 65536 → given + more ≤ 65536
few_sum given front all more is whole few = omega (arith, is, whole, few)

-- some octets more are no more than a block has
pub few_more : (line more octets : List ℕ) (given : ℕ) → given ≡ length (octets_given line)
    → octets_given (line ++ more) ≡ octets_given line ++ octets → given + length octets ≤ 65536
few_more line more octets given is gives =
    few_sum given (length (octets_given line)) (length (octets_given (line ++ more))) (length octets) is
    (ap length gives ∙ length-append (octets_given line) octets) (few_given (line ++ more))

-- a part of a list
pub part_is : (from to : ℕ) (xs : List ℕ) → from ≤ to → drop from (take to xs) ≡ take (to - from) (drop from xs)
part_is from to xs within =
    let whole : from + (to - from) ≡ to = omega (arith, within) in
    ap (λ n. drop from (take n xs)) (sym whole) ∙ drop-take from (to - from) xs

-- the first of a part are those behind what stands before it
pub part_taken : (bytes : List ℕ) (at size count : ℕ) → count ≤ length (take size (drop at bytes))
    → take count (take size (drop at bytes)) ≡ take count (drop at bytes)
part_taken bytes at size count within = take-take count size (drop at bytes) (omega (arith, within, length-take size (drop at bytes)))

pub part_within : (bytes : List ℕ) (at size count : ℕ) → at ≤ length bytes → count ≤ length (take size (drop at bytes)) → at + count ≤ length bytes
part_within bytes at size count begun within = omega (arith, begun, within, length-take size (drop at bytes), length-drop at bytes)

-- its first
pub first_taken : (xs : List ℕ) → 0 < length xs → take 1 xs ≡ get_or xs 0 0 ∷ []
first_taken [] some = absurd (omega (arith, some))
first_taken (x ∷ xs) some = refl

pub first_set : (xs : List ℕ) (x : ℕ) → 0 < length xs → take 1 (slice_set xs 0 x) ≡ x ∷ []
first_set [] x some = absurd (omega (arith, some))
first_set (y ∷ xs) x some = refl

-- the bytes of a part, and then some behind them
pub more_taken : (line bytes part : List ℕ) (at count : ℕ) → part ≡ take count (drop at bytes)
    → (line ++ take at bytes) ++ part ≡ line ++ take (at + count) bytes
more_taken line bytes part at count is =
    append_assoc line (take at bytes) part ∙ ap (λ l. line ++ l) (ap (λ p. take at bytes ++ p) is ∙ sym (take-add at count bytes))

-- ---- the end of the line

ends_spelled : (form : TreeForm) (d : DescV) (line b old new : List ℕ) (e : LineEnd)
    → BlockLine line b → EndsBlock form d b e old new → EndsText form d line e old new
ends_spelled form d line b old new (end.Text bits) spells ends = (b, spells, ends.0, ends.1)
ends_spelled form d line b old new (end.Refused place bits) spells ends = (b, spells, ends.0, ends.1, ends.2)
ends_spelled form d line b old new (end.Fault why) spells ends = absurd ends

-- the block of a line
pub ends_with : (t : LineV) (octet bits : ℕ) (old new : List ℕ) (e : LineEnd)
    → ((line : List ℕ) → ReadsLine t line → EndsBlock t.form t.desc (bits_of_octets (octets_given line) ++ take bits
    (bits_of_octet octet)) e old new → EndsText t.form t.desc line e old new)
    → ((b : List ℕ) → length b ≡ 8 * t.octets → WritesOrWants t.block b → EndsBlock t.form t.desc (b ++ take bits (bits_of_octet octet)) e old new)
    → (line : List ℕ) → ReadsLine t line → EndsText t.form t.desc line e old new
ends_with t octet bits old new e spelled ends line reads =
    spelled line reads (ends (bits_of_octets (octets_given line)) (length-bits_of_octets (octets_given line) ∙ ap (λ n. 8 * n) (sym reads.given)) reads.writes)

pub if_ok : {A E : Type 0} (r : Result A E) (P Q : A → Type 0) → ((value : A) → P value → Q value) → IfOk r P → IfOk r Q
if_ok (Ok value) P Q map for = map value for
if_ok (Err e) P Q map for = tt

pub ends_empty : (form : TreeForm) (d : DescV) (line old new : List ℕ) (e : LineEnd) → line ≡ codes "."
    → EndsBlock form d (bits_of_octets (octets_given line) ++ []) e old new → EndsText form d line e old new
ends_empty form d line old new e dot ends =
    ends_spelled form d line [] old new e (subst (λ l. BlockLine l []) (sym dot) block_line-dot)
    (subst (λ l. EndsBlock form d (bits_of_octets (octets_given l) ++ []) e old new) dot ends)

pub ends_last : (form : TreeForm) (d : DescV) (line old new : List ℕ) (octet bits : ℕ) (e : LineEnd) → EndsWith line octet bits
    → EndsBlock form d (bits_of_octets (octets_given line) ++ take bits (bits_of_octet octet)) e old new → EndsText form d line e old new
ends_last form d line old new octet bits e with_last ends =
    ends_spelled form d line (bits_of_octets (octets_given line) ++ take bits (bits_of_octet octet)) old new e with_last.spelled ends

-- how many bits that block has
pub few_bits : (line : List ℕ) (octets octet bits : ℕ) → octets ≡ length (octets_given line) → EndsWith line octet bits → 8 * octets + bits ≤ 524288
few_bits line octets octet bits given last =
    let front : List ℕ = bits_of_octets (octets_given line) in
    let all : length (front ++ take bits (bits_of_octet octet)) ≡ 8 * octets + bits =
    bits_with front octets octet bits (length-bits_of_octets (octets_given line) ∙ ap (λ n. 8 * n) (sym given)) last.few in
    subst (λ n. n ≤ 524288) all last.spelled.few
