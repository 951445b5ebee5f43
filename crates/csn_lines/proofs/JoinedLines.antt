-- Each line has one answer of `segments`: it has a fault, or spells a block, for which the joiner gives one answer.
use Rattle.std.proofs.Common.{◌≡◌, ℕ, ◌%◌, eqb, true, false, inl, inr, List, [], ◌∷◌, ◌++◌, length, codes, Option}
use Rattle.std.proofs.Common.{Some, None, refl, sym, ◌∙◌, ap, subst, arith}
use Rattle.std.proofs.lemmas.Bool.{cases_Bool}
use Rattle.std.specs.Fmt.{decimal}
use Rattle.csn_bits.specs.Octets.{bits_of_octets, octets_of}
use Rattle.csn_bits.proofs.Packing.{length-bits_of_octets}
use Rattle.csn_bits.specs.Line.{BlockLine, fault_of}
use Rattle.csn_bits.specs.Fault.{fault_for}
use Rattle.csn_bits.specs.declared.fault.LineWhy.{LineWhy}
use Rattle.csn_catalogue.specs.declared.entry.Entry.TheVariants.{Downlink}
use Rattle.csn_catalogue.specs.Entries.{entry_root}
use Rattle.csn_desc.specs.declared.reading.Reading.{Reading}
use Rattle.csn_desc.specs.Nodes.{DescV}
use Rattle.csn_grammar.specs.RulesV.{RulesV}
use Rattle.csn_segment.specs.declared.joined.Joined.{Joined}
use Rattle.csn_segment.specs.declared.joined.Joined.TheVariants.{Whole, Waiting, Refused}
use Rattle.csn_segment.specs.Joining.{answer_to}
use Rattle.csn_segment.specs.Laws.{IsShort}
use Rattle.csn_json.specs.declared.form.TreeForm.TheVariants.{Text}
use Rattle.csn_lines.specs.Language.{of_rules}
use Rattle.csn_lines.specs.Known.{Known}
use Rattle.csn_plan.specs.Compiled.{IsCompiled}
use Rattle.csn_lines.specs.LineState.{LineState}
use Rattle.csn_lines.specs.OutLine.{AnswersJoined, SegmentsLine, joins_block, no_octets, no_block as is_no_block, Segments, fault_text, segment_fault}
use Rattle.csn_lines.proofs.ShownLines.{each_block, one_block, no_block, one_fault}

pub same_state : (after end : LineState) → after.blocks ≡ end.blocks → after.watchers ≡ end.watchers → after ≡ end
same_state after end blocks watchers =
    ap (λ b. record { blocks = b; watchers = after.watchers }) blocks ∙ ap (λ w. record { blocks = end.blocks; watchers = w }) watchers

-- ---- each line has an answer

module _ (known : Known) (text : List ℕ) (rules : RulesV) (reading : Reading) (d : DescV) (is : IsCompiled text (entry_root Downlink) reading rules d) where
  joined_answer : (joined : Joined) → IsShort joined → (answer : List ℕ) × AnswersJoined (of_rules rules reading Downlink) joined answer
  joined_answer (Whole message) short =
      each_block known text rules (entry_root Downlink) reading d is Text (bits_of_octets message.items)
      (omega (arith, short, length-bits_of_octets message.items))
  joined_answer (Waiting rti) short = (codes "wait " ++ decimal rti, refl)
  joined_answer (Refused why) short = (codes "bad " ++ decimal (segment_fault why), refl)

  abbrev HasAnswer : List (List ℕ) → List ℕ → Type 0
  HasAnswer before line = (answer : List ℕ) × (after : List (List ℕ)) × SegmentsLine (of_rules rules reading Downlink) before line answer after

  block_answer : (before : List (List ℕ)) (line block : List ℕ) → BlockLine line block → HasAnswer before line
  block_answer before line block spells = elim (cases_Bool (eqb (length block % 8) 0)) [
    | inl whole ↦ (
        let answer = joined_answer (answer_to before (octets_of block)) (known.of_messages before (octets_of block)) in
        (answer.0, before ++ octets_of block ∷ [], joins_block block spells (grind arith) answer.1 refl))
    | inr part ↦ (
      codes "bad 5",
      before,
      no_octets block spells (λ e. let clash : eqb (length block % 8) 0 ≡ true =
          grind arith in absurd (let two : false ≡ true = sym part ∙ clash in cc)) refl refl,
    )
  ]

  line_answer : (before : List (List ℕ)) (line : List ℕ) (fault : Option LineWhy) → fault_of line ≡ fault → HasAnswer before line
  line_answer before line None none = let block = (known.of_lines.fault_or_block line).0 none in block_answer before line block.0 block.1
  line_answer before line (Some why) has = (fault_text (fault_for why), before, is_no_block (fault_for why) (why, has, refl) refl refl)

  pub each_segments : (before : LineState) (line : List ℕ) → (text : List ℕ) × (after : LineState)
      × Segments (of_rules rules reading Downlink) before line text after
  each_segments before line =
      let answer = line_answer before.blocks line (fault_of line) refl in
      (answer.0 ++ 10 ∷ [], record { blocks = answer.1; watchers = before.watchers }, (answer.0, answer.2, refl, refl))

  -- ---- and no other

  one_joined : (joined : Joined) (answer other : List ℕ) → AnswersJoined (of_rules rules reading Downlink) joined answer
      → AnswersJoined (of_rules rules reading Downlink) joined other → answer ≡ other
  one_joined (Whole message) answer other h k = one_block known text rules (entry_root Downlink) reading d is Text
      (bits_of_octets message.items) answer other h k
  one_joined (Waiting rti) answer other h k = h ∙ sym k
  one_joined (Refused why) answer other h k = h ∙ sym k

  abbrev SameLine : List ℕ → List ℕ → List (List ℕ) → List (List ℕ) → Type 0
  SameLine answer other after end = (answer ≡ other) × (after ≡ end)

  one_spelled : (line block other : List ℕ) → BlockLine line block → BlockLine line other → block ≡ other
  one_spelled line block other spells spelled = known.of_lines.spells_one line block other spells spelled

  one_line : (before after end : List (List ℕ)) (line answer other : List ℕ)
      → SegmentsLine (of_rules rules reading Downlink) before line answer after → SegmentsLine (of_rules rules reading Downlink) before line other end
      → SameLine answer other after end
  one_line before after end line answer other (joins_block block spells whole joined is_after) (joins_block block' spells' whole' joined' is_end) =
      let same = one_spelled line block block' spells spells' in (
        one_joined (answer_to before (octets_of block')) answer other
            (subst (λ b. AnswersJoined (of_rules rules reading Downlink) (answer_to before (octets_of b)) answer) same joined) joined',
        is_after ∙ ap (λ b. before ++ octets_of b ∷ []) same ∙ sym is_end,
      )
  one_line before after end line answer other (joins_block block spells whole joined is_after) (no_octets block' spells' part e is_end) =
      let same = one_spelled line block block' spells spells' in absurd (part (ap (λ b. length b % 8) (sym same) ∙ whole))
  one_line before after end line answer other (no_octets block spells part e is_after) (joins_block block' spells' whole joined is_end) =
      let same = one_spelled line block block' spells spells' in absurd (part (ap (λ b. length b % 8) same ∙ whole))
  one_line before after end line answer other (no_octets block spells part e is_after)
      (no_octets block' spells' part' e' is_end) = (e ∙ sym e', is_after ∙ sym is_end)
  one_line before after end line answer other (is_no_block fault holds e is_after) (is_no_block fault' holds' e' is_end) =
      (e ∙ ap fault_text (one_fault known text rules (entry_root Downlink) reading d is line fault fault' holds holds') ∙ sym e', is_after ∙ sym is_end)
  one_line before after end line answer other (is_no_block fault holds e is_after)
      (joins_block block spells whole joined is_end) =
      absurd (no_block known text rules (entry_root Downlink) reading d is line block fault holds spells)
  one_line before after end line answer other (is_no_block fault holds e is_after)
      (no_octets block spells part e' is_end) =
      absurd (no_block known text rules (entry_root Downlink) reading d is line block fault holds spells)
  one_line before after end line answer other (joins_block block spells whole joined is_after)
      (is_no_block fault holds e is_end) =
      absurd (no_block known text rules (entry_root Downlink) reading d is line block fault holds spells)
  one_line before after end line answer other (no_octets block spells part e' is_after)
      (is_no_block fault holds e is_end) =
      absurd (no_block known text rules (entry_root Downlink) reading d is line block fault holds spells)

  pub one_segments : {before : LineState} {line text other : List ℕ} {after end : LineState}
      → Segments (of_rules rules reading Downlink) before line text after → Segments (of_rules rules reading Downlink) before line other end → (text ≡ other)
      × (after ≡ end)
  one_segments {before} {line} {after = after} {end} h k =
      let same = one_line before.blocks after.blocks end.blocks line h.0 k.0 h.1 k.1 in
      (h.2 ∙ ap (λ l. l ++ 10 ∷ []) same.0 ∙ sym k.2, same_state after end same.1 (h.3 ∙ sym k.3))
