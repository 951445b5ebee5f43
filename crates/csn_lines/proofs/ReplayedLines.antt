-- Each line has one answer of `replay`, and takes the watchers further in one way.
use Rattle.std.proofs.Common.{◌≡◌, ℕ, zero, suc, inl, inr, List, [], ◌∷◌, ◌++◌, length, drop, get_or, slice_get}
use Rattle.std.proofs.Common.{codes, Option, Some, None, refl, sym, ◌∙◌, ap, subst}
use Rattle.std.proofs.lemmas.List.{append-nil}
use Rattle.std.specs.Option.{option_map}
use Rattle.csn_bits.specs.Line.{BlockLine, fault_of}
use Rattle.csn_bits.specs.Fault.{IsLineFault, fault_for}
use Rattle.csn_bits.specs.declared.fault.BitsFault.{BitsFault}
use Rattle.csn_bits.specs.declared.fault.LineWhy.{LineWhy}
use Rattle.csn_catalogue.specs.declared.entry.Entry.{Entry}
use Rattle.csn_catalogue.specs.Entries.{all_entries, entry_place, entry_root}
use Rattle.csn_catalogue.specs.Text.{catalogue_text}
use Rattle.csn_desc.specs.declared.reading.Reading.{Reading}
use Rattle.csn_desc.specs.Nodes.{DescV}
use Rattle.csn_grammar.specs.RulesV.{RulesV}
use Rattle.csn_replay.specs.Capture.{IsCapture}
use Rattle.csn_replay.specs.Told.{Wrote}
use Rattle.csn_replay.specs.declared.told.Told.{Told}
use Rattle.csn_replay.specs.declared.told.Told.TheVariants.{Ok}
use Rattle.csn_replay.specs.Watched.{reports}
use Rattle.csn_replay.specs.declared.seen.Seen.{Seen}
use Rattle.csn_replay.proofs.Captures.{each_entry}
use Rattle.csn_json.specs.declared.form.TreeForm.TheVariants.{Text}
use Rattle.csn_lines.specs.Language.{of_rule, of_rules}
use Rattle.csn_lines.specs.Known.{Known}
use Rattle.csn_plan.specs.Compiled.{AreCompiled, IsCompiled}
use Rattle.csn_lines.specs.LineState.{LineState}
use Rattle.csn_lines.specs.OutLine.{ShowsBlock, CaptureLine, captures_block, captures_fault, no_capture, Replays}
use Rattle.csn_lines.specs.OutLine.{fault_text, seen_of, left_behind, done_behind}
use Rattle.csn_lines.proofs.Captures.{capture_or_none, one_capture}
use Rattle.csn_lines.proofs.JoinedLines.{same_state}
use Rattle.csn_lines.proofs.ShownLines.{each_block, one_block, no_block, one_fault}

-- the description of an entry among those of all entries
pub compiled_at : (reading : Reading) (rules : RulesV) (entries : List Entry) (plans : List DescV) (n : ℕ)
    (entry : Entry) (default : DescV) → AreCompiled rules reading entries plans → slice_get entries n ≡ Some entry
    → IsCompiled catalogue_text (entry_root entry) reading rules (get_or plans n default)
compiled_at reading rules [] plans n entry default compiled is = absurd (cc)
compiled_at reading rules (first ∷ entries) [] n entry default compiled is = absurd compiled
compiled_at reading rules (first ∷ entries) (d ∷ ds) zero entry default compiled is =
    let same : first ≡ entry = cc in subst (λ (e : Entry). IsCompiled catalogue_text (entry_root e) reading rules d) same compiled.0
compiled_at reading rules (first ∷ entries) (d ∷ ds) (suc n) entry default compiled is = compiled_at reading rules entries ds n entry default compiled.1 is

-- there are as many as entries
pub compiled_length : (reading : Reading) (rules : RulesV) (entries : List Entry) (plans : List DescV)
    → AreCompiled rules reading entries plans → length plans ≡ length entries
compiled_length reading rules [] [] compiled = refl
compiled_length reading rules [] (d ∷ ds) compiled = absurd compiled
compiled_length reading rules (entry ∷ entries) [] compiled = absurd compiled
compiled_length reading rules (entry ∷ entries) (d ∷ ds) compiled = ap suc (compiled_length reading rules entries ds compiled.1)

pub stands_at : (entry : Entry) → slice_get all_entries (entry_place entry) ≡ Some entry
stands_at = each_entry (λ entry. slice_get all_entries (entry_place entry) ≡ Some entry) refl refl refl refl refl refl refl

-- some description among these
first_of : (reading : Reading) (rules : RulesV) (plans : List DescV) → AreCompiled rules reading all_entries plans → DescV
first_of reading rules [] compiled = absurd compiled
first_of reading rules (d ∷ ds) compiled = d

module _ (known : Known) (rules : RulesV) (reading : Reading) (plans : List DescV) (compiled : AreCompiled rules reading all_entries plans) where
  plan_of : (entry : Entry) → (d : DescV) × IsCompiled catalogue_text (entry_root entry) reading rules d
  plan_of entry = let some = first_of reading rules plans compiled in (
    get_or plans (entry_place entry) some,
    compiled_at reading rules all_entries plans (entry_place entry)
        entry some compiled (stands_at entry),
  )

  -- ---- each line has an answer

  abbrev HasAnswer : List ℕ → Type 0
  HasAnswer line = (answer : List ℕ) × (seen : Option Seen) × CaptureLine (of_rules rules reading) line answer seen

  of_entry : (line : List ℕ) (entry : Entry) (at : ℕ) → IsCapture line entry at → (fault : Option LineWhy) → fault_of (drop at line) ≡ fault → HasAnswer line
  of_entry line entry at is None none =
      let block = (known.of_lines.fault_or_block (drop at line)).0 none in
      let plan = plan_of entry in
      let answer = each_block known catalogue_text rules (entry_root entry) reading plan.0 plan.1 Text block.0 block.1.few in
      (answer.0, Some (seen_of entry block.0 answer.0), captures_block entry at block.0 is block.1 answer.1 refl)
  of_entry line entry at is (Some why) has = (fault_text (fault_for why), None, captures_fault entry at (fault_for why) is (why, has, refl) refl refl)

  has_answer : (line : List ℕ) → HasAnswer line
  has_answer line = elim (capture_or_none line) [
    | inl is ↦ of_entry line is.0 is.1 is.2 (fault_of (drop is.1 line)) refl
    | inr none ↦ (codes "bad 5", None, no_capture none refl refl)
  ]

  pub each_replays : (before : LineState) (line : List ℕ) → (text : List ℕ) × (after : LineState) × Replays (of_rules rules reading) before line text after
  each_replays before line =
      let answer = has_answer line in (
        answer.0 ++ 10 ∷ reports (done_behind answer.1 before.watchers),
        record { blocks = before.blocks; watchers = left_behind answer.1 before.watchers },
        (answer.0, answer.1, answer.2, (refl, refl), refl),
      )

  -- ---- and no other

  abbrev SameAnswer : List ℕ → List ℕ → Option Seen → Option Seen → Type 0
  SameAnswer answer other seen seen' = (answer ≡ other) × (seen ≡ seen')

  -- lines of one entry
  block_at_one : {line : List ℕ} (entry entry' : Entry) {at at' : ℕ} (P : List ℕ → Type 0)
      → IsCapture line entry at → IsCapture line entry' at' → P (drop at line) → P (drop at' line)
  block_at_one {line} entry entry' P is is' p = subst (λ n. P (drop n line)) (one_capture known.of_captures is is').1 p

  block_and_fault : {line block : List ℕ} (entry entry' : Entry) {at at' : ℕ} {fault : BitsFault}
      → IsCapture line entry at → IsCapture line entry' at' → BlockLine (drop at line) block
      → IsLineFault (drop at' line) fault → ⊥
  block_and_fault {line} {block} entry entry' {at} {at'} {fault} is is' spells holds =
      let plan = plan_of entry in
      no_block known catalogue_text rules (entry_root entry) reading plan.0 plan.1 (drop at' line) block fault holds
      (block_at_one entry entry' (λ l. BlockLine l block) is is' spells)

  one_answer : (line answer other : List ℕ) (seen seen' : Option Seen) → CaptureLine (of_rules rules reading) line answer seen
      → CaptureLine (of_rules rules reading) line other seen' → SameAnswer answer other seen seen'
  one_answer line answer other seen seen' (captures_block entry at block is spells shows sees) (captures_block entry' at' block' is' spells' shows' sees') =
      let same : entry ≡ entry' = (one_capture known.of_captures is is').0 in
      let one : block ≡ block' = known.of_lines.spells_one (drop at' line) block block'
      (block_at_one entry entry' (λ l. BlockLine l block) is is' spells) spells' in
      let plan = plan_of entry' in
      let here = subst (λ b. ShowsBlock Text (of_rule rules (entry_root entry') reading) b answer) one
      (subst (λ (e : Entry). ShowsBlock Text (of_rule rules (entry_root e) reading) block answer) same shows) in
      let answers : answer ≡ other = one_block known catalogue_text rules (entry_root entry') reading plan.0 plan.1 Text block' answer other here shows' in (
        answers,
        sees ∙ ap (λ e. Some (seen_of e block answer)) same ∙ ap (λ b. Some (seen_of entry' b answer))
            one ∙ ap (λ a. Some (seen_of entry' block' a)) answers ∙ sym sees',
      )
  one_answer line answer other seen seen' (captures_block entry at block is spells shows sees)
      (captures_fault entry' at' fault is' holds e sees') = absurd (block_and_fault entry entry' is is' spells holds)
  one_answer line answer other seen seen' (captures_block entry at block is spells shows sees) (no_capture none e sees') = absurd (none entry at is)
  one_answer line answer other seen seen' (captures_fault entry' at' fault is' holds e sees')
      (captures_block entry at block is spells shows sees) = absurd (block_and_fault entry entry' is is' spells holds)
  one_answer line answer other seen seen' (captures_fault entry at fault is holds e sees) (captures_fault entry' at' fault' is' holds' e' sees') =
      let plan = plan_of entry in
      let one : fault ≡ fault' = one_fault known catalogue_text rules (entry_root entry) reading plan.0 plan.1
      (drop at' line) fault fault' (block_at_one entry entry' (λ l. IsLineFault l fault) is is' holds) holds' in
      (e ∙ ap fault_text one ∙ sym e', sees ∙ sym sees')
  one_answer line answer other seen seen' (captures_fault entry at fault is holds e sees) (no_capture none e' sees') = absurd (none entry at is)
  one_answer line answer other seen seen' (no_capture none e sees) (captures_block entry at block is spells shows sees') = absurd (none entry at is)
  one_answer line answer other seen seen' (no_capture none e sees) (captures_fault entry at fault is holds e' sees') = absurd (none entry at is)
  one_answer line answer other seen seen' (no_capture none e sees) (no_capture none' e' sees') = (e ∙ sym e', sees ∙ sym sees')

  pub one_replays : {before : LineState} {line text other : List ℕ} {after end : LineState}
      → Replays (of_rules rules reading) before line text after → Replays (of_rules rules reading) before line other end → (text ≡ other)
      × (after ≡ end)
  one_replays {before} {line} {after = after} {end} h k =
      let same = one_answer line h.0 k.0 h.1 k.1 h.2 k.2 in
      let texts = ap (λ l. l ++ 10 ∷ reports (done_behind h.1 before.watchers)) same.0
      ∙ ap (λ s. k.0 ++ 10 ∷ reports (done_behind s before.watchers)) same.1 in
      let watchers = h.3.1 ∙ ap (λ s. left_behind s before.watchers) same.1 ∙ sym k.3.1 in
      (h.3.0 ∙ texts ∙ sym k.3.0, same_state after end (h.4 ∙ sym k.4) watchers)

-- a sink that had taken nothing has taken the text that was written
pub reported : (told : Told) (before after : Option (List ℕ)) (text taken : List ℕ)
    → told ≡ Ok → Wrote told before after text → before ≡ Some [] → after ≡ Some taken → taken ≡ text
reported told before after text taken ok (front, rest, split, took, whole) none is =
    let all : Some taken ≡ Some front = sym is ∙ took ∙ ap (option_map (λ l. l ++ front)) none in
    let same : taken ≡ front = cc in
    same ∙ sym (append-nil front) ∙ ap (λ l. front ++ l) (sym (whole ok)) ∙ sym split
