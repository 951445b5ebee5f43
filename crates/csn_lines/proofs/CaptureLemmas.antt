-- How the open line of a capture is taken: its head, and of its block what the writers of the entries have taken.
use Rattle.std.proofs.Common.{◌≡◌, ◌≢◌, ℕ, zero, suc, ◌+◌, ◌<◌, ◌≤◌, Result, Ok, Err, Bool, eqb, true, false, ◌⊎◌}
use Rattle.std.proofs.Common.{inl, inr, List, [], ◌∷◌, ◌++◌, length, drop, take, set, map, not, Option, Some, None}
use Rattle.std.proofs.Common.{get_or, slice_get, codes, refl, sym, ap, subst, ◌∙◌, arith, append_assoc}
use Rattle.std.specs.Option.{option_map}
use Rattle.std.specs.Prelude.{if◌then◌else◌}
use Rattle.std.specs.Result.{is_err, is_ok}
use Rattle.std.proofs.Math.Seq.{take-suc}
use Rattle.std.proofs.lemmas.Bool.{cases_Bool}
use Rattle.std.proofs.lemmas.List.{length-drop, length-set, map-append}
use Rattle.std.proofs.lemmas.Option.{slice_get_read}
use Rattle.csn_catalogue.specs.declared.entry.Entry.{Entry}
use Rattle.csn_catalogue.specs.Entries.{entry_place, entry_word}
use Rattle.csn_desc.specs.Nodes.{DescV}
use Rattle.csn_json.specs.declared.form.TreeForm.TheVariants.{Text}
use Rattle.csn_movetext.specs.Lines.{LineV, ReadsLine}
use Rattle.csn_replay.specs.Head.{HeadOf, block_so_far}
use Rattle.csn_replay.specs.Laws.{HeadsTellCaptures, IsOnlyCapture}
use Rattle.csn_replay.specs.declared.head.CaptureHead.{CaptureHead}
use Rattle.csn_replay.specs.declared.head.CaptureHead.TheVariants.{Word, Block, Missing}
use Rattle.csn_lines.specs.declared.lines.Answered.{Answered}
use Rattle.csn_lines.specs.Lines.{is_refusal, is_refused}
use Rattle.csn_lines.specs.Language.{Language, of_plan, of_plans}
use Rattle.csn_lines.specs.OutLine.{CaptureLine, ShowsAs, ShowsBlock, captures_block, captures_fault, no_capture}
use Rattle.csn_lines.specs.Replaying.{AreFresh, AreTexts, ReadsCapture, desc_of, taken_at}

eqb_self : (n : ℕ) → eqb n n ≡ true
eqb_self n = grind arith

eqb_other : (m n : ℕ) → m ≢ n → eqb m n ≡ false
eqb_other m n other = grind arith

-- ---- writers

-- one of a list has changed
at_set : {X : Type 0} (xs : List X) (at i : ℕ) (y x : X) → slice_get (set xs at y) i ≡ Some x
    → ((i ≡ at) × (y ≡ x)) ⊎ ((i ≢ at) × (slice_get xs i ≡ Some x))
at_set [] at i y x is = absurd (cc)
at_set (z ∷ xs) zero zero y x is = inl (refl, cc)
at_set (z ∷ xs) zero (suc i) y x is = inr (λ same. cc, is)
at_set (z ∷ xs) (suc at) zero y x is = inr (λ same. cc, is)
at_set (z ∷ xs) (suc at) (suc i) y x is = one_more (at_set xs at i y x is)
  where
    one_more : ((i ≡ at) × (y ≡ x)) ⊎ ((i ≢ at) × (slice_get xs i ≡ Some x)) → ((suc i ≡ suc at) × (y ≡ x)) ⊎ ((suc i ≢ suc at) × (slice_get xs i ≡ Some x))
    one_more (inl here) = inl (ap suc here.0, here.1)
    one_more (inr other) = inr (λ same. other.0 (omega (arith, same)), other.1)

-- one more stands behind others
at_push : {X : Type 0} (xs : List X) (y x : X) (i : ℕ) → slice_get (xs ++ y ∷ []) i ≡ Some x → (slice_get xs i ≡ Some x) ⊎ (y ≡ x)
at_push [] y x zero is = inr (cc)
at_push [] y x (suc i) is = absurd (cc)
at_push (z ∷ xs) y x zero is = inl is
at_push (z ∷ xs) y x (suc i) is = at_push xs y x i is

nothing_at : {X : Type 0} (i : ℕ) (x : X) → slice_get [] i ≡ Some x → ⊥
nothing_at zero x is = cc
nothing_at (suc i) x is = cc

pub texts_nil : AreTexts []
texts_nil place x is = absurd (nothing_at place x is)

pub fresh_nil : AreFresh []
fresh_nil place x is = absurd (nothing_at place x is)

-- the descriptions of the first ones
pub descs_push : (writers : List LineV) (writer : LineV) (plans : List DescV) (count : ℕ) (plan : DescV)
    → map desc_of writers ≡ take count plans → count < length plans
    → plan ≡ get_or plans count plan → writer.desc ≡ plan → map desc_of (writers ++ writer ∷ []) ≡ take (count + 1) plans
descs_push writers writer plans count plan before within is same =
    let next : count + 1 ≡ suc count = omega arith in
    map-append desc_of writers (writer ∷ [])
    ∙ ap (λ (l : List DescV). l ++ writer.desc ∷ []) before
    ∙ ap (λ (d : DescV). take count plans ++ d ∷ []) (same ∙ is)
    ∙ sym (take-suc plans count plan within)
    ∙ ap (λ (n : ℕ). take n plans) (sym next)

pub texts_push : (writers : List LineV) (writer : LineV) → AreTexts writers → writer.form ≡ Text → AreTexts (writers ++ writer ∷ [])
texts_push writers writer are is place x here = elim (at_push writers writer x place here) [
  | inl before ↦ are place x before
  | inr last ↦ subst (λ (w : LineV). w.form ≡ Text) last is
]

pub fresh_push : (writers : List LineV) (writer : LineV) → AreFresh writers → ReadsLine writer [] → AreFresh (writers ++ writer ∷ [])
fresh_push writers writer are is place x here = elim (at_push writers writer x place here) [
  | inl before ↦ are place x before
  | inr last ↦ subst (λ (w : LineV). ReadsLine w []) last is
]

-- a writer writes on by the same description and in the same form
pub texts_set : (writers : List LineV) (at : ℕ) (new : LineV) → AreTexts writers → new.form ≡ Text → AreTexts (set writers at new)
texts_set writers at new are is place x here = elim (at_set writers at place new x here) [
  | inl changed ↦ subst (λ (w : LineV). w.form ≡ Text) changed.1 is
  | inr other ↦ are place x other.1
]

pub descs_set : (writers : List LineV) (at : ℕ) (old new : LineV) → slice_get writers at ≡ Some old
    → new.desc ≡ old.desc → map desc_of (set writers at new) ≡ map desc_of writers
descs_set [] at old new is same = absurd (cc)
descs_set (w ∷ writers) zero old new is same =
    let here : w ≡ old = cc in ap (λ (d : DescV). d ∷ map desc_of writers) (same ∙ ap desc_of (sym here))
descs_set (w ∷ writers) (suc at) old new is same = ap (λ (l : List DescV). w.desc ∷ l) (descs_set writers at old new is same)

-- ---- what writers have taken

drop_nothing : (n : ℕ) (l : List ℕ) → l ≡ [] → drop n l ≡ []
drop_nothing zero l is = is
drop_nothing (suc n) [] is = refl
drop_nothing (suc n) (x ∷ l) is = absurd (cc)

block_nil : (head : CaptureHead) → block_so_far head [] ≡ []
block_nil (Word word) = refl
block_nil (Block entry) = drop_nothing (length (entry_word entry) + 1) [] refl
block_nil Missing = refl

taken_none : (head : CaptureHead) (line : List ℕ) (place : ℕ) → block_so_far head line ≡ [] → taken_at head line place ≡ []
taken_none (Word word) line place none = refl
taken_none (Block entry) line place none = elim (cases_Bool (eqb place (entry_place entry))) [
  | inl here ↦ rw here none
  | inr other ↦ rw other refl
]
taken_none Missing line place none = refl

-- the writer of the entry, and how much any has taken
pub taken_by : (entry : Entry) (line : List ℕ) → taken_at (Block entry) line (entry_place entry) ≡ block_so_far (Block entry) line
taken_by entry line = rw (eqb_self (entry_place entry)) refl

pub taken_few : (head : CaptureHead) (line : List ℕ) (place : ℕ) → length (taken_at head line place) ≤ length line
taken_few (Word word) line place = omega arith
taken_few (Block entry) line place = elim (cases_Bool (eqb place (entry_place entry))) [
  | inl here ↦ rw here (omega (arith, length-drop (length (entry_word entry) + 1) line))
  | inr other ↦ rw other (omega arith)
]
taken_few Missing line place = omega arith

-- a writer that was read out
pub writer_at : (writers : List LineV) (place : ℕ) (writer : LineV)
    → place < length writers → writer ≡ get_or writers place writer → slice_get writers place ≡ Some writer
writer_at writers place writer within is = slice_get_read writers (length writers) place writer refl within is

-- where one of the seven writers was read out and writes on in the same form, they are seven, and write texts
pub seven_texts : (writers : List LineV) (place : ℕ) (old new : LineV) → length writers ≡ 7 → place < 7
    → old ≡ get_or writers place old → new.form ≡ old.form → AreTexts writers → (length (set writers place new) ≡ 7)
    × AreTexts (set writers place new)
seven_texts writers place old new seven within is same are = (
  length-set writers place new ∙ seven,
  texts_set writers place new are
      (same ∙ are place old (writer_at writers place old (omega (arith, within, seven)) is)),
)

-- where it writes on by the same description, the descriptions are those that they had
pub same_descs : (writers : List LineV) (place : ℕ) (old new : LineV) → length writers ≡ 7 → place < 7
    → old ≡ get_or writers place old → new.desc ≡ old.desc → map desc_of (set writers place new) ≡ map desc_of writers
same_descs writers place old new seven within is same =
    descs_set writers place old new (writer_at writers place old (omega (arith, within, seven)) is) same

-- a line begins with one entry
module _ (tells : HeadsTellCaptures) (line more : List ℕ) (entry : Entry) (head : HeadOf (Block entry) (line ++ more)) where
  same_entry : (before : Entry) → HeadOf (Block before) line → before ≡ entry
  same_entry before (block, is) =
      let longer : line ++ more ≡ entry_word before ++ 32 ∷ (block ++ more) = ap (λ (l : List ℕ). l ++ more) is
      ∙ append_assoc (entry_word before) (32 ∷ block) more in
      ((tells (Block entry) (line ++ more) head).only before (length (entry_word before) + 1) (block ++ more, longer, refl)).0

  taken_here : (before : CaptureHead) → HeadOf before line → taken_at before line (entry_place entry) ≡ block_so_far before line
  taken_here (Word word) is = refl
  taken_here (Block e) is =
      let same : eqb (entry_place entry) (entry_place e) ≡ true = rw (same_entry e is) (eqb_self (entry_place entry)) in
      rw same refl
  taken_here Missing is = refl

  taken_there : (before : CaptureHead) → HeadOf before line → (place : ℕ) → place ≢ entry_place entry → taken_at before line place ≡ []
  taken_there (Word word) is place other = refl
  taken_there (Block e) is place other =
      let no : eqb place (entry_place e) ≡ false = rw (same_entry e is) (eqb_other place (entry_place entry) other) in
      rw no refl
  taken_there Missing is place other = refl

  now_here : taken_at (Block entry) (line ++ more) (entry_place entry) ≡ block_so_far (Block entry) (line ++ more)
  now_here = rw (eqb_self (entry_place entry)) refl

  now_there : (place : ℕ) → place ≢ entry_place entry → taken_at (Block entry) (line ++ more) place ≡ []
  now_there place other = rw (eqb_other place (entry_place entry) other) refl

  -- the writer of the entry takes what is of the block
  pub block_goes_on : (writers : List LineV) (before : CaptureHead) (of_block : List ℕ) (old new : LineV) → ReadsCapture writers before line
      → block_so_far (Block entry) (line ++ more) ≡ block_so_far before line ++ of_block → slice_get writers (entry_place entry) ≡ Some old
      → ((l : List ℕ) → ReadsLine old l → ReadsLine new (l ++ of_block))
      → ReadsCapture (set writers (entry_place entry) new) (Block entry) (line ++ more)
  block_goes_on writers before of_block old new reads block here takes = record {
    head_is = head;
    each = λ place writer is. elim (at_set writers (entry_place entry) place new writer is) [
      | inl changed ↦
          let took = takes (block_so_far before line) (subst (λ (l : List ℕ). ReadsLine old l)
          (taken_here before reads.head_is) (reads.each (entry_place entry) old here)) in
          let now = subst (λ (l : List ℕ). ReadsLine new l) (sym block ∙ sym now_here) took in
          subst (λ (w : LineV). ReadsLine w (taken_at (Block entry) (line ++ more) place)) changed.1
          (subst (λ (n : ℕ). ReadsLine new (taken_at (Block entry) (line ++ more) n)) (sym changed.0) now)
      | inr other ↦
          subst (λ (l : List ℕ). ReadsLine writer l) (taken_there before reads.head_is place other.0 ∙ sym
          (now_there place other.0)) (reads.each place writer other.1)
    ];
  }

-- no byte is of a block
no_bytes : (a b : List ℕ) → [] ≡ a ++ b → a ≡ []
no_bytes [] b is = refl
no_bytes (x ∷ a) b is = absurd (cc)

reads_as : (writers : List LineV) (before after : CaptureHead) (line now : List ℕ) → ReadsCapture writers before line → HeadOf after now
    → block_so_far before line ≡ [] → block_so_far after now ≡ [] → ReadsCapture writers after now
reads_as writers before after line now reads head none still = record {
  head_is = head;
  each = λ place writer is.
      subst (λ (l : List ℕ). ReadsLine writer l) (taken_none before line place none ∙ sym (taken_none after now place still)) (reads.each place writer is);
}

pub head_goes_on : (writers : List LineV) (before after : CaptureHead) (line bytes behind : List ℕ)
    → ReadsCapture writers before line → HeadOf after (line ++ bytes)
    → block_so_far after (line ++ bytes) ≡ block_so_far before line ++ behind
    → ((entry : Entry) → after ≡ Block entry → ⊥) → ReadsCapture writers after (line ++ bytes)
head_goes_on writers before (Word word) line bytes behind reads head block not_block =
    reads_as writers before (Word word) line (line ++ bytes) reads head
    (no_bytes (block_so_far before line) behind block) refl
head_goes_on writers before (Block entry) line bytes behind reads head block not_block = absurd (not_block entry refl)
head_goes_on writers before Missing line bytes behind reads head block not_block =
    reads_as writers before Missing line (line ++ bytes) reads head (no_bytes (block_so_far before line) behind block)
    refl

-- ---- the next line

pub begins_fresh : (writers : List LineV) (head : CaptureHead) → AreFresh writers → HeadOf head [] → ReadsCapture writers head []
begins_fresh writers head fresh is = record {
  head_is = is;
  each = λ place writer here. subst (λ (l : List ℕ). ReadsLine writer l) (sym (taken_none head [] place (block_nil head))) (fresh place writer here);
}

pub begins_behind : (writers : List LineV) (entry : Entry) (line : List ℕ) (head : CaptureHead) (new : LineV)
    → ReadsCapture writers (Block entry) line → HeadOf head []
    → ReadsLine new [] → ReadsCapture (set writers (entry_place entry) new) head []
begins_behind writers entry line head new reads is anew = begins_fresh (set writers (entry_place entry) new) head
    (λ place writer here. elim (at_set writers (entry_place entry) place new writer here) [
      | inl changed ↦ subst (λ (w : LineV). ReadsLine w []) changed.1 anew
      | inr other ↦
          let none : taken_at (Block entry) line place ≡ [] = rw (eqb_other place (entry_place entry) other.0) refl in
          subst (λ (l : List ℕ). ReadsLine writer l) none (reads.each place writer other.1)
    ]) is

pub begins_after : (writers : List LineV) (before head : CaptureHead) (line : List ℕ)
    → ReadsCapture writers before line → ((entry : Entry) → before ≡ Block entry → ⊥) → HeadOf head []
    → ReadsCapture writers head []
begins_after writers (Word word) head line reads not_block is = reads_as writers (Word word) head line [] reads is refl (block_nil head)
begins_after writers (Block entry) head line reads not_block is = absurd (not_block entry refl)
begins_after writers Missing head line reads not_block is = reads_as writers Missing head line [] reads is refl (block_nil head)

-- ---- what a line is answered

-- where it is of no entry
pub answers_none : HeadsTellCaptures → (languages : Entry → Language) (head : CaptureHead) (line : List ℕ)
    → HeadOf head line → ((entry : Entry) → head ≡ Block entry → ⊥)
    → CaptureLine languages line (codes "bad 5") None
answers_none tells languages (Word word) line is not_block = no_capture (tells (Word word) line is) refl refl
answers_none tells languages (Block entry) line is not_block = absurd (not_block entry refl)
answers_none tells languages Missing line is not_block = no_capture (tells Missing line is) refl refl

desc_at : (writers : List LineV) (place : ℕ) (writer : LineV) (default : DescV)
    → slice_get writers place ≡ Some writer → get_or (map desc_of writers) place default ≡ writer.desc
desc_at [] place writer default is = absurd (cc)
desc_at (w ∷ writers) zero writer default is = (let here : w ≡ writer = cc in ap desc_of here)
desc_at (w ∷ writers) (suc place) writer default is = desc_at writers place writer default is

-- by the description of its entry
pub answers_block : (writers : List LineV) (entry : Entry) (writer : LineV) (line answer : List ℕ) (bits : Option ℕ)
    (answered : Answered) → slice_get writers (entry_place entry) ≡ Some writer
    → IsOnlyCapture line entry (length (entry_word entry) + 1)
    → ShowsAs Text (of_plan writer.desc) (block_so_far (Block entry) line) answer bits
    → is_refused answered ≡ is_refusal answer
    → CaptureLine (of_plans (map desc_of writers)) line answer (option_map (λ n. record { entry = entry; bits = n; ok = not (is_refused answered) }) bits)
answers_block writers entry writer line answer (Some n) answered here capture (block, spells, count, shows) refused =
    captures_block entry (length (entry_word entry) + 1) block capture.capture spells
    (subst (λ (d : DescV). ShowsBlock Text (of_plan d) block answer) (sym (desc_at writers (entry_place entry) writer _ here)) shows)
    (ap (λ (n : ℕ). Some (record { entry = entry; bits = n; ok = not (is_refused answered) })) count ∙ ap
    (λ (b : Bool). Some (record { entry = entry; bits = length block; ok = not b })) refused)
answers_block writers entry writer line answer None answered here capture (fault, is, text) refused =
    captures_fault entry (length (entry_word entry) + 1) fault capture.capture is text refl

-- what was pushed where there was no error
pub pushed : {A B X : Type 0} (r : Result A B) (new more same : List X) → new ≡ (if is_ok r then more else same) → is_err r ≡ false → new ≡ more
pushed (Ok x) new more same is e = is
pushed (Err x) new more same is e = absurd (let clash : true ≡ false = e in cc)
