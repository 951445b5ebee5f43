-- Each line is a line of a capture for one entry, or for none.
use Rattle.std.proofs.Common.{◌≡◌, ℕ, ◌+◌, eqb, ◌⊎◌, inl, inr, List, [], ◌∷◌, ◌++◌, length, refl, sym, ◌∙◌, arith}
use Rattle.std.specs.Prelude.{⊤}
use Rattle.std.proofs.lemmas.Bool.{cases_Bool}
use Rattle.csn_catalogue.specs.declared.entry.Entry.{Entry}
use Rattle.csn_catalogue.specs.declared.entry.Entry.TheVariants.{Uplink, Downlink, Si1, Si3, Si4, Si13, Ia}
use Rattle.csn_catalogue.specs.Entries.{entry_word}
use Rattle.csn_replay.specs.Capture.{IsCapture}
use Rattle.csn_replay.specs.Laws.{HeadsTellCaptures}
use Rattle.csn_replay.specs.declared.head.CaptureHead.TheVariants.{Block}
use Rattle.csn_replay.proofs.Captures.{each_entry}

-- ---- an entry or none

abbrev Begins : List ℕ → List ℕ → Type 0
Begins word line = (rest : List ℕ) × (line ≡ word ++ 32 ∷ rest)

-- a list begins with another and a space, or does not
begins_or_not : (word line : List ℕ) → Begins word line ⊎ (Begins word line → ⊥)
begins_or_not [] [] = inr (λ b. let clash : [] ≡ 32 ∷ b.0 = b.1 in cc)
begins_or_not [] (x ∷ line) = elim (cases_Bool (eqb x 32)) [
  | inl same ↦ inl (line, (let is : x ≡ 32 = grind arith in cc))
  | inr other ↦ inr (λ b. let is : x ≡ 32 = (let all : x ∷ line ≡ 32 ∷ b.0 = b.1 in cc) in (let no : x ≡ 32 → ⊥ = grind arith in no is))
]
begins_or_not (w ∷ word) [] = inr (λ b. let clash : [] ≡ w ∷ (word ++ 32 ∷ b.0) = b.1 in cc)
begins_or_not (w ∷ word) (x ∷ line) = elim (cases_Bool (eqb x w)) [
  | inl same ↦ one_more (let is : x ≡ w = grind arith in is) (begins_or_not word line)
  | inr other ↦ inr (λ b. let is : x ≡ w = (let all : x ∷ line ≡ w ∷ (word ++ 32 ∷ b.0) = b.1 in cc) in (let no : x ≡ w → ⊥ = grind arith in no is))
]
  where
    one_more : x ≡ w → Begins word line ⊎ (Begins word line → ⊥) → Begins (w ∷ word) (x ∷ line) ⊎ (Begins (w ∷ word) (x ∷ line) → ⊥)
    one_more is (inl b) = inl (b.0, (let rest : line ≡ word ++ 32 ∷ b.0 = b.1 in cc))
    one_more is (inr none) = inr (λ b. none (b.0, (let all : x ∷ line ≡ w ∷ (word ++ 32 ∷ b.0) = b.1 in cc)))

abbrev HasEntry : List ℕ → Type 0
HasEntry line = (entry : Entry) × Begins (entry_word entry) line

-- one of some entries begins the line, or none does; and so with one entry more
or_else : (line : List ℕ) (entry : Entry) {Others : Type 0} → HasEntry line ⊎ Others → HasEntry line ⊎ ((Begins (entry_word entry) line → ⊥) × Others)
or_else line entry others = elim (begins_or_not (entry_word entry) line) [
  | inl is ↦ inl (entry, is)
  | inr not ↦ elim others [ inl has ↦ inl has | inr none ↦ inr (not, none) ]
]

entry_or_none : (line : List ℕ) → HasEntry line ⊎ ((entry : Entry) → Begins (entry_word entry) line → ⊥)
entry_or_none line =
    elim (or_else line Uplink
    (or_else line Downlink
    (or_else line Si1
    (or_else line Si3 (or_else line Si4 (or_else line Si13 (or_else line Ia {Others = ⊤} (inr tt)))))))) [
      | inl has ↦ inl has
      | inr (a, (b, (c, (d, (e, (f, (g, rest))))))) ↦ inr (each_entry (λ entry. Begins (entry_word entry) line → ⊥) a b c d e f g)
    ]

pub capture_or_none : (line : List ℕ) → ((entry : Entry) × (at : ℕ) × IsCapture line entry at) ⊎ ((entry : Entry) (at : ℕ) → IsCapture line entry at → ⊥)
capture_or_none line = elim (entry_or_none line) [
  | inl has ↦ inl (has.0, length (entry_word has.0) + 1, (has.1.0, has.1.1, refl))
  | inr none ↦ inr (λ entry at is. none entry (is.0, is.1))
]

-- ---- and no other

pub one_capture : HeadsTellCaptures → {line : List ℕ} {entry other : Entry} {at at' : ℕ}
    → IsCapture line entry at → IsCapture line other at' → (entry ≡ other) × (at ≡ at')
one_capture tells {line} {entry} {other} {at} is has =
    let same = (tells (Block other) line (has.0, has.1)).only entry at is in (same.0, same.1 ∙ sym has.2)
