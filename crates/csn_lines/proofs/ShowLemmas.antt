-- What `show` answers to blocks, and answers that refuse their line.
use Rattle.std.proofs.Common.{◌≡◌, ◌++◌, true, List, ℕ, Option, Some, None, codes, refl, subst, sym}
use Rattle.csn_bits.specs.Fault.{IsLineFault, fault_for}
use Rattle.csn_bits.specs.declared.fault.BitsFault.{BitsFault}
use Rattle.csn_bits.specs.declared.fault.LineWhy.{LineWhy}
use Rattle.csn_bits.specs.declared.fault.LineWhy.TheVariants.{BadDigit, BadLength, BadFill, TooManyBits}
use Rattle.csn_desc.specs.Nodes.{DescV}
use Rattle.csn_json.specs.declared.form.TreeForm.{TreeForm}
use Rattle.csn_judge.specs.Following.{IsNoString}
use Rattle.csn_movetext.specs.Blocks.{IsTextOfBlock}
use Rattle.csn_lines.specs.Language.{Language, of_plan}
use Rattle.csn_lines.specs.Lines.{is_refusal}
use Rattle.csn_lines.specs.OutLine.{ShowsAs, ShowsBlock, ShowsLine, fault_text, refusal_text, shows_block, shows_fault, shows_tree, shows_place}

each_refuses : (why : LineWhy) → true ≡ is_refusal (fault_text (fault_for why))
each_refuses (BadDigit column) = refl
each_refuses BadLength = refl
each_refuses BadFill = refl
each_refuses TooManyBits = refl

-- the answer to a line that is no block line refuses it
pub fault_refuses : (line : List ℕ) (fault : BitsFault) → IsLineFault line fault → true ≡ is_refusal (fault_text fault)
fault_refuses line fault h = subst (λ f. true ≡ is_refusal (fault_text f)) (sym h.2) (each_refuses h.0)

-- a block that has a tree is answered by its text, and one that has none by its place
module _ (form : TreeForm) (d : DescV) (block : List ℕ) where
  pub text_shown : (text : List ℕ) → IsTextOfBlock form d block text → ShowsBlock form (of_plan d) block (codes "ok " ++ text)
  text_shown text is = shows_tree is.tree text is.means is.spelled refl

  pub place_shown : (place : ℕ) → IsNoString d block place → ShowsBlock form (of_plan d) block (refusal_text place block)
  place_shown place is = shows_place place is.no_tree is.place_is refl

-- a line is answered as its block is, or by its fault
pub answers_as : (form : TreeForm) (language : Language) (line answer : List ℕ) (bits : Option ℕ)
    → ShowsAs form language line answer bits → ShowsLine form language line answer
answers_as form language line answer (Some bits) (block, spells, count, shows) = shows_block block spells shows
answers_as form language line answer None (fault, is, text) = shows_fault fault is text
