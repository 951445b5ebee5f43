-- Each line has one answer of `show`, and one of `json`: it has a fault, or spells a block, which has a tree or a place.
use Rattle.std.proofs.Common.{◌≡◌, ℕ, ◌≤◌, inl, inr, List, [], ◌++◌, length, codes, Option, Some, None, refl, sym, ◌∙◌, ap, subst}
use Rattle.csn_bits.specs.Line.{BlockLine, fault_of}
use Rattle.csn_bits.specs.Fault.{IsLineFault, fault_for}
use Rattle.csn_bits.specs.declared.fault.BitsFault.{BitsFault}
use Rattle.csn_bits.specs.declared.fault.LineWhy.{LineWhy}
use Rattle.csn_desc.specs.declared.reading.Reading.{Reading}
use Rattle.csn_desc.specs.Formed.{IsDescription}
use Rattle.csn_desc.specs.TreeV.{TreeV}
use Rattle.csn_desc.specs.Nodes.{DescV}
use Rattle.csn_desc.specs.Means.{NMeans}
use Rattle.csn_desc.specs.Follows as desc
use Rattle.csn_grammar.specs.RulesV.{RulesV}
use Rattle.csn_grammar.specs.Shaped.{AreShaped}
use Rattle.csn_grammar.specs.Strings.{Strings, IsPlace}
use Rattle.csn_look.specs.declared.word.TheConstants.{MOST_WORD}
use Rattle.csn_lines.specs.Language.{of_rule}
use Rattle.csn_lines.specs.Known.{Known}
use Rattle.csn_json.specs.Forms.{IsShown}
use Rattle.csn_json.specs.declared.form.TreeForm.{TreeForm}
use Rattle.csn_plan.specs.Compiled.{IsCompiled}
use Rattle.csn_lines.specs.OutLine.{ShowsBlock, ShowsLine, shows_block, shows_tree, shows_place, shows_fault, fault_text, refusal_text}
use Rattle.csn_lines.proofs.FormLemmas.{shown_text, one_shown_text}
use Rattle.csn_lines.proofs.MeantParts.{string_parts}

module _ (known : Known) (text : List ℕ) (rules : RulesV) (name : List ℕ) (reading : Reading) (d : DescV) (is : IsCompiled text name reading rules d) where
  pub shaped : AreShaped rules
  shaped = known.of_rules.shaped text rules is.has_rules

  pub description : IsDescription d
  description = known.of_rules.descriptions rules reading name d shaped is.resolved

  -- the bits have the trees by the rule that they have by its description
  pub string_of : (b : List ℕ) (t : TreeV) → NMeans d 0 0 [] b t → Strings rules name reading b t
  string_of b t h = (known.of_blocks.strings rules reading name d shaped is.resolved b t).1 h

  pub meant_by : (b : List ℕ) (t : TreeV) → Strings rules name reading b t → NMeans d 0 0 [] b t
  meant_by b t h = (known.of_blocks.strings rules reading name d shaped is.resolved b t).0 h

  pub place_of : (b : List ℕ) (place : ℕ) → desc.IsPlace d b place → IsPlace rules name reading b place
  place_of b place h = (known.of_blocks.places rules reading name d shaped is.resolved b place).1 h

  -- bits of any length have one tree
  pub one_tree : (b : List ℕ) (t u : TreeV) → Strings rules name reading b t → Strings rules name reading b u → t ≡ u
  one_tree b t u h g = known.of_blocks.one_tree d MOST_WORD b t u description is.certified (meant_by b t h) (meant_by b u g)

  -- the tree of a block has a text in each form
  pub tree_text : (form : TreeForm) (b : List ℕ) (t : TreeV) → length b ≤ 524288 → Strings rules name reading b t → (written : List ℕ) × IsShown form t written
  tree_text form b t few h =
      shown_text form t (known.of_blocks.fit d b t description (meant_by b t h))
      (string_parts rules reading (known.of_rules.labelled text rules is.has_rules) known.of_blocks.are_bits name b t h few)

  pub no_block : (line block : List ℕ) (fault : BitsFault) → IsLineFault line fault → BlockLine line block → ⊥
  no_block line block fault has spells =
      let none : fault_of line ≡ None = (known.of_lines.fault_or_block line).1 (block, spells) in
      let clash : None ≡ Some has.0 = sym none ∙ has.1 in cc

  pub one_fault : (line : List ℕ) (fault other : BitsFault) → IsLineFault line fault → IsLineFault line other → fault ≡ other
  one_fault line fault other (why, has, e) (what, holds, f) =
      let same : Some why ≡ Some what = sym has ∙ holds in
      let one : why ≡ what = cc in
      e ∙ ap fault_for one ∙ sym f

  module _ (form : TreeForm) where
    -- a block has an answer
    pub each_block : (block : List ℕ) → length block ≤ 524288 → (answer : List ℕ) × ShowsBlock form (of_rule rules name reading) block answer
    each_block block few = elim (known.of_blocks.decided d 0 0 (length d.nodes) [] block description.numbered) [
      | inl tree ↦
          let string = string_of block tree.0 tree.1 in
          let written = tree_text form block tree.0 few string in
          (codes "ok " ++ written.0, shows_tree tree.0 written.0 string written.1 refl)
      | inr none ↦
          let place = known.of_blocks.some_place d block description in
          (refusal_text place.0 block, shows_place place.0 (λ t string. none (t, meant_by block t string)) (place_of block place.0 place.1) refl)
    ]

    line_answer : (line : List ℕ) (fault : Option LineWhy) → fault_of line ≡ fault → (answer : List ℕ)
        × ShowsLine form (of_rule rules name reading) line answer
    line_answer line None none =
        let block = (known.of_lines.fault_or_block line).0 none in
        let answer = each_block block.0 block.1.few in
        (answer.0, shows_block block.0 block.1 answer.1)
    line_answer line (Some why) has = (fault_text (fault_for why), shows_fault (fault_for why) (why, has, refl) refl)

    pub each_shown : (line : List ℕ) → (answer : List ℕ) × ShowsLine form (of_rule rules name reading) line answer
    each_shown line = line_answer line (fault_of line) refl

    -- ---- and no other

    pub one_block : (block answer other : List ℕ) → ShowsBlock form (of_rule rules name reading) block answer
        → ShowsBlock form (of_rule rules name reading) block other → answer ≡ other
    one_block block answer other (shows_tree t written means has e) (shows_tree t' written' means' has' e') =
        let tree : t ≡ t' = one_tree block t t' means means' in
        let texts : written ≡ written' = one_shown_text form t t' written written' tree has has' in
        e ∙ ap (λ l. codes "ok " ++ l) texts ∙ sym e'
    one_block block answer other (shows_tree t written means has e) (shows_place place none at e') = absurd (none t means)
    one_block block answer other (shows_place place none at e') (shows_tree t written means has e) = absurd (none t means)
    one_block block answer other (shows_place place none at e) (shows_place place' none' at' e') =
        let places : place ≡ place' = known.of_blocks.one_place rules reading name block place place' at at' in
        e ∙ ap (λ p. refusal_text p block) places ∙ sym e'

    pub one_shown : (line answer other : List ℕ) → ShowsLine form (of_rule rules name reading) line answer
        → ShowsLine form (of_rule rules name reading) line other → answer ≡ other
    one_shown line answer other (shows_block block spells shown) (shows_block block' spells' shown') =
        let same : block ≡ block' = known.of_lines.spells_one line block block' spells spells' in
        one_block block' answer other (subst (λ b. ShowsBlock form (of_rule rules name reading) b answer) same shown) shown'
    one_shown line answer other (shows_block block spells shown) (shows_fault fault holds e') = absurd (no_block line block fault holds spells)
    one_shown line answer other (shows_fault fault holds e) (shows_block block spells shown) = absurd (no_block line block fault holds spells)
    one_shown line answer other (shows_fault fault holds e) (shows_fault fault' holds' e') = e
        ∙ ap fault_text (one_fault line fault fault' holds holds') ∙ sym e'
