-- Each line has one answer of `write`, and one of `unjson`: it is a tree, which has a block or a misfit, or it is none.
use Rattle.std.proofs.Common.{◌≡◌, ℕ, ◌≤◌, inl, inr, List, [], ◌++◌, length, codes, refl, sym, ◌∙◌, ap, subst, arith}
use Rattle.csn_bits.specs.Octets.{most_bits}
use Rattle.csn_bits.specs.Line.{written}
use Rattle.csn_desc.specs.declared.reading.Reading.{Reading}
use Rattle.csn_desc.specs.TreeV.{TreeV}
use Rattle.csn_desc.specs.Nodes.{DescV}
use Rattle.csn_grammar.specs.RulesV.{RulesV}
use Rattle.csn_grammar.specs.Strings.{Strings}
use Rattle.csn_encode.specs.declared.misfit.MisfitWhy.{MisfitWhy}
use Rattle.csn_encode.specs.Misfits.{IsMisfit}
use Rattle.csn_encode.specs.Encoding.{HasNoBlock}
use Rattle.csn_lines.specs.Language.{Misses, of_rule}
use Rattle.csn_lines.specs.Known.{Known}
use Rattle.csn_json.specs.declared.form.TreeForm.{TreeForm}
use Rattle.csn_plan.specs.Compiled.{IsCompiled}
use Rattle.csn_lines.specs.OutLine.{IsRead, WritesLine, writes_block, writes_misfit, writes_bad, misfit_text}
use Rattle.csn_lines.proofs.FormLemmas.{read_parts, read_or_not, one_read, not_unread, one_unread}
use Rattle.csn_lines.proofs.ShownLines.{description, string_of, meant_by}

module _ (known : Known) (text : List ℕ) (rules : RulesV) (name : List ℕ) (reading : Reading) (d : DescV) (is : IsCompiled text name reading rules d) where
  -- a tree that no block has by the description has none by the rule
  pub no_block_of : (t : TreeV) → HasNoBlock d t → (b : List ℕ) → length b ≤ most_bits → Strings rules name reading b t → ⊥
  no_block_of t none b few string = none b (record { means = meant_by known text rules name reading d is b t string; within = few })

  missed : (t : TreeV) (path : List ℕ) (why : MisfitWhy) → IsMisfit d t path why → HasNoBlock d t
  missed t path why misfit b block = let few = block.within in known.of_misfits.no_bits d 0 0 [] t path why b misfit block.means (omega (arith, few))

  module _ (form : TreeForm) where
    abbrev HasAnswer : List ℕ → Type 0
    HasAnswer line = (answer : List ℕ) × WritesLine form (of_rule rules name reading) line answer

    tree_answer : (line : List ℕ) (t : TreeV) → IsRead form t line → HasAnswer line
    tree_answer line t spells =
        elim (known.of_misfits.fit_or_miss d t (description known text rules name reading d is) is.certified
        (read_parts form t line spells)) [
          | inl block ↦ (
            codes "ok " ++ written block.0,
            writes_block t block.0 spells block.1.within
                (string_of known text rules name reading d is block.0 t block.1.means) refl,
          )
          | inr misfit ↦ (
            misfit_text misfit.0 misfit.1,
            writes_misfit t misfit.0 misfit.1 spells
                (no_block_of t (missed t misfit.0 misfit.1 misfit.2)) (d, is.resolved, misfit.2) refl,
          )
        ]

    pub each_written : (line : List ℕ) → HasAnswer line
    each_written line = elim (read_or_not known form line) [
      | inl tree ↦ tree_answer line tree.0 tree.1
      | inr bad ↦ (bad.0, writes_bad bad.1)
    ]

    -- ---- and no other

    -- the bits that have the tree of a line are one block
    one_block : (line b c : List ℕ) (t u : TreeV) → IsRead form t line → IsRead form u line
        → Strings rules name reading b t → Strings rules name reading c u → b ≡ c
    one_block line b c t u spells spelled has holds =
        let same : t ≡ u = one_read known form t u line spells spelled in
        let here : Strings rules name reading b u = subst (λ x. Strings rules name reading b x) same has in
        known.of_misfits.one_block d 0 0 [] b c u (meant_by known text rules name reading d is b u here)
        (meant_by known text rules name reading d is c u holds)

    block_or_misfit :
        (line b : List ℕ) (t u : TreeV) → IsRead form t line → IsRead form u line → length b ≤ most_bits → Strings rules name reading b t
        → ((c : List ℕ) → length c ≤ most_bits → Strings rules name reading c u → ⊥) → ⊥
    block_or_misfit line b t u spells spelled few has none =
        let same : t ≡ u = one_read known form t u line spells spelled in
        none b few (subst (λ x. Strings rules name reading b x) same has)

    one_misfit :
        (line : List ℕ) (t u : TreeV) (path other : List ℕ) (why because : MisfitWhy)
        → IsRead form t line → IsRead form u line → Misses (of_rule rules name reading) t path why
        → Misses (of_rule rules name reading) u other because → (path ≡ other) × (why ≡ because)
    one_misfit line t u path other why because spells spelled first another =
        let trees : t ≡ u = one_read known form t u line spells spelled in
        let descs : first.0 ≡ another.0 = known.of_rules.resolved_once rules reading name first.0 another.0 first.1 another.1 in
        let P : DescV → Type 0 = λ x. IsMisfit x t path why in
        let Q : TreeV → Type 0 = λ x. IsMisfit another.0 x path why in
        known.of_misfits.one_misfit another.0 0 0 [] u path other why because (subst Q trees (subst P descs first.2)) another.2

    pub one_written : (line answer other : List ℕ) → WritesLine form (of_rule rules name reading) line answer
        → WritesLine form (of_rule rules name reading) line other → answer ≡ other
    one_written line answer other (writes_block t b spells few has e) (writes_block u c spelled few' holds e') =
        e ∙ ap (λ l. codes "ok " ++ written l) (one_block line b c t u spells spelled has holds) ∙ sym e'
    one_written line answer other (writes_block t b spells few has e)
        (writes_misfit u path why spelled none misses e') =
        absurd (block_or_misfit line b t u spells spelled few has none)
    one_written line answer other (writes_block t b spells few has e) (writes_bad bad) = absurd (not_unread known form t line other spells bad)
    one_written line answer other (writes_misfit u path why spelled none misses e')
        (writes_block t b spells few has e) = absurd (block_or_misfit line b t u spells spelled few has none)
    one_written line answer other (writes_misfit t path why spells none first e) (writes_misfit u path' why' spelled none' another e') =
        let same = one_misfit line t u path path' why why' spells spelled first another in
        e ∙ ap (λ p. misfit_text p why) same.0 ∙ ap (λ w. misfit_text path' w) same.1 ∙ sym e'
    one_written line answer other (writes_misfit u path why spelled none misses e') (writes_bad bad) =
        absurd (not_unread known form u line other spelled bad)
    one_written line answer other (writes_bad bad) (writes_block t b spells few has e) = absurd (not_unread known form t line answer spells bad)
    one_written line answer other (writes_bad bad) (writes_misfit u path why spelled none misses e') =
        absurd (not_unread known form u line answer spelled bad)
    one_written line answer other (writes_bad bad) (writes_bad worse) = one_unread known form line answer other bad worse
