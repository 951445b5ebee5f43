-- Trees in the two forms.
use Rattle.std.proofs.Common.{◌≡◌, ℕ, ◌⊎◌, inl, inr, true, List, ◌++◌, Some, codes, slice_get, refl, sym, ◌∙◌, ap, subst}
use Rattle.std.specs.Fmt.{decimal}
use Rattle.csn_desc.specs.declared.node.Node.TheVariants.{Named}
use Rattle.csn_desc.specs.Formed.{IsDescription}
use Rattle.csn_desc.specs.Label.{IsLabel}
use Rattle.csn_desc.specs.Nodes.{DescV}
use Rattle.csn_desc.specs.TreeV.{TreeV}
use Rattle.csn_desc.specs.TreeParts.{HasTreeParts}
use Rattle.csn_treetext.specs.declared.version.Version.TheVariants.{Second}
use Rattle.csn_treetext.specs.Fits.{Fits}
use Rattle.csn_encode.specs.Encoding.{IsBlockOf}
use Rattle.csn_json.specs.declared.fault.JsonFault.TheVariants.{NotJson, NotTree}
use Rattle.csn_json.specs.Forms.{IsShown, text_in}
use Rattle.csn_json.specs.declared.form.TreeForm.{TreeForm}
use Rattle.csn_json.specs.declared.form.TreeForm.TheVariants.{Text, Json}
use Rattle.csn_lines.specs.Known.{Known}
use Rattle.csn_lines.specs.Lines.{is_refusal}
use Rattle.csn_lines.specs.OutLine.{IsRead, IsUnread}

-- ---- trees that are shown

pub shown_text : (form : TreeForm) (t : TreeV) → Fits t → HasTreeParts t → (text : List ℕ) × IsShown form t text
shown_text Text t fits parts = (text_in Text t, record { fits = fits; parts = parts; spelled = refl })
shown_text Json t fits parts = (text_in Json t, record { fits = fits; parts = parts; spelled = refl })

pub shown_fits : (form : TreeForm) (t : TreeV) (text : List ℕ) → IsShown form t text → Fits t
shown_fits Text t text is = is.fits
shown_fits Json t text is = is.fits

pub shown_parts : (form : TreeForm) (t : TreeV) (text : List ℕ) → IsShown form t text → HasTreeParts t
shown_parts Text t text is = is.parts
shown_parts Json t text is = is.parts

pub one_shown_text : (form : TreeForm) (t u : TreeV) (text other : List ℕ) → t ≡ u → IsShown form t text → IsShown form u other → text ≡ other
one_shown_text Text t u text other same is has = is.spelled ∙ ap (text_in Text) same ∙ sym has.spelled
one_shown_text Json t u text other same is has = is.spelled ∙ ap (text_in Json) same ∙ sym has.spelled

-- ---- lines that are read

pub read_parts : (form : TreeForm) (t : TreeV) (line : List ℕ) → IsRead form t line → HasTreeParts t
read_parts Text t line is = is.parts
read_parts Json t line is = is.2.parts

-- the answer to a line that is no tree refuses it
pub unread_refuses : (form : TreeForm) (line answer : List ℕ) → IsUnread form line answer → true ≡ is_refusal answer
unread_refuses Text line answer is = subst (λ a. true ≡ is_refusal a) (sym is.2) refl
unread_refuses Json line answer (inl is) = subst (λ a. true ≡ is_refusal a) (sym is.1) refl
unread_refuses Json line answer (inr is) = subst (λ a. true ≡ is_refusal a) (sym is.1) refl

module _ (known : Known) where
  pub read_or_not : (form : TreeForm) (line : List ℕ) → ((t : TreeV) × IsRead form t line) ⊎ ((answer : List ℕ) × IsUnread form line answer)
  read_or_not Text line = elim (known.of_trees.decided Second line) [
    | inl tree ↦ inl tree
    | inr place ↦ inr (codes "bad " ++ decimal place.0, (place.0, place.1, refl))
  ]
  read_or_not Json line = elim (known.of_json.decided line) [
    | inl tree ↦ inl tree
    | inr refused ↦ elim refused [
      | inl no_json ↦ inr (codes "bad 1", inl (no_json, refl))
      | inr no_tree ↦ inr (codes "bad 2", inr (no_tree, refl))
    ]
  ]

  pub one_read : (form : TreeForm) (t u : TreeV) (line : List ℕ) → IsRead form t line → IsRead form u line → t ≡ u
  one_read Text t u line is has = known.of_trees.one_tree t u line is has
  one_read Json t u line is has = known.of_json.one_tree t u line is has

  -- what is written for a tree is read as it
  pub shown_is_read : (form : TreeForm) (t : TreeV) (line : List ℕ) → line ≡ text_in form t → Fits t → HasTreeParts t → IsRead form t line
  shown_is_read Text t line spelled fits parts = record { fits = fits; parts = parts; spelled = spelled }
  shown_is_read Json t line spelled fits parts =
      known.of_json.written t line (record { fits = fits; parts = parts; spelled = spelled })

  -- a line that is the text of the tree of a block by a description, whose labels are labels, is that tree
  pub block_is_read : (form : TreeForm) (d : DescV) (b : List ℕ) (t : TreeV) (line : List ℕ) → IsDescription d
      → ((i part : ℕ) (label : List ℕ) → slice_get d.nodes i ≡ Some (Named label part) → IsLabel label)
      → IsBlockOf d t b → line ≡ text_in form t → IsRead form t line
  block_is_read form d b t line is labels block spelled =
      let shown = known.of_blocks.texts form d b t is labels block.within block.means in
      shown_is_read form t line spelled (known.of_blocks.fit d b t is block.means) (shown_parts form t (text_in form t) shown)

  pub not_unread : (form : TreeForm) (t : TreeV) (line answer : List ℕ) → IsRead form t line → IsUnread form line answer → ⊥
  not_unread Text t line answer is bad = bad.1.no_tree t is
  not_unread Json t line answer is (inl bad) = let memory = known.of_json.not_refused t line NotJson is bad.0 in cc
  not_unread Json t line answer is (inr bad) = let memory = known.of_json.not_refused t line NotTree is bad.0 in cc

  pub one_unread : (form : TreeForm) (line answer other : List ℕ) → IsUnread form line answer → IsUnread form line other → answer ≡ other
  one_unread Text line answer other is has =
      let same : is.0 ≡ has.0 = known.of_trees.one_place Second line is.0 has.0 is.1 has.1 in
      is.2 ∙ ap (λ p. codes "bad " ++ decimal p) same ∙ sym has.2
  one_unread Json line answer other (inl is) (inl has) = is.1 ∙ sym has.1
  one_unread Json line answer other (inl is) (inr has) = absurd (is.0 has.0.0 has.0.1)
  one_unread Json line answer other (inr has) (inl is) = absurd (is.0 has.0.0 has.0.1)
  one_unread Json line answer other (inr is) (inr has) = is.1 ∙ sym has.1
