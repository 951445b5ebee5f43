-- `json` shows what `show` shows.
use Rattle.std.proofs.Common.{◌≡◌, ℕ, List, ◌++◌, codes, slice_index, refl, ◌∙◌, ap, subst, arith}
use Rattle.csn_bits.specs.Line.{BlockLine}
use Rattle.csn_bits.specs.Fault.{fault_for}
use Rattle.csn_bits.specs.declared.fault.LineWhy.{LineWhy}
use Rattle.csn_bits.specs.declared.fault.LineWhy.TheVariants.{BadDigit, BadLength, BadFill, TooManyBits}
use Rattle.csn_desc.specs.declared.reading.Reading.{Reading}
use Rattle.csn_desc.specs.TreeV.{TreeV}
use Rattle.csn_grammar.specs.RulesV.{RulesV}
use Rattle.csn_grammar.specs.Strings.{Strings}
use Rattle.csn_json.specs.Forms.{IsShown}
use Rattle.csn_json.specs.declared.form.TreeForm.{TreeForm}
use Rattle.csn_json.specs.declared.form.TreeForm.TheVariants.{Text, Json}
use Rattle.csn_lines.specs.Known.{Known}
use Rattle.csn_lines.specs.Laws.{Tells, FormsAreShownTogether, FormsShowOneTree}
use Rattle.csn_lines.specs.OutLine.{shows_block, shows_tree, shows_place, shows_fault, fault_text}
use Rattle.csn_lines.proofs.FormLemmas.{shown_text, shown_fits, shown_parts}
use Rattle.csn_lines.proofs.ShownLines.{one_tree}

-- a line that is answered by a tree
pub record Told (form : TreeForm) (rules : RulesV) (name : List ℕ) (reading : Reading) (line text : List ℕ) : Type 0 where
  pub block : List ℕ
  pub tree : TreeV
  pub spells : BlockLine line block
  pub string : Strings rules name reading block tree
  pub shown : IsShown form tree text

-- no fault is answered by a tree
not_a_fault : (why : LineWhy) (text : List ℕ) → codes "ok " ++ text ≡ fault_text (fault_for why) → ⊥
not_a_fault (BadDigit column) text e = let first : 111 ≡ 98 = ap (λ w. slice_index w 0) e in omega (arith, first)
not_a_fault BadLength text e = let first : 111 ≡ 98 = ap (λ w. slice_index w 0) e in omega (arith, first)
not_a_fault BadFill text e = let first : 111 ≡ 98 = ap (λ w. slice_index w 0) e in omega (arith, first)
not_a_fault TooManyBits text e = let first : 111 ≡ 98 = ap (λ w. slice_index w 0) e in omega (arith, first)

pub told : (form : TreeForm) (rules : RulesV) (name : List ℕ) (reading : Reading) (line text : List ℕ)
    → Tells form rules name reading line text → Told form rules name reading line text
told form rules name reading line text (shows_block block spells (shows_tree t written string shown e)) =
    let same : written ≡ text = cc in
    record { block = block; tree = t; spells = spells; string = string; shown = subst (λ w. IsShown form t w) same shown }
told form rules name reading line text (shows_block block spells (shows_place place none at e)) =
    let first : 111 ≡ 110 = ap (λ w. slice_index w 0) e in absurd (omega (arith, first))
told form rules name reading line text (shows_fault fault is e) =
    absurd (not_a_fault is.0 text (e ∙ ap fault_text is.2))

in_other : (form other : TreeForm) (rules : RulesV) (name : List ℕ) (reading : Reading) (line : List ℕ)
    → (text : List ℕ) × Tells form rules name reading line text → (text : List ℕ)
    × Tells other rules name reading line text
in_other form other rules name reading line (text, is) =
    let t = told form rules name reading line text is in
    let written = shown_text other t.tree (shown_fits form t.tree text t.shown) (shown_parts form t.tree text t.shown) in
    (written.0, shows_block t.block t.spells (shows_tree t.tree written.0 t.string written.1 refl))

pub shown_together : FormsAreShownTogether
shown_together rules name reading line = (in_other Json Text rules name reading line, in_other Text Json rules name reading line)

pub show_one_tree : Known → FormsShowOneTree
show_one_tree known file rules name reading d line text json compiled in_text in_json =
    let a = told Text rules name reading line text in_text in
    let b = told Json rules name reading line json in_json in
    let block : a.block ≡ b.block = known.of_lines.spells_one line a.block b.block a.spells b.spells in
    let here : Strings rules name reading b.block a.tree = subst (λ x. Strings rules name reading x a.tree) block a.string in
    let tree : b.tree ≡ a.tree = one_tree known file rules name reading d compiled b.block b.tree a.tree b.string here in
    (a.tree, a.shown, known.of_json.written a.tree json (subst (λ t. IsShown Json t json) tree b.shown))
