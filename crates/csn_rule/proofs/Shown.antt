-- A block that was shown.
use Rattle.std.proofs.Common.{◌≡◌, ◌∙◌, ℕ, List, [], ◌++◌, length, Result, Ok, Err, OnOk, IfOk, sym, ap, subst, true≢false}
use Rattle.std.specs.Prelude.{IsOk}
use Rattle.csn_desc.specs.Nodes.{DescV}
use Rattle.csn_json.specs.declared.form.TreeForm.{TreeForm}
use Rattle.csn_movetext.specs.declared.fault.BlockFault.{BlockFault}
use Rattle.csn_movetext.specs.Blocks.{AddsText, IsTextOfBlock}
use Rattle.csn_rule.specs.Blocks.{Shows}
use Rattle.csn_rule.specs.Buffers.{copied}

-- a text that was added to nothing, counted and copied
pub shown_in :
    (form : TreeForm) (d : DescV) (block before items text old new : List ℕ)
    (written : Result (Unit {0}) BlockFault) (told : Result ℕ BlockFault) → before ≡ [] → text ≡ items
    → OnOk written (AddsText form d block before items) → IfOk told (λ count. count ≡ length text)
    → OnOk told (new ≡ copied text old) → OnOk told (IsOk written)
    → IfOk told (λ count. Shows form d block count old new)
shown_in form d block before items text old new (Ok x) (Ok count) none all adds counted there ok =
    let same : adds.0 ≡ text = sym (all ∙ adds.1 ∙ ap (λ l. l ++ adds.0) none) in
    record {
      text = text;
      is_text = subst (λ l. IsTextOfBlock form d block l) same adds.2;
      counted = counted;
      there = there;
    }
shown_in form d block before items text old new (Err why) (Ok count) none all adds counted there ok =
    absurd (true≢false (sym ok))
shown_in form d block before items text old new written (Err why) none all adds counted there ok = tt
