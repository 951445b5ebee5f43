use Rattle.std.proofs.Common.{◌≡◌, ℕ, ◌<◌, ◌^◌, ◌++◌, [], List, length, refl, arith, ap, ◌∙◌, subst}
use Rattle.csn_look.specs.declared.word.Key.{Key}
use Rattle.csn_look.specs.KeyMarks.{IsWord}
use Rattle.csn_look.specs.KeyTables.{IsKeyTable}
use Rattle.csn_look.specs.KeyLists.{keys_from}
use Rattle.csn_look.proofs.Tables.KeyLists.{key_list, few_keys}
use Rattle.csn_look.proofs.key_table.KeyTable.keys.Goals as goal

no_bits : IsWord []
no_bits = record { bits = tt; short = omega arith }

few : (marks : List ℕ) (items : List Key) → items ≡ [] ++ keys_from marks 12 [] → length items < 2 ^ 32
few marks items e = omega (arith, ap length e, few_keys marks 12 [])

pub invariant_of-result : goal.invariant_of-result
invariant_of-result c =
    few c.args.self.now c.list_keys.new.keys.items
    (c.in_ok-list_keys.ensures [] no_bits refl refl ∙ ap (λ l. l ++ keys_from c.args.self.now 12 []) c.new-keys.ensures.items)

pub returns : goal.returns
returns c =
    let P : List ℕ → Type 0 = IsKeyTable in
    key_list c.args.self.now c.list_keys.new.keys.items (subst P c.self.view_is c.self.invariant.0)
    (c.in_ok-list_keys.ensures [] no_bits refl refl ∙ ap (λ l. l ++ keys_from c.args.self.now 12 []) c.new-keys.ensures.items)
