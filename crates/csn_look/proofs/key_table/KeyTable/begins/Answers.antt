use Rattle.std.proofs.Common.{◌≡◌, ℕ, ◌+◌, Bool, false, List, IsTrue, ◌↔◌, sym, subst}
use Rattle.csn_look.specs.KeyMarks.{IsWord, is_marked, place_of, BeginsWithKey, StartsKey}
use Rattle.csn_look.specs.KeyTables.{IsKeyTable}
use Rattle.csn_look.proofs.Sets.Telling.{is_so, told_not}
use Rattle.csn_look.proofs.Tables.KeyMarkFacts.{starts_told}
use Rattle.csn_look.proofs.key_table.KeyTable.begins.Goals as goal

-- what the two looks tell of held bits that no key begins
unbegun :
    (marks held : List ℕ) (place : ℕ) (key starts : Bool) → IsKeyTable marks → IsWord held → place ≡ place_of held
    → ((word : List ℕ) → IsWord word → place_of word ≡ place → IsTrue key ↔ BeginsWithKey marks word) → key ≡ false → starts ≡ is_marked marks (16384 + place)
    → (¬ BeginsWithKey marks held) × (IsTrue starts ↔ StartsKey marks held)
unbegun marks held place key starts table is here key_is denied starts_is =
    (told_not (key_is held is (sym here)) denied, is_so starts_is (starts_told marks held place table is (sym here)))

pub begins_with_key-requires-clause-size : goal.begins_with_key-requires-clause-size
begins_with_key-requires-clause-size c = (subst (λ (l : List ℕ). IsKeyTable l) c.self.view_is c.self.invariant.0).size

pub returns-then-begins_with_key : goal.returns-then-begins_with_key
returns-then-begins_with_key c =
    (c.begins_with_key.ensures c.args.held.now c.place-place.ensures.word (sym c.place-place.ensures.value)).0
    c.if-begins_with_key.true

pub returns-then-is_marked : goal.returns-then-is_marked
returns-then-is_marked c =
    let looks = unbegun c.args.self.now c.args.held.now c.place-place.result c.begins_with_key.result
    c.is_marked.result (subst (λ (l : List ℕ). IsKeyTable l) c.self.view_is c.self.invariant.0)
    c.place-place.ensures.word c.place-place.ensures.value c.begins_with_key.ensures c.if-begins_with_key.false
    c.is_marked.ensures in
    (looks.0, looks.1.0 c.if-is_marked.true)

pub returns-else-is_marked : goal.returns-else-is_marked
returns-else-is_marked c =
    let looks = unbegun c.args.self.now c.args.held.now c.place-place.result c.begins_with_key.result
    c.is_marked.result (subst (λ (l : List ℕ). IsKeyTable l) c.self.view_is c.self.invariant.0)
    c.place-place.ensures.word c.place-place.ensures.value c.begins_with_key.ensures c.if-begins_with_key.false
    c.is_marked.ensures in
    (looks.0, told_not looks.1 c.if-is_marked.false)
