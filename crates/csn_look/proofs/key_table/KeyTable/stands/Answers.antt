use Rattle.std.proofs.Common.{◌≡◌, ℕ, ◌+◌, ◌||◌, Bool, List, IsTrue, ◌↔◌, sym, ◌∙◌, subst}
use Rattle.csn_look.specs.KeyMarks.{IsWord, is_marked, place_of, IsKeyOf, StartsKey}
use Rattle.csn_look.specs.KeyTables.{IsKeyTable}
use Rattle.csn_look.proofs.Sets.Telling.{is_so, told_not}
use Rattle.csn_look.proofs.Tables.KeyMarkFacts.{key_told, starts_told}
use Rattle.csn_look.proofs.key_table.KeyTable.stands.Goals as goal

-- what the two looks tell of a word
told : (marks word : List ℕ) (at : ℕ) (key starts : Bool) → IsKeyTable marks → IsWord word → at ≡ place_of word
    → key ≡ (is_marked marks at || is_marked marks (8192 + at)) → starts ≡ is_marked marks (16384 + at)
    → (IsTrue key ↔ IsKeyOf marks word) × (IsTrue starts ↔ StartsKey marks word)
told marks word at key starts table is here key_is starts_is = (
  is_so key_is (key_told marks word at (sym here)),
  is_so starts_is
      (starts_told marks word at table is (sym here)),
)

pub returns-then-is_key : goal.returns-then-is_key
returns-then-is_key c =
    (key_told c.args.self.now c.args.word.now c.place-place.result (sym c.place-place.ensures.value)).0
    (sym c.is_key.ensures ∙ c.if-is_key.true)

pub returns-then-is_marked : goal.returns-then-is_marked
returns-then-is_marked c =
    let looks = told c.args.self.now c.args.word.now c.place-place.result c.is_key.result c.is_marked.result
    (subst (λ (m : List ℕ). IsKeyTable m) c.self.view_is c.self.invariant.0)
    c.place-place.ensures.word c.place-place.ensures.value c.is_key.ensures c.is_marked.ensures in
    (told_not looks.0 c.if-is_key.false, looks.1.0 c.if-is_marked.true)

pub returns-else-is_marked : goal.returns-else-is_marked
returns-else-is_marked c =
    let looks = told c.args.self.now c.args.word.now c.place-place.result c.is_key.result c.is_marked.result
    (subst (λ (m : List ℕ). IsKeyTable m) c.self.view_is c.self.invariant.0)
    c.place-place.ensures.word c.place-place.ensures.value c.is_key.ensures c.is_marked.ensures in
    (told_not looks.0 c.if-is_key.false, told_not looks.1 c.if-is_marked.false)
