-- A head with a count is well formed where the count is.
use Rattle.std.proofs.Common.{◌≡◌, ◌↔◌, ℕ, Bool, false, sym, subst, IsTrue}
use Rattle.csn_desc.specs.declared.node.Count.{Count}
use Rattle.csn_desc.specs.declared.node.Head.{Head}
use Rattle.csn_desc.specs.declared.node.Head.TheVariants.{Field, Times, Window}
use Rattle.csn_desc.specs.Formed.{IsUnit}
use Rattle.csn_desc.specs.Heads.{IsNextCount}
use Rattle.csn_desc.specs.Building.{BuilderV, IsNextHead}
use Rattle.csn_desc.proofs.builder.DescBuilder.is_next_head.Goals as goal

times_tell : {r : Bool} (b : BuilderV) (count : Count) → (IsTrue r ↔ IsNextCount b count) → IsTrue r ↔ IsNextHead b (Times count)
times_tell b count tells = (
  (λ h. let next = tells.0 h in record { seen = next.seen; shown = next.shown; well_formed = next.well_formed }),
  (λ h. tells.1 (record { seen = h.seen; shown = h.shown; well_formed = h.well_formed })),
)

field_tells : {r : Bool} (b : BuilderV) (unit : ℕ) (count : Count) → IsUnit unit → (IsTrue r ↔ IsNextCount b count)
    → IsTrue r ↔ IsNextHead b (Field unit count)
field_tells b unit count is tells = (
  (λ h. let next = tells.0 h in record { seen = next.seen; shown = next.shown; well_formed = (is, next.well_formed) }),
  (λ h. tells.1 (record { seen = h.seen; shown = h.shown; well_formed = h.well_formed.1 })),
)

window_tells : {r : Bool} (b : BuilderV) (unit : ℕ) (count : Count) → IsUnit unit → (IsTrue r ↔ IsNextCount b count)
    → IsTrue r ↔ IsNextHead b (Window unit count)
window_tells b unit count is tells = (
  (λ h. let next = tells.0 h in record { seen = next.seen; shown = next.shown; well_formed = (is, next.well_formed) }),
  (λ h. tells.1 (record { seen = h.seen; shown = h.shown; well_formed = h.well_formed.1 })),
)

field_fails : {r : Bool} (b : BuilderV) (unit : ℕ) (count : Count) → (IsTrue r ↔ IsUnit unit) → r ≡ false → IsTrue r ↔ IsNextHead b (Field unit count)
field_fails b unit count tells fails = ((λ h. absurd (cc)), (λ h. tells.1 h.well_formed.0))

window_fails : {r : Bool} (b : BuilderV) (unit : ℕ) (count : Count) → (IsTrue r ↔ IsUnit unit) → r ≡ false → IsTrue r ↔ IsNextHead b (Window unit count)
window_fails b unit count tells fails = ((λ h. absurd (cc)), (λ h. tells.1 h.well_formed.0))

pub returns-in-Times : goal.returns-in-Times
returns-in-Times c =
    let P : Head → Type 0 = λ h. IsTrue c.is_next_count-in-Times.result ↔ IsNextHead c.args.self.now h in
    subst P (sym c.in-Times.is) (times_tell c.args.self.now c.in-Times.count c.is_next_count-in-Times.ensures)

pub returns-then-is_unit : goal.returns-then-is_unit
returns-then-is_unit c =
    let P : Head → Type 0 = λ h. IsTrue c.is_next_count.result ↔ IsNextHead c.args.self.now h in
    subst P (sym c.in-Field.is) (field_tells c.args.self.now c.in-Field.unit c.in-Field.count (c.is_unit.ensures.0 c.if-is_unit.true) c.is_next_count.ensures)

pub returns-else-is_unit : goal.returns-else-is_unit
returns-else-is_unit c =
    let P : Head → Type 0 = λ h. IsTrue c.is_unit.result ↔ IsNextHead c.args.self.now h in
    subst P (sym c.in-Field.is) (field_fails c.args.self.now c.in-Field.unit c.in-Field.count c.is_unit.ensures c.if-is_unit.false)

pub returns-then-is_unit-2 : goal.returns-then-is_unit-2
returns-then-is_unit-2 c =
    let P : Head → Type 0 = λ h. IsTrue c.is_next_count-then-is_unit-2.result ↔ IsNextHead c.args.self.now h in
    subst P (sym c.in-Window.is) (window_tells c.args.self.now c.in-Window.unit c.in-Window.count
    (c.is_unit-in-Window.ensures.0 c.if-is_unit-2.true) c.is_next_count-then-is_unit-2.ensures)

pub returns-else-is_unit-2 : goal.returns-else-is_unit-2
returns-else-is_unit-2 c =
    let P : Head → Type 0 = λ h. IsTrue c.is_unit-in-Window.result ↔ IsNextHead c.args.self.now h in
    subst P (sym c.in-Window.is) (window_fails c.args.self.now c.in-Window.unit c.in-Window.count c.is_unit-in-Window.ensures c.if-is_unit-2.false)
