-- What stands where a node is entered.
use Rattle.std.proofs.Common.{◌≡◌, ◌↔◌, ℕ, suc, ◌<◌, ◌==◌, Bool, false, List, [], ◌∷◌, ◌++◌, ◌-◌, ◌≤◌, length}
use Rattle.std.proofs.Common.{reverse, take, refl, sym, ◌∙◌, ap, subst, arith, add-one, option_to_list, Result, Ok}
use Rattle.std.proofs.Common.{Err}
use Rattle.std.specs.Prelude.{⊤}
use Rattle.std.proofs.lemmas.Bool.{eqb-true}
use Rattle.csn_desc.specs.declared.builder.DescFault.{DescFault}
use Rattle.csn_desc.specs.declared.builder.DescFault.TheVariants.{TooManyNodes, TooDeep, TooManyVals, NoMemory}
use Rattle.csn_desc.specs.declared.node.Node.{Node}
use Rattle.csn_desc.specs.Building.{BuilderV, Takes, entered, node_of, part_begun}
use Rattle.csn_desc.specs.Standing.{Stands}
use Rattle.csn_desc.proofs.Innermost.{top_is, top_few, last_read, enters_last, entered_last, ok_holds, err_holds, long_reverse, not_full}
use Rattle.csn_desc.proofs.builder.DescBuilder.enter.Goals as goal

-- those that were not left are fewer than they may be, in either order
has_room : (items : List ℕ) {full : Bool} → length items ≤ 64 → full ≡ (length items == 64) → full ≡ false → length (reverse items) < 64
has_room items fits is below = omega (arith, not_full (length items) 64 fits (sym is ∙ below), long_reverse items)

pub push_part-requires-clause-above : goal.push_part-requires-clause-above
push_part-requires-clause-above c = λ i is.
    let items = c.self.inside.around.items in
    let nodes = c.self.inside.nodes.items in
    let at = last_read c.deref.ensures.0 (c.copied-above.ensures ∙ c.last.ensures.value) ∙ is in
    let few : length nodes < 16384 = omega (arith, c.if-len.false, c.len.ensures) in
    let P : List ℕ → Type 0 = λ l. Stands nodes l in
    top_few nodes i (reverse (take (length items - 1) items)) (subst P (top_is items i at) c.self.invariant) few

pub push_part-requires-clause-few : goal.push_part-requires-clause-few
push_part-requires-clause-few c = omega (arith, c.if-len.false, c.len.ensures)

pub overflow_add-number : goal.overflow_add-number
overflow_add-number c = omega (arith, c.if-len.false, c.len.ensures, c.len-number.ensures)

pub invariant_of-self-2 : goal.invariant_of-self-2
invariant_of-self-2 c =
    let items = c.self.inside.around.items in
    let nodes = c.self.inside.nodes.items in
    let above = c.copied-above.result in
    let at = last_read c.deref.ensures.0 (c.copied-above.ensures ∙ c.last.ensures.value) in
    let few : length nodes < 16384 = omega (arith, c.if-len.false, c.len.ensures) in
    let deep = has_room items c.is_full.ensures.fits c.is_full.ensures.value c.if-is_full.false in
    let P : BuilderV → Type 0 = λ b. Takes b c.args.head in
    let stands = enters_last c.self.inside.reading nodes items above c.args.head c.self.invariant few deep (subst P (sym c.self.view_is) c.requires) at in
    let done = ok_holds c.push_part.result (sym c.is_err.ensures.value ∙ c.if-is_err.false) c.push_part.ensures.ok in
    let long : c.len-number.result ≡ length nodes = omega (arith, c.len-number.ensures) in
    let node_is : c.begun_node-node.result ≡ node_of c.args.head (suc (length nodes)) =
    c.begun_node-node.ensures ∙ ap (λ k. node_of c.args.head k) (add-one c.len-number.result ∙ ap suc long) in
    let nodes_are : c.push_part.new.nodes.items ≡ part_begun nodes (option_to_list above) ++ node_of c.args.head (suc (length nodes)) ∷ [] =
    done ∙ ap (λ n. part_begun nodes (option_to_list above) ++ n ∷ []) node_is in
    let around_are : c.push.new.self.items ≡ items ++ length nodes ∷ [] =
    c.push.ensures.items ∙ ap (λ k. items ++ k ∷ []) long in
    let Q : List Node → Type 0 = λ l. Stands l (reverse (items ++ length nodes ∷ [])) in
    let R : List ℕ → Type 0 = λ l. Stands c.push_part.new.nodes.items (reverse l) in
    subst R (sym around_are) (subst Q (sym nodes_are) stands)

-- ---- what an answer says of how many nodes there are, and how many of them were not left

record Tells (answer : Result ℕ DescFault) (b : BuilderV) : Type 0 where
  many : (answer ≡ Err TooManyNodes) ↔ (16384 ≤ length b.nodes)
  deep : (answer ≡ Err TooDeep) ↔ ((length b.nodes < 16384) × (64 ≤ length b.around))
  vals : (node : ℕ) → answer ≡ Err (TooManyVals node) → ⊥

tells_many : {inside b : BuilderV} → inside ≡ b → 16384 ≤ length inside.nodes → Tells (Err TooManyNodes) b
tells_many is full =
    let P : BuilderV → Type 0 = λ b. Tells (Err TooManyNodes) b in
    subst P is (record {
      many = ((λ told. full), (λ h. refl));
      deep = ((λ told. absurd (cc)), (λ h. absurd (omega (arith, full, h.0))));
      vals = λ node told. cc;
    })

tells_deep : {inside b : BuilderV} → inside ≡ b → length inside.nodes < 16384 → 64 ≤ length inside.around → Tells (Err TooDeep) b
tells_deep is few deep =
    let P : BuilderV → Type 0 = λ b. Tells (Err TooDeep) b in
    subst P is (record {
      many = ((λ told. absurd (cc)), (λ h. absurd (omega (arith, few, h))));
      deep = ((λ told. (few, deep)), (λ h. refl));
      vals = λ node told. cc;
    })

-- a node is entered, or there is no memory for it
abbrev IsOther : Result ℕ DescFault → Type 0
IsOther (Ok number) = ⊤
IsOther (Err NoMemory) = ⊤
IsOther _ = ⊥

tells_neither : (answer : Result ℕ DescFault) → IsOther answer → {inside b : BuilderV}
    → inside ≡ b → length inside.nodes < 16384 → length inside.around < 64 → Tells answer b
tells_neither answer other is few room =
    let P : BuilderV → Type 0 = λ b. Tells answer b in
    subst P is (record {
      many = ((λ told. absurd (subst IsOther told other)), (λ h. absurd (omega (arith, few, h))));
      deep = ((λ told. absurd (subst IsOther told other)), (λ h. absurd (omega (arith, room, h.1))));
      vals = λ node told. subst IsOther told other;
    })

pub returns-then-len : goal.returns-then-len
returns-then-len c =
    let tells = tells_many c.self.view_is (omega (arith, c.if-len.true, c.len.ensures)) in
    record { number = tt; entered = tt; room = tt; many = tells.many; deep = tells.deep; vals = tells.vals; refused = refl }

pub returns-then-is_full : goal.returns-then-is_full
returns-then-is_full c =
    let items = c.self.inside.around.items in
    let full = eqb-true (length items) 64 (sym c.is_full.ensures.value ∙ c.if-is_full.true) in
    let tells = tells_deep c.self.view_is (omega (arith, c.if-len.false, c.len.ensures)) (omega (arith, long_reverse items, full)) in
    record { number = tt; entered = tt; room = tt; many = tells.many; deep = tells.deep; vals = tells.vals; refused = refl }

pub returns-then-is_err : goal.returns-then-is_err
returns-then-is_err c =
    let room = has_room c.self.inside.around.items c.is_full.ensures.fits c.is_full.ensures.value c.if-is_full.false in
    let tells = tells_neither (Err NoMemory) tt c.self.view_is (omega (arith, c.if-len.false, c.len.ensures)) room in
    let same = err_holds c.push_part.result (sym c.is_err.ensures.value ∙ c.if-is_err.true) c.push_part.ensures.err in
    record {
      number = tt;
      entered = tt;
      room = tt;
      many = tells.many;
      deep = tells.deep;
      vals = tells.vals;
      refused = ap (λ nodes. record { reading = c.self.inside.reading; nodes = nodes; around = reverse c.self.inside.around.items }) same ∙ c.self.view_is;
    }

-- ---- it is entered

pub returns : goal.returns
returns c =
    let items = c.self.inside.around.items in
    let nodes = c.self.inside.nodes.items in
    let few : length nodes < 16384 = omega (arith, c.if-len.false, c.len.ensures) in
    let room = has_room items c.is_full.ensures.fits c.is_full.ensures.value c.if-is_full.false in
    let tells = tells_neither (Ok c.len-number.result) tt c.self.view_is few room in
    let done = ok_holds c.push_part.result (sym c.is_err.ensures.value ∙ c.if-is_err.false) c.push_part.ensures.ok in
    let long : c.len-number.result ≡ length nodes = omega (arith, c.len-number.ensures) in
    let is_entered =
    entered_last c.self.inside.reading nodes items c.copied-above.result c.args.head c.begun_node-node.result
    c.len-number.result c.push_part.new.nodes.items c.push.new.self.items
    long (last_read c.deref.ensures.0 (c.copied-above.ensures ∙ c.last.ensures.value)) c.begun_node-node.ensures done c.push.ensures.items in
    let P : BuilderV → Type 0 = λ b. (c.len-number.result ≡ length b.nodes)
    × (record { reading = c.self.inside.reading; nodes = c.push_part.new.nodes.items; around = reverse c.push.new.self.items } ≡ entered c.args.head b)
    × ((length b.nodes < 16384) × (length b.around < 64)) in
    let made = subst P c.self.view_is (long, is_entered, (few, room)) in
    record { number = made.0; entered = made.1; room = made.2; many = tells.many; deep = tells.deep; vals = tells.vals; refused = tt }
