-- The innermost node is the last of the list.
use Rattle.std.proofs.Common.{◌≡◌, ℕ, suc, ◌+◌, ◌-◌, List, ◌∷◌, length, reverse, take, nat_lt, ◌∙◌, ap, subst, arith, add-one, Some}
use Rattle.std.specs.Prelude.{slice_get}
use Rattle.csn_desc.specs.Building.{BuilderV}
use Rattle.csn_desc.proofs.Innermost.{top_is, top_within, last_read, node_at_index}
use Rattle.csn_desc.proofs.builder.DescBuilder.innermost.Goals as goal

pub index-requires : goal.index-requires
index-requires c =
    omega (
      arith,
      top_within c.self.inside.nodes.items c.self.inside.around.items c.in_ok-at.field-0.now
          (last_read c.deref.ensures.0 c.in_ok-at.ensures.value) c.self.invariant,
    )

pub returns : goal.returns
returns c =
    let items = c.self.inside.around.items in
    let nodes = c.self.inside.nodes.items in
    let i = c.in_ok-at.field-0.now in
    let at = last_read c.deref.ensures.0 c.in_ok-at.ensures.value in
    let node = node_at_index nodes i c.index.result.now (top_within nodes items i at c.self.invariant) c.index.ensures in
    let long : c.len.result ≡ length nodes = omega (arith, c.len.ensures) in
    let begun = ap (λ k. nat_lt k c.len.result) (add-one i) ∙ ap (λ k. nat_lt (suc i) k) long in
    let P : BuilderV → Type 0 =
    λ b. (x : ℕ) × (rest : List ℕ) × (b.around ≡ x ∷ rest) × (slice_get b.nodes x ≡ Some c.index.result.now)
    × (nat_lt (i + 1) c.len.result ≡ nat_lt (suc x) (length b.nodes)) in
    subst P c.self.view_is (i, reverse (take (length items - 1) items), top_is items i at, node, begun)
