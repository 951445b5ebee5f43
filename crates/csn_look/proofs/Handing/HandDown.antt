-- A table that is filled from the root on, each node handing down to its parts.
use Rattle.std.proofs.Common.{◌≡◌, ℕ, zero, suc, ◌+◌, ◌<◌, ◌≤◌, List, length, ◌∙◌, subst, arith, inl, inr, Some}
use Rattle.std.specs.Prelude.{slice_get}
use Rattle.std.proofs.Math.ListN.{set as put, length-set}
use Rattle.std.proofs.lemmas.Bool.{cases_order}
use Rattle.std.proofs.lemmas.Option.{slice_get_within}
use Rattle.csn_desc.specs.declared.node.Node.{Node}
use Rattle.csn_desc.specs.Nodes.{DescV, parts_of}
use Rattle.csn_desc.specs.Formed.{IsDescription}
use Rattle.csn_desc.proofs.Numbering.{span_grows, part_from, span_inside, span_parts}
use Rattle.csn_desc.proofs.Parents.{one_parent, parent_of}
use Rattle.csn_look.specs.Steps.{KeepsOthers, HasRight}
use Rattle.csn_look.proofs.Basics.Puts.{get_put_same}

pub record Handed {A : Type 0} (Right : ℕ → A → Type 0) (d : DescV) (k : ℕ) (table : List A) : Type 0 where
  pub same : length table ≡ length d.nodes
  pub root : HasRight Right table 0
  pub parts : (m : ℕ) (n : Node) → m < k → slice_get d.nodes m ≡ Some n → (j p : ℕ) → slice_get (parts_of n) j ≡ Some p → HasRight Right table p

module _ {A : Type 0} (Right : ℕ → A → Type 0) (d : DescV) (is : IsDescription d) where
  pub handed_here : (k : ℕ) (table : List A) (a : A) → k < length d.nodes → Handed Right d k table → slice_get table k ≡ Some a → Right k a
  handed_here k table a inside h at =
      let has = known k inside h in
      let same : has.0 ≡ a = cc (at, has.1) in
      subst (λ x. Right k x) same has.2
    where
      known : (k : ℕ) → k < length d.nodes → Handed Right d k table → HasRight Right table k
      known zero inside h = h.root
      known (suc k) inside h =
          let p = parent_of d.nodes (suc k) is.numbered (omega arith) inside in
          h.parts p.parent p.node p.before p.at p.place (suc k) p.part

  pub handed_none : (table : List A) (a : A) → length table ≡ length d.nodes → Right 0 a → Handed Right d 0 (put table 0 a)
  handed_none table a same right =
      let some = span_grows d.nodes is.numbered in
      record {
        same = length-set table 0 a ∙ same;
        root = (a, get_put_same table 0 a (omega arith), right);
        parts = λ m n less. absurd (omega (arith, less));
      }

  pub handed_more : (k : ℕ) (n : Node) (old new : List A) → slice_get d.nodes k ≡ Some n → length new ≡ length old
      → Handed Right d k old → ((j p : ℕ) → slice_get (parts_of n) j ≡ Some p → HasRight Right new p)
      → KeepsOthers n old new → Handed Right d (k + 1) new
  handed_more k n old new at size h steps kept =
      let inside = slice_get_within d.nodes k n at in
      let s = span_inside d.nodes k is.numbered (omega arith) inside in
      let not_root : (j : ℕ) → slice_get (parts_of n) j ≡ Some 0 → ⊥ =
      λ j get. (let low = part_from d.nodes j 0 (span_parts d.nodes at s.span) get in omega (arith, low)) in
      record {
        same = size ∙ h.same;
        root = (h.root.0, kept 0 not_root ∙ h.root.1, h.root.2);
        parts = λ m q less there j p get.
            elim (cases_order m k) [
              | inl same ↦
                  let node : q ≡ n = cc (there, at, same) in
                  steps j p (subst (λ x. slice_get (parts_of x) j ≡ Some p) node get)
              | inr order ↦ elim order [
                | inl before ↦
                    let r = h.parts m q before there j p get in
                    let beside : (i : ℕ) → slice_get (parts_of n) i ≡ Some p → ⊥ =
                    λ i part. (let both = one_parent d m k j i p q n is there at get part in omega (arith, both.0, before)) in
                    (r.0, kept p beside ∙ r.1, r.2)
                | inr after ↦ absurd (omega (arith, less, after))
              ]
            ];
      }

  pub handed_end : (k : ℕ) (table : List A) → length d.nodes ≤ k → Handed Right d k table → (i : ℕ) → i < length d.nodes → HasRight Right table i
  handed_end k table all h zero inside = h.root
  handed_end k table all h (suc i) inside =
      let p = parent_of d.nodes (suc i) is.numbered (omega arith) inside in
      let before = p.before in
      h.parts p.parent p.node (omega arith) p.at p.place (suc i) p.part
