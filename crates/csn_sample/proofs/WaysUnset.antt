-- The ways that are told as not met.
use Rattle.std.specs.Prelude.{◌≡◌, ℕ, ◌+◌, ◌<◌, ◌≤◌, ◌⊎◌, ◌↔◌, Bool, List, [], ◌∷◌, ◌++◌, length, slice_get, Some, Contains, All}
use Rattle.std.proofs.Common.{◌∙◌, inl, inr, sym, subst, arith, eq-or-lt_of_le}
use Rattle.std.proofs.lemmas.List.Elements.{All-push, Contains-push, Contains-append_left, Contains-push_cases}
use Rattle.std.proofs.lemmas.Option.{slice_get_within, same_Some}
use Rattle.csn_desc.specs.declared.node.Node.{Node}
use Rattle.csn_desc.specs.Nodes.{DescV}
use Rattle.csn_sample.specs.declared.covering.Way.{Way}
use Rattle.csn_sample.specs.declared.covering.Example.{Example}
use Rattle.csn_sample.specs.declared.wish.Length.TheVariants.{AtMost}
use Rattle.csn_sample.specs.Samples.{IsSample}
use Rattle.csn_sample.specs.Ways.{ways, Meets}
use Rattle.csn_sample.specs.Covering.{IsMarked, IsMet, AreMet, AreTold, IsExample, IsUnmetWith, AllUnmet}

abbrev told : List (List Bool) → List Way → ℕ → ℕ → Type 0
told marks unmet i way = Contains unmet (record { node = i; number = way }) ⊎ IsMarked marks i way

-- ---- one node

pub unmet_none : (i : ℕ) (marks : List (List Bool)) (old : List Way) → IsUnmetWith i 0 marks old old
unmet_none i marks old = record { each = λ way h. absurd (omega (arith, h)); kept = λ way h. h; none = λ way h. inl h }

-- the next way is marked
pub unmet_marked : (i count : ℕ) (marks : List (List Bool)) (old new : List Way) → IsMarked marks i count
    → IsUnmetWith i count marks old new
    → IsUnmetWith i (count + 1) marks old new
unmet_marked i count marks old new marked is =
    record { each = λ way h. cases way (eq-or-lt_of_le (less way h)); kept = is.kept; none = is.none }
  where
    less : (way : ℕ) → way < count + 1 → way ≤ count
    less way h = omega (arith, h)

    cases : (way : ℕ) → (way ≡ count) ⊎ (way < count) → told marks new i way
    cases way (inl same) = inr (subst (λ (k : ℕ). IsMarked marks i k) (sym same) marked)
    cases way (inr before) = is.each way before

-- the next way is told
pub unmet_told : (i count : ℕ) (marks : List (List Bool)) (old new more : List Way)
    → more ≡ new ++ record { node = i; number = count } ∷ [] → ¬ IsMarked marks i count
    → IsUnmetWith i count marks old new
    → IsUnmetWith i (count + 1) marks old more
unmet_told i count marks old new more pushed unset is =
    record {
      each = λ way h. cases way (eq-or-lt_of_le (less way h));
      kept = λ way h. keep way (is.kept way h);
      none = λ way h. was way (Contains-push_cases new (record { node = i; number = count }) way (subst (λ (all : List Way). Contains all way) pushed h));
    }
  where
    less : (way : ℕ) → way < count + 1 → way ≤ count
    less way h = omega (arith, h)

    keep : (way : Way) → Contains new way → Contains more way
    keep way h =
        subst (λ (all : List Way). Contains all way) (sym pushed)
        (Contains-append_left new (record { node = i; number = count } ∷ []) way h)

    kept : (way : ℕ) → told marks new i way → told marks more i way
    kept way (inl h) = inl (keep (record { node = i; number = way }) h)
    kept way (inr h) = inr h

    here : told marks more i count
    here = inl (subst (λ (all : List Way). Contains all (record { node = i; number = count })) (sym pushed)
        (Contains-push new (record { node = i; number = count })))

    cases : (way : ℕ) → (way ≡ count) ⊎ (way < count) → told marks more i way
    cases way (inl same) = subst (λ (k : ℕ). told marks more i k) (sym same) here
    cases way (inr before) = kept way (is.each way before)

    was : (way : Way) → Contains new way ⊎ (record { node = i; number = count } ≡ way)
        → Contains old way ⊎ ¬ IsMarked marks way.node way.number
    was way (inl before) = is.none way before
    was way (inr same) = inr (subst (λ (w : Way). ¬ IsMarked marks w.node w.number) same unset)

-- ---- all nodes

pub nodes_none : (d : DescV) (marks : List (List Bool)) → AllUnmet d 0 [] marks
nodes_none d marks = record { each = λ i way node h there within. absurd (omega (arith, h)); none = λ way h. absurd (let few = h.1 in omega (arith, few)) }

-- the ways of the next node
pub nodes_next : (d : DescV) (i : ℕ) (n : Node) (marks : List (List Bool)) (old new : List Way)
    → slice_get d.nodes i ≡ Some n → IsUnmetWith i (ways n) marks old new → AllUnmet d i old marks
    → AllUnmet d (i + 1) new marks
nodes_next d i n marks old new look is all = record {
  each = λ j way node h there in_ways. cases j way node there in_ways (eq-or-lt_of_le (less j h));
  none = λ way h. was way (is.none way h);
}
  where
    less : (j : ℕ) → j < i + 1 → j ≤ i
    less j g = omega (arith, g)

    kept : (j way : ℕ) → told marks old j way → told marks new j way
    kept j way (inl g) = inl (is.kept (record { node = j; number = way }) g)
    kept j way (inr g) = inr g

    same_node : (j : ℕ) (node : Node) → slice_get d.nodes j ≡ Some node → j ≡ i → node ≡ n
    same_node j node there same = same_Some node n (sym (subst (λ (k : ℕ). slice_get d.nodes k ≡ Some node) same there) ∙ look)

    cases : (j way : ℕ) (node : Node) → slice_get d.nodes j ≡ Some node → way < ways node → (j ≡ i) ⊎ (j < i) → told marks new j way
    cases j way node there in_ways (inl same) =
        subst (λ (k : ℕ). told marks new k way) (sym same)
        (is.each way (subst (λ (x : Node). way < ways x) (same_node j node there same) in_ways))
    cases j way node there in_ways (inr before) = kept j way (all.each j way node before there in_ways)

    was : (way : Way) → Contains old way ⊎ ¬ IsMarked marks way.node way.number → ¬ IsMarked marks way.node way.number
    was way (inl before) = all.none way before
    was way (inr unset) = unset

-- what is marked is met, and so each way is told as not met, or is met
pub told_of : (d : DescV) (blocks : List Example) (unmet : List Way) (marks : List (List Bool))
    → AreMet d blocks marks → AllUnmet d (length d.nodes) unmet marks
    → AreTold d blocks unmet
told_of d blocks unmet marks met all = record {
  each = λ i way node look within. cases i way (all.each i way node (slice_get_within d.nodes i node look) look within);
  none = λ way there is_met. all.none way there ((met way.node way.number).1 is_met);
}
  where
    cases : (i way : ℕ) → told marks unmet i way → Contains unmet (record { node = i; number = way }) ⊎ IsMet d blocks i way
    cases i way (inl h) = inl h
    cases i way (inr marked) = inr ((met i way).0 marked)

-- ---- a block more

pub met_none : (d : DescV) (marks : List (List Bool)) → ((i way : ℕ) → ¬ IsMarked marks i way) → AreMet d [] marks
met_none d marks none i way =
    (λ marked. absurd (none i way marked), λ met. absurd (let few = met.told_is.1 in omega (arith, few)))

pub met_more : (d : DescV) (told more : List Example) (block : Example) (old new : List (List Bool))
    → more ≡ told ++ block ∷ []
    → ((i way : ℕ) → IsMarked new i way ↔ (IsMarked old i way ⊎ Meets d 0 block.sampled.tree i way))
    → AreMet d told old
    → AreMet d more new
met_more d told more block old new is marks met i way = (λ marked. there ((marks i way).0 marked), λ m. (marks i way).1 (back m))
  where
    there : IsMarked old i way ⊎ Meets d 0 block.sampled.tree i way → IsMet d more i way
    there (inl before) =
        let was = (met i way).0 before in
        record {
          block = was.block;
          told_is = subst (λ (all : List Example). Contains all was.block) (sym is) (Contains-append_left told (block ∷ []) was.block was.told_is);
          meets = was.meets;
        }
    there (inr meets) = record {
      block = block;
      told_is = subst (λ (all : List Example). Contains all block) (sym is) (Contains-push told block);
      meets = meets;
    }

    either : (m : IsMet d more i way) → Contains told m.block ⊎ (block ≡ m.block) → IsMarked old i way ⊎ Meets d 0 block.sampled.tree i way
    either m (inl before) = inl ((met i way).1 (record { block = m.block; told_is = before; meets = m.meets }))
    either m (inr same) = inr (subst (λ (e : Example). Meets d 0 e.sampled.tree i way) (sym same) m.meets)

    back : IsMet d more i way → IsMarked old i way ⊎ Meets d 0 block.sampled.tree i way
    back m = either m (Contains-push_cases told block m.block (subst (λ (all : List Example). Contains all m.block) is m.told_is))

-- the way of a mark that is new is one that the tree goes
pub new_goes : (d : DescV) (most : ℕ) (block : Example) (old new : List (List Bool))
    → ((i way : ℕ) → IsMarked new i way ↔ (IsMarked old i way ⊎ Meets d 0 block.sampled.tree i way))
    → IsMarked new block.way.node block.way.number × ¬ IsMarked old block.way.node block.way.number
    → IsSample d (AtMost most) block.sampled
    → IsExample d most block
new_goes d most block old new marks first string =
    record { string = string; goes = cases ((marks block.way.node block.way.number).0 first.0) }
  where
    cases : IsMarked old block.way.node block.way.number ⊎ Meets d 0 block.sampled.tree block.way.node block.way.number
        → Meets d 0 block.sampled.tree block.way.node block.way.number
    cases (inl before) = absurd (first.1 before)
    cases (inr meets) = meets

-- a block more is told
pub examples_more : (d : DescV) (most : ℕ) (told more : List Example) (block : Example) → more ≡ told ++ block ∷ []
    → All (IsExample d most) told → IsExample d most block
    → All (IsExample d most) more
examples_more d most told more block is before here =
    subst (λ (all : List Example). All (IsExample d most) all) (sym is) (All-push (IsExample d most) told block before here)
