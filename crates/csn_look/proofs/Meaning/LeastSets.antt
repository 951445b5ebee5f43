-- The least sets keep their equations both ways: what an equation makes of the set of the parts is in the set of the node,
-- and each of it is made so. What is so of all that is made of members of which it is so, is so of all members.
use Rattle.std.proofs.Common.{◌≡◌, ℕ, ◌⊎◌, inl, inr, Bool, List, ◌∷◌, ◌++◌, Option, Some, None, slice_get, subst}
use Rattle.csn_desc.specs.declared.node.Node.{Node}
use Rattle.csn_desc.specs.Nodes.{DescV, parts_of}
use Rattle.csn_equations.specs.Least.{NodeHas}
use Rattle.csn_equations.specs.Nullable as null
use Rattle.csn_equations.specs.Ends as end
use Rattle.csn_equations.specs.Starts as start
use Rattle.csn_equations.specs.Keys as key
use Rattle.csn_equations.specs.Reached as reach
use Rattle.csn_equations.proofs.Late.{Late, always, then_late}
use Rattle.csn_equations.proofs.LeastFacts.{Finite, closes, opens, least}
use Rattle.csn_equations.proofs.NullableLate as nullable
use Rattle.csn_equations.proofs.EndsLate as ends
use Rattle.csn_equations.proofs.StartsLate as starts
use Rattle.csn_equations.proofs.KeysLate as keys
use Rattle.csn_equations.proofs.FollowLate as follow
use Rattle.csn_look.specs.Nullable.{MakesNullable, Nullable, NodeNullable}
use Rattle.csn_look.specs.Ends.{MakesEnds, InEnds, NodeEnds}
use Rattle.csn_look.specs.Starts.{MakesStart, InStart, NodeStarts}
use Rattle.csn_look.specs.Keys.{MakesKeys, InKeys, NodeKeys}
use Rattle.csn_look.specs.Reached.{OfPart, MakesFollow, InFollow, PartFollow}

-- members of the sets of which something else is so, too
abbrev pub NullableWith : DescV → (ℕ → Type 0) → ℕ → Type 0
NullableWith d Q i = Nullable d i × Q i

abbrev pub EndsWith : DescV → (ℕ → ℕ → ℕ → Type 0) → ℕ → ℕ → ℕ → Type 0
EndsWith d Q i o p = InEnds d i o p × Q i o p

abbrev pub StartWith : DescV → (ℕ → ℕ → ℕ → Type 0) → ℕ → ℕ → ℕ → Type 0
StartWith d Q i o bit = InStart d i o bit × Q i o bit

abbrev pub KeysWith : DescV → ℕ → (ℕ → ℕ → List ℕ → Bool → Type 0) → ℕ → ℕ → List ℕ → Bool → Type 0
KeysWith d most Q i o x mark = InKeys d most i o x mark × Q i o x mark

abbrev pub FollowWith : DescV → (ℕ → ℕ → Option ℕ → Type 0) → ℕ → ℕ → Option ℕ → Type 0
FollowWith d Q i o s = InFollow d i o s × Q i o s

-- a fact of a node that is so from some round on
node_late : {d : DescV} {i : ℕ} {P : Node → Type 0} {By : ℕ → Node → Type 0}
    → ((n : Node) → P n → Late (λ k. By k n)) → NodeHas d i P → Late (λ k. NodeHas d i (By k))
node_late late h = then_late (λ k has. record { node = h.node; at = h.at; has = has }) (late h.node h.has)

module _ {d : DescV} where
  -- ---- which nodes may have no bits

  finite_nullable : Finite (MakesNullable d)
  finite_nullable By P late i h = node_late (λ n has. nullable.node_late By P late has) h

  pub nullable_at : {i : ℕ} (n : Node) → slice_get d.nodes i ≡ Some n → NodeNullable d n → Nullable d i
  nullable_at {i} n at h = closes (MakesNullable d) finite_nullable i (record { node = n; at = at; has = h })

  pub nullable_of : {i : ℕ} → Nullable d i → NodeHas d i (NodeNullable d)
  nullable_of {i} h = opens (MakesNullable d) finite_nullable i h

  -- the same of a node that is known
  pub as_nullable : {i : ℕ} {n : Node} → slice_get d.nodes i ≡ Some n → Nullable d i → NodeNullable d n
  as_nullable {n = n} at h =
      let u = nullable_of h in
      let same : u.node ≡ n = cc (at, u.at) in
      subst (λ k. NodeNullable d k) same u.has

  pub each_nullable : (Q : ℕ → Type 0) → ((i : ℕ) → NodeHas d i (null.NodeNullable (NullableWith d Q)) → Q i) → {i : ℕ} → Nullable d i → Q i
  each_nullable Q closed {i} h = least (MakesNullable d) finite_nullable Q closed i h

  -- ---- where bits may end

  finite_ends : Finite (MakesEnds d)
  finite_ends By P late a h =
      node_late (λ n has. ends.node_late (λ k i o p. By k (i, (o, p))) (λ i o p. P (i, (o, p))) (λ i o p. late (i, (o, p))) d has) h

  pub ends_at : {i o p : ℕ} (n : Node) → slice_get d.nodes i ≡ Some n → NodeEnds d n o p → InEnds d i o p
  ends_at {i} {o} {p} n at h = closes (MakesEnds d) finite_ends (i, (o, p)) (record { node = n; at = at; has = h })

  pub ends_of : {i o p : ℕ} → InEnds d i o p → NodeHas d i (λ n. NodeEnds d n o p)
  ends_of {i} {o} {p} h = opens (MakesEnds d) finite_ends (i, (o, p)) h

  pub as_ends : {i o p : ℕ} {n : Node} → slice_get d.nodes i ≡ Some n → InEnds d i o p → NodeEnds d n o p
  as_ends {o = o} {p = p} {n = n} at h =
      let u = ends_of h in
      let same : u.node ≡ n = cc (at, u.at) in
      subst (λ k. NodeEnds d k o p) same u.has

  pub each_ends : (Q : ℕ → ℕ → ℕ → Type 0) → ((i o p : ℕ) → NodeHas d i (λ n. end.NodeEnds d (EndsWith d Q) n o p) → Q i o p)
      → {i o p : ℕ} → InEnds d i o p → Q i o p
  each_ends Q closed {i} {o} {p} h =
      least (MakesEnds d) finite_ends (λ a. Q a.0 a.1.0 a.1.1) (λ a made. closed a.0 a.1.0 a.1.1 made) (i, (o, p)) h

  -- ---- with which bits they may begin

  finite_starts : Finite (MakesStart d)
  finite_starts By P late a h =
      node_late (λ n has. starts.node_late (λ k. Nullable d) (λ k. InEnds d) (λ k i o bit. By k (i, (o, bit)))
      (Nullable d) (InEnds d) (λ i o bit. P (i, (o, bit))) (λ i none. always (λ k. none)) (λ i o p over. always (λ k. over))
      (λ i o bit. late (i, (o, bit))) d has) h

  pub starts_at : {i o bit : ℕ} (n : Node) → slice_get d.nodes i ≡ Some n → NodeStarts d n o bit → InStart d i o bit
  starts_at {i} {o} {bit} n at h = closes (MakesStart d) finite_starts (i, (o, bit)) (record { node = n; at = at; has = h })

  pub starts_of : {i o bit : ℕ} → InStart d i o bit → NodeHas d i (λ n. NodeStarts d n o bit)
  starts_of {i} {o} {bit} h = opens (MakesStart d) finite_starts (i, (o, bit)) h

  pub as_starts : {i o bit : ℕ} {n : Node} → slice_get d.nodes i ≡ Some n → InStart d i o bit → NodeStarts d n o bit
  as_starts {o = o} {bit = bit} {n = n} at h =
      let u = starts_of h in
      let same : u.node ≡ n = cc (at, u.at) in
      subst (λ k. NodeStarts d k o bit) same u.has

  pub each_start : (Q : ℕ → ℕ → ℕ → Type 0)
      → ((i o bit : ℕ) → NodeHas d i (λ n. start.NodeStarts d (Nullable d) (InEnds d) (StartWith d Q) n o bit) → Q i o bit)
      → {i o bit : ℕ} → InStart d i o bit → Q i o bit
  each_start Q closed {i} {o} {bit} h =
      least (MakesStart d) finite_starts (λ a. Q a.0 a.1.0 a.1.1) (λ a made. closed a.0 a.1.0 a.1.1 made) (i, (o, bit)) h

  -- ---- what may follow them

  finite_follow : (By : ℕ → ℕ × (ℕ × Option ℕ) → Type 0) (P : ℕ × (ℕ × Option ℕ) → Type 0)
      → ((a : ℕ × (ℕ × Option ℕ)) → P a → Late (λ k. By k a)) → (a : ℕ × (ℕ × Option ℕ)) → MakesFollow d P a
      → Late (λ k. MakesFollow d (By k) a)
  finite_follow By P late a (inl root) = always (λ k. inl root)
  finite_follow By P late a (inr h) =
      then_late (λ k so. inr (record { above = h.above; node = h.node; before = h.before; after = h.after; at = h.at; split = h.split; so = so }))
      (follow.part_late (Nullable d) (InEnds d) (InStart d) (λ k i o s. By k (i, (o, s))) (λ i o s. P (i, (o, s)))
      (λ i o s. late (i, (o, s))) h.so)

  pub follow_root : {i o : ℕ} {s : Option ℕ} → i ≡ 0 → s ≡ None → InFollow d i o s
  follow_root {i} {o} {s} root none = closes (MakesFollow d) finite_follow (i, (o, s)) (inl (root, none))

  pub follow_part : {i o : ℕ} {s : Option ℕ} (k : ℕ) (n : Node) (before after : List ℕ) → slice_get d.nodes k ≡ Some n
      → parts_of n ≡ before ++ i ∷ after → PartFollow d n k after i o s → InFollow d i o s
  follow_part {i} {o} {s} k n before after at split so =
      closes (MakesFollow d) finite_follow (i, (o, s))
      (inr (record { above = k; node = n; before = before; after = after; at = at; split = split; so = so }))

  pub follow_of : {i o : ℕ} {s : Option ℕ} → InFollow d i o s
      → ((i ≡ 0) × (s ≡ None)) ⊎ OfPart d i (λ k n after. PartFollow d n k after i o s)
  follow_of {i} {o} {s} h = opens (MakesFollow d) finite_follow (i, (o, s)) h

  pub each_follow : (Q : ℕ → ℕ → Option ℕ → Type 0)
      → ((i o : ℕ) (s : Option ℕ) → ((i ≡ 0) × (s ≡ None))
      ⊎ OfPart d i (λ k n after. reach.PartFollow (Nullable d) (InEnds d) (InStart d) (FollowWith d Q) n k after i o s) → Q i o s)
      → {i o : ℕ} {s : Option ℕ} → InFollow d i o s → Q i o s
  each_follow Q closed {i} {o} {s} h =
      least (MakesFollow d) finite_follow (λ a. Q a.0 a.1.0 a.1.1) (λ a made. closed a.0 a.1.0 a.1.1 made) (i, (o, s)) h

module _ {d : DescV} {most : ℕ} where
  -- ---- their keys

  finite_keys : Finite (MakesKeys d most)
  finite_keys By P late a h =
      node_late (λ n has. keys.node_late most (λ k i o x mark. By k (i, (o, (x, mark)))) (λ i o x mark. P (i, (o, (x, mark))))
      (λ i o x mark. late (i, (o, (x, mark)))) d has) h

  pub keys_at : {i o : ℕ} {x : List ℕ} {mark : Bool} (n : Node) → slice_get d.nodes i ≡ Some n → NodeKeys d most n o x mark
      → InKeys d most i o x mark
  keys_at {i} {o} {x} {mark} n at h =
      closes (MakesKeys d most) finite_keys (i, (o, (x, mark))) (record { node = n; at = at; has = h })

  pub keys_of : {i o : ℕ} {x : List ℕ} {mark : Bool} → InKeys d most i o x mark → NodeHas d i (λ n. NodeKeys d most n o x mark)
  keys_of {i} {o} {x} {mark} h = opens (MakesKeys d most) finite_keys (i, (o, (x, mark))) h

  pub as_keys : {i o : ℕ} {x : List ℕ} {mark : Bool} {n : Node} → slice_get d.nodes i ≡ Some n
      → InKeys d most i o x mark → NodeKeys d most n o x mark
  as_keys {o = o} {x = x} {mark = mark} {n = n} at h =
      let u = keys_of h in
      let same : u.node ≡ n = cc (at, u.at) in
      subst (λ k. NodeKeys d most k o x mark) same u.has

  pub each_key : (Q : ℕ → ℕ → List ℕ → Bool → Type 0)
      → ((i o : ℕ) (x : List ℕ) (mark : Bool) → NodeHas d i (λ n. key.NodeKeys d most (KeysWith d most Q) n o x mark) → Q i o x mark)
      → {i o : ℕ} {x : List ℕ} {mark : Bool} → InKeys d most i o x mark → Q i o x mark
  each_key Q closed {i} {o} {x} {mark} h =
      least (MakesKeys d most) finite_keys (λ a. Q a.0 a.1.0 a.1.1.0 a.1.1.1)
      (λ a made. closed a.0 a.1.0 a.1.1.0 a.1.1.1 made) (i, (o, (x, mark))) h
