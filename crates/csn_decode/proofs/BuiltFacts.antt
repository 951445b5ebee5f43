-- What a move makes of what there is of a tree.
use Rattle.std.proofs.Common.{◌≡◌, ℕ, zero, suc, arith, Bool, true, false, List, [], ◌∷◌, refl, sym, ap, subst, append_assoc, append-nil, Some, None}
use Rattle.std.specs.Prelude.{OnOk, OnErr, ◌<◌, Result, Ok, Err, is_err}
use Rattle.csn_desc.specs.declared.moves.Move.{Move}
use Rattle.csn_desc.specs.declared.moves.Move.TheVariants.{Bit}
use Rattle.csn_desc.specs.declared.node.Node.{Node}
use Rattle.csn_bits.specs.Numbers.{low_bits}
use Rattle.csn_judge.specs.Told.{BitsTold}
use Rattle.csn_decode.specs.Built.{BuiltV, is_literal, with_bits, took_all, Grows, Makes, unless}

pub with_bits-none : (literal : Bool) (bits : List ℕ) → with_bits literal [] bits ≡ bits
with_bits-none true bits = refl
with_bits-none false bits = append-nil bits

pub with_bits-more : (literal : Bool) (bit : ℕ) (more bits : List ℕ)
    → with_bits literal more (with_bits literal (bit ∷ []) bits) ≡ with_bits literal (bit ∷ more) bits
with_bits-more true bit more bits = refl
with_bits-more false bit more bits = append_assoc bits (bit ∷ []) more

pub took_none : (node : Node) (v : BuiltV) → took_all node [] v ≡ v
took_none node v = ap (λ l. record { nodes = v.nodes; bits = l; whole = v.whole }) (with_bits-none (is_literal node) v.bits)

pub took_more : (node : Node) (bit : ℕ) (more : List ℕ) (v : BuiltV) → took_all node more (took_all node (bit ∷ []) v) ≡ took_all node (bit ∷ more) v
took_more node bit more v = ap (λ l. record { nodes = v.nodes; bits = l; whole = v.whole }) (with_bits-more (is_literal node) bit more v.bits)

-- while there is memory
pub makes_on : (v u : BuiltV) (move : Move) (node : Node) → Grows v move node u → Makes (Some v) move node (Some u)
makes_on v u move node grows = record { before = v; old_is = refl; grows = grows }

-- some bits, while there is memory
pub told_on : (node : Node) (bits : List ℕ) (v : BuiltV) → BitsTold Makes node bits (Some v) (Some (took_all node bits v))
told_on node [] v = ap Some (took_none node v)
told_on node (bit ∷ bits) v =
    let P : BuiltV → Type 0 = λ u. BitsTold Makes node bits (Some (took_all node (bit ∷ []) v)) (Some u) in (
      Some (took_all node (bit ∷ []) v),
      makes_on v (took_all node (bit ∷ []) v) (Bit bit) node refl,
      subst P
          (took_more node bit bits v) (told_on node bits (took_all node (bit ∷ []) v)),
    )

-- nothing is made once memory was refused
pub told_refused : (node : Node) (bits : List ℕ) → BitsTold Makes node bits None None
told_refused node [] = refl
told_refused node (bit ∷ bits) = (None, tt, told_refused node bits)

-- memory is refused to some bits
pub told_off : (node : Node) (bit : ℕ) (bits : List ℕ) (v : BuiltV) → BitsTold Makes node (bit ∷ bits) (Some v) None
told_off node bit bits v = (None, tt, told_refused node bits)

-- bits that the builder takes, which memory may be refused to
pub told_taken : {E : Type 0} (r : Result (Unit {0}) E) (node : Node) (count number : ℕ) (v u : BuiltV)
    → OnOk r (u ≡ took_all node (low_bits count number) v) → OnErr r (0 < count)
    → BitsTold Makes node (low_bits count number) (Some v) (unless (is_err r) u)
told_taken (Ok x) node count number v u ok some =
    let P : BuiltV → Type 0 = λ w. BitsTold Makes node (low_bits count number) (Some v) (Some w) in
    subst P (sym ok) (told_on node (low_bits count number) v)
told_taken (Err e) node zero number v u ok some = absurd (omega (arith, some))
told_taken (Err e) node (suc count) number v u ok some = told_off node _ (low_bits count number) v

-- while no memory was refused
pub building : (refused : Bool) (v : BuiltV) → refused ≡ false → unless refused v ≡ Some v
building refused v off = ap (λ b. unless b v) off

pub wanting : (refused : Bool) (v : BuiltV) → refused ≡ true → unless refused v ≡ None
wanting refused v on = ap (λ b. unless b v) on

-- ---- what a call answered

pub if_ok : {R E : Type 0} (r : Result R E) {P Q : Type 0} → (P → Q) → OnOk r P → OnOk r Q
if_ok (Ok x) f p = f p
if_ok (Err e) f p = tt
