-- A part more of the node above.
use Rattle.std.proofs.Common.{◌≡◌, ◌<◌, ℕ, Option, Some, None, Result, Ok, Err, OnOk, OnErr, length, set, refl, sym, ◌∙◌, ap, subst, arith}
use Rattle.std.specs.Prelude.{slice_get}
use Rattle.csn_desc.specs.Building.{with_part}
use Rattle.csn_desc.specs.Nodes.{parts_of}
use Rattle.csn_desc.proofs.Entering.{get_within}
use Rattle.csn_desc.proofs.Innermost.{read_node, set_same}
use Rattle.csn_desc.proofs.begun.add_part_above.Goals as goal

none_some : {o : Option ℕ} {i : ℕ} → o ≡ None → o ≡ Some i → ⊥
none_some none some = cc

same_number : {o : Option ℕ} {i j : ℕ} → o ≡ Some i → o ≡ Some j → i ≡ j
same_number one other = cc

on_ok : {A E P Q : Type 0} (r : Result A E) → (P → Q) → OnOk r P → OnOk r Q
on_ok (Ok a) by h = by h
on_ok (Err e) by h = tt

on_err : {A E P Q : Type 0} (r : Result A E) → (P → Q) → OnErr r P → OnErr r Q
on_err (Ok a) by h = tt
on_err (Err e) by h = by h

pub index_mut-requires : goal.index_mut-requires
index_mut-requires c = let there = c.requires c.in-Some.above c.in-Some.is in omega (arith, get_within c.args.nodes.now.items c.in-Some.above there.0 there.1)

pub add_part-requires : goal.add_part-requires
add_part-requires c =
    let there = c.requires c.in-Some.above c.in-Some.is in
    let now = read_node c.args.nodes.now.items c.in-Some.above there.0 c.index_mut.result.now there.1 c.index_mut.ensures.value in
    subst (λ n. length (parts_of n) < 16384) (sym now) there.2

pub returns-in-None-clause-none : goal.returns-in-None-clause-none
returns-in-None-clause-none c = λ is. refl

pub returns-in-None-clause-some : goal.returns-in-None-clause-some
returns-in-None-clause-some c = λ i n is at. absurd (none_some c.in-None.is is)

pub returns-in-None-clause-err : goal.returns-in-None-clause-err
returns-in-None-clause-err c = tt

pub returns-in-Some-clause-none : goal.returns-in-Some-clause-none
returns-in-Some-clause-none c = λ is. absurd (none_some is c.in-Some.is)

pub returns-in-Some-clause-some : goal.returns-in-Some-clause-some
returns-in-Some-clause-some c = λ i n is at.
    let nodes = c.args.nodes.now.items in
    let above = c.in-Some.above in
    let same : above ≡ i = same_number c.in-Some.is is in
    let there : slice_get nodes above ≡ Some n = ap (λ k. slice_get nodes k) same ∙ at in
    let now = read_node nodes above n c.index_mut.result.now there c.index_mut.ensures.value in
    on_ok c.add_part.result (λ added.
    ap (λ k. set nodes k c.add_part.new.node) same ∙ ap (λ m. set nodes i m) (added ∙ ap (λ m. with_part c.args.part m) now)) c.add_part.ensures.ok

pub returns-in-Some-clause-err : goal.returns-in-Some-clause-err
returns-in-Some-clause-err c =
    let nodes = c.args.nodes.now.items in
    let above = c.in-Some.above in
    let there = c.requires above c.in-Some.is in
    on_err c.add_part.result (λ stays. ap (λ m. set nodes above m) stays ∙ set_same nodes above c.index_mut.result.now
    c.index_mut.ensures.value) c.add_part.ensures.err
