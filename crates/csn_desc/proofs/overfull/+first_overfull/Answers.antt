-- Part by part.
use Rattle.std.proofs.Common.{◌≡◌, ◌↔◌, ℕ, suc, ◌+◌, ◌<◌, ◌≤◌, ◌&&◌, Bool, true, false, if◌then◌else◌, List, length}
use Rattle.std.proofs.Common.{refl, sym, ◌∙◌, ap, subst, arith, add-one, get_or, nat_lt, IsTrue}
use Rattle.csn_desc.specs.declared.node.Node.{Node}
use Rattle.csn_desc.specs.Nodes.{parts_of}
use Rattle.csn_desc.specs.Values.{is_named}
use Rattle.csn_desc.specs.Formed.{is_counted, shows_earlier, counted_marks}
use Rattle.csn_desc.specs.Crowds.{Counts, NoneCrowded, FirstCrowded}
use Rattle.csn_desc.proofs.MarkFacts.{mark_is, marks_long}
use Rattle.csn_desc.proofs.CrowdFacts.{GoesOn, NotHere, begins, parts_count, counts_within, counts_deep, counts_next}
use Rattle.csn_desc.proofs.CrowdFacts.{goes_on, amount_goes_on, first_found, none_found, none_up, first_up}
use Rattle.csn_desc.proofs.CrowdFacts.{first_itself}
use Rattle.csn_desc.proofs.overfull.+first_overfull.Goals as goal

not_here :
    (nodes : List Node) (marks : List Bool) (i before deep : ℕ) (answer : Bool) → marks ≡ counted_marks nodes → Counts nodes i before deep
    → (IsTrue answer ↔ ((64 ≤ before) × IsTrue (get_or marks i false))) → answer ≡ false → NotHere nodes i before
not_here nodes marks i before deep answer are counts says negative full counted =
    let mark = mark_is nodes marks i are (counts_within nodes counts) in
    let yes : answer ≡ true = says.1 (full, mark ∙ counted) in
    cc

pub is_crowded-requires : goal.is_crowded-requires
is_crowded-requires n c =
    omega (arith, marks_long c.args.nodes.now c.args.counted.now c.requires.marks, counts_within c.args.nodes.now c.requires.sees)

pub returns-then-is_crowded-clause-some : goal.returns-then-is_crowded-clause-some
returns-then-is_crowded-clause-some n c =
    let nodes = c.args.nodes.now in
    let crowded = c.is_crowded.ensures.0 c.if-is_crowded.true in
    let mark = mark_is nodes c.args.counted.now c.args.i c.requires.marks (counts_within nodes c.requires.sees) in
    first_itself nodes c.args.i c.args.before c.args.deep crowded.0 (sym mark ∙ crowded.1)

pub one_node-node-requires : goal.one_node-node-requires
one_node-node-requires n c = counts_within c.args.nodes.now c.requires.sees

pub loop-at-init : goal.loop-at-init
loop-at-init n c = begins c.args.nodes.now (parts_of c.one_node-node.result.now) (shows_earlier c.one_node-node.result.now) c.args.before (suc c.args.deep)

pub first_overfull-requires : goal.first_overfull-requires
first_overfull-requires n c =
    let nodes = c.args.nodes.now in
    let node = c.one_node-node.result.now in
    let few : c.args.deep < 64 = counts_deep nodes c.requires.sees in
    let among = parts_count nodes node c.one_node-node.ensures refl refl c.requires.sees in
    let counts : Counts nodes c.part_at-part.result c.loop-at.seen (suc c.args.deep) =
    counts_next nodes (parts_of node) (shows_earlier node) (suc c.args.deep) c.loop-at.at c.part_at-part.result
    c.part_at-part.ensures c.loop-at.invariant among in
    let P : ℕ → Type 0 = λ k. Counts nodes c.part_at-part.result c.loop-at.seen k in
    (omega (arith, few), (c.requires.marks, subst P (sym (add-one c.args.deep)) counts))

pub returns-in-Some-clause-some : goal.returns-in-Some-clause-some
returns-in-Some-clause-some n c =
    let nodes = c.args.nodes.now in
    let node = c.one_node-node.result.now in
    let P : ℕ → Type 0 = λ k. FirstCrowded nodes c.part_at-part.result c.loop-at.seen k c.in-Some.field in
    let apart = not_here nodes c.args.counted.now c.args.i c.args.before c.args.deep c.is_crowded.result
    c.requires.marks c.requires.sees c.is_crowded.ensures c.if-is_crowded.false in
    first_up nodes c.args.i c.args.before c.args.deep (parts_of node) (shows_earlier node) node c.one_node-node.ensures refl refl apart c.in-Some.field
    (first_found nodes (parts_of node) (shows_earlier node) (suc c.args.deep) c.loop-at.at c.part_at-part.result c.part_at-part.ensures
    c.args.before c.loop-at.seen c.in-Some.field (subst P (add-one c.args.deep) c.in-Some.ensures.some) c.loop-at.invariant)

pub amount_behind-seen-requires : goal.amount_behind-seen-requires
amount_behind-seen-requires n c =
    let nodes = c.args.nodes.now in
    let node = c.one_node-node.result.now in
    let counts = counts_next nodes (parts_of node) (shows_earlier node) (suc c.args.deep)
    c.loop-at.at c.part_at-part.result c.part_at-part.ensures c.loop-at.invariant
    (parts_count nodes node c.one_node-node.ensures refl refl c.requires.sees) in
    omega (arith, marks_long nodes c.args.counted.now c.requires.marks, counts_within nodes counts)

pub loop-at-preserved : goal.loop-at-preserved
loop-at-preserved n c =
    let nodes = c.args.nodes.now in
    let node = c.one_node-node.result.now in
    let part = c.part_at-part.result in
    let before = c.loop-at.seen in
    let after = c.amount_behind-seen.result in
    let counts = counts_next nodes (parts_of node) (shows_earlier node) (suc c.args.deep) c.loop-at.at part c.part_at-part.ensures c.loop-at.invariant
    (parts_count nodes node c.one_node-node.ensures refl refl c.requires.sees) in
    let mark : get_or c.args.counted.now part false ≡ is_counted nodes part =
    mark_is nodes c.args.counted.now part c.requires.marks (counts_within nodes counts) in
    let next : after ≡ (if shows_earlier node && (is_named nodes part && (is_counted nodes part && nat_lt before 64)) then before + 1 else before) =
    c.amount_behind-seen.ensures
    ∙ ap (λ b. if b && (is_named nodes part && (get_or c.args.counted.now part false && nat_lt before 64))
    then before + 1 else before) c.shows_earlier-shows.ensures
    ∙ ap (λ b. if shows_earlier node && (is_named nodes part && (b && nat_lt before 64)) then before + 1 else before) mark in
    let P : ℕ → Type 0 = λ k. NoneCrowded nodes part before k in
    let Q : ℕ → Type 0 = λ k. GoesOn nodes (parts_of node) (shows_earlier node) c.args.before (suc c.args.deep) k after in
    subst Q (sym (add-one c.loop-at.at))
    (goes_on nodes (parts_of node) (shows_earlier node) (suc c.args.deep) c.loop-at.at part c.part_at-part.ensures c.args.before before after
    (amount_goes_on nodes (shows_earlier node) part before after next) (subst P (add-one c.args.deep) c.in_default.ensures.none) c.loop-at.invariant)

pub returns-clause-none : goal.returns-clause-none
returns-clause-none n c =
    let nodes = c.args.nodes.now in
    let node = c.one_node-node.result.now in
    let apart = not_here nodes c.args.counted.now c.args.i c.args.before c.args.deep c.is_crowded.result
    c.requires.marks c.requires.sees c.is_crowded.ensures c.if-is_crowded.false in
    let all : length (parts_of node) ≤ c.loop-at.at = omega (arith, c.part_count-at-end.ensures, c.loop-at-test.false) in
    none_up nodes c.args.i c.args.before c.args.deep (parts_of node) (shows_earlier node) node c.one_node-node.ensures refl refl apart
    (none_found nodes (parts_of node) (shows_earlier node) c.args.before (suc c.args.deep) c.loop-at.at c.loop-at.seen all c.loop-at.invariant)
