use Rattle.std.proofs.Common.{◌≡◌, ◌+◌, ◌*◌, sym, ap, ◌∙◌, subst, arith, slice_get, Some, length, ℕ}
use Rattle.csn_desc.specs.declared.node.Node.TheVariants.{Choice}
use Rattle.csn_certify.specs.PickTables.{PickTablesV, HaveTables}
use Rattle.csn_certify.proofs.TableFacts.{tables_past}
use Rattle.csn_certify.proofs.pick_tables.PickTables.new.Goals.{in-Choice+in_ok-add_choice, in_default}
use Rattle.csn_certify.proofs.pick_tables.PickTables.new.Goals as goal

pub loop-node-preserved : goal.loop-node-preserved
loop-node-preserved c =
    let d = c.args.desc.now in
    let node = c.loop-node.node in
    let P : PickTablesV → Type 0 = λ picks. HaveTables d (8 * (node + 1)) picks in
    elim c.match-node.branch [
      | in-Choice+in_ok-add_choice w ↦ subst P (sym w.picks-is) w.in_ok-add_choice.ensures
      | in_default w ↦
          subst P (sym w.picks-is)
          (tables_past d (8 * node) (8 * (node + 1)) c.loop-node.picks
          (λ i o parts low high small at reached.
          let node_is : i ≡ node = omega (arith, low, high, small) in
          let here : slice_get d.nodes node ≡ Some (Choice parts) = ap (λ n. slice_get d.nodes n) (sym node_is) ∙ at in
          let told = c.node.ensures in
          w.in_default.not-Choice parts (cc))
          c.loop-node.invariant)
    ]

pub loop-node-init : goal.loop-node-init
loop-node-init c =
    record {
      size = omega (arith, c.in_ok-picks.ensures, c.len-count.ensures.len);
      tables = λ i o parts less small at reached. absurd (omega (arith, less));
    }

pub node-requires : goal.node-requires
node-requires c = omega (arith, c.len-count.ensures.len, c.loop-node-test.true)

pub add_choice-requires-clause-known : goal.add_choice-requires-clause-known
add_choice-requires-clause-known c =
    record {
      description = c.len-count.ensures.description;
      sets = c.requires.sets;
      keys = c.requires.keys;
      reached = c.requires.reached;
      follow = c.requires.follow;
    }

pub returns : goal.returns
returns c =
    let d = c.args.desc.now in
    let all : 8 * c.loop-node.node ≡ 8 * length d.nodes = omega (arith, c.len-count.ensures.len, c.loop-node-test.false) in
    subst (λ (n : ℕ). HaveTables d n c.loop-node.picks) all c.loop-node.invariant
