use Rattle.std.proofs.Common.{◌≡◌, ◌+◌, ◌*◌, ℕ, List, sym, ap, ◌∙◌, subst, arith, length}
use Rattle.std.specs.Prelude.{slice_set}
use Rattle.std.proofs.lemmas.Option.{slice_get_within}
use Rattle.csn_desc.specs.declared.node.Node.TheVariants.{Choice}
use Rattle.csn_look.specs.Reached.{Reached}
use Rattle.csn_certify.specs.PickTables.{PickTableV, PickTablesV, HasNumber, HaveTables}
use Rattle.csn_certify.proofs.TableFacts.{tables_more, tables_past}
use Rattle.csn_certify.proofs.pick_tables.PickTables.add_choice.Goals.{then-has+in_ok-number, else-has}
use Rattle.csn_certify.proofs.SearchFacts.{in_table}
use Rattle.csn_certify.proofs.pick_tables.PickTables.add_choice.Goals as goal

pub loop-octet-preserved : goal.loop-octet-preserved
loop-octet-preserved c =
    let less = c.loop-octet-test.true in
    let d = c.args.known.now.desc.now in
    let node = c.args.node in
    let octet = c.loop-octet.octet in
    let parts = c.args.parts.now in
    let inside = slice_get_within d.nodes node (Choice parts) c.requires.choice in
    let P : PickTablesV → Type 0 = λ picks. HaveTables d (8 * node + (octet + 1)) picks in
    elim c.if-has.branch [
      | then-has+in_ok-number w ↦
          let more = w.in_ok-number.ensures.more in
          let numbers : w.put.new.self.numbers ≡ slice_set c.loop-octet.self.numbers (8 * node + octet) w.in_ok-number.number =
          w.put.ensures.numbers ∙ ap (λ l. slice_set l w.place.result w.in_ok-number.number) w.in_ok-number.ensures.numbers
          ∙ ap (λ n. slice_set c.loop-octet.self.numbers n w.in_ok-number.number) w.place.ensures in
          let Q : List PickTableV → Type 0 = λ tables. HasNumber d parts octet tables w.in_ok-number.number in
          subst P (sym w.self-is)
          (tables_more d node octet w.in_ok-number.number parts c.loop-octet.self w.put.new.self more.0 inside (omega arith) c.requires.choice
          (w.put.ensures.tables ∙ more.1) numbers (subst Q (sym w.put.ensures.tables) w.in_ok-number.ensures.number) c.loop-octet.invariant)
      | else-has w ↦
          let absent = w.if-has.false in
          subst P (sym w.self-is)
          (tables_past d (8 * node + octet) (8 * node + (octet + 1)) c.loop-octet.self
          (λ i o those low high small at reached.
          let node_is : i ≡ node = omega (arith, low, high, small, less) in
          let octet_is : o ≡ octet = omega (arith, low, high, small, less) in
          let here = subst (λ (k : ℕ). Reached d node k) octet_is (subst (λ (k : ℕ). Reached d k o) node_is reached) in
          let has = (c.reached.ensures d c.requires.known.reached octet (omega arith)).1 here in
          let told = c.has.ensures in
          cc)
          c.loop-octet.invariant)
    ]

pub reached-requires : goal.reached-requires
reached-requires c =
    in_table c.requires.known.reached.same (slice_get_within c.args.known.now.desc.now.nodes c.args.node (Choice c.args.parts.now) c.requires.choice)

pub has-requires : goal.has-requires
has-requires c = omega (arith, c.loop-octet-test.true)

pub number-requires-clause-octet : goal.number-requires-clause-octet
number-requires-clause-octet c = omega (arith, c.loop-octet-test.true)

pub number-requires-clause-reached : goal.number-requires-clause-reached
number-requires-clause-reached c =
    (c.reached.ensures c.args.known.now.desc.now c.requires.known.reached c.loop-octet.octet
    (omega (arith, c.loop-octet-test.true))).0 (sym c.has.ensures ∙ c.if-has.true)

pub put-requires : goal.put-requires
put-requires c =
    let inside = slice_get_within c.args.known.now.desc.now.nodes c.args.node (Choice c.args.parts.now) c.requires.choice in
    omega (arith, inside, c.place.ensures, ap length c.in_ok-number.ensures.numbers, c.loop-octet.invariant.size, c.loop-octet-test.true)

pub returns : goal.returns
returns c =
    let all : 8 * c.args.node + c.loop-octet.octet ≡ 8 * (c.args.node + 1) = omega (arith, c.loop-octet-test.false) in
    subst (λ (n : ℕ). HaveTables c.args.known.now.desc.now n c.loop-octet.self) all c.loop-octet.invariant
