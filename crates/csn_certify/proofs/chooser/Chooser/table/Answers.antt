use Rattle.std.proofs.Common.{◌≡◌, ◌+◌, ℕ, List, length, Option, Some, subst, sym, ap, ◌∙◌, arith}
use Rattle.csn_look.proofs.Handing.ReachedParts.{written_back}
use Rattle.csn_certify.specs.declared.pick_table.Entry.{Entry}
use Rattle.csn_certify.specs.PickTables.{HasEntries}
use Rattle.csn_certify.proofs.FillingFacts.{fresh_empty}
use Rattle.csn_certify.proofs.ChooserFacts.{AllTell, NonesTold, deep_table, all_first, all_null, all_marks, nones_first, nones_null, nones_marks, table_done}
use Rattle.csn_certify.proofs.chooser.Chooser.table.Goals.{in-None, in-Some}
use Rattle.csn_certify.proofs.chooser.Chooser.table.Goals as goal

pub fill-requires-clause-deep : goal.fill-requires-clause-deep
fill-requires-clause-deep c =
    let count = c.len-j-end.ensures.len in
    let test = c.loop-j-test.true in
    deep_table c.args.self.now.desc.now c.args.self.now.parts.now c.args.self.now.octet c.loop-j.j
    c.width-width.result c.in-Some.table.now c.new.result (omega arith) c.new.ensures c.in-Some.ensures
    c.width-width.ensures.deep

pub loop-j-preserved : goal.loop-j-preserved
loop-j-preserved c =
    let d = c.args.self.now.desc.now in
    let parts = c.args.self.now.parts.now in
    let octet = c.args.self.now.octet in
    let width = c.width-width.result in
    let j = c.loop-j.j in
    elim c.match-keys.branch [
      | in-None w ↦
          let P : List Entry → Type 0 = λ entries. HasEntries width entries × AllTell d parts octet (j + 1) (Some j)
          width entries × NonesTold d parts octet (j + 1) (Some j) in
          let Q : Option ℕ → Type 0 = λ none. HasEntries width c.match-keys.entries.items
          × AllTell d parts octet (j + 1) none width c.match-keys.entries.items × NonesTold d parts octet (j + 1)
          none in
          subst Q (sym w.none-is) (subst P (sym (ap (λ v. v.items) w.entries-is)) (
            c.loop-j.invariant.0,
            all_null d parts octet j width c.loop-j.none c.loop-j.entries.items w.in-None.ensures
                c.loop-j.invariant.1,
            nones_null d parts octet j w.in-None.ensures,
          ))
      | in-Some w ↦
          let P : List Entry → Type 0 = λ entries. HasEntries width entries × AllTell d parts octet (j + 1)
          c.loop-j.none width entries × NonesTold d parts octet (j + 1) c.loop-j.none in
          let Q : Option ℕ → Type 0 = λ none. HasEntries width c.match-keys.entries.items
          × AllTell d parts octet (j + 1) none width c.match-keys.entries.items × NonesTold d parts octet (j + 1)
          none in
          let R : List Entry → Type 0 = λ entries. AllTell d parts octet j c.loop-j.none width entries in
          let before = c.loop-j.invariant.0.count in
          let after = w.fill.ensures.size.count in
          let back : c.match-keys.entries.items ≡ w.fill.new.entries = ap (λ v. v.items) w.entries-is
          ∙ written_back w.fill.new.entries c.loop-j.entries.items c.loop-j.entries.len (after ∙ sym before)
          c.loop-j.entries.ok.0 in
          subst Q (sym w.none-is) (subst P (sym back) (
            w.fill.ensures.size,
            all_marks d parts octet j width c.loop-j.none w.in-Some.table.now w.as_mut_slice.result.now
                w.fill.new.entries w.in-Some.ensures w.new.result w.new.ensures w.fill.ensures.fills
                (subst R (sym w.as_mut_slice.ensures.value) c.loop-j.invariant.1),
            nones_marks d parts octet j c.loop-j.none w.in-Some.table.now w.in-Some.ensures c.loop-j.invariant.2,
          ))
    ]

pub returns : goal.returns
returns c =
    let d = c.args.self.now.desc.now in
    let parts = c.args.self.now.parts.now in
    let count = c.len-j-end.ensures.len in
    let end = c.loop-j-test.false in
    record {
      size = c.loop-j.invariant.0;
      tells = table_done d parts c.args.self.now.octet (length parts) c.loop-j.j c.width-width.result c.loop-j.none
          c.loop-j.entries.items c.requires.apart c.loop-j.invariant.2 c.width-width.ensures.deep (omega arith)
          (omega arith) c.loop-j.invariant.1;
    }

pub fill-requires-clause-fresh : goal.fill-requires-clause-fresh
fill-requires-clause-fresh c = fresh_empty c.in-Some.table.now c.new.result c.new.ensures

pub loop-j-init : goal.loop-j-init
loop-j-init c =
    let empty = c.in_ok-entries.ensures in (
      empty.size,
      all_first c.args.self.now.desc.now c.args.self.now.parts.now c.args.self.now.octet c.width-width.result c.in_ok-entries.entries.items empty,
      nones_first c.args.self.now.desc.now c.args.self.now.parts.now c.args.self.now.octet,
    )
