use Rattle.std.proofs.Common.{◌≡◌, ℕ, ◌<◌, ◌%◌, List, [], get_or, arith, subst}
use Rattle.std.proofs.lemmas.List.{get_or_read}
use Rattle.csn_look.specs.KeyTables.{IsKeyTable}
use Rattle.csn_look.specs.KeySteps.{Gains}
use Rattle.csn_look.proofs.Tables.Products.{AtSize, below_none, below_next, below_all}
use Rattle.csn_look.specs.KeyProducts.{AfterKeys}
use Rattle.csn_look.proofs.Tables.StartsMade.{extended}
use Rattle.csn_look.proofs.key_table.add_after.Goals as goal

pub loop-size-init : goal.loop-size-init
loop-size-init c = below_none c.args.first.now (λ size. get_or c.args.tables.now (get_or c.args.rests.now (size % 8) 0) []) c.args.marks.now

pub loop-size-preserved : goal.loop-size-preserved
loop-size-preserved c =
    let rests = λ (size : ℕ). get_or c.args.tables.now (get_or c.args.rests.now (size % 8) 0) [] in
    let low : c.loop-size.size % 8 < 8 = omega arith in
    let there = c.requires.known (c.loop-size.size % 8) low in
    let read : c.index-tables-rests.result ≡ rests c.loop-size.size =
    get_or_read c.args.tables.now (get_or c.args.rests.now (c.loop-size.size % 8) 0)
    c.index-tables-rests.result there c.index-tables-rests.is [] in
    let P : List ℕ → Type 0 = IsKeyTable in
    let Q : List ℕ → Type 0 = λ rest. Gains c.loop-size.marks c.add_after_size.new.marks (AtSize c.args.first.now rest c.loop-size.size) in
    below_next c.args.first.now rests c.loop-size.size c.args.marks.now c.loop-size.marks c.add_after_size.new.marks c.loop-size.invariant
    (subst Q read (c.add_after_size.ensures (subst P c.rest.view_is c.rest.invariant.0)))

pub returns : goal.returns
returns c =
    let rests = λ (size : ℕ). get_or c.args.tables.now (get_or c.args.rests.now (size % 8) 0) [] in
    extended c.args.marks.now c.loop-size.marks c.mark_starts.new.marks (AfterKeys c.args.first.now rests)
    (below_all c.args.first.now rests c.loop-size.size c.args.marks.now c.loop-size.marks (omega arith) c.loop-size.invariant)
    c.mark_starts.ensures (omega arith)
