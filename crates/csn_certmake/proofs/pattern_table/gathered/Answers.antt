use Rattle.std.proofs.Common.{◌≡◌, ◌++◌, [], List, ap, sym, ◌∙◌, length, arith, slice_index_or, take}
use Rattle.std.proofs.lemmas.Option.{get_or_from_slice_get}
use Rattle.csn_cert.specs.PatternV.{PatternV}
use Rattle.csn_certmake.specs.Patterns.{choice_of, patterns_at, patterns_in}
use Rattle.csn_certmake.proofs.Rows.{row_read, choice_next}
use Rattle.std.proofs.lemmas.List.{take_all}
use Rattle.csn_certmake.proofs.pattern_table.gathered.Goals as goal

pub at-requires : goal.at-requires
at-requires c =
    let i = c.get.result in
    let is : slice_index_or c.args.rows.now i [] ≡ c.index-rows-get.result =
    row_read c.args.rows.now i c.index-rows-get.result (c.requires.rows.there c.loop-at.at i c.get.ensures)
    c.index-rows-get.is in
    omega (arith, (c.requires.rows.rows c.loop-at.at i c.get.ensures).eight, ap length is, c.requires.octet)

pub loop-at-preserved : goal.loop-at-preserved
loop-at-preserved c =
    let i = c.get.result in
    let octet = c.args.octet in
    let is : slice_index_or c.args.rows.now i [] ≡ c.index-rows-get.result =
    row_read c.args.rows.now i c.index-rows-get.result (c.requires.rows.there c.loop-at.at i c.get.ensures)
    c.index-rows-get.is in
    let there : patterns_at c.args.rows.now i octet ≡ c.at.result.now =
    ap (λ (r : List (List PatternV)). patterns_in r octet) is
    ∙ get_or_from_slice_get c.index-rows-get.result octet c.at.result.now [] c.at.ensures in
    c.in_ok-extend_from_slice.ensures.items ∙ ap (λ l. l ++ c.at.result.now) c.loop-at.invariant
    ∙ ap (λ l. choice_of (patterns_at c.args.rows.now) (take c.loop-at.at c.args.parts.now) octet ++ l)
    (sym there)
    ∙ choice_next (patterns_at c.args.rows.now) c.args.parts.now c.loop-at.at i octet c.get.ensures

pub get-requires : goal.get-requires
get-requires c = omega (arith, c.loop-at-test.true, c.len-at-end.ensures.len)

pub bounds-rows-get : goal.bounds-rows-get
bounds-rows-get c = c.requires.rows.there c.loop-at.at c.get.result c.get.ensures

pub returns : goal.returns
returns c =
    c.loop-at.invariant
    ∙ ap (λ parts. choice_of (patterns_at c.args.rows.now) parts c.args.octet)
    (take_all c.loop-at.at c.args.parts.now (omega (arith, c.loop-at-test.false, c.len-at-end.ensures.len)))
