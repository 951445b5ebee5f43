use Rattle.std.proofs.Common.{◌≡◌, ◌+◌, ◌-◌, ◌%◌, ◌^◌, ◌==◌, sym, ap, ◌∙◌, subst, arith}
use Rattle.csn_treetext.specs.declared.version.Version.TheVariants.{Second}
use Rattle.csn_treetext.specs.reader.Machine.{with_tree, cut_octets}
use Rattle.csn_treetext.specs.reader.Reading.{Stands}
use Rattle.csn_treetext.proofs.Runs.{eqb-is, eqb-isnt}
use Rattle.csn_treetext.proofs.ReadingFacts.{led, gives_from}
use Rattle.csn_treetext.proofs.StopFacts.{slash_odd, slash_comes, tail_stops, tail_unclear, tail_ends, one_shifted}
use Rattle.csn_treetext.proofs.long.slash.Goals as goal

pub returns-then-last_octet-ne0 : goal.returns-then-last_octet-ne0
returns-then-last_octet-ne0 c =
    rw c.requires.second
    (slash_odd c.args.source.text.now c.args.at c.args.octets.now c.args.stack.now c.requires.comes c.requires.within c.requires.slash c.requires.some
    (ap (λ o. o % 2 == 0) (sym c.last_octet.ensures) ∙ eqb-isnt (c.last_octet.result % 2) 0 c.if-last_octet-ne0.true))

pub returns-in_default : goal.returns-in_default
returns-in_default c =
    let even = ap (λ o. o % 2 == 0) (sym c.last_octet.ensures) ∙ eqb-is (c.last_octet.result % 2) 0 c.if-last_octet-ne0.false in
    let e = slash_comes c.args.source.text.now c.args.at c.args.octets.now c.args.stack.now c.requires.comes
    c.requires.within c.requires.slash c.requires.some even in
    rw c.requires.second
    (tail_stops c.args.source.text.now (c.args.at + 1) c.args.octets.now c.args.stack.now (omega arith) e c.in_default.ensures.none)

pub returns-then-last_octet-used-ne0 : goal.returns-then-last_octet-used-ne0
returns-then-last_octet-used-ne0 c =
    let even = ap (λ o. o % 2 == 0) (sym c.last_octet.ensures) ∙ eqb-is (c.last_octet.result % 2) 0 c.if-last_octet-ne0.false in
    let e = slash_comes c.args.source.text.now c.args.at c.args.octets.now c.args.stack.now c.requires.comes
    c.requires.within c.requires.slash c.requires.some even in
    let (low, is, some, few) = c.in-Some.ensures.some in
    let unused = one_shifted c.in-Some.used some few in
    rw c.requires.second
    (tail_unclear c.args.source.text.now (c.args.at + 1) c.args.octets.now c.in-Some.used c.args.stack.now e low is some few
    (ap (λ o. o % 2 ^ (8 - c.in-Some.used) == 0) (sym c.last_octet-2.ensures)
    ∙ eqb-isnt (c.last_octet-2.result % 2 ^ (8 - c.in-Some.used)) 0 (rw unused at c.if-last_octet-used-ne0.true)))

pub octets_end-requires-clause-stands : goal.octets_end-requires-clause-stands
octets_end-requires-clause-stands c =
    let even = ap (λ o. o % 2 == 0) (sym c.last_octet.ensures) ∙ eqb-is (c.last_octet.result % 2) 0 c.if-last_octet-ne0.false in
    let e = slash_comes c.args.source.text.now c.args.at c.args.octets.now c.args.stack.now c.requires.comes
    c.requires.within c.requires.slash c.requires.some even in
    let (low, is, some, few) = c.in-Some.ensures.some in
    let unused = one_shifted c.in-Some.used some few in
    let clear = ap (λ o. o % 2 ^ (8 - c.in-Some.used) == 0) (sym c.last_octet-2.ensures)
    ∙ eqb-is (c.last_octet-2.result % 2 ^ (8 - c.in-Some.used)) 0 (rw unused at c.if-last_octet-used-ne0.false) in
    let count : c.args.at + 1 + 1 ≡ c.args.at + 2 = omega arith in
    let whole = led (tail_ends c.args.source.text.now (c.args.at + 1) c.args.octets.now c.in-Some.used c.args.stack.now e low is some few clear) in
    rw c.requires.second
    (subst (λ n. Stands Second c.args.source.text.now n (with_tree c.args.stack.now (cut_octets c.args.octets.now c.in-Some.used))) count whole)

pub returns : goal.returns
returns c = gives_from _ _ _ _ _ c.octets_end.result (omega arith) c.octets_end.ensures
