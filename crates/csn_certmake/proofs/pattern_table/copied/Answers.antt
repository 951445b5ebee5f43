use Rattle.std.proofs.Common.{◌≡◌, ◌++◌, [], List, ap, sym, ◌∙◌, subst, arith}
use Rattle.std.proofs.lemmas.Option.{get_or_from_slice_get}
use Rattle.csn_cert.specs.PatternV.{PatternV}
use Rattle.csn_cert.specs.PatternText.{ComesBefore}
use Rattle.csn_cert.specs.CertificateV.{Rises}
use Rattle.csn_certmake.specs.Patterns.{patterns_in}
use Rattle.csn_certmake.proofs.Rows.{row_more, row_all, has_same}
use Rattle.csn_certmake.proofs.pattern_table.copied.Goals as goal

pub loop-octet-preserved : goal.loop-octet-preserved
loop-octet-preserved c =
    let octet = c.loop-octet.octet in
    let patterns = c.extend_from_slice.new.self.items in
    let there : patterns_in c.args.part.now octet ≡ c.at.result.now = get_or_from_slice_get c.args.part.now octet c.at.result.now [] c.at.ensures in
    let made : patterns ≡ patterns_in c.args.part.now octet = c.in_ok-extend_from_slice.ensures.items
    ∙ ap (λ l. l ++ c.at.result.now) c.new-patterns.ensures.items ∙ sym there in
    row_more (patterns_in c.args.part.now) c.loop-octet.row c.push.new.self octet patterns c.loop-octet.invariant
    (has_same patterns (patterns_in c.args.part.now octet) made)
    (subst (λ (l : List PatternV). Rises ComesBefore l) (sym made) (c.requires.rising octet (omega (arith, c.loop-octet-test.true)))) c.in_ok-push.ensures

pub returns : goal.returns
returns c = row_all (patterns_in c.args.part.now) c.loop-octet.row c.loop-octet.octet
    (omega (arith, c.loop-octet-test.false, c.loop-octet.auto.octet-end)) c.loop-octet.invariant
