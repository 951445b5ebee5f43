use Rattle.std.proofs.Common.{rules, sym, ◌≡◌, ◌∙◌, ap, map, IsTrue, is_some, refl, arith, length}
use Rattle.std.proofs.lemmas.List.{length-map}
use Rattle.csn_command.proofs.Words.{two_members, if_none}
use Rattle.csn_command.proofs.command.reading_words.Goals as goal

pub returns-then-eq-clause-names : goal.returns-then-eq-clause-names
returns-then-eq-clause-names g c =
    let words = two_members c.args.words.now _ _ c.in-len2.len_at_least c.in-len2.len_below c.first-item.is c.reading-item.is in
    let first : g.W.AsStr.text c.first-item.result ≡ c.args.command.now = search rules in
    ap (map g.W.AsStr.text) words ∙ cc (first, c.as_str.ensures, c.in_ok-reading.ensures.named)

pub returns-else-eq-clause-none : goal.returns-else-eq-clause-none
returns-else-eq-clause-none g c = λ reading row.
    let words = two_members c.args.words.now _ _ c.in-len2.len_at_least c.in-len2.len_below c.first-item.is c.reading-item.is in
    let all = sym (ap (map g.W.AsStr.text) words) ∙ row in
    let first : g.W.AsStr.text c.first-item.result ≡ c.args.command.now = cc (all) in
    let yes : IsTrue c.eq.result = search rules in
    sym c.if-eq.false ∙ yes

pub returns-then-eq-clause-none : goal.returns-then-eq-clause-none
returns-then-eq-clause-none g c = λ reading row. refl

pub returns-in_default-clause-none : goal.returns-in_default-clause-none
returns-in_default-clause-none g c = λ reading row. absurd (omega (arith, c.in_default.len_below, ap length row, length-map c.args.words.now g.W.AsStr.text))

pub returns-in_default-2-clause-none : goal.returns-in_default-2-clause-none
returns-in_default-2-clause-none g c =
    λ reading row. absurd
    (omega (arith, c.in_default.len_at_least, ap length row, length-map c.args.words.now g.W.AsStr.text))

pub returns-in_err-reading-clause-names : goal.returns-in_err-reading-clause-names
returns-in_err-reading-clause-names g c = if_none c.from_residual.result _ c.from_residual.ensures

pub returns-in_err-reading-clause-none : goal.returns-in_err-reading-clause-none
returns-in_err-reading-clause-none g c = λ reading row.
    let words = two_members c.args.words.now _ _ c.in-len2.len_at_least c.in-len2.len_below c.first-item.is c.reading-item.is in
    let all = sym (ap (map g.W.AsStr.text) words) ∙ row in
    ap is_some c.from_residual.ensures ∙ c.in_err-reading.ensures.none reading (cc (all, c.as_str.ensures))
