use Rattle.std.proofs.Common.{◌≡◌, [], ◌∷◌, ◌++◌, List, ℕ, Option, refl, sym, ap, ◌∙◌, subst, IfSome}
use Rattle.std.proofs.lemmas.Bool.{false≢true}
use Rattle.std.proofs.lemmas.Result.{err_from_is_err_and}
use Rattle.csn_cert.specs.PatternV.{PatternV}
use Rattle.csn_cert.specs.PatternText.{ComesBefore, pattern_text}
use Rattle.csn_cert.specs.CertificateV.{IsPattern}
use Rattle.csn_cert.specs.Reading.{Lacks, Anything}
use Rattle.csn_cert.proofs.Refusals.{passed}
use Rattle.csn_cert.proofs.Lines.{PatternsRead, no_patterns, no_first_pattern, no_next_pattern, no_pattern_behind}
use Rattle.csn_cert.proofs.Lines.{no_line_feed, some_last, first_read, next_read, patterns_stand}
use Rattle.csn_cert.proofs.read.read_patterns.Goals as goal

pub returns-in_err-expect-clause-refused : goal.returns-in_err-expect-clause-refused
returns-in_err-expect-clause-refused c =
    let p = err_from_is_err_and c.from_residual.result c.from_residual.ensures.1 in
    passed c.from_residual.result p.0 c.in_err-expect.field-0.0 p.1 p.2
    (no_patterns c.args.text.now c.take.new.self c.if-take.ensures.yes) c.in_err-expect.ensures.refused

pub returns-in_err-last-clause-refused : goal.returns-in_err-last-clause-refused
returns-in_err-last-clause-refused c =
    let p = err_from_is_err_and c.from_residual-in_err-last.result c.from_residual-in_err-last.ensures.1 in
    passed c.from_residual-in_err-last.result p.0 c.in_err-last.field-0.0 p.1 p.2
    (λ never. no_first_pattern c.args.text.now c.if-take.ensures.no
    (subst (λ (t : List ℕ). Lacks IsPattern Anything pattern_text t) c.if-take.ensures.stays never))
    c.in_err-last.ensures.refused

pub returns-in_err-next-clause-refused : goal.returns-in_err-next-clause-refused
returns-in_err-next-clause-refused c =
    let p = err_from_is_err_and c.from_residual-in_err-next.result c.from_residual-in_err-next.ensures.1 in
    passed c.from_residual-in_err-next.result p.0 c.in_err-next.field-0.0 p.1 p.2 (λ never.
    let read = c.patterns.invariant in
    no_next_pattern c.patterns.patterns.items c.args.text.now c.patterns.text c.take-in-patterns.new.self
    (some_last c.patterns.patterns.items c.patterns.last read.last)
    read.are.each read.spelled c.patterns-test.ensures.yes never) c.in_err-next.ensures.refused

pub returns-in_err-expect-2-clause-refused : goal.returns-in_err-expect-2-clause-refused
returns-in_err-expect-2-clause-refused c =
    let p = err_from_is_err_and c.from_residual-in_err-expect-2.result c.from_residual-in_err-expect-2.ensures.1 in
    passed c.from_residual-in_err-expect-2.result p.0 c.in_err-expect-2.field-0.0 p.1 p.2 (λ never.
    let read = c.patterns.invariant in
    no_line_feed c.patterns.patterns.items c.args.text.now c.patterns.text
    (some_last c.patterns.patterns.items c.patterns.last read.last)
    read.are.each read.spelled c.patterns-test.ensures.no
    (λ after same. never after (c.patterns-test.ensures.stays ∙ same))) c.in_err-expect-2.ensures.refused

pub patterns-init : goal.patterns-init
patterns-init c =
    let last = c.in_ok-last.last in
    let pushed : c.push.new.self.items ≡ last ∷ [] = c.in_ok-push.ensures.items ∙ ap (λ l. l ++ last ∷ []) c.new-patterns.ensures.items in
    subst (λ (ps : List PatternV). PatternsRead c.args.text.now ps last c.read_pattern.new.text) (sym pushed)
    (subst (λ (t : List ℕ). PatternsRead t (last ∷ []) last c.read_pattern.new.text) c.if-take.ensures.stays
    (first_read c.take.new.self c.read_pattern.new.text last c.in_ok-last.ensures.ok))

pub patterns-preserved : goal.patterns-preserved
patterns-preserved c =
    let next = c.in_ok-next.next in
    subst (λ (ps : List PatternV). PatternsRead c.args.text.now ps next c.read_pattern-in-patterns.new.text) (sym c.in_ok-push-2.ensures.items)
    (next_read c.args.text.now c.patterns.patterns.items c.patterns.last c.patterns.text c.take-in-patterns.new.self
    c.read_pattern-in-patterns.new.text next c.patterns.invariant c.patterns-test.ensures.yes
    c.in_ok-next.ensures.ok (c.if-not-comes_before.ensures.0 refl))

pub returns-then-not-comes_before-clause-refused : goal.returns-then-not-comes_before-clause-refused
returns-then-not-comes_before-clause-refused c =
    let next = c.in_ok-next.next in
    let read = c.patterns.invariant in
    no_pattern_behind c.patterns.patterns.items next c.args.text.now c.patterns.text c.take-in-patterns.new.self
    c.read_pattern-in-patterns.new.text (some_last c.patterns.patterns.items c.patterns.last read.last)
    read.are.each read.spelled c.patterns-test.ensures.yes c.in_ok-next.ensures.ok
    (λ before. let before' : ComesBefore c.patterns.last next =
    subst (λ (o : Option PatternV). IfSome o (λ p. ComesBefore p next)) read.last before in
    false≢true (c.if-not-comes_before.ensures.1 before'))

pub returns-clause-ok : goal.returns-clause-ok
returns-clause-ok c =
    patterns_stand c.args.text.now c.patterns.patterns.items c.patterns.last c.patterns.text c.expect-2.new.self
    c.patterns.invariant (sym c.patterns-test.ensures.stays ∙ c.in_ok-expect-2.ensures.ok)
