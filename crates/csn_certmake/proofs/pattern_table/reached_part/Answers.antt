use Rattle.std.proofs.Common.{ℕ, List, [], ◌∷◌, ◌≡◌, ◌<◌, ◌+◌, length, length-append, ap, sym, ◌∙◌, subst, arith}
use Rattle.std.specs.FinSet as set
use Rattle.std.proofs.lemmas.Option.{get_or_from_slice_get}
use Rattle.csn_cert.specs.PatternV.{PatternV}
use Rattle.csn_certmake.specs.Patterns.{patterns_in}
use Rattle.csn_certmake.specs.Rows.{kept_if}
use Rattle.csn_certmake.proofs.Rows.{one_more}
use Rattle.csn_certmake.proofs.pattern_table.reached_part.Goals as goal

pub loop-octet-init : goal.loop-octet-init
loop-octet-init c = (ap length c.new-part.ensures, λ octet low. absurd (omega (arith, low)))

pub loop-octet-preserved : goal.loop-octet-preserved
loop-octet-preserved c =
    let octet = c.loop-octet.octet in
    let part = c.loop-octet.part in
    let row = c.args.row.now in
    let reached = c.args.reached.now in
    let P : ℕ → List PatternV → Type 0 = λ o l. l ≡ kept_if (set.contains reached o) (patterns_in row o) in
    let patterns = c.in_ok-kept_if.field-0.items in
    let there : patterns_in row octet ≡ c.at.result.now = get_or_from_slice_get row octet c.at.result.now [] c.at.ensures in
    let here : P octet patterns =
    c.in_ok-kept_if.ensures ∙ ap (λ keep. kept_if keep c.at.result.now) c.has.ensures ∙ ap (λ l. kept_if (set.contains reached octet) l) (sym there) in
    let each = one_more P part patterns octet c.loop-octet.invariant.0 c.loop-octet.invariant.1 here in (
      ap length c.in_ok-push.ensures ∙ length-append part (patterns ∷ []) ∙ ap (λ n. n + 1) c.loop-octet.invariant.0,
      subst (λ (l : List (List PatternV)). (o : ℕ) → o < octet + 1 → P o (patterns_in l o)) (sym c.in_ok-push.ensures) each,
    )

pub returns : goal.returns
returns c =
    record {
      eight = c.loop-octet.invariant.0 ∙ omega (arith, c.loop-octet-test.false, c.loop-octet.auto.octet-end);
      same = λ octet low. c.loop-octet.invariant.1 octet (omega (arith, low, c.loop-octet-test.false));
    }
