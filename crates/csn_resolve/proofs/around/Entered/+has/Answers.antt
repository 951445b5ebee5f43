use Rattle.std.proofs.Common.{◌≡◌, true, false, sym, ◌∙◌, ap}
use Rattle.csn_grammar.specs.Names.{same_name}
use Rattle.csn_resolve.specs.Walk.{is_among}
use Rattle.csn_resolve.specs.Views.{entered_view}
use Rattle.csn_resolve.proofs.Naming.ViewFacts.{entered-Rule, entered-Nothing, among-here, among-later}
use Rattle.csn_resolve.proofs.around.Entered.+has.Goals as goal

pub returns-in-Nothing : goal.returns-in-Nothing
returns-in-Nothing t c = sym (ap (λ e. is_among c.args.name.now (entered_view e)) c.in-Nothing.is ∙ ap (is_among c.args.name.now) entered-Nothing)

pub returns-then-eq : goal.returns-then-eq
returns-then-eq t c =
    let sure : same_name c.in-Rule.other.now c.args.name.now ≡ true = cc in
    let view = ap (λ e. is_among c.args.name.now (entered_view e)) c.in-Rule.is ∙ ap (is_among c.args.name.now)
    (entered-Rule c.in-Rule.other c.in-Rule.outer) in
    c.if-eq.true ∙ sym (view ∙ among-here c.args.name.now c.in-Rule.other.now _ sure)

pub returns-else-eq : goal.returns-else-eq
returns-else-eq t c =
    let unlike : same_name c.in-Rule.other.now c.args.name.now ≡ false = cc in
    let view = ap (λ e. is_among c.args.name.now (entered_view e)) c.in-Rule.is ∙ ap (is_among c.args.name.now)
    (entered-Rule c.in-Rule.other c.in-Rule.outer) in
    c.has.ensures ∙ sym (view ∙ among-later c.args.name.now c.in-Rule.other.now _ unlike)
