use Rattle.std.proofs.Common.{◌≡◌, ℕ, ◌%◌, ◌↔◌, nat_eq, subst, ap, ◌∙◌}
use Rattle.std.specs.Prelude.{IsTrue}
use Rattle.std.specs.FinSet as set
use Rattle.csn_look.proofs.Sets.Telling.{zero_test}
use Rattle.csn_look.proofs.Sets.LeavesTell.{lits_sets}
use Rattle.csn_look.proofs.known.literal.Goals as goal

pub returns : goal.returns
returns c =
    let len = c.len-len.result in
    λ d. lits_sets d c.args.run.now _ c.none.ensures.nullable
    (subst (λ (n : ℕ). IsTrue (nat_eq len 0) ↔ (n ≡ 0)) c.len-len.ensures.len (zero_test len))
    c.none.ensures.cut_empty
    (c.with.ensures ∙ ap (λ s. set.insert s (len % 8)) c.empty.ensures ∙ ap (λ (n : ℕ). set.insert set.empty (n % 8)) c.len-len.ensures.len)
    (c.literal_starts.ensures d)
    (c.literal_starts-2.ensures d)
