use Rattle.std.proofs.Common.{List, Option, sym, subst}
use Rattle.csn_cert.specs.PatternV.{PatternV}
use Rattle.csn_good.specs.Behind.{AreBehind}
use Rattle.csn_good.proofs.Conflicting.{no_pattern}
use Rattle.csn_good.proofs.Making.{in_none}
use Rattle.csn_good.proofs.made.Made.behind_at.Goals as goal

pub returns-then-not-has : goal.returns-then-not-has
returns-then-not-has c = λ p. (
  (λ h. absurd (in_none c.new-patterns.ensures h)),
  (λ h. absurd (no_pattern c.args.c.now c.args.i c.args.octet h.first c.has.result c.has.ensures c.if-not-has.true h.is_first)),
)

pub add_each-requires-clause-behind : goal.add_each-requires-clause-behind
add_each-requires-clause-behind c =
    subst (λ (l : List (Option (List PatternV))). AreBehind c.args.self.now.at.items c.args.octet l)
    (sym c.as_slice.ensures.value) c.in_ok-behind.ensures
