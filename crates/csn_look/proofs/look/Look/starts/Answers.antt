use Rattle.std.proofs.Common.{IsTrue, ◌↔◌, sym, subst}
use Rattle.csn_look.specs.declared.symbol_set.Sign.{Sign}
use Rattle.csn_look.specs.Starts.{StartsSign}
use Rattle.csn_look.specs.Signs.{bit_of_sign}
use Rattle.csn_look.proofs.Sets.Telling.{is_so}
use Rattle.csn_look.proofs.Sets.LookFacts.{known_sets}
use Rattle.csn_look.proofs.look.Look.starts.Goals as goal

pub returns-in-Zero : goal.returns-in-Zero
returns-in-Zero c = λ d look.
    subst (λ (s : Sign). IsTrue c.has.result ↔ StartsSign d c.args.node c.args.octet (bit_of_sign s)) (sym c.in-Zero.is)
    (is_so c.has.ensures ((known_sets d c.args.self.now.sets c.args.node c.of-sets.result look c.of-sets.ensures).zero c.args.octet c.requires.octet))

pub returns-in-One : goal.returns-in-One
returns-in-One c = λ d look.
    subst (λ (s : Sign). IsTrue c.has-in-One.result ↔ StartsSign d c.args.node c.args.octet (bit_of_sign s)) (sym c.in-One.is)
    (is_so c.has-in-One.ensures ((known_sets d c.args.self.now.sets c.args.node c.of-sets.result look c.of-sets.ensures).one c.args.octet c.requires.octet))
