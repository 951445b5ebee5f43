use Rattle.std.proofs.Common.{◌≡◌, subst}
use Rattle.std.specs.Prelude.{◌⊎◌, ◌↔◌, Contains}
use Rattle.std.proofs.lemmas.Result.{on_ok_weaker}
use Rattle.csn_good.proofs.Numbered.{number_by}
use Rattle.csn_good.proofs.pattern_set.PatternSet.add.Goals as goal

pub add_number-requires : goal.add_number-requires
add_number-requires c = (number_by c.number_of.result c.args.pattern c.number_of.ensures.few c.number_of.ensures.number).1

pub returns : goal.returns
returns c =
    let told = number_by c.number_of.result c.args.pattern c.number_of.ensures.few c.number_of.ensures.number in
    on_ok_weaker c.add_number.result
    (λ added p. subst (λ q. Contains c.add_number.new.self p ↔ (Contains c.args.self.now p ⊎ (p ≡ q))) told.0 (added p))
    c.add_number.ensures
