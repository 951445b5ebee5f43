use Rattle.std.proofs.Common.{◌≡◌, sym, ◌∙◌, subst}
use Rattle.csn_json.specs.JsonTree.{JsonTree}
use Rattle.csn_json.proofs.Injective.{json_of-one}
use Rattle.csn_json.proofs.Texts.{one_value}
use Rattle.csn_json.proofs.laws.texts_have_one_tree.Goals as goal

pub returns-clause-value : goal.returns-clause-value
returns-clause-value c = λ t a b x y. x.shown ∙ sym y.shown

pub returns-clause-tree : goal.returns-clause-tree
returns-clause-tree c = λ t u value x y. json_of-one c.written_apart.ensures t u x.parts y.parts (sym x.shown ∙ y.shown)

pub returns-clause-text : goal.returns-clause-text
returns-clause-text c = λ t u text x y.
    let other = subst (JsonTree u) (one_value text y.0 x.0 y.1 x.1) y.2 in
    json_of-one c.written_apart.ensures t u x.2.parts other.parts (sym x.2.shown ∙ other.shown)
