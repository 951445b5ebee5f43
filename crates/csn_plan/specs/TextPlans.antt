-- The openings of a plan in both forms. (Words of private parts; no public contract cites them.)
use Rattle.std.specs.Prelude.{◌≡◌}
use Rattle.csn_desc.specs.Nodes.{DescV}
use Rattle.csn_json.specs.declared.form.TreeForm.TheVariants.{Text, Json}
use Rattle.csn_movetext.specs.Openings.{OpeningsV, HasOpenings}

pub record AreInForms (d : DescV) (text json : OpeningsV) : Type 0 where
  pub text_opens : HasOpenings d text
  pub text_is : text.form ≡ Text
  pub json_opens : HasOpenings d json
  pub json_is : json.form ≡ Json
