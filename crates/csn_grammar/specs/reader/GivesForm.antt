-- How a part of the reader answers a form.
use Rattle.std.specs.Prelude.{◌≡◌, Option, Some, None, Result, Ok, Err}
use Rattle.csn_grammar.specs.declared.expr.Form.{Form}
use Rattle.csn_grammar.specs.declared.reader.stop.Stop.{Stop}
use Rattle.csn_grammar.specs.declared.reader.stop.Stop.TheVariants.{Refused, NoMemory}
use Rattle.csn_grammar.specs.ExprV.{FormV}
use Rattle.csn_grammar.specs.FormView.{form_view}

abbrev pub GivesForm : Result Form Stop → Option FormV → Type 0
GivesForm (Ok form) wanted = wanted ≡ Some (form_view form)
GivesForm (Err Refused) wanted = wanted ≡ None
GivesForm (Err NoMemory) wanted = Unit {0}
