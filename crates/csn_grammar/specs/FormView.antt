-- What a contract sees of one level of an expression.
use Rattle.csn_grammar.specs.declared.expr.Span.{Span}
use Rattle.csn_grammar.specs.declared.expr.Form.{Form}
use Rattle.csn_grammar.specs.declared.expr.Form.TheVariants.{Lits, Null, Bit, Octet, Name, Labelled, Group, Seq, Choice, Power, Cut, Both, Sends}
use Rattle.csn_grammar.specs.ExprV.{ExprV, expr, FormV, lits, null, bit, octet, name, labelled, group, seq, choice}
use Rattle.csn_grammar.specs.ExprV.{power, cut, both, sends, exprs_of, branches_of}

abbrev pub form_view : Form → FormV
form_view (Lits run) = lits run
form_view Null = null
form_view Bit = bit
form_view Octet = octet
form_view (Name label) = name label
form_view (Labelled label x) = labelled label x.value
form_view (Group x) = group x.value
form_view (Seq xs) = seq (exprs_of xs)
form_view (Choice bs) = choice (branches_of bs)
form_view (Power x e) = power x.value e
form_view (Cut xs) = cut (exprs_of xs)
form_view (Both x y) = both x.value y.value
form_view (Sends x y) = sends x.value y.value

abbrev pub expr_view : Span → Form → ExprV
expr_view span form = expr span.start span.end (form_view form)
