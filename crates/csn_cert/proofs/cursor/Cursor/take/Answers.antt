use Rattle.std.proofs.Common.{Some, None, sym, ◌∙◌}
use Rattle.std.proofs.lemmas.Bool.Decides.{Decides-eqb}
use Rattle.std.proofs.lemmas.Slice.Eq.{strip_prefix_is}
use Rattle.csn_cert.proofs.cursor.Cursor.take.Goals as goal

pub returns-in-Some-clause-yes : goal.returns-in-Some-clause-yes
returns-in-Some-clause-yes c =
    sym c.self.view_is ∙ strip_prefix_is Decides-eqb c.self.inside.rest.now c.args.word.now (Some c.in-Some.rest) c.in-Some.ensures.cases

pub returns-in-None-clause-no : goal.returns-in-None-clause-no
returns-in-None-clause-no c = λ after same.
    strip_prefix_is Decides-eqb c.self.inside.rest.now c.args.word.now None c.in-None.ensures.cases after (c.self.view_is ∙ same)
