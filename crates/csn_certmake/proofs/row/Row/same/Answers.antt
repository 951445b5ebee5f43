use Rattle.std.proofs.Common.{sym, ◌∙◌}
use Rattle.std.specs.Prelude.{nat_eq}
use Rattle.std.specs.Cmp.Lexicographic.{pointwise}
use Rattle.std.proofs.lemmas.Slice.Eq.{bytes_eq-Decides}
use Rattle.csn_cert.specs.PatternV.{PatternV}
use Rattle.csn_cert.specs.PatternText.{pattern_text}
use Rattle.csn_certmake.proofs.Rows.{lists_same}
use Rattle.csn_certmake.proofs.row.Row.same.Goals as goal

pub returns : goal.returns
returns c = λ is.
    sym c.self.view_is
    ∙ lists_same (λ (p q : PatternV). pointwise nat_eq (pattern_text p) (pattern_text q)) (λ v. v.items)
    (λ p q same. c.texts_are_of_one_pattern.ensures p q
    ((bytes_eq-Decides (pattern_text p) (pattern_text q)).0 same))
    c.self.inside.lists.items c.other.inside.lists.items (sym c.eq.ensures ∙ is)
    ∙ c.other.view_is
