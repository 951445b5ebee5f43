use Rattle.std.proofs.Common.{◌++◌, ◌∷◌, [], map, take, ap, sym, ◌∙◌}
use Rattle.std.proofs.lemmas.List.{map-append}
use Rattle.csn_cert.specs.PatternText.{mark_character}
use Rattle.csn_cert.proofs.Patterns.{take-next}
use Rattle.csn_cert.proofs.pattern.Pattern.text.Goals as goal

pub loop-at-preserved : goal.loop-at-preserved
loop-at-preserved c =
    c.push.ensures.items ∙ ap (λ l. l ++ c.character.result ∷ []) c.loop-at.invariant
    ∙ ap (λ d. map mark_character (take c.loop-at.at c.args.self.now.marks) ++ d ∷ []) c.character.ensures
    ∙ sym (map-append mark_character (take c.loop-at.at c.args.self.now.marks) (c.get.result ∷ []))
    ∙ ap (map mark_character) (sym (take-next c.args.self.now.marks c.loop-at.at c.get.result c.get.ensures))
