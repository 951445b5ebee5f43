use Rattle.std.proofs.Common.{◌++◌, codes, refl, subst}
use Rattle.std.specs.Fmt.{decimal}
use Rattle.csn_treetext.specs.declared.version.Version.TheVariants.{First}
use Rattle.csn_treetext.specs.Place.{IsFaultOf}
use Rattle.csn_lines.specs.OutLine.{migrates_tree, migrates_place}
use Rattle.csn_lines.proofs.migrate.migrate_line.Goals as goal

pub returns-in_ok-answer_old-in-Ok-clause-ok : goal.returns-in_ok-answer_old-in-Ok-clause-ok
returns-in_ok-answer_old-in-Ok-clause-ok c =
    let text = c.in_ok-answer_old-in-Ok.ensures.ok in
    (codes "ok " ++ text.0, text.2, migrates_tree c.in-Ok.tree text.0 c.in-Ok.ensures.ok text.1 refl, refl)

pub returns-in_ok-answer_text_fault-in-Err-clause-ok : goal.returns-in_ok-answer_text_fault-in-Err-clause-ok
returns-in_ok-answer_text_fault-in-Err-clause-ok c =
    let fault = c.in_ok-answer_text_fault-in-Err.ensures.ok in
    (codes "bad " ++ decimal fault.0, fault.2, migrates_place fault.0 (subst (IsFaultOf First c.args.line.now) fault.1 c.in-Err.ensures.refused) refl, refl)
