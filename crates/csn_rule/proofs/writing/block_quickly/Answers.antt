use Rattle.std.proofs.Common.{◌≡◌, subst, sym}
use Rattle.csn_desc.specs.TreeV.{TreeV}
use Rattle.csn_encode.specs.Encoding.{IsBlockOf}
use Rattle.csn_treetext.specs.declared.version.Version.TheVariants.{Second}
use Rattle.csn_treetext.specs.Text.{text_of}
use Rattle.csn_rule.specs.Refusals.{IsRead}
use Rattle.csn_rule.proofs.ReadTexts.{read_along}
use Rattle.csn_rule.proofs.Results.{some_map}
use Rattle.csn_rule.proofs.writing.block_quickly.Goals as goal

pub returns-in-Text : goal.returns-in-Text
returns-in-Text c =
    let bytes = c.args.bytes.now in let d = c.args.plan.now in
    some_map c.block_along.result
    (λ b. (t : TreeV) × (bytes ≡ text_of Second t) × IsBlockOf d t b)
    (λ b. (t : TreeV) × IsRead c.args.form t bytes × IsBlockOf d t b)
    (λ b found. (
      found.0,
      subst (λ form. IsRead form found.0 bytes) (sym c.in-Text.is)
          (read_along c.trees_have_texts.ensures.texts d c.len-count.ensures.description c.requires.labels bytes b
          found.0 found.1 found.2),
      found.2,
    ))
    c.block_along.ensures
