use Rattle.std.proofs.Common.{[], Option, sym, subst}
use Rattle.csn_judge.specs.declared.fed.Fed.TheVariants.{Going}
use Rattle.csn_decode.specs.Built.{BuiltV}
use Rattle.csn_decode.specs.Decoding.{stands, DecodesFor}
use Rattle.csn_decode.proofs.DecodingFacts.{decodes_none}
use Rattle.csn_decode.proofs.decoder.Decoder.new.Goals as goal

pub returns-clause-decodes : goal.returns-clause-decodes
returns-clause-decodes c =
    let P : Option BuiltV → Type 0 = λ s. DecodesFor (stands c.new.result s Going) [] in
    subst P (sym c.new-2.ensures) (decodes_none c.new.result c.new.ensures.judges c.new.ensures.opened)
