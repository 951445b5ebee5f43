-- What the laws of the crates below say, as the proofs here take it.
use Rattle.csn_grammar.specs.Laws.{RulesHaveNoFault, RulesOfTextsAreShaped, TextsAreDecided, TextsHaveOneListOfRules, TextsHaveOnePlace}
use Rattle.csn_resolve.specs.Laws.{NamesAreAnswered, RefusedOnce, RefusedOrResolved, ResolvedAreDescriptions, ResolvedOnce}
use Rattle.csn_certify.specs.Laws.{CertifiedHasNoConflict, FirstConflictIsOne}
use Rattle.csn_certmake.specs.Laws.{CertificatesHaveOneText}
use Rattle.csn_compat.specs.Laws.{BlocksAreTaken}
use Rattle.csn_cert.specs.Laws.{TextsAreOfOneCertificate}
use Rattle.csn_good.specs.Laws.{GoodLeavesOneTree, FirstFaultIsOne, GoodHasNoFault}
use Rattle.csn_lines.specs.Known as lines

-- of the texts of descriptions, the rules of a name, conflicts, and certificates
pub record KnownOfTexts : Type 0 where
  pub decided : TextsAreDecided
  pub apart : RulesHaveNoFault
  pub one_place : TextsHaveOnePlace
  pub one_list : TextsHaveOneListOfRules
  pub shaped : RulesOfTextsAreShaped
  pub answered : NamesAreAnswered
  pub refused_once : RefusedOnce
  pub refused_or_resolved : RefusedOrResolved
  pub resolved_once : ResolvedOnce
  pub descriptions : ResolvedAreDescriptions
  pub first_is_one : FirstConflictIsOne
  pub no_conflict : CertifiedHasNoConflict
  pub one_certificate : CertificatesHaveOneText
  pub of_one_certificate : TextsAreOfOneCertificate
  pub one_fault : FirstFaultIsOne
  pub no_fault : GoodHasNoFault

pub record Known : Type 0 where
  pub of_texts : KnownOfTexts
  pub of_answers : lines.Known
  pub of_takers : BlocksAreTaken
  pub of_good : GoodLeavesOneTree
