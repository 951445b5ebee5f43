-- What the laws of the crates below say of lines and their answers, as the proofs here take it.
use Rattle.csn_bits.specs.Laws.{FaultOrBlock, SpellsOneBlock}
use Rattle.csn_desc.specs.Laws.{BlocksHaveAPlace, MeaningIsDecided}
use Rattle.csn_grammar.specs.Laws.{BlocksHaveOnePlace, LabelsOfTextsAreLabels, MeaningsAreBits, RulesOfTextsAreShaped}
use Rattle.csn_resolve.specs.Laws.{PlacesAreKept, ResolvedAreDescriptions, ResolvedOnce, StringsAreKept}
use Rattle.csn_certify.specs.Laws.{BlocksHaveOneTree}
use Rattle.csn_encode.specs.Laws.{FirstMisfitIsOne, MisfitsHaveNoBits, OneBlock, TreesFitOrMiss}
use Rattle.csn_segment.specs.Laws.{MessagesAreShort}
use Rattle.csn_replay.specs.Laws.{HeadsTellCaptures}
use Rattle.csn_treetext.specs.Laws as texts
use Rattle.csn_movetext.specs.Laws.{TreesFit, TreesHaveTexts}
use Rattle.csn_json.specs.Laws as json

-- of block lines
pub record KnownOfLines : Type 0 where
  pub spells_one : SpellsOneBlock
  pub fault_or_block : FaultOrBlock

-- of the rules of texts and their descriptions
pub record KnownOfRules : Type 0 where
  pub shaped : RulesOfTextsAreShaped
  pub labelled : LabelsOfTextsAreLabels
  pub resolved_once : ResolvedOnce
  pub descriptions : ResolvedAreDescriptions

-- of blocks
pub record KnownOfBlocks : Type 0 where
  pub strings : StringsAreKept
  pub places : PlacesAreKept
  pub one_place : BlocksHaveOnePlace
  pub are_bits : MeaningsAreBits
  pub decided : MeaningIsDecided
  pub some_place : BlocksHaveAPlace
  pub one_tree : BlocksHaveOneTree
  pub fit : TreesFit
  pub texts : TreesHaveTexts

-- of the texts of trees
pub record KnownOfTrees : Type 0 where
  pub decided : texts.TextsAreDecided
  pub one_place : texts.TextsHaveOnePlace
  pub one_tree : texts.TreeTextsDiffer
  pub one_old_tree : texts.OldTextsDiffer
  pub shared : texts.VersionsShareTrees

-- of trees as JSON
pub record KnownOfJson : Type 0 where
  pub decided : json.TextsAreDecided
  pub one_tree : json.TextsHaveOneTree
  pub not_refused : json.TextsAreNotRefused
  pub written : json.WrittenIsShown

-- of the blocks of trees
pub record KnownOfMisfits : Type 0 where
  pub one_block : OneBlock
  pub no_bits : MisfitsHaveNoBits
  pub one_misfit : FirstMisfitIsOne
  pub fit_or_miss : TreesFitOrMiss

pub record Known : Type 0 where
  pub of_lines : KnownOfLines
  pub of_rules : KnownOfRules
  pub of_blocks : KnownOfBlocks
  pub of_trees : KnownOfTrees
  pub of_json : KnownOfJson
  pub of_misfits : KnownOfMisfits
  pub of_messages : MessagesAreShort
  pub of_captures : HeadsTellCaptures
