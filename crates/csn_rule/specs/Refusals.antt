-- What is known of a text that has no rule, and of bytes that give no block; for want of memory nothing. (This project's own
-- choice.)
use Rattle.std.specs.Prelude.{◌≡◌, ◌<◌, ℕ, List, length}
use Rattle.csn_desc.specs.declared.reading.Reading.{Reading}
use Rattle.csn_desc.specs.Nodes.{DescV}
use Rattle.csn_desc.specs.TreeV.{TreeV}
use Rattle.csn_grammar.specs.declared.fault.GrammarFault.TheVariants as grammar
use Rattle.csn_resolve.specs.declared.fault.ResolveFault.TheVariants as resolve
use Rattle.csn_certify.specs.declared.certifying.CertifyFault.TheVariants as certify
use Rattle.csn_plan.specs.declared.compiling.NoPlan.TheVariants as plan
use Rattle.csn_plan.specs.declared.compiling.TheConstants.{MOST_DESCRIPTION}
use Rattle.csn_plan.specs.Compiled.{IsReason}
use Rattle.csn_treetext.specs.declared.version.Version.TheVariants.{Second}
use Rattle.csn_treetext.specs.Place.{TreeText, IsFaultPlace}
use Rattle.csn_json.specs.declared.form.TreeForm.{TreeForm}
use Rattle.csn_json.specs.declared.form.TreeForm.TheVariants.{Text, Json}
use Rattle.csn_json.specs.declared.fault.JsonFault.TheVariants as json
use Rattle.csn_json.specs.JsonText.{JsonText}
use Rattle.csn_json.specs.JsonText as of_json
use Rattle.csn_encode.specs.declared.fault.EncodeFault.TheVariants as encode
use Rattle.csn_encode.specs.Encoding as of_tree
use Rattle.csn_rule.specs.declared.fault.NoRule.{NoRule}
use Rattle.csn_rule.specs.declared.fault.NoRule.TheVariants.{TooLong, Syntax, Description, Conflict, NoMemory}
use Rattle.csn_rule.specs.declared.fault.NoBlock.{NoBlock}
use Rattle.csn_rule.specs.declared.fault.NoBlock.TheVariants.{NotText, NotJson, NotTree, Misfit, NoMemory as no_memory_for_block}

-- why the named rule of a text is not compiled
abbrev pub IsNoRule : List ℕ → List ℕ → Reading → NoRule → Type 0
IsNoRule text name reading TooLong = MOST_DESCRIPTION < length text
IsNoRule text name reading (Syntax place) = IsReason text name reading (plan.Rules (grammar.Syntax place))
IsNoRule text name reading (Description why place) = IsReason text name reading (plan.Description (resolve.Refused why place))
IsNoRule text name reading (Conflict conflict) = IsReason text name reading (plan.Plan (certify.Conflict conflict))
IsNoRule text name reading NoMemory = Unit {0}

-- bytes that are the text of a tree, or show it as JSON
abbrev pub IsRead : TreeForm → TreeV → List ℕ → Type 0
IsRead Text = TreeText
IsRead Json = JsonText

-- why bytes in a form give no block of a description
abbrev pub IsNoBlock : TreeForm → DescV → List ℕ → NoBlock → Type 0
IsNoBlock form d bytes (NotText place) = (form ≡ Text) × IsFaultPlace Second bytes place
IsNoBlock form d bytes NotJson = (form ≡ Json) × of_json.IsFaultOf bytes json.NotJson
IsNoBlock form d bytes NotTree = (form ≡ Json) × of_json.IsFaultOf bytes json.NotTree
IsNoBlock form d bytes (Misfit misfit) = (tree : TreeV) × IsRead form tree bytes × of_tree.IsFaultOf d tree (encode.Misfit misfit)
IsNoBlock form d bytes no_memory_for_block = Unit {0}
