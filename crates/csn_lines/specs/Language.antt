-- The languages of blocks by which lines are answered. (This project's own choice.)
use Rattle.std.specs.Prelude.{◌↔◌, ℕ, List, [], get_or}
use Rattle.csn_catalogue.specs.declared.entry.Entry.{Entry}
use Rattle.csn_catalogue.specs.Entries.{entry_place, entry_root}
use Rattle.csn_desc.specs.declared.reading.Reading.{Reading}
use Rattle.csn_desc.specs.declared.reading.Reading.TheVariants.{Received}
use Rattle.csn_desc.specs.Nodes.{DescV}
use Rattle.csn_desc.specs.TreeV.{TreeV}
use Rattle.csn_desc.specs.Means.{NMeans}
use Rattle.csn_desc.specs.Follows as desc
use Rattle.csn_encode.specs.declared.misfit.MisfitWhy.{MisfitWhy}
use Rattle.csn_encode.specs.Misfits.{IsMisfit}
use Rattle.csn_grammar.specs.RulesV.{RulesV}
use Rattle.csn_grammar.specs.Strings as grammar
use Rattle.csn_grammar.specs.Strings.{Strings}
use Rattle.csn_resolve.specs.Resolved.{IsResolved}

-- a language of blocks: that of a named rule of some rules in a reading, or that of a description
pub data Language : Type 0 where
  of_rule : RulesV → List ℕ → Reading → Language
  of_plan : DescV → Language

-- the bits have this tree
abbrev pub HasTree : Language → List ℕ → TreeV → Type 0
HasTree (of_rule rules name reading) bits t = Strings rules name reading bits t
HasTree (of_plan d) bits t = NMeans d 0 0 [] bits t

-- the place of a block: how many of its first bits can be followed, at most
abbrev pub HasPlace : Language → List ℕ → ℕ → Type 0
HasPlace (of_rule rules name reading) bits place = grammar.IsPlace rules name reading bits place
HasPlace (of_plan d) bits place = desc.IsPlace d bits place

-- where a tree first misses, and why; by a rule as by the description of the rule
abbrev pub Misses : Language → TreeV → List ℕ → MisfitWhy → Type 0
Misses (of_rule rules name reading) t path why = (d : DescV) × IsResolved rules name reading d × IsMisfit d t path why
Misses (of_plan d) t path why = IsMisfit d t path why

-- the same bits have the same trees, each block has the same place, and each tree first misses at the same place
pub record Agree (a b : Language) : Type 0 where
  pub trees : (bits : List ℕ) (t : TreeV) → HasTree a bits t ↔ HasTree b bits t
  pub places : (bits : List ℕ) (place : ℕ) → HasPlace a bits place ↔ HasPlace b bits place
  pub misfits : (t : TreeV) (path : List ℕ) (why : MisfitWhy) → Misses a t path why ↔ Misses b t path why

-- the languages of the entries of the catalogue by some rules in a reading
abbrev pub of_rules : RulesV → Reading → Entry → Language
of_rules rules reading entry = of_rule rules (entry_root entry) reading

-- and by descriptions, one for each entry in their order. Where there is none no bits have a tree
abbrev pub of_plans : List DescV → Entry → Language
of_plans plans entry = of_plan (get_or plans (entry_place entry) (record { reading = Received; nodes = [] }))
