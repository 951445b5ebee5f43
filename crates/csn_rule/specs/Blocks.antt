-- What stands in the buffer of the caller. (This project's own choice.)
use Rattle.std.specs.Prelude.{◌≡◌, ℕ, List, length, take}
use Rattle.csn_bits.specs.Octets.{bits_of_octets, octets_of}
use Rattle.csn_desc.specs.Nodes.{DescV}
use Rattle.csn_desc.specs.TreeV.{TreeV}
use Rattle.csn_encode.specs.Encoding.{IsBlockOf}
use Rattle.csn_fields.specs.Alternatives.{AlternativesV, HasAlternatives}
use Rattle.csn_json.specs.declared.form.TreeForm.{TreeForm}
use Rattle.csn_movetext.specs.Blocks.{IsTextOfBlock}
use Rattle.csn_movetext.specs.Openings.{OpeningsV}
use Rattle.csn_plan.specs.TextPlans.{AreInForms}
use Rattle.csn_rule.specs.Buffers.{copied}
use Rattle.csn_rule.specs.Refusals.{IsRead}

-- the block that is the first so many bits of some octets
abbrev pub block_in : List ℕ → ℕ → List ℕ
block_in octets bits = take bits (bits_of_octets octets)

-- what is made of a plan: the openings of its nodes, as text and as JSON, and what events
-- are told by
abbrev pub IsMade : DescV → OpeningsV → OpeningsV → AlternativesV → Type 0
IsMade d text json alternatives = AreInForms d text json × HasAlternatives d alternatives

-- the text of the one tree of a block has so many bytes, and stands in the buffer as far as there was room
pub record Shows (form : TreeForm) (d : DescV) (block : List ℕ) (count : ℕ) (old new : List ℕ) : Type 0 where
  pub text : List ℕ
  pub is_text : IsTextOfBlock form d block text
  pub counted : count ≡ length text
  pub there : new ≡ copied text old

-- bytes are a tree in a form; the block that has it has so many bits, and its octets stand in the buffer as far as there
-- was room
pub record Writes (form : TreeForm) (d : DescV) (bytes : List ℕ) (count : ℕ) (old new : List ℕ) : Type 0 where
  pub tree : TreeV
  pub block : List ℕ
  pub read : IsRead form tree bytes
  pub has : IsBlockOf d tree block
  pub counted : count ≡ length block
  pub there : new ≡ copied (octets_of block) old

-- bytes are a tree in a form, and the block that has it has so many bits
abbrev pub Measures : TreeForm → DescV → List ℕ → ℕ → Type 0
Measures form d bytes count =
    (tree : TreeV) × (block : List ℕ) × IsRead form tree bytes × IsBlockOf d tree block × (count ≡ length block)
