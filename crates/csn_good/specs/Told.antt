-- Facts that the private functions test. No public contract cites these words.
use Rattle.std.specs.Prelude.{◌≡◌, ℕ, ◌≤◌, Bool, List, [], ◌∷◌, ◌++◌, slice_get, Some, IsTrue}
use Rattle.csn_desc.specs.declared.symbol.Symbol.{Symbol}
use Rattle.csn_desc.specs.Spelled.{symbol_bit}
use Rattle.csn_desc.specs.declared.node.Node.{Node}
use Rattle.csn_desc.specs.Nodes.{parts_of}
use Rattle.csn_claims.specs.Claims.{Claims}
use Rattle.csn_claims.specs.Ends.{PartsEnd}
use Rattle.csn_claims.specs.Reached.{PartReached}
use Rattle.csn_good.specs.Octets.{has_octet}

-- a literal begins with the bit
abbrev pub LiteralStarts : List Symbol → ℕ → ℕ → Type 0
LiteralStarts [] octet bit = ⊥
LiteralStarts (symbol ∷ run) octet bit = symbol_bit symbol octet ≡ bit

-- some of the parts is claimed to be nullable, or to begin with the bit
pub record SomeNullable (claims : Claims) (parts : List ℕ) : Type 0 where
  pub place : ℕ
  pub part : ℕ
  pub at : slice_get parts place ≡ Some part
  pub nullable : IsTrue (claims.nullable part)

pub record SomeStarts (claims : Claims) (parts : List ℕ) (octet bit : ℕ) : Type 0 where
  pub place : ℕ
  pub part : ℕ
  pub at : slice_get parts place ≡ Some part
  pub starts : IsTrue (claims.starts part octet bit)

-- each part of a node is claimed to begin where the node says
abbrev pub PartsReach : Claims → ℕ → Node → Type 0
PartsReach claims k n =
    (i from o : ℕ) (before after : List ℕ) → parts_of n ≡ before ++ i ∷ after → IsTrue (claims.reached k from)
    → PartReached claims n before i from o
    → IsTrue (claims.reached i o)

-- each part is claimed to begin at these octet positions; or where the parts before it may end
abbrev pub EachReached : Claims → List Bool → List ℕ → Type 0
EachReached claims begins parts =
    (place i o : ℕ) → slice_get parts place ≡ Some i → o ≤ 7 → IsTrue (has_octet begins o) → IsTrue (claims.reached i o)

abbrev pub OrderReached : Claims → List Bool → List ℕ → Type 0
OrderReached claims begins parts =
    (i from o : ℕ) (before after : List ℕ) → parts ≡ before ++ i ∷ after → from ≤ 7 → IsTrue (has_octet begins from)
    → PartsEnd claims before from o
    → IsTrue (claims.reached i o)
