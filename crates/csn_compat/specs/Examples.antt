-- Worked examples of the definition.
use Rattle.std.specs.Prelude.{ℕ, List, [], ◌∷◌}
use Rattle.csn_desc.specs.declared.reading.Reading.TheVariants.{Received}
use Rattle.csn_desc.specs.declared.symbol.Symbol.TheVariants.{Zero, One}
use Rattle.csn_desc.specs.declared.node.Count.TheVariants.{Fixed, Counted}
use Rattle.csn_desc.specs.declared.node.Node.{Node}
use Rattle.csn_desc.specs.declared.node.Node.TheVariants.{Lits, Field, Rest, Seq, Choice, Named}
use Rattle.csn_desc.specs.Nodes.{DescV}
use Rattle.csn_compat.specs.Takes.{Takes}

abbrev pub received : List Node → DescV
received nodes = record { reading = Received; nodes = nodes }

-- 0 <A : bit (3)> <B : bit (4)>
abbrev pub message : DescV
message =
    received
    (Seq (1 ∷ 2 ∷ 4 ∷ [])
    ∷ Lits (Zero ∷ [])
    ∷ Named (65 ∷ []) 3 ∷ Field 1 (Fixed 3)
    ∷ Named (66 ∷ []) 5 ∷ Field 1 (Fixed 4)
    ∷ [])

-- { 0 <A : bit (3)> <C : bit (**)> | 1 }
abbrev pub later_message : DescV
later_message =
    received
    (Choice (1 ∷ 7 ∷ [])
    ∷ Seq (2 ∷ 3 ∷ 5 ∷ [])
    ∷ Lits (Zero ∷ [])
    ∷ Named (65 ∷ []) 4 ∷ Field 1 (Fixed 3)
    ∷ Named (67 ∷ []) 6 ∷ Rest
    ∷ Lits (One ∷ [])
    ∷ [])

-- the first alternative takes the old sequence, and its last part what stands behind A
abbrev pub LaterMessageTakesMessage : Type 0
LaterMessageTakesMessage = Takes message later_message 0 0 []

-- <N : bit (2)> <V : bit (val(N) + 1)>, with some label in the place of V
abbrev pub counted : List ℕ → DescV
counted label =
    received
    (Seq (1 ∷ 3 ∷ [])
    ∷ Named (78 ∷ []) 2 ∷ Field 1 (Fixed 2)
    ∷ Named label 4 ∷ Field 1 (Counted 1 1 1)
    ∷ [])

-- the counts agree, since the fields that they stand on are a pair
abbrev pub CountsGoByPairs : Type 0
CountsGoByPairs = Takes (counted (86 ∷ [])) (counted (67 ∷ [])) 0 0 []
