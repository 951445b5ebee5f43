use Rattle.std.proofs.Common.{ℕ, ◌<◌, Bool, List, [], ◌∷◌, length, refl, arith, inl, inr}
use Rattle.csn_desc.specs.TreeV.{TreeV}
use Rattle.csn_desc.specs.Nodes.{DescV}
use Rattle.csn_desc.specs.Values.{Values}
use Rattle.csn_desc.specs.Means.{NMeans}
use Rattle.csn_look.specs.Keys.{InKeys, IsFirm}
use Rattle.csn_look.proofs.Meaning.ShapeFacts.{Shaped, shape_of}
use Rattle.csn_look.proofs.Meaning.NullableFacts.{nullable}
use Rattle.csn_look.proofs.laws.firm_nodes_have_bits.Goals as goal

some_bits : (d : DescV) (most i o : ℕ) (v : Values) (b : List ℕ) (t : TreeV) → Shaped d → IsFirm d most i → NMeans d i o v b t → 0 < length b
some_bits d most i o v [] t shape firm h = absurd (firm (inl (nullable d shape h refl)))
some_bits d most i o v (a ∷ b) t shape firm h = omega arith

some_word : (d : DescV) (most i o : ℕ) (word : List ℕ) (mark : Bool) → IsFirm d most i → o < 8 → InKeys d most i o word mark → 0 < length word
some_word d most i o [] mark firm small h = absurd (firm (inr (o, small, mark, h)))
some_word d most i o (a ∷ word) mark firm small h = omega arith

pub returns-clause-meant : goal.returns-clause-meant
returns-clause-meant c = λ d most i o v b t is firm h. some_bits d most i o v b t (shape_of c.known.ensures d is) firm h

pub returns-clause-keys : goal.returns-clause-keys
returns-clause-keys c = some_word
