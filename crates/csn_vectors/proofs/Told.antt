-- Lines that come one after another.
use Rattle.std.specs.Prelude.{◌≡◌, ◌<◌, ℕ, ◌+◌, List, [], ◌∷◌, ◌++◌, length, take}
use Rattle.std.proofs.Common.{◌∙◌, ap, sym, subst, get_or}
use Rattle.std.proofs.lemmas.List.{take_more}
use Rattle.csn_desc.specs.Nodes.{DescV}
use Rattle.csn_vectors.specs.Lines.{NearLines, nears_none, nears_more}

-- one more of some items
pub take_next : {X : Type 0} (xs : List X) (k : ℕ) (x : X) → k < length xs → x ≡ get_or xs k x → take (k + 1) xs ≡ take k xs ++ x ∷ []
take_next xs k x low is = take_more xs k x low ∙ ap (λ y. take k xs ++ y ∷ []) (sym is)

-- some lines of blocks that are nearly strings, and then more
pub nears_join : (d : DescV) (a b c : List ℕ) → NearLines d a b → NearLines d b c → NearLines d a c
nears_join d a b c first (nears_none same) = subst (λ (x : List ℕ). NearLines d a x) (sym same) first
nears_join d a b c first (nears_more middle string near before tree is line) =
    nears_more middle string near (nears_join d a b middle first before) tree is line
