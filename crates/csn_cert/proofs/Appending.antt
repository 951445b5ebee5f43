-- What stands at the end of a text after one thing was added behind another.
use Rattle.std.proofs.Common.{◌≡◌, ◌+◌, ℕ, suc, List, [], ◌∷◌, ◌++◌, length, codes, ap, sym, ◌∙◌, append_assoc, append-nil, arith}
use Rattle.csn_cert.specs.CertificateV.{NodeV}
use Rattle.csn_cert.specs.CertificateText.{node_text, nodes_text}

pub appended : (first second third x y : List ℕ) → second ≡ first ++ x → third ≡ second ++ y → third ≡ first ++ (x ++ y)
appended first second third x y before after = after ∙ ap (λ l. l ++ y) before ∙ append_assoc first x y

-- what stands between the octet position and the patterns of a line, as one piece
pub sets_behind : (octet ends start patterns : List ℕ)
    → octet ++ (ends ++ codes " " ++ start ++ codes " ") ++ patterns ++ 10 ∷ [] ≡ octet ++ ends ++ codes " " ++ start
    ++ codes " " ++ patterns ++ 10 ∷ []
sets_behind octet ends start patterns = simp append_assoc

pub nodes_text-push : (number : ℕ) (nodes : List NodeV) (n : NodeV)
    → nodes_text number (nodes ++ n ∷ []) ≡ nodes_text number nodes ++ node_text (number + length nodes) n
nodes_text-push number [] n = append-nil (node_text number n) ∙ ap (λ i. node_text i n) (omega arith)
nodes_text-push number (m ∷ rest) n =
    ap (λ l. node_text number m ++ l) (nodes_text-push (suc number) rest n ∙ ap (λ i. nodes_text (suc number) rest ++ node_text i n) (omega arith))
    ∙ sym (append_assoc (node_text number m) (nodes_text (suc number) rest) (node_text (number + length (m ∷ rest)) n))
