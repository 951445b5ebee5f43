-- The texts of certificates, line by line. (This project's own form.)
use Rattle.std.specs.Prelude.{◌≡◌, ◌+◌, ◌++◌, ◌∷◌, [], ℕ, suc, Bool, true, false, List, length, map, flat_map, codes}
use Rattle.std.specs.Fmt.{decimal}
use Rattle.csn_bits.specs.Numbers.{low_bits}
use Rattle.csn_cert.specs.PatternText.{patterns_text}
use Rattle.csn_cert.specs.CertificateV.{NodeV, PositionV, IsCertificate}

-- the last so many binary digits of a number
abbrev pub digits_text : ℕ → ℕ → List ℕ
digits_text count number = map (λ bit. 48 + bit) (low_bits count number)

-- `1` for nullable, else `0`
abbrev pub nullable_character : Bool → ℕ
nullable_character true = 49
nullable_character false = 48

-- `at O E S K`: the octet position, where the strings end, how they start, and the patterns
abbrev pub position_line : PositionV → List ℕ
position_line p =
    codes "at " ++ (48 + p.octet) ∷ codes " " ++ digits_text 8 p.ends ++ codes " " ++ digits_text 2 p.start ++ codes " " ++ patterns_text p.patterns

-- `node I U F`: the number of the node, whether it is nullable, and what may follow it
abbrev pub node_line : ℕ → NodeV → List ℕ
node_line number n =
    codes "node " ++ decimal number ++ codes " " ++ nullable_character n.nullable ∷ codes " " ++ digits_text 24 n.follow

-- each line is ended by a line feed
abbrev pub position_text : PositionV → List ℕ
position_text p = position_line p ++ 10 ∷ []

-- the line of a node, and then those of its positions
abbrev pub node_text : ℕ → NodeV → List ℕ
node_text number n = node_line number n ++ 10 ∷ [] ++ flat_map position_text n.positions

-- the nodes in order, the first of them with this number
abbrev pub nodes_text : ℕ → List NodeV → List ℕ
nodes_text number [] = []
nodes_text number (n ∷ rest) = node_text number n ++ nodes_text (suc number) rest

-- `csn-cert N`, N being how many nodes there are
abbrev pub header_line : List NodeV → List ℕ
header_line nodes = codes "csn-cert " ++ decimal (length nodes)

abbrev pub certificate_text : List NodeV → List ℕ
certificate_text nodes = header_line nodes ++ 10 ∷ [] ++ nodes_text 0 nodes

-- the text is that of the certificate
pub record CertificateText (c : List NodeV) (text : List ℕ) : Type 0 where
  pub certificate : IsCertificate c
  pub spelled : text ≡ certificate_text c
