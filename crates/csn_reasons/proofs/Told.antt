-- What is told of nodes, one behind the other.
use Rattle.std.proofs.Common.{◌≡◌, ℕ, zero, suc, ◌+◌, ◌⊎◌, List, [], ◌∷◌, ◌++◌, length, refl, sym, ap, ◌∙◌, subst, arith, inl, inr, Some, Option}
use Rattle.std.proofs.Common.{append_assoc, append-nil}
use Rattle.std.specs.Prelude.{slice_get}
use Rattle.csn_desc.specs.declared.node.Node.{Node}
use Rattle.csn_places.specs.declared.origin.Origin.{Origin}
use Rattle.csn_reasons.specs.declared.facts.NodeFacts.{NodeFacts}
use Rattle.csn_reasons.specs.Facts.{AreFacts, IsFacts, node_line, node_lines}

-- the elements of a list with one more behind it
pub one_behind : {X : Type 0} (xs : List X) (y z : X) (i : ℕ) → slice_get (xs ++ y ∷ []) i ≡ Some z
    → (slice_get xs i ≡ Some z) ⊎ ((i ≡ length xs) × (y ≡ z))
one_behind [] y z zero get = inr (refl, cc)
one_behind [] y z (suc i) get = cc
one_behind (x ∷ xs) y z zero get = inl get
one_behind (x ∷ xs) y z (suc i) get = elim (one_behind xs y z i get) [
  | inl before ↦ inl before
  | inr last ↦ let e = last.0 in inr (omega (arith, e), last.1)
]

pub one_more_fact : (text : List ℕ) (nodes : List Node) (origins : List Origin) (facts : List NodeFacts) (told : NodeFacts)
    → AreFacts text nodes origins facts → IsFacts text nodes origins (length facts) told → AreFacts text nodes origins (facts ++ told ∷ [])
one_more_fact text nodes origins facts told are is = λ i other get. elim (one_behind facts told other i get) [
  | inl before ↦ are i other before
  | inr last ↦
      let P : ℕ → NodeFacts → Type 0 = λ k fact. IsFacts text nodes origins k fact in
      subst (λ k. P k other) (sym last.0) (subst (λ fact. P (length facts) fact) last.1 is)
]

pub one_more_line : (bits : ℕ → Option ℕ) (i : ℕ) (facts : List NodeFacts) (told : NodeFacts)
    → node_lines bits i (facts ++ told ∷ []) ≡ node_lines bits i facts ++ node_line (i + length facts) (bits (i + length facts)) told
one_more_line bits i [] told =
    let e : i + 0 ≡ i = omega arith in
    subst (λ k. node_line i (bits i) told ++ [] ≡ node_line k (bits k) told) (sym e) (append-nil (node_line i (bits i) told))
one_more_line bits i (fact ∷ facts) told =
    let e : i + 1 + length facts ≡ i + suc (length facts) = omega arith in
    let rest = one_more_line bits (i + 1) facts told in
    subst (λ k. node_line i (bits i) fact ++ node_lines bits (i + 1) (facts ++ told ∷ [])
    ≡ (node_line i (bits i) fact ++ node_lines bits (i + 1) facts) ++ node_line k (bits k) told) e
    (ap (λ more. node_line i (bits i) fact ++ more) rest
    ∙ sym (append_assoc (node_line i (bits i) fact) (node_lines bits (i + 1) facts) (node_line (i + 1 + length facts) (bits (i + 1 + length facts)) told)))

-- the lines behind that of one more node
pub more_lines : (bits : ℕ → Option ℕ) (facts : List NodeFacts) (told : NodeFacts) (old now new : List ℕ) (i : ℕ) (b : Option ℕ)
    → length facts ≡ i → bits i ≡ b → now ≡ old ++ node_lines bits 0 facts → new ≡ now ++ node_line i b told
    → new ≡ old ++ node_lines bits 0 (facts ++ told ∷ [])
more_lines bits facts told old now new i b many is so_far wrote =
    let here : 0 + length facts ≡ i = omega (arith, many) in
    let line : node_line (0 + length facts) (bits (0 + length facts)) told ≡ node_line i b told =
    ap (λ k. node_line k (bits k) told) here ∙ ap (λ x. node_line i x told) is in
    wrote ∙ ap (λ l. l ++ node_line i b told) so_far ∙ append_assoc old (node_lines bits 0 facts) (node_line i b told)
    ∙ ap (λ l. old ++ l) (sym (one_more_line bits 0 facts told ∙ ap (λ l. node_lines bits 0 facts ++ l) line))

-- what stands behind a piece
behind : (old now piece rest : List ℕ) → now ≡ old ++ piece → now ++ rest ≡ old ++ (piece ++ rest)
behind old now piece rest is = ap (λ l. l ++ rest) is ∙ append_assoc old piece rest

-- six pieces with a sign behind each
pub cells_joined : (old a b c d e f g h i j k new number line column kind bits path : List ℕ)
    → a ≡ old ++ number → b ≡ a ++ 9 ∷ [] → c ≡ b ++ line → d ≡ c ++ 58 ∷ [] → e ≡ d ++ column → f ≡ e ++ 9 ∷ []
    → g ≡ f ++ kind → h ≡ g ++ 9 ∷ [] → i ≡ h ++ bits → j ≡ i ++ 9 ∷ [] → k ≡ j ++ path → new ≡ k ++ 10 ∷ []
    → new ≡ old ++ (number ++ 9 ∷ (line ++ 58 ∷ (column ++ 9 ∷ (kind ++ 9 ∷ (bits ++ 9 ∷ (path ++ 10 ∷ []))))))
cells_joined old a b c d e f g h i j k new number line column kind bits path n1 n2 n3 n4 n5 n6 n7 n8 n9 n10 n11 n12 =
    let last = path ++ 10 ∷ [] in
    let fifth = bits ++ 9 ∷ last in
    let fourth = kind ++ 9 ∷ fifth in
    let third = column ++ 9 ∷ fourth in
    let second = line ++ 58 ∷ third in
    n12 ∙ behind j k path (10 ∷ []) n11 ∙ behind i j (9 ∷ []) last n10 ∙ behind h i bits (9 ∷ last) n9
    ∙ behind g h (9 ∷ []) fifth n8 ∙ behind f g kind (9 ∷ fifth) n7 ∙ behind e f (9 ∷ []) fourth n6
    ∙ behind d e column (9 ∷ fourth) n5 ∙ behind c d (58 ∷ []) third n4 ∙ behind b c line (58 ∷ third) n3
    ∙ behind a b (9 ∷ []) second n2 ∙ behind old a number (9 ∷ second) n1
