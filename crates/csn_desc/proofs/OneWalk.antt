-- A tree has one list of moves, at one node and place.
use Rattle.std.proofs.Common.{◌≡◌, ℕ, List, [], ◌∷◌, ◌++◌, sym, ◌∙◌, ap, subst}
use Rattle.std.specs.Prelude.{map}
use Rattle.csn_desc.specs.declared.moves.Move.{Move}
use Rattle.csn_desc.specs.declared.moves.Move.TheVariants.{Enter, Bit, Leave}
use Rattle.csn_desc.specs.declared.node.Node.{Node}
use Rattle.csn_desc.specs.TreeV.{TreeV, bits, Trees}
use Rattle.csn_desc.specs.Nodes.{DescV}
use Rattle.csn_desc.specs.Walks.{Walk, NodeWalk, PartsWalk, RepeatsWalk, LeadWalk, walk_at, walk_lits, walk_spare}
use Rattle.csn_desc.specs.Walks.{walk_pad, walk_null, walk_field, walk_rest, walk_seq, walk_choice, walk_times}
use Rattle.csn_desc.specs.Walks.{walk_many, walk_trunc, walk_window, walk_named, parts_end, parts_next, repeats_end}
use Rattle.csn_desc.specs.Walks.{repeats_next, lead_end, lead_next}
use Rattle.csn_desc.proofs.WalkFacts.{walk_moved, at_node}

both_pieces : {a c : List Move} (f1 r1 f2 r2 : List Move) → a ≡ f1 ++ r1 → c ≡ f2 ++ r2 → f1 ≡ f2 → r1 ≡ r2 → a ≡ c
both_pieces f1 r1 f2 r2 left right first rest = left ∙ ap (λ f. f ++ r1) first ∙ ap (λ r. f2 ++ r) rest ∙ sym right

took_same : {a c : List Move} (b1 b2 : List ℕ) → a ≡ map Bit b1 → c ≡ map Bit b2 → bits b1 ≡ bits b2 → a ≡ c
took_same b1 b2 left right same = let agree : b1 ≡ b2 = cc in left ∙ ap (λ b. map Bit b) agree ∙ sym right

module _ (d : DescV) where
  mutual
    pub one_list : {i o : ℕ} {t u : TreeV} {a c : List Move} → Walk d i o t a → Walk d i o u c → t ≡ u → a ≡ c
    one_list {i = i} (walk_at n1 in1 at1 h1 e1) (walk_at n2 in2 at2 h2 e2) same =
        let node : n1 ≡ n2 = cc in
        e1 ∙ ap (λ inside. Enter i ∷ (inside ++ Leave ∷ [])) (node_list h1 (at_node d node h2) same) ∙ sym e2

    node_list : {n : Node} {o : ℕ} {t u : TreeV} {a c : List Move} → NodeWalk d n o t a → NodeWalk d n o u c → t ≡ u → a ≡ c
    node_list (walk_lits left) (walk_lits right) same = left ∙ sym right
    node_list (walk_spare {b = b1} left) (walk_spare {b = b2} right) same = took_same b1 b2 left right same
    node_list (walk_pad {b = b1} left) (walk_pad {b = b2} right) same = took_same b1 b2 left right same
    node_list (walk_null left) (walk_null right) same = left ∙ sym right
    node_list (walk_field {b = b1} left) (walk_field {b = b2} right) same = took_same b1 b2 left right same
    node_list (walk_rest {b = b1} left) (walk_rest {b = b2} right) same = took_same b1 b2 left right same
    node_list (walk_seq h1) (walk_seq h2) same = parts_list h1 h2 (cc)
    node_list {c = c} (walk_choice {j = j} i1 at1 h1) (walk_choice {j = k} {o = o} {t = u} i2 at2 h2) same =
        let alternative : j ≡ k = cc in
        let part : i1 ≡ i2 = cc in
        let P : ℕ → Type 0 = λ i. Walk d i o u c in
        one_list h1 (subst P (sym part) h2) (cc)
    node_list (walk_times h1) (walk_times h2) same = repeats_list h1 h2 (cc)
    node_list (walk_many h1) (walk_many h2) same = repeats_list h1 h2 (cc)
    node_list (walk_trunc h1) (walk_trunc h2) same = lead_list h1 h2 (cc)
    node_list (walk_window h1) (walk_window h2) same = one_list h1 h2 same
    node_list (walk_named h1) (walk_named h2) same = one_list h1 h2 (cc)

    parts_list : {parts : List ℕ} {o : ℕ} {ts us : Trees} {a c : List Move} → PartsWalk d parts o ts a → PartsWalk d parts o us c → ts ≡ us → a ≡ c
    parts_list (parts_end left) (parts_end right) same = left ∙ sym right
    parts_list (parts_next {parts = parts} {o = o} f1 r1 left w1 ws1) (parts_next {ts = us} f2 r2 right w2 ws2) same =
        let first = one_list w1 w2 (cc) in
        both_pieces f1 r1 f2 r2 left right first (parts_list ws1 (walk_moved d (λ k ms. PartsWalk d parts k us ms) o first ws2) (cc))

    repeats_list : {i o : ℕ} {ts us : Trees} {a c : List Move} → RepeatsWalk d i o ts a → RepeatsWalk d i o us c → ts ≡ us → a ≡ c
    repeats_list (repeats_end left) (repeats_end right) same = left ∙ sym right
    repeats_list (repeats_next {i = i} {o = o} f1 r1 left w1 ws1) (repeats_next {ts = us} f2 r2 right w2 ws2) same =
        let first = one_list w1 w2 (cc) in
        both_pieces f1 r1 f2 r2 left right first (repeats_list ws1 (walk_moved d (λ k ms. RepeatsWalk d i k us ms) o first ws2) (cc))
    repeats_list _ _ same = cc

    lead_list : {parts : List ℕ} {o : ℕ} {ts us : Trees} {a c : List Move} → LeadWalk d parts o ts a → LeadWalk d parts o us c → ts ≡ us → a ≡ c
    lead_list (lead_end left) (lead_end right) same = left ∙ sym right
    lead_list (lead_next {parts = parts} {o = o} f1 r1 left w1 ws1) (lead_next {ts = us} f2 r2 right w2 ws2) same =
        let first = one_list w1 w2 (cc) in
        both_pieces f1 r1 f2 r2 left right first (lead_list ws1 (walk_moved d (λ k ms. LeadWalk d parts k us ms) o first ws2) (cc))
    lead_list _ _ same = cc
