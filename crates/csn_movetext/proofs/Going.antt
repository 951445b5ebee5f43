-- The moves of a tree lead from one state to another, where each move leads to one.
use Rattle.std.proofs.Common.{◌≡◌, ℕ, List, [], ◌∷◌, ◌++◌, refl, sym, ap, subst, ◌∙◌, append_assoc, Some}
use Rattle.std.specs.Prelude.{slice_get, map}
use Rattle.csn_desc.specs.declared.moves.Move.{Move}
use Rattle.csn_desc.specs.declared.moves.Move.TheVariants.{Enter, Bit, Leave}
use Rattle.csn_desc.specs.declared.node.Node.{Node}
use Rattle.csn_desc.specs.Spelled.{spelled}
use Rattle.csn_desc.specs.TreeV.{TreeV, Trees}
use Rattle.csn_desc.specs.Nodes.{DescV}
use Rattle.csn_desc.specs.Walks.{Walk, NodeWalk, PartsWalk, RepeatsWalk, LeadWalk, walk_at, walk_lits, walk_spare}
use Rattle.csn_desc.specs.Walks.{walk_pad, walk_null, walk_field, walk_rest, walk_seq, walk_choice, walk_times}
use Rattle.csn_desc.specs.Walks.{walk_many, walk_trunc, walk_window, walk_named, parts_end, parts_next, repeats_end}
use Rattle.csn_desc.specs.Walks.{repeats_next, lead_end, lead_next}
use Rattle.csn_judge.specs.Told.{Tells, tells_none, tells_enter, tells_bit, tells_leave}
use Rattle.csn_movetext.specs.WithNodes.{with_nodes, inside, with_node}

module _ (d : DescV) {S X : Type 0} (takes : S → Move → Node → S → Type 0) (state : X → S) (go : X → Move → Node → X)
    (goes : (x : X) (move : Move) (node : Node) → takes (state x) move node (state (go x move node))) where
  -- behind some moves with their nodes
  abbrev pub gone : X → List (Move × Node) → X
  gone x [] = x
  gone x (first ∷ rest) = gone (go x first.0 first.1) rest

  joined : {around middle others : List ℕ} {first second : List Move} {old mid new : S}
      → Tells d takes around first middle old mid → Tells d takes middle second others mid new
      → Tells d takes around (first ++ second) others old new
  joined {around = around} {others = others} {second = second} {mid = mid} {new = new} (tells_none open_is new_is) later =
      let P : List ℕ → Type 0 = λ a. Tells d takes a second others mid new in
      let Q : S → Type 0 = λ s. Tells d takes around second others s new in
      subst Q new_is (subst P open_is later)
  joined (tells_enter node next at makes tells) later = tells_enter node next at makes (joined tells later)
  joined (tells_bit node next at makes tells) later = tells_bit node next at makes (joined tells later)
  joined (tells_leave node next at makes tells) later = tells_leave node next at makes (joined tells later)

  -- the moves lead from one state to another, inside the same nodes before and behind them
  pub record Goes (around : List ℕ) (nodes : List Node) (moves : List Move) (x : X) : Type 0 where
    pub last : X
    pub tells : Tells d takes around moves around (state x) (state last)
    pub leads : (rest : List Move) → gone x (with_nodes d nodes (moves ++ rest)) ≡ gone last (with_nodes d nodes rest)

  none_go : (around : List ℕ) (nodes : List Node) (moves : List Move) (x : X) → moves ≡ [] → Goes around nodes moves x
  none_go around nodes moves x e =
      let P : List Move → Type 0 = λ l. Goes around nodes l x in
      subst P (sym e) (record { last = x; tells = tells_none refl refl; leads = λ rest. refl })

  then_go :
      (around : List ℕ) (nodes : List Node) (moves first others : List Move) (x : X) → moves ≡ first ++ others
      → Goes around nodes first x → ((y : X) → Goes around nodes others y) → Goes around nodes moves x
  then_go around nodes moves first others x cut g later =
      let h = later g.last in
      let P : List Move → Type 0 = λ l. Goes around nodes l x in
      subst P (sym cut)
      (record {
        last = h.last;
        tells = joined g.tells h.tells;
        leads = λ rest. ap (λ l. gone x (with_nodes d nodes l)) (append_assoc first others rest) ∙ g.leads (others ++ rest) ∙ h.leads rest;
      })

  bits_go : (i : ℕ) (around : List ℕ) (n : Node) (nodes : List Node) → slice_get d.nodes i ≡ Some n
      → (b : List ℕ) (x : X) → Goes (i ∷ around) (n ∷ nodes) (map Bit b) x
  bits_go i around n nodes at [] x = none_go (i ∷ around) (n ∷ nodes) [] x refl
  bits_go i around n nodes at (bit ∷ b) x =
      let g = bits_go i around n nodes at b (go x (Bit bit) n) in
      record {
        last = g.last;
        tells = tells_bit n (state (go x (Bit bit) n)) at (goes x (Bit bit) n) g.tells;
        leads = λ rest. g.leads rest;
      }

  leaf_go : (i : ℕ) (around : List ℕ) (n : Node) (nodes : List Node) → slice_get d.nodes i ≡ Some n
      → (b : List ℕ) (moves : List Move) (x : X) → moves ≡ map Bit b → Goes (i ∷ around) (n ∷ nodes) moves x
  leaf_go i around n nodes at b moves x e =
      let P : List Move → Type 0 = λ l. Goes (i ∷ around) (n ∷ nodes) l x in
      subst P (sym e) (bits_go i around n nodes at b x)

  -- what is inside a node is entered and left
  node_go :
      (i : ℕ) (around : List ℕ) (n : Node) (nodes : List Node) (within moves : List Move) (x : X)
      → slice_get d.nodes i ≡ Some n → moves ≡ Enter i ∷ (within ++ Leave ∷ [])
      → Goes (i ∷ around) (n ∷ nodes) within (go x (Enter i) n) → Goes around nodes moves x
  node_go i around n nodes within moves x at e g =
      let last : X = go g.last Leave n in
      let P : List Move → Type 0 = λ l. Goes around nodes l x in
      subst P (sym e)
      (record {
        last = last;
        tells = tells_enter n (state (go x (Enter i) n)) at (goes x (Enter i) n)
            (joined g.tells (tells_leave n (state last) at (goes g.last Leave n) (tells_none refl refl)));
        leads = λ rest.
            ap (λ o. gone x (with_node (Enter i) o (with_nodes d (inside o nodes) ((within ++ Leave ∷ []) ++ rest)))) at
            ∙ ap (λ l. gone (go x (Enter i) n) (with_nodes d (n ∷ nodes) l)) (append_assoc within (Leave ∷ []) rest)
            ∙ g.leads (Leave ∷ rest);
      })

  mutual
    pub walk_goes : {i o : ℕ} {t : TreeV} {moves : List Move} → Walk d i o t moves → (around : List ℕ) (nodes : List Node) (x : X) → Goes around nodes moves x
    walk_goes {i = i} {moves = moves} (walk_at n within at h e) around nodes x =
        node_go i around n nodes within moves x at e (inside_goes h i around nodes at (go x (Enter i) n))

    inside_goes : {n : Node} {o : ℕ} {t : TreeV} {moves : List Move}
        → NodeWalk d n o t moves → (i : ℕ) (around : List ℕ) (nodes : List Node) → slice_get d.nodes i ≡ Some n
        → (x : X) → Goes (i ∷ around) (n ∷ nodes) moves x
    inside_goes {n = n} {moves = moves} (walk_lits {run = run} {o = o} e) i around nodes at x = leaf_go i around n nodes at (spelled run o) moves x e
    inside_goes {n = n} {moves = moves} (walk_spare {b = b} e) i around nodes at x = leaf_go i around n nodes at b moves x e
    inside_goes {n = n} {moves = moves} (walk_pad {b = b} e) i around nodes at x = leaf_go i around n nodes at b moves x e
    inside_goes {n = n} {moves = moves} (walk_null e) i around nodes at x = none_go (i ∷ around) (n ∷ nodes) moves x e
    inside_goes {n = n} {moves = moves} (walk_field {b = b} e) i around nodes at x = leaf_go i around n nodes at b moves x e
    inside_goes {n = n} {moves = moves} (walk_rest {b = b} e) i around nodes at x = leaf_go i around n nodes at b moves x e
    inside_goes {n = n} (walk_seq h) i around nodes at x = parts_go h (i ∷ around) (n ∷ nodes) x
    inside_goes {n = n} (walk_choice p here h) i around nodes at x = walk_goes h (i ∷ around) (n ∷ nodes) x
    inside_goes {n = n} (walk_times h) i around nodes at x = repeats_go h (i ∷ around) (n ∷ nodes) x
    inside_goes {n = n} (walk_many h) i around nodes at x = repeats_go h (i ∷ around) (n ∷ nodes) x
    inside_goes {n = n} (walk_trunc h) i around nodes at x = lead_go h (i ∷ around) (n ∷ nodes) x
    inside_goes {n = n} (walk_window h) i around nodes at x = walk_goes h (i ∷ around) (n ∷ nodes) x
    inside_goes {n = n} (walk_named h) i around nodes at x = walk_goes h (i ∷ around) (n ∷ nodes) x

    parts_go : {parts : List ℕ} {o : ℕ} {ts : Trees} {moves : List Move} → PartsWalk d parts o ts moves
        → (around : List ℕ) (nodes : List Node) (x : X) → Goes around nodes moves x
    parts_go {moves = moves} (parts_end e) around nodes x = none_go around nodes moves x e
    parts_go {moves = moves} (parts_next first others cut h later) around nodes x =
        then_go around nodes moves first others x cut (walk_goes h around nodes x)
        (λ y. parts_go later around nodes y)

    repeats_go : {i o : ℕ} {ts : Trees} {moves : List Move}
        → RepeatsWalk d i o ts moves → (around : List ℕ) (nodes : List Node) (x : X) → Goes around nodes moves x
    repeats_go {moves = moves} (repeats_end e) around nodes x = none_go around nodes moves x e
    repeats_go {moves = moves} (repeats_next first others cut h later) around nodes x =
        then_go around nodes moves first others x cut (walk_goes h around nodes x)
        (λ y. repeats_go later around nodes y)

    lead_go : {parts : List ℕ} {o : ℕ} {ts : Trees} {moves : List Move}
        → LeadWalk d parts o ts moves → (around : List ℕ) (nodes : List Node) (x : X) → Goes around nodes moves x
    lead_go {moves = moves} (lead_end e) around nodes x = none_go around nodes moves x e
    lead_go {moves = moves} (lead_next first others cut h later) around nodes x =
        then_go around nodes moves first others x cut (walk_goes h around nodes x) (λ y. lead_go later around nodes y)
