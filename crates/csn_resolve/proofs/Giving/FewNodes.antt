-- A named rule that is not refused on the walk gives no more nodes than may be begun.
use Rattle.std.proofs.Common.{◌≡◌, ℕ, suc, ◌+◌, ◌≤◌, Bool, true, false, List, [], ◌∷◌, ◌++◌, length, length-append, refl, sym, ◌∙◌, ap, subst, arith}
use Rattle.std.specs.Prelude.{◌==◌, if◌then◌else◌}
use Rattle.csn_desc.specs.declared.reading.Reading.{Reading}
use Rattle.csn_desc.proofs.Innermost.{not_full}
use Rattle.csn_grammar.specs.declared.rules.Rule.{Rule}
use Rattle.csn_grammar.specs.ExprV.{ExprV, ExprsV, BranchesV}
use Rattle.csn_grammar.specs.RulesV.{RulesV}
use Rattle.csn_grammar.specs.Names.{is_built_in, built_in_names}
use Rattle.csn_grammar.specs.Forms.{WindowV}
use Rattle.csn_grammar.specs.TailForm.{EndV, TailV}
use Rattle.csn_grammar.specs.Void.{Kept, kept_end, kept_next, kept_void, kept_error}
use Rattle.csn_grammar.proofs.VoidFacts.{no_rule, same_window, same_rule}
use Rattle.csn_resolve.specs.declared.why.Why.TheVariants.{Undefined, Recursive, IntersectionForm, TooManyNodes}
use Rattle.csn_resolve.specs.Why.{Refusal}
use Rattle.csn_resolve.specs.Seen.{Frame, Seen}
use Rattle.csn_resolve.specs.Steps.{Step, begins, refused, refusals_after}
use Rattle.csn_resolve.specs.Walk.{Around, inside, in_turn, turn_begun, entering, node_at, Walk, ItemsWalk}
use Rattle.csn_resolve.specs.Walk.{BranchesWalk, RuleWalk, walk_lits, walk_null, walk_bit, walk_octet, walk_field}
use Rattle.csn_resolve.specs.Walk.{walk_rest, walk_built_in, walk_undefined, walk_recursive, walk_name, walk_group}
use Rattle.csn_resolve.specs.Walk.{walk_labelled, walk_seq, walk_choice, walk_times, walk_many, walk_cut, walk_window}
use Rattle.csn_resolve.specs.Walk.{walk_window_behind, walk_no_window, walk_sends}
use Rattle.csn_resolve.specs.Walk as walk
use Rattle.csn_resolve.specs.Gives.{Placed, start_of, Gives, ItemsGive, EachGives, RuleGives, gives_lits, gives_null}
use Rattle.csn_resolve.specs.Gives.{gives_bit, gives_octet, gives_field, gives_rest, gives_spare_bit, gives_spare_low}
use Rattle.csn_resolve.specs.Gives.{gives_padding, gives_seq, gives_choice, gives_only, gives_times, gives_many}
use Rattle.csn_resolve.specs.Gives.{gives_cut, gives_window, gives_labelled, gives_name, gives_group, gives_received}
use Rattle.csn_resolve.specs.Gives.{gives_sent, items_end, items_next, each_end, each_next, rule_plain, rule_tail}
use Rattle.csn_resolve.specs.Resolved.{ResolveSteps, asked_unknown, asked_rule, NameGives, AreRefusals, twice_steps}
use Rattle.csn_resolve.proofs.Giving.Once.{same_tail}
use Rattle.csn_resolve.proofs.Basics.Windows.{only_is, left_window, right_window}
use Rattle.csn_resolve.proofs.Walking.Quiet.{Quiet, first_of, rest_of, quiet_from, rest_empty, tail_quiet}
use Rattle.csn_resolve.proofs.Basics.Bools.{no_both}

-- ---- how many nodes are begun

abbrev begun : List Step → ℕ
begun [] = 0
begun (begins place ∷ steps) = suc (begun steps)
begun (refused why place ∷ steps) = begun steps

begun_both : (xs ys : List Step) → begun (xs ++ ys) ≡ begun xs + begun ys
begun_both [] ys = omega arith
begun_both (begins place ∷ xs) ys = let later = begun_both xs ys in omega arith
begun_both (refused why place ∷ xs) ys = let later = begun_both xs ys in omega arith

begun_in : {steps : List Step} (xs ys : List Step) → steps ≡ xs ++ ys → begun steps ≡ begun xs + begun ys
begun_in xs ys p = ap begun p ∙ begun_both xs ys

node_begun : (a : Around) (s : ℕ) → 1 ≤ begun (node_at a s)
node_begun a s = let both = begun_both (entering a s) (begins s ∷ []) in omega arith

one_begun : {steps : List Step} (a : Around) (s : ℕ) → steps ≡ node_at a s → 1 ≤ begun steps
one_begun a s p = let one = node_begun a s in omega (arith, ap begun p)

-- the walk begins the repetition, the sequence in it and its word
turn_begins : (a : Around) (end : EndV) → 3 ≤ begun (turn_begun a end)
turn_begins a end =
    let first = node_at a end.braces in
    let braces = entering (inside a) end.braces in
    let again = node_at (inside (inside a)) end.again.at in
    let word = node_at (in_turn a) end.again.at in
    omega (
      arith,
      node_begun a end.braces,
      node_begun (inside (inside a)) end.again.at,
      node_begun (in_turn a)
          end.again.at,
      begun_both first (braces ++ (again ++ word)),
      begun_both braces (again ++ word),
      begun_both again word,
    )

-- ---- that many are not refused

first_empty : (xs ys : List Refusal) → xs ++ ys ≡ [] → xs ≡ []
first_empty [] ys p = refl
first_empty (x ∷ xs) ys p = absurd (cc)

not_many : (b : Bool) (refusal : Refusal) → (if b then refusal ∷ [] else []) ≡ [] → b ≡ false
not_many true refusal p = absurd (cc)
not_many false refusal p = refl

few_begun : (before : ℕ) (steps : List Step) → before ≤ 16384 → refusals_after before steps ≡ [] → before + begun steps ≤ 16384
few_begun before [] few p = omega (arith, few)
few_begun before (refused why place ∷ steps) few p = absurd (cc)
few_begun before (begins place ∷ steps) few p =
    let many : Refusal = record { why = TooManyNodes; place = place } in
    let here : List Refusal = if before == 16384 then many ∷ [] else [] in
    let rest : List Refusal = refusals_after (suc before) steps in
    let less = not_full before 16384 few (not_many (before == 16384) many (first_empty here rest p)) in
    let later = few_begun (suc before) steps (omega (arith, less)) (rest_empty here rest p) in
    omega (arith, later)

-- ---- one node is begun for each that is given

leaf_few :
    {steps : List Step} {nodes : List Placed} {one : Placed} (a : Around) (s : ℕ)
    → steps ≡ node_at a s → nodes ≡ one ∷ [] → length nodes ≤ begun steps
leaf_few a s p g = omega (arith, ap length g, one_begun a s p)

node_few :
    {steps : List Step} {nodes inner : List Placed} {one : Placed} (a : Around) (s : ℕ) (more : List Step)
    → steps ≡ node_at a s ++ more → nodes ≡ one ∷ inner → length inner ≤ begun more → length nodes ≤ begun steps
node_few a s more p g few = omega (arith, ap length g, begun_in (node_at a s) more p, node_begun a s, few)

entered_few :
    {steps : List Step} (nodes : List Placed) (a : Around) (s : ℕ) (more : List Step)
    → steps ≡ entering a s ++ more → length nodes ≤ begun more → length nodes ≤ begun steps
entered_few nodes a s more p few = omega (arith, begun_in (entering a s) more p, few)

first_few : (nodes : List Placed) (xs ys : List Step) → length nodes ≤ begun xs → length nodes ≤ begun (xs ++ ys)
first_few nodes xs ys few = omega (arith, begun_both xs ys, few)

rest_few : (nodes : List Placed) (xs ys : List Step) → length nodes ≤ begun ys → length nodes ≤ begun (xs ++ ys)
rest_few nodes xs ys few = omega (arith, begun_both xs ys, few)

both_few :
    {steps : List Step} {nodes : List Placed} (first rest : List Placed) (xs ys : List Step)
    → steps ≡ xs ++ ys → nodes ≡ first ++ rest → length first ≤ begun xs → length rest ≤ begun ys → length nodes ≤ begun steps
both_few first rest xs ys p g few less =
    omega (arith, begun_in xs ys p, ap length g, length-append first rest, few, less)

-- the steps of a rule in tail form
tail_begun :
    {steps : List Step} (node items turns turn left ends : List Step) → steps ≡ node ++ (items ++ (turns ++ (turn ++ (left ++ ends))))
    → begun steps ≡ begun node + (begun items + (begun turns + (begun turn + (begun left + begun ends))))
tail_begun node items turns turn left ends p =
    omega (
      arith,
      begun_in node (items ++ (turns ++ (turn ++ (left ++ ends)))) p,
      begun_both items
          (turns ++ (turn ++ (left ++ ends))),
      begun_both turns (turn ++ (left ++ ends)),
      begun_both turn
          (left ++ ends),
      begun_both left ends,
    )

-- the nodes of one
tail_count :
    {nodes : List Placed} (root many again word stop : Placed) (items turn : List Placed)
    → nodes ≡ root ∷ (items ++ many ∷ again ∷ word ∷ (turn ++ stop ∷ []))
    → length nodes ≡ length items + length turn + 5
tail_count root many again word stop items turn p =
    omega (arith, ap length p, length-append items (many ∷ again ∷ word ∷ (turn ++ stop ∷ [])), length-append turn (stop ∷ []))

module _ (rules : RulesV) (r : Reading) where
  mutual
    gives_few :
        {a : Around} {x : ExprV} {steps : List Step} {at : ℕ} {seen : Seen ℕ} {nodes : List Placed}
        → Walk rules r a x steps → Quiet steps → Gives rules r x at seen nodes → length nodes ≤ begun steps
    gives_few {a} (walk_lits {s = s} p) q (gives_lits g) = leaf_few a s p g
    gives_few {a} (walk_null {s = s} p) q (gives_null g) = leaf_few a s p g
    gives_few {a} (walk_bit {s = s} p) q (gives_bit g) = leaf_few a s p g
    gives_few {a} (walk_octet {s = s} p) q (gives_octet g) = leaf_few a s p g
    -- with an exponent
    gives_few {a} (walk_field {s = s} {counts = counts} is c p) q (gives_field unit count at_unit at_count g) =
        node_few a s counts p g (omega arith)
    gives_few (walk_field is c p) q (gives_rest one g) = elim c [ ]
    gives_few (walk_field is c p) q (gives_times count none at_count g given) = absurd (cc)
    gives_few (walk_field is c p) q (gives_many other g given) = elim c [ ]
    gives_few (walk_rest is p) q (gives_field unit count at_unit at_count g) = absurd (cc)
    gives_few {a} (walk_rest {s = s} is p) q (gives_rest one g) = leaf_few a s p g
    gives_few (walk_rest is p) q (gives_times count none at_count g given) = absurd (cc)
    gives_few {a} (walk_rest {s = s} is p) q (gives_many other g given) = absurd (no_both is other)
    gives_few (walk_times none c w l p) q (gives_field unit count at_unit at_count g) = absurd (cc)
    gives_few (walk_times none c w l p) q (gives_rest one g) = elim c [ ]
    gives_few {a} (walk_times {s = s} {counts = counts} {inner = inner} {left = left} none c w l p) q
        (gives_times {inner = part} count none' at_count g given) =
        let after = rest_of counts (inner ++ left) refl (rest_of (node_at a s) (counts ++ (inner ++ left)) p q) in
        node_few a s (counts ++ (inner ++ left)) p given
        (rest_few part counts (inner ++ left) (first_few part inner left (gives_few w (first_of inner left refl after) g)))
    gives_few (walk_times none c w l p) q (gives_many other g given) = elim c [ ]
    gives_few (walk_many other w l p) q (gives_field unit count at_unit at_count g) = absurd (cc)
    gives_few (walk_many other w l p) q (gives_rest one g) = absurd (no_both one other)
    gives_few (walk_many other w l p) q (gives_times count none at_count g given) = absurd (cc)
    gives_few {a} (walk_many {s = s} {inner = inner} {left = left} other w l p) q (gives_many {inner = part} other' g given) =
        let after = rest_of (node_at a s) (inner ++ left) p q in
        node_few a s (inner ++ left) p given (first_few part inner left (gives_few w (first_of inner left refl after) g))
    -- names
    gives_few {a} (walk_built_in {s = s} is p) q (gives_spare_bit named g) = leaf_few a s p g
    gives_few {a} (walk_built_in {s = s} is p) q (gives_spare_low named g) = leaf_few a s p g
    gives_few {a} (walk_built_in {s = s} is p) q (gives_padding named g) = leaf_few a s p g
    gives_few (walk_built_in {n = n} is p) q (gives_name rule found g) = absurd (no_rule rules n rule is found)
    gives_few {a} (walk_undefined {s = s} not none p) q g = absurd (rest_of (entering a s) (refused Undefined s ∷ []) p q)
    gives_few {a} (walk_recursive {s = s} rule is among p) q g = absurd (rest_of (entering a s) (refused Recursive s ∷ []) p q)
    gives_few (walk_name {n = n} rule is new w p) q (gives_spare_bit named g) = absurd (no_rule rules n rule (ap is_built_in named) is)
    gives_few (walk_name {n = n} rule is new w p) q (gives_spare_low named g) = absurd (no_rule rules n rule (ap is_built_in named) is)
    gives_few (walk_name {n = n} rule is new w p) q (gives_padding named g) = absurd (no_rule rules n rule (ap is_built_in named) is)
    gives_few {a} {at = at} {seen = seen} {nodes = nodes} (walk_name {s = s} {n = n} {inner = inner} rule is new w p) q (gives_name other found g) =
        let P : Rule → Type 0 = λ z. RuleGives rules r z at seen nodes in
        entered_few nodes a s inner p (rule_few w (rest_of (entering a s) inner p q) (subst P (same_rule rules n found is) g))
    -- what stands round one part
    gives_few {a} {nodes = nodes} (walk_group {s = s} {inner = inner} w p) q (gives_group g) =
        entered_few nodes a s inner p (gives_few w (rest_of (entering a s) inner p q) g)
    gives_few {a} (walk_labelled {s = s} {inner = inner} w p) q (gives_labelled g given) =
        node_few a s inner p given (gives_few w (rest_of (node_at a s) inner p q) g)
    gives_few {a} {at = at} {seen = seen} (walk_window {s = s} {x = x} {y = y} {counts = counts} {inner = steps}
        w is c k p) q (gives_window {inner = inner} v count window at_count g given) =
        let same : v ≡ record { width = w; part = y } = same_window x y window (left_window x y w is) in
        let P : WindowV → Type 0 = λ z. Gives rules r z.part (suc at) seen inner in
        let after = rest_of (node_at a s) (counts ++ steps) p q in
        node_few a s (counts ++ steps) p given (rest_few inner counts steps (gives_few k (rest_of counts steps refl after) (subst P same g)))
    gives_few {a} {at = at} {seen = seen} (walk_window_behind {s = s} {x = x} {y = y} {counts = counts}
        {inner = steps} w none is k c p) q (gives_window {inner = inner} v count window at_count g given) =
        let same : v ≡ record { width = w; part = x } = same_window x y window (right_window x y w none is) in
        let P : WindowV → Type 0 = λ z. Gives rules r z.part (suc at) seen inner in
        let after = rest_of (node_at a s) (steps ++ counts) p q in
        node_few a s (steps ++ counts) p given (first_few inner steps counts (gives_few k (first_of steps counts refl after) (subst P same g)))
    gives_few {a} (walk_no_window {s = s} {x = x} {left = left} {right = right} none none' w w' p) q g =
        absurd (rest_of (node_at a s) (refused IntersectionForm (start_of x) ∷ (left ++ right)) p q)
    gives_few (walk_sends {left = left} {right = right} w w' p) q (gives_received is g) =
        omega (arith, begun_in left right p, gives_few w (first_of left right p q) g)
    gives_few (walk_sends {left = left} {right = right} w w' p) q (gives_sent is g) =
        omega (arith, begun_in left right p, gives_few w' (rest_of left right p q) g)
    -- several parts
    gives_few {a} (walk_seq {s = s} {inner = inner} w p) q (gives_seq g given) =
        node_few a s inner p given (items_few w (rest_of (node_at a s) inner p q) g)
    gives_few {a} (walk_cut {s = s} {inner = inner} w p) q (gives_cut g given) =
        node_few a s inner p given (items_few w (rest_of (node_at a s) inner p q) g)
    gives_few {a} (walk_choice {s = s} {inner = inner} w p) q (gives_choice xs kept two g given) =
        node_few a s inner p given (each_few w (rest_of (node_at a s) inner p q) kept g)
    gives_few {a} (walk_choice {s = s} {inner = inner} w p) q (gives_only kept g) =
        omega (arith, begun_in (node_at a s) inner p, only_few w (rest_of (node_at a s) inner p q) kept refl g)

    items_few :
        {full : Bool} {a : Around} {frame : Frame ExprV} {xs : ExprsV} {steps : List Step} {at : ℕ} {other : Frame ℕ}
        {seen : Seen ℕ} {parts : List ℕ} {nodes : List Placed}
        → ItemsWalk rules r full a frame xs steps → Quiet steps → ItemsGive rules r xs at other seen parts nodes
        → length nodes ≤ begun steps
    items_few (walk.items_end p) q (items_end none end) = omega (arith, ap length end)
    items_few (walk.items_next {first = steps} {rest = more} left w l others p) q (items_next first rest g later now given) =
        both_few first rest steps (left ++ more) p given (gives_few w (first_of steps (left ++ more) p q) g)
        (rest_few rest left more (items_few others (rest_of left more refl (rest_of steps (left ++ more) p q)) later))

    each_few :
        {a : Around} {bs : BranchesV} {steps : List Step} {xs : List ExprV} {at : ℕ} {seen : Seen ℕ} {parts : List ℕ}
        {nodes : List Placed}
        → BranchesWalk rules r a bs steps → Quiet steps → Kept rules r bs xs → EachGives rules r xs at seen parts nodes
        → length nodes ≤ begun steps
    each_few (walk.branches_end p) q kept_end (each_end none end) = omega (arith, ap length end)
    each_few (walk.branches_next {first = steps} {left = left} {rest = more} w l others p) q (kept_next full kept) (each_next first rest g later now given) =
        both_few first rest steps (left ++ more) p given (gives_few w (first_of steps (left ++ more) p q) g)
        (rest_few rest left more (each_few others (rest_of left more refl (rest_of steps (left ++ more) p q)) kept later))
    each_few (walk.branches_next {first = steps} {left = left} {rest = more} w l others p) q (kept_void void kept) g =
        let later = each_few others (rest_of left more refl (rest_of steps (left ++ more) p q)) kept g in
        omega (arith, begun_in steps (left ++ more) p, begun_both left more, later)
    each_few (walk.branches_next {first = steps} {left = left} {rest = more} w l others p) q (kept_error kept) g =
        let later = each_few others (rest_of left more refl (rest_of steps (left ++ more) p q)) kept g in
        omega (arith, begun_in steps (left ++ more) p, begun_both left more, later)

    -- the only alternative that is kept
    only_few :
        {a : Around} {bs : BranchesV} {steps : List Step} {xs : List ExprV} {x : ExprV} {at : ℕ} {seen : Seen ℕ}
        {nodes : List Placed}
        → BranchesWalk rules r a bs steps → Quiet steps → Kept rules r bs xs → xs ≡ x ∷ []
        → Gives rules r x at seen nodes → length nodes ≤ begun steps
    only_few (walk.branches_end p) q kept_end one g = absurd (cc)
    only_few {at = at} {seen = seen} {nodes = nodes} (walk.branches_next {first = steps} {left = left} {rest = more}
        w l others p) q (kept_next full kept) one g =
        let P : ExprV → Type 0 = λ z. Gives rules r z at seen nodes in
        let here = gives_few w (first_of steps (left ++ more) p q) (subst P (sym (only_is one)) g) in
        omega (arith, begun_in steps (left ++ more) p, here)
    only_few (walk.branches_next {first = steps} {left = left} {rest = more} w l others p) q (kept_void void kept) one g =
        let later = only_few others (rest_of left more refl (rest_of steps (left ++ more) p q)) kept one g in
        omega (arith, begun_in steps (left ++ more) p, begun_both left more, later)
    only_few (walk.branches_next {first = steps} {left = left} {rest = more} w l others p) q (kept_error kept) one g =
        let later = only_few others (rest_of left more refl (rest_of steps (left ++ more) p q)) kept one g in
        omega (arith, begun_in steps (left ++ more) p, begun_both left more, later)

    rule_few :
        {a : Around} {rule : Rule} {steps : List Step} {at : ℕ} {seen : Seen ℕ} {nodes : List Placed}
        → RuleWalk rules r a rule steps → Quiet steps → RuleGives rules r rule at seen nodes → length nodes ≤ begun steps
    rule_few (walk.rule_plain is w) q (rule_plain is' g) = gives_few w q g
    rule_few (walk.rule_plain is w) q (rule_tail tail many stop parts turn_parts items turn is' i many_is t stop_is p) = absurd (cc)
    rule_few (walk.rule_tail tail is i t l p) q (rule_plain is' g) = absurd (cc)
    rule_few {a} {rule} {at = at} {seen = seen} (walk.rule_tail {items = steps} {turn = turns} {left = left}
        tail is i t l p) q (rule_tail tail' many stop parts turn_parts items turn is' i' many_is t' stop_is p') =
        let same : tail' ≡ tail = same_tail rule is' is in
        let P : TailV → Type 0 = λ z. ItemsGive rules r z.items (suc at) [] seen parts items in
        let Q : TailV → Type 0 = λ z. ItemsGive rules r z.items (many + 3) [] seen turn_parts turn in
        let quiet = tail_quiet _ steps _ turns left _ p q in
        let first = items_few i quiet.items_quiet (subst P same i') in
        let second = items_few t quiet.turn_quiet (subst Q same t') in
        omega (
          arith,
          tail_begun _ steps _ turns left _ p,
          node_begun a (start_of rule.body),
          turn_begins (inside a) tail.end,
          node_begun (inside a) tail.end.stop.at,
          first,
          second,
          tail_count _ _ _ _ _ items turn p',
        )

  name_few :
      {n : List ℕ} {steps : List Step} {nodes : List Placed}
      → ResolveSteps rules n r steps → Quiet steps → NameGives rules n r nodes → length nodes ≤ begun steps
  name_few (asked_unknown none p) q g = absurd (rest_of (twice_steps built_in_names rules) (refused Undefined 0 ∷ []) p q)
  name_few {n} {nodes = nodes} (asked_rule {walk = steps} {left = left} rule is w l p) q g =
      let after = rest_of (twice_steps built_in_names rules) (steps ++ left) p q in
      let P : Rule → Type 0 = λ z. RuleGives rules r z 0 [] nodes in
      let few = rule_few w (first_of steps left refl after) (subst P (same_rule rules n g.found is) g.gives) in
      omega (arith, begun_in (twice_steps built_in_names rules) (steps ++ left) p, begun_both steps left, few)

pub few_nodes :
    (rules : RulesV) (r : Reading) (n : List ℕ) (nodes : List Placed)
    → AreRefusals rules n r [] → NameGives rules n r nodes → length nodes ≤ 16384
few_nodes rules r n nodes h g =
    let few = name_few rules r h.walked (quiet_from 0 h.steps (sym h.are)) g in
    let most = few_begun 0 h.steps (omega arith) (sym h.are) in
    omega (arith, few, most)
