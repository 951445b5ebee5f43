-- Items and alternatives whose nodes are added one by one, and rules in tail form.
use Rattle.std.proofs.Common.{◌≡◌, ℕ, suc, ◌+◌, ◌≤◌, ◌<◌, Bool, false, List, [], ◌∷◌, ◌++◌, length, refl, sym, ◌∙◌}
use Rattle.std.proofs.Common.{ap, subst, arith, append_assoc, append-nil, length-append, Some}
use Rattle.csn_desc.specs.declared.reading.Reading.{Reading}
use Rattle.csn_desc.specs.declared.node.Node.{Node}
use Rattle.csn_desc.specs.declared.node.Node.TheVariants.{Lits, Seq, Many}
use Rattle.csn_grammar.specs.declared.rules.Rule.{Rule}
use Rattle.csn_grammar.specs.ExprV.{ExprV, ExprsV, item, BranchV, exprs_of, branches_of}
use Rattle.csn_grammar.specs.ExprCode.{expr_size, branch_list_size}
use Rattle.csn_grammar.specs.RulesV.{RulesV}
use Rattle.csn_grammar.specs.Environment.{label_of}
use Rattle.csn_grammar.specs.TailForm.{TailV, tail_of}
use Rattle.csn_grammar.specs.Void.{Void, Kept, kept_end, kept_next, kept_void, kept_error}
use Rattle.csn_resolve.specs.Seen.{Frame, Seen, with_labelled}
use Rattle.csn_resolve.specs.Gives.{Placed, placed, start_of, ItemsGive, EachGives, RuleGives, items_end, items_next}
use Rattle.csn_resolve.specs.Gives.{each_end, each_next, rule_plain, rule_tail}
use Rattle.csn_resolve.specs.Made.{IsKept, QuietAt, BranchesQuiet, TurnGives, GivesFew, ItemsGiveFew, KeptGiveFew}
use Rattle.csn_resolve.specs.Made.{TailGivesFew, TurnGivesFew, Adds, AddsItems, AddsKept, AddsTail, AddsTurn}
use Rattle.csn_resolve.proofs.Giving.Once.{same_tail}
use Rattle.csn_resolve.proofs.Giving.AddFacts.{some-given, one-more, items-at}
use Rattle.csn_resolve.proofs.Basics.Bools.{no_both}
use Rattle.csn_resolve.proofs.Basics.Options.{no_none}

longer : (xs ys zs : List Placed) → xs ≡ ys ++ zs → length xs ≡ length ys + length zs
longer xs ys zs p = ap length p ∙ length-append ys zs

-- one more behind what is added, and the rest
next-part : {A : Type 0} (all old new rest : List A) (x : A) → all ≡ old ++ x ∷ rest → new ≡ old ++ x ∷ [] → all ≡ new ++ rest
next-part all old new rest x p q = p ∙ (sym (append_assoc old (x ∷ []) rest) ∙ ap (λ l. l ++ rest) (sym q))

next-nodes :
    (all old new first rest nodes : List Placed) → all ≡ old ++ nodes → nodes ≡ first ++ rest → new ≡ old ++ first → all ≡ new ++ rest
next-nodes all old new first rest nodes p q n =
    p ∙ (ap (λ l. old ++ l) q ∙ (sym (append_assoc old first rest) ∙ ap (λ l. l ++ rest) (sym n)))

module _ (rules : RulesV) (r : Reading) where
  -- ---- items

  -- of these items these are left, behind a frame, where these parts and nodes were added
  pub record ItemsLeft (xs : List ExprV) (seen : Seen ℕ) (parts_before : List ℕ) (before : List Placed)
      (rest : List ExprV) (frame : Frame ℕ) (parts_now : List ℕ) (now : List Placed) : Type 0 where
    pub all : (parts : List ℕ) (nodes : List Placed) → ItemsGive rules r (exprs_of xs) (length before) [] seen parts nodes
        → (more : List ℕ) × (behind : List Placed) × ItemsGive rules r (exprs_of rest) (length now) frame seen more behind
        × (parts_before ++ parts ≡ parts_now ++ more) × (before ++ nodes ≡ now ++ behind)

  pub items-begin : (xs : List ExprV) {seen : Seen ℕ} {parts : List ℕ} {before : List Placed} → ItemsLeft xs seen parts before xs [] parts before
  items-begin xs = record { all = λ more nodes g. (more, nodes, g, refl, refl) }

  one-item :
      {x : ExprV} {xs : ExprsV} {frame : Frame ℕ} {seen : Seen ℕ} (old now : List Placed) {later : List ℕ} {behind : List Placed}
      (parts parts_now parts_next : List ℕ) (before : List Placed) → Adds rules r x (frame ∷ seen) old now
      → parts_next ≡ parts_now ++ length old ∷ [] → ItemsGive rules r (item x xs) (length old) frame seen later behind
      → (parts ≡ parts_now ++ later) → (before ≡ old ++ behind)
      → (more : List ℕ) × (rest : List Placed) × ItemsGive rules r xs (length now) (with_labelled (label_of r x) (length old) frame) seen more rest
      × (parts ≡ parts_next ++ more) × (before ≡ now ++ rest)
  one-item old now {behind = behind} parts parts_now parts_next before adds next (items_next {later = more} first rest g gs p q) are holds =
      let added = adds first g in (
        more,
        rest,
        items-at rules r (sym (longer now old first added)) gs,
        next-part parts parts_now parts_next more (length old) (are ∙ ap (λ l. parts_now ++ l) p) next,
        next-nodes before old now first rest behind holds q added,
      )

  items-as :
      {xs : List ExprV} {x : ExprV} {rest : List ExprV} {at : ℕ} {frame : Frame ℕ} {seen : Seen ℕ} {parts : List ℕ} {nodes : List Placed}
      → xs ≡ x ∷ rest → ItemsGive rules r (exprs_of xs) at frame seen parts nodes → ItemsGive rules r (item x (exprs_of rest)) at frame seen parts nodes
  items-as {at = at} {frame = frame} {seen = seen} {parts = parts} {nodes = nodes} p h =
      let P : List ExprV → Type 0 = λ z. ItemsGive rules r (exprs_of z) at frame seen parts nodes in subst P p h

  pub items-next :
      (xs : List ExprV) {seen : Seen ℕ} {parts_before : List ℕ} {before : List Placed} {left rest : List ExprV} {x : ExprV} {frame : Frame ℕ}
      {parts_old parts_now : List ℕ} {old now : List Placed} → left ≡ x ∷ rest
      → ItemsLeft xs seen parts_before before left frame parts_old old → Adds rules r x (frame ∷ seen) old now
      → parts_now ≡ parts_old ++ length old ∷ []
      → ItemsLeft xs seen parts_before before rest (with_labelled (label_of r x) (length old) frame) parts_now now
  items-next xs {parts_before = parts_before} {before = before} {parts_old = parts_old} {parts_now = parts_now} {old = old} {now = now} are h adds next =
      record {
        all = λ parts nodes g.
            let there = h.all parts nodes g in
            one-item old now (parts_before ++ parts) parts_old parts_now (before ++ nodes) adds next (items-as are there.2) there.3 there.4;
      }

  first-few :
      {x : ExprV} {xs : ExprsV} {at : ℕ} {frame : Frame ℕ} {seen : Seen ℕ} {parts : List ℕ} {nodes : List Placed}
      → ItemsGive rules r (item x xs) at frame seen parts nodes → at + length nodes ≤ 16384 → GivesFew rules r x at (frame ∷ seen)
  first-few {nodes = nodes} (items_next first rest g gs p q) few =
      let long = longer nodes first rest q in (first, g, omega (arith, long, few))

  pub items-few :
      (xs : List ExprV) {seen : Seen ℕ} {parts_before : List ℕ} {before : List Placed} {left rest : List ExprV} {x : ExprV} {frame : Frame ℕ}
      {parts_now : List ℕ} {now : List Placed} → left ≡ x ∷ rest → ItemsGiveFew rules r xs (length before) seen
      → ItemsLeft xs seen parts_before before left frame parts_now now → GivesFew rules r x (length now) (frame ∷ seen)
  items-few xs {before = before} {now = now} are few h =
      let given = few.1 in
      let there = h.all few.0 given.0 given.1 in
      let same : length (before ++ given.0) ≡ length (now ++ there.1) = ap length there.4 in
      let one = length-append before given.0 in
      let two = length-append now there.1 in
      let most = given.2 in
      first-few (items-as are there.2) (omega (arith, same, one, two, most))

  items-none :
      {xs : List ExprV} {at : ℕ} {frame : Frame ℕ} {seen : Seen ℕ} {parts : List ℕ} {nodes : List Placed} → xs ≡ []
      → ItemsGive rules r (exprs_of xs) at frame seen parts nodes → (parts ≡ []) × (nodes ≡ [])
  items-none {xs = []} none (items_end p q) = (p, q)
  items-none {xs = x ∷ xs} none h = absurd (cc)

  pub items-done :
      (xs : List ExprV) {seen : Seen ℕ} {parts_before : List ℕ} {before : List Placed} {left : List ExprV} {frame : Frame ℕ}
      {parts_now : List ℕ} {now : List Placed} → left ≡ []
      → ItemsLeft xs seen parts_before before left frame parts_now now → AddsItems rules r xs seen parts_before parts_now before now
  items-done xs {parts_now = parts_now} {now = now} none h parts nodes g =
      let there = h.all parts nodes g in
      let ends = items-none none there.2 in (
        sym (there.3 ∙ (ap (λ l. parts_now ++ l) ends.0 ∙ append-nil parts_now)),
        sym (there.4 ∙ (ap (λ l. now ++ l) ends.1 ∙ append-nil now)),
      )

  -- a part has one node at least
  pub parts-room :
      {x : ExprV} {seen : Seen ℕ} {parts_now : List ℕ} (parts_old : List ℕ) (old now : List Placed) → GivesFew rules r x (length old) seen
      → Adds rules r x seen old now → parts_now ≡ parts_old ++ length old ∷ [] → length parts_old ≤ length old → length parts_now ≤ length now
  parts-room {parts_now = parts_now} parts_old old now few adds next less =
      let some = some-given rules r few.1 in
      let long = longer now old few.0 (adds few.0 few.1) in
      let more : length parts_now ≡ length parts_old + 1 = ap length next ∙ length-append parts_old (length old ∷ []) in
      omega (arith, some, long, more, less)

  -- ---- alternatives

  pub record KeptLeft (bs : List BranchV) (seen : Seen ℕ) (parts_before : List ℕ) (before : List Placed)
      (rest : List BranchV) (parts_now : List ℕ) (now : List Placed) : Type 0 where
    pub all : (xs : List ExprV) (parts : List ℕ) (nodes : List Placed)
        → Kept rules r (branches_of bs) xs → EachGives rules r xs (length before) seen parts nodes
        → (ys : List ExprV) × (more : List ℕ) × (behind : List Placed)
        × Kept rules r (branches_of rest) ys × EachGives rules r ys (length now) seen more behind
        × (parts_before ++ parts ≡ parts_now ++ more) × (before ++ nodes ≡ now ++ behind)

  pub kept-begin : (bs : List BranchV) {seen : Seen ℕ} {parts : List ℕ} {before : List Placed} → KeptLeft bs seen parts before bs parts before
  kept-begin bs = record { all = λ xs parts nodes kept g. (xs, parts, nodes, kept, g, refl, refl) }

  pub kept-as : {bs rest : List BranchV} {b : BranchV} {xs : List ExprV}
      → bs ≡ b ∷ rest → Kept rules r (branches_of bs) xs → Kept rules r (branches_of (b ∷ rest)) xs
  kept-as {xs = xs} p h = let P : List BranchV → Type 0 = λ z. Kept rules r (branches_of z) xs in subst P p h

  pub kept-first :
      {error : Bool} {body : ExprV} (rest : List BranchV) {xs : List ExprV} → error ≡ false → ¬ Void rules r body
      → Kept rules r (branches_of (record { error = error; body = body } ∷ rest)) xs
      → (ys : List ExprV) × (xs ≡ body ∷ ys) × Kept rules r (branches_of rest) ys
  kept-first rest plain full (kept_next {xs = ys} full' kept) = (ys, refl, kept)
  kept-first rest plain full (kept_void v kept) = absurd (full v)
  kept-first rest plain full (kept_error kept) = absurd (no_both refl plain)

  pub not-kept :
      {error : Bool} {body : ExprV} (rest : List BranchV) {xs : List ExprV} → ¬ IsKept rules r (record { error = error; body = body })
      → Kept rules r (branches_of (record { error = error; body = body } ∷ rest)) xs → Kept rules r (branches_of rest) xs
  not-kept rest not (kept_next full kept) = absurd (not (record { plain = refl; full = full }))
  not-kept rest not (kept_void v kept) = kept
  not-kept rest not (kept_error kept) = kept

  each-as :
      {xs ys : List ExprV} {at bt : ℕ} {seen : Seen ℕ} {parts : List ℕ} {nodes : List Placed} → xs ≡ ys → at ≡ bt
      → EachGives rules r xs at seen parts nodes → EachGives rules r ys bt seen parts nodes
  each-as {xs} {bt = bt} {seen = seen} {parts = parts} {nodes = nodes} p q h =
      let P : ℕ → Type 0 = λ z. EachGives rules r xs z seen parts nodes in
      let Q : List ExprV → Type 0 = λ z. EachGives rules r z bt seen parts nodes in subst Q p (subst P q h)

  one-kept :
      {x : ExprV} {xs : List ExprV} {seen : Seen ℕ} (old now : List Placed) {later : List ℕ} {behind : List Placed}
      (parts parts_now parts_next : List ℕ) (before : List Placed) → Adds rules r x seen old now
      → parts_next ≡ parts_now ++ length old ∷ [] → EachGives rules r (x ∷ xs) (length old) seen later behind
      → (parts ≡ parts_now ++ later) → (before ≡ old ++ behind)
      → (more : List ℕ) × (rest : List Placed) × EachGives rules r xs (length now) seen more rest
      × (parts ≡ parts_next ++ more) × (before ≡ now ++ rest)
  one-kept old now {behind = behind} parts parts_now parts_next before adds next (each_next {later = more} first rest g gs p q) are holds =
      let added = adds first g in (
        more,
        rest,
        each-as refl (sym (longer now old first added)) gs,
        next-part parts parts_now parts_next more (length old) (are ∙ ap (λ l. parts_now ++ l) p) next,
        next-nodes before old now first rest behind holds q added,
      )

  pub kept-more :
      (bs : List BranchV) {seen : Seen ℕ} {parts_before : List ℕ} {before : List Placed} {left rest : List BranchV} {b : BranchV}
      {parts_old parts_now : List ℕ} {old now : List Placed} → left ≡ b ∷ rest → IsKept rules r b
      → KeptLeft bs seen parts_before before left parts_old old → Adds rules r b.body seen old now
      → parts_now ≡ parts_old ++ length old ∷ [] → KeptLeft bs seen parts_before before rest parts_now now
  kept-more bs {parts_before = parts_before} {before = before} {rest = rest} {parts_old = parts_old} {parts_now =
      parts_now} {old = old} {now = now} are is h adds next =
      record {
        all = λ xs parts nodes kept g.
            let there = h.all xs parts nodes kept g in
            let first = kept-first rest is.plain is.full (kept-as are there.3) in
            let step = one-kept old now (parts_before ++ parts) parts_old parts_now (before ++ nodes) adds next
            (each-as first.1 refl there.4) there.5 there.6 in
            (first.0, step.0, step.1, first.2, step.2, step.3, step.4);
      }

  pub kept-past :
      (bs : List BranchV) {seen : Seen ℕ} {parts_before : List ℕ} {before : List Placed} {left rest : List BranchV} {b : BranchV}
      {parts_now : List ℕ} {now : List Placed} → left ≡ b ∷ rest → ¬ IsKept rules r b
      → KeptLeft bs seen parts_before before left parts_now now → KeptLeft bs seen parts_before before rest parts_now now
  kept-past bs {rest = rest} are not h =
      record {
        all = λ xs parts nodes kept g.
            let there = h.all xs parts nodes kept g in
            (there.0, there.1, there.2, not-kept rest not (kept-as are there.3), there.4, there.5, there.6);
      }

  first-kept-few :
      {x : ExprV} {xs : List ExprV} {at : ℕ} {seen : Seen ℕ} {parts : List ℕ} {nodes : List Placed}
      → EachGives rules r (x ∷ xs) at seen parts nodes → at + length nodes ≤ 16384 → GivesFew rules r x at seen
  first-kept-few {nodes = nodes} (each_next first rest g gs p q) few =
      let long = longer nodes first rest q in (first, g, omega (arith, long, few))

  pub kept-few :
      (bs : List BranchV) {seen : Seen ℕ} {parts_before : List ℕ} {before : List Placed} {left rest : List BranchV} {b : BranchV}
      {parts_now : List ℕ} {now : List Placed} → left ≡ b ∷ rest → IsKept rules r b → KeptGiveFew rules r bs (length before) seen
      → KeptLeft bs seen parts_before before left parts_now now → GivesFew rules r b.body (length now) seen
  kept-few bs {before = before} {rest = rest} {now = now} are is few h =
      let given = few.3 in
      let there = h.all few.0 few.2 given.0 few.1 given.1 in
      let first = kept-first rest is.plain is.full (kept-as are there.3) in
      let same : length (before ++ given.0) ≡ length (now ++ there.2) = ap length there.6 in
      let one = length-append before given.0 in
      let two = length-append now there.2 in
      let most = given.2 in
      first-kept-few (each-as first.1 refl there.4) (omega (arith, same, one, two, most))

  pub none-left : {bs : List BranchV} {xs : List ExprV} → bs ≡ [] → Kept rules r (branches_of bs) xs → xs ≡ []
  none-left {bs = []} none kept_end = refl
  none-left {bs = b ∷ bs} none kept = absurd (cc)

  each-none :
      {xs : List ExprV} {at : ℕ} {seen : Seen ℕ} {parts : List ℕ} {nodes : List Placed} → xs ≡ []
      → EachGives rules r xs at seen parts nodes → (parts ≡ []) × (nodes ≡ [])
  each-none none (each_end p q) = (p, q)
  each-none none (each_next first rest g gs p q) = absurd (cc)

  pub kept-done :
      (bs : List BranchV) {seen : Seen ℕ} {parts_before : List ℕ} {before : List Placed} {left : List BranchV}
      {parts_now : List ℕ} {now : List Placed} → left ≡ []
      → KeptLeft bs seen parts_before before left parts_now now → AddsKept rules r bs seen parts_before parts_now before now
  kept-done bs {parts_now = parts_now} {now = now} none h xs kept parts nodes g =
      let there = h.all xs parts nodes kept g in
      let ends = each-none (none-left none there.3) there.4 in (
        sym (there.5 ∙ (ap (λ l. parts_now ++ l) ends.0 ∙ append-nil parts_now)),
        sym (there.6 ∙ (ap (λ l. now ++ l) ends.1 ∙ append-nil now)),
      )

  -- ---- the one alternative that is kept

  pub kept-quiet :
      {names : ℕ} {x : ExprV} (bs : List BranchV) {xs : List ExprV} → xs ≡ x ∷ [] → Kept rules r (branches_of bs) xs
      → BranchesQuiet rules r names bs → QuietAt rules r names x × (expr_size x + 1 ≤ branch_list_size bs)
  kept-quiet [] is kept_end all = absurd (cc)
  kept-quiet {names} {x} (b ∷ bs) is (kept_next {x = y} {xs = ys} full kept) all =
      let same : y ≡ x = cc in
      let Q : ExprV → Type 0 = λ z. QuietAt rules r names z in
      let sizes : expr_size y ≡ expr_size x = ap expr_size same in
      (subst Q same all.0, omega (arith, sizes))
  kept-quiet (b ∷ bs) is (kept_void v kept) all = let there = kept-quiet bs is kept all.1 in (there.0, (let size = there.1 in omega (arith, size)))
  kept-quiet (b ∷ bs) is (kept_error kept) all = let there = kept-quiet bs is kept all.1 in (there.0, (let size = there.1 in omega (arith, size)))

  -- ---- rules in tail form

  turn-at :
      {tail : TailV} {at bt : ℕ} {seen : Seen ℕ} {nodes : List Placed}
      → at ≡ bt → TurnGives rules r tail at seen nodes → TurnGives rules r tail bt seen nodes
  turn-at {tail} {seen = seen} {nodes = nodes} p h = let P : ℕ → Type 0 = λ z. TurnGives rules r tail z seen nodes in subst P p h

  -- the nodes of a rule in tail form: of its items, of a turn, and of the word that stops it
  pub record TailParts (tail : TailV) (at : ℕ) (seen : Seen ℕ) (place : ℕ) (nodes : List Placed) : Type 0 where
    pub parts : List ℕ
    pub items : List Placed
    pub turn : List Placed
    pub items_given : ItemsGive rules r tail.items (suc at) [] seen parts items
    pub turn_given : TurnGives rules r tail (suc at + length items) seen turn
    pub are : nodes ≡ placed (Seq (parts ++ (suc at + length items) ∷ (suc at + length items + length turn) ∷ [])) place
        ∷ (items ++ (turn ++ placed (Lits tail.end.stop.run) tail.end.stop.at ∷ []))

  tail-parts :
      {rule : Rule} {tail : TailV} {at place : ℕ} {seen : Seen ℕ} {nodes : List Placed} → tail_of rule ≡ Some tail → start_of rule.body ≡ place
      → RuleGives rules r rule at seen nodes → TailParts tail at seen place nodes
  tail-parts found begins (rule_plain none g) = absurd (no_none found none)
  tail-parts {rule} {tail} {at} {place} {seen} {nodes} found begins (rule_tail other many stop parts turn_parts items turn is i m t s p) =
      let same : other ≡ tail = same_tail rule is found in
      let Items : TailV → Type 0 = λ z. ItemsGive rules r z.items (suc at) [] seen parts items in
      let Turn : TailV → Type 0 = λ z. ItemsGive rules r z.items (many + 3) [] seen turn_parts turn in
      let Whole : TailV → Type 0 = λ z. nodes ≡ placed (Seq (parts ++ many ∷ stop ∷ [])) (start_of rule.body)
      ∷ (items ++ placed (Many (many + 1)) z.end.braces
      ∷ placed (Seq ((many + 2) ∷ turn_parts)) z.end.again.at
      ∷ placed (Lits z.end.again.run) z.end.again.at
      ∷ (turn ++ placed (Lits z.end.stop.run) z.end.stop.at ∷ [])) in
      let more : stop ≡ suc at + length items + suc (suc (suc (length turn))) = omega (arith, m, s) in
      record {
        parts = parts;
        items = items;
        turn = placed (Many (many + 1)) tail.end.braces ∷ placed (Seq ((many + 2) ∷ turn_parts))
            tail.end.again.at ∷ placed (Lits tail.end.again.run) tail.end.again.at ∷ turn;
        items_given = subst Items same i;
        turn_given = turn-at m (record { parts = turn_parts; turn = turn; given = subst Turn same t; are = refl });
        are = subst Whole same p
            ∙ (ap (λ z. placed (Seq (parts ++ z ∷ stop ∷ [])) (start_of rule.body)
            ∷ (items ++ (placed (Many (many + 1)) tail.end.braces ∷ placed (Seq ((many + 2) ∷ turn_parts))
            tail.end.again.at ∷ placed (Lits tail.end.again.run)
            tail.end.again.at ∷ (turn ++ placed (Lits tail.end.stop.run) tail.end.stop.at ∷ [])))) m
            ∙ (ap (λ z. placed (Seq (parts ++ (suc at + length items) ∷ z ∷ [])) (start_of rule.body)
            ∷ (items ++ (placed (Many (many + 1)) tail.end.braces ∷ placed (Seq ((many + 2) ∷ turn_parts))
            tail.end.again.at ∷ placed (Lits tail.end.again.run)
            tail.end.again.at ∷ (turn ++ placed (Lits tail.end.stop.run) tail.end.stop.at ∷ [])))) more
            ∙ ap (λ z. placed
            (Seq (parts ++ (suc at + length items) ∷ (suc at + length items + suc (suc (suc (length turn))))
            ∷ [])) z ∷ (items ++ (placed (Many (many + 1)) tail.end.braces ∷ placed
            (Seq ((many + 2) ∷ turn_parts)) tail.end.again.at ∷ placed (Lits tail.end.again.run)
            tail.end.again.at ∷ (turn ++ placed (Lits tail.end.stop.run) tail.end.stop.at ∷ [])))) begins));
      }

  -- the few nodes, part by part
  pub record TailFew (tail : TailV) (at : ℕ) (seen : Seen ℕ) (place : ℕ) : Type 0 where
    pub nodes : List Placed
    pub parts : TailParts tail at seen place nodes
    pub few : at + length nodes ≤ 16384

  pub tail-few : {tail : TailV} {place at : ℕ} {seen : Seen ℕ} → TailGivesFew rules r place tail at seen → TailFew tail at seen place
  tail-few h = record { nodes = h.3.0; parts = tail-parts h.1 h.2 h.3.1; few = h.3.2 }

  tail-long :
      {tail : TailV} {at place : ℕ} {seen : Seen ℕ} {nodes : List Placed} (t : TailParts tail at seen place nodes)
      → length nodes ≡ 2 + length t.items + length t.turn
  tail-long {tail} t =
      let stop : List Placed = placed (Lits tail.end.stop.run) tail.end.stop.at ∷ [] in
      let all = ap length t.are in
      let one = length-append t.items (t.turn ++ stop) in
      let two = length-append t.turn stop in
      omega (arith, all, one, two)

  pub tail-room : {tail : TailV} {place at : ℕ} {seen : Seen ℕ} → TailFew tail at seen place → at < 16384
  tail-room h = let long = tail-long h.parts in let few = h.few in omega (arith, long, few)

  pub tail-items :
      {tail : TailV} {place : ℕ} {seen : Seen ℕ} {middle : List Placed} (before : List Placed) (xs : List ExprV) (p : Placed) → tail.items ≡ exprs_of xs
      → middle ≡ before ++ p ∷ [] → TailFew tail (length before) seen place → ItemsGiveFew rules r xs (length middle) seen
  tail-items {tail} {seen = seen} {middle = middle} before xs p are is h =
      let long = one-more before middle p is in
      let P : ExprsV → Type 0 = λ z. ItemsGive rules r z (suc (length before)) [] seen h.parts.parts h.parts.items in
      let all = tail-long h.parts in
      let few = h.few in
      (h.parts.parts, (h.parts.items, items-at rules r (sym long) (subst P are h.parts.items_given), omega (arith, long, all, few)))

  -- behind the items
  pub record ItemsIn (tail : TailV) (seen : Seen ℕ) (place : ℕ) (before behind : List Placed) (parts_behind : List ℕ) : Type 0 where
    pub few : TailFew tail (length before) seen place
    pub parts_are : parts_behind ≡ few.parts.parts
    pub long : length behind ≡ suc (length before) + length few.parts.items

  pub items-in :
      {tail : TailV} {place : ℕ} {seen : Seen ℕ} {middle behind : List Placed} (before : List Placed) {parts : List ℕ} (xs : List ExprV) (p : Placed)
      → tail.items ≡ exprs_of xs → middle ≡ before ++ p ∷ [] → AddsItems rules r xs seen [] parts middle behind
      → TailFew tail (length before) seen place → ItemsIn tail seen place before behind parts
  items-in {seen = seen} {middle = middle} {behind = behind} before xs p are is adds h =
      let long = one-more before middle p is in
      let P : ExprsV → Type 0 = λ z. ItemsGive rules r z (suc (length before)) [] seen h.parts.parts h.parts.items in
      let added = adds h.parts.parts h.parts.items (items-at rules r (sym long) (subst P are h.parts.items_given)) in
      let more = longer behind middle h.parts.items added.1 in
      record { few = h; parts_are = added.0; long = omega (arith, long, more) }

  parts-few :
      {xs : ExprsV} {at : ℕ} {frame : Frame ℕ} {seen : Seen ℕ} {parts : List ℕ} {nodes : List Placed}
      → ItemsGive rules r xs at frame seen parts nodes → length parts ≤ length nodes
  parts-few (items_end p q) = omega (arith, ap length p)
  parts-few {nodes = nodes} (items_next {later = later} first rest g gs p q) =
      let inner = parts-few gs in
      let some = some-given rules r g in
      let long = longer nodes first rest q in
      let one : length _ ≡ suc (length later) = ap length p in omega (arith, inner, some, long, one)

  pub turn-few :
      {tail : TailV} {place : ℕ} {seen : Seen ℕ} {before behind : List Placed} {parts : List ℕ}
      → ItemsIn tail seen place before behind parts → TurnGivesFew rules r tail (length behind) seen
  turn-few h =
      let long = h.long in
      let all = tail-long h.few.parts in
      let few = h.few.few in
      (h.few.parts.turn, turn-at (sym long) h.few.parts.turn_given, omega (arith, long, all, few))

  -- there is room for the numbers of the parts
  pub parts-fit :
      {tail : TailV} {place : ℕ} {seen : Seen ℕ} {before behind : List Placed} {parts : List ℕ}
      → ItemsIn tail seen place before behind parts → length parts + 1 < 16384
  parts-fit h =
      let less = parts-few h.few.parts.items_given in
      let same = ap length h.parts_are in
      let all = tail-long h.few.parts in
      let few = h.few.few in omega (arith, less, same, all, few)

  turn-added :
      {tail : TailV} {place : ℕ} {seen : Seen ℕ} {before behind after : List Placed} {parts : List ℕ}
      (h : ItemsIn tail seen place before behind parts) → AddsTurn rules r tail seen behind after
      → after ≡ behind ++ h.few.parts.turn
  turn-added h adds = adds h.few.parts.turn (turn-at (sym h.long) h.few.parts.turn_given)

  pub stop-room :
      {tail : TailV} {place : ℕ} {seen : Seen ℕ} {before behind : List Placed} (after : List Placed) {parts : List ℕ}
      → ItemsIn tail seen place before behind parts → AddsTurn rules r tail seen behind after → length after < 16384
  stop-room {behind = behind} after h adds =
      let more = longer after behind h.few.parts.turn (turn-added h adds) in
      let long = h.long in
      let all = tail-long h.few.parts in
      let few = h.few.few in omega (arith, more, long, all, few)

  pub adds-tail :
      {tail : TailV} {place : ℕ} {seen : Seen ℕ} {middle behind after stopped whole : List Placed} (before : List Placed) {parts all_parts : List ℕ}
      (xs : List ExprV) (head : Node) (number many stop : ℕ)
      → tail.items ≡ exprs_of xs → middle ≡ before ++ placed head place ∷ [] → AddsItems rules r xs seen [] parts middle behind
      → AddsTurn rules r tail seen behind after → stopped ≡ after ++ placed (Lits tail.end.stop.run) tail.end.stop.at ∷ []
      → many ≡ length behind → stop ≡ length after → all_parts ≡ parts ++ many ∷ stop ∷ []
      → ((front back : List Placed) (other : Placed) → stopped ≡ front ++ other ∷ back → number ≡ length front
      → whole ≡ front ++ placed (Seq all_parts) other.place ∷ back)
      → number ≡ length before → AddsTail rules r place tail seen before whole
  adds-tail {tail} {place} {seen} {middle} {behind} {after} {stopped} {whole} before {parts} {all_parts}
      xs head number many stop are is items turns last many_at stop_at all put at rule found begins nodes g =
      let t = tail-parts found begins g in
      let long = one-more before middle (placed head place) is in
      let P : ExprsV → Type 0 = λ z. ItemsGive rules r z (suc (length before)) [] seen t.parts t.items in
      let added = items t.parts t.items (items-at rules r (sym long) (subst P are t.items_given)) in
      let behind_long = longer behind middle t.items added.1 in
      let behind_at : suc (length before) + length t.items ≡ length behind = omega (arith, long, behind_long) in
      let turned = turns t.turn (turn-at behind_at t.turn_given) in
      let after_long = longer after behind t.turn turned in
      let end : List Placed = placed (Lits tail.end.stop.run) tail.end.stop.at ∷ [] in
      let inner : List Placed = t.items ++ (t.turn ++ end) in
      let so_far : stopped ≡ before ++ placed head place ∷ inner =
      last ∙ (ap (λ l. l ++ end) turned ∙ (append_assoc behind t.turn end
      ∙ (ap (λ l. l ++ (t.turn ++ end)) added.1 ∙ (append_assoc middle t.items (t.turn ++ end)
      ∙ (ap (λ l. l ++ inner) is ∙ append_assoc before (placed head place ∷ []) inner))))) in
      let many_is : suc (length before) + length t.items ≡ many = omega (arith, behind_at, many_at) in
      let stop_is : suc (length before) + length t.items + length t.turn ≡ stop = omega (arith, behind_at, after_long, stop_at) in
      let numbers : t.parts ++ (suc (length before) + length t.items) ∷ (suc (length before) + length t.items + length t.turn) ∷ [] ≡ all_parts =
      ap (λ z. t.parts ++ z ∷ (suc (length before) + length t.items + length t.turn) ∷ []) many_is
      ∙ (ap (λ z. t.parts ++ many ∷ z ∷ []) stop_is ∙ (ap (λ l. l ++ many ∷ stop ∷ []) (sym added.0) ∙ sym all)) in
      put before inner (placed head place) so_far at
      ∙ ap (λ l. before ++ l) (sym (t.are ∙ ap (λ z. placed (Seq z) place ∷ inner) numbers))

  -- ---- what is repeated

  three-more :
      (before one two three : List Placed) (p q s : Placed) → one ≡ before ++ p ∷ [] → two ≡ one ++ q ∷ [] → three ≡ two ++ s ∷ []
      → three ≡ before ++ p ∷ q ∷ s ∷ []
  three-more before one two three p q s a b c =
      c ∙ (ap (λ l. l ++ s ∷ []) b ∙ (append_assoc one (q ∷ []) (s ∷ []) ∙ (ap (λ l. l ++ q ∷ s ∷ []) a ∙ append_assoc before (p ∷ []) (q ∷ s ∷ []))))

  turn-long :
      {tail : TailV} {many : ℕ} {seen : Seen ℕ} {nodes : List Placed} (t : TurnGives rules r tail many seen nodes)
      → length nodes ≡ 3 + length t.turn
  turn-long t = let all = ap length t.are in omega (arith, all)

  pub turn-room : {tail : TailV} {many : ℕ} {seen : Seen ℕ} → TurnGivesFew rules r tail many seen → many + 2 < 16384
  turn-room h = let long = turn-long h.1 in let few = h.2 in omega (arith, long, few)

  turn-item :
      {tail : TailV} {seen : Seen ℕ} {nodes : List Placed} (before three : List Placed) (xs : List ExprV) → tail.items ≡ exprs_of xs
      → length three ≡ length before + 3 → (t : TurnGives rules r tail (length before) seen nodes)
      → ItemsGive rules r (exprs_of xs) (length three) [] seen t.parts t.turn
  turn-item {seen = seen} before three xs are long t =
      let P : ExprsV → Type 0 = λ z. ItemsGive rules r z (length before + 3) [] seen t.parts t.turn in
      items-at rules r (sym long) (subst P are t.given)

  three-long :
      (before three : List Placed) (p q s : Placed) → three ≡ before ++ p ∷ q ∷ s ∷ [] → length three ≡ length before + 3
  three-long before three p q s is = let long = ap length is ∙ length-append before (p ∷ q ∷ s ∷ []) in omega (arith, long)

  pub turn-items :
      {tail : TailV} {seen : Seen ℕ} {one two three : List Placed} (before : List Placed) (xs : List ExprV) (p q s : Placed) → tail.items ≡ exprs_of xs
      → one ≡ before ++ p ∷ [] → two ≡ one ++ q ∷ [] → three ≡ two ++ s ∷ []
      → TurnGivesFew rules r tail (length before) seen → ItemsGiveFew rules r xs (length three) seen
  turn-items {one = one} {two = two} {three = three} before xs p q s are a b c h =
      let long = three-long before three p q s (three-more before one two three p q s a b c) in
      let all = turn-long h.1 in
      let few = h.2 in
      (h.1.parts, (h.1.turn, turn-item before three xs are long h.1, omega (arith, long, all, few)))

  pub adds-turn :
      {tail : TailV} {seen : Seen ℕ} {one two three inside whole : List Placed} (before : List Placed) {parts : List ℕ}
      (xs : List ExprV) (head : Node) (sequence word : ℕ)
      → tail.items ≡ exprs_of xs → one ≡ before ++ placed (Many sequence) tail.end.braces ∷ []
      → two ≡ one ++ placed head tail.end.again.at ∷ [] → three ≡ two ++ placed (Lits tail.end.again.run) tail.end.again.at ∷ []
      → AddsItems rules r xs seen (word ∷ []) parts three inside → sequence ≡ length before + 1 → word ≡ sequence + 1
      → ((front back : List Placed) (other : Placed) → inside ≡ front ++ other ∷ back → sequence ≡ length front
      → whole ≡ front ++ placed (Seq parts) other.place ∷ back)
      → AddsTurn rules r tail seen before whole
  adds-turn {tail} {seen} {one} {two} {three} {inside} {whole} before {parts} xs head sequence word are a b c items first second put nodes t =
      let p : Placed = placed (Many sequence) tail.end.braces in
      let q : Placed = placed head tail.end.again.at in
      let s : Placed = placed (Lits tail.end.again.run) tail.end.again.at in
      let long = three-long before three p q s (three-more before one two three p q s a b c) in
      let added = items t.parts t.turn (turn-item before three xs are long t) in
      let one_long = one-more before one p a in
      let so_far : inside ≡ one ++ q ∷ (s ∷ t.turn) =
      added.1 ∙ (ap (λ l. l ++ t.turn) c ∙ (append_assoc two (s ∷ []) t.turn ∙ (ap (λ l. l ++ s ∷ t.turn) b ∙ append_assoc one (q ∷ []) (s ∷ t.turn)))) in
      let at : sequence ≡ length one = omega (arith, one_long, first) in
      let word_is : length before + 2 ≡ word = omega (arith, first, second) in
      let now : whole ≡ before ++ p ∷ placed (Seq parts) tail.end.again.at ∷ s ∷ t.turn =
      put one (s ∷ t.turn) q so_far at
      ∙ (ap (λ l. l ++ placed (Seq parts) tail.end.again.at ∷ s ∷ t.turn) a ∙ append_assoc before (p ∷ [])
      (placed (Seq parts) tail.end.again.at ∷ s ∷ t.turn)) in
      let numbers : (length before + 2) ∷ t.parts ≡ parts = ap (λ z. z ∷ t.parts) word_is ∙ sym added.0 in
      let many_is : length before + 1 ≡ sequence = sym first in
      now ∙ ap (λ l. before ++ l) (sym (t.are
      ∙ (ap (λ z. placed (Many z) tail.end.braces ∷ placed (Seq ((length before + 2) ∷ t.parts)) tail.end.again.at ∷ s ∷ t.turn) many_is
      ∙ ap (λ z. p ∷ placed (Seq z) tail.end.again.at ∷ s ∷ t.turn) numbers)))

  -- ---- nodes are added behind those before

  pub items-longer :
      (xs : List ExprV) (parts : List ℕ) (before after : List Placed) {seen : Seen ℕ} {parts_now : List ℕ} → ItemsGiveFew rules r xs (length before) seen
      → AddsItems rules r xs seen parts parts_now before after → length before ≤ length after
  items-longer xs parts before after few adds =
      let given = few.1 in
      let added = adds few.0 given.0 given.1 in
      let long = longer after before given.0 added.1 in omega (arith, long)

  pub kept-longer :
      (bs : List BranchV) (parts : List ℕ) (before after : List Placed) {seen : Seen ℕ} {parts_now : List ℕ} → KeptGiveFew rules r bs (length before) seen
      → AddsKept rules r bs seen parts parts_now before after → length before ≤ length after
  kept-longer bs parts before after few adds =
      let given = few.3 in
      let added = adds few.0 few.1 few.2 given.0 given.1 in
      let long = longer after before given.0 added.1 in omega (arith, long)

  pub tail-longer :
      {tail : TailV} {place : ℕ} {seen : Seen ℕ} {before behind : List Placed} {parts : List ℕ} (after : List Placed)
      → ItemsIn tail seen place before behind parts → AddsTurn rules r tail seen behind after → length before < length after
  tail-longer {behind = behind} after h adds =
      let more = longer after behind h.few.parts.turn (turn-added h adds) in
      let long = h.long in omega (arith, more, long)
