-- Where an expression is walked without a refusal, so are its parts, and its counts are not too large.
use Rattle.std.proofs.Common.{◌≡◌, ℕ, zero, suc, ◌+◌, ◌≤◌, ◌<◌, Bool, true, false, ◌==◌, List, [], ◌∷◌, ◌++◌, refl}
use Rattle.std.proofs.Common.{ap, subst, arith, lt_of_not-le, Some, None, slice_get}
use Rattle.csn_desc.specs.declared.reading.Reading.{Reading}
use Rattle.csn_desc.specs.declared.node.Count.{Count}
use Rattle.csn_grammar.specs.declared.exponent.Exponent.{Exponent}
use Rattle.csn_grammar.specs.declared.exponent.Exponent.TheVariants.{Any}
use Rattle.csn_grammar.specs.declared.rules.Rule.{Rule}
use Rattle.csn_grammar.specs.ExprV.{ExprV, expr, name, labelled, group, seq, choice, power, cut, both, sends, ExprsV, BranchV, exprs_of, branches_of}
use Rattle.csn_grammar.specs.RulesV.{RulesV}
use Rattle.csn_grammar.specs.Names.{rule_of}
use Rattle.csn_grammar.specs.Forms.{unit_of, is_bit, WidthV, width_of, WindowV}
use Rattle.csn_grammar.specs.TailForm.{TailV, tail_of}
use Rattle.csn_grammar.proofs.VoidFacts.{no_rule, same_rule}
use Rattle.csn_resolve.specs.declared.why.Why.TheVariants.{TooDeep, ZeroCount, CountTooLarge, Recursive}
use Rattle.csn_resolve.specs.Seen.{Frame, Seen}
use Rattle.csn_resolve.specs.Gives.{start_of, count_at}
use Rattle.csn_resolve.specs.Steps.{Step, begins, refused, refused_if, Quiet}
use Rattle.csn_resolve.specs.Counts.{is_zero, is_too_large, size_steps, CountSteps, count_number, count_unknown, count_wide, count_narrow}
use Rattle.csn_resolve.specs.Walk.{Around, inside, putting_in, behind, entering, node_at, turn_begun, Walk, ItemsWalk}
use Rattle.csn_resolve.specs.Walk.{BranchesWalk, RuleWalk, walk_field, walk_rest, walk_built_in, walk_undefined}
use Rattle.csn_resolve.specs.Walk.{walk_recursive, walk_name, walk_times, walk_many}
use Rattle.csn_resolve.specs.Made.{QuietAt, AllQuiet, BranchesQuiet, RuleQuiet}
use Rattle.csn_resolve.proofs.Walking.Quiet.{first_of, rest_of, quiet_along}
use Rattle.csn_resolve.proofs.Walking.Inversion.{labelled-steps, group-steps, seq-steps, choice-steps, cut-steps}
use Rattle.csn_resolve.proofs.Walking.Inversion.{sends-steps, window-steps, window-behind-steps, items-next-steps}
use Rattle.csn_resolve.proofs.Walking.Inversion.{branches-next-steps, plain-steps, tail-steps}
use Rattle.csn_resolve.proofs.Basics.Bools.{no_both}
use Rattle.csn_resolve.proofs.Basics.Options.{no_none}
use Rattle.csn_resolve.proofs.Basics.Windows.{Sides, left_wide, right_wide}

not-refused : (b : Bool) (place : ℕ) → Quiet (refused_if b CountTooLarge place) → b ≡ false
not-refused true place q = absurd q
not-refused false place q = refl

-- what is entered is not inside 64 others
not-full : (d place : ℕ) → Quiet (refused_if (d == 64) TooDeep place) → d ≤ 64 → d < 64
not-full d place q few = by (d == 64) refl q
  where
    by : (b : Bool) → (d == 64) ≡ b → Quiet (refused_if b TooDeep place) → d < 64
    by true e h = absurd h
    by false e h = lt_of_not-le (λ full. let same : d ≡ 64 = omega (arith, full, few) in no_both (ap (λ z. z == 64) same) e)

size-small : (k : Exponent) (place : ℕ) {steps : List Step} → steps ≡ size_steps k place → Quiet steps → is_too_large k ≡ false
size-small k place p q =
    not-refused (is_too_large k) place (rest_of (refused_if (is_zero k) ZeroCount place) (refused_if (is_too_large k) CountTooLarge place) p q)

module _ (rules : RulesV) (r : Reading) where
  count-small :
      {seen : Seen ExprV} {place : ℕ} {k : Exponent} {steps : List Step}
      → CountSteps rules r seen place k steps → Quiet steps → is_too_large k ≡ false
  count-small {place = place} {k = k} (count_number p) q = size-small k place p q
  count-small (count_unknown none p) q = absurd (quiet_along p q)
  count-small (count_wide x is wide p) q = absurd (quiet_along p q)
  count-small {place = place} {k = k} (count_narrow x is narrow p) q = size-small k place p q

  -- ---- inside a node, a name or braces

  node-shallow :
      (a : Around) (place : ℕ) {steps : List Step} (rest : List Step) → a.depth ≤ 64
      → steps ≡ node_at a place ++ rest → Quiet steps → a.depth < 64
  node-shallow a place rest few p q =
      not-full a.depth place (first_of (entering a place) (begins place ∷ []) refl (first_of (node_at a place) rest p q)) few

  -- what stands round what is inside a node, and the steps behind those of the node
  inside-node :
      {names : ℕ} (place : ℕ) (a : Around) {steps : List Step} (rest : List Step) → names ≤ a.depth → a.depth ≤ 64
      → steps ≡ node_at a place ++ rest → Quiet steps → (names ≤ suc a.depth) × (suc a.depth ≤ 64) × Quiet rest
  inside-node place a rest below few p q =
      let shallow = node-shallow a place rest few p q in
      (omega (arith, below), omega (arith, shallow), rest_of (node_at a place) rest p q)

  within-node :
      {names : ℕ} (place : ℕ) (a : Around) {x : ExprV} {steps : List Step} (inner rest : List Step) → names ≤ a.depth → a.depth ≤ 64
      → steps ≡ node_at a place ++ rest → Quiet steps → Walk rules r (inside a) x inner → Quiet inner → QuietAt rules r names x
  within-node place a inner rest below few p q h quiet =
      let shallow = node-shallow a place rest few p q in
      record { around = inside a; steps = inner; walk = h; quiet = quiet; below = omega (arith, below); shallow = omega (arith, shallow) }

  pub quiet-as : {names : ℕ} {x y : ExprV} → x ≡ y → QuietAt rules r names x → QuietAt rules r names y
  quiet-as {names} p h = let Q : ExprV → Type 0 = λ z. QuietAt rules r names z in subst Q p h

  pub quiet-labelled :
      {names s e : ℕ} {label : List ℕ} {x : ExprV} → QuietAt rules r names (expr s e (labelled label x)) → QuietAt rules r names x
  quiet-labelled {s = s} h =
      let parts = labelled-steps rules r h.walk in
      within-node s h.around parts.0 parts.0 h.below h.shallow parts.2 h.quiet parts.1 (rest_of (node_at h.around s) parts.0 parts.2 h.quiet)

  pub quiet-group : {names s e : ℕ} {x : ExprV} → QuietAt rules r names (expr s e (group x)) → QuietAt rules r names x
  quiet-group {s = s} h =
      let parts = group-steps rules r h.walk in
      let shallow = not-full h.around.depth s (first_of (entering h.around s) parts.0 parts.2 h.quiet) h.shallow in
      let below = h.below in
      record {
        around = inside h.around;
        steps = parts.0;
        walk = parts.1;
        quiet = rest_of (entering h.around s) parts.0 parts.2 h.quiet;
        below = omega (arith, below);
        shallow = omega (arith, shallow);
      }

  pub quiet-left : {names s e : ℕ} {x y : ExprV} → QuietAt rules r names (expr s e (sends x y)) → QuietAt rules r names x
  quiet-left h =
      let parts = sends-steps rules r h.walk in
      record { around = h.around; steps = parts.0; walk = parts.2; quiet = first_of parts.0 parts.1 parts.4 h.quiet; below = h.below; shallow = h.shallow }

  pub quiet-right : {names s e : ℕ} {x y : ExprV} → QuietAt rules r names (expr s e (sends x y)) → QuietAt rules r names y
  quiet-right h =
      let parts = sends-steps rules r h.walk in
      record { around = h.around; steps = parts.1; walk = parts.3; quiet = rest_of parts.0 parts.1 parts.4 h.quiet; below = h.below; shallow = h.shallow }

  -- ---- items and alternatives

  items-quiet :
      (xs : List ExprV) {names : ℕ} {full : Bool} {a : Around} {frame : Frame ExprV} {steps : List Step} → names ≤ a.depth → a.depth ≤ 64
      → ItemsWalk rules r full a frame (exprs_of xs) steps → Quiet steps → AllQuiet rules r names xs
  items-quiet [] below few h q = tt
  items-quiet (x ∷ xs) {a = a} {frame = frame} below few h q =
      let parts = items-next-steps rules r h in
      let after = rest_of parts.0 (parts.1 ++ parts.2) parts.6 q in (
        record {
          around = behind frame a;
          steps = parts.0;
          walk = parts.3;
          quiet =
              first_of parts.0 (parts.1 ++ parts.2) parts.6 q;
          below = below;
          shallow = few;
        },
        items-quiet xs below few parts.5 (rest_of parts.1 parts.2 refl after),
      )

  branches-quiet :
      (bs : List BranchV) {names : ℕ} {a : Around} {steps : List Step} → names ≤ a.depth → a.depth ≤ 64
      → BranchesWalk rules r a (branches_of bs) steps → Quiet steps → BranchesQuiet rules r names bs
  branches-quiet [] below few h q = tt
  branches-quiet (b ∷ bs) {a = a} below few h q =
      let parts = branches-next-steps rules r h in
      let after = rest_of parts.0 (parts.1 ++ parts.2) parts.6 q in (
        record { around = a; steps = parts.0; walk = parts.3; quiet = first_of parts.0 (parts.1 ++ parts.2) parts.6 q; below = below; shallow = few },
        branches-quiet bs below few parts.5 (rest_of parts.1 parts.2 refl after),
      )

  pub quiet-seq : {names s e : ℕ} (xs : List ExprV) → QuietAt rules r names (expr s e (seq (exprs_of xs))) → AllQuiet rules r names xs
  quiet-seq {s = s} xs h =
      let parts = seq-steps rules r h.walk in
      let there = inside-node s h.around parts.0 h.below h.shallow parts.2 h.quiet in
      items-quiet xs {a = inside h.around} there.0 there.1 parts.1 there.2

  pub quiet-cut : {names s e : ℕ} (xs : List ExprV) → QuietAt rules r names (expr s e (cut (exprs_of xs))) → AllQuiet rules r names xs
  quiet-cut {s = s} xs h =
      let parts = cut-steps rules r h.walk in
      let there = inside-node s h.around parts.0 h.below h.shallow parts.2 h.quiet in
      items-quiet xs {a = inside h.around} there.0 there.1 parts.1 there.2

  pub quiet-choice :
      {names s e : ℕ} (bs : List BranchV) → QuietAt rules r names (expr s e (choice (branches_of bs))) → BranchesQuiet rules r names bs
  quiet-choice {s = s} bs h =
      let parts = choice-steps rules r h.walk in
      let there = inside-node s h.around parts.0 h.below h.shallow parts.2 h.quiet in
      branches-quiet bs {a = inside h.around} there.0 there.1 parts.1 there.2

  -- ---- parts with an exponent

  power-small :
      {a : Around} {s e : ℕ} {x : ExprV} {k : Exponent} {steps : List Step}
      → Walk rules r a (expr s e (power x k)) steps → Quiet steps → is_too_large k ≡ false
  power-small {a} {s} (walk_field {counts = counts} unit c p) q = count-small c (rest_of (node_at a s) counts p q)
  power-small (walk_rest is p) q = refl
  power-small {a} {s} (walk_times {counts = counts} {inner = inner} {left = left} none c h l p) q =
      count-small c (first_of counts (inner ++ left) refl (rest_of (node_at a s) (counts ++ (inner ++ left)) p q))
  power-small (walk_many not h l p) q = refl

  pub quiet-count : {names s e : ℕ} {x : ExprV} {k : Exponent} → QuietAt rules r names (expr s e (power x k)) → is_too_large k ≡ false
  quiet-count h = power-small h.walk h.quiet

  times-part :
      {names : ℕ} {a : Around} {s e : ℕ} {x : ExprV} {k : Exponent} {steps : List Step} (seen : Seen ℕ) {count : Count}
      → names ≤ a.depth → a.depth ≤ 64 → unit_of x ≡ None → count_at seen k ≡ Some count
      → Walk rules r a (expr s e (power x k)) steps → Quiet steps → QuietAt rules r names x
  times-part seen below few no_unit at (walk_field unit c p) q = absurd (no_none unit no_unit)
  times-part seen below few no_unit at (walk_rest is p) q = absurd (cc)
  times-part {a = a} {s} seen below few no_unit at (walk_times {counts = counts} {inner = inner} {left = left} none c h l p) q =
      let after = rest_of counts (inner ++ left) refl (rest_of (node_at a s) (counts ++ (inner ++ left)) p q) in
      within-node s a inner (counts ++ (inner ++ left)) below few p q h (first_of inner left refl after)
  times-part seen below few no_unit at (walk_many not h l p) q = absurd (cc)

  pub quiet-times :
      {names s e : ℕ} {x : ExprV} {k : Exponent} (seen : Seen ℕ) {count : Count}
      → unit_of x ≡ None → count_at seen k ≡ Some count → QuietAt rules r names (expr s e (power x k)) → QuietAt rules r names x
  quiet-times seen no_unit at h = times-part seen h.below h.shallow no_unit at h.walk h.quiet

  many-part :
      {names : ℕ} {a : Around} {s e : ℕ} {x : ExprV} {steps : List Step} → names ≤ a.depth → a.depth ≤ 64 → is_bit x ≡ false
      → Walk rules r a (expr s e (power x Any)) steps → Quiet steps → QuietAt rules r names x
  many-part below few no_bit (walk_field unit c p) q = elim c [ ]
  many-part below few no_bit (walk_rest is p) q = absurd (no_both is no_bit)
  many-part below few no_bit (walk_times none c h l p) q = elim c [ ]
  many-part {a = a} {s} below few no_bit (walk_many {inner = inner} {left = left} not h l p) q =
      within-node s a inner (inner ++ left) below few p q h (first_of inner left refl (rest_of (node_at a s) (inner ++ left) p q))

  pub quiet-many :
      {names s e : ℕ} {x : ExprV} → is_bit x ≡ false → QuietAt rules r names (expr s e (power x Any)) → QuietAt rules r names x
  quiet-many no_bit h = many-part h.below h.shallow no_bit h.walk h.quiet

  -- ---- windows

  quiet-left-wide :
      {names s e : ℕ} {x y : ExprV} {w : WidthV} → width_of x ≡ Some w → QuietAt rules r names (expr s e (both x y))
      → QuietAt rules r names y × (is_too_large w.count ≡ false)
  quiet-left-wide {s = s} {w = w} is h =
      let parts = window-steps rules r w is h.walk in
      let after = rest_of (node_at h.around s) (parts.0 ++ parts.1) parts.4 h.quiet in (
        within-node s h.around parts.1 (parts.0 ++ parts.1) h.below h.shallow parts.4 h.quiet parts.3 (rest_of parts.0 parts.1 refl after),
        count-small parts.2 (first_of parts.0 parts.1 refl after),
      )

  quiet-right-wide :
      {names s e : ℕ} {x y : ExprV} {w : WidthV} → width_of x ≡ None → width_of y ≡ Some w → QuietAt rules r names (expr s e (both x y))
      → QuietAt rules r names x × (is_too_large w.count ≡ false)
  quiet-right-wide {s = s} {w = w} none is h =
      let parts = window-behind-steps rules r w none is h.walk in
      let after = rest_of (node_at h.around s) (parts.0 ++ parts.1) parts.4 h.quiet in (
        within-node s h.around parts.0 (parts.0 ++ parts.1) h.below h.shallow parts.4 h.quiet parts.2 (first_of parts.0 parts.1 refl after),
        count-small parts.3 (rest_of parts.0 parts.1 refl after),
      )

  pub quiet-window :
      {names s e : ℕ} {x y : ExprV} {w : WindowV} → Sides x y w → QuietAt rules r names (expr s e (both x y))
      → QuietAt rules r names w.part × (is_too_large w.width.count ≡ false)
  quiet-window {names} {w = w} (left_wide wide part) h =
      let P : ExprV → Type 0 = λ z. QuietAt rules r names z in
      let quiet = quiet-left-wide wide h in (subst P part quiet.0, quiet.1)
  quiet-window {names} {w = w} (right_wide none wide part) h =
      let P : ExprV → Type 0 = λ z. QuietAt rules r names z in
      let quiet = quiet-right-wide none wide h in (subst P part quiet.0, quiet.1)

  -- ---- names and rules

  name-rule :
      {names : ℕ} {a : Around} {s e : ℕ} {n : List ℕ} {rule : Rule} {steps : List Step} → names ≤ a.depth → a.depth ≤ 64
      → rule_of rules n ≡ Some rule → Walk rules r a (expr s e (name n)) steps → Quiet steps
      → RuleQuiet rules r (names + 1) rule × (names < 64)
  name-rule {n = n} {rule = rule} below few at (walk_built_in is p) q = absurd (no_rule rules n rule is at)
  name-rule below few at (walk_undefined not none p) q = absurd (no_none at none)
  name-rule {a = a} {s} below few at (walk_recursive other is among p) q = absurd (rest_of (entering a s) (refused Recursive s ∷ []) p q)
  name-rule {names} {a} {s} {n = n} {rule} below few at (walk_name {inner = inner} other is new h p) q =
      let Same : Rule → Type 0 = λ z. RuleWalk rules r (putting_in n a) z inner in
      let shallow = not-full a.depth s (first_of (entering a s) inner p q) few in (
        record {
          around = putting_in n a;
          steps = inner;
          walk = subst Same (same_rule rules n is at) h;
          quiet = rest_of (entering a s) inner p q;
          below = omega (arith, below);
          shallow = omega (arith, shallow);
        },
        omega (arith, below, shallow),
      )

  pub quiet-name :
      {names s e : ℕ} {n : List ℕ} {rule : Rule} → rule_of rules n ≡ Some rule → QuietAt rules r names (expr s e (name n))
      → RuleQuiet rules r (names + 1) rule × (names < 64)
  quiet-name at h = name-rule h.below h.shallow at h.walk h.quiet

  pub quiet-plain : {names : ℕ} {rule : Rule} → tail_of rule ≡ None → RuleQuiet rules r names rule → QuietAt rules r names rule.body
  quiet-plain none h =
      record { around = h.around; steps = h.steps; walk = plain-steps rules r none h.walk; quiet = h.quiet; below = h.below; shallow = h.shallow }

  pub quiet-tail :
      {names : ℕ} {rule : Rule} {tail : TailV} (xs : List ExprV) → tail_of rule ≡ Some tail → tail.items ≡ exprs_of xs
      → RuleQuiet rules r names rule → AllQuiet rules r names xs
  quiet-tail {rule = rule} {tail = tail} xs at are h =
      let parts = tail-steps rules r tail at h.walk in
      let rest = turn_begun (inside h.around) tail.end ++ (parts.1 ++ (parts.2 ++ node_at (inside h.around) tail.end.stop.at)) in
      let shallow = node-shallow h.around (start_of rule.body) (parts.0 ++ rest) h.shallow parts.6 h.quiet in
      let below = h.below in
      let Same : ExprsV → Type 0 = λ z. ItemsWalk rules r false (inside h.around) [] z parts.0 in
      items-quiet xs {a = inside h.around} (omega (arith, below)) (omega (arith, shallow)) (subst Same are parts.3)
      (first_of parts.0 rest refl (rest_of (node_at h.around (start_of rule.body)) (parts.0 ++ rest) parts.6 h.quiet))

  -- ---- one by one

  pub quiet-at : {names : ℕ} (xs : List ExprV) (at : ℕ) (x : ExprV) → slice_get xs at ≡ Some x → AllQuiet rules r names xs → QuietAt rules r names x
  quiet-at [] at x h all = absurd (cc)
  quiet-at {names} (y ∷ xs) zero x h all =
      let same : y ≡ x = cc in let Q : ExprV → Type 0 = λ z. QuietAt rules r names z in subst Q same all.0
  quiet-at (y ∷ xs) (suc at) x h all = quiet-at xs at x h all.1

  pub quiet-branch :
      {names : ℕ} (bs : List BranchV) (at : ℕ) (b : BranchV) → slice_get bs at ≡ Some b → BranchesQuiet rules r names bs → QuietAt rules r names b.body
  quiet-branch [] at b h all = absurd (cc)
  quiet-branch {names} (c ∷ bs) zero b h all =
      let same : c ≡ b = cc in let Q : BranchV → Type 0 = λ z. QuietAt rules r names z.body in subst Q same all.0
  quiet-branch (c ∷ bs) (suc at) b h all = quiet-branch bs at b h all.1
