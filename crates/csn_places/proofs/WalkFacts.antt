-- What the code that walks adds, form by form.
use Rattle.std.proofs.Common.{◌≡◌, ℕ, zero, suc, ◌+◌, ◌-◌, ◌*◌, ◌≤◌, Bool, true, false, List, [], ◌∷◌, ◌++◌, length, drop, slice_get, Some, None}
use Rattle.std.proofs.Common.{refl, sym, ◌∙◌, ap, arith, append_assoc, append-nil}
use Rattle.std.specs.Prelude.{if◌then◌else◌}
use Rattle.std.proofs.lemmas.List.{drop_all}
use Rattle.csn_desc.specs.declared.reading.Reading.{Reading}
use Rattle.csn_grammar.specs.declared.rules.Rule.{Rule}
use Rattle.csn_grammar.specs.ExprV.{ExprV, BranchV, exprs_of, branches_of}
use Rattle.csn_grammar.specs.RulesV.{RulesV}
use Rattle.csn_grammar.specs.Names.{rule_of}
use Rattle.csn_grammar.specs.TailForm.{TailV, tail_of}
use Rattle.csn_resolve.specs.Depths.{deepest}
use Rattle.csn_resolve.specs.Gives.{start_of}
use Rattle.csn_resolve.proofs.Basics.Parts.{drop_at}
use Rattle.csn_places.specs.declared.origin.Origin.{Origin}
use Rattle.csn_places.specs.Depths.{left_of}
use Rattle.csn_places.specs.Origins.{at, is_kept, one_if, kept_in, origins, items_origins, branches_origins}
use Rattle.csn_places.specs.Origins.{tail_origins, by_tail, rule_origins, by_rule, named_at}

-- what is added, and more behind it
pub adds-behind :
    (old mid new a b : List Origin) → mid ≡ old ++ a → new ≡ mid ++ b → new ≡ old ++ (a ++ b)
adds-behind old mid new a b p q = q ∙ (ap (λ l. l ++ b) p ∙ append_assoc old a b)

-- the same, told otherwise
pub adds-told : (old new a b : List Origin) → a ≡ b → new ≡ old ++ a → new ≡ old ++ b
adds-told old new a b p q = q ∙ ap (λ l. old ++ l) p

pub adds-none : (old a : List Origin) → a ≡ [] → old ≡ old ++ a
adds-none old a p = sym (ap (λ l. old ++ l) p ∙ append-nil old)

-- room for the rule of a name, where so many fewer may be put in
pub name-room :
    (rules : RulesV) (left : ℕ) (size : ℕ) → (left ≡ 0 → ⊥) → size ≤ deepest rules
    → left_of rules (left - 1) size + 2 ≤ left_of rules left 0
name-room rules zero size some small = absurd (some refl)
name-room rules (suc left) size some small =
    let less : suc left - 1 ≡ left = omega arith in
    let product : (deepest rules + 2) * suc left ≡ (deepest rules + 2) * left + (deepest rules + 2) = omega arith in
    let same : (deepest rules + 2) * (suc left - 1) ≡ (deepest rules + 2) * left = ap (λ k. (deepest rules + 2) * k) less in
    omega (arith, product, same, small)

module _ (void : ExprV → Bool) where
  pub kept-next :
      (bs : List BranchV) (i : ℕ) (b : BranchV) → slice_get bs i ≡ Some b
      → kept_in void (branches_of (drop i bs)) ≡ one_if (is_kept void b) + kept_in void (branches_of (drop (i + 1) bs))
  kept-next bs i b here = ap (λ l. kept_in void (branches_of l)) (drop_at bs i b here)

module _ (rules : RulesV) (r : Reading) (void : ExprV → Bool) (left : ℕ) (round : List ℕ) where
  abbrev names : List ℕ → ℕ → List Origin
  names = named_at rules r void left round

  -- an expression of which a level is known
  pub adds-form :
      (x y : ExprV) (old new : List Origin) → x ≡ y
      → new ≡ old ++ origins r void round names y → new ≡ old ++ origins r void round names x
  adds-form x y old new p h = adds-told old new _ _ (ap (origins r void round names) (sym p)) h

  pub items-next :
      (xs : List ExprV) (i : ℕ) (x : ExprV) (out new whole : List Origin) → slice_get xs i ≡ Some x
      → out ++ items_origins r void round names (exprs_of (drop i xs)) ≡ whole → new ≡ out ++ origins r void round names x
      → new ++ items_origins r void round names (exprs_of (drop (i + 1) xs)) ≡ whole
  items-next xs i x out new whole here h added =
      let rest = items_origins r void round names (exprs_of (drop (i + 1) xs)) in
      ap (λ l. l ++ rest) added
      ∙ (append_assoc out (origins r void round names x) rest
      ∙ (ap (λ l. out ++ items_origins r void round names (exprs_of l)) (sym (drop_at xs i x here)) ∙ h))

  pub items-done :
      (xs : List ExprV) (i : ℕ) (out whole : List Origin) → length xs ≤ i
      → out ++ items_origins r void round names (exprs_of (drop i xs)) ≡ whole → out ≡ whole
  items-done xs i out whole few h =
      sym (append-nil out)
      ∙ (ap (λ l. out ++ items_origins r void round names (exprs_of l)) (sym (drop_all i xs few)) ∙ h)

  branch-told :
      (bs : List BranchV) (i : ℕ) (b : BranchV) (kept : Bool) → slice_get bs i ≡ Some b → is_kept void b ≡ kept
      → branches_origins r void round names (branches_of (drop i bs))
      ≡ (if kept then origins r void round names b.body else []) ++ branches_origins r void round names (branches_of (drop (i + 1) bs))
  branch-told bs i b kept here is =
      ap (λ l. branches_origins r void round names (branches_of l)) (drop_at bs i b here)
      ∙ ap (λ k. (if k then origins r void round names b.body else []) ++ branches_origins r void round names (branches_of (drop (i + 1) bs))) is

  pub branches-next :
      (bs : List BranchV) (i : ℕ) (b : BranchV) (out new whole : List Origin) → slice_get bs i ≡ Some b → is_kept void b ≡ true
      → out ++ branches_origins r void round names (branches_of (drop i bs)) ≡ whole → new ≡ out ++ origins r void round names b.body
      → new ++ branches_origins r void round names (branches_of (drop (i + 1) bs)) ≡ whole
  branches-next bs i b out new whole here is h added =
      let rest = branches_origins r void round names (branches_of (drop (i + 1) bs)) in
      ap (λ l. l ++ rest) added
      ∙ (append_assoc out (origins r void round names b.body) rest
      ∙ (ap (λ l. out ++ l) (sym (branch-told bs i b true here is)) ∙ h))

  pub branches-past :
      (bs : List BranchV) (i : ℕ) (b : BranchV) (out whole : List Origin) → slice_get bs i ≡ Some b → is_kept void b ≡ false
      → out ++ branches_origins r void round names (branches_of (drop i bs)) ≡ whole
      → out ++ branches_origins r void round names (branches_of (drop (i + 1) bs)) ≡ whole
  branches-past bs i b out whole here is h = ap (λ l. out ++ l) (sym (branch-told bs i b false here is)) ∙ h

  pub branches-done :
      (bs : List BranchV) (i : ℕ) (out whole : List Origin) → length bs ≤ i
      → out ++ branches_origins r void round names (branches_of (drop i bs)) ≡ whole → out ≡ whole
  branches-done bs i out whole few h =
      sym (append-nil out)
      ∙ (ap (λ l. out ++ branches_origins r void round names (branches_of l)) (sym (drop_all i bs few)) ∙ h)

  pub plain-rule : (rule : Rule) → tail_of rule ≡ None → origins r void round names rule.body ≡ rule_origins r void round names rule
  plain-rule rule none = sym (ap (by_tail r void round names rule) none)

  pub tail-rule-at :
      (rule : Rule) (tail : TailV) (place : ℕ) → tail_of rule ≡ Some tail → start_of rule.body ≡ place
      → tail_origins r void round names place tail ≡ rule_origins r void round names rule
  tail-rule-at rule tail place is begins =
      sym (ap (λ z. tail_origins r void round names z tail) begins) ∙ sym (ap (by_tail r void round names rule) is)

  pub tail-adds :
      (place : ℕ) (tail : TailV) (old m1 m2 m3 m4 m5 m6 new : List Origin) → m1 ≡ old ++ at place round ∷ []
      → m2 ≡ m1 ++ items_origins r void round names tail.items → m3 ≡ m2 ++ at tail.end.braces round ∷ []
      → m4 ≡ m3 ++ at tail.end.again.at round ∷ [] → m5 ≡ m4 ++ at tail.end.again.at round ∷ []
      → m6 ≡ m5 ++ items_origins r void round names tail.items → new ≡ m6 ++ at tail.end.stop.at round ∷ []
      → new ≡ old ++ tail_origins r void round names place tail
  tail-adds place tail old m1 m2 m3 m4 m5 m6 new p1 p2 p3 p4 p5 p6 p =
      let items = items_origins r void round names tail.items in
      let braces = at tail.end.braces round in
      let again = at tail.end.again.at round in
      let stop : List Origin = at tail.end.stop.at round ∷ [] in
      let a6 : new ≡ m5 ++ (items ++ stop) = adds-behind m5 m6 new items stop p6 p in
      let a5 : new ≡ m4 ++ again ∷ (items ++ stop) = adds-behind m4 m5 new (again ∷ []) (items ++ stop) p5 a6 in
      let a4 : new ≡ m3 ++ again ∷ again ∷ (items ++ stop) = adds-behind m3 m4 new (again ∷ []) (again ∷ (items ++ stop)) p4 a5 in
      let a3 : new ≡ m2 ++ braces ∷ again ∷ again ∷ (items ++ stop) = adds-behind m2 m3 new (braces ∷ []) (again ∷ again ∷ (items ++ stop)) p3 a4 in
      let a2 : new ≡ m1 ++ (items ++ braces ∷ again ∷ again ∷ (items ++ stop)) =
      adds-behind m1 m2 new items (braces ∷ again ∷ again ∷ (items ++ stop)) p2 a3 in
      adds-behind old m1 new (at place round ∷ []) (items ++ braces ∷ again ∷ again ∷ (items ++ stop)) p1 a2

-- ---- names

pub none-named :
    (rules : RulesV) (r : Reading) (void : ExprV → Bool) (left : ℕ) (round n : List ℕ) (s : ℕ) → rule_of rules n ≡ None
    → at s round ∷ [] ≡ named_at rules r void left round n s
none-named rules r void zero round n s none = sym (ap (λ o. by_rule o (at s round ∷ []) (λ rule. [])) none)
none-named rules r void (suc left) round n s none =
    sym (ap (λ o. by_rule o (at s round ∷ []) (λ rule. rule_origins r void (round ++ s ∷ []) (named_at rules r void left (round ++ s ∷ [])) rule)) none)

pub last-named :
    (rules : RulesV) (r : Reading) (void : ExprV → Bool) (left : ℕ) (round n : List ℕ) (s : ℕ) (rule : Rule) → left ≡ 0
    → rule_of rules n ≡ Some rule → named_at rules r void left round n s ≡ []
last-named rules r void zero round n s rule none is = ap (λ o. by_rule o (at s round ∷ []) (λ rule. [])) is
last-named rules r void (suc left) round n s rule none is = absurd (omega (arith, none))

pub rule-named :
    (rules : RulesV) (r : Reading) (void : ExprV → Bool) (left : ℕ) (round n : List ℕ) (s : ℕ) (rule : Rule) (inner : List ℕ)
    → (left ≡ 0 → ⊥) → rule_of rules n ≡ Some rule → inner ≡ round ++ s ∷ []
    → rule_origins r void inner (named_at rules r void (left - 1) inner) rule ≡ named_at rules r void left round n s
rule-named rules r void zero round n s rule inner some is more = absurd (some refl)
rule-named rules r void (suc left) round n s rule inner some is more =
    let less : suc left - 1 ≡ left = omega arith in
    ap (λ k. rule_origins r void inner (named_at rules r void k inner) rule) less
    ∙ (ap (λ l. rule_origins r void l (named_at rules r void left l) rule) more
    ∙ sym (ap (λ o. by_rule o (at s round ∷ []) (λ rule. rule_origins r void (round ++ s ∷ []) (named_at rules r void left (round ++ s ∷ [])) rule)) is))
