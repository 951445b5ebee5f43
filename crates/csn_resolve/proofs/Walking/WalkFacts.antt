-- What the private functions that walk pass on, in terms of the walk.
use Rattle.std.proofs.Common.{◌≡◌, ℕ, zero, suc, ◌+◌, Bool, List, [], ◌∷◌, take, drop, slice_get, Some, refl, sym, ◌∙◌, ap, subst, arith}
use Rattle.std.specs.Borrow.{Bor}
use Rattle.csn_desc.specs.declared.reading.Reading.{Reading}
use Rattle.csn_grammar.specs.declared.rules.Rule.{Rule}
use Rattle.csn_grammar.specs.ExprV.{ExprV, BranchV, item, branch, exprs_of, branches_of}
use Rattle.csn_grammar.specs.RulesV.{RulesV}
use Rattle.csn_grammar.specs.Void.{Void, SomeVoid, void_here, void_later}
use Rattle.csn_resolve.specs.declared.around.Entered as e
use Rattle.csn_resolve.specs.declared.around.Seen as s
use Rattle.csn_resolve.specs.declared.begun.Around as b
use Rattle.csn_resolve.specs.Seen as seen
use Rattle.csn_resolve.specs.Seen.{Frame}
use Rattle.csn_resolve.specs.Steps.{Step}
use Rattle.csn_resolve.specs.Walk.{Around, putting_in, behind, outermost, Walk, ItemsWalk, BranchesWalk, BranchLeft, RuleWalk}
use Rattle.csn_resolve.specs.Views.{entered_view, frame_after, seen_view, around_view}
use Rattle.csn_resolve.proofs.Basics.Parts.{drop_at}
use Rattle.csn_resolve.proofs.Naming.ViewFacts.{entered-Rule, entered-Nothing, seen-Behind, seen-Nothing}
use Rattle.csn_resolve.proofs.Walking.Inversion.{items-like, branches-as}

module _ (rules : RulesV) (r : Reading) where
  pub behind-in :
      (a : b.Around) (items : Bor (List ExprV)) (at : ℕ) {x : ExprV} {steps : List Step}
      → Walk rules r (behind (frame_after r [] (take at items.now)) (around_view r a)) x steps
      → Walk rules r (record { depth = a.depth; names = entered_view a.names.now; seen = seen_view r (s.Behind items at a.seen) }) x steps
  behind-in a items at {x} {steps} h =
      let Q : seen.Seen ExprV → Type 0 = λ z. Walk rules r (record { depth = a.depth; names = entered_view a.names.now; seen = z }) x steps in
      subst Q (sym (seen-Behind r items at a.seen)) h

  pub putting-in :
      (a : b.Around) (n : Bor (List ℕ)) (m : List ℕ) {rule : Rule} {steps : List Step} → n.now ≡ m
      → RuleWalk rules r (putting_in m (around_view r a)) rule steps
      → RuleWalk rules r (record { depth = a.depth + 1; names = entered_view (e.Rule n a.names); seen = seen_view r a.seen.now }) rule steps
  putting-in a n m {rule} {steps} is h =
      let deep : suc a.depth ≡ a.depth + 1 = omega arith in
      let names : m ∷ entered_view a.names.now ≡ entered_view (e.Rule n a.names) =
      sym (entered-Rule n a.names ∙ ap (λ (z : List ℕ). z ∷ entered_view a.names.now) is) in
      let P : ℕ → Type 0 = λ z. RuleWalk rules r (record { depth = z; names = m ∷ entered_view a.names.now; seen = seen_view r a.seen.now }) rule steps in
      let Q : List (List ℕ) → Type 0 = λ z. RuleWalk rules r (record { depth = a.depth + 1; names = z; seen = seen_view r a.seen.now }) rule steps in
      subst Q names (subst P deep h)

  pub outermost-in :
      (n : Bor (List ℕ)) (none : Bor e.Entered) (sees : s.Seen) {rule : Rule} {steps : List Step} → none.now ≡ e.Nothing → sees ≡ s.Nothing
      → RuleWalk rules r (outermost n.now) rule steps
      → RuleWalk rules r (record { depth = 0; names = entered_view (e.Rule n none); seen = seen_view r sees }) rule steps
  outermost-in n none sees {rule} {steps} p q h =
      let names : n.now ∷ [] ≡ entered_view (e.Rule n none) =
      sym (entered-Rule n none ∙ ap (λ (z : List (List ℕ)). n.now ∷ z) (ap entered_view p ∙ entered-Nothing)) in
      let empty : [] ≡ seen_view r sees = sym (ap (seen_view r) q ∙ seen-Nothing r) in
      let P : List (List ℕ) → Type 0 = λ z. RuleWalk rules r (record { depth = 0; names = z; seen = [] }) rule steps in
      let Q : seen.Seen ExprV → Type 0 = λ z. RuleWalk rules r (record { depth = 0; names = entered_view (e.Rule n none); seen = z }) rule steps in
      subst Q empty (subst P names h)

  pub items-at :
      {full : Bool} {a : Around} {frame : Frame ExprV} (xs : List ExprV) (at : ℕ) (x : ExprV) {steps : List Step} → slice_get xs at ≡ Some x
      → ItemsWalk rules r full a frame (exprs_of (drop at xs)) steps → ItemsWalk rules r full a frame (item x (exprs_of (drop (at + 1) xs))) steps
  items-at xs at x here h = items-like rules r refl refl (ap exprs_of (drop_at xs at x here)) h

  pub branches-at :
      {a : Around} (bs : List BranchV) (at : ℕ) (c : BranchV) {steps : List Step} → slice_get bs at ≡ Some c
      → BranchesWalk rules r a (branches_of (drop at bs)) steps → BranchesWalk rules r a (branch c.error c.body (branches_of (drop (at + 1) bs))) steps
  branches-at bs at c here h = branches-as rules r (ap branches_of (drop_at bs at c here)) h

  pub branch-left-as : {c d : BranchV} {steps : List Step} → c ≡ d → BranchLeft rules r c.error c.body steps → BranchLeft rules r d.error d.body steps
  branch-left-as {steps = steps} p h = let Q : BranchV → Type 0 = λ z. BranchLeft rules r z.error z.body steps in subst Q p h

  -- ---- items that are empty of strings

  pub some-at : (xs : List ExprV) (at : ℕ) (x : ExprV) → slice_get xs at ≡ Some x → Void rules r x → SomeVoid rules r (exprs_of xs)
  some-at [] at x here v = absurd (cc)
  some-at (y ∷ xs) zero x here v =
      let same : x ≡ y = cc in let Q : ExprV → Type 0 = λ z. Void rules r z in void_here (subst Q same v)
  some-at (y ∷ xs) (suc at) x here v = void_later (some-at xs at x here v)

  later : {x : ExprV} (xs : List ExprV) → ¬ Void rules r x → SomeVoid rules r (item x (exprs_of xs)) → SomeVoid rules r (exprs_of xs)
  later xs full (void_here v) = absurd (full v)
  later xs full (void_later v) = v

  pub some-later :
      (xs : List ExprV) (at : ℕ) (x : ExprV) → slice_get xs at ≡ Some x → ¬ Void rules r x
      → SomeVoid rules r (exprs_of (drop at xs)) → SomeVoid rules r (exprs_of (drop (at + 1) xs))
  some-later xs at x here full v =
      let Q : List ExprV → Type 0 = λ z. SomeVoid rules r (exprs_of z) in later (drop (at + 1) xs) full (subst Q (drop_at xs at x here) v)

  pub none-left : (xs : List ExprV) → xs ≡ [] → ¬ SomeVoid rules r (exprs_of xs)
  none-left [] p v = elim v [ ]
  none-left (x ∷ xs) p v = absurd (cc)
