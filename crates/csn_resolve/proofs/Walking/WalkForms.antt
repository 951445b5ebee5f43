-- How a walk goes through an expression of which the form is known, and through the item or alternative at hand.
use Rattle.std.proofs.Common.{◌≡◌, ℕ, ◌+◌, ◌<◌, Bool, List, [], ◌++◌, take, drop, slice_get, Result, Some, refl, ◌∙◌, ap}
use Rattle.std.specs.Prelude.{IsErrAnd}
use Rattle.std.specs.Borrow.{Bor}
use Rattle.csn_desc.specs.declared.reading.Reading.{Reading}
use Rattle.csn_grammar.specs.ExprV.{ExprV, expr, FormV, both, BranchV, exprs_of, branches_of}
use Rattle.csn_grammar.specs.RulesV.{RulesV}
use Rattle.csn_grammar.specs.Forms.{WidthV, width_of}
use Rattle.csn_resolve.specs.declared.fault.ResolveFault.{ResolveFault}
use Rattle.csn_resolve.specs.declared.begun.Begun.{Begun}
use Rattle.csn_resolve.specs.declared.begun.Around as b
use Rattle.csn_resolve.specs.declared.around.Seen as s
use Rattle.csn_resolve.specs.Counts.{CountSteps}
use Rattle.csn_resolve.specs.Gives.{start_of}
use Rattle.csn_resolve.specs.Steps.{Step}
use Rattle.csn_resolve.specs.Walk.{Around, inside, node_at, ItemLeft, BranchLeft, Walk, ItemsWalk, BranchesWalk}
use Rattle.csn_resolve.specs.Going.{gone, way, Stops, Goes}
use Rattle.csn_resolve.specs.Views.{around_view, entered_view, frame_after, seen_view}
use Rattle.csn_resolve.proofs.Basics.Parts.{take_get}
use Rattle.csn_resolve.proofs.Naming.ViewFacts.{frame-more}
use Rattle.csn_resolve.proofs.Walking.GoingFacts.{exit-stops, stops-in, goes-same, goes-after}
use Rattle.csn_resolve.proofs.Walking.Inversion.{as-form, walk-in, count-at, items-like, window-steps, items-next-steps, branches-next-steps}
use Rattle.csn_resolve.proofs.Walking.WalkFacts.{behind-in, items-at, branches-at, branch-left-as}

module _ (rules : RulesV) (r : Reading) where
  -- ---- a form

  -- it is one node
  pub leaf-goes :
      (a : Around) (x : ExprV) {place end : ℕ} {form : FormV} (begun : ℕ) (answer : Result Begun ResolveFault) → x ≡ expr place end form
      → ((steps : List Step) → Walk rules r a (expr place end form) steps → steps ≡ node_at a place) → Goes begun (node_at a place) answer
      → (steps : List Step) → Walk rules r a x steps → Goes begun steps answer
  leaf-goes a x {place} begun answer is told goes steps h = goes-same begun steps (node_at a place) answer (told steps (as-form rules r is h)) goes

  -- its first steps stop
  pub front-stops :
      (a : Around) (x : ExprV) {place end : ℕ} {form : FormV} (front : List Step) (begun : ℕ) (fault : ResolveFault) (answer : Result Begun ResolveFault)
      → x ≡ expr place end form → ((steps : List Step) → Walk rules r a (expr place end form) steps → (rest : List Step) × (steps ≡ front ++ rest))
      → IsErrAnd answer (λ e. e ≡ fault) → Stops (way begun front) fault
      → (steps : List Step) → Walk rules r a x steps → Goes begun steps answer
  front-stops a x front begun fault answer is told same stops steps h =
      let parts = told steps (as-form rules r is h) in
      exit-stops begun steps fault answer same (stops-in begun front parts.0 steps fault parts.1 stops)

  -- it goes on inside, behind its first steps
  pub inside-goes :
      (a : Around) (x : ExprV) {place end : ℕ} {form : FormV} (front : List Step) (begun after : ℕ) (answer : Result Begun ResolveFault)
      → x ≡ expr place end form
      → ((steps : List Step) → Walk rules r a (expr place end form) steps → (rest : List Step) × (steps ≡ front ++ rest) × Goes after rest answer)
      → way begun front ≡ gone after → (steps : List Step) → Walk rules r a x steps → Goes begun steps answer
  inside-goes a x front begun after answer is told behind steps h =
      let parts = told steps (as-form rules r is h) in
      goes-after begun after front parts.0 steps answer parts.1 behind parts.2

  -- the left side of a window counts, at this place
  pub window-at :
      {a : Around} {s e : ℕ} {x y : ExprV} (w : WidthV) (place : ℕ) {steps : List Step} → start_of x ≡ place → width_of x ≡ Some w
      → Walk rules r a (expr s e (both x y)) steps
      → (counts : List Step) × (inner : List Step) × CountSteps rules r a.seen place w.count counts
      × Walk rules r (inside a) y inner × (steps ≡ node_at a s ++ (counts ++ inner))
  window-at w place begins at h =
      let parts = window-steps rules r w at h in
      (parts.0, parts.1, count-at rules r begins parts.2, parts.3, parts.4)

  -- ---- the item or alternative at hand

  pub item-next :
      {full : Bool} (a : b.Around) (items : Bor (List ExprV)) (count at : ℕ) (x : ExprV) (here : Around) (begun start : ℕ) (steps : List Step)
      → here ≡ record { depth = a.depth; names = entered_view a.names.now; seen = seen_view r (s.Behind items at a.seen) }
      → at < count → slice_get items.now at ≡ Some x
      → (rest : List Step) × ItemsWalk rules r full (around_view r a) (frame_after r [] (take at items.now)) (exprs_of (drop at (take count items.now))) rest
      × (way start steps ≡ way begun rest)
      → (first : List Step) × (left : List Step) × (rest : List Step) × Walk rules r here x first × ItemLeft rules r full x left
      × ItemsWalk rules r full (around_view r a) (frame_after r [] (take (at + 1) items.now)) (exprs_of (drop (at + 1) (take count items.now))) rest
      × (way start steps ≡ way begun (first ++ (left ++ rest)))
  item-next a items count at x here begun start steps round few there (rest, walk, same) =
      let parts = items-next-steps rules r (items-at rules r (take count items.now) at x (take_get items.now count at x few there) walk) in (
        parts.0,
        parts.1,
        parts.2,
        walk-in rules r round (behind-in rules r a items at parts.3),
        parts.4,
        items-like rules r refl (frame-more r items.now at x there) refl parts.5,
        same ∙ ap (way begun) parts.6,
      )

  pub branch-next :
      {a : Around} (bs : List BranchV) (at : ℕ) (c d : BranchV) (begun start : ℕ) (steps : List Step) → slice_get bs at ≡ Some c → c ≡ d
      → (rest : List Step) × BranchesWalk rules r a (branches_of (drop at bs)) rest × (way start steps ≡ way begun rest)
      → (first : List Step) × (left : List Step) × (rest : List Step) × Walk rules r a d.body first × BranchLeft rules r d.error d.body left
      × BranchesWalk rules r a (branches_of (drop (at + 1) bs)) rest × (way start steps ≡ way begun (first ++ (left ++ rest)))
  branch-next bs at c d begun start steps there is (rest, walk, same) =
      let parts = branches-next-steps rules r (branches-at rules r bs at c there walk) in (
        parts.0,
        parts.1,
        parts.2,
        as-form rules r (ap (λ (z : BranchV). z.body) is) parts.3,
        branch-left-as rules r is parts.4,
        parts.5,
        same ∙ ap (way begun) parts.6,
      )
