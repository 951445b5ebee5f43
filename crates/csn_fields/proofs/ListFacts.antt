-- The leaves among events are listed.
use Rattle.std.proofs.Common.{◌≡◌, ◌⊎◌, inl, inr, Bool, true, false, List, [], ◌∷◌, ◌++◌, refl, sym, ap, subst, ◌∙◌}
use Rattle.std.proofs.Common.{append_assoc, append-nil}
use Rattle.csn_fields.specs.declared.leaf.Leaf.{Leaf}
use Rattle.csn_fields.specs.declared.event.Event.{Event}
use Rattle.csn_fields.specs.declared.event.Event.TheVariants as event
use Rattle.csn_fields.specs.Events.{Told}
use Rattle.csn_fields.specs.Lists.{LeavesV, Lists, leaves_in, AreLeaves}

-- all leaves stand behind those before; or the first of them do
abbrev Listed : List Leaf → List Event → LeavesV → Type 0
Listed before es new =
    ((new.short ≡ false) × (new.leaves ≡ before ++ leaves_in es))
    ⊎ ((new.short ≡ true) × ((rest : List Leaf) × (before ++ leaves_in es ≡ new.leaves ++ rest)))

-- nothing is added where memory was wanting
abbrev Stays : LeavesV → LeavesV → Type 0
Stays old new = (new.short ≡ true) × (new.leaves ≡ old.leaves)

stays_by : (old next new : LeavesV) → Stays next new → next.leaves ≡ old.leaves → Stays old new
stays_by old next new s same = (s.0, s.1 ∙ same)

lists_off : (es : List Event) (old new : LeavesV) → Told Lists es old new → old.short ≡ true → Stays old new
lists_off [] old new same on = (ap (λ (l : LeavesV). l.short) same ∙ on, ap (λ (l : LeavesV). l.leaves) same)
lists_off (event.Leaf leaf ∷ es) old new (next, inl adds, rest) on = let clash : true ≡ false = sym on ∙ adds.0 in absurd (cc)
lists_off (event.Leaf leaf ∷ es) old new (next, inr adds, rest) on =
    stays_by old next new (lists_off es next new rest (ap (λ (l : LeavesV). l.short) adds)) (ap (λ (l : LeavesV). l.leaves) adds)
lists_off (event.Begin node role place ∷ es) old new (next, same, rest) on =
    stays_by old next new (lists_off es next new rest (ap (λ (l : LeavesV). l.short) same ∙ on)) (ap (λ (l : LeavesV). l.leaves) same)
lists_off (event.End node place ∷ es) old new (next, same, rest) on =
    stays_by old next new (lists_off es next new rest (ap (λ (l : LeavesV). l.short) same ∙ on)) (ap (λ (l : LeavesV). l.leaves) same)

listed_by : (before after : List Leaf) (es : List Event) (new : LeavesV) → before ≡ after → Listed before es new → Listed after es new
listed_by before after es new same h = subst (λ (l : List Leaf). Listed l es new) same h

one_more : (before : List Leaf) (leaf : Leaf) (es : List Event) (new : LeavesV) → Listed (before ++ leaf ∷ []) es new
    → Listed before (event.Leaf leaf ∷ es) new
one_more before leaf es new (inl (off, is)) = inl (off, is ∙ append_assoc before (leaf ∷ []) (leaves_in es))
one_more before leaf es new (inr (on, (rest, cut))) = inr (on, (rest, sym (append_assoc before (leaf ∷ []) (leaves_in es)) ∙ cut))

lists_on : (es : List Event) (old new : LeavesV) → Told Lists es old new → old.short ≡ false → Listed old.leaves es new
lists_on [] old new same off =
    inl (ap (λ (l : LeavesV). l.short) same ∙ off, ap (λ (l : LeavesV). l.leaves) same ∙ sym (append-nil old.leaves))
lists_on (event.Leaf leaf ∷ es) old new (next, inl adds, rest) off =
    one_more old.leaves leaf es new
    (listed_by next.leaves (old.leaves ++ leaf ∷ []) es new (ap (λ (l : LeavesV). l.leaves) adds.1)
    (lists_on es next new rest (ap (λ (l : LeavesV). l.short) adds.1)))
lists_on (event.Leaf leaf ∷ es) old new (next, inr adds, rest) off =
    let s = lists_off es next new rest (ap (λ (l : LeavesV). l.short) adds) in
    let same : new.leaves ≡ old.leaves = s.1 ∙ ap (λ (l : LeavesV). l.leaves) adds in
    inr (s.0, (leaf ∷ leaves_in es, ap (λ (l : List Leaf). l ++ leaf ∷ leaves_in es) (sym same)))
lists_on (event.Begin node role place ∷ es) old new (next, same, rest) off =
    listed_by next.leaves old.leaves es new (ap (λ (l : LeavesV). l.leaves) same)
    (lists_on es next new rest (ap (λ (l : LeavesV). l.short) same ∙ off))
lists_on (event.End node place ∷ es) old new (next, same, rest) off =
    listed_by next.leaves old.leaves es new (ap (λ (l : LeavesV). l.leaves) same)
    (lists_on es next new rest (ap (λ (l : LeavesV). l.short) same ∙ off))

pub are_leaves : (es : List Event) (l : LeavesV) → Told Lists es (record { leaves = []; short = false }) l → AreLeaves es l.leaves l.short
are_leaves es l told = elim (lists_on es (record { leaves = []; short = false }) l told refl) [
  | inl all ↦ subst (λ (b : Bool). AreLeaves es l.leaves b) (sym all.0) all.1
  | inr some ↦ subst (λ (b : Bool). AreLeaves es l.leaves b) (sym some.0) some.1
]
