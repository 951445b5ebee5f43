-- `Listed` as a type that may hold the type that holds it.
use mathlib.Core.Path.{◌≡◌, refl, sym, subst}
use mathlib.Core.List.{List}
use mathlib.Core.Former.{Former, this, list, via, children}
use native.Mathlib.Bridge.{le_prop}
use Prim.Native.Nat.{ℕ}
use lib.ListN.{length-map}
use base.Stored.{code_map}
use denote.RattleType.{RattleType}
use denote.HoleLaws.{Alike}
use denote.HolePlaces.{Recodes, struct_places, laid}
use denote.Hole.Carrier.{listed, list-listed}
use denote.Hole.Fix.{over}
use denote.Param.{value_of}
use denote.Param.Weighed.{Weighed, w_list}
use denote.Model.Placed.{view_places}
use Rattle.std.specs.Prelude.{◌≤◌}
use Rattle.std.specs.formers.vec.Vec as vec
use Rattle.std.specs.declared.alloc.Global.{Global}
use Rattle.std.specs.contracts.alloc.Global as heap
use Rattle.std.specs.contracts.impls.GlobalAllocator.TheImpl.{ghosts}
use Rattle.csn_desc.specs.declared.listed.Listed.TheInside.{Inside}
use Rattle.csn_desc.specs.declared.listed.Listed.TheView.{view, invariant}
use Rattle.csn_desc.specs.contracts.listed.Listed as C
use Rattle.csn_desc.specs.contracts.listed.Listed.TheInside as I

abbrev pub the_former : Former {0} → ℕ → Former {0}
the_former g most = list g

abbrev pub the_weighed : {g : Former {0}} → Weighed g → (most : ℕ) → Weighed (the_former g most)
the_weighed w most = w_list w

abbrev pub the_items : ℕ → (X : Type 0) → List X → List X
the_items most X d = d

pub the_items_listed : (most : ℕ) (X : Type 0) (d : List X) → listed _ (children (the_former this most) X d) ≡ the_items most X d
the_items_listed most X d = list-listed X d

abbrev fields : ℕ → Former {0}
fields most = via (vec.the_former this Global) (λ X. Inside X most) (λ X a. a.items) (λ X v. record { items = v }) (λ X a. refl) (λ X v. refl)

module _ (M R S : RattleType) (h : R.Denot → S.Denot) where
  pub the_places : Alike R S h → Alike (C.the_row R M) (C.the_row S M) ((the_former this (value_of M)).map R.Denot S.Denot h)
  the_places a = view_places (fields (value_of M)) (list this) (λ X. view X (value_of M)) (λ X Y k u. refl)
      (λ X u. refl) R.Denot S.Denot h (C.the_row R M).coded (C.the_row S M).coded
      (invariant R.Denot (value_of M)) (invariant S.Denot (value_of M)) (λ u. le_prop) (λ u. le_prop)
      (λ u. subst (λ n. n ≤ value_of M) (sym (length-map u.items.items h)))
      (λ u. subst (λ n. n ≤ value_of M) (length-map u.items.items h))
      (over (I.the_row R M)) (over (I.the_row S M))
      (struct_places (I.the_type R M) (I.the_type S M) (vec.mapped h, tt) _ (λ d. refl) refl (laid _ _ _ (vec.the_places heap.the_row ghosts R S h a), tt))

  pub the_codes_placed : Recodes R S h → Recodes (C.the_row R M) (C.the_row S M) ((the_former this (value_of M)).map R.Denot S.Denot h)
  the_codes_placed e d = sym (code_map R.coded.code S.coded.code h (λ x. sym (e x)) d)
