-- A node that has a conflict by claims of look-ahead has one by look-ahead itself.
use Rattle.std.proofs.Common.{◌≡◌, ℕ, ◌<◌, Bool, List, [], inl, inr, refl, arith, Some, slice_get}
use Rattle.std.specs.Prelude.{IsTrue}
use Rattle.csn_desc.specs.declared.node.Node.{Node}
use Rattle.csn_desc.specs.Nodes.{DescV}
use Rattle.csn_desc.specs.Formed.{IsDescription}
use Rattle.csn_cert.specs.CertificateV.{NodeV}
use Rattle.csn_claims.specs.Conflicts.{HasConflict, IsNotFirm, two_empty, choice_not_firm, many_not_firm}
use Rattle.csn_claims.specs.Conflicts.{times_not_firm, overlap, empty_clash, loop_clash, not_last}
use Rattle.csn_look.specs.Keys as key
use Rattle.csn_certify.specs.declared.conflict.Conflict.{Conflict}
use Rattle.csn_certify.specs.declared.conflict.Conflict.TheVariants.{TwoEmpty, NotFirm, Overlap, EmptyClash, LoopClash, NotLast}
use Rattle.csn_certify.specs.Conflicts.{IsConflict, Certified}
use Rattle.csn_certify.specs.Conflicts as conflict
use Rattle.csn_good.specs.ClaimedSets.{claims_of}
use Rattle.csn_certmake.specs.Claimed.{ClaimsLookAhead}
use Rattle.csn_certmake.proofs.Told.{known_at, nullable_known, ends_known, starts_known, starts_reached, follow_known}
use Rattle.csn_certmake.proofs.Keyed.{keys_known, keys_reached}

module _ (d : DescV) (c : List NodeV) (is : IsDescription d) (claims : ClaimsLookAhead d c) where
  not_firm : (i : ℕ) → IsNotFirm d (claims_of c) i → key.IsNotFirm d 12 i
  not_firm i h = elim h [
    | inl none ↦ inl (nullable_known d c claims i none)
    | inr empty ↦ inr (empty.0, octet empty.0 empty.1 empty.2, empty.1, keys_known d c is claims i empty.0 [] empty.1 empty.2)
  ]
    where
      octet : (o : ℕ) (mark : Bool) → IsTrue ((claims_of c).keys i o [] mark) → o < 8
      octet o mark holds = let at = known_at d c claims i o (keys_reached c i o [] mark holds) in omega (arith, at.low)

  conflicts : {i : ℕ} {n : Node} → slice_get d.nodes i ≡ Some n → HasConflict d (claims_of c) i n → (e : Conflict) × IsConflict d 12 e
  conflicts {i = i} at (two_empty j k less at_j at_k null_j null_k) = (TwoEmpty i j k, conflict.two_empty at less at_j at_k null_j null_k)
  conflicts {i = i} at (choice_not_firm {p = p} j at_j real h) = (NotFirm i j, conflict.choice_not_firm at at_j real (not_firm p h))
  conflicts {i = i} at (many_not_firm {p = p} h) = (NotFirm i 0, conflict.many_not_firm at refl (not_firm p h))
  conflicts {i = i} at (times_not_firm {p = p} h) = (NotFirm i 0, conflict.times_not_firm at refl (nullable_known d c claims p h))
  conflicts {i = i} at (overlap {p = p} {q = q} o j k reached less at_j at_k real_j real_k word_j word_k mark_j mark_k key_j key_k begun) = (
    Overlap i o j k word_j word_k,
    conflict.overlap mark_j mark_k at (known_at d c claims i o reached).reached less at_j at_k real_j real_k
        (keys_known d c is claims p o word_j mark_j key_j)
        (keys_known d c is claims q o word_k mark_k key_k)
        begun,
  )
  conflicts {i = i} at (empty_clash {q = q} o bit j k reached at_j null at_k differ starts follows) = (
    EmptyClash i o bit,
    conflict.empty_clash at (known_at d c claims i o reached).reached at_j null at_k differ
        (starts_known d c claims q o bit starts)
        (follow_known d c claims i o (Some bit) follows),
  )
  conflicts {i = i} at (loop_clash {p = p} from o bit reached turns starts follows) = (
    LoopClash i o bit,
    conflict.loop_clash at (known_at d c claims p o (starts_reached d c claims p o bit starts)).reached
        (starts_known d c claims p o bit starts)
        (follow_known d c claims i o (Some bit) follows),
  )
  conflicts {i = i} {n = n} at (not_last from o bit last reached ends follows) = (
    NotLast i o,
    conflict.not_last n from at last (known_at d c claims i from reached).reached (ends_known d c claims i from o ends)
        (follow_known d c claims i o (Some bit) follows),
  )

  pub no_conflict : (i : ℕ) (n : Node) → Certified d 12 → slice_get d.nodes i ≡ Some n → ¬ HasConflict d (claims_of c) i n
  no_conflict i n certified at h = let found = conflicts at h in certified found.0 found.1
