-- What is known of the last parts, with one more before them.
use Rattle.std.proofs.Common.{◌≡◌, ℕ, zero, suc, ◌+◌, ◌≤◌, ◌↔◌, false, List, [], ◌∷◌, length, sym, ◌∙◌, subst, arith, Some, slice_get}
use Rattle.std.specs.Prelude.{IsTrue, ◌&&◌}
use Rattle.csn_claims.specs.Claims.{Claims}
use Rattle.csn_claims.specs.Nullable.{AllNullable, all_end, all_next}
use Rattle.csn_claims.specs.Starts.{PartsStart, starts_here, starts_later}
use Rattle.csn_good.specs.declared.tail.Tail.{Tail}
use Rattle.csn_good.specs.Octets.{OctetsAre}
use Rattle.csn_good.specs.Tails.{tail_has, TailIs, StartsBehind, behind_own, behind_later}
use Rattle.csn_good.proofs.Denoting.{both_true, and_both}
use Rattle.csn_good.proofs.EndsTold.{AreSmall, Carried, drop_part, drop_over}

module _ (claims : Claims) where
  -- ---- nullable parts

  all_split : {i : ℕ} {rest : List ℕ} → AllNullable claims (i ∷ rest) → IsTrue (claims.nullable i) × AllNullable claims rest
  all_split (all_next h others) = (h, others)

  pub nullable_on : (parts : List ℕ) (at i : ℕ) → slice_get parts at ≡ Some i → IsTrue (claims.nullable i)
      → Carried (AllNullable claims) parts at → Carried (AllNullable claims) parts (at + 1)
  nullable_on parts at i is there inv =
      let same = drop_part parts at i is in
      record {
        to = λ h. (all_split (subst (AllNullable claims) same (inv.to h))).1;
        back = λ h. inv.back (subst (AllNullable claims) (sym same) (all_next there h));
      }

  pub nullable_not : (parts : List ℕ) (at i : ℕ) → slice_get parts at ≡ Some i → claims.nullable i ≡ false
      → Carried (AllNullable claims) parts at → AllNullable claims parts → ⊥
  nullable_not parts at i is wrong inv h =
      let there = (all_split (subst (AllNullable claims) (drop_part parts at i is) (inv.to h))).0 in cc

  pub nullable_done : (parts : List ℕ) (at : ℕ) → length parts ≤ at → Carried (AllNullable claims) parts at → AllNullable claims parts
  nullable_done parts at long inv = inv.back (subst (AllNullable claims) (sym (drop_over parts at long)) all_end)

  -- ---- tails

  none_starts : {o bit : ℕ} → PartsStart claims [] o bit → ⊥
  none_starts h = elim h [ ]

  pub tail_none : (tail : Tail) → IsTrue tail.nullable → OctetsAre tail.zero.has (λ o. ⊥) → OctetsAre tail.one.has (λ o. ⊥) → TailIs claims tail []
  tail_none tail nullable zeros ones =
      record {
        nullable = ((λ h. all_end), (λ h. nullable));
        starts = λ o bit low small. by_bit o bit low small;
      }
    where
      by_bit : (o bit : ℕ) → o ≤ 7 → bit ≤ 1 → IsTrue (tail_has tail o bit) ↔ PartsStart claims [] o bit
      by_bit o zero low small = ((λ h. absurd ((zeros o low).0 h)), (λ h. absurd (none_starts h)))
      by_bit o (suc bit) low small = ((λ h. absurd ((ones o low).0 h)), (λ h. absurd (none_starts h)))

  module _ (small : AreSmall claims) where
    starts_of : (tail : Tail) (parts : List ℕ) (i o bit : ℕ) → bit ≤ 1 → TailIs claims tail parts
        → StartsBehind claims tail i o bit → PartsStart claims (i ∷ parts) o bit
    starts_of tail parts i o bit one is (behind_own h) = starts_here h
    starts_of tail parts i o bit one is (behind_later nullable end low ends h) = starts_later end nullable ends ((is.starts end bit low one).0 h)

    behind_of : (tail : Tail) (parts : List ℕ) (i o bit : ℕ) → bit ≤ 1 → TailIs claims tail parts
        → PartsStart claims (i ∷ parts) o bit → StartsBehind claims tail i o bit
    behind_of tail parts i o bit one is (starts_here h) = behind_own h
    behind_of tail parts i o bit one is (starts_later end nullable ends h) =
        let low = small i o end ends in behind_later nullable end low ends ((is.starts end bit low one).1 h)

    pub tail_behind : (tail new : Tail) (parts : List ℕ) (i : ℕ) → new.nullable ≡ (tail.nullable && claims.nullable i)
        → OctetsAre new.zero.has (λ o. StartsBehind claims tail i o 0)
        → OctetsAre new.one.has (λ o. StartsBehind claims tail i o 1)
        → TailIs claims tail parts → TailIs claims new (i ∷ parts)
    tail_behind tail new parts i is zeros ones old =
        record {
          nullable = (
            (λ h. let both = both_true tail.nullable (claims.nullable i) (sym is ∙ h) in all_next both.1 (old.nullable.0 both.0)),
            (λ h. let both = all_split h in is ∙ and_both tail.nullable (claims.nullable i) (old.nullable.1 both.1) both.0),
          );
          starts = λ o bit low one. by_bit o bit low one;
        }
      where
        by_bit : (o bit : ℕ) → o ≤ 7 → bit ≤ 1 → IsTrue (tail_has new o bit) ↔ PartsStart claims (i ∷ parts) o bit
        by_bit o zero low one = ((λ h. starts_of tail parts i o 0 one old ((zeros o low).0 h)), (λ h. (zeros o low).1 (behind_of tail parts i o 0 one old h)))
        by_bit o (suc zero) low one = (
          (λ h. starts_of tail parts i o 1 one old ((ones o low).0 h)),
          (λ h. (ones o low).1 (behind_of tail parts i o 1 one old h)),
        )
        by_bit o (suc (suc bit)) low one = absurd (omega arith)
