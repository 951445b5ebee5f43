-- The machine values of a handle of a stream, and what it owns by cases. Assumes `Logic`.
use Rattle.std.proofs.Common.{◌≡◌, ℕ, List, [], ◌∷◌, refl}
use Rattle.std.specs.Prelude.{Option, None, Some}
use seplogic.Ra.Ura.{Ura}
use mir.Val.{Val, vptr, vnull}
use mir.Raw.{raw as bare}
use base.Logic.{via, snd∗, never_e}
use base.Fml.{ftrue}
use types.Logic.{Logic, sem}
use types.Kit.{Item, Goal, Seq, Step, step, ‵, given, ◌$◌, learn, use1, drop as lets, fjoin, fpack, feq_i}
use denote.Memory.{lone}
use denote.RattleType.{Valss}
use denote.Builtin.{RawPtr}
use denote.RawPtr.{Ptr, block_ptr, null_ptr, Testable}
use denote.Steps.{nothing}
use denote.Struct.Struct.{within}
use denote.Struct.Owning.{shape}
use Rattle.std.specs.Box.Ownership.{box_owns}
use Rattle.std.specs.Ptr.{points_to}
use Rattle.std.proofs.GlobalToken.{dealloc_token-Testable}
use Rattle.std.specs.declared.alloc.Global.{Global}
use Rattle.std.specs.contracts.impls.GlobalAllocator.TheImpl.{ghosts}
use Rattle.csn_rule.specs.contracts.stream.Stream as kept
use Rattle.csn_rule.specs.Handles.{heap}
use Rattle.csn_rule.specs.Streams.{StreamV}
use Rattle.csn_rule.specs.StreamHandles.{stream_owns}
use Rattle.csn_rule.proofs.Handles.{word, learns}
use Rattle.csn_rule.specs.contracts.stream_handle.StreamHandle as handle

module _ {M : Type 1} {𝓤 : Ura M} {𝓛 : Logic 𝓤} {K : Type 0} {Γ : List (Item 𝓤)} {G : Goal 𝓤 𝓛.H} where
  pub empty_in : K → Step K 𝓛 (‵ ((handle.the_row).own_val (record { at = null_ptr; held = None }) (word vnull ∷ [])) ∷ Γ) G Γ G
  empty_in t = step (λ s. let v : Val = word vnull in
      nothing t $ nothing t $ feq_i t (List Val) (vnull ∷ []) (vnull ∷ []) refl $ fjoin t $ feq_i t (List Val) (v ∷ []) (v ∷ []) refl $ fjoin t $
      fpack t (Valss (RawPtr ∷ [])) (within (shape handle.the_type) (null_ptr, tt) (v ∷ [])) (vnull ∷ [], tt) $ fjoin t $ s)

  pub full_in : K → (b o : ℕ) (x : StreamV) → Step K 𝓛 (‵ ((handle.the_row).own_val (record { at = block_ptr b o; held = Some x }) (word (vptr b o) ∷ [])) ∷ Γ) G (‵ (box_owns (ghosts.dealloc_token heap) kept.the_row (block_ptr b o) x) ∷ Γ) G
  full_in t b o x = step (λ s. let v : Val = word (vptr b o) in
      nothing t $ feq_i t (List Val) (vptr b o ∷ []) (vptr b o ∷ []) refl $ fjoin t $ feq_i t (List Val) (v ∷ []) (v ∷ []) refl $ fjoin t $
      fpack t (Valss (RawPtr ∷ [])) (within (shape handle.the_type) (block_ptr b o, tt) (v ∷ [])) (vptr b o ∷ [], tt) $ fjoin t $ s)

  pub either_held : K → Global → (p : Ptr) (held : Option StreamV) → (p ≡ null_ptr → held ≡ None → Seq K 𝓛 Γ G)
      → ((b o : ℕ) (x : StreamV) → p ≡ block_ptr b o → held ≡ Some x → Testable (block_ptr b o) → Seq K 𝓛 (‵ (box_owns (ghosts.dealloc_token heap) kept.the_row (block_ptr b o) x) ∷ Γ) G)
      → Seq K 𝓛 (‵ (stream_owns p held) ∷ Γ) G
  either_held t a null_ptr None none one = lets t $ none refl refl
  either_held t a null_ptr (Some x) none one = use1 𝓛 (given ⊥ (‵ ftrue)) (never_e 𝓤 _) $ learn t (λ z. absurd z)
  either_held t a (block_ptr b o) None none one = use1 𝓛 (given ⊥ (‵ ftrue)) (never_e 𝓤 _) $ learn t (λ z. absurd z)
  either_held t a (block_ptr b o) (Some x) none one =
      let Token = sem 𝓛 (ghosts.dealloc_token heap (bare (lone (kept.the_row).mir)) (block_ptr b o)) in
      learns t 1 (Testable (block_ptr b o)) (via 𝓤 Token (snd∗ 𝓤 (sem 𝓛 (points_to kept.the_row (block_ptr b o) x)) Token) (dealloc_token-Testable 𝓛 a (bare (lone (kept.the_row).mir)) (block_ptr b o))) (λ s. one b o x refl refl s)
