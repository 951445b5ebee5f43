-- What the claims of all nodes tell, and the patterns that the equations of nodes make.
use Rattle.std.proofs.Common.{◌≡◌, ℕ, ◌<◌, ◌≤◌, List, [], length, refl, sym, subst, arith, slice_get, slice_index_or, Some, None}
use Rattle.std.specs.Prelude.{Option, IsTrue, is_some, ◌↔◌}
use Rattle.csn_desc.specs.Nodes.{DescV}
use Rattle.csn_cert.specs.PatternV.{PatternV}
use Rattle.csn_cert.specs.CertificateV.{NodeV, PositionV}
use Rattle.csn_cert.specs.Growing.{claimed_of, claimed}
use Rattle.csn_look.specs.Signs.{bit_of_sign}
use Rattle.csn_look.specs.Nullable.{Nullable}
use Rattle.csn_look.specs.Ends.{InEnds}
use Rattle.csn_look.specs.Starts.{InStart}
use Rattle.csn_look.specs.Reached.{Reached, InFollow}
use Rattle.csn_good.specs.ClaimedSets as claims
use Rattle.csn_certmake.specs.Patterns.{patterns_in}
use Rattle.csn_certmake.specs.Rows.{TellsClaim, TellsNode}
use Rattle.csn_certmake.specs.Claimed.{ClaimsNullable, ClaimsReached, ClaimsEnds, ClaimsStart, ClaimsFollow}

claim_reached : (d : DescV) (row : List (List PatternV)) (i o : ℕ) (claim : Option PositionV)
    → TellsClaim d row i o claim → IsTrue (is_some claim) ↔ Reached d i o
claim_reached d row i o None tells = (λ h. absurd (cc), λ h. absurd (tells h))
claim_reached d row i o (Some p) tells = (λ h. tells.0, λ h. refl)

claim_ends : (d : DescV) (row : List (List PatternV)) (i o p : ℕ) (claim : Option PositionV)
    → p ≤ 7 → Reached d i o → TellsClaim d row i o claim → IsTrue (claims.ends_at claim p) ↔ InEnds d i o p
claim_ends d row i o p None low reached tells = absurd (tells reached)
claim_ends d row i o p (Some at) low reached tells = tells.1.ends p (omega arith)

claim_start : (d : DescV) (row : List (List PatternV)) (i o bit : ℕ) (claim : Option PositionV)
    → bit ≤ 1 → Reached d i o → TellsClaim d row i o claim → IsTrue (claims.starts_with claim bit) ↔ InStart d i o bit
claim_start d row i o bit None low reached tells = absurd (tells reached)
claim_start d row i o bit (Some at) low reached tells = tells.1.start bit (omega arith)

claim_patterns : (d : DescV) (row : List (List PatternV)) (i o : ℕ) (claim : Option PositionV)
    → (¬ Reached d i o → patterns_in row o ≡ [])
    → TellsClaim d row i o claim → claims.patterns_of claim ≡ patterns_in row o
claim_patterns d row i o None none tells = sym (none tells)
claim_patterns d row i o (Some at) none tells = tells.1.patterns

module _ (d : DescV) (c : List NodeV) (rows : List (List (List PatternV))) where
  abbrev pub TellsAll : Type 0
  TellsAll = (i : ℕ) → i < length d.nodes → (n : NodeV) × (slice_get c i ≡ Some n) × TellsNode d (slice_index_or rows i []) i n

  tells_claim : TellsAll → (i o : ℕ) → i < length d.nodes → o ≤ 7 → TellsClaim d (slice_index_or rows i []) i o (claimed c i o)
  tells_claim all i o inside low =
      let found = all i inside in
      subst (λ (n : Option NodeV). TellsClaim d (slice_index_or rows i []) i o (claimed_of n o)) (sym found.1) (found.2.claims o low)

  pub nullable_told : TellsAll → ClaimsNullable d c
  nullable_told all i inside =
      (let found = all i inside in subst (λ (n : Option NodeV). IsTrue (claims.is_nullable n) ↔ Nullable d i)
      (sym found.1) found.2.nullable)

  pub reached_told : TellsAll → ClaimsReached d c
  reached_told all i o inside low = claim_reached d (slice_index_or rows i []) i o (claimed c i o) (tells_claim all i o inside low)

  pub ends_told : TellsAll → ClaimsEnds d c
  ends_told all i o p inside low small reached = claim_ends d (slice_index_or rows i []) i o p (claimed c i o) small reached (tells_claim all i o inside low)

  pub start_told : TellsAll → ClaimsStart d c
  start_told all i o bit inside low small reached = claim_start d (slice_index_or rows i []) i o bit (claimed c i o)
      small reached (tells_claim all i o inside low)

  pub follow_told : TellsAll → ClaimsFollow d c
  follow_told all i o sign inside low =
      let found = all i inside in
      subst (λ (n : Option NodeV). IsTrue (claims.followed_by n o (bit_of_sign sign)) ↔ InFollow d i o
      (bit_of_sign sign)) (sym found.1) (found.2.follow o sign low)

  pub patterns_told : TellsAll → (i o : ℕ)
      → i < length d.nodes → o ≤ 7 → (¬ Reached d i o → patterns_in (slice_index_or rows i []) o ≡ [])
      → claims.patterns_at c i o ≡ patterns_in (slice_index_or rows i []) o
  patterns_told all i o inside low none = claim_patterns d (slice_index_or rows i []) i o (claimed c i o) none (tells_claim all i o inside low)
