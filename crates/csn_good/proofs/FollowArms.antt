-- What is to stand behind the parts of a node, kind by kind.
use Rattle.std.proofs.Common.{◌≡◌, ℕ, zero, suc, ◌+◌, ◌-◌, ◌<◌, ◌≤◌, ◌⊎◌, ◌↔◌, inl, inr, Bool, true, false, List, []}
use Rattle.std.proofs.Common.{◌∷◌, ◌++◌, length, take, drop, take-append-drop, refl, sym, ◌∙◌, ap, subst, arith}
use Rattle.std.proofs.Common.{Option, Some, None, slice_get}
use Rattle.std.specs.Prelude.{IsTrue, nat_le, is_some}
use Rattle.std.specs.Prelude.{eqb, ◌≢◌}
use Rattle.std.proofs.lemmas.Bool.Decides.{nat_tests, eqb_tells}
use Rattle.std.proofs.lemmas.Option.{slice_get_within}
use Rattle.csn_desc.specs.declared.node.Count.{Count}
use Rattle.csn_desc.specs.declared.node.Node.{Node}
use Rattle.csn_desc.specs.declared.node.Node.TheVariants.{Choice, Times, Many, Window, Named}
use Rattle.csn_desc.specs.Nodes.{parts_of}
use Rattle.csn_look.proofs.Sets.Telling.{last_none, last_more}
use Rattle.csn_cert.specs.CertificateV.{NodeV, PositionV}
use Rattle.csn_cert.specs.Growing.{claimed}
use Rattle.csn_claims.specs.Claims.{Claims}
use Rattle.csn_claims.specs.Starts.{PartsStart, starts_here, starts_later}
use Rattle.csn_claims.specs.Reached.{PartFollow, follow_later, follow_seq, follow_kept, follow_trunc}
use Rattle.csn_claims.specs.Reached.{follow_times_again, follow_times, follow_many_again, follow_many, follow_choice}
use Rattle.csn_claims.specs.Reached.{follow_named, follow_window}
use Rattle.csn_good.specs.declared.tail.Tail.{Tail}
use Rattle.csn_good.specs.declared.following.Around.{Around}
use Rattle.csn_good.specs.declared.following.Around.TheVariants.{Later, Again, Alone, Closed}
use Rattle.csn_good.specs.ClaimedSets.{ends_at, followed_by, claims_of}
use Rattle.csn_good.specs.Signs.{sign_of}
use Rattle.csn_good.specs.Tails.{TailIs}
use Rattle.csn_good.specs.Wanted.{TailStarts, PartStarts, Wants, MayEnd, HasWanted, PartsHave, ordered}
use Rattle.csn_good.proofs.Denoting.{both_true}
use Rattle.csn_good.proofs.EndsTold.{AreSmall, drop_part}
use Rattle.csn_good.proofs.ReachArms.{part_at, one_part, no_part}

reached_at : (p : Option PositionV) (end : ℕ) → IsTrue (ends_at p end) → IsTrue (is_some p)
reached_at None end holds = absurd (cc)
reached_at (Some p) end holds = refl

-- a node that is claimed to end is claimed to begin
pub ends_reach : (c : List NodeV) (i o p : ℕ) → IsTrue ((claims_of c).ends i o p) → IsTrue ((claims_of c).reached i o)
ends_reach c i o p holds = reached_at (claimed c i o) p holds

-- a sign that is claimed to follow is one of three
pub record Counted (sign : Option ℕ) : Type 0 where
  pub place : ℕ
  pub low : place ≤ 2
  pub is : sign_of place ≡ sign

abbrev pub bit_counted : (bit : ℕ) → bit ≤ 1 → Counted (Some bit)
bit_counted zero low = record { place = 0; low = omega arith; is = refl }
bit_counted (suc zero) low = record { place = 1; low = omega arith; is = refl }
bit_counted (suc (suc bit)) low = absurd (omega arith)

abbrev pub AreCounted : Claims → Type 0
AreCounted claims = (i o : ℕ) (sign : Option ℕ) → IsTrue (claims.follow i o sign) → Counted sign

follow_counted : (n : Option NodeV) (o : ℕ) (sign : Option ℕ) → IsTrue (followed_by n o sign) → Counted sign
follow_counted None o sign holds = absurd (cc)
follow_counted (Some n) o None holds = record { place = 2; low = omega arith; is = refl }
follow_counted (Some n) o (Some bit) holds =
    let test = (both_true (nat_le bit 1) _ holds).0 in
    let low : bit ≤ 1 = grind (arith, nat_tests) in
    bit_counted bit low

pub are_counted : (c : List NodeV) → AreCounted (claims_of c)
are_counted c i o sign holds = follow_counted (slice_get c i) o sign holds

-- each part from the place on has what stands behind it, and the tail is that of these parts
pub record OrderHas (claims : Claims) (k : ℕ) (n : Node) (parts : List ℕ) (at : ℕ) (tail : Tail) : Type 0 where
  pub tail_is : TailIs claims tail (drop at parts)
  pub have :
      (place i o : ℕ) (sign : Option ℕ) → at ≤ place → slice_get parts place ≡ Some i → MayEnd claims i o
      → PartFollow claims n k (drop (place + 1) parts) i o sign
      → IsTrue (claims.follow i o sign)

cut_at : (parts : List ℕ) (place i : ℕ) → slice_get parts place ≡ Some i → parts ≡ take place parts ++ i ∷ drop (place + 1) parts
cut_at parts place i at = sym (take-append-drop place parts) ∙ ap (λ l. take place parts ++ l) (drop_part parts place i at)

drop_behind : (before : List ℕ) (i : ℕ) (after : List ℕ) → drop (length before + 1) (before ++ i ∷ after) ≡ after
drop_behind [] i after = refl
drop_behind (x ∷ before) i after =
    let n : length (x ∷ before) + 1 ≡ suc (length before + 1) = omega arith in
    ap (λ m. drop m (x ∷ (before ++ i ∷ after))) n ∙ drop_behind before i after

module _ (claims : Claims) (small : AreSmall claims) (one : (i o bit : ℕ) → IsTrue (claims.starts i o bit) → bit ≤ 1)
    (counted : AreCounted claims) (begins : (i o : ℕ) → IsTrue (claims.reached i o) → o ≤ 7) (reaches : (i o p : ℕ)
    → IsTrue (claims.ends i o p) → IsTrue (claims.reached i o)) (k : ℕ) where
  -- what stands behind one part, by its node
  abbrev pub PartHas : Node → ℕ → List ℕ → Type 0
  PartHas n i after =
      (o : ℕ) (sign : Option ℕ) → MayEnd claims i o → PartFollow claims n k after i o sign → IsTrue (claims.follow i o sign)

  parts_one : {parts : List ℕ} {o bit : ℕ} → PartsStart claims parts o bit → bit ≤ 1
  parts_one {o = o} {bit = bit} (starts_here {i = i} h) = one i o bit h
  parts_one (starts_later m nullable e h) = parts_one h

  end_low : {i o : ℕ} → MayEnd claims i o → o ≤ 7
  end_low {i} {o} h = small i h.0 o h.2

  -- as counted
  as_counted : {i o : ℕ} (around : Around) (sign : Option ℕ) → HasWanted claims k i around → MayEnd claims i o
      → (s : Counted sign) → Wants claims k i around o s.place → IsTrue (claims.follow i o sign)
  as_counted {i} {o} around sign has may s wants =
      subst (λ q. IsTrue (claims.follow i o q)) s.is (has o s.place (end_low may) s.low may wants)

  -- behind the node
  behind : {o : ℕ} {sign : Option ℕ} (s : Counted sign) → IsTrue (claims.follow k o sign) → IsTrue (claims.follow k o (sign_of s.place))
  behind {o} s h = subst (λ q. IsTrue (claims.follow k o q)) (sym s.is) h

  tail_wants : (tail : Tail) (after : List ℕ) (o bit : ℕ) → o ≤ 7 → (low : bit ≤ 1)
      → TailIs claims tail after → PartsStart claims after o bit → TailStarts tail o (bit_counted bit low).place
  tail_wants tail after o zero short low is h = (is.starts o 0 short low).1 h
  tail_wants tail after o (suc zero) short low is h = (is.starts o 1 short low).1 h
  tail_wants tail after o (suc (suc bit)) short low is h = absurd (omega arith)

  part_wants : (i o bit : ℕ) → (low : bit ≤ 1) → IsTrue (claims.starts i o bit) → PartStarts claims i o (bit_counted bit low).place
  part_wants i o zero low h = h
  part_wants i o (suc zero) low h = h
  part_wants i o (suc (suc bit)) low h = absurd (omega arith)

  pub later_has : (early : Bool) (parts : List ℕ) (i : ℕ) (tail : Tail) (after : List ℕ)
      → TailIs claims tail after → HasWanted claims k i (Later tail early) → PartHas (ordered early parts) i after
  later_has false parts i tail after is has o sign may (follow_later h) =
      let low = parts_one h in as_counted (Later tail false) sign has may (bit_counted _ low) (inl (tail_wants tail after o _ (end_low may) low is h))
  later_has false parts i tail after is has o sign may (follow_seq nullable h) =
      let s = counted k o sign h in as_counted (Later tail false) sign has may s (inr (inl (is.nullable.1 nullable), behind s h))
  later_has true parts i tail after is has o sign may (follow_kept h) =
      let low = parts_one h in as_counted (Later tail true) sign has may (bit_counted _ low) (inl (tail_wants tail after o _ (end_low may) low is h))
  later_has true parts i tail after is has o sign may (follow_trunc h) =
      let s = counted k o sign h in as_counted (Later tail true) sign has may s (inr (inr refl, behind s h))

  tail_follow : (early : Bool) (parts : List ℕ) (i : ℕ) (tail : Tail) (after : List ℕ) (o s : ℕ)
      → o ≤ 7 → TailIs claims tail after → TailStarts tail o s → PartFollow claims (ordered early parts) k after i o
      (sign_of s)
  tail_follow false parts i tail after o zero short is h = follow_later ((is.starts o 0 short (omega arith)).0 h)
  tail_follow false parts i tail after o (suc zero) short is h = follow_later ((is.starts o 1 short (omega arith)).0 h)
  tail_follow true parts i tail after o zero short is h = follow_kept ((is.starts o 0 short (omega arith)).0 h)
  tail_follow true parts i tail after o (suc zero) short is h = follow_kept ((is.starts o 1 short (omega arith)).0 h)
  tail_follow early parts i tail after o (suc (suc s)) short is h = absurd h

  behind_follow : (early : Bool) (parts : List ℕ) (i : ℕ) (tail : Tail) (after : List ℕ) (o s : ℕ)
      → TailIs claims tail after → IsTrue tail.nullable ⊎ IsTrue early → IsTrue (claims.follow k o (sign_of s))
      → PartFollow claims (ordered early parts) k after i o (sign_of s)
  behind_follow false parts i tail after o s is (inl nullable) h = follow_seq (is.nullable.0 nullable) h
  behind_follow false parts i tail after o s is (inr early) h = absurd (cc)
  behind_follow true parts i tail after o s is either h = follow_trunc h

  pub later_wanted : (early : Bool) (parts : List ℕ) (i : ℕ) (tail : Tail) (after : List ℕ)
      → TailIs claims tail after → PartHas (ordered early parts) i after → HasWanted claims k i (Later tail early)
  later_wanted early parts i tail after is has o s short low may (inl starts) =
      has o (sign_of s) may (tail_follow early parts i tail after o s short is starts)
  later_wanted early parts i tail after is has o s short low may (inr both) =
      has o (sign_of s) may (behind_follow early parts i tail after o s is both.0 both.1)

  -- ---- parts one after another

  one_of : (n : Node) (parts : List ℕ) (place i : ℕ) → parts_of n ≡ parts → slice_get parts place ≡ Some i
      → PartsHave claims k n → PartHas n i (drop (place + 1) parts)
  one_of n parts place i are at have o sign may follow =
      have i may.0 o sign (take place parts) (drop (place + 1) parts) (are ∙ cut_at parts place i at) (reaches i may.0 o may.2) may.2 follow

  ordered_parts : (early : Bool) (parts : List ℕ) → parts_of (ordered early parts) ≡ parts
  ordered_parts false parts = refl
  ordered_parts true parts = refl

  pub order_begin : (early : Bool) (parts : List ℕ) (at : ℕ) (tail : Tail) → at ≡ length parts → TailIs claims tail []
      → OrderHas claims k (ordered early parts) parts at tail
  order_begin early parts at tail end none =
      record {
        tail_is = subst (λ l. TailIs claims tail l) (sym (last_none parts at end)) none;
        have = λ place i o sign later is may follow. absurd (let inside = slice_get_within parts place i is in omega arith);
      }

  pub order_on : (early : Bool) (parts : List ℕ) (at i : ℕ) (tail new : Tail)
      → 0 < at → slice_get parts (at - 1) ≡ Some i → HasWanted claims k i (Later tail early)
      → TailIs claims new (i ∷ drop at parts) → OrderHas claims k (ordered early parts) parts at tail
      → OrderHas claims k (ordered early parts) parts (at - 1) new
  order_on early parts at i tail new some is has new_is inv =
      record {
        tail_is = subst (λ l. TailIs claims new l) (sym (last_more parts at i some is)) new_is;
        have = λ place j o sign later at_j may follow. by_place place j o sign later at_j may follow (eqb_tells place (at - 1));
      }
    where
      by_place : (place j o : ℕ) (sign : Option ℕ) → at - 1 ≤ place → slice_get parts place ≡ Some j
          → MayEnd claims j o → PartFollow claims (ordered early parts) k (drop (place + 1) parts) j o sign
          → ((eqb place (at - 1) ≡ true) × (place ≡ at - 1)) ⊎ ((eqb place (at - 1) ≡ false) × (place ≢ at - 1))
          → IsTrue (claims.follow j o sign)
      by_place place j o sign later at_j may follow (inl same) =
          let here = same.1 in
          let next : place + 1 ≡ at = omega arith in
          let part : j ≡ i = (let two = ap (λ p. slice_get parts p) here in cc) in
          let move = subst (λ m. PartFollow claims (ordered early parts) k (drop m parts) j o sign) next follow in
          subst (λ q. IsTrue (claims.follow q o sign)) (sym part) (later_has early parts i tail (drop at parts)
          inv.tail_is has o sign (subst (λ q. MayEnd claims q o) part may)
          (subst (λ q. PartFollow claims (ordered early parts) k (drop at parts) q o sign) part move))
      by_place place j o sign later at_j may follow (inr apart) =
          let differ = apart.1 in inv.have place j o sign (omega arith) at_j may follow

  pub order_not : (early : Bool) (parts : List ℕ) (at i : ℕ) (tail : Tail)
      → 0 < at → slice_get parts (at - 1) ≡ Some i → OrderHas claims k (ordered early parts) parts at tail
      → PartsHave claims k (ordered early parts) → HasWanted claims k i (Later tail early)
  order_not early parts at i tail some is inv have =
      let next : at - 1 + 1 ≡ at = omega arith in
      let has = one_of (ordered early parts) parts (at - 1) i (ordered_parts early parts) is have in
      later_wanted early parts i tail (drop at parts) inv.tail_is (subst (λ m. PartHas (ordered early parts) i (drop m parts)) next has)

  pub order_done : (early : Bool) (parts : List ℕ) (at : ℕ) (tail : Tail)
      → at ≤ 0 → OrderHas claims k (ordered early parts) parts at tail → PartsHave claims k (ordered early parts)
  order_done early parts at tail none inv i from o sign before after is reached ends follow =
      let own = sym (ordered_parts early parts) ∙ is in
      let after_is = ap (λ l. drop (length before + 1) l) own ∙ drop_behind before i after in
      inv.have (length before) i o sign (omega arith) (part_at before i after own) (from, begins i from reached, ends)
      (subst (λ l. PartFollow claims (ordered early parts) k l i o sign) (sym after_is) follow)

  -- ---- other nodes

  follow_of_choice : {parts after : List ℕ} {i o : ℕ} {sign : Option ℕ} → PartFollow claims (Choice parts) k after i o sign → IsTrue (claims.follow k o sign)
  follow_of_choice (follow_choice h) = h

  follow_of_named : {label after : List ℕ} {part i o : ℕ} {sign : Option ℕ}
      → PartFollow claims (Named label part) k after i o sign → IsTrue (claims.follow k o sign)
  follow_of_named (follow_named h) = h

  follow_of_window : {unit : ℕ} {count : Count} {after : List ℕ} {part i o : ℕ} {sign : Option ℕ}
      → PartFollow claims (Window unit count part) k after i o sign → sign ≡ None
  follow_of_window (follow_window h) = h

  alone_has : {i o : ℕ} (sign : Option ℕ) → HasWanted claims k i Alone → MayEnd claims i o → IsTrue (claims.follow k o sign) → IsTrue (claims.follow i o sign)
  alone_has {i} {o} sign has may h = let s = counted k o sign h in as_counted Alone sign has may s (behind s h)

  may_of : (i from o : ℕ) → IsTrue (claims.reached i from) → IsTrue (claims.ends i from o) → MayEnd claims i o
  may_of i from o reached ends = (from, begins i from reached, ends)

  pub choice_have : (parts : List ℕ) → PartsHave claims k (Choice parts) ↔ ((place i : ℕ) → slice_get parts place ≡ Some i → HasWanted claims k i Alone)
  choice_have parts = (
    (λ h place i at o s short low may wants. one_of (Choice parts) parts place i refl at h o (sign_of s) may (follow_choice wants)),
    (λ h i from o sign before after is reached ends follow. alone_has sign
        (h (length before) i (part_at before i after is)) (may_of i from o reached ends) (follow_of_choice follow)),
  )

  single : (n : Node) (part : ℕ) → parts_of n ≡ part ∷ [] → PartsHave claims k n → PartHas n part []
  single n part are have o sign may follow = have part may.0 o sign [] [] are (reaches part may.0 o may.2) may.2 follow

  only : (n : Node) (part : ℕ) → parts_of n ≡ part ∷ [] → ((after : List ℕ) → PartHas n part after) → PartsHave claims k n
  only n part are has i from o sign before after is reached ends follow =
      let same = one_part before after (sym are ∙ is) in
      subst (λ q. IsTrue (claims.follow q o sign)) (sym same)
      (has after o sign (subst (λ q. MayEnd claims q o) same (may_of i from o reached ends)) (subst (λ q. PartFollow claims n k after q o sign) same follow))

  pub named_have : (label : List ℕ) (part : ℕ) → PartsHave claims k (Named label part) ↔ HasWanted claims k part Alone
  named_have label part = (
    (λ h o s short low may wants. single (Named label part) part refl h o (sign_of s) may (follow_named wants)),
    (λ h. only (Named label part) part refl (λ after o sign may follow. alone_has sign h may (follow_of_named follow))),
  )

  end_wanted : (part o s : ℕ) → s ≡ 2 → IsTrue (claims.follow part o None) → IsTrue (claims.follow part o (sign_of s))
  end_wanted part o s is h = subst (λ q. IsTrue (claims.follow part o (sign_of q))) (sym is) h

  pub window_have : (unit : ℕ) (count : Count) (part : ℕ) → PartsHave claims k (Window unit count part) ↔ HasWanted claims k part Closed
  window_have unit count part = (
    (λ h o s short low may wants. end_wanted part o s wants (single (Window unit count part) part refl h o None may (follow_window refl))),
    (λ h. only (Window unit count part) part refl
        (λ after o sign may follow. subst (λ q. IsTrue (claims.follow part o q)) (sym (follow_of_window follow))
        (h o 2 (end_low may) (omega arith) may refl))),
  )

  times_split : {count : Count} {part i o : ℕ} {after : List ℕ} {sign : Option ℕ}
      → HasWanted claims k i Again → MayEnd claims i o → PartFollow claims (Times count part) k after i o sign
      → IsTrue (claims.follow i o sign)
  times_split {i = i} {o = o} has may (follow_times_again {bit = bit} h) = let low = one i o bit h in
      as_counted Again (Some bit) has may (bit_counted bit low) (inl (part_wants i o bit low h))
  times_split {o = o} {sign = sign} has may (follow_times h) = let s = counted k o sign h in as_counted Again sign has may s (inr (behind s h))

  many_split : {part i o : ℕ} {after : List ℕ} {sign : Option ℕ} → HasWanted claims k i Again → MayEnd claims i o
      → PartFollow claims (Many part) k after i o sign → IsTrue (claims.follow i o sign)
  many_split {i = i} {o = o} has may (follow_many_again {bit = bit} h) = let low = one i o bit h in
      as_counted Again (Some bit) has may (bit_counted bit low) (inl (part_wants i o bit low h))
  many_split {o = o} {sign = sign} has may (follow_many h) = let s = counted k o sign h in as_counted Again sign has may s (inr (behind s h))

  times_wanted : (count : Count) (part o s : ℕ) → Wants claims k part Again o s → PartFollow claims (Times count part) k [] part o (sign_of s)
  times_wanted count part o s (inr h) = follow_times h
  times_wanted count part o zero (inl h) = follow_times_again h
  times_wanted count part o (suc zero) (inl h) = follow_times_again h
  times_wanted count part o (suc (suc s)) (inl h) = absurd h

  many_wanted : (part o s : ℕ) → Wants claims k part Again o s → PartFollow claims (Many part) k [] part o (sign_of s)
  many_wanted part o s (inr h) = follow_many h
  many_wanted part o zero (inl h) = follow_many_again h
  many_wanted part o (suc zero) (inl h) = follow_many_again h
  many_wanted part o (suc (suc s)) (inl h) = absurd h

  pub times_have : (count : Count) (part : ℕ) → PartsHave claims k (Times count part) ↔ HasWanted claims k part Again
  times_have count part = (
    (λ h o s short low may wants. single (Times count part) part refl h o (sign_of s) may (times_wanted count part o s wants)),
    (λ h. only (Times count part) part refl (λ after o sign may follow. times_split h may follow)),
  )

  pub many_have : (part : ℕ) → PartsHave claims k (Many part) ↔ HasWanted claims k part Again
  many_have part = (
    (λ h o s short low may wants. single (Many part) part refl h o (sign_of s) may (many_wanted part o s wants)),
    (λ h. only (Many part) part refl (λ after o sign may follow. many_split h may follow)),
  )

  pub none_have : (n : Node) → parts_of n ≡ [] → PartsHave claims k n
  none_have n none i from o sign before after is reached ends follow = absurd (no_part i before after (sym none ∙ is))
