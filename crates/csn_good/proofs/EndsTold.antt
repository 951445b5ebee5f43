-- Where parts may end, one after another, as sets of octet positions tell it.
use Rattle.std.proofs.Common.{◌≡◌, ℕ, zero, suc, ◌+◌, ◌<◌, ◌≤◌, ◌⊎◌, inl, inr, Bool, true, false, List, [], ◌∷◌}
use Rattle.std.proofs.Common.{length, drop, refl, sym, ◌∙◌, ap, subst, arith, Option, Some, None, slice_get}
use Rattle.std.specs.Prelude.{◌↔◌, IsTrue, slice_set}
use Rattle.std.proofs.lemmas.Bool.Decides.{eqb_tells}
use Rattle.std.proofs.lemmas.Option.{slice_get_within}
use Rattle.csn_cert.specs.CertificateV.{NodeV, PositionV}
use Rattle.csn_cert.specs.Growing.{claimed}
use Rattle.csn_claims.specs.Claims.{Claims}
use Rattle.csn_claims.specs.Ends.{PartsEnd, TimesEnd, ManyEnd, LeadEnd, parts_end, parts_next, times_end, times_next, many_end, many_next, lead_end, lead_next}
use Rattle.csn_claims.proofs.Reaching.{many_end_more}
use Rattle.csn_good.specs.ClaimedSets.{ends_at, claims_of}
use Rattle.csn_good.specs.Octets.{has_octet, OctetsAre, OfSome, EndsFewer, SomeEnds}
use Rattle.csn_good.proofs.Digits.{digit_within}

-- ---- lists

pub drop_part : {A : Type 0} (xs : List A) (k : ℕ) (x : A) → slice_get xs k ≡ Some x → drop k xs ≡ x ∷ drop (k + 1) xs
drop_part [] k x at = absurd (cc)
drop_part (y ∷ xs) zero x at = let same : y ≡ x = cc in ap (λ z. z ∷ xs) same
drop_part {A} (y ∷ xs) (suc k) x at =
    let later = drop_part xs k x at in
    let n : k + 1 ≡ suc k = omega arith in
    let m : suc k + 1 ≡ suc (suc k) = omega arith in
    later ∙ ap (λ l. x ∷ drop l xs) n ∙ ap (λ l. x ∷ drop l (y ∷ xs)) (sym m)

pub drop_over : {A : Type 0} (xs : List A) (k : ℕ) → length xs ≤ k → drop k xs ≡ []
drop_over [] zero long = refl
drop_over [] (suc k) long = refl
drop_over (x ∷ xs) zero long = absurd (omega arith)
drop_over (x ∷ xs) (suc k) long = drop_over xs k (omega arith)

-- how many octet positions are not in the set
abbrev pub unset : List Bool → ℕ
unset [] = 0
unset (true ∷ has) = unset has
unset (false ∷ has) = suc (unset has)

pub unset-set : (has : List Bool) (k : ℕ) → has_octet has k ≡ false → IsTrue (has_octet (slice_set has k true) k) → unset (slice_set has k true) < unset has
unset-set [] k is there = absurd (cc)
unset-set (true ∷ has) zero is there = absurd (cc)
unset-set (false ∷ has) zero is there = omega arith
unset-set (true ∷ has) (suc k) is there = unset-set has k is there
unset-set (false ∷ has) (suc k) is there = let later = unset-set has k is there in omega arith

-- ---- claims of a certificate

ends_small_at : (p : Option PositionV) (end : ℕ) → IsTrue (ends_at p end) → end ≤ 7
ends_small_at None end holds = absurd (cc)
ends_small_at (Some p) end holds = let less = digit_within 8 p.ends end holds in omega arith

pub ends_small : (c : List NodeV) (i o end : ℕ) → IsTrue ((claims_of c).ends i o end) → end ≤ 7
ends_small c i o end holds = ends_small_at (claimed c i o) end holds

abbrev pub AreSmall : Claims → Type 0
AreSmall claims = (i o end : ℕ) → IsTrue (claims.ends i o end) → end ≤ 7

-- octet positions that are collected one by one
pub collected : (s t : List Bool) (P : ℕ → Type 0) (k : ℕ) → OctetsAre s (λ o. P o × (o < k))
    → OctetsAre t (λ o. IsTrue (has_octet s o) ⊎ (o ≡ k)) → P k → OctetsAre t (λ o. P o × (o < k + 1))
collected s t P k are more here o low = (
  (λ h. elim ((more o low).0 h) [
    | inl old ↦ let f = (are o low).0 old in let less = f.1 in (f.0, omega arith)
    | inr same ↦ (subst P (sym same) here, omega arith)
  ]),
  (λ (h, less). (more o low).1 (elim (eqb_tells o k) [ inl same ↦ inr same.1 | inr apart ↦ let differ = apart.1 in inl ((are o low).1 (h, omega arith)) ])),
)

pub passed : (s : List Bool) (P : ℕ → Type 0) (k : ℕ) → OctetsAre s (λ o. P o × (o < k)) → (P k → ⊥) → OctetsAre s (λ o. P o × (o < k + 1))
passed s P k are not_here o low = (
  (λ h. let f = (are o low).0 h in let less = f.1 in (f.0, omega arith)),
  (λ (h, less). elim (eqb_tells o k) [ inl same ↦ absurd (not_here (subst P same.1 h)) | inr apart ↦ let differ = apart.1 in (are o low).1 (h, omega arith) ]),
)

pub none_yet : (s : List Bool) (P : ℕ → Type 0) → OctetsAre s (λ o. ⊥) → OctetsAre s (λ o. P o × (o < 0))
none_yet s P are o low = ((λ h. absurd ((are o low).0 h)), (λ h. let less = h.1 in absurd (omega (arith, less))))

pub all_collected : (s : List Bool) (P : ℕ → Type 0) (k : ℕ) → 8 ≤ k → OctetsAre s (λ o. P o × (o < k)) → OctetsAre s P
all_collected s P k long are o low = ((λ h. ((are o low).0 h).0), (λ h. (are o low).1 (h, omega arith)))

module _ (claims : Claims) where
  -- the octet positions to which node i leads from these
  abbrev pub LeadsOn : ℕ → List Bool → List Bool → Type 0
  LeadsOn i here next = OctetsAre next (λ e. OfSome here (λ o. IsTrue (claims.ends i o e)))

  -- where the parts lead from some of the one, those from the place on lead from some of the other
  pub record InParts (parts : List ℕ) (at : ℕ) (from here : List Bool) : Type 0 where
    pub to : (p : ℕ) → OfSome from (λ o. PartsEnd claims parts o p) → OfSome here (λ o. PartsEnd claims (drop at parts) o p)
    pub back : (p : ℕ) → OfSome here (λ o. PartsEnd claims (drop at parts) o p) → OfSome from (λ o. PartsEnd claims parts o p)

  pub record Leading (parts : List ℕ) (at : ℕ) (from here ends : List Bool) : Type 0 where
    pub to : (p : ℕ) → p ≤ 7 → OfSome from (λ o. LeadEnd claims parts o p) → IsTrue (has_octet ends p) ⊎ OfSome here (λ o. LeadEnd claims (drop at parts) o p)
    pub back_ends : (p : ℕ) → p ≤ 7 → IsTrue (has_octet ends p) → OfSome from (λ o. LeadEnd claims parts o p)
    pub back_here : (p : ℕ) → OfSome here (λ o. LeadEnd claims (drop at parts) o p) → OfSome from (λ o. LeadEnd claims parts o p)
    pub within : (p : ℕ) → p ≤ 7 → IsTrue (has_octet here p) → IsTrue (has_octet ends p)

  pub record Going (i n left : ℕ) (from here : List Bool) : Type 0 where
    pub to : (p : ℕ) → OfSome from (λ o. TimesEnd claims n i o p) → OfSome here (λ o. TimesEnd claims left i o p)
    pub back : (p : ℕ) → OfSome here (λ o. TimesEnd claims left i o p) → OfSome from (λ o. TimesEnd claims n i o p)

  pub record GoingFewer (i n left : ℕ) (from here ends : List Bool) : Type 0 where
    pub to : (p : ℕ) → p ≤ 7 → OfSome from (λ o. EndsFewer claims n i o p) → IsTrue (has_octet ends p) ⊎ OfSome here (λ o. EndsFewer claims left i o p)
    pub back_ends : (p : ℕ) → p ≤ 7 → IsTrue (has_octet ends p) → OfSome from (λ o. EndsFewer claims n i o p)
    pub back_here : (p : ℕ) → OfSome here (λ o. EndsFewer claims left i o p) → OfSome from (λ o. EndsFewer claims n i o p)

  pub record Growing (i : ℕ) (from ends : List Bool) : Type 0 where
    pub within : (p : ℕ) → p ≤ 7 → IsTrue (has_octet from p) → IsTrue (has_octet ends p)
    pub sound : (p : ℕ) → p ≤ 7 → IsTrue (has_octet ends p) → OfSome from (λ o. ManyEnd claims i o p)

  -- ---- one step

  parts_split : {i o p : ℕ} {rest : List ℕ} → PartsEnd claims (i ∷ rest) o p → (m : ℕ) × IsTrue (claims.ends i o m) × PartsEnd claims rest m p
  parts_split (parts_next m e others) = (m, e, others)

  lead_split : {i o p : ℕ} {rest : List ℕ} → LeadEnd claims (i ∷ rest) o p → (p ≡ o) ⊎ ((m : ℕ) × IsTrue (claims.ends i o m) × LeadEnd claims rest m p)
  lead_split (lead_end same) = inl same
  lead_split (lead_next m e others) = inr (m, e, others)

  times_split : {i o p n : ℕ} (left : ℕ) → n ≡ suc left → TimesEnd claims n i o p → (m : ℕ) × IsTrue (claims.ends i o m) × TimesEnd claims left i m p
  times_split left is (times_end none same) = absurd (omega arith)
  times_split {i} {o} {p} left is (times_next k m over e others) =
      let same : k ≡ left = omega arith in
      let P : ℕ → Type 0 = λ n. TimesEnd claims n i m p in
      (m, e, subst P same others)

  times_over : {i o p n : ℕ} → n ≡ 0 → TimesEnd claims n i o p → p ≡ o
  times_over is (times_end none same) = same
  times_over is (times_next k m over e others) = absurd (omega arith)

  parts_over : {o p : ℕ} → PartsEnd claims [] o p → p ≡ o
  parts_over (parts_end same) = same

  lead_over : {o p : ℕ} → LeadEnd claims [] o p → p ≡ o
  lead_over (lead_end same) = same

  module _ (small : AreSmall claims) where
    step_to : {i e o : ℕ} {here next : List Bool} {P : ℕ → Type 0}
        → LeadsOn i here next → o ≤ 7 → IsTrue (has_octet here o) → IsTrue (claims.ends i o e) → P e → OfSome next P
    step_to {i} {e} {o} leads low there ends fact =
        let short = small i o e ends in
        record { octet = e; small = short; there = (leads e short).1 (record { octet = o; small = low; there = there; fact = ends }); fact = fact }

    at_part : (parts : List ℕ) (i at : ℕ) (P : List ℕ → Type 0) → slice_get parts at ≡ Some i → P (drop at parts) → P (i ∷ drop (at + 1) parts)
    at_part parts i at P is h = subst P (drop_part parts at i is) h

    from_part : (parts : List ℕ) (i at : ℕ) (P : List ℕ → Type 0) → slice_get parts at ≡ Some i → P (i ∷ drop (at + 1) parts) → P (drop at parts)
    from_part parts i at P is h = subst P (sym (drop_part parts at i is)) h

    -- ---- parts

    pub parts_begin : (parts : List ℕ) (from : List Bool) → InParts parts 0 from from
    parts_begin parts from = record { to = λ p h. h; back = λ p h. h }

    pub parts_on : (parts : List ℕ) (at i : ℕ) (from here next : List Bool)
        → slice_get parts at ≡ Some i → LeadsOn i here next → InParts parts at from here
        → InParts parts (at + 1) from next
    parts_on parts at i from here next is leads inv =
        record {
          to = λ p h.
              let old = inv.to p h in
              let split = parts_split (at_part parts i at (λ l. PartsEnd claims l old.octet p) is old.fact) in
              step_to leads old.small old.there split.1 split.2;
          back = λ p h.
              let old = (leads h.octet h.small).0 h.there in
              inv.back p (record {
                octet = old.octet;
                small = old.small;
                there = old.there;
                fact =
                    from_part parts i at (λ l. PartsEnd claims l old.octet p) is (parts_next h.octet old.fact h.fact);
              });
        }

    pub parts_done : (parts : List ℕ) (at : ℕ) (from here : List Bool)
        → length parts ≤ at → InParts parts at from here
        → OctetsAre here (λ p. OfSome from (λ o. PartsEnd claims parts o p))
    parts_done parts at from here long inv p low =
        let none = drop_over parts at long in (
          λ there. inv.back p (record { octet = p; small = low; there = there; fact = subst (λ l. PartsEnd claims l p p) (sym none) (parts_end refl) }),
          λ h. let old = inv.to p h in
              let same = parts_over (subst (λ l. PartsEnd claims l old.octet p) none old.fact) in
              subst (λ q. IsTrue (has_octet here q)) (sym same) old.there,
        )

    -- ---- the first few

    pub lead_begin : (parts : List ℕ) (from : List Bool) → Leading parts 0 from from from
    lead_begin parts from =
        record {
          to = λ p low h. inr h;
          back_ends = λ p low there. record { octet = p; small = low; there = there; fact = lead_end refl };
          back_here = λ p h. h;
          within = λ p low there. there;
        }

    pub lead_on : (parts : List ℕ) (at i : ℕ) (from here ends next both : List Bool)
        → slice_get parts at ≡ Some i → LeadsOn i here next → OctetsAre both (λ o. IsTrue (has_octet ends o)
        ⊎ IsTrue (has_octet next o)) → Leading parts at from here ends → Leading parts (at + 1) from next both
    lead_on parts at i from here ends next both is leads joins inv =
        record {
          to = λ p low h. elim (inv.to p low h) [
            | inl there ↦ inl ((joins p low).1 (inl there))
            | inr old ↦ elim (lead_split (at_part parts i at (λ l. LeadEnd claims l old.octet p) is old.fact)) [
              | inl same ↦ inl ((joins p low).1 (inl (inv.within p low (subst (λ q. IsTrue (has_octet here q)) (sym same) old.there))))
              | inr split ↦ inr (step_to leads old.small old.there split.1 split.2)
            ]
          ];
          back_ends = λ p low there. elim ((joins p low).0 there) [
            | inl old ↦ inv.back_ends p low old
            | inr new ↦ let old = (leads p low).0 new in
                inv.back_here p (record {
                  octet = old.octet;
                  small = old.small;
                  there = old.there;
                  fact =
                      from_part parts i at (λ l. LeadEnd claims l old.octet p) is (lead_next p old.fact (lead_end refl));
                })
          ];
          back_here = λ p h.
              let old = (leads h.octet h.small).0 h.there in
              inv.back_here p (record {
                octet = old.octet;
                small = old.small;
                there = old.there;
                fact =
                    from_part parts i at (λ l. LeadEnd claims l old.octet p) is (lead_next h.octet old.fact h.fact);
              });
          within = λ p low there. (joins p low).1 (inr there);
        }

    pub lead_done : (parts : List ℕ) (at : ℕ) (from here ends : List Bool)
        → length parts ≤ at → Leading parts at from here ends
        → OctetsAre ends (λ p. OfSome from (λ o. LeadEnd claims parts o p))
    lead_done parts at from here ends long inv p low =
        let none = drop_over parts at long in (
          inv.back_ends p low,
          λ h. elim (inv.to p low h) [
            | inl there ↦ there
            | inr old ↦
                let same = lead_over (subst (λ l. LeadEnd claims l old.octet p) none old.fact) in
                inv.within p low (subst (λ q. IsTrue (has_octet here q)) (sym same) old.there)
          ],
        )

    -- ---- a number of times

    pub times_begin : (i n left : ℕ) (from : List Bool) → left ≡ n → Going i n left from from
    times_begin i n left from is =
        record {
          to = λ p h. record { octet = h.octet; small = h.small; there = h.there; fact = subst (λ k. TimesEnd claims k i h.octet p) (sym is) h.fact };
          back = λ p h. record { octet = h.octet; small = h.small; there = h.there; fact = subst (λ k. TimesEnd claims k i h.octet p) is h.fact };
        }

    pub times_on : (i n old_left left : ℕ) (from here next : List Bool) → old_left ≡ suc left → LeadsOn i here next
        → Going i n old_left from here → Going i n left from next
    times_on i n old_left left from here next is leads inv =
        record {
          to = λ p h.
              let old = inv.to p h in
              let split = times_split left is old.fact in
              step_to leads old.small old.there split.1 split.2;
          back = λ p h.
              let old = (leads h.octet h.small).0 h.there in
              inv.back p (record { octet = old.octet; small = old.small; there = old.there; fact = times_next left h.octet is old.fact h.fact });
        }

    pub times_done : (i n left : ℕ) (from here : List Bool) → left ≡ 0 → Going i n left from here
        → OctetsAre here (λ p. OfSome from (λ o. TimesEnd claims n i o p))
    times_done i n left from here none inv p low = (
      λ there. inv.back p (record { octet = p; small = low; there = there; fact = times_end none refl }),
      λ h. let old = inv.to p h in
          let same = times_over none old.fact in
          subst (λ q. IsTrue (has_octet here q)) (sym same) old.there,
    )

    pub fewer_begin : (i n left : ℕ) (from none : List Bool) → left ≡ n → OctetsAre none (λ o. ⊥) → GoingFewer i n left from from none
    fewer_begin i n left from none is empty =
        record {
          to = λ p low h. inr (record {
            octet = h.octet;
            small = h.small;
            there = h.there;
            fact =
                subst (λ k. EndsFewer claims k i h.octet p) (sym is) h.fact;
          });
          back_ends = λ p low there. absurd ((empty p low).0 there);
          back_here = λ p h. record { octet = h.octet; small = h.small; there = h.there; fact = subst (λ k. EndsFewer claims k i h.octet p) is h.fact };
        }

    fewer_split : {i o p n : ℕ} (left : ℕ) → n ≡ suc left → EndsFewer claims n i o p → (p ≡ o)
        ⊎ ((m : ℕ) × IsTrue (claims.ends i o m) × EndsFewer claims left i m p)
    fewer_split {i} {o} {p} {n} left is h = by_ends h.times h.less h.ends
      where
        by_ends : (times : ℕ) → times < n → TimesEnd claims times i o p → (p ≡ o) ⊎ ((m : ℕ) × IsTrue (claims.ends i o m) × EndsFewer claims left i m p)
        by_ends times less (times_end none same) = inl same
        by_ends times less (times_next k m over e others) = inr (m, e, record { times = k; less = omega arith; ends = others })

    pub fewer_on : (i n old_left left : ℕ) (from here ends next both : List Bool)
        → old_left ≡ suc left → LeadsOn i here next → OctetsAre both (λ o. IsTrue (has_octet ends o)
        ⊎ IsTrue (has_octet here o)) → GoingFewer i n old_left from here ends → GoingFewer i n left from next both
    fewer_on i n old_left left from here ends next both is leads joins inv =
        record {
          to = λ p low h. elim (inv.to p low h) [
            | inl there ↦ inl ((joins p low).1 (inl there))
            | inr old ↦ elim (fewer_split left is old.fact) [
              | inl same ↦ inl ((joins p low).1 (inr (subst (λ q. IsTrue (has_octet here q)) (sym same) old.there)))
              | inr split ↦ inr (step_to leads old.small old.there split.1 split.2)
            ]
          ];
          back_ends = λ p low there. elim ((joins p low).0 there) [
            | inl old ↦ inv.back_ends p low old
            | inr new ↦ inv.back_here p (record {
              octet = p;
              small = low;
              there = new;
              fact =
                  record { times = 0; less = omega arith; ends = times_end refl refl };
            })
          ];
          back_here = λ p h.
              let old = (leads h.octet h.small).0 h.there in
              inv.back_here p (record {
                octet = old.octet;
                small = old.small;
                there = old.there;
                fact =
                    record {
                      times = suc h.fact.times;
                      less = (let l = h.fact.less in omega arith);
                      ends =
                          times_next h.fact.times h.octet refl old.fact h.fact.ends;
                    };
              });
        }

    pub fewer_done : (i n left : ℕ) (from here ends : List Bool) → left ≡ 0 → GoingFewer i n left from here ends
        → OctetsAre ends (λ p. OfSome from (λ o. EndsFewer claims n i o p))
    fewer_done i n left from here ends none inv p low = (
      inv.back_ends p low,
      λ h. elim (inv.to p low h) [ inl there ↦ there | inr old ↦ (let l = old.fact.less in absurd (omega arith)) ],
    )

    -- ---- any number of times

    pub many_begin : (i : ℕ) (from : List Bool) → Growing i from from
    many_begin i from =
        record { within = λ p low there. there; sound = λ p low there. record { octet = p; small = low; there = there; fact = many_end refl } }

    pub many_on : (i end : ℕ) (from ends more : List Bool)
        → OctetsAre more (λ o. IsTrue (has_octet ends o) ⊎ (o ≡ end))
        → OfSome ends (λ o. IsTrue (claims.ends i o end)) → Growing i from ends → Growing i from more
    many_on i end from ends more joins leads inv =
        record {
          within = λ p low there. (joins p low).1 (inl (inv.within p low there));
          sound = λ p low there. elim ((joins p low).0 there) [
            | inl old ↦ inv.sound p low old
            | inr same ↦
                let before = inv.sound leads.octet leads.small leads.there in
                let step = subst (λ q. IsTrue (claims.ends i leads.octet q)) (sym same) leads.fact in
                record { octet = before.octet; small = before.small; there = before.there; fact = many_end_more claims before.fact step }
          ];
        }

    closed_many : (i : ℕ) (ends : List Bool)
        → ((e : ℕ) → e ≤ 7 → OfSome ends (λ o. IsTrue (claims.ends i o e)) → IsTrue (has_octet ends e)) → {o p : ℕ}
        → o ≤ 7 → IsTrue (has_octet ends o) → ManyEnd claims i o p → IsTrue (has_octet ends p)
    closed_many i ends closed low there (many_end same) = subst (λ q. IsTrue (has_octet ends q)) (sym same) there
    closed_many i ends closed {o} low there (many_next m e others) =
        let short = small i o m e in
        closed_many i ends closed short (closed m short (record { octet = o; small = low; there = there; fact = e })) others

    pub many_done : (i : ℕ) (from ends : List Bool)
        → ((e : ℕ) → e ≤ 7 → OfSome ends (λ o. IsTrue (claims.ends i o e)) → IsTrue (has_octet ends e))
        → Growing i from ends → OctetsAre ends (λ p. OfSome from (λ o. ManyEnd claims i o p))
    many_done i from ends closed inv p low = (
      inv.sound p low,
      λ h. closed_many i ends closed h.small (inv.within h.octet h.small h.there) h.fact,
    )

-- a fact of all the parts is one of those from the place on
pub record Carried (P : List ℕ → Type 0) (parts : List ℕ) (at : ℕ) : Type 0 where
  pub to : P parts → P (drop at parts)
  pub back : P (drop at parts) → P parts

-- one of the parts before the place may end there
pub record EndsBefore (claims : Claims) (parts : List ℕ) (at o p : ℕ) : Type 0 where
  pub place : ℕ
  pub before : place < at
  pub part : ℕ
  pub is : slice_get parts place ≡ Some part
  pub ends : IsTrue (claims.ends part o p)

module _ (claims : Claims) (parts : List ℕ) (from : List Bool) where
  pub some_begin : (none : List Bool) → OctetsAre none (λ o. ⊥) → OctetsAre none (λ p. OfSome from (λ o. EndsBefore claims parts 0 o p))
  some_begin none empty p low = ((λ h. absurd ((empty p low).0 h)), (λ h. let less = h.fact.before in absurd (omega (arith, less))))

  same_part : {at place i part : ℕ} → slice_get parts at ≡ Some i → slice_get parts place ≡ Some part → place ≡ at → part ≡ i
  same_part one two same = cc

  pub some_on : (at i : ℕ) (ends next both : List Bool) → slice_get parts at ≡ Some i → LeadsOn claims i from next
      → OctetsAre both (λ o. IsTrue (has_octet ends o) ⊎ IsTrue (has_octet next o))
      → OctetsAre ends (λ p. OfSome from (λ o. EndsBefore claims parts at o p))
      → OctetsAre both (λ p. OfSome from (λ o. EndsBefore claims parts (at + 1) o p))
  some_on at i ends next both is leads joins before p low = (
    (λ h. elim ((joins p low).0 h) [
      | inl old ↦
          let f = (before p low).0 old in
          let less = f.fact.before in
          record {
            octet = f.octet;
            small = f.small;
            there = f.there;
            fact =
                record {
                  place = f.fact.place;
                  before = omega (arith, less);
                  part = f.fact.part;
                  is = f.fact.is;
                  ends =
                      f.fact.ends;
                };
          }
      | inr new ↦
          let f = (leads p low).0 new in
          record { octet = f.octet; small = f.small; there = f.there; fact = record { place = at; before = omega arith; part = i; is = is; ends = f.fact } }
    ]),
    (λ h. (joins p low).1 (elim (eqb_tells h.fact.place at) [
      | inl same ↦ inr
          ((leads p low).1 (record {
            octet = h.octet;
            small = h.small;
            there = h.there;
            fact =
                subst (λ k. IsTrue (claims.ends k h.octet p)) (same_part is h.fact.is same.1) h.fact.ends;
          }))
      | inr apart ↦
          let less = h.fact.before in
          let differ = apart.1 in
          inl ((before p low).1 (record {
            octet = h.octet;
            small = h.small;
            there = h.there;
            fact =
                record {
                  place = h.fact.place;
                  before = omega (arith, less, differ);
                  part = h.fact.part;
                  is =
                      h.fact.is;
                  ends = h.fact.ends;
                };
          }))
    ])),
  )

  pub some_done : (at : ℕ) (ends : List Bool)
      → length parts ≤ at → OctetsAre ends (λ p. OfSome from (λ o. EndsBefore claims parts at o p))
      → OctetsAre ends (λ p. OfSome from (λ o. SomeEnds claims parts o p))
  some_done at ends all before p low = (
    (λ h. let f = (before p low).0 h in record {
      octet = f.octet;
      small = f.small;
      there = f.there;
      fact =
          record { place = f.fact.place; part = f.fact.part; at = f.fact.is; ends = f.fact.ends };
    }),
    (λ h.
        let inside = slice_get_within parts h.fact.place h.fact.part h.fact.at in
        (before p low).1 (record {
          octet = h.octet;
          small = h.small;
          there = h.there;
          fact =
              record {
                place = h.fact.place;
                before = omega (arith, inside, all);
                part = h.fact.part;
                is =
                    h.fact.at;
                ends = h.fact.ends;
              };
        })),
  )

-- ---- what a test tells

-- what a test denies is not so
pub denied : {b : Bool} {P : Type 0} → IsTrue b ↔ P → b ≡ false → P → ⊥
denied tells fails p = let holds = tells.1 p in absurd (cc)

pub never : {P : Type 0} → (P → ⊥) → IsTrue false ↔ P
never wrong = ((λ h. absurd (cc)), (λ h. absurd (wrong h)))

pub always : {P : Type 0} → P → IsTrue true ↔ P
always holds = ((λ h. holds), (λ h. refl))
