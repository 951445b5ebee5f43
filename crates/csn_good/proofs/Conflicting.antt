-- What the tests of the private functions come to for the rule of conflicts.
use Rattle.std.proofs.Common.{◌≡◌, ℕ, zero, suc, ◌<◌, ◌≤◌, Bool, true, false, List, [], ◌∷◌, inl, inr, refl, sym, ap}
use Rattle.std.proofs.Common.{subst, arith, Option, Some, None, slice_get, length}
use Rattle.std.specs.Prelude.{◌≢◌, ◌⊎◌, IsTrue, Contains, is_some, ◌↔◌, slice_index_or, nat_le, not}
use Rattle.std.proofs.lemmas.Bool.Decides.{nat_tests}
use Rattle.std.proofs.lemmas.Option.{slice_get_within, get_or_from_slice_get}
use Rattle.csn_desc.specs.declared.node.Count.{Count}
use Rattle.csn_desc.specs.declared.node.Node.{Node}
use Rattle.csn_desc.specs.declared.node.Node.TheVariants.{Pad, Rest, Choice, Times, Many, Trunc}
use Rattle.csn_desc.specs.Nodes.{DescV}
use Rattle.csn_cert.specs.declared.pattern.Mark.{Mark}
use Rattle.csn_cert.specs.PatternV.{PatternV}
use Rattle.csn_cert.specs.CertificateV.{NodeV, PositionV, IsCertificate}
use Rattle.csn_cert.specs.Growing.{claimed}
use Rattle.csn_claims.specs.Conflicts.{IsBegunBy, IsLast, IsNull, IsNotFirm, HasConflict, two_empty, choice_not_firm}
use Rattle.csn_claims.specs.Conflicts.{many_not_firm, times_not_firm, overlap, empty_clash, loop_clash, not_last}
use Rattle.csn_good.specs.ClaimedSets.{mark_bits, followed_by, denotes, patterns_of, patterns_at, claims_of}
use Rattle.csn_good.specs.Good.{KeepsApart}
use Rattle.csn_good.specs.Apart.{IsFirmNode, Overlaps, Clashes, TurnsClash, BitBehind, EachApart}
use Rattle.csn_good.proofs.Denoting.{both_true, says, said, any_true, found}
use Rattle.csn_good.proofs.EndsTold.{ends_small}
use Rattle.csn_good.proofs.SetArms.{reached_small, starts_small, many_small}
use Rattle.csn_good.proofs.FollowArms.{ends_reach}
use Rattle.csn_good.proofs.Meeting.{words_meet, words_of}

-- ---- what is claimed

at_place : {X : Type 0} (xs : List X) (k : ℕ) (x : X) → k < length xs → slice_index_or xs k x ≡ x → slice_get xs k ≡ Some x
at_place [] k x less is = absurd (omega arith)
at_place (y ∷ xs) zero x less is = ap Some is
at_place (y ∷ xs) (suc k) x less is = at_place xs k x (omega arith) is

pub contained_at : {X : Type 0} (xs : List X) (x : X) (h : Contains xs x) → slice_get xs h.0 ≡ Some x
contained_at xs x h = at_place xs h.0 x h.1 h.2

pub at_contained : {X : Type 0} (xs : List X) (k : ℕ) (x : X) → slice_get xs k ≡ Some x → Contains xs x
at_contained xs k x at = (k, slice_get_within xs k x at, get_or_from_slice_get xs k x x at)

claimed_there : (at : Option PositionV) (p : PatternV) → Contains (patterns_of at) p → IsTrue (is_some at)
claimed_there None p there = absurd (omega (arith, there.1))
claimed_there (Some position) p there = refl

-- where a node has a pattern it begins
pub pattern_reached : (c : List NodeV) (i o : ℕ) (p : PatternV) → Contains (patterns_at c i o) p → IsTrue ((claims_of c).reached i o)
pattern_reached c i o p there = claimed_there (claimed c i o) p there

-- where a node does not have an octet position, it has no pattern there
pub no_pattern : (c : List NodeV) (i o : ℕ) (p : PatternV) (has : Bool) → has ≡ is_some (claimed c i o) → has ≡ false → ¬ Contains (patterns_at c i o) p
no_pattern c i o p has told wrong at =
    let there : IsTrue (is_some (claimed c i o)) = pattern_reached c i o p at in cc

not_true : (b : Bool) → (IsTrue b → ⊥) → b ≡ false
not_true true never = absurd (never refl)
not_true false never = refl

pub not_told : {r : Bool} {P Q : Type 0} → (IsTrue r ↔ P) → ((P → ⊥) → Q) → (Q → P → ⊥) → IsTrue (not r) ↔ Q
not_told {r = true} told to back = ((λ h. absurd (cc)), (λ q. absurd (back q (told.0 refl))))
not_told {r = false} told to back = ((λ h. to (λ p. let wrong = told.1 p in absurd (cc))), (λ q. refl))

pub is_false : {r claim : Bool} {Q : Type 0} → r ≡ claim → (claim ≡ false → Q) → (Q → claim ≡ false) → IsTrue (not r) ↔ Q
is_false {r = true} same to back = ((λ h. absurd (cc)), (λ q. let wrong = back q in absurd (cc)))
is_false {r = false} same to back = ((λ h. to (sym same)), (λ q. refl))

pub item_at : {X : Type 0} (xs : List X) (k : ℕ) → k < length xs → (x : X) × (slice_get xs k ≡ Some x)
item_at [] k less = absurd (omega arith)
item_at (x ∷ xs) zero less = (x, refl)
item_at (x ∷ xs) (suc k) less = item_at xs k (omega arith)

-- at one place stands one thing
pub one_item : {X : Type 0} (xs : List X) {k n : ℕ} {x y : X} → k ≡ n → slice_get xs k ≡ Some x → slice_get xs n ≡ Some y → x ≡ y
one_item xs same at_k at_n = let here = ap (λ m. slice_get xs m) same in cc

no_marks : (p : PatternV) (mark : Bool) → denotes p [] mark ≡ true → p.marks ≡ []
no_marks p mark holds = no_size p.marks (says p [] mark holds).bits
  where
    no_size : (marks : _) → mark_bits marks [] ≡ true → marks ≡ []
    no_size [] holds = refl
    no_size (m ∷ marks) holds = absurd (cc)

pub follow_small : (n : Option NodeV) (o bit : ℕ) → IsTrue (followed_by n o (Some bit)) → bit ≤ 1
follow_small None o bit holds = absurd (cc)
follow_small (Some n) o bit holds = let test = (both_true (nat_le bit 1) _ holds).0 in grind (arith, nat_tests)

-- of two places one is the lesser
lesser : (j k : ℕ) → k ≢ j → (j < k) ⊎ (k < j)
lesser zero zero differ = absurd (differ refl)
lesser zero (suc k) differ = inl (omega arith)
lesser (suc j) zero differ = inr (omega arith)
lesser (suc j) (suc k) differ = elim (lesser j k (λ same. differ (ap suc same))) [ inl less ↦ inl (omega arith) | inr less ↦ inr (omega arith) ]

-- a pattern claims its own words
claims_word : (c : List NodeV) (i o place : ℕ) (p : PatternV) (word : List ℕ)
    → slice_get (patterns_at c i o) place ≡ Some p → mark_bits p.marks word ≡ true
    → IsTrue ((claims_of c).keys i o word p.whole)
claims_word c i o place p word at stands =
    any_true (λ q. denotes q word p.whole) (patterns_at c i o) p (at_contained (patterns_at c i o) place p at)
    (said p word p.whole (record { same = refl; bits = stands }))

module _ (d : DescV) (c : List NodeV) (is : IsCertificate c) where
  -- ---- firm nodes

  firm_is : (i : ℕ) → IsFirmNode c i → IsNotFirm d (claims_of c) i → ⊥
  firm_is i firm (inl nullable) = let some = firm.some_bits in absurd (cc)
  firm_is i firm (inr key) =
      let f = found (λ p. denotes p [] key.1) (patterns_at c i key.0) key.2 in
      let low = reached_small c is i key.0 (pattern_reached c i key.0 f.item f.there) in
      firm.no_empty key.0 low (record {
        place = f.there.0;
        pattern = f.item;
        at = contained_at (patterns_at c i key.0)
            f.item f.there;
        empty = no_marks f.item key.1 f.passes;
      })

  -- ---- words of two parts

  overlap_is : (i p q o : ℕ) (left right : List ℕ) (left_mark right_mark : Bool) → IsTrue ((claims_of c).reached i o)
      → IsTrue ((claims_of c).keys p o left left_mark) → IsTrue ((claims_of c).keys q o right right_mark)
      → IsBegunBy left right ⊎ IsBegunBy right left → Overlaps c i p q
  overlap_is i p q o left right left_mark right_mark reached of_p of_q begun =
      let x = found (λ p. denotes p left left_mark) (patterns_at c p o) of_p in
      let y = found (λ p. denotes p right right_mark) (patterns_at c q o) of_q in
      record {
        octet = o;
        low = reached_small c is i o reached;
        begins = reached;
        meet = record {
          place = x.there.0;
          pattern = x.item;
          at = contained_at (patterns_at c p o) x.item x.there;
          meets = record {
            place = y.there.0;
            pattern = y.item;
            at = contained_at (patterns_at c q o) y.item y.there;
            meets = words_meet x.item y.item left right left_mark right_mark x.passes y.passes begun;
          };
        };
      }

  clash_is : (i part o bit : ℕ) → IsTrue ((claims_of c).reached i o) → IsTrue ((claims_of c).starts part o bit)
      → IsTrue ((claims_of c).follow i o (Some bit)) → Clashes c i part
  clash_is i part o bit reached starts follow =
      record {
        octet = o;
        low = reached_small c is i o reached;
        begins = reached;
        clash = record { bit = bit; one = starts_small c part o bit starts; starts = starts; follows = follow };
      }

  behind_is : (i from o bit : ℕ) → IsTrue ((claims_of c).reached i from) → IsTrue ((claims_of c).ends i from o)
      → IsTrue ((claims_of c).follow i o (Some bit)) → BitBehind c i
  behind_is i from o bit reached ends follow =
      record {
        from = from;
        begin = reached_small c is i from reached;
        octet = o;
        low = ends_small c i from o ends;
        bit = bit;
        one = follow_small (slice_get c i) o bit follow;
        ends = ends;
        follows = follow;
      }

  -- ---- choices

  firm_back : (i : ℕ) → (IsNotFirm d (claims_of c) i → ⊥) → IsFirmNode c i
  firm_back i never =
      record {
        some_bits = not_true ((claims_of c).nullable i) (λ h. never (inl h));
        no_empty = λ o low empty.
            let P : List Mark → Type 0 = λ marks. mark_bits marks [] ≡ true in
            never (inr (o, empty.pattern.whole, claims_word c i o empty.place empty.pattern [] empty.at (subst P (sym empty.empty) refl)));
      }

  choice_kept : (i : ℕ) (parts : List ℕ) → EachApart d c i parts → HasConflict d (claims_of c) i (Choice parts) → ⊥
  choice_kept i parts each (two_empty {p = p} {q = q} j k less at_j at_k null_p null_q) =
      ((each j p at_j).later k q less at_k).one_null null_p null_q
  choice_kept i parts each (choice_not_firm {p = p} j at not_null not_firm) = firm_is p ((each j p at).firm not_null) not_firm
  choice_kept i parts each (overlap {p = p} {q = q} o j k reached less at_j at_k some_p some_q word_j word_k mark_j mark_k key_j key_k begun) =
      ((each j p at_j).later k q less at_k).both_firm some_p some_q (overlap_is i p q o word_j word_k mark_j mark_k reached key_j key_k begun)
  choice_kept i parts each (empty_clash {p = p} {q = q} o bit j k reached at_j null at_k differ starts follow) =
      elim (lesser j k differ) [
        | inl less ↦ ((each j p at_j).later k q less at_k).right_of_null null (clash_is i q o bit reached starts follow)
        | inr less ↦ ((each k q at_k).later j p less at_j).left_of_null null (clash_is i q o bit reached starts follow)
      ]
  choice_kept i parts each (not_last from o bit last reached ends follow) = elim last [ ]

  overlap_back : (i p q j k : ℕ) (parts : List ℕ) → j < k → slice_get parts j ≡ Some p → slice_get parts k ≡ Some q
      → ¬ IsNull d p → ¬ IsNull d q → Overlaps c i p q → HasConflict d (claims_of c) i (Choice parts)
  overlap_back i p q j k parts less at_j at_k some_p some_q over =
      let left = over.meet in
      let right = over.meet.meets in
      let words = words_of left.pattern right.pattern right.meets in
      overlap over.octet j k over.begins less at_j at_k some_p some_q words.left_word words.right_word left.pattern.whole right.pattern.whole
      (claims_word c p over.octet left.place left.pattern words.left_word left.at words.left_stands)
      (claims_word c q over.octet right.place right.pattern words.right_word right.at words.right_stands)
      words.begun

  choice_back : (i : ℕ) (parts : List ℕ) → KeepsApart d c i (Choice parts) → EachApart d c i parts
  choice_back i parts keeps = λ place part at.
      record {
        firm = λ not_null. firm_back part (λ not_firm. keeps (choice_not_firm place at not_null not_firm));
        later = λ k other less at_k. record {
          one_null = λ left right. keeps (two_empty place k less at at_k left right);
          right_of_null =
              λ null clash. keeps (empty_clash clash.octet clash.clash.bit place k clash.begins at null at_k
              (λ same. absurd (omega arith)) clash.clash.starts clash.clash.follows);
          left_of_null =
              λ null clash. keeps (empty_clash clash.octet clash.clash.bit k place clash.begins at_k null at
              (λ same. absurd (omega arith)) clash.clash.starts clash.clash.follows);
          both_firm = λ left right over. keeps (overlap_back i part other place k parts less at at_k left right over);
        };
      }

  pub choice_told : (i : ℕ) (parts : List ℕ) → KeepsApart d c i (Choice parts) ↔ EachApart d c i parts
  choice_told i parts = (choice_back i parts, choice_kept i parts)

  -- ---- the other nodes

  pub pad_apart : (i : ℕ) → (BitBehind c i → ⊥) → KeepsApart d c i Pad
  pad_apart i never (not_last from o bit last reached ends follow) = never (behind_is i from o bit reached ends follow)

  pub rest_apart : (i : ℕ) → (BitBehind c i → ⊥) → KeepsApart d c i Rest
  rest_apart i never (not_last from o bit last reached ends follow) = never (behind_is i from o bit reached ends follow)

  pub trunc_apart : (i : ℕ) (parts : List ℕ) → (BitBehind c i → ⊥) → KeepsApart d c i (Trunc parts)
  trunc_apart i parts never (not_last from o bit last reached ends follow) = never (behind_is i from o bit reached ends follow)

  last_back : (i : ℕ) (n : Node) → IsLast n → KeepsApart d c i n → BitBehind c i → ⊥
  last_back i n last keeps h = keeps (not_last h.from h.octet h.bit last (ends_reach c i h.from h.octet h.ends) h.ends h.follows)

  pub pad_back : (i : ℕ) → KeepsApart d c i Pad → BitBehind c i → ⊥
  pad_back i keeps h = last_back i Pad tt keeps h

  pub rest_back : (i : ℕ) → KeepsApart d c i Rest → BitBehind c i → ⊥
  rest_back i keeps h = last_back i Rest tt keeps h

  pub trunc_back : (i : ℕ) (parts : List ℕ) → KeepsApart d c i (Trunc parts) → BitBehind c i → ⊥
  trunc_back i parts keeps h = last_back i (Trunc parts) tt keeps h

  pub times_apart : (i : ℕ) (count : Count) (part : ℕ) → (claims_of c).nullable part ≡ false → KeepsApart d c i (Times count part)
  times_apart i count part some (times_not_firm nullable) = absurd (cc)
  times_apart i count part some (not_last from o bit last reached ends follow) = elim last [ ]

  pub times_back : (i : ℕ) (count : Count) (part : ℕ) → KeepsApart d c i (Times count part) → (claims_of c).nullable part ≡ false
  times_back i count part keeps = not_true ((claims_of c).nullable part) (λ nullable. keeps (times_not_firm nullable))

  pub many_apart : (i part : ℕ) → IsFirmNode c part → (TurnsClash c i part → ⊥) → KeepsApart d c i (Many part)
  many_apart i part firm never (many_not_firm not_firm) = firm_is part firm not_firm
  many_apart i part firm never (loop_clash from o bit reached turns starts follow) =
      let begin = reached_small c is i from reached in
      never (record {
        octet = o;
        low = many_small (claims_of c) (ends_small c) begin turns;
        from = from;
        begin = begin;
        begins = reached;
        turns = turns;
        clash = record { bit = bit; one = starts_small c part o bit starts; starts = starts; follows = follow };
      })
  many_apart i part firm never (not_last from o bit last reached ends follow) = elim last [ ]

  pub many_back : (i part : ℕ) → KeepsApart d c i (Many part) → IsFirmNode c part × (TurnsClash c i part → ⊥)
  many_back i part keeps = (
    firm_back part (λ not_firm. keeps (many_not_firm not_firm)),
    (λ h. keeps (loop_clash h.from h.octet h.clash.bit h.begins h.turns h.clash.starts h.clash.follows)),
  )
