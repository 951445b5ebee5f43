-- The least rule that is broken at a node, and the first node at which one is.
use Rattle.std.proofs.Common.{◌≡◌, ℕ, zero, suc, ◌<◌, ◌≤◌, List, inl, inr, refl, sym, subst, arith, Some, slice_get}
use Rattle.std.specs.Prelude.{◌⊎◌}
use Rattle.csn_desc.specs.declared.node.Node.{Node}
use Rattle.csn_desc.specs.Nodes.{DescV}
use Rattle.csn_cert.specs.CertificateV.{NodeV}
use Rattle.csn_good.specs.Good.{KeepsNumber, KeepsNullable, KeepsEnds, KeepsStart, KeepsKeys, KeepsReached}
use Rattle.csn_good.specs.Good.{KeepsFollow, KeepsApart, KeepsRules, Breaks, breaks_number, breaks_nullable}
use Rattle.csn_good.specs.Good.{breaks_ends, breaks_start, breaks_keys, breaks_reached, breaks_follow, breaks_apart}
use Rattle.csn_good.specs.Good.{FirstFault}
use Rattle.csn_good.specs.Faults.{FaultAt}

lower : (a b : ℕ) → (a < b) ⊎ (b ≤ a)
lower a zero = inr (omega arith)
lower zero (suc b) = inl (omega arith)
lower (suc a) (suc b) = elim (lower a b) [ inl less ↦ inl (omega arith) | inr most ↦ inr (omega arith) ]

same_node : {n m : Node} (d : DescV) (i : ℕ) → slice_get d.nodes i ≡ Some n → slice_get d.nodes i ≡ Some m → n ≡ m
same_node d i one two = cc

module _ (d : DescV) (c : List NodeV) (number : KeepsNumber d c) where
  -- the rules below this one are kept at the node
  pub record KeptBelow (rule i : ℕ) (n : Node) : Type 0 where
    pub nullable : 2 < rule → KeepsNullable d c i n
    pub ends : 3 < rule → KeepsEnds d c i n
    pub start : 4 < rule → KeepsStart d c i n
    pub keys : 5 < rule → KeepsKeys d c i n
    pub reached : 6 < rule → KeepsReached d c i n
    pub follow : 7 < rule → KeepsFollow d c i n

  -- a rule that the node breaks is none of those that it keeps
  not_kept : (own rule i : ℕ) {n m : Node} {other : ℕ} (Keeps : Node → Type 0) → slice_get d.nodes i ≡ Some n
      → slice_get d.nodes i ≡ Some m → (own < rule → Keeps n) → ¬ Keeps m → other ≡ own → rule ≤ other
  not_kept own rule i Keeps at there kept wrong is =
      elim (lower own rule) [ inl less ↦ absurd (wrong (subst Keeps (same_node d i at there) (kept less))) | inr low ↦ omega arith ]

  pub least : (rule i : ℕ) (n : Node) → rule ≤ 8 → slice_get d.nodes i ≡ Some n → KeptBelow rule i n → (other : ℕ) → Breaks d c other i → rule ≤ other
  least rule i n most at kept other (breaks_number r z wrong) = absurd (wrong number)
  least rule i n most at kept other (breaks_nullable m r there wrong) = not_kept 2 rule i (KeepsNullable d c i) at there kept.nullable wrong r
  least rule i n most at kept other (breaks_ends m r there wrong) = not_kept 3 rule i (KeepsEnds d c i) at there kept.ends wrong r
  least rule i n most at kept other (breaks_start m r there wrong) = not_kept 4 rule i (KeepsStart d c i) at there kept.start wrong r
  least rule i n most at kept other (breaks_keys m r there wrong) = not_kept 5 rule i (KeepsKeys d c i) at there kept.keys wrong r
  least rule i n most at kept other (breaks_reached m r there wrong) = not_kept 6 rule i (KeepsReached d c i) at there kept.reached wrong r
  least rule i n most at kept other (breaks_follow m r there wrong) = not_kept 7 rule i (KeepsFollow d c i) at there kept.follow wrong r
  least rule i n most at kept other (breaks_apart m r there wrong) = omega arith

  -- a node that keeps each rule breaks none
  kept_all : (rule i : ℕ) → ((n : Node) → slice_get d.nodes i ≡ Some n → KeepsRules d c i n) → Breaks d c rule i → ⊥
  kept_all rule i keeps (breaks_number r z wrong) = wrong number
  kept_all rule i keeps (breaks_nullable n r at wrong) = wrong (keeps n at).nullable
  kept_all rule i keeps (breaks_ends n r at wrong) = wrong (keeps n at).ends
  kept_all rule i keeps (breaks_start n r at wrong) = wrong (keeps n at).start
  kept_all rule i keeps (breaks_keys n r at wrong) = wrong (keeps n at).keys
  kept_all rule i keeps (breaks_reached n r at wrong) = wrong (keeps n at).reached
  kept_all rule i keeps (breaks_follow n r at wrong) = wrong (keeps n at).follow
  kept_all rule i keeps (breaks_apart n r at wrong) = wrong (keeps n at).apart

  pub first_fault : (rule i : ℕ) → ((k : ℕ) (n : Node) → k < i → slice_get d.nodes k ≡ Some n → KeepsRules d c k n)
      → FaultAt d c i rule → FirstFault d c rule i
  first_fault rule i before fault = record {
    breaks = fault.breaks;
    first = λ other_rule other broken. elim (lower i other) [
      | inl less ↦ inl less
      | inr most ↦ elim (lower other i) [
        | inl earlier ↦ absurd (kept_all other_rule other (λ n at. before other n earlier at) broken)
        | inr least_too ↦
            let same : i ≡ other = omega arith in
            inr (same, fault.least other_rule (subst (λ k. Breaks d c other_rule k) (sym same) broken))
      ]
    ];
  }

-- a wrong number of nodes comes first
rule_from_one : (d : DescV) (c : List NodeV) (rule i : ℕ) → Breaks d c rule i → 1 ≤ rule
rule_from_one d c rule i (breaks_number r z wrong) = omega arith
rule_from_one d c rule i (breaks_nullable n r at wrong) = omega arith
rule_from_one d c rule i (breaks_ends n r at wrong) = omega arith
rule_from_one d c rule i (breaks_start n r at wrong) = omega arith
rule_from_one d c rule i (breaks_keys n r at wrong) = omega arith
rule_from_one d c rule i (breaks_reached n r at wrong) = omega arith
rule_from_one d c rule i (breaks_follow n r at wrong) = omega arith
rule_from_one d c rule i (breaks_apart n r at wrong) = omega arith

pub number_fault : (d : DescV) (c : List NodeV) → ¬ KeepsNumber d c → FirstFault d c 1 0
number_fault d c wrong = record {
  breaks = breaks_number refl refl wrong;
  first = λ other_rule other broken. elim (lower 0 other) [
    | inl less ↦ inl less
    | inr most ↦ inr (omega arith, rule_from_one d c other_rule other broken)
  ];
}

-- ---- one node, rule by rule

module _ (d : DescV) (c : List NodeV) (number : KeepsNumber d c) (i : ℕ) (n : Node) (at : slice_get d.nodes i ≡ Some n) where
  pub fault_nullable : ¬ KeepsNullable d c i n → FaultAt d c i 2
  fault_nullable wrong = record {
    breaks = breaks_nullable n refl at wrong;
    least = least d c number 2 i n (omega arith) at (record {
      nullable = λ less. absurd (omega arith);
      ends =
          λ less. absurd (omega arith);
      start = λ less. absurd (omega arith);
      keys =
          λ less. absurd (omega arith);
      reached = λ less. absurd (omega arith);
      follow =
          λ less. absurd (omega arith);
    });
  }

  module _ (nullable : KeepsNullable d c i n) where
    pub fault_ends : ¬ KeepsEnds d c i n → FaultAt d c i 3
    fault_ends wrong = record {
      breaks = breaks_ends n refl at wrong;
      least = least d c number 3 i n (omega arith) at
          (record {
            nullable = λ less. nullable;
            ends = λ less. absurd (omega arith);
            start =
                λ less. absurd (omega arith);
            keys = λ less. absurd (omega arith);
            reached =
                λ less. absurd (omega arith);
            follow = λ less. absurd (omega arith);
          });
    }

    module _ (ends : KeepsEnds d c i n) where
      pub fault_start : ¬ KeepsStart d c i n → FaultAt d c i 4
      fault_start wrong = record {
        breaks = breaks_start n refl at wrong;
        least = least d c number 4 i n (omega arith) at
            (record {
              nullable = λ less. nullable;
              ends = λ less. ends;
              start = λ less. absurd (omega arith);
              keys =
                  λ less. absurd (omega arith);
              reached = λ less. absurd (omega arith);
              follow =
                  λ less. absurd (omega arith);
            });
      }

      module _ (start : KeepsStart d c i n) where
        pub fault_keys : ¬ KeepsKeys d c i n → FaultAt d c i 5
        fault_keys wrong = record {
          breaks = breaks_keys n refl at wrong;
          least = least d c number 5 i n (omega arith) at
              (record {
                nullable = λ less. nullable;
                ends = λ less. ends;
                start = λ less. start;
                keys =
                    λ less. absurd (omega arith);
                reached = λ less. absurd (omega arith);
                follow =
                    λ less. absurd (omega arith);
              });
        }

        module _ (keys : KeepsKeys d c i n) where
          pub fault_reached : ¬ KeepsReached d c i n → FaultAt d c i 6
          fault_reached wrong = record {
            breaks = breaks_reached n refl at wrong;
            least = least d c number 6 i n (omega arith) at
                (record {
                  nullable = λ less. nullable;
                  ends = λ less. ends;
                  start = λ less. start;
                  keys =
                      λ less. keys;
                  reached = λ less. absurd (omega arith);
                  follow = λ less. absurd (omega arith);
                });
          }

          module _ (reached : KeepsReached d c i n) where
            pub fault_follow : ¬ KeepsFollow d c i n → FaultAt d c i 7
            fault_follow wrong = record {
              breaks = breaks_follow n refl at wrong;
              least = least d c number 7 i n (omega arith) at
                  (record {
                    nullable = λ less. nullable;
                    ends = λ less. ends;
                    start = λ less. start;
                    keys =
                        λ less. keys;
                    reached = λ less. reached;
                    follow = λ less. absurd (omega arith);
                  });
            }

            pub fault_apart : KeepsFollow d c i n → ¬ KeepsApart d c i n → FaultAt d c i 8
            fault_apart follow wrong = record {
              breaks = breaks_apart n refl at wrong;
              least = least d c number 8 i n (omega arith) at
                  (record {
                    nullable = λ less. nullable;
                    ends = λ less. ends;
                    start = λ less. start;
                    keys =
                        λ less. keys;
                    reached = λ less. reached;
                    follow = λ less. follow;
                  });
            }
