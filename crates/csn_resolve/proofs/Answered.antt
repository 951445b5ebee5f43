-- A name by rules that are shaped is refused or has a description, which is one; and where nothing is refused,
-- the empty bits are followed.
use Rattle.std.proofs.Common.{ℕ, List, [], ◌∷◌, length, ◌⊎◌, inl, inr, refl, sym, subst, arith}
use Rattle.std.proofs.lemmas.List.{length-map}
use Rattle.csn_desc.specs.declared.reading.Reading.{Reading}
use Rattle.csn_desc.specs.Nodes.{DescV}
use Rattle.csn_desc.specs.Follows.{NFollow}
use Rattle.csn_desc.specs.Formed.{IsDescription}
use Rattle.csn_desc.specs.Overfull.{IsOverfull, IsFirstOverfull}
use Rattle.csn_desc.specs.Laid.{Laid}
use Rattle.csn_desc.proofs.Finishing.{laid_formed, below_sees}
use Rattle.csn_desc.proofs.WellFormed.{laid_spans, sees_within}
use Rattle.csn_grammar.specs.RulesV.{RulesV}
use Rattle.csn_grammar.specs.Strings.{Followed}
use Rattle.csn_resolve.specs.declared.why.Why.{Why}
use Rattle.csn_resolve.specs.Why.{Refusal}
use Rattle.csn_grammar.specs.Shaped.{AreShaped}
use Rattle.csn_resolve.specs.Gives.{Placed}
use Rattle.csn_resolve.specs.Resolved.{NameGives, nodes_of, AreRefusals, IsRefused, refused_on_walk, refused_at_last, IsResolved}
use Rattle.csn_resolve.proofs.Basics.Parts.{get_within}
use Rattle.csn_resolve.proofs.Walking.Total.{has_refusals}
use Rattle.csn_resolve.proofs.Giving.Given.{nodes_given}
use Rattle.csn_resolve.proofs.Giving.FewNodes.{few_nodes}
use Rattle.csn_resolve.proofs.Laying.LaidFacts.{laid_nodes}
use Rattle.csn_resolve.proofs.Meaning.MeaningFacts.{followed_kept}
use Rattle.csn_resolve.proofs.Laying.Crowding.{first_overfull}

module _ (rules : RulesV) (r : Reading) (n : List ℕ) (shaped : AreShaped rules) where
  abbrev pub Answered : Type 0
  Answered = ((why : Why) × (place : ℕ) × IsRefused rules n r why place) ⊎ ((d : DescV) × IsResolved rules n r d)

  by_crowding :
      (nodes : List Placed) → AreRefusals rules n r [] → NameGives rules n r nodes → Laid (nodes_of nodes) [] 0 0 (length (nodes_of nodes))
      → ((i : ℕ) → ¬ IsOverfull (nodes_of nodes) i) ⊎ ((j : ℕ) × IsFirstOverfull (nodes_of nodes) j) → Answered
  by_crowding nodes accepted given well (inl none) =
      inr (_, record { accepted = accepted; nodes = nodes; given = given; not_overfull = none; is = refl })
  by_crowding nodes accepted given well (inr h) =
      let within = sees_within (nodes_of nodes) well h.1.overfull.sees in
      let long = length-map nodes (λ p. p.node) in
      let field = get_within nodes h.0 (omega (arith, within, long)) in
      inl (_, _, refused_at_last nodes h.0 field.0 accepted given h.1 field.1 refl refl)

  pub answered : Answered
  answered = by has.0 has.1
    where
      has : (refusals : List Refusal) × AreRefusals rules n r refusals
      has = has_refusals rules r n

      by : (refusals : List Refusal) → AreRefusals rules n r refusals → Answered
      by [] h =
          let given = nodes_given rules r h in
          let well = laid_nodes rules r n given.0 shaped h given.1 in
          by_crowding given.0 h given.1 well (first_overfull (nodes_of given.0) well)
      by (refusal ∷ others) h = inl (refusal.why, refusal.place, refused_on_walk others h)

  -- what a name has is a description
  pub is_description : {d : DescV} → IsResolved rules n r d → IsDescription d
  is_description h =
      let nodes = nodes_of h.nodes in
      let well = laid_nodes rules r n h.nodes shaped h.accepted h.given in
      let few = few_nodes rules r n h.nodes h.accepted h.given in
      let long = length-map h.nodes (λ p. p.node) in
      let P : DescV → Type 0 = λ z. IsDescription z in
      subst P (sym h.is) (record {
        few = omega (arith, few, long);
        numbered = laid_spans nodes well;
        well_formed =
            laid_formed nodes well
            (λ k shown b crowded. h.not_overfull k (record {
              counted = crowded.counted;
              seen = shown;
              sees =
                  below_sees nodes b;
              full = crowded.full;
            }));
      })

  -- where nothing is refused, as every description does
  pub empty_followed :
      ((d : DescV) → IsDescription d → NFollow d 0 0 [] []) → ((why : Why) (place : ℕ) → ¬ IsRefused rules n r why place)
      → Followed rules n r []
  empty_followed all none = by answered
    where
      by : Answered → Followed rules n r []
      by (inl h) = absurd (none h.0 h.1 h.2)
      by (inr h) = (followed_kept rules r shaped h.1 []).1 (all h.0 (is_description h.1))
