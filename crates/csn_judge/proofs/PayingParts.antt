-- Components of truncations, and turns of free repetitions, begin by rising number.
use Rattle.std.proofs.Common.{◌≡◌, ℕ, ◌<◌, ◌≤◌, List, [], ◌∷◌, ◌++◌, length, refl, sym, ◌∙◌, ap, subst, arith, Some, slice_get}
use Rattle.csn_desc.specs.declared.node.Node.TheVariants.{Choice, Trunc}
use Rattle.csn_desc.specs.Nodes.{DescV}
use Rattle.csn_desc.specs.Values.{Values}
use Rattle.csn_judge.specs.declared.frame.Frame.{Frame}
use Rattle.csn_judge.specs.declared.frame.Frame.TheVariants as frame
use Rattle.csn_certify.specs.declared.numbers.Number.{Number}
use Rattle.csn_judge.specs.declared.pace.Pace.{Pace}
use Rattle.csn_judge.specs.Known.{Known}
use Rattle.csn_judge.specs.Left.{Left, cut_left, lead_left}
use Rattle.csn_judge.specs.Inside.{IsStack, stack_node, of_cut, of_lead}
use Rattle.csn_judge.specs.Shown.{Shows}
use Rattle.csn_judge.specs.Turns.{fresh_at}
use Rattle.csn_judge.proofs.Stacks.{of_begun, first_next, later_rises, alternative_rises, alternative_begun}
use Rattle.csn_judge.proofs.Turning.{begun_within}
use Rattle.csn_judge.proofs.Decided.{choice_at}
use Rattle.csn_judge.proofs.TurningChoices.{open_stands}
use Rattle.csn_judge.proofs.TurningParts.{next_there}
use Rattle.csn_judge.proofs.TurningTruncs.{TruncStands, stands_cut, stands_lead, trunc_stands, first_stack, later_stack}

first_there : (all : List ℕ) (j : ℕ) → slice_get all 0 ≡ Some j → (ps : List ℕ) × (all ≡ j ∷ ps)
first_there [] j is = absurd (cc)
first_there (i ∷ ps) j is = let same : i ≡ j = cc in (ps, ap (λ n. n ∷ ps) same)

module _ (d : DescV) where
  pub record ComponentRises (pace : Pace) (j : ℕ) : Type 0 where
    pub is_node : j < length d.nodes
    pub rises : pace.next ≤ j

  first_rises : {j : ℕ} {ps : List ℕ} {v : Values} {outer : List Left} {done : List ℕ} (pace : Pace) → Known d
      → IsStack d pace.next (fresh_at pace (length done)) (cut_left (j ∷ ps) v ∷ outer) done → pace.next ≤ j
  first_rises pace known (stack_node k from w bits ready (of_cut at same place just) inner) =
      let first = first_next d 12 known.description known.certified at refl in
      omega (arith, just, first)

  next_component_rises : {i from j : ℕ} {ps : List ℕ} {v : Values} {outer : List Left} {done : List ℕ} (pace : Pace) → Known d
      → IsStack d pace.next (fresh_at pace (length done)) (lead_left i from (j ∷ ps) v ∷ outer) done → pace.next ≤ j
  next_component_rises {ps = ps} pace known (stack_node k start v0 bits ready (of_lead parts before at parted so_far order fits well read up) inner) =
      later_rises d 12 known.description known.certified k ps before at parted up

  pub component_rises :
      {k next count j : ℕ} {frames : List Frame} {values : List Number} {stack : List Left} {done : List ℕ} (pace : Pace) (parts : List ℕ)
      → slice_get d.nodes k ≡ Some (Trunc parts) → slice_get parts next ≡ Some j → Known d
      → Shows d (frame.Trunc k next count ∷ frames) values stack done → IsStack d pace.next (fresh_at pace (length done)) stack done
      → ComponentRises pace j
  component_rises {k} {next} {count} {j} {frames} {values} {stack} {done} pace parts at here known shows stack_is = by (trunc_stands d shows)
    where
      by : TruncStands d k next count frames values stack done → ComponentRises pace j
      by (stands_cut outer others v is at_k none seen kept count_is round) =
          let same : parts ≡ others = cc in
          let found = first_there others j (ap (λ n. slice_get others n) (sym none) ∙ ap (λ l. slice_get l next) (sym same) ∙ here) in
          let there : stack ≡ cut_left (j ∷ found.0) v ∷ outer = is ∙ ap (λ l. cut_left l v ∷ outer) found.1 in
          let stood = subst (λ (l : List Left). IsStack d pace.next (fresh_at pace (length done)) l done) there stack_is in
          record { is_node = begun_within d (first_stack d pace known stood); rises = first_rises pace known stood }
      by (stands_lead outer i from after v others is has kept round) =
          let same : parts ≡ others = let a = has.at in cc in
          let found = next_there has.before after i j (ap (λ n. slice_get (has.before ++ i ∷ after) n)
          (sym has.next_is) ∙ ap (λ l. slice_get l next) (sym has.is) ∙ ap (λ l. slice_get l next) (sym same)
          ∙ here) in
          let there : stack ≡ lead_left i from (j ∷ found.0) v ∷ outer = is ∙ ap (λ l. lead_left i from l v ∷ outer) found.1 in
          let stood = subst (λ (l : List Left). IsStack d pace.next (fresh_at pace (length done)) l done) there stack_is in
          record { is_node = begun_within d (later_stack d pace known stood); rises = next_component_rises pace known stood }

  -- so do alternatives of a choice
  pub alternative_comes :
      {k part : ℕ} {frames : List Frame} {values : List Number} {stack : List Left} {done : List ℕ} (pace : Pace) (j : ℕ) (parts : List ℕ)
      → slice_get d.nodes k ≡ Some (Choice parts) → slice_get parts j ≡ Some part → Known d
      → Shows d (frame.Open k ∷ frames) values stack done → IsStack d pace.next (fresh_at pace (length done)) stack done
      → ComponentRises pace part
  alternative_comes {done = done} pace j parts at here known shows stack_is =
      let t = open_stands d shows in
      let same : parts ≡ t.parts = let a = t.at in cc in
      let there = ap (λ l. slice_get l j) (sym same) ∙ here in
      let chosen = choice_at d known t.at (subst (λ (l : List Left). IsStack d pace.next (fresh_at pace (length done)) l done) t.is stack_is) in
      let rises = alternative_rises d 12 known.description known.certified j t.at there in
      record {
        is_node = begun_within d (of_begun d (alternative_begun d 12 known.description known.certified j t.at there chosen.0));
        rises = omega (arith, rises, chosen.1);
      }
