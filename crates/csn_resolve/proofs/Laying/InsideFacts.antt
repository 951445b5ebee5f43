-- Depth on a walk without a refusal: at most 64 nodes, names and braces are inside one another, so fewer nodes
-- are where one is begun.
use Rattle.std.proofs.Common.{ℕ, suc, ◌<◌, ◌≤◌, List, [], ◌∷◌, ◌++◌, refl, arith}
use Rattle.std.specs.Prelude.{◌==◌}
use Rattle.csn_desc.specs.declared.reading.Reading.{Reading}
use Rattle.csn_desc.specs.declared.node.Node.{Node}
use Rattle.csn_desc.proofs.Innermost.{not_full}
use Rattle.csn_grammar.specs.RulesV.{RulesV}
use Rattle.csn_grammar.specs.TailForm.{EndV}
use Rattle.csn_resolve.specs.declared.why.Why.TheVariants.{TooDeep}
use Rattle.csn_resolve.specs.Seen.{Seen}
use Rattle.csn_resolve.specs.Steps.{begins}
use Rattle.csn_resolve.specs.Walk.{Around, inside, putting_in, in_turn, turn_begun, entering, node_at}
use Rattle.csn_resolve.proofs.Walking.Quiet.{Quiet, first_of, rest_of}
use Rattle.csn_resolve.proofs.Laying.ShownFacts.{not_refused, AreAmong, SeenShown, seen_wider}

module _ (all : List Node) (rules : RulesV) (r : Reading) where
  -- a part inside `round` nodes has no more round it on its walk, and what it sees there is shown
  pub record IsInside (a : Around) (seen : Seen ℕ) (shown : List ℕ) (round : ℕ) : Type 0 where
    pub few : a.depth ≤ 64
    pub within : round ≤ a.depth
    pub sees : SeenShown all rules r shown a.seen seen

  room :
      {a : Around} {seen : Seen ℕ} {shown : List ℕ} {round : ℕ} (s : ℕ)
      → Quiet (entering a s) → IsInside a seen shown round → a.depth < 64
  room {a} s q within = not_full a.depth 64 within.few (not_refused (a.depth == 64) TooDeep s q)

  -- in braces, or a name, which are no node
  pub braces_inside :
      {a : Around} {seen : Seen ℕ} {shown : List ℕ} {round : ℕ} (s : ℕ)
      → Quiet (entering a s) → IsInside a seen shown round → IsInside (inside a) seen shown round
  braces_inside s q h =
      let deep = room s q h in record { few = omega (arith, deep); within = omega (arith, h.within); sees = h.sees }

  pub name_inside :
      {a : Around} {seen : Seen ℕ} {shown : List ℕ} {round : ℕ} (n : List ℕ) (s : ℕ)
      → Quiet (entering a s) → IsInside a seen shown round → IsInside (putting_in n a) seen shown round
  name_inside n s q h =
      let deep = room s q h in record { few = omega (arith, deep); within = omega (arith, h.within); sees = h.sees }

  pub node_inside :
      {a : Around} {seen : Seen ℕ} {shown : List ℕ} {round : ℕ} (s : ℕ)
      → Quiet (node_at a s) → IsInside a seen shown round → (round < 64) × IsInside (inside a) seen shown (suc round)
  node_inside {a} s q h =
      let deep = room s (first_of (entering a s) (begins s ∷ []) refl q) h in
      (omega (arith, deep, h.within), record { few = omega (arith, deep); within = omega (arith, h.within); sees = h.sees })

  -- in the repetition of a rule in tail form, its braces and the sequence in them
  pub turn_inside :
      {a : Around} {seen : Seen ℕ} {shown : List ℕ} {round : ℕ} (end : EndV)
      → Quiet (turn_begun a end) → IsInside a seen shown round
      → (suc (suc round) < 64) × IsInside (in_turn a) seen shown (suc (suc round))
  turn_inside {a} end q h =
      let first = node_at a end.braces in
      let braces = entering (inside a) end.braces in
      let again = node_at (inside (inside a)) end.again.at in
      let word = node_at (in_turn a) end.again.at in
      let after = rest_of first (braces ++ (again ++ word)) refl q in
      let behind_it = rest_of braces (again ++ word) refl after in
      let many = node_inside end.braces (first_of first (braces ++ (again ++ word)) refl q) h in
      let around = braces_inside end.braces (first_of braces (again ++ word) refl after) many.1 in
      let turn = node_inside end.again.at (first_of again word refl behind_it) around in
      let last = node_inside end.again.at (rest_of again word refl behind_it) turn.1 in
      (last.0, turn.1)

  pub more_inside :
      {a : Around} {seen : Seen ℕ} {shown wider : List ℕ} {round : ℕ}
      → AreAmong shown wider → IsInside a seen shown round → IsInside a seen wider round
  more_inside {a} {seen} {shown} {wider} more h =
      record { few = h.few; within = h.within; sees = seen_wider all rules r shown wider a.seen seen more h.sees }
