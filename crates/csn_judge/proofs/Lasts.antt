-- Padding and a rest go on while bits may be taken, since nothing may stand behind them.
use Rattle.std.proofs.Common.{◌≡◌, ℕ, suc, ◌+◌, ◌-◌, ◌%◌, ◌<◌, ◌≤◌, inl, inr, Bool, List, [], ◌∷◌, ◌++◌, length, take}
use Rattle.std.proofs.Common.{refl, ◌∙◌, ap, subst, arith, append_assoc, append-nil, length-append, Option, Some}
use Rattle.std.proofs.Common.{slice_get}
use Rattle.std.proofs.lemmas.Bool.Decides.{leb_tells}
use Rattle.csn_desc.specs.declared.symbol.Symbol.TheVariants.{Low}
use Rattle.csn_desc.specs.declared.moves.Move.{Move}
use Rattle.csn_desc.specs.declared.node.Node.{Node}
use Rattle.csn_desc.specs.declared.node.Node.TheVariants.{Pad, Rest}
use Rattle.csn_desc.specs.Nodes.{DescV}
use Rattle.csn_desc.specs.Spelled.{IsSpare}
use Rattle.csn_desc.specs.Values.{Values}
use Rattle.csn_desc.specs.Formed.{IsDescription}
use Rattle.csn_desc.proofs.Splits.{splits, inside, behind}
use Rattle.csn_look.specs.Ends.{InEnds, ends_pad, ends_rest}
use Rattle.csn_look.specs.Reached.{MayStandBehind}
use Rattle.csn_look.proofs.Meaning.LeastSets.{ends_at}
use Rattle.csn_certify.specs.Conflicts.{Certified, IsLast}
use Rattle.csn_judge.specs.Left.{Left, pad_left, completes_pad, begins_whole, begins_pad}
use Rattle.csn_judge.specs.Remains.{Within, Rest as RestOf, Goes, goes_next, goes_here}
use Rattle.csn_judge.specs.Inside.{IsReady, Inside, HasWidth}
use Rattle.csn_judge.proofs.StepFacts.{NotBefore}
use Rattle.csn_judge.proofs.Leaves.{spare_front, spare_back}
use Rattle.csn_judge.proofs.Standing.{rest_stands, goes_stands}
use Rattle.csn_judge.proofs.LookAhead.{within_less}
use Rattle.csn_judge.specs.Known.{Known}

-- a node that must be last is read
pub record AtLast (d : DescV) (k from : ℕ) (v : Values) (outer : List Left) : Type 0 where
  pub node : Node
  pub at : slice_get d.nodes k ≡ Some node
  pub last : IsLast node
  pub ready : IsReady d k from (length outer) v
  pub fresh : Option ℕ
  pub inner : Inside d fresh outer k from v
  pub ends : (place : ℕ) → InEnds d k (from % 8) (place % 8)
  pub width : (b : List ℕ) → HasWidth d k b

under_eight : (n : ℕ) → n % 8 < 8
under_eight n = omega arith

at_last : (d : DescV) {fresh : Option ℕ} {k from : ℕ} {v : Values} {outer : List Left} (node : Node)
    → slice_get d.nodes k ≡ Some node → IsLast node → ((place : ℕ) → InEnds d k (from % 8) (place % 8))
    → ((b : List ℕ) → HasWidth d k b) → IsReady d k from (length outer) v → Inside d fresh outer k from v
    → AtLast d k from v outer
at_last d {fresh} node at last ends width ready inner =
    record { node = node; at = at; last = last; ready = ready; fresh = fresh; inner = inner; ends = ends; width = width }

pub pad_at_last : (d : DescV) {fresh : Option ℕ} {k from : ℕ} {v : Values} {outer : List Left}
    → slice_get d.nodes k ≡ Some Pad → IsReady d k from (length outer) v → Inside d fresh outer k from v
    → AtLast d k from v outer
pad_at_last d at =
    at_last d Pad at tt (λ place. ends_at Pad at (ends_pad (under_eight place)))
    (λ b. record { field = λ w e. absurd (grind (arith, at, e)); label = λ w e. absurd (grind (arith, at, e)) })

pub rest_at_last : (d : DescV) {fresh : Option ℕ} {k from : ℕ} {v : Values} {outer : List Left}
    → slice_get d.nodes k ≡ Some Rest → IsReady d k from (length outer) v → Inside d fresh outer k from v
    → AtLast d k from v outer
rest_at_last d at =
    at_last d Rest at tt (λ place. ends_at Rest at (ends_rest (under_eight place)))
    (λ b. record { field = λ w e. absurd (grind (arith, at, e)); label = λ w e. absurd (grind (arith, at, e)) })

-- which of two numbers is not the greater
data Fits (a b : ℕ) : Type 0 where
  fits : a ≤ b → Fits a b
  short : b < a → Fits a b

fits_or : (a b : ℕ) → Fits a b
fits_or a b = elim (leb_tells a b) [ inl long ↦ fits long.1 | inr less ↦ short less.1 ]

module _ (d : DescV) (most : ℕ) (is : IsDescription d) (certified : Certified d most) (known : Known d) where
  module _ {k from : ℕ} {v : Values} {outer : List Left} (how : AtLast d k from v outer) where
    no_bit : (done : List ℕ) (bit : ℕ) (rest : List ℕ) → MayStandBehind d k (length done % 8) (take (suc (length done) - length done) (bit ∷ rest)) → ⊥
    no_bit done bit rest stands =
        let one : suc (length done) - length done ≡ 1 = omega arith in
        known.last d most k (from % 8) (length done % 8) bit how.node certified how.at how.last how.ready.reached
        (how.ends (length done)) (stands bit [] (ap (λ n. take n (bit ∷ rest)) one))

    pub rest_none_behind : (done : List ℕ) (bit : ℕ) (rest : List ℕ) {moves : List Move}
        → Within outer (suc (length done)) → RestOf d outer done (bit ∷ rest) moves → ⊥
    rest_none_behind done bit rest within o = no_bit done bit rest (rest_stands d is known (suc (length done)) how.inner (how.width _) within o)

    pub goes_none_behind : (done : List ℕ) (bit : ℕ) (rest : List ℕ) → Within outer (suc (length done)) → Goes d outer done (bit ∷ rest) → ⊥
    goes_none_behind done bit rest within g = no_bit done bit rest (goes_stands d is known (suc (length done)) how.inner (how.width _) within g)

    -- a first piece that is shorter than what is taken leaves a bit behind it
    record Behind (b2 : List ℕ) : Type 0 where
      pub bit : ℕ
      pub rest : List ℕ
      pub there : b2 ≡ bit ∷ rest

    behind_short : (taken x b1 b2 : List ℕ) → taken ++ x ≡ b1 ++ b2 → length b1 < length taken → Behind b2
    behind_short taken x b1 [] e less = absurd (omega (arith, ap length e, length-append taken x, append-nil b1, ap length (append-nil b1), less))
    behind_short taken x b1 (a ∷ b2) e less = record { bit = a; rest = b2; there = refl }

    pub not_before : {left : Left} (done taken : List ℕ) → Within outer (length done + length taken) → NotBefore d left outer done taken
    not_before {left} done taken within =
        record {
          rest = λ x b1 b2 first others e c o. by_rest x b1 b2 others e o (fits_or (length taken) (length b1));
          goes = λ x b1 b2 first e c g. by_goes x b1 b2 e g (fits_or (length taken) (length b1));
        }
      where
        room : (b1 : List ℕ) → length b1 < length taken → Within outer (suc (length (done ++ b1)))
        room b1 less = within_less outer _ _ (omega (arith, less, length-append done b1)) within

        by_rest : (x b1 b2 : List ℕ) (others : List Move)
            → taken ++ x ≡ b1 ++ b2 → RestOf d outer (done ++ b1) b2 others → Fits (length taken) (length b1)
            → length taken ≤ length b1
        by_rest x b1 b2 others e o (fits long) = long
        by_rest x b1 b2 others e o (short less) =
            let found = behind_short taken x b1 b2 e less in
            let P : List ℕ → Type 0 = λ l. RestOf d outer (done ++ b1) l others in
            absurd (rest_none_behind (done ++ b1) found.bit found.rest (room b1 less) (subst P found.there o))

        by_goes : (x b1 b2 : List ℕ) → taken ++ x ≡ b1 ++ b2 → Goes d outer (done ++ b1) b2 → Fits (length taken) (length b1) → length taken ≤ length b1
        by_goes x b1 b2 e g (fits long) = long
        by_goes x b1 b2 e g (short less) =
            let found = behind_short taken x b1 b2 e less in
            let P : List ℕ → Type 0 = λ l. Goes d outer (done ++ b1) l in
            absurd (goes_none_behind (done ++ b1) found.bit found.rest (room b1 less) (subst P found.there g))

    -- padding that differs at a bit
    pub pad_differs : (begun : Bool) (alike : List ℕ) (done : List ℕ) (bit : ℕ) (rest : List ℕ)
        → ¬ IsSpare d.reading Low (length done + length alike) (bit ∷ [])
        → Within outer (suc (length done + length alike))
        → ¬ Goes d (pad_left begun ∷ outer) done (alike ++ bit ∷ rest)
    pad_differs begun alike done bit rest not within g = by g
      where
        no_spare : {b : List ℕ} (x y : List ℕ) → b ≡ alike ++ (bit ∷ x) → IsSpare d.reading Low (length done) b → ⊥
        no_spare {b} x y e good =
            let P : List ℕ → Type 0 = λ l. IsSpare d.reading Low (length done) l in
            not (spare_front d.reading Low (length done + length alike) (bit ∷ []) x (spare_back d.reading Low (length done) alike (bit ∷ x) (subst P e good)))

        by : Goes d (pad_left begun ∷ outer) done (alike ++ bit ∷ rest) → ⊥
        by (goes_here (begins_pad good) within_more) = no_spare rest [] refl good
        by (goes_here (begins_whole moves (completes_pad some good leave)) within_more) = no_spare rest [] refl good
        by (goes_next b1 b2 first cut (completes_pad some good leave) h) = by_size (fits_or (suc (length alike)) (length b1))
          where
            longer : (b1 : List ℕ) → alike ++ bit ∷ rest ≡ b1 ++ b2 → suc (length alike) ≤ length b1 → IsSpare d.reading Low (length done) b1 → ⊥
            longer b1 cut long good =
                elim (splits alike (bit ∷ rest) b1 b2 cut) [
                  | inside m p q ↦ absurd (omega (arith, ap length p, length-append b1 m, long))
                  | behind m p q ↦ first_bit m p q
                ]
              where
                first_bit : (m : List ℕ) → b1 ≡ alike ++ m → bit ∷ rest ≡ m ++ b2 → ⊥
                first_bit [] p q = absurd (omega (arith, ap length p, ap length (append-nil alike), long))
                first_bit (a ∷ m) p q =
                    let same : a ≡ bit = cc in
                    no_spare m [] (p ∙ ap (λ k. alike ++ k ∷ m) same) good

            by_size : Fits (suc (length alike)) (length b1) → ⊥
            by_size (fits long) = longer b1 cut long good
            by_size (short less) =
                let found = behind_short (alike ++ bit ∷ []) rest b1 b2 (append_assoc alike (bit ∷ []) rest ∙ cut)
                (omega (arith, less, length-append alike (bit ∷ []))) in
                let P : List ℕ → Type 0 = λ l. Goes d outer (done ++ b1) l in
                goes_none_behind (done ++ b1) found.bit found.rest
                (within_less outer _ _ (omega (arith, less, length-append done b1)) within)
                (subst P found.there h)
