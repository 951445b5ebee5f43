-- Leaves that take bits stay where they are: what is kept when bits are taken, and where the innermost window ends.
use Rattle.std.proofs.Common.{◌≡◌, ℕ, suc, ◌+◌, ◌<◌, ◌≤◌, ◌⊎◌, inl, inr, Bool, true, List, [], ◌∷◌, ◌++◌, length, sym}
use Rattle.std.proofs.Common.{◌∙◌, ap, subst, arith, append_assoc, append-nil, length-append, Option, Some, slice_get}
use Rattle.std.proofs.lemmas.Bool.Decides.{leb_tells}
use Rattle.csn_bits.specs.Octets.{IsBits}
use Rattle.csn_desc.specs.declared.symbol.Symbol.{Symbol}
use Rattle.csn_desc.specs.declared.node.Node.TheVariants.{Lits}
use Rattle.csn_desc.specs.Nodes.{DescV}
use Rattle.csn_desc.specs.Values.{Values}
use Rattle.csn_judge.specs.Known.{Known}
use Rattle.csn_judge.specs.Left.{Left, all_left, bits_left, symbols_left, spare_left, pad_left, rest_left}
use Rattle.csn_judge.specs.Left.{choice_left, none_left, window_left, parts_left, turns_left, free_left, cut_left}
use Rattle.csn_judge.specs.Left.{lead_left}
use Rattle.csn_judge.specs.Remains.{Within, Passes}
use Rattle.csn_judge.specs.Inside.{Inside, inside_none, inside_choice, inside_label, inside_window, inside_parts}
use Rattle.csn_judge.specs.Inside.{inside_turns, inside_free, inside_lead, IsLeftOf, of_field, of_literal, of_spare}
use Rattle.csn_judge.specs.Inside.{of_pad, of_pad_begun, of_rest, of_read, IsStack, stack_node, AreOwed}
use Rattle.csn_judge.specs.Shown.{limit_in}
use Rattle.csn_judge.proofs.StepFacts.{within_along}
use Rattle.csn_judge.proofs.Closing.{Full, Ends, passes_of, closed_last, closed_full}
use Rattle.csn_judge.proofs.Stacks.{field_read, literal_read, spare_read, pad_read, rest_read}
use Rattle.csn_bits.proofs.Packing.{IsBits-append}
use Rattle.csn_judge.specs.Coming.{Coming, IsGood}

-- ---- windows

-- where there is a window, a place that is inside all windows is not behind where the innermost one ends
pub limit_within : (stack : List Left) (place : ℕ) → limit_in stack < 4294967295 → Within stack place → place ≤ limit_in stack
limit_within [] place some within = absurd (omega (arith, some))
limit_within (window_left end ∷ outer) place some within =
    elim (leb_tells 4294967295 (limit_in outer)) [
      | inl far ↦ omega (arith, far.1, within.0, some)
      | inr near ↦ omega (arith, within.0, limit_within outer place near.1 within.1)
    ]
limit_within (all_left i v ∷ outer) place some within = limit_within outer place some within.1
limit_within (bits_left n ∷ outer) place some within = limit_within outer place some within.1
limit_within (symbols_left run ∷ outer) place some within = limit_within outer place some within.1
limit_within (spare_left s ∷ outer) place some within = limit_within outer place some within.1
limit_within (pad_left begun ∷ outer) place some within = limit_within outer place some within.1
limit_within (rest_left ∷ outer) place some within = limit_within outer place some within.1
limit_within (choice_left parts v ∷ outer) place some within = limit_within outer place some within.1
limit_within (none_left ∷ outer) place some within = limit_within outer place some within.1
limit_within (parts_left i from parts v ∷ outer) place some within = limit_within outer place some within.1
limit_within (turns_left n i v ∷ outer) place some within = limit_within outer place some within.1
limit_within (free_left i v ∷ outer) place some within = limit_within outer place some within.1
limit_within (cut_left parts v ∷ outer) place some within = limit_within outer place some within.1
limit_within (lead_left i from parts v ∷ outer) place some within = limit_within outer place some within.1

-- where the innermost window is full, no place further on is inside all windows
pub full_at : (outer : List Left) (done : List ℕ) → length done ≡ limit_in outer → length done < 4294967295 → Full outer done
full_at outer done end small place within = omega (arith, end, limit_within outer place (omega (arith, end, small)) within)

-- ---- what is owed, where bits are taken

taken_inside : (d : DescV) {from : ℕ} (outer : List Left) (done taken ahead : List ℕ) → from ≤ length done
    → (from < length done) ⊎ ((0 < length (taken ++ ahead)) × Within outer (suc (length done)))
    → (from < length (done ++ taken)) ⊎ ((0 < length ahead) × Within outer (suc (length (done ++ taken))))
taken_inside d outer done taken ahead order (inl some) = inl (omega (arith, some, length-append done taken))
taken_inside d outer done [] ahead order (inr owed) = inr (owed.0, within_along d outer (omega (arith, ap length (append-nil done))) owed.1)
taken_inside d outer done (a ∷ taken) ahead order (inr owed) = inl (omega (arith, order, length-append done (a ∷ taken)))

module _ (d : DescV) where
  -- where no bit may be taken, what can end with no bits does
  pub closed_passes : {coming : Coming} {left : Left} {outer : List Left} {done : List ℕ}
      → IsGood coming → (coming.ended ≡ true) ⊎ (coming.place ≡ coming.limit)
      → coming.place ≡ length done → coming.limit ≡ limit_in outer → Ends d left done
      → Passes d coming.ended (left ∷ outer) (none_left ∷ outer) done [] coming.bits []
  closed_passes {coming} {left} {outer} {done} good (inl over) place limit ends =
      let P : Bool → Type 0 = λ e. Passes d e (left ∷ outer) (none_left ∷ outer) done [] coming.bits [] in
      let Q : List ℕ → Type 0 = λ l. Passes d true (left ∷ outer) (none_left ∷ outer) done [] l [] in
      subst P (sym over) (subst Q (sym (good.nothing over)) (closed_last d ends))
  closed_passes {coming} {left} {outer} {done} good (inr full) place limit ends =
      passes_of coming.ended (closed_full d coming.bits ends (full_at outer done (sym place ∙ full ∙ limit) (omega (arith, good.fits, place))))

  pub owed_taken : {fresh : Option ℕ} {outer : List Left} {i from : ℕ} {v : Values} (done taken ahead : List ℕ)
      → Inside d fresh outer i from v → from ≤ length done → AreOwed outer done (taken ++ ahead) → AreOwed outer (done ++ taken) ahead
  owed_taken done taken ahead (inside_none none root start sees) order owed = tt
  owed_taken done taken ahead (inside_choice k j parts at here ready inner) order owed = owed_taken done taken ahead inner order owed
  owed_taken done taken ahead (inside_label k at ready inner) order owed = owed_taken done taken ahead inner order owed
  owed_taken done taken ahead (inside_window k n at counts end ready inner) order owed = owed_taken done taken ahead inner order owed
  owed_taken done taken ahead (inside_parts k start v0 parts before at split so_far earlier none fits well ready inner) order owed =
      owed_taken done taken ahead inner (omega (arith, order, earlier)) owed
  owed_taken done taken ahead (inside_turns k start at turn earlier none ready was turns inner) order owed =
      owed_taken done taken ahead inner (omega (arith, order, earlier)) owed
  owed_taken done taken ahead (inside_free k start at so_far earlier ready was turns inner) order owed =
      owed_taken done taken ahead inner (omega (arith, order, earlier)) owed
  owed_taken done taken ahead (inside_lead {outer = outer} k start v0 parts before at split so_far earlier fits well ready inner) order owed =
      (taken_inside d outer done taken ahead order owed.0, owed_taken done taken ahead inner (omega (arith, order, earlier)) owed.1)

  -- ---- leaves, where bits are taken

  -- what is kept where bits are taken of the innermost node
  pub record Kept (next : ℕ) (fresh : Option ℕ) (now : Left) (outer : List Left) (done taken ahead : List ℕ) : Type 0 where
    pub stack_is : IsStack d next fresh (now ∷ outer) (done ++ taken)
    pub owed : AreOwed outer (done ++ taken) ahead

  pub field_kept : {next : ℕ} {fresh : Option ℕ} {n m : ℕ} {outer : List Left} {done : List ℕ} (taken ahead : List ℕ)
      → IsStack d next fresh (bits_left n ∷ outer) done → IsBits taken → n ≡ length taken + m → AreOwed outer done (taken ++ ahead)
      → Kept next fresh (bits_left m) outer done taken ahead
  field_kept {n} {m} {outer} {done} taken ahead (stack_node i from v bits ready (of_field all at counts place order up) inner) good sum owed =
      record {
        stack_is =
            stack_node i from v (IsBits-append done taken bits good) ready
            (of_field all at counts (omega (arith, place, sum, length-append done taken)) (omega (arith, order, length-append done taken)) up) inner;
        owed = owed_taken done taken ahead inner order owed;
      }

  pub field_done : {next : ℕ} {fresh : Option ℕ} → Known d → {n : ℕ} {outer : List Left} {done : List ℕ}
      → IsStack d next fresh (bits_left n ∷ outer) done → n ≡ 0 → IsStack d next fresh (none_left ∷ outer) done
  field_done known (stack_node i from v bits ready (of_field all at counts place order up) inner) none =
      stack_node i from v bits ready
      (of_read (field_read d 12 known.description known.certified at counts (omega (arith, place, none))
      order ready.widths bits) up) inner

  pub literal_kept : {next : ℕ} {fresh : Option ℕ} (run more : List Symbol) {outer : List Left} {done : List ℕ} (taken ahead : List ℕ)
      → IsStack d next fresh (symbols_left (run ++ more) ∷ outer) done → IsBits taken → length taken ≡ length run → AreOwed outer done (taken ++ ahead)
      → Kept next fresh (symbols_left more) outer done taken ahead
  literal_kept run more {outer} {done} taken ahead (stack_node i from v bits ready (of_literal before at place up) inner) good size owed =
      record {
        stack_is =
            stack_node i from v (IsBits-append done taken bits good) ready
            (of_literal (before ++ run) (at ∙ ap (λ l. Some (Lits l)) (sym (append_assoc before run more)))
            (omega (arith, place, size, length-append done taken, length-append before run)) up) inner;
        owed = owed_taken done taken ahead inner (omega (arith, place)) owed;
      }

  pub literal_done : {next : ℕ} {fresh : Option ℕ} → Known d → {run : List Symbol} {outer : List Left} {done : List ℕ}
      → IsStack d next fresh (symbols_left run ∷ outer) done → run ≡ [] → IsStack d next fresh (none_left ∷ outer)
      done
  literal_done known {run} {outer} {done} (stack_node i from v bits ready (of_literal before at place up) inner) none =
      let whole : slice_get d.nodes i ≡ Some (Lits before) = at ∙ ap (λ l. Some (Lits (before ++ l))) none ∙ ap (λ l. Some (Lits l)) (append-nil before) in
      stack_node i from v bits ready (of_read (literal_read d 12 known.description known.certified whole place) up) inner

  pub spare_kept : {next : ℕ} {fresh : Option ℕ} → Known d → {s : Symbol} {outer : List Left} {done : List ℕ} (taken ahead : List ℕ)
      → IsStack d next fresh (spare_left s ∷ outer) done → IsBits taken → length taken ≡ 1 → AreOwed outer done (taken ++ ahead)
      → Kept next fresh none_left outer done taken ahead
  spare_kept known {s} {outer} {done} taken ahead (stack_node i from v bits ready (of_spare at place up) inner) good one owed =
      record {
        stack_is =
            stack_node i from v (IsBits-append done taken bits good) ready
            (of_read (spare_read d 12 known.description known.certified at (omega (arith, place, one, length-append done taken))) up) inner;
        owed = owed_taken done taken ahead inner (omega (arith, place)) owed;
      }

  pub pad_kept : {next : ℕ} {fresh : Option ℕ} {begun : Bool} {outer : List Left} {done : List ℕ} (taken ahead : List ℕ)
      → IsStack d next fresh (pad_left begun ∷ outer) done → IsBits taken → 0 < length taken → AreOwed outer done (taken ++ ahead)
      → Kept next fresh (pad_left true) outer done taken ahead
  pad_kept {next} {fresh} {begun} {outer} {done} taken ahead (stack_node i from v bits ready left inner) good some owed =
      record { stack_is = by left; owed = owed_taken done taken ahead inner (order left) owed }
    where
      by : {begun : Bool} → IsLeftOf d next (pad_left begun) i from (length outer) v done → IsStack d next fresh (pad_left true ∷ outer) (done ++ taken)
      by (of_pad at place up) = stack_node i from v (IsBits-append done taken bits good) ready
          (of_pad_begun at (omega (arith, place, some, length-append done taken)) up) inner
      by (of_pad_begun at before up) = stack_node i from v (IsBits-append done taken bits good) ready
          (of_pad_begun at (omega (arith, before, length-append done taken)) up) inner

      order : {begun : Bool} → IsLeftOf d next (pad_left begun) i from (length outer) v done → from ≤ length done
      order (of_pad at place up) = omega (arith, place)
      order (of_pad_begun at before up) = omega (arith, before)

  pub pad_done : {next : ℕ} {fresh : Option ℕ} → Known d → {outer : List Left} {done : List ℕ}
      → IsStack d next fresh (pad_left true ∷ outer) done → IsStack d next fresh (none_left ∷ outer) done
  pad_done known (stack_node i from v bits ready (of_pad_begun at before up) inner) = stack_node i from v bits ready
      (of_read (pad_read d 12 known.description known.certified at before) up) inner

  pub rest_kept : {next : ℕ} {fresh : Option ℕ} {outer : List Left} {done : List ℕ} (taken ahead : List ℕ)
      → IsStack d next fresh (rest_left ∷ outer) done → IsBits taken → AreOwed outer done (taken ++ ahead)
      → Kept next fresh rest_left outer done taken ahead
  rest_kept {outer} {done} taken ahead (stack_node i from v bits ready (of_rest at order up) inner) good owed =
      record {
        stack_is = stack_node i from v (IsBits-append done taken bits good) ready (of_rest at (omega (arith, order, length-append done taken)) up) inner;
        owed = owed_taken done taken ahead inner order owed;
      }

  pub rest_done : {next : ℕ} {fresh : Option ℕ} → Known d → {outer : List Left} {done : List ℕ}
      → IsStack d next fresh (rest_left ∷ outer) done → IsStack d next fresh (none_left ∷ outer) done
  rest_done known (stack_node i from v bits ready (of_rest at order up) inner) = stack_node i from v bits ready
      (of_read (rest_read d 12 known.description known.certified at order) up) inner
