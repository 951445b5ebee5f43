-- Steps without a refusal, and what they say of the parts that are left and of counts.
use Rattle.std.proofs.Common.{◌≡◌, ℕ, suc, Bool, true, false, List, [], ◌∷◌, ◌++◌, refl, ◌∙◌, ap, subst, Option, Some, None, is_some}
use Rattle.std.specs.Prelude.{if◌then◌else◌}
use Rattle.std.specs.Option.{option_map, option_or}
use Rattle.csn_desc.specs.declared.reading.Reading.{Reading}
use Rattle.csn_desc.specs.declared.node.Count.{Count}
use Rattle.csn_desc.specs.declared.node.Count.TheVariants.{Fixed, Counted}
use Rattle.csn_grammar.specs.declared.exponent.Exponent.{Exponent}
use Rattle.csn_grammar.specs.ExprV.{ExprV}
use Rattle.csn_grammar.specs.RulesV.{RulesV}
use Rattle.csn_grammar.specs.Names.{same_name}
use Rattle.csn_resolve.specs.declared.why.Why.{Why}
use Rattle.csn_resolve.specs.Why.{Refusal}
use Rattle.csn_resolve.specs.Seen.{Frame, Seen, seen_in, seen_of, with_labelled}
use Rattle.csn_resolve.specs.Gives.{count_at}
use Rattle.csn_resolve.specs.Steps.{Step, begins, refused, refusals_after}
pub use Rattle.csn_resolve.specs.Steps.{Quiet}
use Rattle.csn_resolve.specs.Counts.{CountSteps, count_number, count_unknown, count_wide, count_narrow}
use Rattle.csn_resolve.specs.Walk.{Refuses, is_refused, is_accepted}
use Rattle.csn_resolve.proofs.Basics.Bools.{no_both}

quiet_first : (xs ys : List Step) → Quiet (xs ++ ys) → Quiet xs
quiet_first [] ys q = tt
quiet_first (begins place ∷ xs) ys q = quiet_first xs ys q
quiet_first (refused why place ∷ xs) ys q = q

quiet_rest : (xs ys : List Step) → Quiet (xs ++ ys) → Quiet ys
quiet_rest [] ys q = q
quiet_rest (begins place ∷ xs) ys q = quiet_rest xs ys q
quiet_rest (refused why place ∷ xs) ys q = absurd q

pub quiet_along : {xs ys : List Step} → xs ≡ ys → Quiet xs → Quiet ys
quiet_along p q = let P : List Step → Type 0 = λ z. Quiet z in subst P p q

pub first_of : {steps : List Step} (xs ys : List Step) → steps ≡ xs ++ ys → Quiet steps → Quiet xs
first_of xs ys p q = quiet_first xs ys (quiet_along p q)

pub rest_of : {steps : List Step} (xs ys : List Step) → steps ≡ xs ++ ys → Quiet steps → Quiet ys
rest_of xs ys p q = quiet_rest xs ys (quiet_along p q)

-- the steps of a rule in tail form, of which none is a refusal: those of its node, of its items, of the
-- beginning of what is repeated, of a turn, on leaving it, and of the word that stops it
pub record TailQuiet (node items begun turn left ends : List Step) : Type 0 where
  pub node_quiet : Quiet node
  pub items_quiet : Quiet items
  pub begun_quiet : Quiet begun
  pub turn_quiet : Quiet turn
  pub left_quiet : Quiet left

pub tail_quiet :
    {steps : List Step} (node items begun turn left ends : List Step)
    → steps ≡ node ++ (items ++ (begun ++ (turn ++ (left ++ ends)))) → Quiet steps → TailQuiet node items begun turn left ends
tail_quiet node items begun turn left ends p q =
    let behind_node = rest_of node (items ++ (begun ++ (turn ++ (left ++ ends)))) p q in
    let behind_items = rest_of items (begun ++ (turn ++ (left ++ ends))) refl behind_node in
    let in_turn = rest_of begun (turn ++ (left ++ ends)) refl behind_items in
    record {
      node_quiet = first_of node (items ++ (begun ++ (turn ++ (left ++ ends)))) p q;
      items_quiet = first_of items (begun ++ (turn ++ (left ++ ends))) refl behind_node;
      begun_quiet = first_of begun (turn ++ (left ++ ends)) refl behind_items;
      turn_quiet = first_of turn (left ++ ends) refl in_turn;
      left_quiet = first_of left ends refl (rest_of turn (left ++ ends) refl in_turn);
    }

pub rest_empty : (xs ys : List Refusal) → xs ++ ys ≡ [] → ys ≡ []
rest_empty [] ys p = p
rest_empty (x ∷ xs) ys p = cc

-- no refusals, no step that is one
pub quiet_from : (begun : ℕ) (steps : List Step) → refusals_after begun steps ≡ [] → Quiet steps
quiet_from begun [] p = tt
quiet_from begun (begins place ∷ steps) p = quiet_from (suc begun) steps (rest_empty _ (refusals_after (suc begun) steps) p)
quiet_from begun (refused why place ∷ steps) p = cc

-- ---- the labels that are seen, with expressions and with nodes

abbrev pub SameFrame : Frame ExprV → Frame ℕ → Type 0
SameFrame [] [] = Unit {0}
SameFrame (x ∷ frame) (i ∷ other) = (x.0 ≡ i.0) × SameFrame frame other
SameFrame _ _ = ⊥

abbrev pub SameSeen : Seen ExprV → Seen ℕ → Type 0
SameSeen [] [] = Unit {0}
SameSeen (frame ∷ seen) (other ∷ others) = SameFrame frame other × SameSeen seen others
SameSeen _ _ = ⊥

pub same_with :
    (o : Option (List ℕ)) (x : ExprV) (i : ℕ) (frame : Frame ExprV) (other : Frame ℕ)
    → SameFrame frame other → SameFrame (with_labelled o x frame) (with_labelled o i other)
same_with None x i frame other same = same
same_with (Some label) x i frame other same = (refl, same)

picks :
    (b c : Bool) (x : ExprV) (i : ℕ) (s : Option ExprV) (t : Option ℕ) → b ≡ c → is_some s ≡ is_some t
    → is_some (if b then Some x else s) ≡ is_some (if c then Some i else t)
picks true true x i s t p later = refl
picks false false x i s t p later = later
picks true false x i s t p later = cc
picks false true x i s t p later = cc

same_in :
    (label : List ℕ) (frame : Frame ExprV) (other : Frame ℕ)
    → SameFrame frame other → is_some (seen_in frame label) ≡ is_some (seen_in other label)
same_in label [] [] same = refl
same_in label (x ∷ frame) (i ∷ other) same =
    picks (same_name x.0 label) (same_name i.0 label) x.1 i.1 (seen_in frame label) (seen_in other label)
    (ap (λ l. same_name l label) same.0) (same_in label frame other same.1)
same_in label [] (i ∷ other) same = absurd same
same_in label (x ∷ frame) [] same = absurd same

first_or :
    (a s : Option ExprV) (b t : Option ℕ) → is_some a ≡ is_some b → is_some s ≡ is_some t
    → is_some (option_or a s) ≡ is_some (option_or b t)
first_or (Some x) s (Some i) t p later = refl
first_or None s None t p later = later
first_or (Some x) s None t p later = cc
first_or None s (Some i) t p later = cc

same_label :
    (label : List ℕ) (seen : Seen ExprV) (others : Seen ℕ)
    → SameSeen seen others → is_some (seen_of seen label) ≡ is_some (seen_of others label)
same_label label [] [] same = refl
same_label label (frame ∷ seen) (other ∷ others) same =
    first_or (seen_in frame label) (seen_of seen label) (seen_in other label) (seen_of others label)
    (same_in label frame other same.0) (same_label label seen others same.1)
same_label label [] (other ∷ others) same = absurd same
same_label label (frame ∷ seen) [] same = absurd same

-- an item that is seen has a node
node_seen :
    (label : List ℕ) (seen : Seen ExprV) (others : Seen ℕ) (x : ExprV)
    → SameSeen seen others → seen_of seen label ≡ Some x → (i : ℕ) × (seen_of others label ≡ Some i)
node_seen label seen others x same at = is_there (seen_of others label) refl (same_label label seen others same)
  where
    is_there :
        (o : Option ℕ)
        → seen_of others label ≡ o → is_some (seen_of seen label) ≡ is_some (seen_of others label)
        → (i : ℕ) × (seen_of others label ≡ Some i)
    is_there (Some i) is p = (i, is)
    is_there None is p = absurd (no_both (ap is_some at) (p ∙ ap is_some is))

-- what is not refused does not hold
pub not_refused : {P : Type 0} {why : Why} {place : ℕ} {steps : List Step} → Refuses P why place steps → Quiet steps → ¬ P
not_refused (is_refused h p) q = absurd (quiet_along p q)
not_refused (is_accepted none p) q = none

module _ (rules : RulesV) (r : Reading) where
  -- a number exponent that is not refused is a count
  pub count_given :
      {seen : Seen ExprV} {place : ℕ} {k : Exponent} {steps : List Step} (others : Seen ℕ)
      → SameSeen seen others → CountSteps rules r seen place k steps → Quiet steps
      → (count : Count) × (count_at others k ≡ Some count)
  count_given others same (count_number {n = n} p) q = (Fixed n, refl)
  count_given others same (count_unknown none p) q = absurd (quiet_along p q)
  count_given others same (count_wide x is wide p) q = absurd (quiet_along p q)
  count_given {seen} others same (count_narrow {m = m} {c = c} {label = label} x is narrow p) q =
      let at = node_seen label seen others x same is in
      (Counted m at.0 c, ap (λ o. option_map (λ field. Counted m field c) o) at.1)
