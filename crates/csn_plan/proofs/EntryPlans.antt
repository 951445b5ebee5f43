-- The plans of all entries, made one after another.
use Rattle.std.proofs.Common.{◌≡◌, ℕ, ◌+◌, ◌<◌, ◌≤◌, zero, suc, List, [], ◌∷◌, ◌++◌, length, map, take, drop}
use Rattle.std.proofs.Common.{slice_get, slice_index_or, Some, refl, sym, ap, subst, arith}
use Rattle.std.specs.List.{AllByRecursion}
use Rattle.csn_catalogue.specs.declared.entry.Entry.{Entry}
use Rattle.csn_catalogue.specs.Entries.{all_entries, entry_root}
use Rattle.csn_catalogue.specs.Text.{catalogue_text}
use Rattle.csn_desc.specs.declared.reading.Reading.{Reading}
use Rattle.csn_desc.specs.Nodes.{DescV}
use Rattle.csn_grammar.specs.RulesV.{RulesV}
use Rattle.csn_resolve.proofs.Basics.Parts.{take_next}
use Rattle.csn_plan.specs.declared.compiling.NoPlan.{NoPlan}
use Rattle.csn_plan.specs.declared.compiling.TheConstants.{MOST_DESCRIPTION}
use Rattle.csn_plan.specs.Compiled.{AreCompiled, HasJob, IsCompiled, IsReason, rule_of_entry}

-- the descriptions of some entries, and one more
pub compiled_more : (reading : Reading) (rules : RulesV) (entries : List Entry) (plans : List DescV) (entry : Entry)
    (d : DescV) → AreCompiled rules reading entries plans → IsCompiled catalogue_text (entry_root entry)
    reading rules d
    → AreCompiled rules reading (entries ++ entry ∷ []) (plans ++ d ∷ [])
compiled_more reading rules [] [] entry d compiled one = (one, tt)
compiled_more reading rules [] (e ∷ ds) entry d compiled one = absurd compiled
compiled_more reading rules (first ∷ entries) [] entry d compiled one = absurd compiled
compiled_more reading rules (first ∷ entries) (e ∷ ds) entry d compiled one = (compiled.0, compiled_more reading rules entries ds entry d compiled.1 one)

-- descriptions of entries give each of them a job
pub all_have_jobs : length catalogue_text ≤ MOST_DESCRIPTION → (reading : Reading) (rules : RulesV)
    (entries : List Entry) (plans : List DescV) → AreCompiled rules reading entries plans
    → AllByRecursion HasJob (map (rule_of_entry reading) entries)
all_have_jobs fits reading rules [] plans compiled = tt
all_have_jobs fits reading rules (entry ∷ entries) [] compiled = absurd compiled
all_have_jobs fits reading rules (entry ∷ entries) (d ∷ ds) compiled = ((fits, rules, d, compiled.0), all_have_jobs fits reading rules entries ds compiled.1)

-- a member of a list
member : (xs : List Entry) (i : ℕ) (d : Entry) → i < length xs → slice_get xs i ≡ Some (slice_index_or xs i d)
member [] i d within = absurd (omega (arith, within))
member (x ∷ xs) zero d within = refl
member (x ∷ xs) (suc i) d within = member xs i d (omega (arith, within))

split_at : (xs : List Entry) (i : ℕ) (x : Entry) → slice_get xs i ≡ Some x → xs ≡ take i xs ++ x ∷ drop (suc i) xs
split_at [] i x is = absurd (cc)
split_at (y ∷ xs) zero x is = let same : y ≡ x = cc in ap (λ z. z ∷ xs) same
split_at (y ∷ xs) (suc i) x is = ap (λ l. y ∷ l) (split_at xs i x is)

module _ (reading : Reading) (rules : RulesV) (items : List Entry) (i : ℕ) (d : Entry) (root : List ℕ)
    (are : items ≡ all_entries) (within : i < length items) (is : root ≡ entry_root (slice_index_or items i d)) where
  stands : slice_get all_entries i ≡ Some (slice_index_or items i d)
  stands = subst (λ l. slice_get l i ≡ Some (slice_index_or items i d)) are (member items i d within)

  -- the first entry that has no plan, behind those that have one
  pub none_before :
      length catalogue_text ≤ MOST_DESCRIPTION → (plans : List DescV) (reason : NoPlan)
      → AreCompiled rules reading (take i all_entries) plans → IsReason catalogue_text root reading reason
      → (front : List Entry) × (entry : Entry) × (behind : List Entry) × (all_entries ≡ front ++ entry ∷ behind)
      × AllByRecursion HasJob (map (rule_of_entry reading) front) × IsReason catalogue_text (entry_root entry) reading reason
  none_before fits plans reason compiled why = (
    take i all_entries,
    slice_index_or items i d,
    drop (suc i) all_entries,
    split_at all_entries i (slice_index_or items i d) stands,
    all_have_jobs fits reading rules (take i all_entries) plans compiled,
    subst (λ r. IsReason catalogue_text r reading reason) is why,
  )

  -- one plan more
  pub one_plan_more : (plans new : List DescV) (plan : DescV)
      → new ≡ plans ++ plan ∷ [] → AreCompiled rules reading (take i all_entries) plans
      → IsCompiled catalogue_text root reading rules plan → AreCompiled rules reading (take (i + 1) all_entries) new
  one_plan_more plans new plan added compiled one =
      let entry = slice_index_or items i d in
      let more = compiled_more reading rules (take i all_entries) plans entry plan compiled
      (subst (λ r. IsCompiled catalogue_text r reading rules plan) is one) in
      subst (λ l. AreCompiled rules reading (take (i + 1) all_entries) l) (sym added)
      (subst (λ l. AreCompiled rules reading l (plans ++ plan ∷ [])) (sym (take_next all_entries i entry stands))
      more)
