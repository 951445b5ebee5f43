-- The blocks of the generator are counted in one way.
use Rattle.std.proofs.Common.{◌≡◌, ℕ, zero, suc, ◌-◌, ◌≤◌, ◌⊎◌, inl, inr, List, [], ◌∷◌, length, refl, sym, ◌∙◌, ap, subst, arith}
use Rattle.std.specs.Fmt.{decimal}
use Rattle.std.proofs.lemmas.Fmt.{decimal_injective}
use Rattle.csn_catalogue.specs.declared.entry.Entry.{Entry}
use Rattle.csn_catalogue.specs.Entries.{entry_word}
use Rattle.csn_desc.specs.Nodes.{DescV}
use Rattle.csn_desc.specs.Formed.{IsDescription}
use Rattle.csn_desc.specs.Laws.{MeaningIsDecided}
use Rattle.csn_replay.proofs.Heads.{one_word}
use Rattle.csn_soak.specs.declared.soaking.Soaked.{Soaked}
use Rattle.csn_soak.specs.Generator.{block}
use Rattle.csn_soak.specs.Soaking.{IsString, Counted, of_none, one_more, no_more, bits_in, IsSoaked}
use Rattle.csn_command.specs.Command.{IsSoak}

-- ---- what the words name

-- words ask for the blocks of one entry, and for one number of them
pub one_soak : {words : List (List ℕ)} {entry other : Entry} {n m : ℕ} → IsSoak words entry n → IsSoak words other m → (entry ≡ other) × (n ≡ m)
one_soak {words} {entry} {other} {n} {m} is has =
    let all : _ ∷ entry_word entry ∷ decimal n ∷ [] ≡ _ ∷ entry_word other ∷ decimal m ∷ [] = sym is.words_are ∙ has.words_are in
    let entries : entry_word entry ≡ entry_word other = cc in
    let numbers : decimal n ≡ decimal m = cc in
    (one_word entry other entries, decimal_injective n m (omega (arith, is.few)) (omega (arith, has.few)) numbers)

-- ---- counts

one_count : {Is : ℕ → Type 0} {n count other : ℕ} → Counted Is n count → Counted Is n other → count ≡ other
one_count (of_none none e) (of_none none' e') = e ∙ sym e'
one_count (of_none none e) (one_more k before more e' is rest) = absurd (omega (arith, none, more))
one_count (of_none none e) (no_more k more not rest) = absurd (omega (arith, none, more))
one_count (one_more k before more e is rest) (of_none none e') = absurd (omega (arith, none, more))
one_count {Is} (one_more k before more e is rest) (one_more k' before' more' e' is' rest') =
    let same : k ≡ k' = omega (arith, more, more') in
    let counts = one_count (subst (λ j. Counted Is j before) same rest) rest' in
    e ∙ ap suc counts ∙ sym e'
one_count {Is} (one_more k before more e is rest) (no_more k' more' not rest') =
    let same : k ≡ k' = omega (arith, more, more') in absurd (not (subst Is same is))
one_count (no_more k more not rest) (of_none none e') = absurd (omega (arith, none, more))
one_count {Is} (no_more k more not rest) (one_more k' before' more' e' is' rest') =
    let same : k' ≡ k = omega (arith, more, more') in absurd (not (subst Is same is'))
one_count {Is} {count = count} (no_more k more not rest) (no_more k' more' not' rest') =
    let same : k ≡ k' = omega (arith, more, more') in one_count (subst (λ j. Counted Is j count) same rest) rest'

each_count : (Is : ℕ → Type 0) → ((k : ℕ) → Is k ⊎ (¬ Is k)) → (n : ℕ) → (count : ℕ) × (count ≤ n) × Counted Is n count
each_count Is decided zero = (0, omega arith, of_none refl refl)
each_count Is decided (suc n) =
    let before = each_count Is decided n in
    elim (decided n) [
      | inl is ↦ (suc before.0, omega (arith, before.1), one_more n before.0 refl refl is before.2)
      | inr not ↦ (before.0, omega (arith, before.1), no_more n refl not before.2)
    ]

-- blocks come to one thing
pub one_soaked : {d : DescV} {entry : Entry} {n : ℕ} {s t : Soaked} → IsSoaked d entry n s → IsSoaked d entry n t → s ≡ t
one_soaked {d} {entry} {n} {s} {t} is has =
    let ok : s.ok ≡ t.ok = one_count is.ok has.ok in
    let refused : s.refused ≡ t.refused = omega (arith, ok, is.all, has.all) in
    let bits : s.bits ≡ t.bits = is.bits ∙ sym has.bits in
    let made : ℕ → ℕ → ℕ → Soaked = λ a b c. record { ok = a; refused = b; bits = c } in
    ap (λ a. made a s.refused s.bits) ok ∙ ap (λ b. made t.ok b s.bits) refused ∙ ap (λ c. made t.ok t.refused c) bits

-- and to something
pub each_soaked : MeaningIsDecided → (d : DescV) → IsDescription d → (entry : Entry) (n : ℕ) → (s : Soaked) × IsSoaked d entry n s
each_soaked decides d is entry n =
    let counted = each_count (λ k. IsString d (block entry k)) (λ k. decides d 0 0 (length d.nodes) [] (block entry k) is.numbered) n in
    (record { ok = counted.0; refused = n - counted.0; bits = bits_in entry n }, record { ok = counted.2; all = omega (arith, counted.1); bits = refl })
