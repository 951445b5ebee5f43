-- Filling the entries of all words that go on from a word: for each number of bits these stand at places one after
-- another.
use Rattle.std.proofs.Common.{◌≡◌, ◌≢◌, ℕ, suc, ◌+◌, ◌-◌, ◌*◌, ◌/◌, ◌%◌, ◌^◌, ◌<◌, ◌≤◌, ◌⊎◌, inl, inr, List, ◌++◌}
use Rattle.std.proofs.Common.{length, take, drop, refl, sym, ◌∙◌, ap, subst, arith, take-append-drop}
use Rattle.std.specs.Prelude.{slice_index_or}
use Rattle.std.proofs.lemmas.Bool.{cases_lt}
use Rattle.std.proofs.lemmas.Nat.{pow-add}
use Rattle.std.proofs.Math.Seq.{take-append_seam}
use Rattle.std.proofs.Math.Nat.{div-eq_of_lt, div-eq_of_lt-le, div-lt_iff_lt-mul, le-div_iff_mul-le, mul-le-mul_right, mod-eq_of_lt, pow-le-pow_right}
use Rattle.csn_look.specs.KeyMarks.{IsWord, place_of}
use Rattle.csn_look.proofs.Basics.Places.{place_of-most, place_of-some, place_of-same, word_take}
use Rattle.csn_certify.specs.declared.pick_table.Entry.{Entry}
use Rattle.csn_certify.specs.declared.pick_table.Entry.TheVariants.{Refuse, Take}
use Rattle.csn_certify.specs.Conflicts.{IsBegunBy}
use Rattle.csn_certify.specs.Filling.{IsTaken, FillsUnder}
use Rattle.csn_certify.proofs.PickTables.{place_cut}

-- how a place stands to those that are another one where so many last bits are left off
pub data Stands (place over at : ℕ) : Type 0 where
  before : at < place * 2 ^ over → (at / 2 ^ over ≢ place) → Stands place over at
  within : place * 2 ^ over ≤ at → at < place * 2 ^ over + 2 ^ over → at / 2 ^ over ≡ place → Stands place over at
  behind : place * 2 ^ over + 2 ^ over ≤ at → (at / 2 ^ over ≢ place) → Stands place over at

some : (over : ℕ) → 0 < 2 ^ over
some over =
    let none : 0 ≤ over = omega arith in
    let least : 2 ^ 0 ≤ 2 ^ over = pow-le-pow_right {n = 2} (omega arith) none in
    omega (arith, least)

pub stands : (place over at : ℕ) → Stands place over at
stands place over at = by_first (cases_lt at (place * 2 ^ over))
  where
    next : (place + 1) * 2 ^ over ≡ place * 2 ^ over + 2 ^ over
    next = omega arith

    by_end : place * 2 ^ over ≤ at → (at < place * 2 ^ over + 2 ^ over) ⊎ (place * 2 ^ over + 2 ^ over ≤ at) → Stands place over at
    by_end from (inl less) = within from less (div-eq_of_lt-le (2 ^ over) from (subst (λ (n : ℕ). at < n) (sym next) less))
    by_end from (inr more) =
        behind more (λ same.
        let below : at / 2 ^ over < place + 1 = omega (arith, same) in
        let less = (div-lt_iff_lt-mul (some over)).0 below in
        let long = subst (λ (n : ℕ). n ≤ at) (sym next) more in
        absurd (omega (arith, less, long)))

    by_first : (at < place * 2 ^ over) ⊎ (place * 2 ^ over ≤ at) → Stands place over at
    by_first (inl less) =
        before less (λ same.
        let above : place ≤ at / 2 ^ over = omega (arith, same) in
        let most = (le-div_iff_mul-le (some over)).0 above in
        absurd (omega (arith, less, most)))
    by_first (inr from) = by_end from (cases_lt at (place * 2 ^ over + 2 ^ over))

-- the places of words that go on by so many bits are those of entries
pub level_within : (width more : ℕ) (word : List ℕ) → IsWord word → length word + more ≤ width → place_of word * 2 ^ more + 2 ^ more ≤ 2 ^ (width + 1)
level_within width more word is short =
    let below = place_of-most word is.bits in
    let most : place_of word + 1 ≤ 2 ^ suc (length word) = omega (arith, below) in
    let times : (place_of word + 1) * 2 ^ more ≤ 2 ^ suc (length word) * 2 ^ more = mul-le-mul_right (2 ^ more) most in
    let power : 2 ^ (suc (length word) + more) ≡ 2 ^ suc (length word) * 2 ^ more = pow-add 2 (suc (length word)) more in
    let long : suc (length word) + more ≤ width + 1 = omega (arith, short) in
    let whole : 2 ^ (suc (length word) + more) ≤ 2 ^ (width + 1) = pow-le-pow_right {n = 2} (omega arith) long in
    let next : (place_of word + 1) * 2 ^ more ≡ place_of word * 2 ^ more + 2 ^ more = omega arith in
    omega (arith, times, power, whole, next)

-- these places, as they are computed
pub record LevelIs (width place first end more : ℕ) : Type 0 where
  pub first_is : first ≡ place * 2 ^ more
  pub end_is : end ≡ place * 2 ^ more + 2 ^ more
  pub within : end ≤ 2 ^ (width + 1)

pub level_is : (width more place : ℕ) (word : List ℕ) → IsWord word → width ≤ 12 → length word + more ≤ width
    → place ≡ place_of word → LevelIs width (place_of word) (place * 2 ^ more % 2 ^ 64)
    (place * 2 ^ more % 2 ^ 64 + 1 * 2 ^ more % 2 ^ 64) more
level_is width more place word is narrow short same =
    let inside = level_within width more word is short in
    let few : width + 1 ≤ 13 = omega (arith, narrow) in
    let small : 2 ^ (width + 1) ≤ 2 ^ 13 = pow-le-pow_right {n = 2} (omega arith) few in
    let product : place * 2 ^ more ≡ place_of word * 2 ^ more = ap (λ n. n * 2 ^ more) same in
    let first : place * 2 ^ more % 2 ^ 64 ≡ place_of word * 2 ^ more = mod-eq_of_lt (omega (arith, inside, small, product)) ∙ product in
    let count : 1 * 2 ^ more % 2 ^ 64 ≡ 2 ^ more = mod-eq_of_lt (omega (arith, inside, small)) ∙ omega arith in
    record { first_is = first; end_is = omega (arith, first, count); within = omega (arith, first, count, inside) }

-- the entry stands at the places that are this one where fewer than so many last bits are left off, and all others
-- are as before
pub record Covered (place many : ℕ) (entry : Entry) (old new : List Entry) : Type 0 where
  pub covered : (at over : ℕ) → over < many → at / 2 ^ over ≡ place → slice_index_or new at Refuse ≡ entry
  pub others :
      (at : ℕ) → ((over : ℕ) → over < many → at / 2 ^ over ≢ place)
      → slice_index_or new at Refuse ≡ slice_index_or old at Refuse

pub cover_none : (place : ℕ) (entry : Entry) (old : List Entry) → Covered place 0 entry old old
cover_none place entry old = record { covered = λ at over less. absurd (omega arith); others = λ at never. refl }

pub cover_more : (place many first end : ℕ) (entry : Entry) (old a new : List Entry)
    → first ≡ place * 2 ^ many → end ≡ place * 2 ^ many + 2 ^ many → Covered place many entry old a
    → ((at : ℕ) → first ≤ at → at < end → slice_index_or new at Refuse ≡ entry)
    → ((at : ℕ) → at < first → slice_index_or new at Refuse ≡ slice_index_or a at Refuse)
    → ((at : ℕ) → end ≤ at → slice_index_or new at Refuse ≡ slice_index_or a at Refuse)
    → Covered place (many + 1) entry old new
cover_more place many first end entry old a new is_first is_end all put before_it behind_it =
    record {
      covered = λ at over less same. its at over (stands place many at) (either over many less) same;
      others = λ at never. rest at never (stands place many at);
    }
  where
    either : (m n : ℕ) → m < n + 1 → (m < n) ⊎ (m ≡ n)
    either m n le = grind arith

    -- where it does not stand at the new places
    apart : (at : ℕ) → (at / 2 ^ many ≢ place) → Stands place many at → slice_index_or new at Refuse ≡ slice_index_or a at Refuse
    apart at never (before less _) = before_it at (omega (arith, less, is_first))
    apart at never (within _ _ same) = absurd (never same)
    apart at never (behind more _) = behind_it at (omega (arith, more, is_end))

    its : (at over : ℕ) → Stands place many at → (over < many) ⊎ (over ≡ many) → at / 2 ^ over ≡ place → slice_index_or new at Refuse ≡ entry
    its at over (within from less _) which same = put at (omega (arith, from, is_first)) (omega (arith, less, is_end))
    its at over (before less never) (inl low) same = apart at never (before less never) ∙ all.covered at over low same
    its at over (behind more never) (inl low) same = apart at never (behind more never) ∙ all.covered at over low same
    its at over (before less never) (inr last) same = absurd (never (subst (λ (n : ℕ). at / 2 ^ n ≡ place) last same))
    its at over (behind more never) (inr last) same = absurd (never (subst (λ (n : ℕ). at / 2 ^ n ≡ place) last same))

    rest : (at : ℕ) → ((over : ℕ) → over < many + 1 → at / 2 ^ over ≢ place)
        → Stands place many at → slice_index_or new at Refuse ≡ slice_index_or old at Refuse
    rest at never how = apart at (never many (omega arith)) how ∙ all.others at (λ over less. never over (omega (arith, less)))

-- ---- and so of words

-- a word whose place is that of another one, where some last bits are left off, goes on from it
begun_by_place : (word held : List ℕ) (over : ℕ) → IsWord word → IsWord held → place_of held / 2 ^ over ≡ place_of word → IsBegunBy held word
begun_by_place word held over is is_held same = by_order (either over (length held))
  where
    either : (m n : ℕ) → (m ≤ n) ⊎ (n < m)
    either m n = grind arith

    by_order : (over ≤ length held) ⊎ (length held < over) → IsBegunBy held word
    by_order (inl few) =
        let keep = length held - over in
        let left : length held - keep ≡ over = omega (arith, few) in
        let cut : place_of held / 2 ^ over ≡ place_of (take keep held) = ap (λ n. place_of held / 2 ^ n) (sym left) ∙ place_cut keep held is_held in
        let front : take keep held ≡ word = place_of-same (take keep held) word (word_take keep held is_held).bits is.bits (sym cut ∙ same) in
        (drop keep held, sym (take-append-drop keep held) ∙ ap (λ l. l ++ drop keep held) front)
    by_order (inr many) =
        let most = place_of-most held is_held.bits in
        let power : 2 ^ suc (length held) ≤ 2 ^ over = pow-le-pow_right {n = 2} (omega arith) many in
        let none : place_of held / 2 ^ over ≡ 0 = div-eq_of_lt (omega (arith, most, power)) in
        let there = place_of-some word in
        absurd (omega (arith, none, there, same))

-- and the other way round
place_of_begun : (word held : List ℕ) → IsWord held → IsBegunBy held word → place_of held / 2 ^ (length held - length word) ≡ place_of word
place_of_begun word held is begun =
    place_cut (length word) held is ∙ ap (λ l. place_of (take (length word) l)) begun.1 ∙ ap place_of (take-append_seam word begun.0)

pub cover_all : (word : List ℕ) (width many j bits : ℕ) (old new : List Entry) → IsWord word → length word ≤ width
    → many ≡ width - length word + 1 → Covered (place_of word) many (Take bits j) old new
    → FillsUnder word width (IsTaken j bits) old new
cover_all word width many j bits old new is within_it size all held is_held short = (
  (λ begun. all.covered (place_of held) (length held - length word) (omega (arith, short, within_it, size)) (place_of_begun word held is_held begun)),
  (λ never. all.others (place_of held) (λ over less same. never (begun_by_place word held over is is_held same))),
)
