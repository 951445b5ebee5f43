-- Entries that are told to be equal are the same, and so are blocks of them: for the hash of a block.
use Rattle.std.specs.Prelude.{◌≡◌, Bool, true, List, [], ◌∷◌, nat_eq, refl}
use Rattle.std.specs.Cmp.{first_so, second_so}
use Rattle.std.specs.Cmp.Lexicographic.{pointwise}
use Rattle.std.proofs.Common.{sym, true≢false}
use Rattle.std.proofs.lemmas.Bool.Decides.{Decides-eqb}
use Rattle.csn_certify.specs.declared.pick_table.Entry.{Entry}
use Rattle.csn_certify.specs.declared.pick_table.Entry.TheVariants.{Refuse, Wait, Take}
use Rattle.csn_certify.specs.contracts.pick_table.EntryPartialEq.TheImpl as entries

-- how entries are told to be equal
abbrev pub same_entry : Entry → Entry → Bool
same_entry = entries.eq-value.it

pub entry_told : (a b : Entry) → same_entry a b ≡ true → a ≡ b
entry_told Refuse Refuse h = refl
entry_told Refuse Wait h = absurd (true≢false (sym h))
entry_told Refuse (Take j n) h = absurd (true≢false (sym h))
entry_told Wait Refuse h = absurd (true≢false (sym h))
entry_told Wait Wait h = refl
entry_told Wait (Take j n) h = absurd (true≢false (sym h))
entry_told (Take i m) Refuse h = absurd (true≢false (sym h))
entry_told (Take i m) Wait h = absurd (true≢false (sym h))
entry_told (Take i m) (Take j n) h =
    λ k. Take ((Decides-eqb i j).0 (first_so (nat_eq i j) (nat_eq m n) h) k) ((Decides-eqb m n).0 (second_so (nat_eq i j) (nat_eq m n) h) k)

pub block_told : (xs ys : List Entry) → pointwise same_entry xs ys ≡ true → xs ≡ ys
block_told [] [] h = refl
block_told [] (y ∷ ys) h = absurd (true≢false (sym h))
block_told (x ∷ xs) [] h = absurd (true≢false (sym h))
block_told (x ∷ xs) (y ∷ ys) h =
    λ k. entry_told x y (first_so (same_entry x y) (pointwise same_entry xs ys) h) k ∷ block_told xs ys
    (second_so (same_entry x y) (pointwise same_entry xs ys) h) k
