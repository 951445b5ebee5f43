-- What the marks are that stand in blocks.
use Rattle.std.proofs.Common.{◌≡◌, ℕ, zero, suc, ◌+◌, ◌-◌, ◌*◌, ◌⊎◌, inl, inr, ◌/◌, ◌%◌, ◌^◌, ◌<◌, ◌≤◌, List, [], ◌∷◌}
use Rattle.std.proofs.Common.{◌++◌, take, drop, drop-cons, length, get_or, refl, sym, ap, ◌∙◌, arith, append_assoc}
use Rattle.std.proofs.Common.{append-nil}
use Rattle.std.specs.Int.Bits.{bit_or, or_zero_r}
use Rattle.std.proofs.lemmas.Bool.{cases_lt}
use Rattle.std.proofs.lemmas.List.{take_all, drop_all}
use Rattle.csn_look.specs.Blocks.{four, laid_out, marks_of, AreWithin, IsKept, digest_on, digest_of}

-- where there is an index, the marks are laid out by it
pub indexed : (index blocks : List ℕ) → 0 < length index → marks_of index blocks ≡ laid_out index blocks
indexed [] blocks some = absurd (omega arith)
indexed (block ∷ index) blocks some = refl

pub not_indexed : (index blocks : List ℕ) → length index ≡ 0 → marks_of index blocks ≡ blocks
not_indexed [] blocks none = refl
not_indexed (block ∷ index) blocks none = absurd (omega arith)

pub long : (index blocks : List ℕ) → length (laid_out index blocks) ≡ 4 * length index
long [] blocks = refl
long (block ∷ index) blocks = omega (arith, long index blocks)

-- a number of the marks stands in a block
pub read : (index blocks : List ℕ) (at : ℕ)
    → at < 4 * length index → get_or (laid_out index blocks) at 0 ≡ get_or blocks
    (4 * get_or index (at / 4) 0 + at % 4) 0
read [] blocks at small = absurd (omega arith)
read (block ∷ index) blocks zero small = ap (λ n. get_or blocks n 0) (omega arith)
read (block ∷ index) blocks (suc zero) small = refl
read (block ∷ index) blocks (suc (suc zero)) small = refl
read (block ∷ index) blocks (suc (suc (suc zero))) small = refl
read (block ∷ index) blocks (suc (suc (suc (suc at)))) small =
    let half : suc (suc (suc (suc at))) / 4 ≡ suc (at / 4) = omega arith in
    let left : suc (suc (suc (suc at))) % 4 ≡ at % 4 = omega arith in
    read index blocks at (omega arith)
    ∙ ap (λ n. get_or blocks (4 * get_or index (at / 4) 0 + n) 0) (sym left)
    ∙ ap (λ n. get_or blocks (4 * get_or (block ∷ index) n 0 + suc (suc (suc (suc at))) % 4) 0) (sym half)

-- four numbers are a block
pub four_is : (marks : List ℕ) (at a b c d : ℕ) → get_or marks (4 * at) 0 ≡ a → get_or marks (4 * at + 1) 0 ≡ b
    → get_or marks (4 * at + 2) 0 ≡ c → get_or marks (4 * at + 3) 0 ≡ d → four marks at ≡ a ∷ b ∷ c ∷ d ∷ []
four_is marks at a b c d e f g h = rw (e, f, g, h) refl

read_in : (index blocks : List ℕ) (at k : ℕ) → k < 4 → at < length index → get_or (laid_out index blocks) (4 * at + k)
    0 ≡ get_or blocks (4 * get_or index at 0 + k) 0
read_in index blocks at k few small =
    let place : (4 * at + k) / 4 ≡ at = omega arith in
    let left : (4 * at + k) % 4 ≡ k = omega arith in
    read index blocks (4 * at + k) (omega arith)
    ∙ ap (λ n. get_or blocks (4 * get_or index n 0 + (4 * at + k) % 4) 0) place
    ∙ ap (λ n. get_or blocks (4 * get_or index at 0 + n) 0) left

-- the block at a place
pub read_four : (index blocks : List ℕ) (at : ℕ) → at < length index → four (laid_out index blocks) at ≡ four blocks (get_or index at 0)
read_four index blocks at small =
    let marks = laid_out index blocks in
    let block = get_or index at 0 in
    let here : 4 * at ≡ 4 * at + 0 = omega arith in
    let there : 4 * block + 0 ≡ 4 * block = omega arith in
    four_is marks at (get_or blocks (4 * block) 0) (get_or blocks (4 * block + 1) 0) (get_or blocks (4 * block + 2) 0) (get_or blocks (4 * block + 3) 0)
    (ap (λ n. get_or marks n 0) here ∙ read_in index blocks at 0 (omega arith) small ∙ ap (λ n. get_or blocks n 0) there)
    (read_in index blocks at 1 (omega arith) small)
    (read_in index blocks at 2 (omega arith) small)
    (read_in index blocks at 3 (omega arith) small)

-- each block that the index names is there
pub block_within : (index blocks : List ℕ) (at : ℕ) → AreWithin index blocks → at < length index → 4 * get_or index at 0 + 4 ≤ length blocks
block_within [] blocks at are small = absurd (omega arith)
block_within (block ∷ index) blocks zero are small = are 0 block refl
block_within (block ∷ index) blocks (suc at) are small = block_within index blocks at (λ k b h. are (suc k) b h) (omega arith)

-- one block more
pub laid_out-push : (index blocks : List ℕ) (block : ℕ) → laid_out (index ++ block ∷ []) blocks ≡ laid_out index blocks ++ four blocks block
laid_out-push [] blocks block = append-nil (four blocks block)
laid_out-push (first ∷ index) blocks block = ap (λ l. four blocks first ++ l) (laid_out-push index blocks block)
    ∙ sym (append_assoc (four blocks first) (laid_out index blocks) (four blocks block))

-- what is laid out grows by one block
pub laid_more :
    (index blocks marks new block : List ℕ) (at : ℕ) → at < length index → marks ++ laid_out (drop at index) blocks ≡ laid_out index blocks
    → block ≡ four blocks (get_or index at 0) → new ≡ marks ++ block
    → new ++ laid_out (drop (at + 1) index) blocks ≡ laid_out index blocks
laid_more index blocks marks new block at small before is grown =
    let next : at + 1 ≡ suc at = omega arith in
    let here = four blocks (get_or index at 0) in
    let rest = laid_out (drop (suc at) index) blocks in
    ap (λ n. new ++ laid_out (drop n index) blocks) next
    ∙ ap (λ l. l ++ rest) (grown ∙ ap (λ b. marks ++ b) is)
    ∙ append_assoc marks here rest
    ∙ ap (λ l. marks ++ laid_out l blocks) (sym (drop-cons index at 0 small))
    ∙ before

pub laid_all : (index blocks marks : List ℕ) (at : ℕ)
    → length index ≤ at → marks ++ laid_out (drop at index) blocks ≡ laid_out index blocks
    → marks ≡ laid_out index blocks
laid_all index blocks marks at all before =
    sym (append-nil marks) ∙ ap (λ l. marks ++ laid_out l blocks) (sym (drop_all at index all)) ∙ before

-- one number more of the digest
pub digest_more :
    (marks : List ℕ) (digest at number : ℕ) → at < length marks → number ≡ get_or marks at 0 → digest_on digest (drop at marks) ≡ digest_of marks
    → digest_on ((digest * 11400714819323198485 % 2 ^ 64 + number) % 2 ^ 64) (drop (at + 1) marks) ≡ digest_of marks
digest_more marks digest at number small is before =
    let next : at + 1 ≡ suc at = omega arith in
    ap (λ n. digest_on ((digest * 11400714819323198485 % 2 ^ 64 + number) % 2 ^ 64) (drop n marks)) next
    ∙ ap (λ n. digest_on ((digest * 11400714819323198485 % 2 ^ 64 + n) % 2 ^ 64) (drop (suc at) marks)) is
    ∙ ap (λ l. digest_on digest l) (sym (drop-cons marks at 0 small))
    ∙ before

pub digest_all : (marks : List ℕ) (digest at : ℕ) → length marks ≤ at → digest_on digest (drop at marks) ≡ digest_of marks → digest ≡ digest_of marks
digest_all marks digest at all before = ap (λ l. digest_on digest l) (sym (drop_all at marks all)) ∙ before

get_or-front : (front back : List ℕ) (at : ℕ) → at < length front → get_or (front ++ back) at 0 ≡ get_or front at 0
get_or-front [] back at small = absurd (omega arith)
get_or-front (x ∷ front) back zero small = refl
get_or-front (x ∷ front) back (suc at) small = get_or-front front back at (omega arith)

-- further blocks change no block
pub four-front : (blocks back : List ℕ) (block : ℕ) → 4 * block + 4 ≤ length blocks → four (blocks ++ back) block ≡ four blocks block
four-front blocks back block within =
    let a = get_or-front blocks back (4 * block) (omega arith) in
    let b = get_or-front blocks back (4 * block + 1) (omega arith) in
    let c = get_or-front blocks back (4 * block + 2) (omega arith) in
    let d = get_or-front blocks back (4 * block + 3) (omega arith) in
    rw (a, b, c, d) refl

pub laid_out-front : (index blocks back : List ℕ) → AreWithin index blocks → laid_out index (blocks ++ back) ≡ laid_out index blocks
laid_out-front [] blocks back are = refl
laid_out-front (block ∷ index) blocks back are =
    ap (λ l. l ++ laid_out index (blocks ++ back)) (four-front blocks back block (are 0 block refl))
    ∙ ap (λ l. four blocks block ++ l) (laid_out-front index blocks back (λ k b h. are (suc k) b h))

get_or-back : (front back : List ℕ) (at : ℕ) → get_or (front ++ back) (length front + at) 0 ≡ get_or back at 0
get_or-back [] back at = ap (λ n. get_or back n 0) (omega arith)
get_or-back (x ∷ front) back at = ap (λ n. get_or (x ∷ front ++ back) n 0)
    (let e : length (x ∷ front) + at ≡ suc (length front + at) = omega arith in e) ∙ get_or-back front back at

-- the block behind some others
pub four-last : (front block : List ℕ) (number : ℕ) → length block ≡ 4 → 4 * number ≡ length front → four (front ++ block) number ≡ block
four-last front [] number size whole = absurd (omega (arith, size))
four-last front (a ∷ []) number size whole = absurd (omega (arith, size))
four-last front (a ∷ b ∷ []) number size whole = absurd (omega (arith, size))
four-last front (a ∷ b ∷ c ∷ []) number size whole = absurd (omega (arith, size))
four-last front (a ∷ b ∷ c ∷ d ∷ []) number size whole =
    let block = a ∷ b ∷ c ∷ d ∷ [] in
    let e0 : 4 * number ≡ length front + 0 = omega (arith, whole) in
    let e1 : 4 * number + 1 ≡ length front + 1 = omega (arith, whole) in
    let e2 : 4 * number + 2 ≡ length front + 2 = omega (arith, whole) in
    let e3 : 4 * number + 3 ≡ length front + 3 = omega (arith, whole) in
    let all = front ++ block in
    four_is all number a b c d
    (ap (λ n. get_or all n 0) e0 ∙ get_or-back front block 0)
    (ap (λ n. get_or all n 0) e1 ∙ get_or-back front block 1)
    (ap (λ n. get_or all n 0) e2 ∙ get_or-back front block 2)
    (ap (λ n. get_or all n 0) e3 ∙ get_or-back front block 3)
four-last front (a ∷ b ∷ c ∷ d ∷ e ∷ block) number size whole = absurd (omega (arith, size))

-- four numbers more
take_four_more :
    (marks : List ℕ) (at : ℕ) → suc (suc (suc (suc at))) ≤ length marks
    → take (suc (suc (suc (suc at)))) marks ≡ take at marks ++ get_or marks at 0 ∷ get_or marks (suc at)
    0 ∷ get_or marks (suc (suc at)) 0 ∷ get_or marks (suc (suc (suc at))) 0 ∷ []
take_four_more [] at small = absurd (omega arith)
take_four_more (a ∷ marks) (suc at) small = ap (λ l. a ∷ l) (take_four_more marks at (omega arith))
take_four_more (a ∷ []) zero small = absurd (omega arith)
take_four_more (a ∷ b ∷ []) zero small = absurd (omega arith)
take_four_more (a ∷ b ∷ c ∷ []) zero small = absurd (omega arith)
take_four_more (a ∷ b ∷ c ∷ d ∷ marks) zero small = refl

pub take_four : (marks : List ℕ) (at : ℕ) → 4 * at + 4 ≤ length marks → take (4 * (at + 1)) marks ≡ take (4 * at) marks ++ four marks at
take_four marks at small =
    let upto : 4 * (at + 1) ≡ suc (suc (suc (suc (4 * at)))) = omega arith in
    let one : suc (4 * at) ≡ 4 * at + 1 = omega arith in
    let two : suc (suc (4 * at)) ≡ 4 * at + 2 = omega arith in
    let three : suc (suc (suc (4 * at))) ≡ 4 * at + 3 = omega arith in
    ap (λ n. take n marks) upto
    ∙ take_four_more marks (4 * at) (omega arith)
    ∙ ap (λ n. take (4 * at) marks ++ get_or marks (4 * at) 0 ∷ get_or marks n 0 ∷ get_or marks (suc (suc (4 * at)))
    0 ∷ get_or marks (suc (suc (suc (4 * at)))) 0 ∷ []) one
    ∙ ap (λ n. take (4 * at) marks ++ get_or marks (4 * at) 0 ∷ get_or marks (4 * at + 1)
    0 ∷ get_or marks n 0 ∷ get_or marks (suc (suc (suc (4 * at)))) 0 ∷ []) two
    ∙ ap (λ n. take (4 * at) marks ++ get_or marks (4 * at) 0 ∷ get_or marks (4 * at + 1) 0 ∷ get_or marks (4 * at + 2) 0 ∷ get_or marks n 0 ∷ []) three

-- one block more is kept
pub within_more : (index old new : List ℕ) (number : ℕ) → AreWithin index old → length old ≤ length new
    → 4 * number + 4 ≤ length new → AreWithin (index ++ number ∷ []) new
within_more [] old new number are more there zero block h = let e : number ≡ block = cc in omega (arith, e)
within_more [] old new number are more there (suc at) block h = absurd (cc)
within_more (first ∷ index) old new number are more there zero block h = omega (arith, are 0 block h)
within_more (first ∷ index) old new number are more there (suc at) block h = within_more index old new number (λ k b g. are (suc k) b g) more there at block h

pub packed_more :
    (marks index old new : List ℕ) (at number : ℕ)
    → IsKept (four marks at) old new number → AreWithin index old → laid_out index old ≡ take (4 * at) marks → 4 * at + 4 ≤ length marks
    → laid_out (index ++ number ∷ []) new ≡ take (4 * (at + 1)) marks
packed_more marks index old new at number kept are before small =
    laid_out-push index new number
    ∙ ap (λ l. laid_out index l ++ four new number) kept.more.1
    ∙ ap (λ l. l ++ four new number) (laid_out-front index old kept.more.0 are ∙ before)
    ∙ ap (λ l. take (4 * at) marks ++ l) kept.same
    ∙ sym (take_four marks at small)

-- a number that is read by the index
pub word_read : (index blocks : List ℕ) (at block word : ℕ) → 0 < length index → at < 4 * length index
    → block ≡ get_or index (at / 4) 0 → word ≡ get_or blocks (4 * block + at % 4) 0
    → word ≡ get_or (marks_of index blocks) at 0
word_read index blocks at block word some small is here =
    here ∙ ap (λ b. get_or blocks (4 * b + at % 4) 0) is ∙ sym (read index blocks at small) ∙ sym (ap (λ m. get_or m at 0) (indexed index blocks some))

-- how many there are
pub places : (index blocks : List ℕ) → 0 < length index → length (marks_of index blocks) ≡ 384 → length index ≡ 96
places index blocks some size = omega (arith, sym (ap length (indexed index blocks some)) ∙ size, long index blocks)

pub packed_all :
    (marks index blocks : List ℕ) (at : ℕ) → length marks ≡ 384 → at ≡ 96 → length index ≡ at → laid_out index blocks ≡ take (4 * at) marks
    → marks_of index blocks ≡ marks
packed_all marks index blocks at size all many laid = indexed index blocks (omega (arith, all, many))
    ∙ laid ∙ take_all (4 * at) marks (omega (arith, size, all))

-- a block that is read by the index
pub four_read : (index blocks : List ℕ) (at block : ℕ) → 0 < length index → at < length index
    → block ≡ get_or index at 0 → four blocks block ≡ four (marks_of index blocks) at
four_read index blocks at block some small is =
    ap (λ b. four blocks b) is ∙ sym (read_four index blocks at small) ∙ sym (ap (λ m. four m at) (indexed index blocks some))

-- with no index the blocks are the marks
pub no_index : (index blocks : List ℕ) → index ≡ [] → marks_of index blocks ≡ blocks
no_index index blocks none = ap (λ i. marks_of i blocks) none

pub none_within : (index blocks : List ℕ) → index ≡ [] → AreWithin index blocks
none_within [] blocks none at block h = absurd (cc)
none_within (first ∷ index) blocks none at block h = absurd (cc)

-- the marks that were laid out
pub unpacked : (index blocks own : List ℕ) → index ≡ [] → marks_of index blocks ≡ own → blocks ≡ own
unpacked index blocks own none same = sym (no_index index blocks none) ∙ same

-- ---- the marks of either, by blocks

-- the four numbers of a block, one after another
four_at : (marks : List ℕ) (at k : ℕ) → k < 4 → get_or (four marks at) k 0 ≡ get_or marks (4 * at + k) 0
four_at marks at zero small = ap (λ n. get_or marks n 0) (omega arith)
four_at marks at (suc zero) small = refl
four_at marks at (suc (suc zero)) small = refl
four_at marks at (suc (suc (suc zero))) small = refl
four_at marks at (suc (suc (suc (suc k)))) small = absurd (omega arith)

-- before a place each number has the marks of both, and from it on it is as it was
abbrev pub AreJoined : (old others new : List ℕ) → ℕ → Type 0
AreJoined old others new upto =
    ((k : ℕ) → k < upto → get_or new k 0 ≡ bit_or (get_or old k 0) (get_or others k 0))
    × ((k : ℕ) → upto ≤ k → get_or new k 0 ≡ get_or old k 0)

-- one block more
pub block_joined :
    (old others marks new block : List ℕ) (at : ℕ) → AreJoined old others marks (4 * at) → block ≡ four others at
    → ((k : ℕ) → k < 4 → get_or new (4 * at + k) 0 ≡ bit_or (get_or marks (4 * at + k) 0) (get_or block k 0))
    → ((k : ℕ) → (k < 4 * at) ⊎ (4 * at + 4 ≤ k) → get_or new k 0 ≡ get_or marks k 0)
    → AreJoined old others new (4 * (at + 1))
block_joined old others marks new block at before is inside outside = (
  (λ k small. elim (cases_lt k (4 * at)) [
    | inl below ↦ outside k (inl below) ∙ before.0 k below
    | inr above ↦ here (k - 4 * at) k (omega arith) (omega arith)
  ]),
  (λ k large. outside k (inr (omega arith)) ∙ before.1 k (omega arith)),
)
  where
    here : (j k : ℕ) → k ≡ 4 * at + j → j < 4 → get_or new k 0 ≡ bit_or (get_or old k 0) (get_or others k 0)
    here j k same small =
        ap (λ n. get_or new n 0) same ∙ inside j small
        ∙ ap (λ n. bit_or n (get_or block j 0)) (before.1 (4 * at + j) (omega arith) ∙ ap (λ n. get_or old n 0) (sym same))
        ∙ ap (λ n. bit_or (get_or old k 0) n) (ap (λ l. get_or l j 0) is ∙ four_at others at j small ∙ ap (λ n. get_or others n 0) (sym same))

-- and one without marks
abbrev pub blank : List ℕ
blank = 0 ∷ 0 ∷ 0 ∷ 0 ∷ []

pub blank_joined :
    (old others marks : List ℕ) (at : ℕ) → AreJoined old others marks (4 * at) → four others at ≡ blank → AreJoined old others marks (4 * (at + 1))
blank_joined old others marks at before none =
    block_joined old others marks marks blank at before (sym none)
    (λ k small. sym (or_zero_r (get_or marks (4 * at + k) 0)) ∙ ap (λ n. bit_or (get_or marks (4 * at + k) 0) n) (sym (zeros k)))
    (λ k apart. refl)
  where
    zeros : (k : ℕ) → get_or blank k 0 ≡ 0
    zeros zero = refl
    zeros (suc zero) = refl
    zeros (suc (suc zero)) = refl
    zeros (suc (suc (suc zero))) = refl
    zeros (suc (suc (suc (suc k)))) = refl
