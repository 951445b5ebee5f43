-- Pieces of a block, up to one of them and with it, and a judge that is fed one.
use Rattle.std.proofs.Common.{◌≡◌, ℕ, zero, suc, ◌+◌, ◌*◌, ◌<◌, ◌≤◌, List, [], ◌∷◌, ◌++◌, length, take}
use Rattle.std.proofs.Common.{slice_index_or, Option, Some, None, sym, ap, subst, ◌∙◌, arith, append_assoc}
use Rattle.std.proofs.Common.{append-nil}
use Rattle.std.specs.Prelude.{⊤}
use Rattle.csn_desc.specs.declared.moves.Move.{Move}
use Rattle.csn_desc.specs.Nodes.{DescV}
use Rattle.csn_desc.specs.Follows.{IsPlace}
use Rattle.csn_judge.specs.declared.verdict.Verdict.{Verdict}
use Rattle.csn_judge.specs.declared.verdict.Verdict.TheVariants.{Going, Refused}
use Rattle.csn_judge.specs.declared.verdict.Judged.{Judged}
use Rattle.csn_judge.specs.declared.verdict.Judged.TheVariants.{Ok, Refused as no_string}
use Rattle.csn_judge.specs.Judging.{JudgeV, JudgesFor, judges_no_more, Judges, Ends, refusal_of}
use Rattle.csn_judge.specs.declared.block.Piece.{Piece}
use Rattle.csn_judge.specs.Blocks.{bits_of_piece, bits_of, bits_in, AreWithin, IsJudged}

-- with the piece at a place
pub bits_with : (ps : List Piece) (i : ℕ) (none : Piece)
    → i < length ps → bits_of (take (suc i) ps) ≡ bits_of (take i ps) ++ bits_of_piece (slice_index_or ps i none)
bits_with [] i none within = absurd (omega (arith, within))
bits_with (p ∷ ps) zero none within = append-nil (bits_of_piece p)
bits_with (p ∷ ps) (suc i) none within =
    ap (λ b. bits_of_piece p ++ b) (bits_with ps i none (omega (arith, within)))
    ∙ sym (append_assoc (bits_of_piece p) (bits_of (take i ps)) (bits_of_piece (slice_index_or ps i none)))

pub count_with : (ps : List Piece) (i : ℕ) (none : Piece) → i < length ps → bits_in (take (suc i) ps) ≡ bits_in (take i ps) + (slice_index_or ps i none).bits
count_with [] i none within = absurd (omega (arith, within))
count_with (p ∷ ps) zero none within = omega arith
count_with (p ∷ ps) (suc i) none within = omega (arith, count_with ps i none (omega (arith, within)))

pub few_with : (ps : List Piece) (i : ℕ) (none : Piece) → i < length ps → bits_in (take i ps) + (slice_index_or ps i none).bits ≤ bits_in ps
few_with [] i none within = absurd (omega (arith, within))
few_with (p ∷ ps) zero none within = omega arith
few_with (p ∷ ps) (suc i) none within = omega (arith, few_with ps i none (omega (arith, within)))

pub within_at : (ps : List Piece) (i : ℕ) (none : Piece) → AreWithin ps → i < length ps
    → (slice_index_or ps i none).bits ≤ 8 * length (slice_index_or ps i none).octets.now
within_at [] i none are within = absurd (omega (arith, within))
within_at (p ∷ ps) zero none are within = are.0
within_at (p ∷ ps) (suc i) none are within = within_at ps i none are.1 (omega (arith, within))

-- a judge that has refused goes on standing for all bits that come
pub fed : (old new : JudgeV) (more : List ℕ) (verdict : Verdict) → Judges (λ around made. ⊤) old new more verdict → new.refused ≡ refusal_of verdict
    → new.desc ≡ old.desc → (b : List ℕ) → ((moves : List Move) × JudgesFor old b moves) → (moves : List Move) × JudgesFor new (b ++ more) moves
fed old new more Going judges refused desc b (moves, stood) =
    let is = judges b moves stood in
    (moves ++ is.made, is.judges)
fed old new more (Refused place) judges refused desc b (moves, stood) =
    let is = judges b moves stood in
    let P : DescV → Type 0 = λ d. IsPlace d (b ++ more) place in
    (moves, judges_no_more place refused (subst P (sym desc) is.place_is) is.before_end)

-- how many bits a judge has seen behind a piece
pub seen_with : (old new : JudgeV) (n most : ℕ) (was : Option ℕ) → old.refused ≡ was → (old.refused ≡ None → new.seen ≡ old.seen + n)
    → ((place : ℕ) → old.refused ≡ Some place → new ≡ old) → old.seen ≤ most → new.seen ≤ most + n
seen_with old new n most None is more stays few = omega (arith, more is, few)
seen_with old new n most (Some place) is more stays few = omega (arith, ap (λ (j : JudgeV). j.seen) (stays place is), few)

-- at the end of the block
pub judged : (j : JudgeV) (d : DescV) (b : List ℕ) (answer : Judged) → j.desc ≡ d → Ends (λ around made. ⊤) j answer
    → ((moves : List Move) × JudgesFor j b moves) → IsJudged d b answer
judged j d b Ok desc ends (moves, stood) =
    let P : DescV → Type 0 = λ d. IsJudged d b Ok in
    subst P desc ((ends b moves stood).block.tree, (ends b moves stood).block.means)
judged j d b (no_string place) desc ends (moves, stood) =
    let P : DescV → Type 0 = λ d. IsJudged d b (no_string place) in
    subst P desc ((ends b moves stood).place_is, (ends b moves stood).no_tree)
