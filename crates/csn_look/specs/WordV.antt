-- A word as it is kept: the number that a 1 and then its bits write. (This project's own choice.)
use Rattle.std.specs.Prelude.{◌≡◌, ◌+◌, ◌*◌, ◌/◌, ◌%◌, ◌^◌, ◌<◌, ℕ, zero, suc, Bool, true, false, List, [], ◌∷◌, ◌++◌, nat_le, if◌then◌else◌, refl}
use Rattle.std.proofs.Common.{sym, ◌∙◌, arith}
use Rattle.std.proofs.Math.Nat.{pow-suc}
use Rattle.std.proofs.lemmas.Bool.Decides.{nat_tests}

-- the bits behind the first 1 of the number, where these are at most so many
abbrev pub bits_behind : ℕ → ℕ → List ℕ
bits_behind zero place = []
bits_behind (suc most) place = if nat_le place 1 then [] else bits_behind most (place / 2) ++ place % 2 ∷ []

-- the word of at most 12 bits with a place
unfoldable pub word_of : ℕ → List ℕ
word_of place = bits_behind 12 place

-- the number that the bits write behind those of another
abbrev pub write_on : ℕ → List ℕ → ℕ
write_on front [] = front
write_on front (bit ∷ bits) = write_on (2 * front + bit) bits

write_on-push : (front : ℕ) (bits : List ℕ) (last : ℕ) → write_on front (bits ++ last ∷ []) ≡ 2 * write_on front bits + last
write_on-push front [] last = refl
write_on-push front (bit ∷ bits) last = write_on-push (2 * front + bit) bits last

written_more : (most place : ℕ) (test : Bool) → nat_le place 1 ≡ test → 0 < place
    → (1 < place → write_on 1 (bits_behind most (place / 2)) ≡ place / 2)
    → write_on 1 (bits_behind (suc most) place) ≡ place
written_more most place true one some half = rw one (let low : place ≡ 1 = grind (arith, nat_tests) in sym low)
written_more most place false one some half =
    let big : 1 < place = grind (arith, nat_tests) in
    rw one (write_on-push 1 (bits_behind most (place / 2)) (place % 2) ∙ omega (arith, half big))

written : (most place : ℕ) → 0 < place → place < 2 * 2 ^ most → write_on 1 (bits_behind most place) ≡ place
written zero place some small = omega arith
written (suc most) place some small =
    let power = pow-suc 2 most in
    written_more most place (nat_le place 1) refl some (λ big. written most (place / 2) (omega arith) (omega arith))

-- a word gives its place back
pub word_of-written : (place : ℕ) → 0 < place → place < 8192 → write_on 1 (word_of place) ≡ place
unfolding word_of
word_of-written place some small = written 12 place some small
