-- The bits of leaves: those that a symbol stands for, and the numbers that they write.
use Rattle.std.proofs.Common.{◌≡◌, ℕ, zero, suc, ◌+◌, ◌*◌, ◌<◌, ◌≤◌, List, [], ◌∷◌, ◌++◌, length, take, drop}
use Rattle.std.proofs.Common.{get_or, refl, sym, ◌∙◌, ap, arith, Some, slice_get}
use Rattle.std.specs.Prelude.{replicate}
use Rattle.std.proofs.lemmas.List.{length-take-le, take_more, drop-append-le}
use Rattle.std.proofs.lemmas.Option.{slice_get_within, get_or_from_slice_get}
use Rattle.csn_bits.specs.Numbers.{number_of}
use Rattle.csn_bits.proofs.NumberFacts.{number_of-push}
use Rattle.csn_desc.specs.declared.symbol.Symbol.{Symbol}
use Rattle.csn_desc.specs.Spelled.{symbol_bit, spelled}

-- one element more
take_next : {A : Type 0} (l : List A) (k : ℕ) (s : A) → slice_get l k ≡ Some s → take (k + 1) l ≡ take k l ++ s ∷ []
take_next l k s at = take_more l k s (slice_get_within l k s at) ∙ ap (λ x. take k l ++ x ∷ []) (get_or_from_slice_get l k s s at)

-- ---- symbols

spelled-push : (front : List Symbol) (s : Symbol) (place : ℕ)
    → spelled (front ++ s ∷ []) place ≡ spelled front place ++ symbol_bit s (place + length front) ∷ []
spelled-push [] s place = ap (λ k. symbol_bit s k ∷ []) (omega arith)
spelled-push (x ∷ front) s place =
    let e : suc place + length front ≡ place + length (x ∷ front) = omega arith in
    ap (λ l. symbol_bit x place ∷ l) (spelled-push front s (suc place) ∙ ap (λ k. spelled front (suc place) ++ symbol_bit s k ∷ []) e)

-- one symbol more
pub spelled-next : (run : List Symbol) (at place next : ℕ) (s : Symbol) → slice_get run at ≡ Some s → at < length run → next ≡ place + at
    → spelled (take (at + 1) run) place ≡ spelled (take at run) place ++ symbol_bit s next ∷ []
spelled-next run at place next s here less is =
    let long : length (take at run) ≡ at = length-take-le at run (omega arith) in
    ap (λ l. spelled l place) (take_next run at s here) ∙ spelled-push (take at run) s place
    ∙ ap (λ k. spelled (take at run) place ++ symbol_bit s k ∷ []) (ap (λ k. place + k) long ∙ sym is)

-- bits each of which the symbol stands for
pub all_sent : (s : Symbol) (bits : List ℕ) (place : ℕ)
    → ((k : ℕ) → k < length bits → get_or bits k 0 ≡ symbol_bit s (place + k))
    → bits ≡ spelled (replicate (length bits) s) place
all_sent s [] place each = refl
all_sent s (b ∷ bits) place each =
    let first : b ≡ symbol_bit s place = each 0 (omega arith) ∙ ap (λ k. symbol_bit s k) (omega arith) in
    let rest = all_sent s bits (suc place) (λ k less. each (suc k) (omega arith) ∙ ap (λ k. symbol_bit s k) (omega arith)) in
    ap (λ x. x ∷ bits) first ∙ ap (λ l. symbol_bit s place ∷ l) rest

pub each_sent : (s : Symbol) (bits : List ℕ) (place k : ℕ) → bits ≡ spelled (replicate (length bits) s) place
    → k < length bits → get_or bits k 0 ≡ symbol_bit s (place + k)
each_sent s [] place k all less = absurd (omega arith)
each_sent s (b ∷ bits) place zero all less =
    let first : b ≡ symbol_bit s place = cc in
    first ∙ ap (λ k. symbol_bit s k) (omega arith)
each_sent s (b ∷ bits) place (suc k) all less =
    let rest : bits ≡ spelled (replicate (length bits) s) (suc place) = cc in
    each_sent s bits (suc place) k rest (omega arith) ∙ ap (λ k. symbol_bit s k) (omega arith)

-- ---- numbers

pub number-next : (bits : List ℕ) (from at x : ℕ) → from ≤ at → at < length bits → get_or bits at 0 ≡ x
    → number_of (drop from (take (at + 1) bits)) ≡ 2 * number_of (drop from (take at bits)) + x
number-next bits from at x low less here =
    let long : length (take at bits) ≡ at = length-take-le at bits (omega arith) in
    ap (λ l. number_of (drop from l)) (take_more bits at 0 less ∙ ap (λ b. take at bits ++ b ∷ []) here)
    ∙ ap (λ l. number_of l) (drop-append-le from (take at bits) (x ∷ []) (omega (arith, low, long)))
    ∙ number_of-push (drop from (take at bits)) x

pub no_number : (bits : List ℕ) (from : ℕ) → number_of (drop from (take from bits)) ≡ 0
no_number bits zero = refl
no_number [] (suc from) = refl
no_number (b ∷ bits) (suc from) = no_number bits from
