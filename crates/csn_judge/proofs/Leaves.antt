-- The forms of literals, fields, spare bits, padding and rests: how bits are taken, and when nothing is left.
use Rattle.std.proofs.Common.{◌≡◌, ℕ, suc, ◌+◌, ◌<◌, ◌≤◌, Bool, true, false, List, [], ◌∷◌, ◌++◌, length, map, refl}
use Rattle.std.proofs.Common.{sym, ◌∙◌, ap, subst, arith, append_assoc, append-nil, length-append}
use Rattle.std.specs.Prelude.{replicate}
use Rattle.std.proofs.lemmas.List.{map-append, append_cancel_left, nil_from_length, length-replicate, replicate-append-replicate}
use Rattle.csn_bits.specs.Octets.{IsBits}
use Rattle.csn_desc.specs.declared.reading.Reading.{Reading}
use Rattle.csn_desc.specs.declared.reading.Reading.TheVariants.{Received, Sent}
use Rattle.csn_desc.specs.declared.symbol.Symbol.{Symbol}
use Rattle.csn_desc.specs.declared.symbol.Symbol.TheVariants.{Low}
use Rattle.csn_desc.specs.declared.moves.Move.{Move}
use Rattle.csn_desc.specs.declared.moves.Move.TheVariants.{Bit, Leave}
use Rattle.csn_desc.specs.Nodes.{DescV}
use Rattle.csn_desc.specs.Spelled.{spelled, IsSpare}
use Rattle.csn_desc.proofs.BitFacts.{IsBits-front, IsBits-along, length-spelled}
use Rattle.csn_judge.specs.Left.{Left, bits_left, symbols_left, spare_left, pad_left, rest_left, none_left, Completes}
use Rattle.csn_judge.specs.Left.{completes_bits, completes_symbols, completes_spare, completes_pad, completes_rest}
use Rattle.csn_judge.specs.Left.{completes_none, Begins, begins_whole, begins_bits, begins_symbols, begins_spare}
use Rattle.csn_judge.specs.Left.{begins_pad}
use Rattle.csn_judge.specs.Remains.{IsUpTo}
use Rattle.csn_judge.proofs.StepFacts.{Replaces, Alike}
use Rattle.csn_bits.proofs.Packing.{IsBits-append}
use Rattle.csn_desc.proofs.Splits.{front_empty}

-- ---- lists

pub bits_behind : (a b : List ℕ) → IsBits (a ++ b) → IsBits b
bits_behind [] b p = p
bits_behind (x ∷ a) b p = bits_behind a b p.1

pub spelled-append : (run more : List Symbol) (place : ℕ) → spelled (run ++ more) place ≡ spelled run place ++ spelled more (place + length run)
spelled-append [] more place = let same : place ≡ place + length {A = Symbol} [] = omega arith in ap (λ p. spelled more p) same
spelled-append (s ∷ run) more place =
    let same : suc place + length run ≡ place + length (s ∷ run) = omega arith in
    let rest = spelled-append run more (suc place) ∙ ap (λ p. spelled run (suc place) ++ spelled more p) same in
    cc

spare_spelled : (s : Symbol) (place : ℕ) (a b : List ℕ)
    → spelled (replicate (length (a ++ b)) s) place ≡ spelled (replicate (length a) s) place ++ spelled
    (replicate (length b) s) (place + length a)
spare_spelled s place a b =
    ap (λ k. spelled (replicate k s) place) (length-append a b)
    ∙ ap (λ l. spelled l place) (sym (replicate-append-replicate (length a) (length b) s))
    ∙ spelled-append (replicate (length a) s) (replicate (length b) s) place
    ∙ ap (λ k. spelled (replicate (length a) s) place ++ spelled (replicate (length b) s) (place + k)) (length-replicate (length a) s)

-- two equal lists whose first pieces are equally long
record Halves (a b c e : List ℕ) : Type 0 where
  pub fronts : a ≡ c
  pub backs : b ≡ e

halves : (a b c e : List ℕ) → length a ≡ length c → a ++ b ≡ c ++ e → Halves a b c e
halves [] b [] e size same = record { fronts = refl; backs = same }
halves [] b (k ∷ c) e size same = absurd (omega arith)
halves (k ∷ a) b [] e size same = absurd (omega arith)
halves (k ∷ a) b (m ∷ c) e size same =
    let first : k ≡ m = cc in
    let others : a ++ b ≡ c ++ e = cc in
    let rest = halves a b c e (omega arith) others in
    record { fronts = let fronts = rest.fronts in cc; backs = rest.backs }

-- a spare part in two pieces
pub spare_front : (r : Reading) (s : Symbol) (place : ℕ) (a b : List ℕ) → IsSpare r s place (a ++ b) → IsSpare r s place a
spare_front Received s place a b h = IsBits-front a b h
spare_front Sent s place a b h =
    let both = halves a b (spelled (replicate (length a) s) place)
    (spelled (replicate (length b) s) (place + length a))
    (sym (length-spelled (replicate (length a) s) place ∙ length-replicate (length a) s))
    (h ∙ spare_spelled s place a b) in
    both.fronts

pub spare_back : (r : Reading) (s : Symbol) (place : ℕ) (a b : List ℕ) → IsSpare r s place (a ++ b) → IsSpare r s (place + length a) b
spare_back Received s place a b h = bits_behind a b h
spare_back Sent s place a b h =
    let both = halves a b (spelled (replicate (length a) s) place)
    (spelled (replicate (length b) s) (place + length a))
    (sym (length-spelled (replicate (length a) s) place ∙ length-replicate (length a) s))
    (h ∙ spare_spelled s place a b) in
    both.backs

pub spare_joined : (r : Reading) (s : Symbol) (place : ℕ) (a b : List ℕ) → IsSpare r s place a → IsSpare r s (place + length a) b → IsSpare r s place (a ++ b)
spare_joined Received s place a b h k = IsBits-append a b h k
spare_joined Sent s place a b h k = let front : a ≡ spelled (replicate (length a) s) place = h in
    let back : b ≡ spelled (replicate (length b) s) (place + length a) = k in ap (λ l. l ++ b) front
    ∙ ap (λ l. spelled (replicate (length a) s) place ++ l) back ∙ sym (spare_spelled s place a b)

pub spare_at : (r : Reading) (s : Symbol) {place other : ℕ} (b : List ℕ) → place ≡ other → IsSpare r s place b → IsSpare r s other b
spare_at r s b e h = let P : ℕ → Type 0 = λ p. IsSpare r s p b in subst P e h

-- the moves of bits in two pieces, and then a leaving
bits_then : (a b : List ℕ) → map Bit (a ++ b) ++ Leave ∷ [] ≡ map Bit a ++ (map Bit b ++ Leave ∷ [])
bits_then a b = ap (λ l. l ++ Leave ∷ []) (map-append Bit a b) ∙ append_assoc (map Bit a) (map Bit b) (Leave ∷ [])

-- ---- what the bits of a leaf are

-- what is left of a leaf, or nothing is
data IsLeaf : Left → Type 0 where
  is_bits : {n : ℕ} → IsLeaf (bits_left n)
  is_symbols : {run : List Symbol} → IsLeaf (symbols_left run)
  is_spare : {s : Symbol} → IsLeaf (spare_left s)
  is_pad : {begun : Bool} → IsLeaf (pad_left begun)
  is_rest : IsLeaf rest_left
  is_none : IsLeaf none_left

-- the same bits are both
record SameBits (P Q : List ℕ → Type 0) : Type 0 where
  pub on : (b : List ℕ) → P b → Q b
  pub back : (b : List ℕ) → Q b → P b

module _ (d : DescV) where
  -- behind `done`, these bits are all that is left of it
  abbrev Fills : Left → List ℕ → List ℕ → Type 0
  Fills (bits_left n) done b = (length b ≡ n) × IsBits b
  Fills (symbols_left run) done b = b ≡ spelled run (length done)
  Fills (spare_left s) done b = (length b ≡ 1) × IsSpare d.reading s (length done) b
  Fills (pad_left begun) done b = (begun ≡ false → 0 < length b) × IsSpare d.reading Low (length done) b
  Fills rest_left done b = IsBits b
  Fills none_left done b = b ≡ []
  Fills _ done b = ⊥

  -- these bits begin it, or are all
  abbrev Starts : Left → List ℕ → List ℕ → Type 0
  Starts (bits_left n) done b = (length b ≤ n) × IsBits b
  Starts (symbols_left run) done b = (rest : List ℕ) × (spelled run (length done) ≡ b ++ rest)
  Starts (spare_left s) done b = (length b ≤ 1) × IsSpare d.reading s (length done) b
  Starts (pad_left begun) done b = IsSpare d.reading Low (length done) b
  Starts rest_left done b = IsBits b
  Starts none_left done b = b ≡ []
  Starts _ done b = ⊥

  fills : {left : Left} {done b : List ℕ} {moves : List Move} → IsLeaf left → Completes d left done b moves
      → Fills left done b × (moves ≡ map Bit b ++ Leave ∷ [])
  fills is_bits (completes_bits size bits is) = ((size, bits), is)
  fills is_symbols (completes_symbols same is) = (same, is)
  fills is_spare (completes_spare size spare is) = ((size, spare), is)
  fills is_pad (completes_pad one spare is) = ((one, spare), is)
  fills is_rest (completes_rest bits is) = (bits, is)
  fills is_none (completes_none none is) = (none, is ∙ ap (λ l. map Bit l ++ Leave ∷ []) (sym none))

  filled : {left : Left} {done b : List ℕ} {moves : List Move} → IsLeaf left → Fills left done b
      → moves ≡ map Bit b ++ Leave ∷ [] → Completes d left done b moves
  filled is_bits h is = completes_bits h.0 h.1 is
  filled is_symbols h is = completes_symbols h is
  filled is_spare h is = completes_spare h.0 h.1 is
  filled is_pad h is = completes_pad h.0 h.1 is
  filled is_rest h is = completes_rest h is
  filled is_none h is = completes_none h (is ∙ ap (λ l. map Bit l ++ Leave ∷ []) h)

  filled_start : {left : Left} (done b : List ℕ) → IsLeaf left → Fills left done b → Starts left done b
  filled_start done b is_bits h = (omega (arith, h.0), h.1)
  filled_start done b is_symbols h = ([], sym h ∙ sym (append-nil b))
  filled_start done b is_spare h = (omega (arith, h.0), h.1)
  filled_start done b is_pad h = h.1
  filled_start done b is_rest h = h
  filled_start done b is_none h = h

  starts : {left : Left} {done b : List ℕ} → IsLeaf left → Begins d left done b → Starts left done b
  starts is_bits (begins_bits few bits) = (few, bits)
  starts {done = done} {b = b} is_bits (begins_whole moves h) = filled_start done b is_bits (fills is_bits h).0
  starts is_symbols (begins_symbols rest same) = (rest, same)
  starts {done = done} {b = b} is_symbols (begins_whole moves h) = filled_start done b is_symbols (fills is_symbols h).0
  starts is_spare (begins_spare few spare) = (few, spare)
  starts {done = done} {b = b} is_spare (begins_whole moves h) = filled_start done b is_spare (fills is_spare h).0
  starts is_pad (begins_pad spare) = spare
  starts {done = done} {b = b} is_pad (begins_whole moves h) = filled_start done b is_pad (fills is_pad h).0
  starts is_rest (begins_whole moves h) = (fills is_rest h).0
  starts is_none (begins_whole moves h) = (fills is_none h).0

  started : {left : Left} {done b : List ℕ} → IsLeaf left → Starts left done b → Begins d left done b
  started is_bits h = begins_bits h.0 h.1
  started is_symbols h = begins_symbols h.0 h.1
  started is_spare h = begins_spare h.0 h.1
  started is_pad h = begins_pad h
  started {b = b} is_rest h = begins_whole (map Bit b ++ Leave ∷ []) (completes_rest h refl)
  started is_none h = begins_whole (Leave ∷ []) (completes_none h refl)

  no_window : {left : Left} → IsLeaf left → (place : ℕ) → IsUpTo left place
  no_window is_bits place = tt
  no_window is_symbols place = tt
  no_window is_spare place = tt
  no_window is_pad place = tt
  no_window is_rest place = tt
  no_window is_none place = tt

  -- a leaf becomes another one by taking bits, where that goes on behind them
  takes : {old new : Left} {done : List ℕ} (taken : List ℕ)
      → IsLeaf old → IsLeaf new → SameBits (λ b. Fills old done (taken ++ b)) (λ b. Fills new (done ++ taken) b)
      → SameBits (λ b. Starts old done (taken ++ b)) (λ b. Starts new (done ++ taken) b)
      → Replaces d old new done taken (map Bit taken)
  takes taken old new all some =
      record {
        completes = λ b moves h.
            let found = fills old h in
            (map Bit b ++ Leave ∷ [], found.1 ∙ bits_then taken b, filled new (all.on b found.0) refl);
        completed = λ b more h.
            let found = fills new h in
            filled old (all.back b found.0) (ap (λ l. map Bit taken ++ l) found.1 ∙ sym (bits_then taken b));
        begins = λ b h. started new (some.on b (starts old h));
        begun = λ b h. started old (some.back b (starts new h));
        up_old = no_window old;
        up_new = no_window new;
      }

  -- and one that has the same bits
  same : {old new : Left} {done : List ℕ} → IsLeaf old → IsLeaf new → SameBits (λ b. Fills old done b)
      (λ b. Fills new done b) → SameBits (λ b. Starts old done b) (λ b. Starts new done b) → Alike d old new done
  same old new all some =
      record {
        completes = λ b moves h. let found = fills old h in filled new (all.on b found.0) found.1;
        completed = λ b moves h. let found = fills new h in filled old (all.back b found.0) found.1;
        begins = λ b h. started new (some.on b (starts old h));
        begun = λ b h. started old (some.back b (starts new h));
        up_old = no_window old;
        up_new = no_window new;
      }

  -- ---- taking bits

  -- of a field
  pub take_bits : (n m : ℕ) (done taken : List ℕ) → n ≡ length taken + m → IsBits taken → Replaces d (bits_left n) (bits_left m) done taken (map Bit taken)
  take_bits n m done taken sum good =
      takes taken is_bits is_bits
      (record {
        on = λ b h. (omega (arith, length-append taken b, h.0, sum), bits_behind taken b h.1);
        back = λ b h. (omega (arith, length-append taken b, h.0, sum), IsBits-append taken b good h.1);
      })
      (record {
        on = λ b h. (omega (arith, length-append taken b, h.0, sum), bits_behind taken b h.1);
        back = λ b h. (omega (arith, length-append taken b, h.0, sum), IsBits-append taken b good h.1);
      })

  -- of a literal
  pub take_symbols : (run more : List Symbol) (done : List ℕ)
      → Replaces d (symbols_left (run ++ more)) (symbols_left more) done (spelled run (length done))
      (map Bit (spelled run (length done)))
  take_symbols run more done =
      takes front is_symbols is_symbols
      (record {
        on = λ b h. append_cancel_left front b later (h ∙ whole);
        back = λ b h. ap (λ l. front ++ l) h ∙ sym whole;
      })
      (record {
        on = λ b h. (h.0, append_cancel_left front later (b ++ h.0) (sym whole ∙ h.1 ∙ append_assoc front b h.0));
        back = λ b h. (h.0, whole ∙ ap (λ l. front ++ l) h.1 ∙ sym (append_assoc front b h.0));
      })
    where
      front : List ℕ
      front = spelled run (length done)

      later : List ℕ
      later = spelled more (length (done ++ front))

      place : length (done ++ front) ≡ length done + length run
      place = length-append done front ∙ ap (λ k. length done + k) (length-spelled run (length done))

      whole : spelled (run ++ more) (length done) ≡ front ++ later
      whole = spelled-append run more (length done) ∙ ap (λ p. front ++ spelled more p) (sym place)

  -- of a spare part
  pub take_spare : (s : Symbol) (done : List ℕ) (a : ℕ) → IsSpare d.reading s (length done) (a ∷ [])
      → Replaces d (spare_left s) none_left done (a ∷ []) (Bit a ∷ [])
  take_spare s done a good =
      takes (a ∷ []) is_spare is_none
      (record { on = λ b h. nil_from_length b (omega (arith, h.0)); back = λ b none. (omega (arith, ap length none), whole b none) })
      (record { on = λ b h. nil_from_length b (omega (arith, h.0)); back = λ b none. (omega (arith, ap length none), whole b none) })
    where
      whole : (b : List ℕ) → b ≡ [] → IsSpare d.reading s (length done) (a ∷ b)
      whole b none = let P : List ℕ → Type 0 = λ l. IsSpare d.reading s (length done) (a ∷ l) in subst P (sym none) good

  pub take_pad : (begun : Bool) (done taken : List ℕ) → 0 < length taken → IsSpare d.reading Low (length done) taken
      → Replaces d (pad_left begun) (pad_left true) done taken (map Bit taken)
  take_pad begun done taken some good =
      takes taken is_pad is_pad
      (record {
        on = λ b h. (λ e. absurd (cc), later b h.1);
        back = λ b h. (λ e. omega (arith, some, length-append taken b), joined b h.1);
      })
      (record { on = later; back = joined })
    where
      place : length done + length taken ≡ length (done ++ taken)
      place = sym (length-append done taken)

      later : (b : List ℕ) → IsSpare d.reading Low (length done) (taken ++ b) → IsSpare d.reading Low (length (done ++ taken)) b
      later b h = spare_at d.reading Low b place (spare_back d.reading Low (length done) taken b h)

      joined : (b : List ℕ) → IsSpare d.reading Low (length (done ++ taken)) b → IsSpare d.reading Low (length done) (taken ++ b)
      joined b h = spare_joined d.reading Low (length done) taken b good (spare_at d.reading Low b (sym place) h)

  -- of a rest
  pub take_rest : (done taken : List ℕ) → IsBits taken → Replaces d rest_left rest_left done taken (map Bit taken)
  take_rest done taken good = takes taken is_rest is_rest bits bits
    where
      bits : SameBits (λ b. IsBits (taken ++ b)) (λ b. IsBits b)
      bits = record { on = λ b h. bits_behind taken b h; back = λ b h. IsBits-append taken b good h }

  -- ---- nothing is left

  pub no_bits_wanted : (done : List ℕ) → Alike d (bits_left 0) none_left done
  no_bits_wanted done =
      same is_bits is_none
      (record { on = λ b h. nil_from_length b h.0; back = λ b none. (ap length none, IsBits-along none tt) })
      (record { on = λ b h. nil_from_length b (omega (arith, h.0)); back = λ b none. (omega (arith, ap length none), IsBits-along none tt) })

  pub no_symbols_wanted : (done : List ℕ) → Alike d (symbols_left []) none_left done
  no_symbols_wanted done =
      same is_symbols is_none
      (record { on = λ b h. h; back = λ b none. none })
      (record { on = λ b h. front_empty b h.0 (sym h.1); back = λ b none. ([], sym (append-nil b ∙ none)) })
