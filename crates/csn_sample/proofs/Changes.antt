-- Lists with a change.
use Rattle.std.specs.Prelude.{◌≡◌, ℕ, ◌+◌, ◌-◌, ◌<◌, ◌≤◌, List, [], ◌∷◌, ◌++◌, length, take, drop, min, slice_index}
use Rattle.std.proofs.Common.{◌∙◌, sym, ap, append-nil, append_assoc}
use Rattle.std.proofs.lemmas.List.{drop_more, at_drop_all, take-take, take_min}
use Rattle.std.proofs.Math.Nat.{min-le_right}
use Rattle.csn_bits.specs.Octets.{bits_of_octets}
use Rattle.csn_sample.specs.Nearly.{with_first_turned}

-- one more of the rest is added
pub rest_next : (b before bits more : List ℕ) (at : ℕ) → at < length b → more ≡ bits ++ slice_index b at ∷ []
    → bits ++ drop at b ≡ before → more ++ drop (at + 1) b ≡ before
rest_next b before bits more at within added all =
    ap (λ (x : List ℕ). x ++ drop (at + 1) b) added
    ∙ (append_assoc bits (slice_index b at ∷ []) (drop (at + 1) b)
    ∙ (ap (λ (x : List ℕ). bits ++ x) (sym (drop_more b at 0 within)) ∙ all))

-- nothing is left
pub rest_done : (b before bits : List ℕ) (at : ℕ) → length b ≤ at → bits ++ drop at b ≡ before → bits ≡ before
rest_done b before bits at done all =
    sym (append-nil bits) ∙ (sym (at_drop_all (λ (x : List ℕ). bits ++ x) b at done) ∙ all)

-- the first few of the bits in some octets
pub front_of : (octets b : List ℕ) (count : ℕ) → take (length b) (bits_of_octets octets) ≡ b
    → take (min count (length b)) (bits_of_octets octets) ≡ take count b
front_of octets b count are =
    sym (take-take (min count (length b)) (length b) (bits_of_octets octets) (min-le_right count (length b)))
    ∙ (ap (λ (x : List ℕ). take (min count (length b)) x) are ∙ take_min count b)

pub turned_within : (b front one all : List ℕ) (at : ℕ) → at < length b → front ≡ take at b
    → one ≡ front ++ (1 - slice_index b at) ∷ [] → all ≡ one ++ drop (at + 1) b
    → all ≡ take at b ++ with_first_turned (drop at b)
turned_within b front one all at within is added rest =
    rest ∙ (ap (λ (x : List ℕ). x ++ drop (at + 1) b) added
    ∙ (append_assoc front ((1 - slice_index b at) ∷ []) (drop (at + 1) b)
    ∙ (ap (λ (x : List ℕ). x ++ (1 - slice_index b at) ∷ drop (at + 1) b) is
    ∙ ap (λ (x : List ℕ). take at b ++ with_first_turned x) (sym (drop_more b at 0 within)))))

pub turned_behind : (b front : List ℕ) (at : ℕ) → length b ≤ at → front ≡ take at b
    → front ≡ take at b ++ with_first_turned (drop at b)
turned_behind b front at behind is =
    is ∙ sym (ap (λ (x : List ℕ). take at b ++ with_first_turned x) (at_drop_all (λ (x : List ℕ). x) b at behind) ∙ append-nil (take at b))
