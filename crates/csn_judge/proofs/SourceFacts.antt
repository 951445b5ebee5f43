-- What the fields of a source say of what comes.
use Rattle.std.proofs.Common.{◌≡◌, ℕ, ◌+◌, List, [], ◌∷◌, length, refl, sym, ap, ◌∙◌}
use Rattle.csn_judge.specs.Coming.{Coming, coming_of, IsSource}
use Rattle.csn_judge.specs.declared.source.Source.TheInside.{Inside}
use Rattle.csn_judge.proofs.Numbers.{length-coming}

pub record Known (s : Inside) (v : Coming) : Type 0 where
  pub all : length v.bits ≡ s.held.count + s.left
  pub held : v.held ≡ s.held.count
  pub place : v.place ≡ s.place
  pub limit : v.limit ≡ s.limit
  pub ended : v.ended ≡ s.ended

pub known : (s : Inside) (v : Coming) → IsSource s → coming_of s ≡ v → Known s v
known s v is view =
    record {
      all =
          sym (ap (λ (w : Coming). length w.bits) view)
          ∙ length-coming s.held.count s.held.number s.piece.now s.at s.left is.within;
      held = sym (ap (λ (w : Coming). w.held) view);
      place = sym (ap (λ (w : Coming). w.place) view);
      limit = sym (ap (λ (w : Coming). w.limit) view);
      ended = sym (ap (λ (w : Coming). w.ended) view);
    }

-- bits that are not none have a first
pub first_bit : (bits : List ℕ) → ¬ (bits ≡ []) → (bit : ℕ) × (rest : List ℕ) × (bits ≡ bit ∷ rest)
first_bit [] some = absurd (some refl)
first_bit (bit ∷ rest) some = (bit, rest, refl)
