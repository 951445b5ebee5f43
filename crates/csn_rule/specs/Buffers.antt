-- Buffers of the caller. (This project's own choice.)
use Rattle.std.specs.Prelude.{◌≡◌, ℕ, List, [], ◌∷◌, ◌++◌, length, take, drop, refl}

-- a buffer into which bytes or other items were copied, as far as there was room
abbrev pub copied : {T : Type 0} → List T → List T → List T
copied items buffer = take (length buffer) items ++ drop (length items) buffer

-- ---- examples

-- there is room for more, and room for fewer
pub with_room : copied {T = ℕ} (1 ∷ 2 ∷ []) (7 ∷ 8 ∷ 9 ∷ []) ≡ 1 ∷ 2 ∷ 9 ∷ []
with_room = refl

pub with_less_room : copied {T = ℕ} (1 ∷ 2 ∷ []) (7 ∷ []) ≡ 1 ∷ []
with_less_room = refl
