-- What is claimed of the nodes of a description: sets, given by tests of what is in them. They may be larger than
-- the least sets that look-ahead goes by. An octet position is a place modulo 8. (This project's own choice.)
use Rattle.std.specs.Prelude.{ℕ, Bool, List, Option}

pub record Claims : Type 0 where
  -- the nodes that may have no bits
  pub nullable : ℕ → Bool
  -- of a node, and an octet position where it begins, the octet positions where its bits may end
  pub ends : ℕ → ℕ → ℕ → Bool
  -- the bits with which it may begin there
  pub starts : ℕ → ℕ → ℕ → Bool
  -- the words with which its bits begin there, each whole or cut
  pub keys : ℕ → ℕ → List ℕ → Bool → Bool
  -- the octet positions where a node may begin
  pub reached : ℕ → ℕ → Bool
  -- what may stand behind a node that ends at an octet position: a bit, or nothing, which is the end
  pub follow : ℕ → ℕ → Option ℕ → Bool
