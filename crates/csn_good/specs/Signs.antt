-- What may stand behind a node, as the private functions count it: 0, 1, or 2 for the end. No public contract cites
-- this.
use Rattle.std.specs.Prelude.{ℕ, zero, suc, Option, Some, None}

abbrev pub sign_of : ℕ → Option ℕ
sign_of zero = Some 0
sign_of (suc zero) = Some 1
sign_of (suc (suc sign)) = None
