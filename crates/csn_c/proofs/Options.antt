-- What holds of a value that may be there, by what it is.
use Rattle.std.proofs.Common.{◌≡◌, Option, Some, subst, sym}
use Rattle.std.specs.Prelude.{MatchOption}

pub match_some : {T : Type 0} (o : Option T) (x : T) (none : Type 0) (some : T → Type 0) → o ≡ Some x → some x
    → MatchOption o none some
match_some o x none some is holds = subst (λ p. MatchOption p none some) (sym is) holds
