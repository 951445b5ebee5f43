-- The tokens of a text: separators, comments and tokens in order, each token the longest that stands
-- there.
use Rattle.std.specs.Prelude.{◌≡◌, ℕ, ◌<◌, ◌≤◌, List, [], ◌∷◌, length, Option, Some, None, Result, Ok, Err, IsFalse, slice_index, slice_range}
use Rattle.csn_lexer.specs.declared.token.TokenKind.{TokenKind}
use Rattle.csn_lexer.specs.declared.token.Token.{Token}
use Rattle.csn_lexer.specs.declared.token.LexFault.{LexFault}
use Rattle.csn_lexer.specs.Spelling.{IsSpelled}
use Rattle.csn_lexer.specs.Gap.{is_separator, BeginsComment, IsGap}

-- the token is its span of the text, and no longer piece from its start is a token
pub record IsLongest (text : List ℕ) (t : Token) : Type 0 where
  pub begins : t.start < t.end
  pub within : t.end ≤ length text
  pub spelled : IsSpelled t.kind (slice_range text t.start t.end)
  pub longest : (m : ℕ) → t.end < m → m ≤ length text
      → (k : TokenKind) → ¬ IsSpelled k (slice_range text t.start m)

-- the token begins at this place, and is the longest there
abbrev pub IsTokenAt : List ℕ → ℕ → Token → Type 0
IsTokenAt text at t = (t.start ≡ at) × IsLongest text t

-- no piece from this place on is a token
abbrev pub BeginsNoToken : List ℕ → ℕ → Type 0
BeginsNoToken text at =
    (m : ℕ) → at < m → m ≤ length text → (k : TokenKind) → ¬ IsSpelled k (slice_range text at m)

-- the byte at this place separates nothing, and begins neither a comment nor a token
pub record BeginsNothing (text : List ℕ) (at : ℕ) : Type 0 where
  pub inside : at < length text
  pub no_separator : IsFalse (is_separator (slice_index text at))
  pub no_comment : ¬ BeginsComment text at
  pub no_token : BeginsNoToken text at

-- what stands next from a place on: the text's end, a token, or a byte that begins none
abbrev pub IsNext : List ℕ → ℕ → Result (Option Token) LexFault → Type 0
IsNext text at (Ok None) = IsGap text at (length text)
IsNext text at (Ok (Some t)) = IsGap text at t.start × IsLongest text t
IsNext text at (Err fault) = IsGap text at fault.place × BeginsNothing text fault.place

-- from `at` on these tokens stand in the text, and the last of them ends at `to`
pub data AreTokens (text : List ℕ) : ℕ → List Token → ℕ → Type 0 where
  nothing : {at to : ℕ} → at ≡ to → AreTokens text at [] to
  token : {at to : ℕ} {t : Token} {ts : List Token} → IsNext text at (Ok (Some t))
      → AreTokens text t.end ts to → AreTokens text at (t ∷ ts) to

-- what stands behind the last token: the text's end, or a byte that begins no token
abbrev pub stop_of : Option LexFault → Result (Option Token) LexFault
stop_of None = Ok None
stop_of (Some fault) = Err fault

-- the text is these tokens, up to its end or up to a byte that begins no token
pub record AreAllTokens (text : List ℕ) (ts : List Token) (fault : Option LexFault) : Type 0 where
  pub to : ℕ
  pub tokens : AreTokens text 0 ts to
  pub stop : IsNext text to (stop_of fault)

-- no text is read in two ways
abbrev pub TextsAreReadInOneWay : Type 0
TextsAreReadInOneWay =
    (text : List ℕ) (ts us : List Token) (f g : Option LexFault)
    → AreAllTokens text ts f → AreAllTokens text us g → (ts ≡ us) × (f ≡ g)

-- from no place of a text two things stand next
abbrev pub OneIsNext : Type 0
OneIsNext =
    (text : List ℕ) (at : ℕ) (next other : Result (Option Token) LexFault)
    → IsNext text at next → IsNext text at other → next ≡ other

-- from each place of a text something stands next
abbrev pub SomethingIsNext : Type 0
SomethingIsNext =
    (text : List ℕ) (at : ℕ) → at ≤ length text → (next : Result (Option Token) LexFault) × IsNext text at next
