-- Spots one behind the other.
use Rattle.std.proofs.Common.{◌≡◌, ℕ, ◌<◌, ◌≤◌, ◌+◌, List, [], ◌∷◌, ◌++◌, length, inl, inr, arith, refl, sym, ◌∙◌, ap, subst, rules, take, get_or, suc}
use Rattle.std.proofs.lemmas.List.{append-nil, append_assoc, length-append}
use Rattle.std.proofs.Math.Seq.{take-suc}
use Rattle.csn_reasons.specs.Spots.{IsBehind, IsSpot, feeds}

feeds_append : (a b : List ℕ) → feeds (a ++ b) ≡ feeds a + feeds b
feeds_append [] b = omega arith
feeds_append (x ∷ a) b = let rest = feeds_append a b in omega (arith, rest)

feeds_feed : feeds (10 ∷ []) ≡ 1
feeds_feed = refl

feeds_other : (byte : ℕ) → (byte ≡ 10 → ⊥) → feeds (byte ∷ []) ≡ 0
feeds_other byte other = search rules

-- one byte more
pub one_more : (bytes : List ℕ) (byte line column line' column' : ℕ)
    → IsSpot bytes line column → IsBehind byte line column line' column' → IsSpot (bytes ++ byte ∷ []) line' column'
one_more bytes byte line column line' column' is (inl new) = record {
  lines =
      let e : feeds (bytes ++ byte ∷ []) ≡ feeds bytes + 1 =
      feeds_append bytes (byte ∷ []) ∙ ap (λ b. feeds bytes + feeds (b ∷ [])) new.0 in
      omega (arith, e, is.lines, new.1);
  columns = (
    bytes ++ byte ∷ [],
    [],
    sym (append-nil (bytes ++ byte ∷ [])),
    inr (bytes, ap (λ b. bytes ++ b ∷ []) new.0),
    refl,
    new.2,
  );
}
one_more bytes byte line column line' column' is (inr same) =
    let (whole, last, parts, wholes, none, col) = is.columns in
    record {
      lines =
          let e : feeds (bytes ++ byte ∷ []) ≡ feeds bytes + 0 =
          feeds_append bytes (byte ∷ []) ∙ ap (λ n. feeds bytes + n) (feeds_other byte same.0) in
          omega (arith, e, is.lines, same.1);
      columns = (
        whole,
        last ++ byte ∷ [],
        ap (λ b. b ++ byte ∷ []) parts ∙ append_assoc whole last (byte ∷ []),
        wholes,
        (let e = feeds_append last (byte ∷ []) in let f = feeds_other byte same.0 in omega (arith, e, f, none)),
        (let e = length-append last (byte ∷ []) in omega (arith, e, col, same.2)),
      );
    }

-- nothing yet
pub at_first : IsSpot [] 1 1
at_first = record { lines = refl; columns = ([], [], refl, inl refl, refl, refl) }

-- one byte of a text more
pub one_more_of : (text : List ℕ) (at line column line' column' : ℕ) → at < length text
    → IsSpot (take at text) line column → IsBehind (get_or text at 0) line column line' column' → IsSpot (take (at + 1) text) line' column'
one_more_of text at line column line' column' within is next =
    let e : at + 1 ≡ suc at = omega arith in
    subst (λ bytes. IsSpot bytes line' column') (sym (ap (λ n. take n text) e ∙ take-suc text at 0 within))
    (one_more (take at text) (get_or text at 0) line column line' column' is next)

-- a line or a column grows by no more than 1
pub line_grows : (byte line column line' column' : ℕ) → IsBehind byte line column line' column' → line' ≤ line + 1
line_grows byte line column line' column' (inl new) = omega (arith, new.1)
line_grows byte line column line' column' (inr same) = omega (arith, same.1)

pub column_grows : (byte line column line' column' : ℕ) → IsBehind byte line column line' column' → column' ≤ column + 1
column_grows byte line column line' column' (inl new) = omega (arith, new.2)
column_grows byte line column line' column' (inr same) = omega (arith, same.2)
