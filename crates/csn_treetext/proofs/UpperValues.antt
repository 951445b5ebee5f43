-- The values of hexadecimal digits in upper case: those of all digits below `a`.
use Rattle.std.proofs.Common.{◌≡◌, ℕ, zero, suc, ◌<◌, ◌≤◌, ◌==◌, nat_le, true, false, if◌then◌else◌, Option, Some, None, sym, ap, ◌∙◌, refl, arith, eqb-true}
use Rattle.std.proofs.lemmas.Bool.{agree_below_at, le-leb, lt-leb}
use Rattle.hex.specs.Hex.{hex_digit_value}
use Rattle.csn_treetext.specs.reader.Machine.{upper_value}

abbrev code : Option ℕ → ℕ
code None = zero
code (Some v) = suc v

abbrev decode : ℕ → Option ℕ
decode zero = None
decode (suc v) = Some v

decoded : (x : Option ℕ) → decode (code x) ≡ x
decoded None = refl
decoded (Some v) = refl

one_option : (a b : Option ℕ) → code a ≡ code b → a ≡ b
one_option a b e = sym (decoded a) ∙ ap decode e ∙ decoded b

abbrev below : ℕ → Option ℕ
below byte = if nat_le 97 byte then None else hex_digit_value byte

below_is : (byte : ℕ) → byte < 256 → below byte ≡ upper_value byte
below_is byte low = one_option (below byte) (upper_value byte)
    (eqb-true _ _ (agree_below_at (λ k. code (below k) == code (upper_value k)) (λ _. true) 256 byte refl low))

pub no_upper_digit : (byte : ℕ) → byte < 256 → 97 ≤ byte → None ≡ upper_value byte
no_upper_digit byte low large = sym (ap (λ b. if b then None else hex_digit_value byte) (le-leb 97 byte large)) ∙ below_is byte low

pub upper_digit : (byte : ℕ) → byte < 256 → byte < 97 → hex_digit_value byte ≡ upper_value byte
upper_digit byte low small = sym (ap (λ b. if b then None else hex_digit_value byte) (lt-leb 97 byte small)) ∙ below_is byte low
