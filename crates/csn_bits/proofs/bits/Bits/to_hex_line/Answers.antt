use Rattle.std.proofs.Common.{◌≡◌, ℕ, ◌+◌, ◌%◌, List, [], ◌∷◌, ◌++◌, sym, ap, ◌∙◌, arith, append-nil, append_assoc}
use Rattle.hex.specs.Hex.{encode_upper}
use Rattle.csn_bits.specs.Line.{tail_written, written}
use Rattle.csn_bits.proofs.Written.{tail_written-some, written-packed}
use Rattle.csn_bits.proofs.bits.Bits.to_hex_line.Goals as goal
use Rattle.csn_bits.proofs.bits.Bits.to_hex_line.Goals.{then-used-gt0+in_ok-push+in_ok-push-2, else-used-gt0}

pub returns : goal.returns
returns c =
    let digits : List ℕ = encode_upper c.self.inside.octets.items in
    let used : ℕ = c.self.inside.len % 8 in
    let packed = written-packed _ _ c.self.invariant (omega arith) in
    let wanted = sym packed ∙ ap (λ (bits : List ℕ). written bits) c.self.view_is in
    let begun : c.into_bytes-line.result.items ≡ digits =
    rw c.into_bytes-line.ensures.value (c.in_ok-encode_upper.ensures
    ∙ ap (λ (octets : List ℕ). encode_upper octets) c.as_slice.ensures.value) in
    elim c.if-used-gt0.branch [
      | then-used-gt0+in_ok-push+in_ok-push-2 w ↦
          rw w.line-is (
          w.in_ok-push-2.ensures.items
          ∙ ap (λ (l : List ℕ). l ++ (48 + used) ∷ []) (w.in_ok-push.ensures.items ∙ ap (λ (l : List ℕ). l ++ 47 ∷ []) begun)
          ∙ append_assoc digits (47 ∷ []) ((48 + used) ∷ [])
          ∙ ap (λ (tail : List ℕ). digits ++ tail) (sym (tail_written-some used w.if-used-gt0.true)) ∙ wanted)
      | else-used-gt0 w ↦
          (let none : 0 ≡ used = omega (arith, w.if-used-gt0.false) in
          rw w.line-is (begun ∙ sym (append-nil digits) ∙ ap (λ (n : ℕ). digits ++ tail_written n) none ∙ wanted))
    ]
