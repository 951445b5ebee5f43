use Rattle.std.proofs.Common.{ℕ, ◌+◌, ◌++◌, ◌*◌, ◌/◌, ◌%◌, ◌^◌, sym, ap, ◌∙◌, subst, arith}
use Rattle.std.proofs.lemmas.Nat.{one_shl}
use Rattle.hex.specs.Hex.{encode_upper}
use Rattle.csn_bits.specs.Octets.{octets_of}
use Rattle.csn_bits.specs.Numbers.{low_bits}
use Rattle.csn_movetext.specs.Kept.{Flushed, sign}
use Rattle.csn_movetext.proofs.Octets.{flushed, extends_then}
use Rattle.csn_movetext.proofs.writing.Writing.octets.Goals as goal

pub returns-clause-flushed : goal.returns-clause-flushed
returns-clause-flushed c = λ b are long number.
    let begun = c.in_ok-begin_long.ensures in
    let rest : ℕ = c.begin_long.new.self.held % 8 in
    let P : ℕ → Type 0 = λ m. Flushed (c.args.self.now.out.items ++ sign c.args.form c.args.self.now.long)
    c.push_octets.new.out.items b rest (c.begin_long.new.self.bits % m) in
    subst P (sym (one_shl rest 64 (omega arith)))
    (flushed (c.in_ok-push_octets.ensures.digits ∙ ap
    (λ l. l ++ encode_upper
    (octets_of (low_bits (8 * (c.begin_long.new.self.held / 8)) (c.begin_long.new.self.bits / 2 ^ rest))))
    begun.out)
    b are (long ∙ sym begun.held) (number ∙ sym begun.bits))

pub returns-in_err-begin_long-clause-extends : goal.returns-in_err-begin_long-clause-extends
returns-in_err-begin_long-clause-extends c = c.in_err-begin_long.ensures.extends

pub returns-in_err-push_octets-clause-extends : goal.returns-in_err-push_octets-clause-extends
returns-in_err-push_octets-clause-extends c = extends_then _ _ _ c.in_ok-begin_long.ensures.extends c.in_err-push_octets.ensures.extends

pub returns-clause-extends : goal.returns-clause-extends
returns-clause-extends c = extends_then _ _ _ c.in_ok-begin_long.ensures.extends c.in_ok-push_octets.ensures.extends
