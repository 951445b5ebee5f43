use Rattle.std.proofs.Common.{refl, sym, ◌∙◌, arith}
use Rattle.csn_good.proofs.apart.is_firm.Goals as goal

pub returns : goal.returns
returns c = (
  (λ h. record {
    some_bits = sym c.nullable.ensures ∙ c.if-nullable.false;
    no_empty =
        λ o low empty. c.loop-octet.invariant o (let over = c.loop-octet-test.false in omega arith) empty;
  }),
  (λ h. refl),
)
