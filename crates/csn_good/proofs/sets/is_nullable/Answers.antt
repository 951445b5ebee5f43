use Rattle.std.proofs.Common.{refl, sym, ◌∙◌, inl, inr, ◌↔◌, IsTrue, true}
use Rattle.csn_claims.specs.Nullable.{NodeNullable, nullable_null, nullable_rest, nullable_many, nullable_trunc}
use Rattle.csn_good.specs.ClaimedSets.{claims_of}
use Rattle.csn_good.proofs.Arms.{along}
use Rattle.csn_good.proofs.SetArms.{null_field, null_seq, null_choice, null_times, null_window, null_named, tells, is_claim}
use Rattle.csn_good.proofs.sets.is_nullable.Goals as goal

pub returns-in-Null : goal.returns-in-Null
returns-in-Null c = along (λ n. IsTrue true ↔ NodeNullable (claims_of c.args.c.now) n) c.in-Null.is ((λ h. nullable_null), (λ h. refl))

pub returns-in-Rest : goal.returns-in-Rest
returns-in-Rest c = along (λ n. IsTrue true ↔ NodeNullable (claims_of c.args.c.now) n) c.in-Rest.is ((λ h. nullable_rest), (λ h. refl))

pub returns-in-Many : goal.returns-in-Many
returns-in-Many c = along (λ n. IsTrue true ↔ NodeNullable (claims_of c.args.c.now) n) c.in-Many.is ((λ h. nullable_many), (λ h. refl))

pub returns-in-Trunc : goal.returns-in-Trunc
returns-in-Trunc c = along (λ n. IsTrue true ↔ NodeNullable (claims_of c.args.c.now) n) c.in-Trunc.is ((λ h. nullable_trunc), (λ h. refl))

pub returns-in-Field : goal.returns-in-Field
returns-in-Field c = along (λ n. IsTrue c.may_be_none.result ↔ NodeNullable (claims_of c.args.c.now) n) c.in-Field.is
    (tells c.may_be_none.ensures (null_field (claims_of c.args.c.now) c.in-Field.unit c.in-Field.count))

pub returns-in-Seq : goal.returns-in-Seq
returns-in-Seq c = along (λ n. IsTrue c.all_nullable.result ↔ NodeNullable (claims_of c.args.c.now) n) c.in-Seq.is
    (tells c.all_nullable.ensures (null_seq (claims_of c.args.c.now) c.in-Seq.parts))

pub returns-in-Choice : goal.returns-in-Choice
returns-in-Choice c = along (λ n. IsTrue c.some_nullable.result ↔ NodeNullable (claims_of c.args.c.now) n)
    c.in-Choice.is (tells c.some_nullable.ensures (null_choice (claims_of c.args.c.now) c.in-Choice.parts))

pub returns-then-may_be_none : goal.returns-then-may_be_none
returns-then-may_be_none c = along (λ n. IsTrue c.may_be_none-in-Times.result ↔ NodeNullable (claims_of c.args.c.now)
    n) c.in-Times.is (let e = null_times (claims_of c.args.c.now) c.in-Times.count c.in-Times.part in
    ((λ h. e.1 (inl (c.may_be_none-in-Times.ensures.0 h))), (λ h. c.if-may_be_none.true)))

pub returns-else-may_be_none : goal.returns-else-may_be_none
returns-else-may_be_none c = along (λ n. IsTrue c.nullable.result ↔ NodeNullable (claims_of c.args.c.now) n)
    c.in-Times.is (let e = null_times (claims_of c.args.c.now) c.in-Times.count c.in-Times.part in (
      (λ h. e.1 (inr (sym c.nullable.ensures ∙ h))),
      (λ h. elim (e.0 h) [
        | inl none ↦ (let wrong = c.may_be_none-in-Times.ensures.1 none in absurd (cc))
        | inr part ↦ c.nullable.ensures ∙ part
      ]),
    ))

pub returns-then-may_be_none-2 : goal.returns-then-may_be_none-2
returns-then-may_be_none-2 c = along (λ n. IsTrue c.nullable-then-may_be_none-2.result ↔ NodeNullable
    (claims_of c.args.c.now) n) c.in-Window.is (let e = null_window (claims_of c.args.c.now)
    c.in-Window.unit c.in-Window.count c.in-Window.part in (
      (λ h. e.1 (
        c.may_be_none-in-Window.ensures.0 c.if-may_be_none-2.true,
        sym c.nullable-then-may_be_none-2.ensures
            ∙ h,
      )),
      (λ h. c.nullable-then-may_be_none-2.ensures ∙ (e.0 h).1),
    ))

pub returns-in-Named : goal.returns-in-Named
returns-in-Named c = along (λ n. IsTrue c.nullable-in-Named.result ↔ NodeNullable (claims_of c.args.c.now) n)
    c.in-Named.is (tells (is_claim c.nullable-in-Named.ensures)
    (null_named (claims_of c.args.c.now) c.in-Named.label c.in-Named.part))
