use Rattle.csn_desc.specs.declared.symbol.Symbol.TheVariants.{Low}
use Rattle.csn_desc.specs.Spelled.{IsSpare}
use Rattle.std.proofs.Common.{subst, [], ◌∷◌, refl, ◌↔◌, IsTrue, true}
use Rattle.csn_claims.specs.Starts.{NodeStarts, starts_field, starts_rest}
use Rattle.csn_good.specs.ClaimedSets.{claims_of}
use Rattle.csn_good.proofs.Arms.{along}
use Rattle.csn_good.proofs.SetArms.{start_lits, start_spare, start_pad, start_seq, start_trunc, start_choice}
use Rattle.csn_good.proofs.SetArms.{start_times, start_many, start_window, start_named, tells, is_claim}
use Rattle.csn_good.proofs.sets.may_start.Goals as goal

pub returns-in-Field : goal.returns-in-Field
returns-in-Field c = along (λ n. IsTrue true ↔ NodeStarts c.args.desc.now (claims_of c.args.c.now)
    n c.args.octet c.args.bit) c.in-Field.is ((λ h. starts_field c.requires.bit), (λ h. refl))

pub returns-in-Rest : goal.returns-in-Rest
returns-in-Rest c = along (λ n. IsTrue true ↔ NodeStarts c.args.desc.now (claims_of c.args.c.now)
    n c.args.octet c.args.bit) c.in-Rest.is ((λ h. starts_rest c.requires.bit), (λ h. refl))

pub returns-in-Lits : goal.returns-in-Lits
returns-in-Lits c = along (λ n. IsTrue c.literal_starts.result ↔ NodeStarts c.args.desc.now (claims_of c.args.c.now)
    n c.args.octet c.args.bit) c.in-Lits.is
    (tells c.literal_starts.ensures (start_lits c.args.desc.now (claims_of c.args.c.now)
    c.in-Lits.run' c.args.octet c.args.bit))

pub returns-in-Spare : goal.returns-in-Spare
returns-in-Spare c = along (λ n. IsTrue c.spare_may_be.result ↔ NodeStarts c.args.desc.now (claims_of c.args.c.now)
    n c.args.octet c.args.bit) c.in-Spare.is
    (tells (subst (λ r. IsTrue c.spare_may_be.result ↔ IsSpare r c.in-Spare.symbol c.args.octet (c.args.bit ∷ []))
    c.reading.ensures c.spare_may_be.ensures) (start_spare c.args.desc.now (claims_of c.args.c.now)
    c.in-Spare.symbol c.args.octet c.args.bit))

pub returns-in-Pad : goal.returns-in-Pad
returns-in-Pad c = along (λ n. IsTrue c.spare_may_be-in-Pad.result ↔ NodeStarts c.args.desc.now
    (claims_of c.args.c.now) n c.args.octet c.args.bit) c.in-Pad.is
    (tells (subst (λ r. IsTrue c.spare_may_be-in-Pad.result ↔ IsSpare r Low c.args.octet (c.args.bit ∷ []))
    c.reading-in-Pad.ensures c.spare_may_be-in-Pad.ensures) (start_pad c.args.desc.now (claims_of c.args.c.now)
    c.args.octet c.args.bit))

pub returns-in-Seq : goal.returns-in-Seq
returns-in-Seq c = along (λ n. IsTrue c.starts.result ↔ NodeStarts c.args.desc.now (claims_of c.args.c.now)
    n c.args.octet c.args.bit) c.in-Seq.is
    (tells (tells (is_claim c.starts.ensures) (
      (λ h. (c.tail_of.ensures.starts c.args.octet c.args.bit c.requires.octet c.requires.bit).1 h),
      (λ h. (c.tail_of.ensures.starts c.args.octet c.args.bit c.requires.octet c.requires.bit).0 h),
    ))
    (start_seq c.args.desc.now (claims_of c.args.c.now) c.in-Seq.parts c.args.octet c.args.bit))

pub returns-in-Trunc : goal.returns-in-Trunc
returns-in-Trunc c = along (λ n. IsTrue c.starts-in-Trunc.result ↔ NodeStarts c.args.desc.now (claims_of c.args.c.now)
    n c.args.octet c.args.bit) c.in-Trunc.is
    (tells (tells (is_claim c.starts-in-Trunc.ensures) (
      (λ h. (c.tail_of-in-Trunc.ensures.starts c.args.octet c.args.bit c.requires.octet c.requires.bit).1 h),
      (λ h. (c.tail_of-in-Trunc.ensures.starts c.args.octet c.args.bit c.requires.octet c.requires.bit).0 h),
    ))
    (start_trunc c.args.desc.now (claims_of c.args.c.now) c.in-Trunc.parts c.args.octet c.args.bit))

pub returns-in-Choice : goal.returns-in-Choice
returns-in-Choice c = along (λ n. IsTrue c.some_starts.result ↔ NodeStarts c.args.desc.now (claims_of c.args.c.now)
    n c.args.octet c.args.bit) c.in-Choice.is
    (tells c.some_starts.ensures (start_choice c.args.desc.now (claims_of c.args.c.now) c.in-Choice.parts c.args.octet
    c.args.bit))

pub returns-in-Times : goal.returns-in-Times
returns-in-Times c = along (λ n. IsTrue c.starts_with.result ↔ NodeStarts c.args.desc.now (claims_of c.args.c.now)
    n c.args.octet c.args.bit) c.in-Times.is
    (tells (is_claim c.starts_with.ensures) (start_times c.args.desc.now (claims_of c.args.c.now)
    c.in-Times.count c.in-Times.part c.args.octet c.args.bit))

pub returns-in-Many : goal.returns-in-Many
returns-in-Many c = along (λ n. IsTrue c.starts_with-in-Many.result ↔ NodeStarts c.args.desc.now
    (claims_of c.args.c.now) n c.args.octet c.args.bit) c.in-Many.is (tells (is_claim c.starts_with-in-Many.ensures)
    (start_many c.args.desc.now (claims_of c.args.c.now) c.in-Many.part c.args.octet c.args.bit))

pub returns-in-Window : goal.returns-in-Window
returns-in-Window c = along (λ n. IsTrue c.starts_with-in-Window.result ↔ NodeStarts c.args.desc.now
    (claims_of c.args.c.now) n c.args.octet c.args.bit) c.in-Window.is
    (tells (is_claim c.starts_with-in-Window.ensures) (start_window c.args.desc.now (claims_of c.args.c.now)
    c.in-Window.unit c.in-Window.count c.in-Window.part c.args.octet c.args.bit))

pub returns-in-Named : goal.returns-in-Named
returns-in-Named c = along (λ n. IsTrue c.starts_with-in-Named.result ↔ NodeStarts c.args.desc.now
    (claims_of c.args.c.now) n c.args.octet c.args.bit) c.in-Named.is (tells (is_claim c.starts_with-in-Named.ensures)
    (start_named c.args.desc.now (claims_of c.args.c.now) c.in-Named.label c.in-Named.part c.args.octet c.args.bit))
