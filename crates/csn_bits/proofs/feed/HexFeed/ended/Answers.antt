use Rattle.std.proofs.Common.{◌≤◌, length, sym, ◌∙◌, arith}
use Rattle.csn_bits.proofs.Faults.{clear_from, fault-fill, fault-many, fault-no_octet, fault-none, fault-odd, fault-tail, unused_test, whole_from}
use Rattle.csn_bits.proofs.Written.{ends_with}
use Rattle.csn_bits.proofs.feed.HexFeed.ended.Goals as goal

pub returns-in_default : goal.returns-in_default
returns-in_default c digits tail s w o n u =
    let f = fault-tail digits tail s (sym u ∙ c.in_default.is-2) in (f, f)

pub returns-in_default-2 : goal.returns-in_default-2
returns-in_default-2 c digits tail s w o n u =
    let f = fault-no_octet digits tail s (sym w ∙ c.in_default.is-0) (sym o ∙ c.in_default.is-1) in (f, f)

pub returns-in_default-3 : goal.returns-in_default-3
returns-in_default-3 c digits tail s w o n u =
    let f = fault-odd digits tail _ s (sym w ∙ c.in_default.is-0) in (f, f)

pub returns-then-octet-bits-ne0 : goal.returns-then-octet-bits-ne0
returns-then-octet-bits-ne0 c digits tail s w o n u =
    let p = c.in-None-Some-Some in
    let range = c.requires p.bits p.is-2 in
    let same = unused_test p.octet p.bits range.0 in
    let unused = rw same at c.if-octet-bits-ne0.true in
    let f = fault-fill digits tail _ _ (whole_from digits tail _ _ s w o u p.is-0 p.is-1 p.is-2 range) (omega (arith, unused)) in
    (f, f)

pub returns-then-digits : goal.returns-then-digits
returns-then-digits c digits tail s w o n u =
    let p = c.in-None-Some-Some in
    let (whole, zeros) = clear_from digits tail _ _ s w o u p.is-0 p.is-1 p.is-2 (c.requires p.bits p.is-2) c.if-octet-bits-ne0.false in
    let f = fault-many digits tail _ _ whole zeros (omega (arith, n, c.if-digits.true)) in
    (f, f)

pub returns-else-digits : goal.returns-else-digits
returns-else-digits c digits tail s w o n u =
    let p = c.in-None-Some-Some in
    let (whole, zeros) = clear_from digits tail _ _ s w o u p.is-0 p.is-1 p.is-2 (c.requires p.bits p.is-2) c.if-octet-bits-ne0.false in
    let fits : length digits ≤ 131072 = omega (arith, n, c.if-digits.false) in
    (ends_with digits tail _ _ whole zeros fits, fault-none digits tail _ _ whole zeros fits)
