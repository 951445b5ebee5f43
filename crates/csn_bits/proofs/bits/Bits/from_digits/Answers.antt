use Rattle.std.proofs.Common.{◌≡◌, ℕ, ◌+◌, ◌<◌, ◌≤◌, inr, List, [], ◌∷◌, ◌++◌, length, take, sym, ap, ◌∙◌, arith, subst}
use Rattle.std.proofs.lemmas.List.{take_all, take_more}
use Rattle.csn_bits.specs.Feed.{Fed, octets_given}
use Rattle.csn_bits.specs.Line.{fault_of}
use Rattle.csn_bits.proofs.Written.{dot_line, gives_nothing, gives_octet, kept_few, line_kept, packs_kept}
use Rattle.csn_bits.proofs.bits.Bits.from_digits.Goals as goal
use Rattle.csn_bits.proofs.bits.Bits.from_digits.Goals.{in-Octet+in_ok-push, in_default}

pub loop-byte-preserved : goal.loop-byte-preserved
loop-byte-preserved c =
    let i : ℕ = c.loop-byte.byte-index in
    let line : List ℕ = c.args.line.now in
    let below : i < length line = c.loop-byte-test.true in
    let more = take_more line i 0 below in
    let fed = c.byte.ensures.fed (take i line) c.loop-byte.invariant.fed in
    let given = c.byte.ensures.given (take i line) c.loop-byte.invariant.fed in
    record {
      fed = subst (λ (l : List ℕ). Fed c.byte.new.self l) (sym more) fed;
      given = elim c.match-byte.branch [
        | in-Octet+in_ok-push w ↦
            ap (λ v. v.items) w.octets-is ∙ w.in_ok-push.ensures.items ∙ ap (λ (os : List ℕ). os ++ w.in-Octet.octet ∷ []) c.loop-byte.invariant.given
            ∙ gives_octet (take i line) _ w.in-Octet.octet c.byte.result w.in-Octet.is given ∙ ap octets_given (sym more)
        | in_default w ↦
            ap (λ v. v.items) w.octets-is ∙ c.loop-byte.invariant.given
            ∙ gives_nothing (take i line) _ c.byte.result w.in_default.is given ∙ ap octets_given (sym more)
      ];
      seen = c.byte.ensures.seen ∙ ap (λ (n : ℕ). n + 1) c.loop-byte.invariant.seen;
    }

pub overflow_cast-len : goal.overflow_cast-len
overflow_cast-len c =
    let count : c.len.result ≡ length c.loop-byte.octets.items = omega (arith, c.len.ensures) in
    let few : c.len.result ≤ 65536 = kept_few (take c.loop-byte.byte-index c.args.line.now)
    c.loop-byte.octets.items c.len.result c.loop-byte.invariant.given count in
    omega (arith, few)

pub overflow_mul-len : goal.overflow_mul-len
overflow_mul-len c =
    let count : c.len.result ≡ length c.loop-byte.octets.items = omega (arith, c.len.ensures) in
    let few : c.len.result ≤ 65536 = kept_few (take c.loop-byte.byte-index c.args.line.now)
    c.loop-byte.octets.items c.len.result c.loop-byte.invariant.given count in
    omega (arith, few)

pub overflow_add-len : goal.overflow_add-len
overflow_add-len c =
    let count : c.len.result ≡ length c.loop-byte.octets.items = omega (arith, c.len.ensures) in
    let line : List ℕ = take c.loop-byte.byte-index c.args.line.now in
    let few : c.len.result ≤ 65536 = kept_few line c.loop-byte.octets.items c.len.result c.loop-byte.invariant.given count in
    let used : c.in-Last.bits ≤ 8 = (c.in-Last.ensures.ends line c.loop-byte.invariant.fed).few in
    omega (arith, few, used)

pub invariant_of-result : goal.invariant_of-result
invariant_of-result c =
    let count : c.len.result ≡ length c.loop-byte.octets.items = omega (arith, c.len.ensures) in
    let line : List ℕ = take c.loop-byte.byte-index c.args.line.now in
    (packs_kept line _ _ _ _ _ c.loop-byte.invariant.given c.in_ok-push-in-Last.ensures.items count (c.in-Last.ensures.ends line c.loop-byte.invariant.fed)).0

pub returns-in-Empty-clause-ok : goal.returns-in-Empty-clause-ok
returns-in-Empty-clause-ok c =
    let line : List ℕ = take c.loop-byte.byte-index c.args.line.now in
    let whole : line ≡ c.args.line.now = take_all c.loop-byte.byte-index c.args.line.now c.loop-byte-test.false in
    dot_line c.args.line.now c.new.result (sym whole ∙ c.in-Empty.ensures.ends line c.loop-byte.invariant.fed) c.new.ensures

pub returns-in_ok-push-in-Last-clause-ok : goal.returns-in_ok-push-in-Last-clause-ok
returns-in_ok-push-in-Last-clause-ok c =
    let count : c.len.result ≡ length c.loop-byte.octets.items = omega (arith, c.len.ensures) in
    let line : List ℕ = take c.loop-byte.byte-index c.args.line.now in
    let whole : line ≡ c.args.line.now = take_all c.loop-byte.byte-index c.args.line.now c.loop-byte-test.false in
    line_kept line c.args.line.now _ _ _ _ _ whole c.loop-byte.invariant.given c.in_ok-push-in-Last.ensures.items
    count (c.in-Last.ensures.ends line c.loop-byte.invariant.fed)

pub returns-in-Fault-clause-refused : goal.returns-in-Fault-clause-refused
returns-in-Fault-clause-refused c =
    let line : List ℕ = take c.loop-byte.byte-index c.args.line.now in
    let whole : line ≡ c.args.line.now = take_all c.loop-byte.byte-index c.args.line.now c.loop-byte-test.false in
    inr (c.in-Fault.why, sym (ap fault_of whole) ∙ c.in-Fault.ensures.ends line c.loop-byte.invariant.fed, c.into.ensures)
