use Rattle.std.proofs.Common.{◌++◌, take, refl, ◌∙◌, ap, arith, length-append, length}
use Rattle.std.proofs.lemmas.List.{length-take-le}
use Rattle.csn_bits.specs.Octets.{bits_of_octets}
use Rattle.csn_bits.proofs.Packing.{length-bits_of_octets}
use Rattle.csn_encode.proofs.OctetRuns.{run_more}
use Rattle.csn_encode.proofs.draft.Draft.add.Goals as goal

pub loop-left-init : goal.loop-left-init
loop-left-init c =
    let count = c.len-left.ensures.count in
    record {
      bits = ap (λ l. c.args.self.now.bits ++ l) (ap (λ n. take n (bits_of_octets c.octets-rest.result.now)) count ∙ c.octets-rest.ensures.bits);
      count = omega (arith, c.octets-rest.ensures.count, count);
      room = omega (arith, count);
      path = refl;
      numbers = refl;
    }

pub loop-left-preserved : goal.loop-left-preserved
loop-left-preserved c =
    let now = c.loop-left.invariant in
    let front = c.split_at.result.0.now in
    let size = c.split_at.ensures.front_len in
    let added = c.in_ok-add_run.ensures.bits in
    let long = ap length added ∙ length-append c.loop-left.self.bits (take 56 (bits_of_octets front)) in
    let run = length-take-le 56 (bits_of_octets front) (omega (arith, length-bits_of_octets front, size)) in
    record {
      bits = run_more c.loop-left.self.bits c.args.self.now.bits c.args.leaf.now c.loop-left.rest.now front
          c.split_at.result.1.now c.add_run.new.self.bits c.loop-left.left now.bits
          c.split_at.ensures.front c.split_at.ensures.back (omega (arith, now.count, c.loop-left-test.true)) c.loop-left-test.true added;
      count = omega (arith, now.count, c.split_at.ensures.back_len, c.loop-left-test.true);
      room = omega (arith, now.room, long, run, c.loop-left-test.true);
      path = c.in_ok-add_run.ensures.path ∙ now.path;
      numbers = c.in_ok-add_run.ensures.numbers ∙ now.numbers;
    }
