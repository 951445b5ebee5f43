use Rattle.std.proofs.Common.{◌≡◌, ◌++◌, ◌∷◌, [], take, take_all, refl, length, length-append, append_assoc, sym, ◌∙◌, ap, arith}
use Rattle.std.proofs.lemmas.List.{length-take-le}
use Rattle.csn_desc.specs.Spelled.{spelled}
use Rattle.csn_desc.proofs.BitFacts.{length-spelled}
use Rattle.csn_encode.proofs.Leaves.{spelled-next}
use Rattle.csn_encode.proofs.draft.Draft.spell.Goals as goal

pub push-requires-clause-room : goal.push-requires-clause-room
push-requires-clause-room c =
    let long = ap length c.loop-at.invariant.bits ∙ length-append c.args.self.now.bits
    (spelled (take c.loop-at.at c.args.run.now) (length c.args.self.now.bits)) in
    let size = length-spelled (take c.loop-at.at c.args.run.now) (length c.args.self.now.bits) in
    let few = length-take-le c.loop-at.at c.args.run.now (omega arith) in
    omega (arith, long, size, few)

pub loop-at-preserved : goal.loop-at-preserved
loop-at-preserved c =
    let long = ap length c.loop-at.invariant.bits ∙ length-append c.args.self.now.bits
    (spelled (take c.loop-at.at c.args.run.now) (length c.args.self.now.bits)) in
    let size = length-spelled (take c.loop-at.at c.args.run.now) (length c.args.self.now.bits) in
    let few = length-take-le c.loop-at.at c.args.run.now (omega arith) in
    record {
      bits = c.in_ok-push.ensures.bits ∙ ap (λ l. l ++ c.bit.result ∷ []) c.loop-at.invariant.bits
          ∙ append_assoc c.args.self.now.bits (spelled (take c.loop-at.at c.args.run.now) (length c.args.self.now.bits)) (c.bit.result ∷ [])
          ∙ ap (λ b. c.args.self.now.bits ++ (spelled (take c.loop-at.at c.args.run.now) (length c.args.self.now.bits) ++ b ∷ [])) c.bit.ensures.value
          ∙ ap (λ l. c.args.self.now.bits ++ l)
          (sym (spelled-next c.args.run.now c.loop-at.at (length c.args.self.now.bits)
          c.len-place.result c.get.result.now c.get.ensures (omega arith)
          (c.len-place.ensures.count ∙ (omega (arith, long, size, few)))));
      path = c.in_ok-push.ensures.path ∙ c.loop-at.invariant.path;
      numbers = c.in_ok-push.ensures.numbers ∙ c.loop-at.invariant.numbers;
    }

pub returns-clause-added : goal.returns-clause-added
returns-clause-added c =
    let run = c.args.run.now in
    let o = length c.args.self.now.bits in
    let all : take c.loop-at.at run ≡ run = take_all c.loop-at.at run (omega arith) in
    let bits = c.loop-at.invariant.bits ∙ ap (λ l. c.args.self.now.bits ++ spelled l o) all in
    let long = ap length bits ∙ length-append c.args.self.now.bits (spelled run o) in
    record {
      added = spelled run o;
      meant = refl;
      bits = bits;
      within = omega (arith, long, length-spelled run o);
      path = c.loop-at.invariant.path;
      numbers = λ i. (c.loop-at.invariant.numbers i).items;
    }
