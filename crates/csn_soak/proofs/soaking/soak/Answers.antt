use Rattle.std.proofs.Common.{◌≡◌, ◌↔◌, ◌+◌, ◌*◌, IsTrue, ℕ, suc, List, length, if◌then◌else◌, refl, ap, subst, ◌∙◌, arith}
use Rattle.csn_desc.specs.Nodes.{DescV}
use Rattle.csn_catalogue.specs.Samples.{sample_octets}
use Rattle.csn_soak.specs.Generator.{number, next_number, is_cut, block}
use Rattle.csn_soak.specs.Soaking.{IsSoaked, IsString, of_none}
use Rattle.csn_soak.proofs.Blocks.{long, short, few_bits, some_bits, narrow, near, more, tells_of}
use Rattle.csn_soak.proofs.soaking.soak.Goals as goal

pub new-requires-clause-some : goal.new-requires-clause-some
new-requires-clause-some c = omega (arith, c.sample_of-sample.ensures.width, some_bits c.args.entry)

pub new-requires-clause-narrow : goal.new-requires-clause-narrow
new-requires-clause-narrow c = omega (arith, c.sample_of-sample.ensures.width, narrow c.args.entry)

pub new-requires-clause-near : goal.new-requires-clause-near
new-requires-clause-near c = omega (arith, c.sample_of-sample.ensures.at, c.sample_of-sample.ensures.width, near c.args.entry)

pub loop-k-init : goal.loop-k-init
loop-k-init c = record {
  number = refl;
  soaked = record { ok = of_none refl refl; all = refl; bits = refl };
  fresh =
      (c.new-judge.ensures.judges, c.new-judge.ensures.seen);
  desc = c.new-judge.ensures.desc;
  template =
      c.in-Ok.ensures;
}

pub add-requires-clause-short : goal.add-requires-clause-short
add-requires-clause-short c =
    let k : ℕ = c.loop-k.k in
    let octets : c.sample_of-sample.result.octets.now ≡ sample_octets c.args.entry = c.sample_of-sample.ensures.octets in
    let bits : c.length_of.result ≡ length (block c.args.entry k) = c.length_of.ensures
    ∙ ap (λ (o : List ℕ). if is_cut k then 1 else 8 * length o) octets ∙ long c.args.entry k in
    omega (arith, bits, short c.args.entry k, few_bits c.args.entry k, c.loop-k.invariant.soaked.bits, c.loop-k-test.true, c.requires)

pub loop-k-preserved : goal.loop-k-preserved
loop-k-preserved c =
    let k : ℕ = c.loop-k.k in
    let next : suc k ≡ k + 1 = omega arith in
    let octets : c.sample_of-sample.result.octets.now ≡ sample_octets c.args.entry = c.sample_of-sample.ensures.octets in
    let bits : c.length_of.result ≡ length (block c.args.entry k) = c.length_of.ensures
    ∙ ap (λ (o : List ℕ). if is_cut k then 1 else 8 * length o) octets ∙ long c.args.entry k in
    let x : c.next-number.result ≡ number (suc k) = c.next-number.ensures ∙ ap next_number c.loop-k.invariant.number in
    let tells : IsTrue c.is_block_string-ok.result ↔ IsString c.args.plan.now (block c.args.entry k) =
    subst (λ (d : DescV). IsTrue c.is_block_string-ok.result ↔ IsString d (block c.args.entry k)) c.loop-k.invariant.desc
    (tells_of c.loop-k.judge.desc c.args.entry k c.is_block_string-ok.result _ _ _ c.next-number.result octets
    c.sample_of-sample.ensures.at c.sample_of-sample.ensures.width x c.is_block_string-ok.ensures.answer) in
    record {
      number = subst (λ n. c.next-number.result ≡ number n) next x;
      soaked = subst (λ n. IsSoaked c.args.plan.now c.args.entry n c.add.new.self) next
          (more c.args.plan.now c.args.entry k c.is_block_string-ok.result c.loop-k.soaked c.add.new.self c.length_of.result tells bits
          c.add.ensures.ok c.add.ensures.refused c.add.ensures.bits c.loop-k.invariant.soaked);
      fresh = c.is_block_string-ok.ensures.fresh;
      desc = c.is_block_string-ok.ensures.desc ∙ c.loop-k.invariant.desc;
      template = c.is_block_string-ok.ensures.sample ∙ c.loop-k.invariant.template;
    }
