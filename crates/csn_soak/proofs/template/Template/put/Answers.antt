use Rattle.std.proofs.Common.{◌≡◌, ◌-◌, length, drop, refl, ap, ◌∙◌, arith}
use Rattle.std.proofs.lemmas.List.{take_at}
use Rattle.csn_bits.specs.Octets.{bits_of_octets}
use Rattle.csn_soak.proofs.Templates.{count, later, bits_put}
use Rattle.csn_soak.proofs.template.Template.put.Goals as goal

pub put_first-requires-clause-within : goal.put_first-requires-clause-within
put_first-requires-clause-within c =
    omega (
      arith,
      c.deref_mut.ensures.len,
      ap length c.deref_mut.ensures.value,
      c.self.invariant.within,
      c.self.invariant.count,
    )

pub invariant_of-self : goal.invariant_of-self
invariant_of-self c =
    let is = c.self.invariant in
    let many = count c.self.inside is _ _ _ c.deref_mut.ensures.value c.put_first.ensures in
    let long : length c.put_first.new.octets ≡ c.self.inside.octets.len =
    omega (arith, many, is.count, c.deref_mut.ensures.len, ap length c.deref_mut.ensures.value) in
    let kept = take_at c.put_first.new.octets (drop (length c.put_first.new.octets) c.self.inside.octets.items) c.self.inside.octets.len long in
    record {
      some = is.some;
      narrow = is.narrow;
      ends = is.ends;
      count = ap length kept ∙ many;
      part = is.part;
      near = is.near;
      within = is.within;
      octets = ap (drop c.self.inside.many) kept ∙ later c.self.inside is _ _ _ c.deref_mut.ensures.value c.put_first.ensures;
      before = is.before;
      behind = is.behind;
      small = is.small;
    }

pub returns-clause-bits : goal.returns-clause-bits
returns-clause-bits c =
    let is = c.self.invariant in
    let many = count c.self.inside is _ _ _ c.deref_mut.ensures.value c.put_first.ensures in
    let long : length c.put_first.new.octets ≡ c.self.inside.octets.len =
    omega (arith, many, is.count, c.deref_mut.ensures.len, ap length c.deref_mut.ensures.value) in
    let kept = take_at c.put_first.new.octets (drop (length c.put_first.new.octets) c.self.inside.octets.items) c.self.inside.octets.len long in
    rw (← c.self.view_is)
    (ap bits_of_octets kept ∙ bits_put c.self.inside c.self.invariant _ _ _ c.deref_mut.ensures.value
    c.put_first.ensures c.args.number c.ranges.number.fits refl)
