use Rattle.std.proofs.Common.{◌+◌, ◌≤◌, nat_lt, ℕ, ◌∷◌, length, sym, ◌∙◌, ap, subst, arith, length-append}
use Rattle.csn_bits.specs.Numbers.{low_bits}
use Rattle.csn_desc.specs.Nodes.{DescV}
use Rattle.csn_judge.specs.declared.frame.Frame.TheVariants as frame
use Rattle.csn_judge.specs.declared.pace.Pace.{Pace}
use Rattle.csn_judge.specs.Turns.{state_at, GoesOn}
use Rattle.csn_judge.proofs.WholeParts.{whole_read, whole_cheaper, all_taken, as_many_taken, none_wide}
use Rattle.csn_judge.proofs.machine.Machine.read_whole.Goals as goal

pub returns-clause-turns : goal.returns-clause-turns
returns-clause-turns g c = λ yes behind some stack done stands.
    let d : DescV = c.args.self.now.plan.now in
    let width : ℕ = c.in-Some.layout.width in
    let long : width ≤ length c.ready.new.self.bits = omega (arith, c.ready.ensures.count, c.if-ready-width.false) in
    let many = as_many_taken width c.ready.new.self.bits c.peek-number.ensures.written long in
    let took = c.take.ensures.rest in
    let P : Pace → Type 0 = λ p. GoesOn d g.T.Track.takes (state_at (frame.Begin c.args.i ∷ behind)
    c.args.self.now c.args.source.now) (record {
      frames = behind;
      values = c.args.self.now.values.items;
      pace =
          p;
      coming = c.take.new.self;
    }) c.args.track.now c.whole.new.self stack done in
    subst P (sym c.bits.ensures)
    (whole_read d g.T.Track.takes c.args.track.now c.whole.new.self c.args.self.now.values.items c.args.self.now.pace
    c.args.source.now c.take.new.self c.args.i behind
    (nat_lt 0 width) some.known c.in-Some.ensures.laid
    (λ o v. c.admits.ensures c.if-not-admits.false d c.args.i o v c.in-Some.ensures)
    (c.whole.ensures.told c.if-not-whole.false)
    (none_wide width many)
    (sym c.ready.ensures.same.bits ∙ all_taken width c.ready.new.self.bits c.peek-number.ensures.written (ap (λ s. s.bits) took))
    (ap (λ s. s.place) took ∙ ap (λ p. p + width) c.ready.ensures.same.place ∙ ap (λ n. c.args.source.now.place + n) (sym many))
    (ap (λ s. s.limit) took ∙ c.ready.ensures.same.limit)
    (ap (λ s. s.ended) took ∙ c.ready.ensures.same.ended)
    stands)

pub returns-clause-pays : goal.returns-clause-pays
returns-clause-pays g c = λ yes behind.
    let d : DescV = c.args.self.now.plan.now in
    let width : ℕ = c.in-Some.layout.width in
    let long : width ≤ length c.ready.new.self.bits = omega (arith, c.ready.ensures.count, c.if-ready-width.false) in
    let many = as_many_taken width c.ready.new.self.bits c.peek-number.ensures.written long in
    let cut = sym c.ready.ensures.same.bits ∙ all_taken width c.ready.new.self.bits c.peek-number.ensures.written (ap (λ s. s.bits) c.take.ensures.rest) in
    whole_cheaper (length d.nodes) (length c.take.new.self.bits) c.args.i width behind c.args.self.now.pace c.bits.ensures
    (omega (arith, ap (λ l. length l) cut, many, length-append (low_bits width c.peek-number.result) c.take.new.self.bits))
