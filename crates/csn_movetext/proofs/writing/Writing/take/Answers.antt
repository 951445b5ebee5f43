use Rattle.csn_movetext.specs.Kept.{kept_of}
use Rattle.csn_movetext.proofs.Gathering.{took_shows, flushed_shows, last_bits}
use Rattle.csn_movetext.proofs.writing.Writing.take.Goals as goal

pub returns-then-self-count-gt-MOST_HELD-clause-took : goal.returns-then-self-count-gt-MOST_HELD-clause-took
returns-then-self-count-gt-MOST_HELD-clause-took c =
    let added = c.add.ensures in
    let wrote = c.in_ok-octets.ensures in
    λ w s. flushed_shows c.args.form (kept_of c.args.self.now) (kept_of c.octets.new.self) (kept_of c.add.new.self) w c.args.number c.args.count
    c.if-self-count-gt-MOST_HELD.true wrote.flushed wrote.long wrote.left added.held
    (λ small. last_bits c.args.number c.args.count _ c.requires.few (added.bits small))
    added.out added.left added.long s

pub returns-clause-took : goal.returns-clause-took
returns-clause-took c =
    let added = c.add-2.ensures in
    λ w s. took_shows c.args.form (kept_of c.args.self.now) (kept_of c.add-2.new.self) w c.args.number c.args.count
    added.held (λ small. last_bits c.args.number c.args.count _ c.requires.few (added.bits small)) added.out added.left added.long s
