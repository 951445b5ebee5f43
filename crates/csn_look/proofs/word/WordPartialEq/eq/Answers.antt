use Rattle.std.proofs.Common.{◌≡◌, nat_eq, sym, ap, ◌∙◌}
use Rattle.csn_look.specs.WordV.{write_on, word_of-written}
use Rattle.csn_look.proofs.word.WordPartialEq.eq.Goals as goal

pub returns : goal.returns
returns c =
    let own : c.t1-1.inside.place ≡ write_on 1 c.args.self.now =
    sym (word_of-written c.t1-1.inside.place c.t1-1.invariant.0 c.t1-1.invariant.1)
    ∙ ap (write_on 1) c.t1-1.view_is in
    let others : c.t2-1.inside.place ≡ write_on 1 c.args.other.now =
    sym (word_of-written c.t2-1.inside.place c.t2-1.invariant.0 c.t2-1.invariant.1)
    ∙ ap (write_on 1) c.t2-1.view_is in
    c.eq.ensures ∙ ap (λ n. nat_eq n c.t2-1.inside.place) own ∙ ap (λ n. nat_eq (write_on 1 c.args.self.now) n) others
