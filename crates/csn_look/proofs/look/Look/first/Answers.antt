use Rattle.std.proofs.Common.{◌≡◌, Bool, sym, ap, subst, ◌∙◌}
use Rattle.std.specs.Prelude.{if◌then◌else◌}
use Rattle.std.specs.FinSet as set
use Rattle.csn_look.specs.declared.symbol_set.Sign.TheVariants.{Zero, One}
use Rattle.csn_look.specs.SignsV.{SignsV}
use Rattle.csn_look.specs.Signs.{with_sign}
use Rattle.csn_look.specs.Starts.{InFirst}
use Rattle.csn_look.specs.Told.{SignsAre, FollowHas}
use Rattle.csn_look.proofs.Sets.LookFacts.{known_sets, put_first, first_is}
use Rattle.csn_look.proofs.look.Look.first.Goals as goal

pub returns : goal.returns
returns c =
    let sets = c.of-sets.result in
    let z : Bool = set.contains sets.zero c.args.octet in
    let o : Bool = set.contains sets.one c.args.octet in
    let behind = c.kept_if-behind.result in
    let begun = c.with_if.result in
    let zero_is =
    c.with_if.ensures
    ∙ ap (λ (b : Bool). if b then with_sign behind Zero else behind) c.has.ensures
    ∙ ap (λ (s : SignsV). if z then with_sign s Zero else s) c.kept_if-behind.ensures in
    let is : c.with_if-2.result ≡ put_first sets.nullable z o c.at.result =
    c.with_if-2.ensures
    ∙ ap (λ (b : Bool). if b then with_sign begun One else begun) c.has-2.ensures
    ∙ ap (λ (s : SignsV). if o then with_sign s One else s) zero_is in
    λ d look.
    subst (λ (s : SignsV). SignsAre s (InFirst d (FollowHas c.args.follow.now) c.args.node c.args.octet)) (sym is)
    (first_is d c.args.node c.args.octet sets c.args.follow.now c.at.result
    (known_sets d c.args.self.now.sets c.args.node c.of-sets.result look c.of-sets.ensures)
    c.requires.octet c.at.ensures)
