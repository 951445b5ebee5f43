use Rattle.std.proofs.Common.{◌≡◌, ◌++◌, ◌∷◌, [], length, ◌∙◌, rules, ap, arith, length-append}
use Rattle.csn_resolve.specs.Gives.{placed}
use Rattle.csn_resolve.specs.Made.{paired}
use Rattle.csn_resolve.proofs.Giving.MadeFacts.{paired_long, paired_push}
use Rattle.csn_resolve.proofs.made.Made.push.Goals as goal

pub invariant_of-self-in_default : goal.invariant_of-self-in_default
invariant_of-self-in_default c =
    let nodes : c.push-2.new.self.items ≡ c.self.inside.nodes.items ++ c.args.node ∷ [] = search rules in
    let places : c.push.new.self.items ≡ c.self.inside.places.items ++ c.args.place ∷ [] = search rules in
    let nodes_long = ap length nodes ∙ length-append c.self.inside.nodes.items (c.args.node ∷ []) in
    let places_long = ap length places ∙ length-append c.self.inside.places.items (c.args.place ∷ []) in
    let long = paired_long c.self.inside.nodes.items c.self.inside.places.items c.self.invariant.0 in
    let same = ap length c.self.view_is in
    let alike = c.self.invariant.0 in
    (omega (arith, nodes_long, places_long, alike), omega (arith, nodes_long, long, same, c.requires))

pub returns : goal.returns
returns c =
    let nodes : c.push-2.new.self.items ≡ c.self.inside.nodes.items ++ c.args.node ∷ [] = search rules in
    let places : c.push.new.self.items ≡ c.self.inside.places.items ++ c.args.place ∷ [] = search rules in
    ap (λ l. paired l c.push.new.self.items) nodes ∙ (ap (λ l. paired (c.self.inside.nodes.items ++ c.args.node ∷ []) l) places
    ∙ (paired_push c.self.inside.nodes.items c.self.inside.places.items c.args.node c.args.place c.self.invariant.0
    ∙ ap (λ l. l ++ placed c.args.node c.args.place ∷ []) c.self.view_is))
