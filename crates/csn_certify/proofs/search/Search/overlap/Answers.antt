use Rattle.std.proofs.Common.{ℕ, [], ◌∷◌, Option, Some, None, length, sym, ◌∙◌, subst, arith}
use Rattle.csn_desc.specs.declared.node.Node.TheVariants.{Choice}
use Rattle.csn_look.proofs.Handing.ReachedParts.{parts_below}
use Rattle.csn_certify.specs.Filling.{IsSameBefore}
use Rattle.csn_certify.specs.Search.{IsFirstUnder, IsLeastFrom}
use Rattle.csn_certify.specs.Overlaps.{Overlaps}
use Rattle.csn_certify.proofs.Searching.{if_ok_more}
use Rattle.csn_certify.proofs.OverlapSearch.{overlap_none, overlap_some}
use Rattle.csn_certify.proofs.SharedKeys.{none_again, there_is}
use Rattle.csn_certify.proofs.search.Search.overlap.Goals as goal

pub overlap_of-requires-clause-part : goal.overlap_of-requires-clause-part
overlap_of-requires-clause-part c =
    let d = c.args.self.now.desc.now in
    let P = Overlaps d c.args.octet c.args.choice.now.parts.now in
    let least : IsLeastFrom 0 P (Some c.in-Some.i) = subst (λ (r : Option ℕ). IsLeastFrom 0 P r) c.in-Some.is c.in_ok-i.ensures in
    (least.1.p, least.1.part)

pub returns-in-Some : goal.returns-in-Some
returns-in-Some c =
    let d = c.args.self.now.desc.now in
    let P = Overlaps d c.args.octet c.args.choice.now.parts.now in
    let least : IsLeastFrom 0 P (Some c.in-Some.i) = subst (λ (r : Option ℕ). IsLeastFrom 0 P r) c.in-Some.is c.in_ok-i.ensures in
    if_ok_more c.overlap_of.result (IsFirstUnder d (c.args.choice.now.node ∷ 3 ∷ c.args.octet ∷ 3 ∷ c.in-Some.i ∷ []))
    (IsFirstUnder d (c.args.choice.now.node ∷ 3 ∷ c.args.octet ∷ 3 ∷ []))
    (λ r h. overlap_some d c.args.choice.now.node c.args.choice.now.parts.now c.requires.choice c.args.octet
    c.in-Some.i r c.requires.reached least h) c.overlap_of.ensures

pub returns-in-None : goal.returns-in-None
returns-in-None c =
    let d = c.args.self.now.desc.now in
    let P = Overlaps d c.args.octet c.args.choice.now.parts.now in
    let least : IsLeastFrom 0 P None = subst (λ (r : Option ℕ). IsLeastFrom 0 P r) c.in-None.is c.in_ok-i.ensures in
    overlap_none d c.args.choice.now.node c.args.choice.now.parts.now c.requires.choice c.args.octet least

pub returns-then-is_some : goal.returns-then-is_some
returns-then-is_some c =
    let d = c.args.self.now.desc.now in
    let look = c.args.self.now.look.now in
    let node = c.args.choice.now.node in
    let parts = c.args.choice.now.parts.now in
    let below = parts_below d node (Choice parts) (length d.nodes) c.requires.known.description c.requires.choice (omega arith) in
    let same = there_is c.same_before.result (IsSameBefore d look node parts c.args.octet) (sym c.is_some.ensures ∙ c.if-is_some.true) c.same_before.ensures in
    none_again d look c.requires.known.keys node parts c.args.octet same.0 below c.requires.octet same.1 c.requires.choice
    (c.requires.before same.0 same.1.before)
