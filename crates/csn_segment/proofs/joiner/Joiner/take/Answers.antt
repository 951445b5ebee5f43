use Rattle.std.proofs.Common.{◌≡◌, ℕ, ◌-◌, List, length, take, drop, get_or, Option, sym, ap, subst, ◌∙◌}
use Rattle.std.proofs.Math.Seq.{map-set_same}
use Rattle.csn_segment.specs.Header.{header_octets, segment_of, body_of}
use Rattle.csn_segment.specs.Joining.{JoinsFor}
use Rattle.csn_segment.specs.Kept.{kept_after}
use Rattle.csn_segment.proofs.Bodies.{octets_of, joins_after, refused_keeps, rest_is}
use Rattle.csn_segment.proofs.joiner.Joiner.take.Goals as goal

pub returns-in-SegmentedControl-clause-joins : goal.returns-in-SegmentedControl-clause-joins
returns-in-SegmentedControl-clause-joins c = λ blocks joins.
    let before = let P : List (Option (List ℕ)) → Type 0 = λ bodies. JoinsFor bodies blocks in subst P (sym c.self.view_is) joins in
    let octets : List ℕ = c.args.octets.now in
    let rest : List ℕ = take (length octets - c.octets.result) (drop c.octets.result octets) in
    let body : rest ≡ body_of octets =
    rest_is c.octets.result octets ∙ ap (λ n. drop n octets) (c.octets.ensures ∙ ap header_octets c.of-header.ensures.address) in
    let first : Option (List ℕ) = octets_of (get_or c.self.inside.bodies c.of-header.result.rti c.index-self-header.result) in
    joins_after blocks octets c.if-octets-ne-BLOCK_OCTETS.false (sym c.in-SegmentedControl.ensures) c.self.inside.bodies
    c.of-header.result.rti _ c.index-self-header.result c.of-header.ensures.rti c.of-header.ensures.small
    (c.join.ensures.kept ∙ ap (λ s. kept_after s first rest) c.of-header.ensures.segment ∙ ap (kept_after (segment_of octets) first) body) before

pub returns-in-SegmentedControl-clause-refused : goal.returns-in-SegmentedControl-clause-refused
returns-in-SegmentedControl-clause-refused c = λ reason refused.
    map-set_same octets_of c.self.inside.bodies c.of-header.result.rti _ c.index-self-header.result
    (c.join.ensures.kept ∙ refused_keeps _ _ _ _ reason (sym c.join.ensures.answer ∙ refused))
    ∙ c.self.view_is
