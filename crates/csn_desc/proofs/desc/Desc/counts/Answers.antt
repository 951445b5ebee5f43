-- The marks are those of the nodes, one for each.
use Rattle.std.proofs.Common.{◌≡◌, length, ap, ◌∙◌, arith, get_or}
use Rattle.std.proofs.lemmas.List.FromFn.{length-map-range_with_len, get_or-map-range_with_len}
use Rattle.csn_desc.specs.Formed.{is_counted, counted_marks}
use Rattle.csn_desc.proofs.desc.Desc.counts.Goals as goal

pub index-requires : goal.index-requires
index-requires c =
    let nodes = c.self.inside.nodes.items in
    let same : length nodes ≡ length c.args.self.now.nodes = ap (λ d. length d.nodes) c.self.view_is in
    let marks : length c.self.inside.counted.items ≡ length nodes = ap length c.self.invariant.1
    ∙ length-map-range_with_len (is_counted nodes) 0 (length nodes) in
    omega arith

pub returns : goal.returns
returns c =
    let nodes = c.self.inside.nodes.items in
    let nodes_are : nodes ≡ c.args.self.now.nodes = ap (λ d. d.nodes) c.self.view_is in
    let same : length nodes ≡ length c.args.self.now.nodes = ap length nodes_are in
    let i = c.args.i in
    let answer = c.index.result.now in
    let mark : get_or (counted_marks nodes) i answer ≡ is_counted nodes i =
    get_or-map-range_with_len (is_counted nodes) 0 (length nodes) i i answer (omega arith) (omega arith) in
    c.index.ensures ∙ ap (λ marks. get_or marks i answer) c.self.invariant.1 ∙ mark ∙ ap (λ all. is_counted all i) nodes_are
