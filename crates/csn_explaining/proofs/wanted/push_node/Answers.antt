use Rattle.std.proofs.Common.{◌≡◌, ◌++◌, OnOk, codes, length, arith, subst, sym, ap, ◌∙◌}
use Rattle.csn_explaining.specs.Texts.{counted_text}
use Rattle.csn_explaining.specs.Wanted.{node_text}
use Rattle.csn_explaining.proofs.wanted.push_node.Goals as goal

pub returns-in-Choice : goal.returns-in-Choice
returns-in-Choice c =
    let count : c.from-in-Choice.result ≡ length c.in-Choice.parts = omega
    (arith, c.from-in-Choice.ensures, c.len-in-Choice.ensures.len) in
    subst (λ l. OnOk c.push_sized-in-Choice.result (c.push_sized-in-Choice.new.out.items ≡ c.args.out.now.items ++ l))
    (sym (ap (λ n. node_text n) c.in-Choice.is ∙ ap (λ n. codes "one of " ++ counted_text n (codes "alternative")) (sym count)))
    c.push_sized-in-Choice.ensures
