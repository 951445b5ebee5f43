use Rattle.std.proofs.Common.{rules, ◌≡◌, ◌∙◌, ap, map, codes}
use Rattle.csn_command.proofs.Words.{one_member}
use Rattle.csn_command.proofs.command.is_migrate.Goals as goal

pub returns-in-len1 : goal.returns-in-len1
returns-in-len1 g c =
    let words = one_member c.args.words.now c.command-item.result c.in-len1.len_at_least c.in-len1.len_below c.command-item.is in (
      λ is. (
          let first : g.W.AsStr.text c.command-item.result ≡ codes "migrate" = search rules in
          ap (map g.W.AsStr.text) words ∙ cc (first)
          ),
      λ row. (
          let first : g.W.AsStr.text c.command-item.result ≡ codes "migrate" = cc (ap (map g.W.AsStr.text) words, row) in
          search rules
          ),
    )
