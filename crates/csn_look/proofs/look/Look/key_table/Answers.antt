use Rattle.std.proofs.Common.{◌≡◌, ◌∙◌, ◌<◌, [], length, get_or, ap, arith}
use Rattle.std.proofs.lemmas.List.{get_or_read}
use Rattle.csn_look.specs.LookV.{LookV}
use Rattle.csn_look.specs.LookKeys.{table_at}
use Rattle.csn_look.proofs.Sets.LookKeyFacts.{table_keys}
use Rattle.csn_look.proofs.look.Look.key_table.Goals as goal

pub returns-clause-keys : goal.returns-clause-keys
returns-clause-keys c = λ d known.
    let node = c.args.node in
    let octet = c.args.octet in
    let rows = ap (λ (v : LookV). length v.rows) c.self.view_is in
    let there : node < length c.self.inside.rows.items = omega (arith, rows, c.requires.node) in
    let row = get_or_read c.self.inside.rows.items node c.index.result.now there c.index.ensures [] in
    let is : c.get.result.now ≡ table_at c.args.self.now node octet =
    c.get.ensures ∙ ap (λ r. get_or c.self.inside.tables (get_or r octet 0) []) row ∙ ap (λ (v : LookV). table_at v node octet) c.self.view_is in
    table_keys d c.args.self.now node octet c.get.result.now is c.requires.node c.requires.octet known
