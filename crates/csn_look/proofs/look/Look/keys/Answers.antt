use Rattle.std.proofs.Common.{List}
use Rattle.std.proofs.lemmas.Result.{IfOk-weaker}
use Rattle.csn_look.specs.declared.word.Key.{Key}
use Rattle.csn_look.specs.Keys.{InKeys}
use Rattle.csn_look.specs.KeyLists.{IsKeyList}
use Rattle.csn_look.specs.LookKeys.{ListsKeys}
use Rattle.csn_look.proofs.Sets.LookKeyFacts.{lists_keys}
use Rattle.csn_look.proofs.look.Look.keys.Goals as goal

pub returns-clause-keys : goal.returns-clause-keys
returns-clause-keys c = λ d look.
    let node = c.args.node in
    let octet = c.args.octet in
    let marks = c.key_table.result.now in
    IfOk-weaker c.keys.result (λ (keys : List Key). IsKeyList marks keys) (λ (keys : List Key). ListsKeys keys (InKeys d 12 node octet))
    (λ keys list. lists_keys d node octet marks keys (c.key_table.ensures.keys d look) list)
    c.keys.ensures
