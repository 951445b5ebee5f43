use Rattle.csn_look.proofs.Tables.KeyLists.{listed_own}
use Rattle.csn_look.proofs.key_set.list_word.Goals as goal

pub returns : goal.returns
returns c = λ word is here.
    listed_own c.args.marks.now word c.with_place-word.result c.args.keys.now.items c.list_key.new.keys.items c.list_key-2.new.keys.items
    (c.with_place-word.ensures word is here) c.in_ok-list_key.ensures c.in_ok-list_key-2.ensures
