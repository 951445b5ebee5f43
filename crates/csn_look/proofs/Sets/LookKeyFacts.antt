-- The table of a node, and the list of its keys.
use Rattle.std.proofs.Common.{◌≡◌, ℕ, ◌<◌, ◌≤◌, List, length, sym, subst, arith}
use Rattle.csn_desc.specs.Nodes.{DescV}
use Rattle.csn_look.specs.declared.word.Key.{Key}
use Rattle.csn_look.specs.Keys.{InKeys}
use Rattle.csn_look.specs.KeyMarks.{KeysAre}
use Rattle.csn_look.specs.KeyLists.{IsKeyList}
use Rattle.csn_look.specs.LookV.{LookV}
use Rattle.csn_look.specs.LookKeys.{table_at, IsKeysOf, ListsKeys}
use Rattle.csn_look.proofs.Tables.KeyWords.{key_word}

-- the table of a node has its keys
pub table_keys : (d : DescV) (look : LookV) (i o : ℕ) (marks : List ℕ) → marks ≡ table_at look i o
    → i < length look.rows → o ≤ 7 → IsKeysOf d look → KeysAre marks (InKeys d 12 i o)
table_keys d look i o marks is inside low known =
    let there : i < length d.nodes = omega (arith, inside, known.same) in
    subst (λ (table : List ℕ). KeysAre table (InKeys d 12 i o)) (sym is) (known.keys i o there low)

pub lists_keys : (d : DescV) (i o : ℕ) (marks : List ℕ) (keys : List Key) → KeysAre marks (InKeys d 12 i o)
    → IsKeyList marks keys → ListsKeys keys (InKeys d 12 i o)
lists_keys d i o marks keys are list = record {
  exact = λ key. (
    (λ there.
        let is = list.words key there in
        (are key.word key.whole is).0 ((list.exact key is).0 there)),
    (λ h.
        let is = key_word d h in
        (list.exact key is).1 ((are key.word key.whole is).1 h)),
  );
  rising = list.rising;
}
