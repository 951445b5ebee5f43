use Rattle.std.proofs.Common.{◌≡◌, ℕ, Bool, List, length, subst, sym}
use Rattle.std.proofs.lemmas.Result.{IfOk-weaker}
use Rattle.csn_look.specs.KeyMarks.{KeysAre}
use Rattle.csn_look.specs.KeyRows.{HasTable}
use Rattle.csn_look.specs.MadeProducts.{leaf_of_size, LeafKeys}
use Rattle.csn_look.proofs.Tables.ProductsMade.{leaf_is_size, has_leaf, back_and_forth}
use Rattle.csn_look.proofs.Tables.RowFacts.{keys_as, keys_first, more_none}
use Rattle.csn_look.proofs.table_maker.TableMaker.keep_words.Goals as goal

pub returns-in-Some-clause-kept : goal.returns-in-Some-clause-kept
returns-in-Some-clause-kept c =
    let P : List ℕ → Bool → Type 0 = λ key mark. (length key ≡ c.args.size) × (mark ≡ c.args.whole) in
    let is : c.leaf_of_size-leaf.result ≡ leaf_of_size c.args.size c.args.whole = c.leaf_of_size-leaf.ensures in
    let Q : ℕ → Type 0 = λ leaf. HasTable c.args.self.now c.in-Some.at (LeafKeys leaf) in
    has_leaf c.args.self.now c.in-Some.at (LeafKeys (leaf_of_size c.args.size c.args.whole)) P
    (back_and_forth P (LeafKeys (leaf_of_size c.args.size c.args.whole))
    (leaf_is_size c.args.size c.args.whole c.requires)) (subst Q is c.in-Some.ensures)

pub keep_leaf-requires : goal.keep_leaf-requires
keep_leaf-requires c =
    let P : List ℕ → Bool → Type 0 = λ key mark. (length key ≡ c.args.size) × (mark ≡ c.args.whole) in
    let is : c.leaf_of_size-leaf.result ≡ leaf_of_size c.args.size c.args.whole = c.leaf_of_size-leaf.ensures in
    let Q : ℕ → Type 0 = λ leaf. KeysAre c.add_words.new.self (LeafKeys leaf) in
    subst Q (sym is) (keys_as c.add_words.new.self P (LeafKeys (leaf_of_size c.args.size c.args.whole))
    (keys_first c.in_ok-table.table c.add_words.new.self P c.in_ok-table.ensures c.in_ok-add_words.ensures.added)
    (leaf_is_size c.args.size c.args.whole c.requires))

pub returns-clause-kept : goal.returns-clause-kept
returns-clause-kept c =
    let P : List ℕ → Bool → Type 0 = λ key mark. (length key ≡ c.args.size) × (mark ≡ c.args.whole) in
    let is : c.leaf_of_size-leaf.result ≡ leaf_of_size c.args.size c.args.whole = c.leaf_of_size-leaf.ensures in
    let new = c.keep_leaf.new.self in
    IfOk-weaker c.keep_leaf.result (λ (at : ℕ). HasTable new at (LeafKeys c.leaf_of_size-leaf.result)) (λ (at : ℕ). HasTable new at P)
    (λ at has.
    let Q : ℕ → Type 0 = λ leaf. HasTable new at (LeafKeys leaf) in
    has_leaf new at (LeafKeys (leaf_of_size c.args.size c.args.whole)) P
    (back_and_forth P (LeafKeys (leaf_of_size c.args.size c.args.whole))
    (leaf_is_size c.args.size c.args.whole c.requires)) (subst Q is has))
    c.keep_leaf.ensures.kept

pub returns-in-Some-clause-more : goal.returns-in-Some-clause-more
returns-in-Some-clause-more c = more_none c.args.self.now
