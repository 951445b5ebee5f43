use Rattle.std.proofs.Common.{◌<◌, ◌≡◌, ℕ, [], List, length, subst, sym}
use Rattle.std.specs.Prelude.{slice_index_or}
use Rattle.csn_look.specs.KeyMarks.{KeysAre}
use Rattle.csn_look.specs.KeyRows.{HasTable}
use Rattle.csn_look.specs.MadeProducts.{LeafKeys}
use Rattle.csn_look.proofs.Tables.ProductsMade.{leaf_kept, leaves_same}
use Rattle.csn_look.proofs.table_maker.TableMaker.keep_leaf.Goals as goal

-- the table that was kept
kept : (tables : List (List ℕ)) (at leaf : ℕ) (table : List ℕ) → KeysAre table (LeafKeys leaf) → (at < length tables)
    × (slice_index_or tables at [] ≡ table) → HasTable tables at (LeafKeys leaf)
kept tables at leaf table are h =
    let P : List ℕ → Type 0 = λ m. KeysAre m (LeafKeys leaf) in
    record { within = h.0; keys = subst P (sym h.1) are }

pub invariant_of-self : goal.invariant_of-self
invariant_of-self c =
    record {
      right_products = c.self.invariant.right_products;
      right_leaves = leaves_same c.self.inside.tables c.self.inside.leaves c.insert.new.self c.in_err-insert.ensures.err c.self.invariant.right_leaves;
    }

pub invariant_of-self-2 : goal.invariant_of-self-2
invariant_of-self-2 c =
    let here = kept c.keep.new.self c.in_ok-at.at c.args.leaf c.args.table.now c.requires c.in_ok-at.ensures.kept in
    let P : List (List ℕ) → Type 0 = λ tables. HasTable tables c.in_ok-at.at (LeafKeys c.args.leaf) in
    record {
      right_products = c.self.invariant.right_products;
      right_leaves = leaf_kept c.self.inside.tables c.self.inside.leaves c.insert.new.self c.args.leaf c.in_ok-at.at
          c.in_ok-insert.ensures.updates (subst P (sym c.self.view_is) here) c.self.invariant.right_leaves;
    }

pub returns-clause-kept : goal.returns-clause-kept
returns-clause-kept c =
    let here = kept c.keep.new.self c.in_ok-at.at c.args.leaf c.args.table.now c.requires c.in_ok-at.ensures.kept in
    let P : List (List ℕ) → Type 0 = λ tables. HasTable tables c.in_ok-at.at (LeafKeys c.args.leaf) in
    subst P (sym c.self.view_is) here
