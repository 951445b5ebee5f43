use Rattle.std.proofs.Common.{◌≡◌, ℕ, ◌<◌, ◌%◌, List, length, get_or, sym, ◌∙◌, subst}
use Rattle.csn_look.specs.KeyMarks.{KeysAre, Adds}
use Rattle.csn_look.specs.KeyProducts.{AfterKeys}
use Rattle.csn_look.specs.KeyRows.{table_of, HasTable, IsMore}
use Rattle.csn_look.proofs.Tables.RowFacts.{keys_first, kept_table, more_none}
use Rattle.csn_look.proofs.Tables.ProductsMade.{product_of}
use Rattle.csn_look.proofs.table_maker.TableMaker.keep_after.Goals as goal

-- the table that was made of the first one and of those that come after it is kept
kept :
    (old new tables : List (List ℕ)) (first at : ℕ) (rests one none made : List ℕ) → one ≡ table_of old first → tables ≡ old
    → KeysAre none (λ word whole. ⊥) → Adds none made (AfterKeys one (λ size. table_of tables (get_or rests (size % 8) 0)))
    → IsMore old new → (at < length new) × (table_of new at ≡ made)
    → HasTable new at (AfterKeys (table_of old first) (λ size. table_of old (get_or rests (size % 8) 0)))
kept old new tables first at rests one none made read all empty adds more h =
    let P : List ℕ → Type 0 = λ f. Adds none made (AfterKeys f (λ size. table_of tables (get_or rests (size % 8) 0))) in
    let Q : List (List ℕ) → Type 0 = λ l. Adds none made (AfterKeys (table_of old first) (λ size. table_of l (get_or rests (size % 8) 0))) in
    let keys = AfterKeys (table_of old first) (λ size. table_of old (get_or rests (size % 8) 0)) in
    (kept_table old new at made keys more h.0 h.1 (keys_first none made keys empty (subst Q all (subst P read adds)))).table

pub remember-requires : goal.remember-requires
remember-requires c =
    product_of c.args.self.now c.keep.new.self c.args.first c.args.rests.now c.in_ok-at.at c.keep.ensures.more c.requires.first c.requires.rests
    (kept c.args.self.now c.keep.new.self c.as_slice.result.now c.args.first c.in_ok-at.at c.args.rests.now
    c.get.result.now c.in_ok-table.table c.add_after.new.self c.get.ensures (c.as_slice.ensures ∙ c.self.view_is)
    c.in_ok-table.ensures c.in_ok-add_after.ensures.added c.keep.ensures.more c.in_ok-at.ensures.kept)

pub returns-clause-kept : goal.returns-clause-kept
returns-clause-kept c =
    let P : List (List ℕ)
    → Type 0 = λ l. HasTable l c.in_ok-at.at (AfterKeys (table_of c.args.self.now c.args.first)
    (λ size. table_of c.args.self.now (get_or c.args.rests.now (size % 8) 0))) in
    subst P (sym c.remember.ensures)
    (kept c.args.self.now c.keep.new.self c.as_slice.result.now c.args.first c.in_ok-at.at c.args.rests.now
    c.get.result.now c.in_ok-table.table c.add_after.new.self c.get.ensures (c.as_slice.ensures ∙ c.self.view_is)
    c.in_ok-table.ensures c.in_ok-add_after.ensures.added c.keep.ensures.more c.in_ok-at.ensures.kept)

pub returns-in-Some-clause-kept : goal.returns-in-Some-clause-kept
returns-in-Some-clause-kept c = c.in-Some.ensures.table

pub returns-in-Some-clause-more : goal.returns-in-Some-clause-more
returns-in-Some-clause-more c = more_none c.args.self.now

pub returns-in_err-at-clause-more : goal.returns-in_err-at-clause-more
returns-in_err-at-clause-more c = c.keep.ensures.more

pub returns-in_err-remember-clause-more : goal.returns-in_err-remember-clause-more
returns-in_err-remember-clause-more c = subst (λ (l : List (List ℕ)). IsMore c.args.self.now l) (sym c.remember.ensures) c.keep.ensures.more

pub returns-clause-more : goal.returns-clause-more
returns-clause-more c = subst (λ (l : List (List ℕ)). IsMore c.args.self.now l) (sym c.remember.ensures) c.keep.ensures.more
