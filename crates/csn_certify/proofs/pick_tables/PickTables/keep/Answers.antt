use Rattle.std.proofs.Common.{◌+◌, ◌/◌, ◌∷◌, [], List, map, length, sym, ap, ◌∙◌, subst, append-nil, arith, refl}
use Rattle.csn_certify.specs.declared.pick_table.Entry.{Entry}
use Rattle.csn_certify.specs.declared.pick_table.KeptTable.{KeptTable}
use Rattle.csn_certify.specs.PickTables.{table_in, AreWithin, AreFirstBlocks}
use Rattle.csn_certify.proofs.PickBlocks.{same_tables, AreFirstEntries, all_still_within, within_more, kept_within, kept_table, tables_more, last_table}
use Rattle.csn_certify.proofs.pick_tables.PickTables.keep.Goals as goal

pub invariant_of-self : goal.invariant_of-self
invariant_of-self c =
    let more = c.keep_all.ensures.more in
    all_still_within c.self.inside.blocks c.keep_all.new.self more.0 c.self.inside.tables.items more.1 c.self.invariant

pub returns-then-number-clause-more : goal.returns-then-number-clause-more
returns-then-number-clause-more c = ([], sym (append-nil c.args.self.now.tables))

pub returns-in_err-index-clause-more : goal.returns-in_err-index-clause-more
returns-in_err-index-clause-more c =
    let more = c.keep_all.ensures.more in (
      [],
      same_tables c.self.inside.tables.items c.self.inside.blocks c.keep_all.new.self more.0 more.1 c.self.invariant
          ∙ ap (λ v. v.tables) c.self.view_is ∙ sym (append-nil c.args.self.now.tables),
    )

pub invariant_of-self-in_err-push : goal.invariant_of-self-in_err-push
invariant_of-self-in_err-push c =
    let more = c.keep_all.ensures.more in
    subst (λ (l : List KeptTable). AreWithin c.keep_all.new.self l) (sym c.in_err-push.ensures.items)
    (all_still_within c.self.inside.blocks c.keep_all.new.self more.0 c.self.inside.tables.items more.1 c.self.invariant)

pub returns-in_err-push-clause-more : goal.returns-in_err-push-clause-more
returns-in_err-push-clause-more c =
    let more = c.keep_all.ensures.more in (
      [],
      ap (map (table_in c.keep_all.new.self)) c.in_err-push.ensures.items
          ∙ same_tables c.self.inside.tables.items c.self.inside.blocks c.keep_all.new.self more.0 more.1 c.self.invariant
          ∙ ap (λ v. v.tables) c.self.view_is ∙ sym (append-nil c.args.self.now.tables),
    )

pub invariant_of-self-2 : goal.invariant_of-self-2
invariant_of-self-2 c =
    let more = c.keep_all.ensures.more in
    let filled = c.args.filled in
    let t : KeptTable = record { none = filled.none; width = filled.width; first = c.first_of.result; index = c.in_ok-index.index } in
    let first = subst (λ (l : List Entry). AreFirstBlocks l ((length l + 63) / 64)
    c.in_ok-index.index.items c.keep_all.new.self) c.as_slice.ensures.value c.in_ok-index.ensures.kept in
    let front = subst (λ (l : List Entry). AreFirstEntries l c.first_of.result) c.as_slice-2.ensures.value c.first_of.ensures in
    subst (λ (l : List KeptTable). AreWithin c.keep_all.new.self l) (sym c.in_ok-push.ensures.items)
    (within_more c.keep_all.new.self c.self.inside.tables.items t
    (all_still_within c.self.inside.blocks c.keep_all.new.self more.0 c.self.inside.tables.items more.1 c.self.invariant)
    (kept_within filled t c.keep_all.new.self c.requires refl front first))

pub returns-clause-number : goal.returns-clause-number
returns-clause-number c =
    let filled = c.args.filled in
    let t : KeptTable = record { none = filled.none; width = filled.width; first = c.first_of.result; index = c.in_ok-index.index } in
    let first = subst (λ (l : List Entry). AreFirstBlocks l ((length l + 63) / 64)
    c.in_ok-index.index.items c.keep_all.new.self) c.as_slice.ensures.value c.in_ok-index.ensures.kept in (
      table_in c.keep_all.new.self t,
      last_table c.keep_all.new.self c.self.inside.tables.items c.push.new.self.items t c.len-number.result
          c.in_ok-push.ensures.items (omega (arith, c.len-number.ensures, c.self.inside.tables.ok.0)),
      kept_table filled t c.keep_all.new.self c.requires refl refl first,
    )

pub returns-clause-more : goal.returns-clause-more
returns-clause-more c =
    let more = c.keep_all.ensures.more in
    let filled = c.args.filled in
    let t : KeptTable = record { none = filled.none; width = filled.width; first = c.first_of.result; index = c.in_ok-index.index } in (
      table_in c.keep_all.new.self t ∷ [],
      tables_more c.self.inside.blocks c.keep_all.new.self more.0 c.self.inside.tables.items c.push.new.self.items t
          c.args.self.now.tables more.1 c.self.invariant (ap (λ v. v.tables) c.self.view_is)
          c.in_ok-push.ensures.items,
    )
