use Rattle.std.proofs.Common.{◌≡◌, ◌+◌, ◌≤◌, ℕ, suc, List, subst, arith}
use Rattle.std.proofs.lemmas.Bool.Decides.{Decides-eqb}
use Rattle.std.proofs.lemmas.Slice.Eq.{slice_eq-Decides}
use Rattle.csn_desc.specs.Nodes.{DescV}
use Rattle.csn_look.specs.Keys.{InKeys, TimesKeys}
use Rattle.csn_look.specs.KeyRows.{HasRow, IsMore, Makes, RowAfter}
use Rattle.csn_look.proofs.Tables.RowFacts.{more_then, row_as, row_stays, row_tables, tables_stay}
use Rattle.csn_look.proofs.Tables.RowKeys.{no_times}
use Rattle.csn_look.proofs.Tables.RowsMade.{times_next, times_stand}
use Rattle.csn_look.proofs.key_rows.repeated_row.Goals as goal

-- one turn more than were made
one_turn_more :
    (start mid new : List (List ℕ)) (once row more : List ℕ) (done : ℕ) → IsMore start mid
    → ((d : DescV) (i : ℕ) → HasRow start once (InKeys d 12 i) → HasRow mid row (TimesKeys d 12 done i)) → Makes mid new more (RowAfter mid once row)
    → IsMore start new × ((d : DescV) (i : ℕ) → HasRow start once (InKeys d 12 i) → HasRow new more (TimesKeys d 12 (suc done) i))
one_turn_more start mid new once row more done longer times made = (
  more_then start mid new longer made.more,
  (λ d i one. times_next d start mid new once row more i done one longer (times d i one) made),
)

pub loop-done-init : goal.loop-done-init
loop-done-init c =
    let made = c.in_ok-row.ensures in
    let new = c.empty_row.new.tables in
    let row = c.in_ok-row.row in
    record {
      more = made.more;
      within = row_tables new row _ made.has;
      times = λ d i one. row_as new row _ (TimesKeys d 12 0 i) made.has (λ o word mark low is. no_times d o word mark i);
    }

pub row_after-requires-clause-first : goal.row_after-requires-clause-first
row_after-requires-clause-first c = tables_stay c.args.tables.now c.loop-done.tables c.args.once.now c.loop-done.invariant.more c.requires

pub row_after-requires-clause-rest : goal.row_after-requires-clause-rest
row_after-requires-clause-rest c = c.loop-done.invariant.within

pub loop-done-preserved : goal.loop-done-preserved
loop-done-preserved c =
    let new = c.row_after.new.tables in
    let more = c.in_ok-more.more in
    let next = one_turn_more c.args.tables.now c.loop-done.tables new c.args.once.now c.loop-done.row more
    c.loop-done.done c.loop-done.invariant.more c.loop-done.invariant.times c.in_ok-more.ensures in
    record {
      more = next.0;
      within = row_tables new more _ c.in_ok-more.ensures.has;
      times = λ d i one.
          let count : suc c.loop-done.done ≡ c.loop-done.done + 1 = omega arith in
          let P : ℕ → Type 0 = λ n. HasRow new more (TimesKeys d 12 n i) in
          subst P count (next.1 d i one);
    }

pub returns-then-eq : goal.returns-then-eq
returns-then-eq c = λ d i one.
    let mid = c.loop-done.tables in
    let new = c.row_after.new.tables in
    let row = c.loop-done.row in
    let more = c.in_ok-more.more in
    let done = c.loop-done.done in
    let next = one_turn_more c.args.tables.now mid new c.args.once.now row more done c.loop-done.invariant.more
    c.loop-done.invariant.times c.in_ok-more.ensures in
    let these = row_stays mid new row (TimesKeys d 12 done i) c.in_ok-more.ensures.more (c.loop-done.invariant.times d i one) in
    let P : List ℕ → Type 0 = λ l. HasRow new l (TimesKeys d 12 (suc done) i) in
    let same : more ≡ row = (slice_eq-Decides Decides-eqb more row c.eq.result c.eq.ensures).0 c.if-eq.true in
    let few : done ≤ c.args.n = omega (arith, c.loop-done-test.true) in
    record { more = next.0; has = times_stand d new row i done c.args.n few these (subst P same (next.1 d i one)) }

pub returns : goal.returns
returns c = λ d i one.
    let before = c.loop-done.invariant in
    let end : c.loop-done.done ≡ c.args.n = omega (arith, c.loop-done-test.false, c.loop-done.auto.done-end) in
    let P : ℕ → Type 0 = λ n. HasRow c.loop-done.tables c.loop-done.row (TimesKeys d 12 n i) in
    record { more = before.more; has = subst P end (before.times d i one) }
