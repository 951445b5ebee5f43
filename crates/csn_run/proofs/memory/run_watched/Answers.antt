use Rattle.std.proofs.Common.{inl, inr, map, subst}
use Rattle.std.specs.String.{string_bytes}
use Rattle.csn_io.specs.ShelfFault.{LacksFile}
use Rattle.csn_run.specs.Job.{ComesTo}
use Rattle.csn_run.proofs.NoFaults.{no_rise}
use Rattle.csn_run.proofs.WholeText.{begun, finished, told_front, told_once, told_result}
use Rattle.csn_run.proofs.memory.run_watched.Goals as goal

pub returns-clause-read_fault : goal.returns-clause-read_fault
returns-clause-read_fault g c = λ ended.
    let shelf = c.run-ended.ensures.faults.shelf.1 (c.new-shelf.ensures.steady c.new.ensures.items) in
    let input = c.run-ended.ensures.faults.source.1 (c.new-source.ensures.steady c.new-2.ensures.items) in
    elim (c.run-ended.ensures.read_fault ended) [
      | inl rose ↦ absurd (no_rise _ _ input.1 c.new-source.ensures.faults rose)
      | inr named ↦ elim (named.2) [
        | inl rose ↦ absurd (no_rise _ _ shelf.1 c.new-shelf.ensures.faults rose.0)
        | inr lacks ↦ (
          named.0,
          subst (λ files. ComesTo (map string_bytes c.args.words.now) files named.0) c.new-shelf.ensures.files named.1,
          subst (λ files. LacksFile files named.0) c.new-shelf.ensures.files lacks,
        )
      ]
    ]

pub returns-clause-result : goal.returns-clause-result
returns-clause-result g c = λ ends.
    let run = told_result _ _ c.new-shelf.ensures.files c.new-source.ensures.left c.new-sink.ensures.taken (c.run-ended.ensures.result ends) in
    finished (told_once run.1 c.taken.ensures c.in_ok-text.ensures.items) run.2

pub returns-clause-begins : goal.returns-clause-begins
returns-clause-begins g c = λ used.
    let run = told_front _ _ c.new-shelf.ensures.files c.new-source.ensures.left c.new-sink.ensures.taken (c.run-ended.ensures.begins used) in
    begun (told_once run.1 c.taken.ensures c.in_ok-text.ensures.items) run.2
