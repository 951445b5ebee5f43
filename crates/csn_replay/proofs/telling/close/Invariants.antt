use Rattle.std.proofs.Common.{◌≡◌, length, map}
use Rattle.std.specs.Vec.Iter.{into_iter_items, into_iter_len}
use Rattle.csn_replay.proofs.Rounds.{Reporting}
use Rattle.csn_replay.proofs.telling.close.Given as goal

abbrev pub invariant-loop-watcher : goal.invariant-loop-watcher
invariant-loop-watcher g l =
    record {
      can_next : (goal.iterator-loop-watcher g).can_next l.watcher-iterator;
      is_finite : (goal.iterator-loop-watcher g).is_finite l.watcher-iterator;
      len : into_iter_len l.watcher-iterator ≡ length (into_iter_items l.watcher-iterator);
      no_fault : g.K.Sink.faults l.out ≡ g.K.Sink.faults l.fn.out;
      steady : g.K.Sink.steady l.fn.out → g.K.Sink.steady l.out;
      reporting :
          Reporting (map (λ b. (goal.Watcher-dyn g (b.vtable, b.value)).watched b.value) l.fn.watchers.items)
          (map (λ b. (goal.Watcher-dyn g (b.vtable, b.value)).watched b.value) (into_iter_items l.watcher-iterator))
          (g.K.Sink.taken l.fn.out) (g.K.Sink.taken l.out);
    }
