use Rattle.std.proofs.Common.{◌≡◌, ◌≢◌, ◌≤◌, ◌-◌, map, vec_len}
use Rattle.csn_io.specs.Faults.{Rose}
use Rattle.csn_replay.specs.declared.told.Told.TheVariants.{WriteFault}
use Rattle.csn_replay.proofs.Rounds.{Telling}
use Rattle.csn_replay.proofs.telling.tell.Given as goal

abbrev pub invariant-loop-at : goal.invariant-loop-at
invariant-loop-at g l =
    record {
      write_fault : l.told ≡ WriteFault → Rose (g.K.Sink.faults l.fn.out) (g.K.Sink.faults l.out);
      no_fault : l.told ≢ WriteFault → g.K.Sink.faults l.out ≡ g.K.Sink.faults l.fn.out;
      never_falls : g.K.Sink.faults l.fn.out ≤ g.K.Sink.faults l.out;
      steady : g.K.Sink.steady l.fn.out → g.K.Sink.steady l.out;
      steady_no_fault : g.K.Sink.steady l.fn.out → l.told ≢ WriteFault;
      telling :
          Telling l.seen (map (λ b. (goal.Watcher-dyn g (b.vtable, b.value)).watched b.value) l.fn.watchers.items)
          (map (λ b. (goal.Watcher-dyn g (b.vtable, b.value)).watched b.value) l.watchers.items) l.at l.told
          (g.K.Sink.taken l.fn.out) (g.K.Sink.taken l.out);
    }

abbrev pub decreases-loop-at : goal.decreases-loop-at
decreases-loop-at g l = vec_len l.watchers - l.at
