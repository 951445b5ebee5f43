use Rattle.std.proofs.Common.{◌≡◌, ℕ, ◌<◌, ◌≤◌, length}
use Rattle.std.specs.Prelude.{slice_index_or}
use Rattle.csn_certify.specs.declared.pick_table.Entry.TheVariants.{Refuse}
use Rattle.csn_certify.proofs.filling.put_all.Given as goal

abbrev pub invariant-loop-place : goal.invariant-loop-place
invariant-loop-place l =
    (length l.entries ≡ length l.initial.entries)
    × ((at : ℕ) → l.first ≤ at → at < l.place → slice_index_or l.entries at Refuse ≡ l.entry)
    × ((at : ℕ) → at < l.first → slice_index_or l.entries at Refuse ≡ slice_index_or l.initial.entries at Refuse)
    × ((at : ℕ) → l.place ≤ at → slice_index_or l.entries at Refuse ≡ slice_index_or l.initial.entries at Refuse)
