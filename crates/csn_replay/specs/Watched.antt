-- What watchers count, and what they report. (This project's own choice.)
use Rattle.std.specs.Prelude.{◌≡◌, ℕ, ◌+◌, ◌==◌, min, Bool, true, false, not, leb, List, ◌∷◌, [], ◌++◌, map, Option, Some, None, codes, if◌then◌else◌}
use Rattle.std.specs.Fmt.{decimal}
use Rattle.std.specs.List.{filter, flat_map}
use Rattle.csn_catalogue.specs.declared.entry.Entry.{Entry}
use Rattle.csn_catalogue.specs.Entries.{entry_place, entry_word}
use Rattle.csn_replay.specs.declared.seen.Seen.{Seen}
use Rattle.csn_replay.specs.declared.seen.Kind.{Kind}
use Rattle.csn_replay.specs.declared.seen.Kind.TheVariants.{Blocks, Refused, Length}

-- a watcher: what it counts, how far it has come, and the count at which it is done
pub record Watched : Type 0 where
  pub kind : Kind
  pub count : ℕ
  pub until : ℕ

-- the greatest count that 64 bits hold, at which a count stays
abbrev pub greatest_count : ℕ
greatest_count = 18446744073709551615

-- two entries are one where they stand at one place
abbrev pub same_entry : Entry → Entry → Bool
same_entry entry other = entry_place entry == entry_place other

-- what a block adds to a count of this kind
abbrev pub weight : Kind → Seen → ℕ
weight (Blocks entry) seen = if same_entry entry seen.entry then 1 else 0
weight Refused seen = if seen.ok then 0 else 1
weight Length seen = seen.bits

-- the watcher after it saw the block
abbrev pub counted : Seen → Watched → Watched
counted seen watcher = record watcher { count = min (watcher.count + weight watcher.kind seen) greatest_count }

-- it has counted enough
abbrev pub is_done : Watched → Bool
is_done watcher = leb watcher.until watcher.count

-- the watchers that have not counted enough after they all saw the block, in their order
abbrev pub still_watching : Seen → List Watched → List Watched
still_watching seen watchers = filter (λ watcher. not (is_done watcher)) (map (counted seen) watchers)

-- those that have, in their order
abbrev pub done_watching : Seen → List Watched → List Watched
done_watching seen watchers = filter is_done (map (counted seen) watchers)

-- what a count of this kind is called in a report
abbrev pub title : Kind → List ℕ
title (Blocks entry) = codes "entry " ++ entry_word entry
title Refused = codes "refused"
title Length = codes "bits"

-- the line in which a watcher reports, without its line feed
abbrev pub report_line : Watched → List ℕ
report_line watcher = title watcher.kind ++ codes " " ++ decimal watcher.count

-- the lines in which watchers report, in their order
abbrev pub reports : List Watched → List ℕ
reports watchers = flat_map (λ watcher. report_line watcher ++ codes "\n") watchers

-- the block was shown to the first of these watchers, before which others stand: it stays there, or it is done and was
-- taken out
abbrev pub Showed : Seen → List Watched → List Watched → Option Watched → List Watched → Type 0
Showed seen before [] taken after = ⊥
Showed seen before (first ∷ rest) None after = (is_done (counted seen first) ≡ false) × (after ≡ before ++ counted seen first ∷ rest)
Showed seen before (first ∷ rest) (Some taken) after =
    (is_done (counted seen first) ≡ true) × (taken ≡ counted seen first) × (after ≡ before ++ rest)
