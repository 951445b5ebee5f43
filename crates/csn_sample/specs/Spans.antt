-- From how many bits to how many the strings of a part have, as an estimate, and which numbers a field may write. (This
-- project's own choice.)
use Rattle.std.specs.Prelude.{ℕ, List, slice_index_or, min, max, if◌then◌else◌, nat_le}
use Rattle.csn_sample.specs.declared.span.Span.{Span}

-- the span of a node; one that is not there has no bits
abbrev pub span_at : List Span → ℕ → Span
span_at spans i = slice_index_or spans i (record { least = 0; most = 0 })

-- the numbers that a field may write; of a node that is not there any
abbrev pub numbers_at : List Span → ℕ → Span
numbers_at spans i = slice_index_or spans i (record { least = 0; most = 65535 })

-- of these numbers those from one up to another, or all of them where there is none
abbrev pub numbers_within : Span → ℕ → ℕ → Span
numbers_within span from to =
    let both : Span = record { least = max span.least from; most = min span.most to } in
    if nat_le both.least both.most then both else span
