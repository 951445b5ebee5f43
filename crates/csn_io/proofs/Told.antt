-- What calls of the outside, one after another, come to.
use Rattle.std.proofs.Common.{ℕ, ◌≤◌, List, ◌++◌, Option, Some, None, arith, append_assoc, ap, ◌∙◌, sym, subst, inl, inr}
use Rattle.csn_io.specs.Faults.{Rose}
use Rattle.csn_io.specs.Got.{Gave}
use Rattle.csn_io.specs.Put.{Appended, KeepsFlushed}

-- a count that rose after some calls rose over all of them
pub rose_late : (first middle last : ℕ) → first ≤ middle → Rose middle last → Rose first last
rose_late first middle last up rose = elim rose [ inl below ↦ inl (omega arith) | inr full ↦ inr full ]

-- a count that rose and then did not fall rose over all calls
pub rose_early : (first middle last : ℕ) → Rose first middle → middle ≤ last → Rose first last
rose_early first middle last rose up = elim rose [ inl below ↦ inl (omega arith) | inr full ↦ inr (omega arith) ]

-- a source that gave some bytes, and then some more
pub gave_more : (first middle last : Option (List ℕ)) (xs ys : List ℕ) → Gave first middle xs → Gave middle last ys → Gave first last (xs ++ ys)
gave_more None middle last xs ys gave more = let P : Option (List ℕ) → Type 0 = λ told. Gave told last ys in subst P gave more
gave_more (Some left) middle last xs ys (rest, split, told) more =
    let P : Option (List ℕ) → Type 0 = λ told. Gave told last ys in
    let next = subst P told more in
    (next.0, split ∙ ap (λ zs. xs ++ zs) next.1 ∙ sym (append_assoc xs ys next.0), next.2)

-- a sink that took some bytes, and then some more
pub appended_more : (first middle last : Option (List ℕ)) (xs ys : List ℕ)
    → Appended first middle xs → Appended middle last ys → Appended first last (xs ++ ys)
appended_more None middle last xs ys none more = let P : Option (List ℕ) → Type 0 = λ told. Appended told last ys in subst P none more
appended_more (Some taken) middle last xs ys some more =
    let P : Option (List ℕ) → Type 0 = λ told. Appended told last ys in
    subst P some more ∙ ap (λ all. Some all) (append_assoc taken xs ys)

-- bytes that are flushed stay so over several calls
pub keeps_flushed_more : (first middle last : Option ℕ) → KeepsFlushed first middle → KeepsFlushed middle last → KeepsFlushed first last
keeps_flushed_more None middle last none more = let P : Option ℕ → Type 0 = λ told. KeepsFlushed told last in subst P none more
keeps_flushed_more (Some before) middle last (now, up, told) more =
    let P : Option ℕ → Type 0 = λ told. KeepsFlushed told last in
    let next = subst P told more in
    (next.0, omega arith, next.2)
