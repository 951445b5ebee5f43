-- Each function says what its case of the definition says; the parts stand behind their node.
use Rattle.std.proofs.Common.{◌≡◌, ℕ, suc, ◌-◌, true, false, List, length, refl, sym, ◌∙◌, ap, subst, arith, inl, inr, Some, eqb-true, get_or, add-one}
use Rattle.std.specs.Prelude.{slice_get}
use Rattle.std.proofs.lemmas.Option.{slice_get_within, slice_get-get_or}
use Rattle.std.proofs.lemmas.Bool.{eq-eqb, false≢true, true≢false}
use Rattle.csn_desc.specs.declared.node.Node.TheVariants.{Rest, Choice, Times, Many, Window, Named}
use Rattle.csn_compat.specs.declared.pairs.Pair.{Pair}
use Rattle.csn_compat.specs.Takes.{Takes, takes_labelled, takes_by_labelled, takes_by_rest, takes_choice}
use Rattle.csn_compat.specs.Takes.{takes_by_choice, takes_seq, takes_times, takes_many, takes_trunc, takes_window}
use Rattle.csn_compat.specs.Places.{pairs_behind, HasRoom}
use Rattle.csn_compat.proofs.Below.{is_behind}
use Rattle.csn_compat.proofs.KindFacts.{decided, of_labelled, of_by_labelled, of_choice, of_by_choice, of_seq}
use Rattle.csn_compat.proofs.KindFacts.{of_trunc, of_many, of_times, of_window, along_nodes, no_label}
use Rattle.csn_compat.proofs.KindFacts.{no_label_or_rest, no_label_or_choice, no_seq, no_trunc, no_many, no_times}
use Rattle.csn_compat.proofs.KindFacts.{no_window, no_kind, leaf_decided}
use Rattle.csn_compat.proofs.PlaceFacts.{behind_next, extends_none, extends_more, extends_front, up_to, room_shown}
use Rattle.csn_compat.proofs.PlaceFacts.{room_below, room_within, room_for_one, room_along, seq_long, shown_behind}
use Rattle.csn_compat.proofs.PlaceFacts.{are_compared}
use Rattle.csn_compat.proofs.ByPlaces.{first_next, seq_decided, seq_refused, seq_too_long, lead_decided, lead_too_long}
use Rattle.csn_compat.proofs.taking.+takes.Goals.{kind_is_taken-in_default-via-in-Seq+in_default}
use Rattle.csn_compat.proofs.taking.+takes.Goals.{kind_is_taken-in_default-via-in-Trunc+in_default}
use Rattle.csn_compat.proofs.taking.+takes.Goals.{kind_is_taken-in_default-via-in-Many+in_default}
use Rattle.csn_compat.proofs.taking.+takes.Goals.{kind_is_taken-in_default-via-in-Times+in_default}
use Rattle.csn_compat.proofs.taking.+takes.Goals.{kind_is_taken-in_default-via-in-Window+in_default}
use Rattle.csn_compat.proofs.taking.+takes.Goals.{kind_is_taken-in_default-via-in_default}
use Rattle.csn_compat.proofs.taking.+takes.Goals.{sequence_is_taken-then-first_are_taken}
use Rattle.csn_compat.proofs.taking.+takes.Goals.{sequence_is_taken-else-first_are_taken}
use Rattle.csn_compat.proofs.taking.+takes.Goals as goal

-- ---- each alternative of the old choice

pub each_is_taken-takes-requires : goal.each_is_taken-takes-requires
each_is_taken-takes-requires t c =
    let was = c.args.was.now in
    let node = Choice c.args.parts.now in
    let part = is_behind was c.args.i c.loop-at.at c.get.result node _ c.requires.old c.requires.parts refl c.get.ensures in
    let room = room_below was.nodes c.args.i c.loop-at.at c.get.result node c.args.pairs.now.items c.requires.room c.requires.parts refl c.get.ensures in (
      omega (arith, c.decreases, part.behind, part.within, c.requires.new.few),
      (
        c.requires.old,
        (
          c.requires.new,
          (
            room_along was.nodes c.get.result c.args.pairs.now.items c.loop-at.pairs.items c.loop-at.invariant.kept room,
            c.requires.within,
          ),
        ),
      ),
    )

pub each_is_taken-returns-then-not-takes-clause-each : goal.each_is_taken-returns-then-not-takes-clause-each
each_is_taken-returns-then-not-takes-clause-each t c = (
  λ e. absurd (false≢true e),
  λ each.
      let P : List Pair → Type 0 = λ ps. Takes c.args.was.now c.args.now.now c.get.result c.args.j ps in
      let yes = c.takes.ensures.takes.1 (subst P (sym c.loop-at.invariant.kept) (each c.loop-at.at c.get.result c.get.ensures)) in
      absurd (true≢false (sym yes ∙ c.if-not-takes.true)),
)

pub each_is_taken-returns-then-not-takes-clause-kept : goal.each_is_taken-returns-then-not-takes-clause-kept
each_is_taken-returns-then-not-takes-clause-kept t c = c.takes.ensures.kept ∙ c.loop-at.invariant.kept

pub each_is_taken-returns-clause-each : goal.each_is_taken-returns-clause-each
each_is_taken-returns-clause-each t c = (
  λ e k p there. c.loop-at.invariant.each k p (let within = slice_get_within c.args.parts.now k p there in
      omega (arith, c.len-at-end.ensures.len, c.loop-at-test.false)) there,
  λ each. refl,
)

pub each_is_taken-returns-clause-kept : goal.each_is_taken-returns-clause-kept
each_is_taken-returns-clause-kept t c = c.loop-at.invariant.kept

pub each_is_taken-loop-at-init : goal.each_is_taken-loop-at-init
each_is_taken-loop-at-init t c = record { kept = refl; each = λ k p less there. absurd (omega arith) }

pub each_is_taken-loop-at-preserved : goal.each_is_taken-loop-at-preserved
each_is_taken-loop-at-preserved t c =
    let P : ℕ → ℕ → Type 0 = λ k p. Takes c.args.was.now c.args.now.now p c.args.j c.args.pairs.now.items in
    let Q : List Pair → Type 0 = λ ps. Takes c.args.was.now c.args.now.now c.get.result c.args.j ps in
    let here = subst Q c.loop-at.invariant.kept (c.takes.ensures.takes.0 c.if-not-takes.false) in
    record {
      kept = c.takes.ensures.kept ∙ c.loop-at.invariant.kept;
      each = up_to P c.args.parts.now c.loop-at.at c.get.result c.get.ensures here c.loop-at.invariant.each;
    }

-- ---- some alternative of the new choice

pub some_takes-takes-requires : goal.some_takes-takes-requires
some_takes-takes-requires t c =
    let part = is_behind c.args.now.now c.args.j c.loop-at.at c.get.result (Choice c.args.others.now) _ c.requires.new c.requires.others refl c.get.ensures in (
      omega (arith, c.decreases, part.behind, part.within),
      (
        c.requires.old,
        (
          c.requires.new,
          (
            room_along c.args.was.now.nodes c.args.i c.args.pairs.now.items c.loop-at.pairs.items
                c.loop-at.invariant.kept c.requires.room,
            part.within,
          ),
        ),
      ),
    )

pub some_takes-returns-then-takes-clause-some : goal.some_takes-returns-then-takes-clause-some
some_takes-returns-then-takes-clause-some t c =
    let P : List Pair → Type 0 = λ ps. Takes c.args.was.now c.args.now.now c.args.i c.get.result ps in
    (λ e. (c.loop-at.at, c.get.result, c.get.ensures, subst P c.loop-at.invariant.kept (c.takes.ensures.takes.0 c.if-takes.true)), λ some. refl)

pub some_takes-returns-then-takes-clause-kept : goal.some_takes-returns-then-takes-clause-kept
some_takes-returns-then-takes-clause-kept t c = c.takes.ensures.kept ∙ c.loop-at.invariant.kept

pub some_takes-returns-clause-some : goal.some_takes-returns-clause-some
some_takes-returns-clause-some t c = (
  λ e. absurd (false≢true e),
  λ some. absurd (c.loop-at.invariant.none some.0 some.1 (let within =
      slice_get_within c.args.others.now some.0 some.1 some.2 in
      omega (arith, c.len-at-end.ensures.len, c.loop-at-test.false)) some.2 some.3),
)

pub some_takes-returns-clause-kept : goal.some_takes-returns-clause-kept
some_takes-returns-clause-kept t c = c.loop-at.invariant.kept

pub some_takes-loop-at-init : goal.some_takes-loop-at-init
some_takes-loop-at-init t c = record { kept = refl; none = λ k q less there takes. absurd (omega arith) }

pub some_takes-loop-at-preserved : goal.some_takes-loop-at-preserved
some_takes-loop-at-preserved t c =
    let P : ℕ → ℕ → Type 0 = λ k q. Takes c.args.was.now c.args.now.now c.args.i q c.args.pairs.now.items → ⊥ in
    let Q : List Pair → Type 0 = λ ps. Takes c.args.was.now c.args.now.now c.args.i c.get.result ps in
    let here : P c.loop-at.at c.get.result =
    λ takes. (let yes = c.takes.ensures.takes.1 (subst Q (sym c.loop-at.invariant.kept) takes) in
    absurd (true≢false (sym yes ∙ c.if-takes.false))) in
    record {
      kept = c.takes.ensures.kept ∙ c.loop-at.invariant.kept;
      none = up_to P c.args.others.now c.loop-at.at c.get.result c.get.ensures here c.loop-at.invariant.none;
    }

-- ---- the first parts

pub first_are_taken-takes-requires : goal.first_are_taken-takes-requires
first_are_taken-takes-requires t c =
    let was = c.args.was.now in
    let now = c.args.now.now in
    let part = shown_behind was c.args.i c.loop-at.at c.get-part.result c.args.parts.now c.requires.old c.requires.parts c.get-part.ensures in
    let room = room_shown was now c.args.i c.loop-at.at c.get-part.result c.args.parts.now c.args.others.now
    c.args.pairs.now.items c.requires.room c.requires.parts
    (omega (arith, c.loop-at-test.true, c.requires.count.1)) c.get-part.ensures in (
      omega (arith, c.decreases, part.behind, part.within, c.requires.new.few),
      (
        c.requires.old,
        (
          c.requires.new,
          (
            room_along was.nodes c.get-part.result
                (pairs_behind was now c.args.parts.now c.args.others.now c.args.pairs.now.items c.loop-at.at)
                c.loop-at.pairs.items c.loop-at.invariant.pairs room,
            (shown_behind now c.requires.others.0 c.loop-at.at c.get-other.result c.args.others.now c.requires.new
                c.requires.others.1 c.get-other.ensures).within,
          ),
        ),
      ),
    )

pub first_are_taken-returns-then-not-takes-clause-takes : goal.first_are_taken-returns-then-not-takes-clause-takes
first_are_taken-returns-then-not-takes-clause-takes t c =
    let P : List Pair → Type 0 = λ ps. Takes c.args.was.now c.args.now.now c.get-part.result c.get-other.result ps in (
      λ e. absurd (false≢true e),
      λ first.
          let yes = c.takes.ensures.takes.1 (subst P (sym c.loop-at.invariant.pairs)
          (first c.loop-at.at c.get-part.result c.get-other.result c.loop-at-test.true c.get-part.ensures
          c.get-other.ensures)) in
          absurd (true≢false (sym yes ∙ c.if-not-takes.true)),
    )

pub first_are_taken-returns-then-not-takes-clause-kept : goal.first_are_taken-returns-then-not-takes-clause-kept
first_are_taken-returns-then-not-takes-clause-kept t c =
    extends_front c.args.pairs.now.items c.takes.new.pairs.items c.loop-at.invariant.extends.0 (c.takes.ensures.kept ∙ c.loop-at.invariant.extends.1)

pub first_are_taken-keep-requires-clause-p : goal.first_are_taken-keep-requires-clause-p
first_are_taken-keep-requires-clause-p t c =
    (shown_behind c.args.was.now c.args.i c.loop-at.at c.get-part.result c.args.parts.now c.requires.old c.requires.parts c.get-part.ensures).within

pub first_are_taken-keep-requires-clause-q : goal.first_are_taken-keep-requires-clause-q
first_are_taken-keep-requires-clause-q t c =
    (shown_behind c.args.now.now c.requires.others.0 c.loop-at.at c.get-other.result c.args.others.now c.requires.new
    c.requires.others.1 c.get-other.ensures).within

pub first_are_taken-keep-requires-clause-room : goal.first_are_taken-keep-requires-clause-room
first_are_taken-keep-requires-clause-room t c counted =
    let was = c.args.was.now in
    let now = c.args.now.now in
    let room = room_shown was now c.args.i c.loop-at.at c.get-part.result c.args.parts.now c.args.others.now
    c.args.pairs.now.items c.requires.room c.requires.parts
    (omega (arith, c.loop-at-test.true, c.requires.count.1)) c.get-part.ensures in
    let same = c.takes.ensures.kept ∙ c.loop-at.invariant.pairs in
    room_for_one was.nodes c.get-part.result c.takes.new.pairs.items
    (room_along was.nodes c.get-part.result
    (pairs_behind was now c.args.parts.now c.args.others.now c.args.pairs.now.items c.loop-at.at)
    c.takes.new.pairs.items same room) counted

pub first_are_taken-returns-clause-takes : goal.first_are_taken-returns-clause-takes
first_are_taken-returns-clause-takes t c =
    (λ e m p q less at_p at_q. c.loop-at.invariant.taken m p q (omega (arith, c.loop-at-test.false)) at_p at_q, λ first. refl)

pub first_are_taken-returns-clause-pairs : goal.first_are_taken-returns-clause-pairs
first_are_taken-returns-clause-pairs t c e =
    let end : c.loop-at.at ≡ c.args.count = omega (arith, c.loop-at-test.false, c.loop-at.auto.at-end) in
    c.loop-at.invariant.pairs ∙ ap (pairs_behind c.args.was.now c.args.now.now c.args.parts.now c.args.others.now c.args.pairs.now.items) end

pub first_are_taken-returns-clause-kept : goal.first_are_taken-returns-clause-kept
first_are_taken-returns-clause-kept t c =
    extends_front c.args.pairs.now.items c.loop-at.pairs.items c.loop-at.invariant.extends.0 c.loop-at.invariant.extends.1

pub first_are_taken-loop-at-init : goal.first_are_taken-loop-at-init
first_are_taken-loop-at-init t c = record {
  pairs = refl;
  extends = extends_none c.args.pairs.now.items;
  taken = λ m p q less at_p at_q. absurd (omega arith);
}

pub first_are_taken-loop-at-preserved : goal.first_are_taken-loop-at-preserved
first_are_taken-loop-at-preserved t c =
    let args = c.args in
    let is = c.takes.ensures.kept ∙ c.loop-at.invariant.pairs in
    let P : List Pair → Type 0 = λ ps. Takes args.was.now args.now.now c.get-part.result c.get-other.result ps in
    let here = subst P c.loop-at.invariant.pairs (c.takes.ensures.takes.0 c.if-not-takes.false) in
    record {
      pairs =
          behind_next args.was.now args.now.now args.parts.now args.others.now args.pairs.now.items
          c.takes.new.pairs.items c.keep.new.pairs.items c.loop-at.at c.get-part.result c.get-other.result
          c.get-part.ensures c.get-other.ensures is c.keep.ensures
          ∙ ap (pairs_behind args.was.now args.now.now args.parts.now args.others.now args.pairs.now.items) (sym (add-one c.loop-at.at));
      extends = extends_more args.was.now args.now.now c.get-part.result c.get-other.result args.pairs.now.items
          c.takes.new.pairs.items c.keep.new.pairs.items (
            c.loop-at.invariant.extends.0,
            c.takes.ensures.kept
                ∙ c.loop-at.invariant.extends.1,
          ) c.keep.ensures;
      taken = first_next args.was.now args.now.now args.parts.now args.others.now args.pairs.now.items c.loop-at.at
          c.get-part.result c.get-other.result c.get-part.ensures c.get-other.ensures here c.loop-at.invariant.taken;
    }

-- ---- the last part

pub last_is_taken-is_any_bits-requires-clause-within : goal.last_is_taken-is_any_bits-requires-clause-within
last_is_taken-is_any_bits-requires-clause-within t c =
    (shown_behind c.args.now.now c.requires.others.0 (c.len-last.result - 1) c.get-other.result c.args.others.now
    c.requires.new c.requires.others.1 c.get-other.ensures).within

pub last_is_taken-takes-requires : goal.last_is_taken-takes-requires
last_is_taken-takes-requires t c =
    let was = c.args.was.now in
    let now = c.args.now.now in
    let last = c.len-last.result - 1 in
    let part = shown_behind was c.args.i last c.get.result c.args.parts.now c.requires.old c.requires.parts c.get.ensures in
    let room = c.requires.room last c.get.result (omega (arith, c.len-last.ensures.len, c.requires.some)) c.get.ensures in (
      omega (arith, c.decreases, part.behind, part.within, c.requires.new.few),
      (
        c.requires.old,
        (
          c.requires.new,
          (
            room,
            (shown_behind now c.requires.others.0 last c.get-other.result c.args.others.now c.requires.new
                c.requires.others.1 c.get-other.ensures).within,
          ),
        ),
      ),
    )

pub last_is_taken-returns-else-len-clause-takes : goal.last_is_taken-returns-else-len-clause-takes
last_is_taken-returns-else-len-clause-takes t c =
    let last = c.len-last.result - 1 in
    let long : suc last ≡ length c.args.others.now = omega (arith, c.len-last.ensures.len, c.requires.some) in
    let there = slice_get-get_or c.args.parts.now last 0 (omega (arith, long, c.requires.few)) in (
      λ e. (let same = eqb-true c.len.result c.len-2.result e in absurd (omega (arith, same, c.if-len.false))),
      λ h. elim (h last (get_or c.args.parts.now last 0) c.get-other.result long there c.get-other.ensures) [
        | inl any ↦ (let yes = c.is_any_bits.ensures.1 any in absurd (true≢false (sym yes ∙ c.if-is_any_bits.false)))
        | inr both ↦ eq-eqb c.len.result c.len-2.result (c.len.ensures.len ∙ both.0 ∙ sym c.len-2.ensures.len)
      ],
    )

-- ---- a sequence

pub sequence_is_taken-returns-then-len-clause-takes : goal.sequence_is_taken-returns-then-len-clause-takes
sequence_is_taken-returns-then-len-clause-takes t c = (
  λ e. absurd (false≢true e),
  λ h. absurd (seq_too_long c.args.was.now c.args.now.now c.args.parts.now c.args.others.now c.args.pairs.now.items
      (omega (arith, c.len.ensures.len, c.len-2.ensures.len, c.if-len.true)) h),
)

pub sequence_is_taken-overflow_sub-len : goal.sequence_is_taken-overflow_sub-len
sequence_is_taken-overflow_sub-len t c =
    let long = seq_long c.args.now.now c.requires.others.0 c.args.others.now c.requires.new c.requires.others.1 in
    omega (arith, c.len-3.ensures.len)

pub sequence_is_taken-last_is_taken-taken-requires : goal.sequence_is_taken-last_is_taken-taken-requires
sequence_is_taken-last_is_taken-taken-requires t c =
    let args = c.args in
    let long = seq_long args.now.now c.requires.others.0 args.others.now c.requires.new c.requires.others.1 in
    let room : (k p : ℕ) → suc k ≡ length args.others.now → slice_get args.parts.now k ≡ Some p
    → HasRoom args.was.now.nodes c.first_are_taken.new.pairs.items p =
    λ k p is at.
    (let count : c.len-3.result - 1 ≡ k = omega (arith, is, c.len-3.ensures.len) in
    let same = c.first_are_taken.ensures.pairs c.if-first_are_taken.true
    ∙ ap (pairs_behind args.was.now args.now.now args.parts.now args.others.now args.pairs.now.items) count in
    room_along args.was.now.nodes p (pairs_behind args.was.now args.now.now args.parts.now args.others.now
    args.pairs.now.items k) c.first_are_taken.new.pairs.items same
    (room_shown args.was.now args.now.now c.args.i k p args.parts.now args.others.now args.pairs.now.items
    c.requires.room (inl c.requires.parts) (omega arith) at)) in (
      omega (arith, c.decreases),
      (
        c.requires.old,
        (
          c.requires.new,
          (
            inl c.requires.parts,
            (
              (c.requires.others.0, inl c.requires.others.1),
              (omega (arith, long), (omega (arith, c.len.ensures.len, c.len-2.ensures.len, c.if-len.false), room)),
            ),
          ),
        ),
      ),
    )

pub sequence_is_taken-returns-clause-takes : goal.sequence_is_taken-returns-clause-takes
sequence_is_taken-returns-clause-takes t c =
    let args = c.args in
    let count = c.len-3.result - 1 in
    let enough = seq_long args.now.now c.requires.others.0 args.others.now c.requires.new c.requires.others.1 in
    let long : suc count ≡ length args.others.now = omega (arith, c.len-3.ensures.len, enough) in
    elim c.if-first_are_taken.branch [
      | sequence_is_taken-then-first_are_taken w ↦
          seq_decided args.was.now args.now.now args.parts.now args.others.now args.pairs.now.items
          c.first_are_taken.new.pairs.items count c.if-first_are_taken.taken w.last_is_taken-taken.result long
          (omega (arith, c.len.ensures.len, c.len-2.ensures.len, c.if-len.false))
          w.taken-is w.last_is_taken-taken.ensures.takes
          (c.first_are_taken.ensures.pairs w.if-first_are_taken.true) (c.first_are_taken.ensures.takes.0 w.if-first_are_taken.true)
      | sequence_is_taken-else-first_are_taken w ↦
          seq_refused args.was.now args.now.now args.parts.now args.others.now args.pairs.now.items count
          c.if-first_are_taken.taken c.first_are_taken.result c.first_are_taken.result long w.taken-is
          w.if-first_are_taken.false w.if-first_are_taken.false c.first_are_taken.ensures.takes
    ]

-- ---- the kinds that are compared

pub kind_is_taken-takes-requires : goal.kind_is_taken-takes-requires
kind_is_taken-takes-requires t c =
    let parts = are_compared c.args.was.now c.args.now.now c.args.i c.requires.new.0 c.in-Many-Many.part
    c.in-Many-Many.other (Many c.in-Many-Many.part) _ (Many c.in-Many-Many.other)
    _ c.args.pairs.now.items c.requires.was c.requires.now c.requires.room c.requires.old c.in-Many-Many.is-0 refl
    refl c.requires.new.1 c.in-Many-Many.is-1 refl in
    (omega (arith, c.decreases, parts.old.behind, parts.old.within, c.requires.now.few), (c.requires.was, (c.requires.now, (parts.room, parts.within))))

pub kind_is_taken-takes-requires-then-counts_agree : goal.kind_is_taken-takes-requires-then-counts_agree
kind_is_taken-takes-requires-then-counts_agree t c =
    let parts = are_compared c.args.was.now c.args.now.now c.args.i c.requires.new.0 c.in-Times-Times.part
    c.in-Times-Times.other (Times c.in-Times-Times.count c.in-Times-Times.part) _
    (Times c.in-Times-Times.taker c.in-Times-Times.other) _ c.args.pairs.now.items c.requires.was c.requires.now
    c.requires.room c.requires.old c.in-Times-Times.is-0 refl refl c.requires.new.1 c.in-Times-Times.is-1 refl in
    (omega (arith, c.decreases, parts.old.behind, parts.old.within, c.requires.now.few), (c.requires.was, (c.requires.now, (parts.room, parts.within))))

pub kind_is_taken-takes-requires-then-counts_agree-2 : goal.kind_is_taken-takes-requires-then-counts_agree-2
kind_is_taken-takes-requires-then-counts_agree-2 t c =
    let parts = are_compared c.args.was.now c.args.now.now c.args.i c.requires.new.0 c.in-Window-Window.part
    c.in-Window-Window.other (Window c.in-Window-Window.unit c.in-Window-Window.count c.in-Window-Window.part) _
    (Window c.in-Window-Window.units c.in-Window-Window.taker c.in-Window-Window.other)
    _ c.args.pairs.now.items c.requires.was c.requires.now c.requires.room c.requires.old c.in-Window-Window.is-0
    refl refl c.requires.new.1 c.in-Window-Window.is-1 refl in
    (omega (arith, c.decreases, parts.old.behind, parts.old.within, c.requires.now.few), (c.requires.was, (c.requires.now, (parts.room, parts.within))))

pub kind_is_taken-returns-in-Seq-Seq-clause-takes : goal.kind_is_taken-returns-in-Seq-Seq-clause-takes
kind_is_taken-returns-in-Seq-Seq-clause-takes t c j =
    let says = c.sequence_is_taken.ensures.takes in
    along_nodes c.args.was.now c.args.now.now c.args.i j c.sequence_is_taken.result c.in-Seq-Seq.is-0
    c.in-Seq-Seq.is-1 (λ e. takes_seq (says.0 e), λ h. says.1 (of_seq c.args.was.now c.args.now.now h))

pub kind_is_taken-first_are_taken-taken-requires : goal.kind_is_taken-first_are_taken-taken-requires
kind_is_taken-first_are_taken-taken-requires t c =
    let parts = c.requires.old ∙ ap (λ n. Some n) c.in-Trunc-Trunc.is-0 in
    let others = c.requires.new.1 ∙ ap (λ n. Some n) c.in-Trunc-Trunc.is-1 in (
      omega (arith, c.decreases),
      (
        c.requires.was,
        (
          c.requires.now,
          (
            c.requires.room,
            (
              inr parts,
              (
                (c.requires.new.0, inr others),
                (
                  omega (arith, c.len-in-Trunc-Trunc-2.ensures.len),
                  omega (
                    arith,
                    c.len-in-Trunc-Trunc-2.ensures.len,
                    c.len.ensures.len,
                    c.len-in-Trunc-Trunc.ensures.len,
                    c.if-len.false,
                  ),
                ),
              ),
            ),
          ),
        ),
      ),
    )

pub kind_is_taken-returns-then-len-clause-takes : goal.kind_is_taken-returns-then-len-clause-takes
kind_is_taken-returns-then-len-clause-takes t c j =
    along_nodes c.args.was.now c.args.now.now c.args.i j false c.in-Trunc-Trunc.is-0 c.in-Trunc-Trunc.is-1 (
      λ e. absurd (false≢true e),
      λ h. absurd (lead_too_long c.args.was.now c.args.now.now c.in-Trunc-Trunc.parts c.in-Trunc-Trunc.others
          c.args.pairs.now.items (omega (arith, c.len.ensures.len, c.len-in-Trunc-Trunc.ensures.len, c.if-len.true))
          (of_trunc c.args.was.now c.args.now.now h)),
    )

pub kind_is_taken-returns-else-len-clause-takes : goal.kind_is_taken-returns-else-len-clause-takes
kind_is_taken-returns-else-len-clause-takes t c j =
    let says =
    lead_decided c.args.was.now c.args.now.now c.in-Trunc-Trunc.parts c.in-Trunc-Trunc.others c.args.pairs.now.items
    c.len-in-Trunc-Trunc-2.result c.first_are_taken-taken.result c.len-in-Trunc-Trunc-2.ensures.len
    (omega (arith, c.len.ensures.len, c.len-in-Trunc-Trunc.ensures.len, c.if-len.false)) c.first_are_taken-taken.ensures.takes in
    along_nodes c.args.was.now c.args.now.now c.args.i j c.first_are_taken-taken.result c.in-Trunc-Trunc.is-0
    c.in-Trunc-Trunc.is-1 (λ e. takes_trunc (says.0 e), λ h. says.1 (of_trunc c.args.was.now c.args.now.now h))

pub kind_is_taken-returns-in-Many-Many-clause-takes : goal.kind_is_taken-returns-in-Many-Many-clause-takes
kind_is_taken-returns-in-Many-Many-clause-takes t c j =
    let says = c.takes.ensures.takes in
    along_nodes c.args.was.now c.args.now.now c.args.i j c.takes.result c.in-Many-Many.is-0 c.in-Many-Many.is-1
    (λ e. takes_many (says.0 e), λ h. says.1 (of_many c.args.was.now c.args.now.now h))

pub kind_is_taken-returns-then-counts_agree-clause-takes : goal.kind_is_taken-returns-then-counts_agree-clause-takes
kind_is_taken-returns-then-counts_agree-clause-takes t c j =
    let says = c.takes-then-counts_agree.ensures.takes in
    along_nodes c.args.was.now c.args.now.now c.args.i j c.takes-then-counts_agree.result c.in-Times-Times.is-0
    c.in-Times-Times.is-1 (
      λ e. takes_times (c.counts_agree.ensures.0 c.if-counts_agree.true) (says.0 e),
      λ h. says.1 (of_times c.args.was.now c.args.now.now h).1,
    )

pub kind_is_taken-returns-else-counts_agree-clause-takes : goal.kind_is_taken-returns-else-counts_agree-clause-takes
kind_is_taken-returns-else-counts_agree-clause-takes t c j =
    along_nodes c.args.was.now c.args.now.now c.args.i j c.counts_agree.result c.in-Times-Times.is-0
    c.in-Times-Times.is-1 (
      λ e. absurd (true≢false (sym e ∙ c.if-counts_agree.false)),
      λ h. (let both =
          of_times c.args.was.now c.args.now.now h in c.counts_agree.ensures.1 both.0),
    )

pub kind_is_taken-returns-then-counts_agree-2-clause-takes : goal.kind_is_taken-returns-then-counts_agree-2-clause-takes
kind_is_taken-returns-then-counts_agree-2-clause-takes t c j =
    let says = c.takes-then-counts_agree-2.ensures.takes in
    along_nodes c.args.was.now c.args.now.now c.args.i j c.takes-then-counts_agree-2.result c.in-Window-Window.is-0
    c.in-Window-Window.is-1 (
      λ e. takes_window (c.counts_agree-in-Window-Window.ensures.0 c.if-counts_agree-2.true) (says.0 e),
      λ h. says.1 (of_window c.args.was.now c.args.now.now h).1,
    )

pub kind_is_taken-returns-else-counts_agree-2-clause-takes : goal.kind_is_taken-returns-else-counts_agree-2-clause-takes
kind_is_taken-returns-else-counts_agree-2-clause-takes t c j =
    along_nodes c.args.was.now c.args.now.now c.args.i j c.counts_agree-in-Window-Window.result
    c.in-Window-Window.is-0 c.in-Window-Window.is-1 (
      λ e. absurd (true≢false (sym e ∙ c.if-counts_agree-2.false)),
      λ h. (let both = of_window c.args.was.now c.args.now.now h in
          c.counts_agree-in-Window-Window.ensures.1 both.0),
    )

pub kind_is_taken-returns-in_default-clause-takes : goal.kind_is_taken-returns-in_default-clause-takes
kind_is_taken-returns-in_default-clause-takes t c j =
    leaf_decided c.args.was.now c.args.now.now c.args.i j c.leaf_is_taken.result c.requires.old_kind
    c.requires.new_kind.0 c.requires.new_kind.1 c.leaf_is_taken.ensures
    (elim c.in_default.branch [
      | kind_is_taken-in_default-via-in-Seq+in_default w ↦ no_seq _ w.in_default.is-0 w.in_default.not-Seq-1
      | kind_is_taken-in_default-via-in-Trunc+in_default w ↦ no_trunc _ w.in_default.is-0 w.in_default.not-Trunc-1
      | kind_is_taken-in_default-via-in-Many+in_default w ↦ no_many _ w.in_default.is-0 w.in_default.not-Many-1
      | kind_is_taken-in_default-via-in-Times+in_default w ↦ no_times _ w.in_default.is-0 w.in_default.not-Times-1
      | kind_is_taken-in_default-via-in-Window+in_default w ↦ no_window _ w.in_default.is-0 w.in_default.not-Window-1
      | kind_is_taken-in_default-via-in_default w ↦
          no_kind _ _ w.in_default.not-Seq-0 w.in_default.not-Trunc-0 w.in_default.not-Many-0 w.in_default.not-Times-0 w.in_default.not-Window-0
    ])

-- ---- two nodes

pub takes-node-old-requires : goal.takes-node-old-requires
takes-node-old-requires t c = room_within c.args.was.now.nodes c.args.i c.args.pairs.now.items c.requires.room

pub takes-takes-requires : goal.takes-takes-requires
takes-takes-requires t c =
    let node = Named c.in-Named.label c.in-Named.part in
    let at : slice_get c.args.was.now.nodes c.args.i ≡ Some node = c.node-old.ensures ∙ ap (λ n. Some n) c.in-Named.is in
    let part = is_behind c.args.was.now c.args.i 0 c.in-Named.part node _ c.requires.old at refl refl in (
      omega (arith, c.decreases, part.behind, part.within),
      (
        c.requires.old,
        (
          c.requires.new,
          (
            room_below c.args.was.now.nodes c.args.i 0 c.in-Named.part node c.args.pairs.now.items c.requires.room at
                refl refl,
            c.requires.within,
          ),
        ),
      ),
    )

pub takes-returns-in-Named-clause-takes : goal.takes-returns-in-Named-clause-takes
takes-returns-in-Named-clause-takes t c =
    let says = c.takes.ensures.takes in
    decided c.args.was.now c.args.now.now c.args.i c.args.j c.args.pairs.now.items c.takes.result
    (Named c.in-Named.label c.in-Named.part) c.node-new.result.now
    (c.node-old.ensures ∙ ap (λ n. Some n) c.in-Named.is) c.node-new.ensures
    (λ e. takes_labelled (says.0 e), λ h. says.1 (of_labelled c.args.was.now c.args.now.now h))

pub takes-takes-requires-in-Named-new : goal.takes-takes-requires-in-Named-new
takes-takes-requires-in-Named-new t c =
    let part = is_behind c.args.now.now c.args.j 0 c.in-Named-new.part
    (Named c.in-Named-new.label c.in-Named-new.part) _ c.requires.new c.node-new.ensures c.in-Named-new.is refl in
    (omega (arith, c.decreases, part.behind, part.within), (c.requires.old, (c.requires.new, (c.requires.room, part.within))))

pub takes-returns-in-Named-new : goal.takes-returns-in-Named-new
takes-returns-in-Named-new t c =
    let says = c.takes-in-Named-new.ensures.takes in
    let other = no_label c.node-old.result.now c.in_default.not-Named in
    record {
      takes =
          decided c.args.was.now c.args.now.now c.args.i c.args.j c.args.pairs.now.items c.takes-in-Named-new.result
          c.node-old.result.now (Named c.in-Named-new.label c.in-Named-new.part) c.node-old.ensures
          (c.node-new.ensures ∙ ap (λ n. Some n) c.in-Named-new.is)
          (λ e. takes_by_labelled other (says.0 e), λ h. says.1 (of_by_labelled c.args.was.now c.args.now.now other h));
      kept = c.takes-in-Named-new.ensures.kept;
    }

pub takes-returns-in-Rest : goal.takes-returns-in-Rest
takes-returns-in-Rest t c =
    record {
      takes =
          decided c.args.was.now c.args.now.now c.args.i c.args.j c.args.pairs.now.items true c.node-old.result.now
          Rest c.node-old.ensures (c.node-new.ensures ∙ ap (λ n. Some n) c.in-Rest.is)
          (λ e. takes_by_rest (no_label c.node-old.result.now c.in_default.not-Named), λ h. refl);
      kept = refl;
    }

pub takes-returns-in-Choice : goal.takes-returns-in-Choice
takes-returns-in-Choice t c =
    let says = c.each_is_taken.ensures.each in
    let other = no_label_or_rest c.node-new.result.now c.in_default-new.not-Named c.in_default-new-2.not-Rest in
    record {
      takes =
          decided c.args.was.now c.args.now.now c.args.i c.args.j c.args.pairs.now.items c.each_is_taken.result
          (Choice c.in-Choice.parts) c.node-new.result.now (c.node-old.ensures ∙ ap (λ n. Some n) c.in-Choice.is)
          c.node-new.ensures
          (λ e. takes_choice other (says.0 e), λ h. says.1 (of_choice c.args.was.now c.args.now.now other h));
      kept = c.each_is_taken.ensures.kept;
    }

pub takes-returns-in-Choice-new : goal.takes-returns-in-Choice-new
takes-returns-in-Choice-new t c =
    let says = c.some_takes.ensures.some in
    let other = no_label_or_choice c.node-old.result.now c.in_default.not-Named c.in_default-old.not-Choice in
    record {
      takes =
          decided c.args.was.now c.args.now.now c.args.i c.args.j c.args.pairs.now.items c.some_takes.result
          c.node-old.result.now (Choice c.in-Choice-new.others) c.node-old.ensures
          (c.node-new.ensures ∙ ap (λ n. Some n) c.in-Choice-new.is)
          (λ e. (let some = says.0 e in takes_by_choice some.0 some.1 other some.2 some.3), λ h. says.1 (of_by_choice c.args.was.now c.args.now.now other h));
      kept = c.some_takes.ensures.kept;
    }

pub takes-returns : goal.takes-returns
takes-returns t c =
    record {
      takes =
          decided c.args.was.now c.args.now.now c.args.i c.args.j c.args.pairs.now.items c.kind_is_taken.result
          c.node-old.result.now c.node-new.result.now c.node-old.ensures c.node-new.ensures
          (c.kind_is_taken.ensures.takes c.args.j);
      kept = c.kind_is_taken.ensures.kept;
    }
