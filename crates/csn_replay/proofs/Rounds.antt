-- Showing a block to watchers one after another, and letting watchers report.
use Rattle.std.proofs.Common.{◌≡◌, ◌≢◌, ℕ, ◌+◌, ◌≤◌, Bool, cond, not, true, false, List, ◌∷◌, [], ◌++◌, map, length}
use Rattle.std.proofs.Common.{filter, Option, Some, None, codes, refl, sym, ◌∙◌, ap, subst, arith}
use Rattle.std.proofs.lemmas.List.{append-nil, append_assoc, length-append, length-map}
use Rattle.csn_io.specs.Put.{Appended}
use Rattle.csn_io.proofs.Told.{appended_more}
use Rattle.csn_replay.specs.declared.seen.Seen.{Seen}
use Rattle.csn_replay.specs.declared.told.Told.{Told}
use Rattle.csn_replay.specs.declared.told.Told.TheVariants.{Ok, WriteFault, NoMemory}
use Rattle.csn_replay.specs.Told.{Wrote}
use Rattle.csn_replay.specs.Watched.{Watched, Showed, counted, is_done, still_watching, done_watching, report_line, reports}

-- ---- what reports come to

-- of the watchers that are to report, these are left; the reports of the others were taken
pub record Reporting (due left : List Watched) (was now : Option (List ℕ)) : Type 0 where
  pub front : List ℕ
  pub due_text : reports due ≡ front ++ reports left
  pub took : Appended was now front

nothing_taken : (t : Option (List ℕ)) → Appended t t []
nothing_taken None = refl
nothing_taken (Some taken) = ap Some (sym (append-nil taken))

none_reported : (due : List Watched) (t : Option (List ℕ)) → Reporting due due t t
none_reported due t = record { front = []; due_text = refl; took = nothing_taken t }

-- a text that was taken to its end
pub wrote_all : (before after : Option (List ℕ)) (text : List ℕ) → Wrote Ok before after text → Appended before after text
wrote_all before after text (front, rest, split, took, whole) =
    subst (Appended before after) (sym (split ∙ ap (λ end. front ++ end) (whole refl) ∙ append-nil front)) took

-- nothing was taken of a text that is cut off
pub wrote_none : {told : Told} (t : Option (List ℕ)) (text : List ℕ) → told ≢ Ok → Wrote told t t text
wrote_none t text fault = ([], text, refl, nothing_taken t, λ ok. absurd (fault ok))

-- one more watcher reported
one_reported : (due left : List Watched) (first : Watched) (was now later : Option (List ℕ))
    → Reporting due (first ∷ left) was now → Wrote Ok now later (report_line first ++ codes "\n") → Reporting due left was later
one_reported due left first was now later so_far line =
    record {
      front = so_far.front ++ (report_line first ++ codes "\n");
      due_text = so_far.due_text ∙ sym (append_assoc so_far.front (report_line first ++ codes "\n") (reports left));
      took = appended_more was now later so_far.front (report_line first ++ codes "\n") so_far.took (wrote_all now later _ line);
    }

-- one more watcher was to report, and its line was not taken to the end
broke_off : (due left : List Watched) (first : Watched) (told : Told) (was now later : Option (List ℕ))
    → told ≢ Ok → Reporting due (first ∷ left) was now → Wrote told now later (report_line first ++ codes "\n") → Wrote told was later (reports due)
broke_off due left first told was now later fault so_far (front, rest, split, took, whole) = (
  so_far.front ++ front,
  rest ++ reports left,
  so_far.due_text ∙ ap (λ line. so_far.front ++ (line ++ reports left)) split ∙ ap (λ text. so_far.front ++ text) (append_assoc front rest (reports left))
      ∙ sym (append_assoc so_far.front front (rest ++ reports left)),
  appended_more was now later so_far.front front so_far.took took,
  λ ok. absurd (fault ok),
)

-- all reported
all_reported : (due : List Watched) (was now : Option (List ℕ)) → Reporting due [] was now → Wrote Ok was now (reports due)
all_reported due was now so_far = (so_far.front, [], so_far.due_text, so_far.took, λ ok. refl)

-- of the watchers that are to report, these are left, as far as a fault has not cut the reports off
abbrev pub Reported : Told → List Watched → List Watched → Option (List ℕ) → Option (List ℕ) → Type 0
Reported Ok due left was now = Reporting due left was now
Reported WriteFault due left was now = Wrote WriteFault was now (reports due)
Reported NoMemory due left was now = Wrote NoMemory was now (reports due)

-- one more watcher reported, or met the first fault
reported_next : (due left : List Watched) (first : Watched) (told : Told) (was now later : Option (List ℕ))
    → Reporting due (first ∷ left) was now → Wrote told now later (report_line first ++ codes "\n") → Reported told due left was later
reported_next due left first Ok was now later so_far line = one_reported due left first was now later so_far line
reported_next due left first WriteFault was now later so_far line = broke_off due left first WriteFault was now later (λ is. cc) so_far line
reported_next due left first NoMemory was now later so_far line = broke_off due left first NoMemory was now later (λ is. cc) so_far line

-- behind a fault it is all one who is left
reported_no_more : (told : Told) (due left rest : List Watched) (was now : Option (List ℕ))
    → told ≢ Ok → Reported told due left was now → Reported told due rest was now
reported_no_more Ok due left rest was now fault so_far = absurd (fault refl)
reported_no_more WriteFault due left rest was now fault so_far = so_far
reported_no_more NoMemory due left rest was now fault so_far = so_far

reported_to_end : (told : Told) (due : List Watched) (was now : Option (List ℕ)) → Reported told due [] was now → Wrote told was now (reports due)
reported_to_end Ok due was now so_far = all_reported due was now so_far
reported_to_end WriteFault due was now so_far = so_far
reported_to_end NoMemory due was now so_far = so_far

-- ---- the same of a list whose elements are seen as watchers

pub none_reported_of : {A : Type 0} (f : A → Watched) (due left : List A) (t : Option (List ℕ)) → left ≡ due → Reporting (map f due) (map f left) t t
none_reported_of f due left t same = subst (λ xs. Reporting (map f due) (map f xs) t t) (sym same) (none_reported (map f due) t)

pub one_reported_of : {A : Type 0} (f : A → Watched) (due left rest : List A) (first : A) (was now later : Option (List ℕ)) → left ≡ first ∷ rest
    → Reporting (map f due) (map f left) was now → Wrote Ok now later (report_line (f first) ++ codes "\n") → Reporting (map f due) (map f rest) was later
one_reported_of f due left rest first was now later next so_far line =
    one_reported (map f due) (map f rest) (f first) was now later (subst (λ xs. Reporting (map f due) (map f xs) was now) next so_far) line

pub broke_off_of : {A : Type 0} (f : A → Watched) (due left rest : List A) (first : A) (told : Told)
    (was now later : Option (List ℕ)) → told ≢ Ok → left ≡ first ∷ rest
    → Reporting (map f due) (map f left) was now → Wrote told now later (report_line (f first) ++ codes "\n") → Wrote told was later (reports (map f due))
broke_off_of f due left rest first told was now later fault next so_far line =
    broke_off (map f due) (map f rest) (f first) told was now later fault (subst (λ xs. Reporting (map f due) (map f xs) was now) next so_far) line

pub all_reported_of : {A : Type 0} (f : A → Watched) (due left : List A) (was now : Option (List ℕ)) → left ≡ []
    → Reporting (map f due) (map f left) was now → Wrote Ok was now (reports (map f due))
all_reported_of f due left was now end so_far =
    all_reported (map f due) was now (subst (λ xs. Reporting (map f due) (map f xs) was now) end so_far)

-- ---- a block on its way along the watchers

-- the block was shown to the first `at` of the watchers that are left; the others have not seen it yet
pub record Telling (seen : Seen) (all left : List Watched) (at : ℕ) (told : Told) (was now : Option (List ℕ)) : Type 0 where
  pub kept : List Watched
  pub others : List Watched
  pub here : length kept ≡ at
  pub is : left ≡ kept ++ others
  pub stay : still_watching seen all ≡ kept ++ still_watching seen others
  pub reported : Reported told (done_watching seen all) (done_watching seen others) was now

pub none_told : (seen : Seen) (all : List Watched) (t : Option (List ℕ)) → Telling seen all all 0 Ok t t
none_told seen all t = record { kept = []; others = all; here = refl; is = refl; stay = refl; reported = none_reported (done_watching seen all) t }

passes : (test : Watched → Bool) (first : Watched) (rest : List Watched) → test first ≡ true → filter test (first ∷ rest) ≡ first ∷ filter test rest
passes test first rest is = ap (λ b. cond b (first ∷ filter test rest) (filter test rest)) is

fails : (test : Watched → Bool) (first : Watched) (rest : List Watched) → test first ≡ false → filter test (first ∷ rest) ≡ filter test rest
fails test first rest is = ap (λ b. cond b (first ∷ filter test rest) (filter test rest)) is

-- what comes of the next watcher, for each way in which it saw the block
stayed_first : (seen : Seen) (all kept others after : List Watched) (told : Told) (was now : Option (List ℕ))
    → still_watching seen all ≡ kept ++ still_watching seen others → Reported told (done_watching seen all) (done_watching seen others) was now
    → Showed seen kept others None after → Telling seen all after (length kept + 1) told was now
stayed_first seen all kept [] after told was now stay reported showed = elim showed [ ]
stayed_first seen all kept (first ∷ rest) after told was now stay reported (going, is) =
    let next = counted seen first in
    record {
      kept = kept ++ next ∷ [];
      others = rest;
      here = length-append kept (next ∷ []);
      is = is ∙ sym (append_assoc kept (next ∷ []) rest);
      stay =
          stay ∙ ap (λ ws. kept ++ ws) (passes (λ w. not (is_done w)) next (map (counted seen) rest) (ap not going))
          ∙ sym (append_assoc kept (next ∷ []) (still_watching seen rest));
      reported =
          subst (λ ws. Reported told (done_watching seen all) ws was now) (fails is_done next (map (counted seen) rest) going) reported;
    }

-- it is done, and what came of the reports up to its own is `told`
ended_first : (seen : Seen) (all kept others after : List Watched) (taken : Watched) (told : Told) (was now : Option (List ℕ))
    → still_watching seen all ≡ kept ++ still_watching seen others → Showed seen kept others (Some taken) after
    → ((left : List Watched) → done_watching seen others ≡ taken ∷ left → Reported told (done_watching seen all) left was now)
    → Telling seen all after (length kept) told was now
ended_first seen all kept [] after taken told was now stay showed reports_it = elim showed [ ]
ended_first seen all kept (first ∷ rest) after taken told was now stay (done, same, is) reports_it =
    let next = counted seen first in
    record {
      kept = kept;
      others = rest;
      here = refl;
      is = is;
      stay = stay ∙ ap (λ ws. kept ++ ws) (fails (λ w. not (is_done w)) next (map (counted seen) rest) (ap not done));
      reported =
          reports_it (done_watching seen rest)
          (passes is_done next (map (counted seen) rest) done ∙ ap (λ w. w ∷ done_watching seen rest) (sym same));
    }

-- what a watcher at this place does with the block
abbrev pub ShowedAt : Seen → List Watched → ℕ → Option Watched → List Watched → Type 0
ShowedAt seen left at taken after =
    (before : List Watched) → (others : List Watched) → length before ≡ at → left ≡ before ++ others → Showed seen before others taken after

pub stayed : (seen : Seen) (all left after : List Watched) (at : ℕ) (told : Told) (was now : Option (List ℕ))
    → Telling seen all left at told was now → ShowedAt seen left at None after → Telling seen all after (at + 1) told was now
stayed seen all left after at told was now so_far showed =
    subst (λ n. Telling seen all after (n + 1) told was now) so_far.here
    (stayed_first seen all so_far.kept so_far.others after told was now so_far.stay so_far.reported (showed so_far.kept so_far.others so_far.here so_far.is))

-- it was done, and reported behind those before it
pub ended : (seen : Seen) (all left after : List Watched) (at : ℕ) (taken : Watched) (before told : Told) (was now later : Option (List ℕ))
    → before ≡ Ok → Telling seen all left at before was now → ShowedAt seen left at (Some taken) after → Wrote told now later (report_line taken ++ codes "\n")
    → Telling seen all after at told was later
ended seen all left after at taken before told was now later fine so_far showed line =
    subst (λ n. Telling seen all after n told was later) so_far.here
    (ended_first seen all so_far.kept so_far.others after taken told was later so_far.stay (showed so_far.kept so_far.others so_far.here so_far.is)
    (λ rest due. reported_next (done_watching seen all) rest taken told was now later
    (subst (λ ws. Reporting (done_watching seen all) ws was now) due
    (subst (λ t. Reported t (done_watching seen all) (done_watching seen so_far.others) was now) fine so_far.reported)) line))

-- it was done, but a report before its own had met a fault
pub passed_over : (seen : Seen) (all left after : List Watched) (at : ℕ) (taken : Watched) (told : Told) (was now : Option (List ℕ))
    → told ≢ Ok → Telling seen all left at told was now → ShowedAt seen left at (Some taken) after → Telling seen all after at told was now
passed_over seen all left after at taken told was now fault so_far showed =
    subst (λ n. Telling seen all after n told was now) so_far.here
    (ended_first seen all so_far.kept so_far.others after taken told was now so_far.stay (showed so_far.kept so_far.others so_far.here so_far.is)
    (λ rest due. reported_no_more told (done_watching seen all) (done_watching seen so_far.others) rest was now fault so_far.reported))

-- nobody is left who has not seen it
no_others : (seen : Seen) (all left kept others : List Watched) (told : Told) (was now : Option (List ℕ)) → length left ≤ length kept → left ≡ kept ++ others
    → still_watching seen all ≡ kept ++ still_watching seen others → Reported told (done_watching seen all) (done_watching seen others) was now
    → (left ≡ still_watching seen all) × Wrote told was now (reports (done_watching seen all))
no_others seen all left kept [] told was now end is stay reported = (is ∙ sym stay, reported_to_end told (done_watching seen all) was now reported)
no_others seen all left kept (first ∷ rest) told was now end is stay reported = absurd (omega (arith, ap length is, length-append kept (first ∷ rest)))

pub all_told : {A : Type 0} (f : A → Watched) (xs : List A) (seen : Seen) (all : List Watched) (at : ℕ) (told : Told)
    (was now : Option (List ℕ)) → length xs ≤ at
    → Telling seen all (map f xs) at told was now → (map f xs ≡ still_watching seen all) × Wrote told was now (reports (done_watching seen all))
all_told f xs seen all at told was now end so_far =
    no_others seen all (map f xs) so_far.kept so_far.others told was now (omega (arith, so_far.here, length-map xs f)) so_far.is so_far.stay so_far.reported
