-- Going through a list of watchers, which is seen as the list of what they count.
use Rattle.std.proofs.Common.{◌≡◌, ℕ, zero, suc, ◌<◌, List, ◌∷◌, [], ◌++◌, map, length, get_or, get_or-set_same, set}
use Rattle.std.proofs.Common.{true, false, Some, None, refl, sym, ◌∙◌, ap, subst, arith}
use Rattle.std.specs.List.{remove}
use Rattle.csn_replay.specs.declared.seen.Seen.{Seen}
use Rattle.csn_replay.specs.declared.seen.Go.TheVariants.{Stay, Done}
use Rattle.csn_replay.specs.Watched.{Watched, Showed, counted, is_done}

-- behind the first ones stands the next, and what becomes of the list where it is put in place of it, or taken away
record StandsBehind (A : Type 0) (f : A → Watched) (xs : List A) (at : ℕ) (d : A) (before others : List Watched) : Type 0 where
  rest : List Watched
  next : others ≡ f (get_or xs at d) ∷ rest
  changed : (y : A) → map f (set xs at y) ≡ before ++ f y ∷ rest
  removed : (y : A) → map f (remove (set xs at y) at) ≡ before ++ rest

behind_one : {A : Type 0} (f : A → Watched) (x : A) (b : Watched) (xs : List A) (at : ℕ) (d : A) (before others : List Watched)
    → f x ≡ b → StandsBehind A f xs at d before others → StandsBehind A f (x ∷ xs) (suc at) d (b ∷ before) others
behind_one f x b xs at d before others head further =
    record {
      rest = further.rest;
      next = further.next;
      changed = λ y. ap (λ z. z ∷ map f (set xs at y)) head ∙ ap (λ l. b ∷ l) (further.changed y);
      removed = λ y. ap (λ z. z ∷ map f (remove (set xs at y) at)) head ∙ ap (λ l. b ∷ l) (further.removed y);
    }

stands_behind : {A : Type 0} (f : A → Watched) (xs : List A) (at : ℕ) (d : A) (before others : List Watched)
    → length before ≡ at → at < length xs → map f xs ≡ before ++ others → StandsBehind A f xs at d before others
stands_behind f [] at d before others here within is = absurd (omega arith)
stands_behind f (x ∷ xs) zero d [] others here within is = record { rest = map f xs; next = sym is; changed = λ y. refl; removed = λ y. refl }
stands_behind f (x ∷ xs) zero d (b ∷ before) others here within is = absurd (omega arith)
stands_behind f (x ∷ xs) (suc at) d [] others here within is = absurd (omega arith)
stands_behind f (x ∷ xs) (suc at) d (b ∷ before) others here within is =
    let head : f x ≡ b = cc in
    let tail : map f xs ≡ before ++ others = cc in
    behind_one f x b xs at d before others head (stands_behind f xs at d before others (omega arith) (omega arith) tail)

pub stays_on : Stay ≡ Done → ⊥
stays_on same = cc

-- the next watcher saw the block, and stays
pub stays : {A : Type 0} (f : A → Watched) (seen : Seen) (xs : List A) (at : ℕ) (old new : A) (before others : List Watched)
    → old ≡ get_or xs at old → f new ≡ counted seen (f old) → is_done (f new) ≡ false
    → length before ≡ at → at < length xs → map f xs ≡ before ++ others → Showed seen before others None (map f (set xs at new))
stays f seen xs at old new before others there saw going here within is =
    let behind = stands_behind f xs at old before others here within is in
    let first = saw ∙ ap (λ x. counted seen (f x)) there in
    subst (λ others. Showed seen before others None (map f (set xs at new))) (sym behind.next) (
      subst (λ w. is_done w ≡ false) first going,
      behind.changed new ∙ ap (λ w. before ++ w ∷ behind.rest) first,
    )

-- the next watcher saw the block, is done, and was taken out
pub ends : {A : Type 0} (f : A → Watched) (seen : Seen) (xs after : List A) (at : ℕ) (old new taken : A) (before others : List Watched)
    → old ≡ get_or xs at old → f new ≡ counted seen (f old)
    → is_done (f new) ≡ true → taken ≡ get_or (set xs at new) at taken → after ≡ remove (set xs at new) at
    → length before ≡ at → at < length xs → map f xs ≡ before ++ others → Showed seen before others (Some (f taken)) (map f after)
ends f seen xs after at old new taken before others there saw done out left here within is =
    let behind = stands_behind f xs at old before others here within is in
    let first = saw ∙ ap (λ x. counted seen (f x)) there in
    subst (λ others. Showed seen before others (Some (f taken)) (map f after)) (sym behind.next) (
      subst (λ w. is_done w ≡ true) first done,
      ap f (out ∙ get_or-set_same xs at new taken within) ∙ first,
      ap (map f) left ∙ behind.removed new,
    )
