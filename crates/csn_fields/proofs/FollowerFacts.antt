-- A judge that follows another one.
use Rattle.std.specs.Prelude.{⊤}
use Rattle.std.proofs.Common.{◌≡◌, ℕ, ◌+◌, ◌-◌, ◌*◌, ◌<◌, ◌≤◌, List, [], ◌++◌, length, take, min, refl, sym, ap, subst}
use Rattle.std.proofs.Common.{◌∙◌, arith, append-nil, length-append}
use Rattle.std.proofs.Common.{Option, Some, None}
use Rattle.std.proofs.Math.Nat.{min-eq_left, mul-le-mul_left}
use Rattle.std.proofs.Math.Seq.{take-append-add, take-length}
use Rattle.std.proofs.lemmas.List.{take-append-le, take-take, take_all, length-take-le}
use Rattle.csn_desc.specs.declared.moves.Move.{Move}
use Rattle.csn_desc.specs.Nodes.{DescV}
use Rattle.csn_desc.specs.TreeV.{TreeV}
use Rattle.csn_desc.specs.Means.{NMeans}
use Rattle.csn_desc.specs.Follows.{NFollow, IsPlace}
use Rattle.csn_desc.specs.Laws.{StringsAreFollowed}
use Rattle.csn_judge.specs.declared.verdict.Verdict.{Verdict}
use Rattle.csn_judge.specs.declared.verdict.Verdict.TheVariants.{Going, Refused}
use Rattle.csn_judge.specs.declared.verdict.Judged.{Judged}
use Rattle.csn_judge.specs.declared.verdict.Judged.TheVariants.{Ok, Refused as no_string}
use Rattle.csn_judge.specs.Remains.{IsBlock, shorter}
use Rattle.csn_judge.specs.Judging.{JudgeV, JudgesFor, judges_on, judges_no_more, opened, refusal_of, Judges}
use Rattle.csn_judge.specs.Judging as judging
use Rattle.csn_fields.specs.Follower.{stands, told_of, front_of, FollowsFor, FollowsOn, Says, IsTold, IsRefusedAt}

-- ---- what a judge stands for

-- bits that were not refused can be followed, and so many have come
pub judged_follows : (j : JudgeV) (b : List ℕ) (moves : List Move) → j.refused ≡ None → JudgesFor j b moves → NFollow j.desc 0 0 [] b
judged_follows j b moves none (judges_no_more place refused at small) = absurd (cc)
judged_follows j b moves none (judges_on stack done refused seen cut stands for goes unended) =
    subst (λ l. NFollow j.desc 0 0 [] l) (sym cut)
    (for.went j.state.coming.bits (shorter [] (sym (append-nil j.state.coming.bits))) goes)

pub judged_seen : (j : JudgeV) (b : List ℕ) (moves : List Move) → j.refused ≡ None → JudgesFor j b moves → j.seen ≡ length b
judged_seen j b moves none (judges_no_more place refused at small) = absurd (cc)
judged_seen j b moves none (judges_on stack done refused seen cut stands for goes unended) = seen

pub record PlaceOf (d : DescV) (b : List ℕ) (place : ℕ) : Type 0 where
  pub at : IsPlace d b place
  pub small : place < length b

pub judged_place : (j : JudgeV) (b : List ℕ) (moves : List Move) (place : ℕ) → j.refused ≡ Some place → JudgesFor j b moves → PlaceOf j.desc b place
judged_place j b moves place refusal (judges_no_more other refused at small) =
    let same : other ≡ place = cc in
    subst (λ n. PlaceOf j.desc b n) same (record { at = at; small = small })
judged_place j b moves place refusal (judges_on stack done refused seen cut stands for goes unended) = absurd (cc)

-- ---- some more bits

-- a judge has been fed bits that can be followed
record Fronted (are_told : List ℕ → List Move → Type 0) (new : JudgeV) (whole : List ℕ) (moves : List Move) : Type 0 where
  pub made : List Move
  pub judges : JudgesFor new whole (moves ++ made)
  pub going : new.refused ≡ None
  pub told : are_told (opened new) made

module _ (are_told : List ℕ → List Move → Type 0) (old new : JudgeV) where
  fronted : (front told whole : List ℕ) (moves : List Move) (heard : Verdict) → new.refused ≡ refusal_of heard → Judges are_told old new told heard
      → JudgesFor old front moves → front ++ told ≡ whole → NFollow old.desc 0 0 [] whole → Fronted are_told new whole moves
  fronted front told whole moves Going refusal judges for is follow =
      let on = judges front moves for in
      record { made = on.made; judges = subst (λ l. JudgesFor new l (moves ++ on.made)) is on.judges; going = refusal; told = on.told }
  fronted front told whole moves (Refused place) refusal judges for is follow =
      let no = judges front moves for in
      absurd (no.not_followed (subst (λ l. NFollow old.desc 0 0 [] l) (sym is) follow))

-- the first so many of the bits with others behind them
front_more : (b more : List ℕ) (place : ℕ) → length b ≤ place → take place (b ++ more) ≡ b ++ take (place - length b) more
front_more b more place far =
    let parts : place ≡ length b + (place - length b) = omega (arith, far) in
    ap (λ n. take n (b ++ more)) parts ∙ take-append-add b more (place - length b)

-- so many bits of a piece
record IsPiece (piece more told : List ℕ) (bits some : ℕ) : Type 0 where
  pub more_is : more ≡ take bits piece
  pub told_is : told ≡ take some piece
  pub long : length more ≡ bits

module _ (are_told : List ℕ → List Move → Type 0) (ahead ahead_on judge judge_on : JudgeV) (descs : judge_on.desc ≡ ahead_on.desc) where
  abbrev Fed : List ℕ → List Move → List ℕ → Type 0
  Fed b moves more = FollowsOn are_told (stands ahead_on judge_on) (b ++ more) moves

  -- the bits that the judge behind has are the front of all
  follows_on : (whole front : List ℕ) (moves ahead_moves : List Move) → JudgesFor ahead_on whole ahead_moves
      → front_of ahead_on.refused whole ≡ front
      → Fronted are_told judge_on front moves → FollowsOn are_told (stands ahead_on judge_on) whole moves
  follows_on whole front moves ahead_moves for is on =
      record {
        made = on.made;
        follows =
            record {
              same_desc = descs;
              ahead_moves = ahead_moves;
              ahead = for;
              going = on.going;
              judge = subst (λ l. JudgesFor judge_on l (moves ++ on.made)) (sym is) on.judges;
            };
        told = on.told;
      }

  module _ (same_desc : judge.desc ≡ ahead.desc) (kept_desc : ahead_on.desc ≡ ahead.desc) (heard : Verdict) (told : List ℕ)
      (refusal : judge_on.refused ≡ refusal_of heard) (hears : Judges are_told judge judge_on told heard) where
    follow_here : (b : List ℕ) → NFollow ahead.desc 0 0 [] b → NFollow judge.desc 0 0 [] b
    follow_here b h = subst (λ d. NFollow d 0 0 [] b) (sym same_desc) h

    -- where nothing was refused before
    going_on : (piece more : List ℕ) (bits some : ℕ) (says : Verdict) → ahead.refused ≡ None → ahead_on.refused ≡ refusal_of says
        → Judges (λ around made. ⊤) ahead ahead_on more says → IsPiece piece more told bits some → some ≡ told_of None ahead.seen bits says
        → (b : List ℕ) (moves : List Move) → FollowsFor (stands ahead judge) b moves → Fed b moves more
    going_on piece more bits some Going none says_none judges cut some_is b moves f =
        let on = judges b f.ahead_moves f.ahead in
        let here : JudgesFor judge b moves = subst (λ r. JudgesFor judge (front_of r b) moves) none f.judge in
        let same : told ≡ more = cut.told_is ∙ ap (λ n. take n piece) some_is ∙ sym cut.more_is in
        follows_on (b ++ more) (b ++ more) moves (f.ahead_moves ++ on.made) on.judges (ap (λ r. front_of r (b ++ more)) says_none)
        (fronted are_told judge judge_on b told (b ++ more) moves heard refusal hears here (ap (λ l. b ++ l) same)
        (follow_here (b ++ more) on.followed))
    going_on piece more bits some (Refused place) none says_some judges cut some_is b moves f =
        let no = judges b f.ahead_moves f.ahead in
        let here : JudgesFor judge b moves = subst (λ r. JudgesFor judge (front_of r b) moves) none f.judge in
        let far : length b ≤ place = no.in_piece none in
        let seen : ahead.seen ≡ length b = judged_seen ahead b f.ahead_moves none f.ahead in
        let few : place - length b ≤ bits = omega (arith, no.before_end, length-append b more, cut.long) in
        let some_here : some ≡ place - length b =
        some_is ∙ ap (λ n. min (place - n) bits) seen ∙ min-eq_left few in
        let same : told ≡ take (place - length b) more =
        cut.told_is ∙ ap (λ n. take n piece) some_here ∙ sym (take-take (place - length b) bits piece few) ∙ ap
        (λ l. take (place - length b) l) (sym cut.more_is) in
        let front : b ++ told ≡ take place (b ++ more) = ap (λ l. b ++ l) same ∙ sym (front_more b more place far) in
        let P : DescV → Type 0 = λ d. IsPlace d (b ++ more) place in
        follows_on (b ++ more) (take place (b ++ more)) moves [] (judges_no_more place says_some (subst P (sym kept_desc) no.place_is) no.before_end)
        (ap (λ r. front_of r (b ++ more)) says_some)
        (fronted are_told judge judge_on b told (take place (b ++ more)) moves heard refusal hears here front
        (follow_here (take place (b ++ more)) no.place_is.followed))

    -- where some bit was refused before
    still : (more : List ℕ) (was : ℕ) (says : Verdict) → ahead.refused ≡ Some was → ahead_on ≡ ahead → ahead_on.refused ≡ refusal_of says
        → Judges (λ around made. ⊤) ahead ahead_on more says → told ≡ []
        → (b : List ℕ) (moves : List Move) → FollowsFor (stands ahead judge) b moves → Fed b moves more
    still more was Going refused same says_none judges none b moves f =
        let clash : Some was ≡ None = sym refused ∙ ap (λ (j : JudgeV). j.refused) (sym same) ∙ says_none in
        absurd (cc)
    still more was (Refused place) refused same says_some judges none b moves f =
        let no = judges b f.ahead_moves f.ahead in
        let twice : Some was ≡ Some place = sym refused ∙ ap (λ (j : JudgeV). j.refused) (sym same) ∙ says_some in
        let one : was ≡ place = cc in
        let before = judged_place ahead b f.ahead_moves was refused f.ahead in
        let here : JudgesFor judge (take was b) moves = subst (λ r. JudgesFor judge (front_of r b) moves) refused f.judge in
        let P : DescV → Type 0 = λ d. IsPlace d (b ++ more) place in
        follows_on (b ++ more) (take was b) moves [] (judges_no_more place says_some (subst P (sym kept_desc) no.place_is) no.before_end)
        (ap (λ r. front_of r (b ++ more)) (says_some ∙ sym twice) ∙ take-append-le was b more before.at.within)
        (fronted are_told judge judge_on (take was b) told (take was b) moves heard refusal hears here
        (ap (λ l. take was b ++ l) none ∙ append-nil (take was b)) (follow_here (take was b) before.at.followed))

-- what the judge ahead answers holds of all bits so far
pub says_so : (ahead ahead_on : JudgeV) (judge : JudgeV) (more : List ℕ) (says : Verdict) → Judges (λ around made. ⊤) ahead ahead_on more says
    → (b : List ℕ) (moves : List Move) → FollowsFor (stands ahead judge) b moves → Says ahead.desc (b ++ more) says
says_so ahead ahead_on judge more Going judges b moves f = (judges b f.ahead_moves f.ahead).followed
says_so ahead ahead_on judge more (Refused place) judges b moves f =
    let no = judges b f.ahead_moves f.ahead in (no.place_is, no.before_end)

-- behind some more bits
pub feeds : (are_told : List ℕ → List Move → Type 0) (ahead ahead_on judge judge_on : JudgeV) (piece : List ℕ)
    (bits some : ℕ) (was : Option ℕ) (says heard : Verdict)
    → judge_on.desc ≡ ahead_on.desc → judge.desc ≡ ahead.desc → ahead_on.desc ≡ ahead.desc → was ≡ ahead.refused → bits ≤ length piece
    → some ≡ told_of was ahead.seen bits says
    → ahead_on.refused ≡ refusal_of says → judge_on.refused ≡ refusal_of heard
    → ((place : ℕ) → ahead.refused ≡ Some place → ahead_on ≡ ahead)
    → Judges (λ around made. ⊤) ahead ahead_on (take bits piece) says → Judges are_told judge judge_on (take some piece) heard
    → (b : List ℕ) (moves : List Move) → FollowsFor (stands ahead judge) b moves
    → FollowsOn are_told (stands ahead_on judge_on) (b ++ take bits piece) moves
feeds are_told ahead ahead_on judge judge_on piece bits some None says heard descs same kept was within some_is
    refusal hears_refusal stays judges hears =
    going_on are_told ahead ahead_on judge judge_on descs same kept heard (take some piece) hears_refusal hears piece
    (take bits piece) bits some says (sym was) refusal judges
    (record { more_is = refl; told_is = refl; long = length-take-le bits piece within }) some_is
feeds are_told ahead ahead_on judge judge_on piece bits some
    (Some place) says heard descs same kept was within some_is refusal hears_refusal stays judges hears =
    still are_told ahead ahead_on judge judge_on descs same kept heard (take some piece) hears_refusal hears (take bits piece) place says (sym was)
    (stays place (sym was)) refusal judges (ap (λ n. take n piece) some_is)

-- ---- at the end of a block

module _ (ahead judge : JudgeV) (b : List ℕ) (moves : List Move) (f : FollowsFor (stands ahead judge) b moves) where
  never : StringsAreFollowed → (tree : TreeV) → NMeans ahead.desc 0 0 [] b tree → (place : ℕ) → ahead.refused ≡ Some place → ⊥
  never strings tree means place is =
      let before = judged_place ahead b f.ahead_moves place is f.ahead in
      let all : NFollow ahead.desc 0 0 [] (take (length b) b) =
      subst (λ l. NFollow ahead.desc 0 0 [] l) (sym (take-length b)) (strings ahead.desc 0 0 [] b tree means) in
      omega (arith, before.at.greatest (length b) (omega arith) all, before.small)

  -- a string was not refused
  never_refused : StringsAreFollowed → (tree : TreeV) → NMeans ahead.desc 0 0 [] b tree → (r : Option ℕ)
      → ahead.refused ≡ r → front_of ahead.refused b ≡ b
  never_refused strings tree means None is = ap (λ r. front_of r b) is
  never_refused strings tree means (Some place) is = absurd (never strings tree means place is)

  few : StringsAreFollowed → (tree : TreeV) → NMeans ahead.desc 0 0 [] b tree → ahead.seen ≤ 524288 → length b ≤ 524288
  few strings tree means small = by ahead.refused refl
    where
      by : (r : Option ℕ) → ahead.refused ≡ r → length b ≤ 524288
      by None is = omega (arith, small, judged_seen ahead b f.ahead_moves is f.ahead)
      by (Some place) is = absurd (never strings tree means place is)

  -- the place at the end is that of a refusal before it, or the end
  front_is : (place : ℕ) → IsPlace ahead.desc b place → (r : Option ℕ) → ahead.refused ≡ r → front_of ahead.refused b ≡ take place b
  front_is place at None is =
      let all : NFollow ahead.desc 0 0 [] (take (length b) b) =
      subst (λ l. NFollow ahead.desc 0 0 [] l) (sym (take-length b)) (judged_follows ahead b f.ahead_moves is f.ahead) in
      ap (λ r. front_of r b) is ∙ sym (take_all place b (at.greatest (length b) (omega arith) all))
  front_is place at (Some other) is =
      let before = judged_place ahead b f.ahead_moves other is f.ahead in
      let low = at.greatest other before.at.within before.at.followed in
      let high = before.at.greatest place at.within at.followed in
      ap (λ r. front_of r b) is ∙ ap (λ n. take n b) (omega (arith, low, high))

  module _ (same_desc : judge.desc ≡ ahead.desc) (are_told : List ℕ → List Move → Type 0) where
    ends_ok : ahead.seen ≤ 524288 → StringsAreFollowed → (heard : Judged) → judging.Ends (λ around made. ⊤) ahead Ok
        → judging.Ends are_told judge heard
        → IsTold are_told (stands ahead judge) b moves
    ends_ok small strings Ok ends heard =
        let string = ends b f.ahead_moves f.ahead in
        let front = never_refused strings string.block.tree string.block.means ahead.refused refl in
        let here : JudgesFor judge b moves = subst (λ l. JudgesFor judge l moves) front f.judge in
        let told = heard b moves here in
        record {
          made = told.made;
          few = few strings string.block.tree string.block.means small;
          block = subst
              (λ d. IsBlock d b (moves ++ told.made)) same_desc told.block;
          told = told.told;
        }
    ends_ok small strings (no_string place) ends heard =
        let string = ends b f.ahead_moves f.ahead in
        let front = never_refused strings string.block.tree string.block.means ahead.refused refl in
        let here : JudgesFor judge b moves = subst (λ l. JudgesFor judge l moves) front f.judge in
        let no = heard b moves here in
        absurd (no.no_tree string.block.tree (subst (λ d. NMeans d 0 0 [] b string.block.tree) (sym same_desc) string.block.means))

  ends_refused : (place : ℕ) → judging.Ends (λ around made. ⊤) ahead (no_string place) → IsRefusedAt (stands ahead judge) b moves place
  ends_refused place ends =
      let no = ends b f.ahead_moves f.ahead in
      record {
        no_string = record { place_is = no.place_is; no_tree = no.no_tree };
        judge = subst (λ l. JudgesFor judge l moves) (front_is place no.place_is ahead.refused refl) f.judge;
      }

pub ends_string : (are_told : List ℕ → List Move → Type 0) (ahead judge : JudgeV) (heard : Judged)
    → judge.desc ≡ ahead.desc → ahead.seen ≤ 524288 → StringsAreFollowed
    → judging.Ends (λ around made. ⊤) ahead Ok → judging.Ends are_told judge heard
    → (b : List ℕ) (moves : List Move) → FollowsFor (stands ahead judge) b moves → IsTold are_told (stands ahead judge) b moves
ends_string are_told ahead judge heard same small strings ends hears b moves f = ends_ok ahead judge b moves f same
    are_told small strings heard ends hears

pub ends_place : (ahead judge : JudgeV) (place : ℕ) → judging.Ends (λ around made. ⊤) ahead (no_string place)
    → (b : List ℕ) (moves : List Move) → FollowsFor (stands ahead judge) b moves → IsRefusedAt (stands ahead judge) b moves place
ends_place ahead judge place ends b moves f = ends_refused ahead judge b moves f place ends

-- no bits
pub fresh : (ahead judge : JudgeV) → judge.desc ≡ ahead.desc → JudgesFor ahead [] [] → ahead.refused ≡ None
    → JudgesFor judge [] [] → judge.refused ≡ None
    → FollowsFor (stands ahead judge) [] []
fresh ahead judge same for none follows going =
    record {
      same_desc = same;
      ahead_moves = [];
      ahead = for;
      going = going;
      judge = subst (λ r. JudgesFor judge (front_of r []) []) (sym none) follows;
    }

-- ---- steps

-- what is paid for by some bits pays for both judges
pub both_pay : (nodes bits told before middle after ahead ahead_on judge judge_on : ℕ) → told ≤ bits
    → middle + ahead_on ≤ before + ahead + 8 * nodes * bits → after + judge_on ≤ middle + judge + 8 * nodes * told
    → after + (ahead_on + judge_on) ≤ before + (ahead + judge) + 16 * nodes * bits
both_pay nodes bits told before middle after ahead ahead_on judge judge_on few first second =
    let more : 8 * nodes * told ≤ 8 * nodes * bits = mul-le-mul_left (8 * nodes) few in
    let twice : 16 * nodes * bits ≡ 8 * nodes * bits + 8 * nodes * bits = doubled nodes bits in
    omega (arith, few, first, second, more, twice)
  where
    doubled : (n b : ℕ) → 16 * n * b ≡ 8 * n * b + 8 * n * b
    doubled n b = omega arith
