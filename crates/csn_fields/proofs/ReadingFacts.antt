-- What is told of a block between two pieces of it, and at its end.
use Rattle.std.proofs.Common.{◌≡◌, ℕ, ◌+◌, ◌<◌, ◌≤◌, List, [], ◌∷◌, ◌++◌, length, take, refl, sym, ap, subst, ◌∙◌}
use Rattle.std.proofs.Common.{arith, append_assoc, append-nil}
use Rattle.std.proofs.Common.{Option, Some, None}
use Rattle.csn_bits.specs.Octets.{IsBits, most_bits}
use Rattle.csn_desc.specs.declared.moves.Move.{Move}
use Rattle.csn_desc.specs.declared.moves.Move.TheVariants.{Enter, Bit, Leave}
use Rattle.csn_desc.specs.declared.node.Node.{Node}
use Rattle.csn_desc.specs.Nodes.{DescV}
use Rattle.csn_desc.specs.TreeV.{TreeV}
use Rattle.csn_desc.specs.Means.{NMeans}
use Rattle.csn_desc.specs.Walks.{bits_of, Walk}
use Rattle.csn_desc.specs.Laws.{TreesHaveMoves, TreesHaveOneListOfMoves, MeaningsAreBits}
use Rattle.csn_desc.specs.Formed.{IsDescription}
use Rattle.csn_certify.specs.Plans.{HasOneTree}
use Rattle.csn_judge.specs.Told.{Tells, tells_none, tells_enter, tells_bit, tells_leave}
use Rattle.csn_judge.specs.Remains.{IsBlock}
use Rattle.csn_judge.specs.Judging.{JudgeV, JudgesFor, judges_on, judges_no_more, opened}
use Rattle.csn_judge.specs.declared.verdict.Judged.{Judged}
use Rattle.csn_judge.specs.declared.verdict.Judged.TheVariants.{Ok, Refused as no_string}
use Rattle.csn_fields.specs.declared.leaf.Role.TheVariants.{Root}
use Rattle.csn_fields.specs.declared.event.Event.{Event}
use Rattle.csn_fields.specs.declared.refusal.Ended.{Ended}
use Rattle.csn_fields.specs.declared.refusal.Ended.TheVariants.{Whole, Refused}
use Rattle.csn_fields.specs.declared.refusal.Refusal.{Refusal}
use Rattle.csn_fields.specs.declared.refusal.OpenNode.{OpenNode}
use Rattle.csn_fields.specs.Numbers.{HasNumbers}
use Rattle.csn_fields.specs.Events.{Told, EventsAt, AreEvents, BeginEvents}
use Rattle.csn_fields.specs.Places.{PlacesV, behind, event_of, nothing, innermost}
use Rattle.csn_fields.specs.Tracks.{Takes}
use Rattle.csn_fields.specs.Telling.{ToldV, untold, with_event, Goes}
use Rattle.csn_fields.specs.Follower.{FollowerV, FollowsFor, FollowsOn, IsTold, IsRefusedAt, Ends}
use Rattle.csn_fields.specs.Reading.{BeginMoves, TellsFor, TellsOn, EndsWith, EndsTold, ended_as}
use Rattle.csn_fields.proofs.TellingTrees.{tells_by, tells_then, walk_tells}
use Rattle.csn_fields.proofs.TrackFacts.{tracked}

-- what is known of the trees of descriptions
pub record KnownTrees : Type 0 where
  pub have : TreesHaveMoves
  pub one : TreesHaveOneListOfMoves
  pub bits : MeaningsAreBits

module _ (d : DescV) where
  -- ---- moves that were told, of others

  -- the moves behind some that were told are told from where these led
  goes_split : {around middle others : List ℕ} (first rest : List Move) {s t u : ToldV} → Tells d Goes around (first ++ rest) others s u
      → Tells d Goes around first middle s t → Tells d Goes middle rest others t u
  goes_split {others = others} [] rest {s} {t} {u} all (tells_none {around = around} same still) =
      let P : List ℕ → Type 0 = λ l. Tells d Goes l rest others t u in
      let Q : ToldV → Type 0 = λ x. Tells d Goes around rest others x u in
      subst P (sym same) (subst Q (sym still) all)
  goes_split {others = others} (Enter i ∷ first) rest {u = u} (tells_enter {around = around} node next at took all)
      (tells_enter node2 next2 at2 took2 one) =
      let twice : Some node ≡ Some node2 = sym at ∙ at2 in
      let same : node ≡ node2 = cc in
      let there : next ≡ next2 = cc in
      let P : ToldV → Type 0 = λ x. Tells d Goes (i ∷ around) (first ++ rest) others x u in
      goes_split first rest (subst P there all) one
  goes_split {others = others} (Bit bit ∷ first) rest {u = u} (tells_bit {around = around}
      {i = i} node next at took all) (tells_bit node2 next2 at2 took2 one) =
      let there : next ≡ next2 = took ∙ sym took2 in
      let P : ToldV → Type 0 = λ x. Tells d Goes (i ∷ around) (first ++ rest) others x u in
      goes_split first rest (subst P there all) one
  goes_split {others = others} (Leave ∷ first) rest {u = u} (tells_leave {around = around}
      {i = i} node next at took all) (tells_leave node2 next2 at2 took2 one) =
      let twice : Some node ≡ Some node2 = sym at ∙ at2 in
      let same : node ≡ node2 = cc in
      let there : next ≡ next2 = cc in
      let P : ToldV → Type 0 = λ x. Tells d Goes around (first ++ rest) others x u in
      goes_split first rest (subst P there all) one

  goes_once : {around others middle : List ℕ} (moves : List Move) {s t u : ToldV}
      → Tells d Goes around moves others s u → Tells d Goes around moves middle s t → u ≡ t
  goes_once moves all one = done (goes_split moves [] (tells_by d (sym (append-nil moves)) all) one)
    where
      done : {around others : List ℕ} {s t : ToldV} → Tells d Goes around [] others s t → t ≡ s
      done (tells_none same still) = still

  -- events grow
  record Grown (s t : ToldV) : Type 0 where
    pub more : List Event
    pub are : t.events ≡ s.events ++ more

  grown_by : (e : Option Event) (events more : List Event) → (all : List Event) × (with_event e events ++ more ≡ events ++ all)
  grown_by None events more = (more, refl)
  grown_by (Some event) events more = (event ∷ more, append_assoc events (event ∷ []) more)

  grown_next : (s next t : ToldV) (move : Move) (node : Node) → Goes s move node next → Grown next t → Grown s t
  grown_next s next t move node goes g =
      let by = grown_by (event_of s.places move node) s.events g.more in
      record { more = by.0; are = g.are ∙ ap (λ (x : ToldV). x.events ++ g.more) goes ∙ by.1 }

  grown : {around others : List ℕ} {moves : List Move} {s t : ToldV} → Tells d Goes around moves others s t → Grown s t
  grown {s = s} {t = t} (tells_none same still) =
      record { more = []; are = ap (λ (x : ToldV). x.events) still ∙ sym (append-nil s.events) }
  grown {s = s} {t = t} (tells_enter {i = i} node next at took rest) = grown_next s next t (Enter i) node took (grown rest)
  grown {s = s} {t = t} (tells_bit {bit = bit} node next at took rest) = grown_next s next t (Bit bit) node took (grown rest)
  grown {s = s} {t = t} (tells_leave node next at took rest) = grown_next s next t Leave node took (grown rest)

  -- the numbers of alternatives stay
  numbers_behind : (s : PlacesV) (move : Move) (node : Node) → (behind s move node).numbers ≡ s.numbers
  numbers_behind s (Enter i) node = refl
  numbers_behind s (Bit bit) node = refl
  numbers_behind s Leave node = refl

  numbers_next : (s next : ToldV) (move : Move) (node : Node) → Goes s move node next → next.places.numbers ≡ s.places.numbers
  numbers_next s next move node goes = ap (λ (x : ToldV). x.places.numbers) goes ∙ numbers_behind s.places move node

  pub same_numbers : {around others : List ℕ} {moves : List Move} {s t : ToldV} → Tells d Goes around moves others s t
      → t.places.numbers ≡ s.places.numbers
  same_numbers (tells_none same still) = ap (λ (x : ToldV). x.places.numbers) still
  same_numbers {s = s} (tells_enter {i = i} node next at took rest) = same_numbers rest ∙ numbers_next s next (Enter i) node took
  same_numbers {s = s} (tells_bit {bit = bit} node next at took rest) = same_numbers rest ∙ numbers_next s next (Bit bit) node took
  same_numbers {s = s} (tells_leave node next at took rest) = same_numbers rest ∙ numbers_next s next Leave node took

  -- ---- the events of a block

  module _ (known : KnownTrees) (is : IsDescription d) (numbers : List (Option ℕ)) (has : HasNumbers d numbers) where
    -- all events of a tree are told by its moves
    record BlockTold (b : List ℕ) (tree : TreeV) (moves : List Move) : Type 0 where
      pub events : List Event
      pub places : PlacesV
      pub are : EventsAt d 0 Root 0 (length b) tree events
      pub tells : Tells d Goes [] moves [] (untold numbers) (record { places = places; events = events })

    block_told : (b : List ℕ) (tree : TreeV) (moves : List Move) → length b ≤ most_bits → NMeans d 0 0 [] b tree
        → Walk d 0 0 tree moves → BlockTold b tree moves
    block_told b tree moves few means walk =
        let theirs = known.have d 0 0 [] b tree means in
        let same : theirs.0 ≡ moves = known.one d 0 0 tree theirs.0 moves theirs.1 walk in
        let taken : bits_of moves ≡ b = ap (λ m. bits_of m) (sym same) ∙ theirs.2 in
        let bits : IsBits (bits_of moves) = subst (λ l. IsBits l) (sym taken) (known.bits d 0 0 [] b tree means) in
        let small : 0 + length (bits_of moves) < 4294967296 = omega (arith, few, ap (λ l. length l) taken) in
        let w = walk_tells d numbers has [] 0 [] [] is.well_formed (omega arith) (record { are = bits; small = small }) walk in
        let long : 0 + length (bits_of moves) ≡ length b = omega (arith, ap (λ l. length l) taken) in
        let P : ℕ → Type 0 = λ n. EventsAt d 0 Root 0 n tree w.events in
        record { events = w.events; places = _; are = subst P long w.are; tells = w.tells }

    -- the events of a block that has ended
    pub whole_told : HasOneTree d → (b : List ℕ) (moves : List Move) (places : PlacesV) (events : List Event)
        (others : List ℕ) → length b ≤ most_bits → IsBlock d b moves
        → Tells d Goes [] moves others (untold numbers) (record { places = places; events = events })
        → AreEvents d b events
    whole_told one b moves places events others few block tells =
        let w = block_told b block.tree moves few block.means block.walks in
        let same : w.events ≡ events = ap (λ (s : ToldV). s.events) (goes_once moves w.tells tells) in
        let P : List Event → Type 0 = λ l. EventsAt d 0 Root 0 (length b) block.tree l in
        record {
          tree = block.tree;
          means = block.means;
          only = λ other there. one b other block.tree there block.means;
          events_are = subst P same w.are;
        }

    -- the events of the bits that a judge stands for begin those of each block that goes on from there
    pub front_told : (j : JudgeV) (b : List ℕ) (moves : List Move) (places : PlacesV) (events : List Event)
        (others : List ℕ) → j.desc ≡ d → j.refused ≡ None
        → JudgesFor j b moves
        → Tells d Goes [] moves others (untold numbers) (record { places = places; events = events })
        → BeginEvents d b events
    front_told j b moves places events others same none (judges_no_more place refused at small) tells later tree few means = absurd (cc)
    front_told j b moves places events others same none (judges_on stack done refused seen cut stands for goes unended) tells later tree few means =
        let held : List ℕ = j.state.coming.bits in
        let theirs = known.have d 0 0 [] (b ++ later) tree means in
        let all : b ++ later ≡ done ++ (held ++ later) = ap (λ l. l ++ later) cut ∙ append_assoc done held later in
        let block : IsBlock d (b ++ later) theirs.0 = record { tree = tree; means = means; walks = theirs.1 } in
        let here : IsBlock j.desc (done ++ (held ++ later)) theirs.0 =
        subst (λ x. IsBlock x (done ++ (held ++ later)) theirs.0) (sym same) (subst (λ l. IsBlock d l theirs.0) all block) in
        let on = for.ends later theirs.0 here in
        let w = block_told (b ++ later) tree theirs.0 few means theirs.1 in
        let behind_all = goes_split moves on.0 (tells_by d on.1 w.tells) tells in
        let g = grown behind_all in
        let P : List Event → Type 0 = λ l. EventsAt d 0 Root 0 (length (b ++ later)) tree l in
        (g.more, subst P g.are w.are)

-- the moves of the bits that a judge stands for begin those of each block that goes on from there
begin_moves : (d : DescV) (j : JudgeV) (b : List ℕ) (moves : List Move) → j.desc ≡ d → j.refused ≡ None → JudgesFor j b moves → BeginMoves d b moves
begin_moves d j b moves same going (judges_no_more place refused at small) later all block = absurd (cc)
begin_moves d j b moves same going (judges_on stack done refused seen cut stands for goes unended) later all block =
    let held : List ℕ = j.state.coming.bits in
    let whole : b ++ later ≡ done ++ (held ++ later) = ap (λ l. l ++ later) cut ∙ append_assoc done held later in
    let here : IsBlock j.desc (done ++ (held ++ later)) all =
    subst (λ x. IsBlock x (done ++ (held ++ later)) all) (sym same) (subst (λ l. IsBlock d l all) whole block) in
    let on = for.ends later all here in
    (on.0, on.1)

-- ---- between two pieces, and at the end

module _ {E : Type 0} (tells : E → Event → E → Type 0) {S : Type 0} (places : S → PlacesV) (heard : S → E) (takes : S → Move → Node → S → Type 0)
    (each : (s t : S) (move : Move) (node : Node) → takes s move node t → Takes tells (places s) (heard s) move node
    (places t) (heard t)) (old new : S) where
  pub reads_on : (f g : FollowerV) (b more : List ℕ) → g.desc ≡ f.desc
      → ((b : List ℕ) (moves : List Move) → FollowsFor f b moves
      → FollowsOn (λ around made. Tells f.desc takes (opened f.judge) made around old new) g (b ++ more) moves)
      → (events : List Event) → TellsFor f (places old) b events → TellsOn tells g (places new) (b ++ more) events (heard old) (heard new)
  reads_on f g b more same follows events t =
      let on = follows b t.moves t.follows in
      let heard_now = tracked tells f.desc places heard takes each events on.told in
      let P : DescV → Type 0 = λ d. Tells d Goes [] (t.moves ++ on.made) (opened g.judge) (untold t.numbers)
      (record { places = places new; events = events ++ heard_now.more }) in
      record {
        more = heard_now.more;
        stands =
            record {
              description = subst (λ d. IsDescription d) (sym same) t.description;
              one_tree = subst (λ d. HasOneTree d) (sym same) t.one_tree;
              numbers = t.numbers;
              has = subst (λ d. HasNumbers d t.numbers) (sym same) t.has;
              moves = t.moves ++ on.made;
              follows = on.follows;
              told = subst P (sym same) (tells_then f.desc t.told heard_now.goes);
            };
        told = heard_now.told;
      }

  -- a block that is a string
  pub ends_whole : (known : KnownTrees) (f : FollowerV) (b : List ℕ) (events : List Event)
      → ((b : List ℕ) (moves : List Move) → FollowsFor f b moves → IsTold (λ around made. Tells f.desc takes
      (opened f.judge) made around old new) f b moves)
      → TellsFor f (places old) b events → EndsTold tells f.desc b events (heard old) (heard new) Whole
  ends_whole known f b events ends t =
      let end = ends b t.moves t.follows in
      let heard_now = tracked tells f.desc places heard takes each events end.told in
      record {
        more = heard_now.more;
        told = heard_now.told;
        ends =
            whole_told f.desc known t.description t.numbers t.has t.one_tree b (t.moves ++ end.made) (places new)
            (events ++ heard_now.more) [] end.few end.block (tells_then f.desc t.told heard_now.goes);
      }

-- a block that is none
pub ends_none : {E : Type 0} (tells : E → Event → E → Type 0) (known : KnownTrees) (f : FollowerV) (places : PlacesV)
    (b : List ℕ) (events : List Event)
    (old new : E) (refusal : Refusal) → new ≡ old → refusal.within ≡ innermost places.nodes
    → ((b : List ℕ) (moves : List Move) → FollowsFor f b moves → IsRefusedAt f b moves refusal.place)
    → TellsFor f places b events → EndsTold tells f.desc b events old new (Refused refusal)
ends_none tells known f places b events old new refusal still within ends t =
    let end = ends b t.moves t.follows in
    let P : List Event → Type 0 = λ l. EndsWith f.desc b l (Refused refusal) in
    record {
      more = [];
      told = still;
      ends =
          subst P (sym (append-nil events)) (
            end.no_string,
            front_told f.desc known t.description t.numbers t.has f.judge (take refusal.place b) t.moves places events
                (opened f.judge) t.follows.same_desc t.follows.going end.judge t.told,
            record {
              numbers = t.numbers;
              has = t.has;
              moves = t.moves;
              begin = begin_moves f.desc f.judge (take refusal.place b) t.moves t.follows.same_desc t.follows.going end.judge;
              around = opened f.judge;
              last = record { places = places; events = events };
              told = t.told;
              events_are = refl;
              within_is = within;
            },
          );
    }

module _ {E : Type 0} (tells : E → Event → E → Type 0) {S : Type 0} (places : S → PlacesV) (heard : S → E) (takes : S → Move → Node → S → Type 0)
    (each : (s t : S) (move : Move) (node : Node) → takes s move node t → Takes tells (places s) (heard s) move node
    (places t) (heard t)) (old new : S)
    (f : FollowerV) (judged : Judged)
    (ends : (b : List ℕ) (moves : List Move) → FollowsFor f b moves → Ends (λ around made. Tells f.desc takes
    (opened f.judge) made around old new) f b moves judged)
    (stays : (place : ℕ) → judged ≡ no_string place → new ≡ old) where
  -- at the end of a block, by what the judges answer
  pub ends_told : (known : KnownTrees) (within : Option OpenNode) → within ≡ innermost (places new).nodes →
      (b : List ℕ) (events : List Event) → TellsFor f (places old) b events
      → EndsTold tells f.desc b events (heard old) (heard new) (ended_as judged within)
  ends_told known within within_is b events t = by judged refl
    where
      by : (j : Judged) → judged ≡ j → EndsTold tells f.desc b events (heard old) (heard new) (ended_as judged within)
      by Ok is =
          let P : Judged → Type 0 = λ j. EndsTold tells f.desc b events (heard old) (heard new) (ended_as j within) in
          let Q : Judged → Type 0 = λ j. (b : List ℕ) (moves : List Move) → FollowsFor f b moves
          → Ends (λ around made. Tells f.desc takes (opened f.judge) made around old new) f b moves j in
          subst P (sym is) (ends_whole tells places heard takes each old new known f b events (subst Q is ends) t)
      by (no_string place) is =
          let P : Judged → Type 0 = λ j. EndsTold tells f.desc b events (heard old) (heard new) (ended_as j within) in
          let Q : Judged → Type 0 = λ j. (b : List ℕ) (moves : List Move) → FollowsFor f b moves
          → Ends (λ around made. Tells f.desc takes (opened f.judge) made around old new) f b moves j in
          subst P (sym is)
          (ends_none tells known f (places old) b events (heard old) (heard new) (record { place = place; within = within })
          (ap (λ s. heard s) (stays place is)) (within_is ∙ ap (λ s. innermost (places s).nodes) (stays place is)) (subst Q is ends) t)

  -- and the numbers of alternatives are the same then
  pub ends_numbers : (b : List ℕ) (events : List Event) → TellsFor f (places old) b events → (places new).numbers ≡ (places old).numbers
  ends_numbers b events t = by judged refl
    where
      by : (j : Judged) → judged ≡ j → (places new).numbers ≡ (places old).numbers
      by Ok is =
          let Q : Judged → Type 0 = λ j. (b : List ℕ) (moves : List Move) → FollowsFor f b moves
          → Ends (λ around made. Tells f.desc takes (opened f.judge) made around old new) f b moves j in
          let end = subst Q is ends b t.moves t.follows in
          same_numbers f.desc (tracked tells f.desc places heard takes each [] end.told).goes
      by (no_string place) is = ap (λ s. (places s).numbers) (stays place is)

-- no bits have come
pub reads_none : (f : FollowerV) (places : PlacesV) (d : DescV) (numbers : List (Option ℕ)) → f.desc ≡ d
    → IsDescription d → HasOneTree d → HasNumbers d numbers
    → FollowsFor f [] [] → opened f.judge ≡ [] → places ≡ nothing numbers → TellsFor f places [] []
reads_none f places d numbers same is one has follows none start =
    record {
      description = subst (λ d. IsDescription d) (sym same) is;
      one_tree = subst (λ d. HasOneTree d) (sym same) one;
      numbers = numbers;
      has = subst (λ d. HasNumbers d numbers) (sym same) has;
      moves = [];
      follows = follows;
      told = tells_none none (ap (λ p. record { places = p; events = [] }) start);
    }

-- and none of the next block
pub reads_again : (f g : FollowerV) (places next : PlacesV) (numbers : List (Option ℕ)) (b : List ℕ) (events : List Event) → g.desc ≡ f.desc
    → FollowsFor g [] [] → opened g.judge ≡ [] → next ≡ nothing numbers → numbers ≡ places.numbers
    → TellsFor f places b events → TellsFor g next [] []
reads_again f g places next numbers b events same follows none start kept t =
    reads_none g next f.desc t.numbers same t.description t.one_tree t.has follows none
    (start ∙ ap (λ l. nothing l) (kept ∙ same_numbers f.desc t.told))

-- ---- a block that is there as a whole

pub told_then : {S : Type 0} (tells : S → Event → S → Type 0) (a b : List Event) (s t u : S) → Told tells a s t → Told tells b t u
    → Told tells (a ++ b) s u
told_then {S} tells [] b s t u same later =
    let P : S → Type 0 = λ x. Told tells b x u in
    subst P same later
told_then tells (e ∷ a) b s t u (next, first, rest) later = (next, first, told_then tells a b next t u rest later)

pub all_told : {S : Type 0} (tells : S → Event → S → Type 0) (d e : DescV) (b c : List ℕ) (first : List Event)
    (s t u : S) (ended : Ended) → e ≡ d → c ≡ b
    → Told tells first s t → EndsTold tells e c first t u ended → EndsTold tells d b [] s u ended
all_told tells d e b c first s t u ended same bits told end =
    let P : DescV → Type 0 = λ x. EndsWith x c (first ++ end.more) ended in
    let Q : List ℕ → Type 0 = λ l. EndsWith d l (first ++ end.more) ended in
    record { more = first ++ end.more; told = told_then tells first end.more s t u told end.told; ends = subst Q bits (subst P same end.ends) }
