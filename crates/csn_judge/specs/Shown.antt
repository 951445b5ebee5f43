-- How the frames of the machine show what is left of the nodes that are open. (This project's own choice.)
use Rattle.std.specs.Prelude.{◌≡◌, ℕ, suc, ◌+◌, ◌*◌, ◌<◌, ◌≤◌, Bool, true, false, List, [], ◌∷◌, ◌++◌, length, take, drop, min, slice_get, Some}
use Rattle.csn_desc.specs.declared.symbol.Symbol.{Symbol}
use Rattle.csn_desc.specs.declared.node.Count.{Count}
use Rattle.csn_desc.specs.declared.node.Count.TheVariants.{Fixed}
use Rattle.csn_desc.specs.declared.node.Node.{Node}
use Rattle.csn_desc.specs.declared.node.Node.TheVariants.{Lits, Spare, Pad, Field, Rest, Seq, Choice, Times, Many, Trunc, Window, Named}
use Rattle.csn_desc.specs.Nodes.{DescV}
use Rattle.csn_bits.specs.Numbers.{number_of}
use Rattle.csn_desc.specs.Values.{Values}
use Rattle.csn_desc.specs.Formed.{is_counted}
use Rattle.csn_certify.specs.KeptNumbers.{numbers_of}
use Rattle.csn_judge.specs.declared.frame.Frame.{Frame}
use Rattle.csn_judge.specs.declared.frame.Frame.TheVariants as frame
use Rattle.csn_judge.specs.declared.frame.Counted.{Counted as CountedFrame}
use Rattle.csn_judge.specs.declared.leaf.Leaf.{Leaf}
use Rattle.csn_judge.specs.declared.leaf.Leaf.TheVariants as leaf
use Rattle.csn_certify.specs.declared.numbers.Number.{Number}
use Rattle.csn_judge.specs.Left.{Left, all_left, bits_left, symbols_left, spare_left, pad_left, rest_left}
use Rattle.csn_judge.specs.Left.{choice_left, none_left, window_left, parts_left, turns_left, free_left, cut_left}
use Rattle.csn_judge.specs.Left.{lead_left, behind}

-- the values that a part sees which is read inside these open nodes
abbrev pub seen_in : List Left → Values
seen_in [] = []
seen_in (parts_left i from after v ∷ outer) = v
seen_in (lead_left i from after v ∷ outer) = v
seen_in (turns_left n i v ∷ outer) = v
seen_in (free_left i v ∷ outer) = v
seen_in (_ ∷ outer) = seen_in outer

-- where the innermost window ends of these open nodes
abbrev pub limit_in : List Left → ℕ
limit_in [] = 4294967295
limit_in (window_left end ∷ outer) = min (limit_in outer) end
limit_in (_ ∷ outer) = limit_in outer

module _ (d : DescV) where
  -- what is seen behind a part that is read inside these open nodes
  abbrev pub seen_behind : List Left → List ℕ → Values
  seen_behind (parts_left i from after v ∷ outer) done = behind d i from v done
  seen_behind (lead_left i from after v ∷ outer) done = behind d i from v done
  seen_behind outer done = seen_in outer

  -- these are the values that a node sees, where so many of them were there outside it
  pub record SeesMore (outer : List Left) (count : ℕ) (v : Values) : Type 0 where
    pub count_is : count ≡ length (numbers_of d (seen_in outer))
    pub same : take count (numbers_of d v) ≡ numbers_of d (seen_in outer)

  -- ---- a node k with parts, and what is left of it behind a part i that is read inside it

  pub record TakesAlternative (k i : ℕ) : Type 0 where
    pub j : ℕ
    pub parts : List ℕ
    pub at : slice_get d.nodes k ≡ Some (Choice parts)
    pub part : slice_get parts j ≡ Some i

  pub record LabelsAlone (k i : ℕ) : Type 0 where
    pub label : List ℕ
    pub at : slice_get d.nodes k ≡ Some (Named label i)
    pub alone : is_counted d.nodes k ≡ false

  pub record Cuts (k i limit : ℕ) (outer : List Left) : Type 0 where
    pub unit : ℕ
    pub count : Count
    pub at : slice_get d.nodes k ≡ Some (Window unit count i)
    pub limit_is : limit ≡ limit_in outer

  pub record HasNext (node : Node) (parts : List ℕ) (k next count i : ℕ) (after : List ℕ) (v : Values) (outer : List Left) : Type 0 where
    pub at : slice_get d.nodes k ≡ Some node
    pub before : List ℕ
    pub is : parts ≡ before ++ i ∷ after
    pub next_is : next ≡ suc (length before)
    pub more : SeesMore outer count v

  pub record Repeats (k i : ℕ) (v : Values) (outer : List Left) : Type 0 where
    pub count : Count
    pub at : slice_get d.nodes k ≡ Some (Times count i)
    pub seen : v ≡ seen_in outer

  pub record RepeatsFreely (k i : ℕ) (v : Values) (outer : List Left) : Type 0 where
    pub at : slice_get d.nodes k ≡ Some (Many i)
    pub seen : v ≡ seen_in outer

  -- node i is read inside the nodes of these frames, of which this is left
  pub data Round : List Frame → List Left → ℕ → Type 0 where
    round_none : {i : ℕ} → i ≡ 0 → Round [] [] i
    round_choice :
        {frames : List Frame} {outer : List Left} {k i : ℕ}
        → TakesAlternative k i → Round frames outer k
        → Round (frame.Choice k ∷ frames) (none_left ∷ outer) i
    round_named :
        {frames : List Frame} {outer : List Left} {k i : ℕ}
        → LabelsAlone k i → Round frames outer k
        → Round (frame.Named k ∷ frames) (none_left ∷ outer) i
    round_window :
        {frames : List Frame} {outer : List Left} {k i start bits end limit : ℕ}
        → end ≡ start + bits → Cuts k i limit outer → Round frames outer k
        → Round (frame.Window k start bits limit ∷ frames) (window_left end ∷ outer) i
    round_seq :
        {frames : List Frame} {outer : List Left} {k i next count from : ℕ} {after : List ℕ} {v : Values}
        (parts : List ℕ) → HasNext (Seq parts) parts k next count i after v outer → Round frames outer k
        → Round (frame.Seq k next count ∷ frames) (parts_left i from after v ∷ outer) i
    round_trunc :
        {frames : List Frame} {outer : List Left} {k i next count from : ℕ} {after : List ℕ} {v : Values}
        (parts : List ℕ) → HasNext (Trunc parts) parts k next count i after v outer → Round frames outer k
        → Round (frame.Trunc k next count ∷ frames) (lead_left i from after v ∷ outer) i
    round_times :
        {frames : List Frame} {outer : List Left} {k i n : ℕ} {v : Values}
        → Repeats k i v outer → Round frames outer k
        → Round (frame.Times k i n ∷ frames) (turns_left n i v ∷ outer) i
    round_many :
        {frames : List Frame} {outer : List Left} {k i : ℕ} {v : Values}
        → RepeatsFreely k i v outer → Round frames outer k
        → Round (frame.Many k i ∷ frames) (free_left i v ∷ outer) i

  -- what is left of a leaf
  pub data LeafShows : ℕ → Leaf → Left → Type 0 where
    shows_lits :
        {i at : ℕ} {left : List Symbol}
        (run : List Symbol) → slice_get d.nodes i ≡ Some (Lits run) → at < length run → left ≡ drop at run
        → LeafShows i (leaf.Lits at) (symbols_left left)
    shows_spare : {i : ℕ} {s : Symbol} → slice_get d.nodes i ≡ Some (Spare s) → LeafShows i leaf.Spare (spare_left s)
    shows_pad : {i : ℕ} {begun : Bool} → slice_get d.nodes i ≡ Some Pad → LeafShows i (leaf.Pad begun) (pad_left begun)
    shows_field :
        {i n : ℕ}
        (unit : ℕ) (count : Count) → slice_get d.nodes i ≡ Some (Field unit count)
        → LeafShows i (leaf.Field n) (bits_left n)
    shows_rest : {i : ℕ} → slice_get d.nodes i ≡ Some Rest → LeafShows i leaf.Rest rest_left

  -- part i of the innermost of these nodes, a sequence or truncation, began at a place
  pub data BeganAt (i from : ℕ) : List Left → Type 0 where
    began_part : {outer : List Left} {after : List ℕ} {v : Values} → BeganAt i from (parts_left i from after v ∷ outer)
    began_lead : {outer : List Left} {after : List ℕ} {v : Values} → BeganAt i from (lead_left i from after v ∷ outer)

  -- the frames, the innermost first, with the values that they see, show what is left of the open nodes behind the
  -- bits `done`
  pub data Shows : List Frame → List Number → List Left → List ℕ → Type 0 where
    shows_none : {values : List Number} {done : List ℕ} → values ≡ [] → Shows [] values [] done
    shows_begin :
        {frames : List Frame} {outer : List Left} {i : ℕ} {v : Values} {values : List Number} {done : List ℕ}
        → v ≡ seen_in outer → values ≡ numbers_of d v → Round frames outer i
        → Shows (frame.Begin i ∷ frames) values (all_left i v ∷ outer) done
    shows_leaf :
        {frames : List Frame} {outer : List Left} {i : ℕ} {form : Leaf} {left : Left} {values : List Number} {done : List ℕ}
        → LeafShows i form left → values ≡ numbers_of d (seen_in outer) → Round frames outer i
        → Shows (frame.Leaf i form ∷ frames) values (left ∷ outer) done
    shows_counted :
        {frames : List Frame} {outer : List Left} {counted : CountedFrame} {n : ℕ} {values : List Number} {done : List ℕ}
        (label : List ℕ) (unit width from : ℕ) → slice_get d.nodes counted.node ≡ Some (Named label counted.part)
        → slice_get d.nodes counted.part ≡ Some (Field unit (Fixed width)) → is_counted d.nodes counted.node ≡ true
        → BeganAt counted.node from outer → counted.number ≡ number_of (drop from done)
        → from ≤ length done → length done + counted.left ≡ from + unit * width → 0 < counted.left → n ≡ counted.left
        → values ≡ numbers_of d (seen_in outer) → Round frames outer counted.node
        → Shows (frame.Counted counted ∷ frames) values (bits_left n ∷ none_left ∷ outer) done
    shows_open :
        {frames : List Frame} {outer : List Left} {i : ℕ} {parts : List ℕ} {v : Values} {values : List Number} {done : List ℕ}
        → slice_get d.nodes i ≡ Some (Choice parts) → v ≡ seen_in outer → values ≡ numbers_of d v → Round frames outer i
        → Shows (frame.Open i ∷ frames) values (choice_left parts v ∷ outer) done
    shows_cut :
        {frames : List Frame} {outer : List Left} {i count : ℕ} {parts : List ℕ} {v : Values} {values : List Number} {done : List ℕ}
        → slice_get d.nodes i ≡ Some (Trunc parts) → v ≡ seen_in outer → values ≡ numbers_of d v → count ≡ length values
        → Round frames outer i
        → Shows (frame.Trunc i 0 count ∷ frames) values (cut_left parts v ∷ outer) done
    shows_lead :
        {frames : List Frame} {outer : List Left} {k next count i from : ℕ} {after : List ℕ} {v : Values} {values : List Number} {done : List ℕ}
        (parts : List ℕ) → HasNext (Trunc parts) parts k next count i after v outer
        → values ≡ numbers_of d (behind d i from v done) → Round frames outer k
        → Shows (frame.Trunc k next count ∷ frames) values (lead_left i from after v ∷ outer) done
    shows_parts :
        {frames : List Frame} {outer : List Left} {k next count i from : ℕ} {after : List ℕ} {v : Values} {values : List Number} {done : List ℕ}
        (parts : List ℕ) → HasNext (Seq parts) parts k next count i after v outer
        → values ≡ numbers_of d (behind d i from v done) → Round frames outer k
        → Shows (frame.Seq k next count ∷ frames) values (parts_left i from after v ∷ outer) done
    shows_turns :
        {frames : List Frame} {outer : List Left} {k i n : ℕ} {v : Values} {values : List Number} {done : List ℕ}
        → Repeats k i v outer → values ≡ numbers_of d v → Round frames outer k
        → Shows (frame.Times k i n ∷ frames) values (turns_left n i v ∷ outer) done
    shows_free :
        {frames : List Frame} {outer : List Left} {k i : ℕ} {v : Values} {values : List Number} {done : List ℕ}
        → RepeatsFreely k i v outer → values ≡ numbers_of d v → Round frames outer k
        → Shows (frame.Many k i ∷ frames) values (free_left i v ∷ outer) done
    shows_taken :
        {frames : List Frame} {outer : List Left} {k : ℕ} {values : List Number} {done : List ℕ}
        (i : ℕ) → TakesAlternative k i → values ≡ numbers_of d (seen_in outer) → Round frames outer k
        → Shows (frame.Choice k ∷ frames) values (none_left ∷ outer) done
    shows_labelled :
        {frames : List Frame} {outer : List Left} {k : ℕ} {values : List Number} {done : List ℕ}
        (i : ℕ) → LabelsAlone k i → values ≡ numbers_of d (seen_in outer) → Round frames outer k
        → Shows (frame.Named k ∷ frames) values (none_left ∷ outer) done
    shows_window :
        {frames : List Frame} {outer : List Left} {k start bits end limit : ℕ} {values : List Number} {done : List ℕ}
        (i : ℕ) → end ≡ start + bits → Cuts k i limit outer → values ≡ numbers_of d (seen_in outer) → Round frames outer k
        → Shows (frame.Window k start bits limit ∷ frames) values (window_left end ∷ outer) done
