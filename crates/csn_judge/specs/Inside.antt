-- Where the nodes stand that are read: inside which open nodes, from which place on, and what they see. (This
-- project's own choice.)
use Rattle.std.specs.Prelude.{◌≡◌, ℕ, suc, ◌+◌, ◌*◌, ◌%◌, ◌<◌, ◌≤◌, ◌⊎◌, ⊤, true, false, List, [], ◌∷◌, ◌++◌, length, drop, slice_get, Option, Some, None}
use Rattle.csn_bits.specs.Octets.{IsBits}
use Rattle.csn_desc.specs.declared.symbol.Symbol.{Symbol}
use Rattle.csn_desc.specs.declared.node.Count.{Count}
use Rattle.csn_desc.specs.declared.node.Node.TheVariants.{Lits, Spare, Pad, Field, Rest, Seq, Choice, Times, Many, Trunc, Window, Named}
use Rattle.csn_desc.specs.Nodes.{DescV}
use Rattle.csn_desc.specs.Values.{Values, count_of}
use Rattle.csn_desc.specs.Formed.{value_width, width_of, with_seen, Spans, Formed, PartsFormed, FitWidths}
use Rattle.csn_certify.specs.CountedValues.{fields_of}
use Rattle.csn_look.specs.Nullable.{Nullable, AllNullable}
use Rattle.csn_look.specs.Ends.{InEnds, PartsEnd, ManyEnd}
use Rattle.csn_look.specs.Reached.{Reached, Turn}
use Rattle.csn_judge.specs.Remains.{Within}
use Rattle.csn_judge.specs.Left.{Left, all_left, bits_left, symbols_left, spare_left, pad_left, rest_left}
use Rattle.csn_judge.specs.Left.{choice_left, none_left, window_left, parts_left, turns_left, free_left, cut_left}
use Rattle.csn_judge.specs.Left.{lead_left}

module _ (d : DescV) where
  -- node i, inside so many others, may begin at the place `from` with these values
  pub record IsReady (i from round : ℕ) (v : Values) : Type 0 where
    pub reached : Reached d i (from % 8)
    pub widths : FitWidths d v
    pub formed : Formed d.nodes (fields_of v) round i

  -- a turn that begins at the place `from` goes back, or it is as it was round the repetition
  pub data IsFresh (was : Option ℕ) (from : ℕ) (fresh : Option ℕ) : Type 0 where
    fresh_as : fresh ≡ was → IsFresh was from fresh
    fresh_turn : fresh ≡ Some from → IsFresh was from fresh

  -- node i, which begins at the place `from` and sees these values, is read inside these open nodes; `fresh` is the
  -- place where a turn of some repetition round it began by going back, if it began one and no bit was taken since
  pub data Inside : (fresh : Option ℕ) → List Left → (i from : ℕ) → Values → Type 0 where
    inside_none :
        {fresh : Option ℕ} {i from : ℕ} {v : Values}
        → fresh ≡ None → i ≡ 0 → from ≡ 0 → v ≡ []
        → Inside fresh [] i from v
    inside_choice :
        {fresh : Option ℕ} {outer : List Left} {i from : ℕ} {v : Values}
        (k j : ℕ) (parts : List ℕ) → slice_get d.nodes k ≡ Some (Choice parts) → slice_get parts j ≡ Some i
        → IsReady k from (length outer) v → Inside fresh outer k from v
        → Inside fresh (none_left ∷ outer) i from v
    inside_label :
        {fresh : Option ℕ} {outer : List Left} {i from : ℕ} {v : Values} {label : List ℕ}
        (k : ℕ) → slice_get d.nodes k ≡ Some (Named label i)
        → IsReady k from (length outer) v → Inside fresh outer k from v
        → Inside fresh (none_left ∷ outer) i from v
    inside_window :
        {fresh : Option ℕ} {outer : List Left} {i from end unit : ℕ} {count : Count} {v : Values}
        (k n : ℕ) → slice_get d.nodes k ≡ Some (Window unit count i) → count_of v count ≡ Some n
        → end ≡ from + unit * n
        → IsReady k from (length outer) v → Inside fresh outer k from v
        → Inside fresh (window_left end ∷ outer) i from v
    inside_parts :
        {fresh : Option ℕ} {outer : List Left} {i from : ℕ} {after : List ℕ} {v : Values}
        (k start : ℕ) (v0 : Values) (parts before : List ℕ) → slice_get d.nodes k ≡ Some (Seq parts)
        → parts ≡ before ++ i ∷ after → PartsEnd d before (start % 8) (from % 8) → start ≤ from
        → (start ≡ from → AllNullable d before)
        → FitWidths d v → PartsFormed d.nodes true (with_seen d.nodes true i (fields_of v)) (suc (length outer)) after
        → IsReady k start (length outer) v0 → Inside fresh outer k start v0
        → Inside fresh (parts_left i from after v ∷ outer) i from v
    inside_turns :
        {fresh : Option ℕ} {outer : List Left} {i n from : ℕ} {count : Count} {v : Values}
        (k start : ℕ) → slice_get d.nodes k ≡ Some (Times count i) → Turn d count i (suc n) (start % 8) (from % 8)
        → start ≤ from → (start ≡ from → count_of v count ≡ Some (suc n))
        → IsReady k start (length outer) v → (was : Option ℕ) → IsFresh was from fresh
        → Inside was outer k start v
        → Inside fresh (turns_left n i v ∷ outer) i from v
    inside_free :
        {fresh : Option ℕ} {outer : List Left} {i from : ℕ} {v : Values}
        (k start : ℕ) → slice_get d.nodes k ≡ Some (Many i) → ManyEnd d i (start % 8) (from % 8)
        → start ≤ from
        → IsReady k start (length outer) v → (was : Option ℕ) → IsFresh was from fresh
        → Inside was outer k start v
        → Inside fresh (free_left i v ∷ outer) i from v
    inside_lead :
        {fresh : Option ℕ} {outer : List Left} {i from : ℕ} {after : List ℕ} {v : Values}
        (k start : ℕ) (v0 : Values) (parts before : List ℕ) → slice_get d.nodes k ≡ Some (Trunc parts)
        → parts ≡ before ++ i ∷ after → PartsEnd d before (start % 8) (from % 8) → start ≤ from
        → FitWidths d v → PartsFormed d.nodes true (with_seen d.nodes true i (fields_of v)) (suc (length outer)) after
        → IsReady k start (length outer) v0 → Inside fresh outer k start v0
        → Inside fresh (lead_left i from after v ∷ outer) i from v

  -- the bits of a node, where it is a field of constant width or a label before one, are as many as that
  pub record HasWidth (i : ℕ) (b : List ℕ) : Type 0 where
    pub field : (width : ℕ) → width_of (slice_get d.nodes i) ≡ Some width → (length b ≡ width) × IsBits b
    pub label : (width : ℕ) → value_width d.nodes i ≡ Some width → (length b ≡ width) × IsBits b

  -- node i, which began at the place `from`, is read to its end, where the block so far ends
  pub record IsRead (i from : ℕ) (done : List ℕ) : Type 0 where
    pub order : from ≤ length done
    pub ends : InEnds d i (from % 8) (length done % 8)
    pub empty : from ≡ length done → Nullable d i
    pub width : HasWidth i (drop from done)

  -- the node that begins next has this number or a greater one, where the last that began is inside node i
  abbrev pub UpTo : (next i : ℕ) → Type 0
  UpTo next i = (end : ℕ) → Spans d.nodes i end → next ≤ end

  -- this is left of node i, which began at the place `from` and sees these values, where the block so far ends and
  -- no part of the node is being read; the node that began last is the one before `next`
  pub data IsLeftOf (next : ℕ) : Left → (i from round : ℕ) → Values → List ℕ → Type 0 where
    of_all :
        {i from round : ℕ} {v w : Values} {done : List ℕ}
        → w ≡ v → from ≡ length done → next ≡ suc i
        → IsLeftOf next (all_left i w) i from round v done
    of_field :
        {i from round n unit : ℕ} {count : Count} {v : Values} {done : List ℕ}
        (all : ℕ) → slice_get d.nodes i ≡ Some (Field unit count) → count_of v count ≡ Some all
        → from + (unit * all) ≡ length done + n → from ≤ length done → UpTo next i
        → IsLeftOf next (bits_left n) i from round v done
    of_literal :
        {i from round : ℕ} {run : List Symbol} {v : Values} {done : List ℕ}
        (before : List Symbol) → slice_get d.nodes i ≡ Some (Lits (before ++ run))
        → from + length before ≡ length done → UpTo next i
        → IsLeftOf next (symbols_left run) i from round v done
    of_spare :
        {i from round : ℕ} {s : Symbol} {v : Values} {done : List ℕ}
        → slice_get d.nodes i ≡ Some (Spare s) → from ≡ length done → UpTo next i
        → IsLeftOf next (spare_left s) i from round v done
    of_pad :
        {i from round : ℕ} {v : Values} {done : List ℕ}
        → slice_get d.nodes i ≡ Some Pad → from ≡ length done → UpTo next i
        → IsLeftOf next (pad_left false) i from round v done
    of_pad_begun :
        {i from round : ℕ} {v : Values} {done : List ℕ}
        → slice_get d.nodes i ≡ Some Pad → from < length done → UpTo next i
        → IsLeftOf next (pad_left true) i from round v done
    of_rest :
        {i from round : ℕ} {v : Values} {done : List ℕ}
        → slice_get d.nodes i ≡ Some Rest → from ≤ length done → UpTo next i
        → IsLeftOf next rest_left i from round v done
    -- a node that is read to its end
    of_read :
        {i from round : ℕ} {v : Values} {done : List ℕ}
        → IsRead i from done → UpTo next i
        → IsLeftOf next none_left i from round v done
    of_choice :
        {i from round : ℕ} {parts : List ℕ} {v w : Values} {done : List ℕ}
        → slice_get d.nodes i ≡ Some (Choice parts) → w ≡ v → from ≡ length done → next ≡ suc i
        → IsLeftOf next (choice_left parts w) i from round v done
    of_window :
        {i from round end unit part : ℕ} {count : Count} {v : Values} {done : List ℕ}
        (n : ℕ) → slice_get d.nodes i ≡ Some (Window unit count part) → count_of v count ≡ Some n
        → end ≡ from + unit * n → IsRead part from done → UpTo next part
        → IsLeftOf next (window_left end) i from round v done
    of_parts :
        {i from round part at : ℕ} {after : List ℕ} {v w : Values} {done : List ℕ}
        (parts before : List ℕ) → slice_get d.nodes i ≡ Some (Seq parts) → parts ≡ before ++ part ∷ after
        → PartsEnd d before (from % 8) (at % 8) → from ≤ at → (from ≡ at → AllNullable d before) → FitWidths d w
        → PartsFormed d.nodes true (with_seen d.nodes true part (fields_of w)) (suc round) after
        → IsRead part at done → UpTo next part
        → IsLeftOf next (parts_left part at after w) i from round v done
    of_turns :
        {i from round n part : ℕ} {count : Count} {v w : Values} {done : List ℕ}
        → slice_get d.nodes i ≡ Some (Times count part) → w ≡ v → Turn d count part n (from % 8) (length done % 8)
        → from ≤ length done → (from ≡ length done → count_of w count ≡ Some n)
        → UpTo next part → (next ≤ part) ⊎ (from < length done)
        → IsLeftOf next (turns_left n part w) i from round v done
    of_free :
        {i from round part : ℕ} {v w : Values} {done : List ℕ}
        → slice_get d.nodes i ≡ Some (Many part) → w ≡ v
        → ManyEnd d part (from % 8) (length done % 8) → from ≤ length done
        → UpTo next part → (next ≤ part) ⊎ (from < length done)
        → IsLeftOf next (free_left part w) i from round v done
    of_cut :
        {i from round : ℕ} {parts : List ℕ} {v w : Values} {done : List ℕ}
        → slice_get d.nodes i ≡ Some (Trunc parts) → w ≡ v → from ≡ length done → next ≡ suc i
        → IsLeftOf next (cut_left parts w) i from round v done
    of_lead :
        {i from round part at : ℕ} {after : List ℕ} {v w : Values} {done : List ℕ}
        (parts before : List ℕ) → slice_get d.nodes i ≡ Some (Trunc parts) → parts ≡ before ++ part ∷ after
        → PartsEnd d before (from % 8) (at % 8) → from ≤ at → FitWidths d w
        → PartsFormed d.nodes true (with_seen d.nodes true part (fields_of w)) (suc round) after
        → IsRead part at done → UpTo next part
        → IsLeftOf next (lead_left part at after w) i from round v done

-- the open nodes, the innermost first, where no part of the innermost one is being read, or none is open: each stands
-- in the next one, and the bits so far are zeros and ones
pub data IsStack (d : DescV) (next : ℕ) (fresh : Option ℕ) : List Left → List ℕ → Type 0 where
  stack_end : {done : List ℕ} → IsBits done → IsStack d next fresh [] done
  stack_node :
      {left : Left} {outer : List Left} {done : List ℕ}
      (i from : ℕ) (v : Values) → IsBits done → IsReady d i from (length outer) v
      → IsLeftOf d next left i from (length outer) v done → Inside d fresh outer i from v
      → IsStack d next fresh (left ∷ outer) done

-- where the last component of a truncation took no bit, one is at hand, inside all windows round the truncation
abbrev pub AreOwed : List Left → List ℕ → List ℕ → Type 0
AreOwed [] done ahead = ⊤
AreOwed (lead_left i from after v ∷ outer) done ahead =
    ((from < length done) ⊎ ((0 < length ahead) × Within outer (suc (length done)))) × AreOwed outer done ahead
AreOwed (_ ∷ outer) done ahead = AreOwed outer done ahead
