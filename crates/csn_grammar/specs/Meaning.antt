-- Which bits have which tree, by an expression: the least relation with the cases below, one or two for
-- each form. Each item stands where the item before it ends, every split is tried, and names are looked up
-- in the rules. (3GPP TS 24.007 Annex B has the sets of bit strings, TS 44.060 clause 11 their use; the
-- trees are this project's own choice.)
use Rattle.std.specs.Prelude.{◌≡◌, ℕ, suc, ◌+◌, ◌*◌, ◌<◌, ◌≤◌, IsTrue, IsFalse, List, [], ◌∷◌, ◌++◌, length, slice_get, codes, Some, None}
use Rattle.csn_bits.specs.Octets.{IsBits}
use Rattle.csn_desc.specs.declared.reading.Reading.{Reading}
use Rattle.csn_desc.specs.declared.reading.Reading.TheVariants.{Received, Sent}
use Rattle.csn_desc.specs.declared.symbol.Symbol.{Symbol}
use Rattle.csn_desc.specs.declared.symbol.Symbol.TheVariants.{Zero, Low}
use Rattle.csn_desc.specs.TreeV.{TreeV, empty, bits, row, alt, named, Trees, none, more}
use Rattle.csn_desc.specs.Spelled.{spelled, IsSpare}
use Rattle.csn_grammar.specs.declared.exponent.Exponent.{Exponent}
use Rattle.csn_grammar.specs.declared.exponent.Exponent.TheVariants.{Any}
use Rattle.csn_grammar.specs.declared.rules.Rule.{Rule}
use Rattle.csn_grammar.specs.ExprV.{ExprV, expr, lits, null, bit, octet, name, labelled, group, seq, choice, power}
use Rattle.csn_grammar.specs.ExprV.{cut, both, sends, ExprsV, no_item, item, BranchesV}
use Rattle.csn_grammar.specs.RulesV.{RulesV}
use Rattle.csn_grammar.specs.Names.{rule_of}
use Rattle.csn_grammar.specs.Forms.{unit_of, is_bit, WindowV, window_of}
use Rattle.csn_grammar.specs.Environment.{Frame, Env, count_of, with_item}
use Rattle.csn_grammar.specs.TailForm.{TailV, tail_of}
use Rattle.csn_grammar.specs.Void.{Kept}

-- the tree of a rule in tail form: the trees of its items, the row of its repetitions, and its stop
abbrev pub with_turns : Trees → Trees → Trees
with_turns none turns = more (row turns) (more empty none)
with_turns (more t ts) turns = more t (with_turns ts turns)

module _ (rules : RulesV) (r : Reading) where
  mutual
    -- the expression x, which sees the fields env, means the bits b from the place o on, with the tree t
    pub data Means : ExprV → ℕ → Env → List ℕ → TreeV → Type 0 where
      -- a literal word: its bits, and nothing to tell
      means_lits : {s e o : ℕ} {run : List Symbol} {env : Env} {b : List ℕ} → b ≡ spelled run o
          → Means (expr s e (lits run)) o env b empty
      means_null : {s e o : ℕ} {env : Env} {b : List ℕ} → b ≡ [] → Means (expr s e null) o env b empty
      -- a field: as many units as counted, of any bits
      means_bit : {s e o : ℕ} {env : Env} {b : List ℕ} → length b ≡ 1 → IsBits b
          → Means (expr s e bit) o env b (bits b)
      means_octet : {s e o : ℕ} {env : Env} {b : List ℕ} → length b ≡ 8 → IsBits b
          → Means (expr s e octet) o env b (bits b)
      means_field : {s e o : ℕ} {x : ExprV} {k : Exponent} {env : Env} {b : List ℕ} (unit n : ℕ)
          → unit_of x ≡ Some unit → count_of env k ≡ Some n → length b ≡ unit * n → IsBits b
          → Means (expr s e (power x k)) o env b (bits b)
      -- `bit **`: any number of any bits
      means_rest : {s e o : ℕ} {x : ExprV} {env : Env} {b : List ℕ} → IsTrue (is_bit x) → IsBits b
          → Means (expr s e (power x Any)) o env b (bits b)
      -- spare parts: one bit, which is sent as 0 or as `L`, and padding of one bit or more, all sent as `L`
      means_spare_bit : {s e o : ℕ} {n : List ℕ} {env : Env} {b : List ℕ} → n ≡ codes "spare bit"
          → length b ≡ 1 → IsSpare r Zero o b → Means (expr s e (name n)) o env b (bits b)
      means_spare_low : {s e o : ℕ} {n : List ℕ} {env : Env} {b : List ℕ} → n ≡ codes "spare L"
          → length b ≡ 1 → IsSpare r Low o b → Means (expr s e (name n)) o env b (bits b)
      means_padding : {s e o : ℕ} {n : List ℕ} {env : Env} {b : List ℕ} → n ≡ codes "spare padding"
          → 0 < length b → IsSpare r Low o b → Means (expr s e (name n)) o env b (bits b)
      -- a sequence has a frame of its own
      means_seq : {s e o : ℕ} {xs : ExprsV} {env : Env} {b : List ℕ} {ts : Trees}
          → ItemsMean xs o [] env b ts → Means (expr s e (seq xs)) o env b (row ts)
      -- the alternative with the number j among those that are kept; where one is, the choice is that one
      means_choice : {s e o j : ℕ} {bs : BranchesV} {x : ExprV} {env : Env} {b : List ℕ}
          {t : TreeV} (xs : List ExprV)
          → Kept rules r bs xs → 2 ≤ length xs → slice_get xs j ≡ Some x → Means x o env b t
          → Means (expr s e (choice bs)) o env b (alt j t)
      means_only : {s e o : ℕ} {bs : BranchesV} {x : ExprV} {env : Env} {b : List ℕ} {t : TreeV}
          → Kept rules r bs (x ∷ []) → Means x o env b t → Means (expr s e (choice bs)) o env b t
      -- any other part with an exponent
      means_times : {s e o : ℕ} {x : ExprV} {k : Exponent} {env : Env} {b : List ℕ} {ts : Trees} (n : ℕ)
          → unit_of x ≡ None → count_of env k ≡ Some n → TimesMean n x o env b ts
          → Means (expr s e (power x k)) o env b (row ts)
      means_many : {s e o : ℕ} {x : ExprV} {env : Env} {b : List ℕ} {ts : Trees} → IsFalse (is_bit x)
          → ManyMean x o env b ts → Means (expr s e (power x Any)) o env b (row ts)
      -- a truncation: none of its components, or some; it has a frame of its own
      means_cut_all : {s e o : ℕ} {xs : ExprsV} {env : Env} {b : List ℕ} → b ≡ []
          → Means (expr s e (cut xs)) o env b (row none)
      means_cut : {s e o : ℕ} {xs : ExprsV} {env : Env} {b : List ℕ} {ts : Trees}
          → LeadMean xs o [] env b ts → Means (expr s e (cut xs)) o env b (row ts)
      -- a window: its part has as many bits as counted
      means_window : {s e o : ℕ} {x y : ExprV} {env : Env} {b : List ℕ} {t : TreeV} (w : WindowV) (n : ℕ)
          → window_of x y ≡ Some w → count_of env w.width.count ≡ Some n → length b ≡ w.width.unit * n
          → Means w.part o env b t → Means (expr s e (both x y)) o env b t
      means_labelled : {s e o : ℕ} {label : List ℕ} {x : ExprV} {env : Env} {b : List ℕ} {t : TreeV}
          → Means x o env b t → Means (expr s e (labelled label x)) o env b (named label t)
      -- names and braces: what the rule or the part inside means, which sees the same fields
      means_name : {s e o : ℕ} {n : List ℕ} {env : Env} {b : List ℕ} {t : TreeV} (rule : Rule)
          → rule_of rules n ≡ Some rule → RuleMeans rule o env b t → Means (expr s e (name n)) o env b t
      means_group : {s e o : ℕ} {x : ExprV} {env : Env} {b : List ℕ} {t : TreeV} → Means x o env b t
          → Means (expr s e (group x)) o env b t
      -- `x = y`: a receiver takes x, a sender y
      means_received : {s e o : ℕ} {x y : ExprV} {env : Env} {b : List ℕ} {t : TreeV} → r ≡ Received
          → Means x o env b t → Means (expr s e (sends x y)) o env b t
      means_sent : {s e o : ℕ} {x y : ExprV} {env : Env} {b : List ℕ} {t : TreeV} → r ≡ Sent
          → Means y o env b t → Means (expr s e (sends x y)) o env b t

    -- one after another, each item once; frame has the labelled items before these
    pub data ItemsMean : ExprsV → ℕ → Frame → Env → List ℕ → Trees → Type 0 where
      items_end : {o : ℕ} {frame : Frame} {env : Env} {b : List ℕ} → b ≡ []
          → ItemsMean no_item o frame env b none
      items_next : {x : ExprV} {xs : ExprsV} {o : ℕ} {frame : Frame} {env : Env} {b : List ℕ} {t : TreeV}
          {ts : Trees} (b1 b2 : List ℕ)
          → b ≡ b1 ++ b2 → Means x o (frame ∷ env) b1 t
          → ItemsMean xs (o + length b1) (with_item r x b1 frame) env b2 ts
          → ItemsMean (item x xs) o frame env b (more t ts)

    -- n times the part x
    pub data TimesMean : ℕ → ExprV → ℕ → Env → List ℕ → Trees → Type 0 where
      times_end : {n o : ℕ} {x : ExprV} {env : Env} {b : List ℕ} → n ≡ 0 → b ≡ []
          → TimesMean n x o env b none
      times_next : {n o : ℕ} {x : ExprV} {env : Env} {b : List ℕ} {t : TreeV} {ts : Trees} (m : ℕ)
          → n ≡ suc m → (b1 b2 : List ℕ) → b ≡ b1 ++ b2 → Means x o env b1 t
          → TimesMean m x (o + length b1) env b2 ts → TimesMean n x o env b (more t ts)

    -- any number of times the part x, each time with a bit at least
    pub data ManyMean : ExprV → ℕ → Env → List ℕ → Trees → Type 0 where
      many_end : {x : ExprV} {o : ℕ} {env : Env} {b : List ℕ} → b ≡ [] → ManyMean x o env b none
      many_next : {x : ExprV} {o : ℕ} {env : Env} {b : List ℕ} {t : TreeV} {ts : Trees} (b1 b2 : List ℕ)
          → b ≡ b1 ++ b2 → 0 < length b1 → Means x o env b1 t → ManyMean x (o + length b1) env b2 ts
          → ManyMean x o env b (more t ts)

    -- the first few components, one at least, of which the last one has a bit at least
    pub data LeadMean : ExprsV → ℕ → Frame → Env → List ℕ → Trees → Type 0 where
      lead_last : {x : ExprV} {xs : ExprsV} {o : ℕ} {frame : Frame} {env : Env} {b : List ℕ} {t : TreeV}
          → 0 < length b → Means x o (frame ∷ env) b t → LeadMean (item x xs) o frame env b (more t none)
      lead_next : {x : ExprV} {xs : ExprsV} {o : ℕ} {frame : Frame} {env : Env} {b : List ℕ} {t : TreeV}
          {ts : Trees} (b1 b2 : List ℕ)
          → b ≡ b1 ++ b2 → Means x o (frame ∷ env) b1 t
          → LeadMean xs (o + length b1) (with_item r x b1 frame) env b2 ts
          → LeadMean (item x xs) o frame env b (more t ts)

    -- what a rule means where its name stands: what its expression means, or its tail form
    pub data RuleMeans : Rule → ℕ → Env → List ℕ → TreeV → Type 0 where
      rule_plain : {rule : Rule} {o : ℕ} {env : Env} {b : List ℕ} {t : TreeV} → tail_of rule ≡ None
          → Means rule.body o env b t → RuleMeans rule o env b t
      rule_tail : {rule : Rule} {o : ℕ} {env : Env} {b : List ℕ} {ts turns : Trees} (tail : TailV)
          → tail_of rule ≡ Some tail → TailMeans tail o env b ts turns
          → RuleMeans rule o env b (row (with_turns ts turns))

    -- a rule in tail form: its items, with the trees ts, and then the word that stops it, or the word before
    -- its name and the rule once more, which sees the fields round the rule. A turn has the row of that word
    -- and the items
    pub data TailMeans : TailV → ℕ → Env → List ℕ → Trees → Trees → Type 0 where
      tail_stop : {tail : TailV} {o : ℕ} {env : Env} {b : List ℕ} {ts : Trees} (b1 b2 : List ℕ)
          → b ≡ b1 ++ b2 → ItemsMean tail.items o [] env b1 ts
          → b2 ≡ spelled tail.end.stop.run (o + length b1) → TailMeans tail o env b ts none
      tail_again : {tail : TailV} {o : ℕ} {env : Env} {b : List ℕ}
          {ts next turns : Trees} (b1 b2 b3 : List ℕ)
          → b ≡ b1 ++ (b2 ++ b3) → ItemsMean tail.items o [] env b1 ts
          → b2 ≡ spelled tail.end.again.run (o + length b1)
          → TailMeans tail (o + length b1 + length b2) env b3 next turns
          → TailMeans tail o env b ts (more (row (more empty next)) turns)
