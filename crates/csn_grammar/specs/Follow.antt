-- Which bits can be followed by an expression: what a refused block is told. This is the project's own
-- choice; 3GPP TS 24.007 Annex B says nothing of refused bits.
use Rattle.std.specs.Prelude.{◌≡◌, ℕ, suc, ◌+◌, ◌*◌, ◌<◌, ◌≤◌, IsTrue, IsFalse, List, [], ◌∷◌, ◌++◌, length, slice_get, Some, None}
use Rattle.csn_desc.specs.declared.reading.Reading.{Reading}
use Rattle.csn_desc.specs.declared.reading.Reading.TheVariants.{Received, Sent}
use Rattle.csn_desc.specs.TreeV.{TreeV, Trees}
use Rattle.csn_desc.specs.Spelled.{spelled}
use Rattle.csn_grammar.specs.declared.exponent.Exponent.{Exponent}
use Rattle.csn_grammar.specs.declared.exponent.Exponent.TheVariants.{Any}
use Rattle.csn_grammar.specs.declared.rules.Rule.{Rule}
use Rattle.csn_grammar.specs.ExprV.{ExprV, expr, name, labelled, group, seq, choice, power, cut, both, sends, ExprsV, item, BranchesV}
use Rattle.csn_grammar.specs.RulesV.{RulesV}
use Rattle.csn_grammar.specs.Names.{rule_of}
use Rattle.csn_grammar.specs.Forms.{unit_of, is_bit, WindowV, window_of, is_leaf}
use Rattle.csn_grammar.specs.Environment.{Frame, Env, count_of, with_item}
use Rattle.csn_grammar.specs.TailForm.{TailV, tail_of}
use Rattle.csn_grammar.specs.Void.{SomeVoid, Kept}
use Rattle.csn_grammar.specs.Meaning.{Means, ItemsMean}

-- the bits are the first few of a word at a place
abbrev pub Begins : List ℕ → List ℕ → Type 0
Begins b word = (rest : List ℕ) × (word ≡ b ++ rest)

module _ (rules : RulesV) (r : Reading) where
  mutual
    -- the expression x, which sees the fields env, follows the bits b from the place o on
    pub data Follow : ExprV → ℕ → Env → List ℕ → Type 0 where
      -- bits that it means
      follows_whole : {x : ExprV} {o : ℕ} {env : Env} {b : List ℕ} (t : TreeV) → Means rules r x o env b t
          → Follow x o env b
      -- of a literal, a field and a spare part: the first few of bits that it means
      follows_leaf : {x : ExprV} {o : ℕ} {env : Env} {b : List ℕ} {t : TreeV} (whole rest : List ℕ)
          → IsTrue (is_leaf x) → whole ≡ b ++ rest → Means rules r x o env whole t → Follow x o env b
      -- a sequence of which no item is empty of strings
      follows_seq : {s e o : ℕ} {xs : ExprsV} {env : Env} {b : List ℕ} → ¬ SomeVoid rules r xs
          → ItemsFollow xs o [] env b → Follow (expr s e (seq xs)) o env b
      follows_choice : {s e o : ℕ} {bs : BranchesV} {x : ExprV} {env : Env}
          {b : List ℕ} (xs : List ExprV) (j : ℕ)
          → Kept rules r bs xs → slice_get xs j ≡ Some x → Follow x o env b
          → Follow (expr s e (choice bs)) o env b
      follows_times : {s e o : ℕ} {x : ExprV} {k : Exponent} {env : Env} {b : List ℕ} (n : ℕ)
          → unit_of x ≡ None → count_of env k ≡ Some n → TimesFollow n x o env b
          → Follow (expr s e (power x k)) o env b
      follows_many : {s e o : ℕ} {x : ExprV} {env : Env} {b : List ℕ} → IsFalse (is_bit x)
          → ManyFollow x o env b → Follow (expr s e (power x Any)) o env b
      follows_cut : {s e o : ℕ} {xs : ExprsV} {env : Env} {b : List ℕ} → ItemsFollow xs o [] env b
          → Follow (expr s e (cut xs)) o env b
      -- no more bits than the window has, which its part follows
      follows_window : {s e o : ℕ} {x y : ExprV} {env : Env} {b : List ℕ} (w : WindowV) (n : ℕ)
          → window_of x y ≡ Some w → count_of env w.width.count ≡ Some n → length b ≤ w.width.unit * n
          → Follow w.part o env b → Follow (expr s e (both x y)) o env b
      follows_labelled : {s e o : ℕ} {label : List ℕ} {x : ExprV} {env : Env} {b : List ℕ}
          → Follow x o env b → Follow (expr s e (labelled label x)) o env b
      follows_name : {s e o : ℕ} {n : List ℕ} {env : Env} {b : List ℕ} (rule : Rule)
          → rule_of rules n ≡ Some rule → RuleFollows rule o env b → Follow (expr s e (name n)) o env b
      follows_group : {s e o : ℕ} {x : ExprV} {env : Env} {b : List ℕ} → Follow x o env b
          → Follow (expr s e (group x)) o env b
      follows_received : {s e o : ℕ} {x y : ExprV} {env : Env} {b : List ℕ} → r ≡ Received
          → Follow x o env b → Follow (expr s e (sends x y)) o env b
      follows_sent : {s e o : ℕ} {x y : ExprV} {env : Env} {b : List ℕ} → r ≡ Sent → Follow y o env b
          → Follow (expr s e (sends x y)) o env b

    -- the first items mean the first bits, and the next item follows the others
    pub data ItemsFollow : ExprsV → ℕ → Frame → Env → List ℕ → Type 0 where
      items_here : {x : ExprV} {xs : ExprsV} {o : ℕ} {frame : Frame} {env : Env} {b : List ℕ}
          → Follow x o (frame ∷ env) b → ItemsFollow (item x xs) o frame env b
      items_later : {x : ExprV} {xs : ExprsV} {o : ℕ} {frame : Frame} {env : Env} {b : List ℕ}
          {t : TreeV} (b1 b2 : List ℕ)
          → b ≡ b1 ++ b2 → Means rules r x o (frame ∷ env) b1 t
          → ItemsFollow xs (o + length b1) (with_item r x b1 frame) env b2
          → ItemsFollow (item x xs) o frame env b

    -- the same with the part x, n times at most
    pub data TimesFollow : ℕ → ExprV → ℕ → Env → List ℕ → Type 0 where
      times_here : {n o : ℕ} {x : ExprV} {env : Env} {b : List ℕ} → 0 < n → Follow x o env b
          → TimesFollow n x o env b
      times_later : {n o : ℕ} {x : ExprV} {env : Env} {b : List ℕ} {t : TreeV} (m : ℕ) → n ≡ suc m
          → (b1 b2 : List ℕ) → b ≡ b1 ++ b2 → Means rules r x o env b1 t
          → TimesFollow m x (o + length b1) env b2 → TimesFollow n x o env b

    -- the same with the part x any number of times, each time but the last with a bit at least
    pub data ManyFollow : ExprV → ℕ → Env → List ℕ → Type 0 where
      many_here : {x : ExprV} {o : ℕ} {env : Env} {b : List ℕ} → Follow x o env b → ManyFollow x o env b
      many_later : {x : ExprV} {o : ℕ} {env : Env} {b : List ℕ} {t : TreeV} (b1 b2 : List ℕ) → b ≡ b1 ++ b2
          → 0 < length b1 → Means rules r x o env b1 t → ManyFollow x (o + length b1) env b2
          → ManyFollow x o env b

    pub data RuleFollows : Rule → ℕ → Env → List ℕ → Type 0 where
      follows_plain : {rule : Rule} {o : ℕ} {env : Env} {b : List ℕ} → tail_of rule ≡ None
          → Follow rule.body o env b → RuleFollows rule o env b
      follows_tail : {rule : Rule} {o : ℕ} {env : Env} {b : List ℕ} (tail : TailV)
          → tail_of rule ≡ Some tail → TailFollows tail o env b → RuleFollows rule o env b

    -- a rule in tail form: its items follow the bits; or they mean the first bits, and the others are the
    -- first few of the word that stops it or of the word before its name, or are this word and then bits
    -- that the rule follows once more
    pub data TailFollows : TailV → ℕ → Env → List ℕ → Type 0 where
      tail_items : {tail : TailV} {o : ℕ} {env : Env} {b : List ℕ} → ¬ SomeVoid rules r tail.items
          → ItemsFollow tail.items o [] env b → TailFollows tail o env b
      tail_stops : {tail : TailV} {o : ℕ} {env : Env} {b : List ℕ} {ts : Trees} (b1 b2 : List ℕ)
          → b ≡ b1 ++ b2 → ItemsMean rules r tail.items o [] env b1 ts
          → Begins b2 (spelled tail.end.stop.run (o + length b1)) → TailFollows tail o env b
      tail_goes_on : {tail : TailV} {o : ℕ} {env : Env} {b : List ℕ} {ts : Trees} (b1 b2 : List ℕ)
          → b ≡ b1 ++ b2 → ItemsMean rules r tail.items o [] env b1 ts
          → Begins b2 (spelled tail.end.again.run (o + length b1)) → TailFollows tail o env b
      tail_turns : {tail : TailV} {o : ℕ} {env : Env} {b : List ℕ} {ts : Trees} (b1 b2 b3 : List ℕ)
          → b ≡ b1 ++ (b2 ++ b3) → ItemsMean rules r tail.items o [] env b1 ts
          → b2 ≡ spelled tail.end.again.run (o + length b1)
          → TailFollows tail (o + length b1 + length b2) env b3 → TailFollows tail o env b
