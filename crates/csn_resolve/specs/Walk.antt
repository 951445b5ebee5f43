-- The walk through the rules that looks for refusals: each part gives its steps on entering, then those of
-- the parts inside it in the order of the text, then those on leaving. A name gives those of its rule in its
-- place; one that is undefined, or that is being put in already, is not entered, so that the walk ends. Both
-- sides of `=`, alternatives that are dropped and parts empty of strings are walked like the others. The
-- walk and its order are this project's own choice.
use Rattle.std.specs.Prelude.{◌≡◌, ℕ, suc, Bool, true, false, ◌==◌, IsTrue, IsFalse, List, [], ◌∷◌, ◌++◌, Some, None}
use Rattle.std.specs.List.{list_any}
use Rattle.csn_desc.specs.declared.reading.Reading.{Reading}
use Rattle.csn_desc.specs.declared.reading.Reading.TheVariants.{Sent}
use Rattle.csn_desc.specs.declared.symbol.Symbol.{Symbol}
use Rattle.csn_grammar.specs.declared.exponent.Exponent.{Exponent}
use Rattle.csn_grammar.specs.declared.exponent.Exponent.TheVariants.{Any}
use Rattle.csn_grammar.specs.declared.rules.Rule.{Rule}
use Rattle.csn_grammar.specs.ExprV.{ExprV, expr, lits, null, bit, octet, name, labelled, group, seq, choice, power}
use Rattle.csn_grammar.specs.ExprV.{cut, both, sends, ExprsV, no_item, item, BranchesV, no_branch, branch}
use Rattle.csn_grammar.specs.RulesV.{RulesV}
use Rattle.csn_grammar.specs.Names.{same_name, is_built_in, rule_of}
use Rattle.csn_grammar.specs.Forms.{unit_of, is_bit, WidthV, width_of}
use Rattle.csn_grammar.specs.Environment.{label_of}
use Rattle.csn_grammar.specs.TailForm.{EndV, TailV, tail_of}
use Rattle.csn_grammar.specs.Void.{Void, SomeVoid}
use Rattle.csn_resolve.specs.declared.why.Why.{Why}
use Rattle.csn_resolve.specs.declared.why.Why.TheVariants.{Undefined, Recursive, IntersectionForm, ErrorBranchForm, NoString, TooDeep}
use Rattle.csn_resolve.specs.Seen.{Frame, Seen, with_labelled, inner_of}
use Rattle.csn_resolve.specs.Gives.{start_of}
use Rattle.csn_resolve.specs.Counts.{CountSteps}
use Rattle.csn_resolve.specs.Steps.{Step, begins, refused, refused_if}

-- what stands round a part: how many nodes, names put in and braces; the names that are being put in, with
-- the asked one; and the labelled items that the part sees, each with what stands behind its label
pub record Around : Type 0 where
  pub depth : ℕ
  pub names : List (List ℕ)
  pub seen : Seen ExprV

-- inside one node, name or pair of braces more
abbrev pub inside : Around → Around
inside a = record a { depth = suc a.depth }

-- inside a rule whose name is put in
abbrev pub putting_in : List ℕ → Around → Around
putting_in n a = record a { depth = suc a.depth; names = n ∷ a.names }

-- among the items of a sequence or truncation, behind the labelled ones of this frame
abbrev pub behind : Frame ExprV → Around → Around
behind frame a = record a { seen = frame ∷ a.seen }

-- in the rule that is asked for
abbrev pub outermost : List ℕ → Around
outermost n = record { depth = 0; names = n ∷ []; seen = [] }

abbrev pub is_among : List ℕ → List (List ℕ) → Bool
is_among n names = list_any (λ m. same_name m n) names

-- a node, a name or a pair of braces is entered: not inside 64 others
abbrev pub entering : Around → ℕ → List Step
entering a place = refused_if (a.depth == 64) TooDeep place

-- a node is entered, and begun
abbrev pub node_at : Around → ℕ → List Step
node_at a place = entering a place ++ begins place ∷ []

-- inside what is repeated of a rule in tail form: a repetition, its braces, and a sequence in them
abbrev pub in_turn : Around → Around
in_turn a = inside (inside (inside a))

-- the repetition and its braces are entered, then the sequence and its word, which begin with the word
abbrev pub turn_begun : Around → EndV → List Step
turn_begun a end =
    node_at a end.braces
    ++ (entering (inside a) end.braces ++ (node_at (inside (inside a)) end.again.at ++ node_at (in_turn a) end.again.at))

-- one refusal, where P holds
pub data Refuses (P : Type 0) (why : Why) (place : ℕ) : List Step → Type 0 where
  is_refused : {steps : List Step} → P → steps ≡ refused why place ∷ [] → Refuses P why place steps
  is_accepted : {steps : List Step} → ¬ P → steps ≡ [] → Refuses P why place steps

module _ (rules : RulesV) (r : Reading) where
  -- on leaving a part that must not be empty of strings
  abbrev pub PartLeft : ExprV → List Step → Type 0
  PartLeft x steps = Refuses (Void rules r x) NoString (start_of x) steps

  -- on leaving an item or a component
  abbrev pub ItemLeft : Bool → ExprV → List Step → Type 0
  ItemLeft false x steps = steps ≡ []
  ItemLeft true x steps = PartLeft x steps

  -- on leaving an alternative: one behind `!` is empty of strings for a sender, whatever the reading is
  pub data BranchLeft : Bool → ExprV → List Step → Type 0 where
    left_plain : {x : ExprV} {steps : List Step} → steps ≡ [] → BranchLeft false x steps
    left_error : {x : ExprV} {steps : List Step} → Void rules Sent x → steps ≡ [] → BranchLeft true x steps
    left_sendable :
        {x : ExprV} {steps : List Step}
        → ¬ Void rules Sent x → steps ≡ refused ErrorBranchForm (start_of x) ∷ [] → BranchLeft true x steps

  -- on leaving the braces that are repeated in a rule in tail form
  abbrev pub TurnLeft : TailV → List Step → Type 0
  TurnLeft tail steps = Refuses (SomeVoid rules r tail.items) NoString tail.end.braces steps

  mutual
    -- the expression x gives these steps
    pub data Walk : Around → ExprV → List Step → Type 0 where
      -- one node, and nothing to walk inside it
      walk_lits :
          {a : Around} {s e : ℕ} {run : List Symbol} {steps : List Step}
          → steps ≡ node_at a s → Walk a (expr s e (lits run)) steps
      walk_null :
          {a : Around} {s e : ℕ} {steps : List Step}
          → steps ≡ node_at a s → Walk a (expr s e null) steps
      walk_bit : {a : Around} {s e : ℕ} {steps : List Step} → steps ≡ node_at a s → Walk a (expr s e bit) steps
      walk_octet :
          {a : Around} {s e : ℕ} {steps : List Step}
          → steps ≡ node_at a s → Walk a (expr s e octet) steps
      walk_field :
          {a : Around} {s e unit : ℕ} {x : ExprV} {k : Exponent} {steps counts : List Step}
          → unit_of x ≡ Some unit → CountSteps rules r a.seen s k counts → steps ≡ node_at a s ++ counts
          → Walk a (expr s e (power x k)) steps
      walk_rest :
          {a : Around} {s e : ℕ} {x : ExprV} {steps : List Step}
          → IsTrue (is_bit x) → steps ≡ node_at a s → Walk a (expr s e (power x Any)) steps
      walk_built_in :
          {a : Around} {s e : ℕ} {n : List ℕ} {steps : List Step}
          → IsTrue (is_built_in n) → steps ≡ node_at a s → Walk a (expr s e (name n)) steps
      -- a name that no rule has, one that is being put in, and one that is put in
      walk_undefined :
          {a : Around} {s e : ℕ} {n : List ℕ} {steps : List Step}
          → IsFalse (is_built_in n) → rule_of rules n ≡ None → steps ≡ entering a s ++ refused Undefined s ∷ []
          → Walk a (expr s e (name n)) steps
      walk_recursive :
          {a : Around} {s e : ℕ} {n : List ℕ} {steps : List Step} (rule : Rule)
          → rule_of rules n ≡ Some rule → IsTrue (is_among n a.names)
          → steps ≡ entering a s ++ refused Recursive s ∷ [] → Walk a (expr s e (name n)) steps
      walk_name :
          {a : Around} {s e : ℕ} {n : List ℕ} {steps inner : List Step} (rule : Rule)
          → rule_of rules n ≡ Some rule → IsFalse (is_among n a.names) → RuleWalk (putting_in n a) rule inner
          → steps ≡ entering a s ++ inner → Walk a (expr s e (name n)) steps
      walk_group :
          {a : Around} {s e : ℕ} {x : ExprV} {steps inner : List Step}
          → Walk (inside a) x inner → steps ≡ entering a s ++ inner → Walk a (expr s e (group x)) steps
      walk_labelled :
          {a : Around} {s e : ℕ} {label : List ℕ} {x : ExprV} {steps inner : List Step}
          → Walk (inside a) x inner → steps ≡ node_at a s ++ inner → Walk a (expr s e (labelled label x)) steps
      walk_seq :
          {a : Around} {s e : ℕ} {xs : ExprsV} {steps inner : List Step}
          → ItemsWalk false (inside a) [] xs inner → steps ≡ node_at a s ++ inner → Walk a (expr s e (seq xs)) steps
      walk_choice :
          {a : Around} {s e : ℕ} {bs : BranchesV} {steps inner : List Step}
          → BranchesWalk (inside a) bs inner → steps ≡ node_at a s ++ inner
          → Walk a (expr s e (choice bs)) steps
      -- any other part with an exponent
      walk_times :
          {a : Around} {s e : ℕ} {x : ExprV} {k : Exponent} {steps counts inner left : List Step}
          → unit_of x ≡ None → CountSteps rules r a.seen s k counts → Walk (inside a) x inner → PartLeft x left
          → steps ≡ node_at a s ++ (counts ++ (inner ++ left)) → Walk a (expr s e (power x k)) steps
      walk_many :
          {a : Around} {s e : ℕ} {x : ExprV} {steps inner left : List Step}
          → IsFalse (is_bit x) → Walk (inside a) x inner → PartLeft x left
          → steps ≡ node_at a s ++ (inner ++ left) → Walk a (expr s e (power x Any)) steps
      walk_cut :
          {a : Around} {s e : ℕ} {xs : ExprsV} {steps inner : List Step}
          → ItemsWalk true (inside a) [] xs inner → steps ≡ node_at a s ++ inner
          → Walk a (expr s e (cut xs)) steps
      -- a window whose width is the left side; one whose width is the right side; and none
      walk_window :
          {a : Around} {s e : ℕ} {x y : ExprV} {steps counts inner : List Step} (w : WidthV)
          → width_of x ≡ Some w → CountSteps rules r a.seen (start_of x) w.count counts
          → Walk (inside a) y inner → steps ≡ node_at a s ++ (counts ++ inner)
          → Walk a (expr s e (both x y)) steps
      walk_window_behind :
          {a : Around} {s e : ℕ} {x y : ExprV} {steps counts inner : List Step} (w : WidthV)
          → width_of x ≡ None → width_of y ≡ Some w → Walk (inside a) x inner
          → CountSteps rules r a.seen (start_of y) w.count counts → steps ≡ node_at a s ++ (inner ++ counts)
          → Walk a (expr s e (both x y)) steps
      walk_no_window :
          {a : Around} {s e : ℕ} {x y : ExprV} {steps left right : List Step}
          → width_of x ≡ None → width_of y ≡ None → Walk (inside a) x left → Walk (inside a) y right
          → steps ≡ node_at a s ++ refused IntersectionForm (start_of x) ∷ (left ++ right)
          → Walk a (expr s e (both x y)) steps
      walk_sends :
          {a : Around} {s e : ℕ} {x y : ExprV} {steps left right : List Step}
          → Walk a x left → Walk a y right → steps ≡ left ++ right → Walk a (expr s e (sends x y)) steps

    -- the items of a sequence or the components of a truncation, of which each sees the labelled ones before it;
    -- where they are full, none may be empty of strings
    pub data ItemsWalk : Bool → Around → Frame ExprV → ExprsV → List Step → Type 0 where
      items_end :
          {full : Bool} {a : Around} {frame : Frame ExprV} {steps : List Step}
          → steps ≡ [] → ItemsWalk full a frame no_item steps
      items_next :
          {full : Bool} {a : Around} {frame : Frame ExprV} {x : ExprV} {xs : ExprsV} {steps first rest : List Step}
          (left : List Step) → Walk (behind frame a) x first → ItemLeft full x left
          → ItemsWalk full a (with_labelled (label_of r x) (inner_of r x) frame) xs rest
          → steps ≡ first ++ (left ++ rest) → ItemsWalk full a frame (item x xs) steps

    pub data BranchesWalk : Around → BranchesV → List Step → Type 0 where
      branches_end : {a : Around} {steps : List Step} → steps ≡ [] → BranchesWalk a no_branch steps
      branches_next :
          {a : Around} {error : Bool} {x : ExprV} {bs : BranchesV} {steps first left rest : List Step}
          → Walk a x first → BranchLeft error x left → BranchesWalk a bs rest → steps ≡ first ++ (left ++ rest)
          → BranchesWalk a (branch error x bs) steps

    -- what a rule says. In tail form it is walked as its items, then braces round its word and its items that
    -- are repeated, then the word that stops it: a sequence, a repetition and a sequence inside it are begun
    pub data RuleWalk : Around → Rule → List Step → Type 0 where
      rule_plain :
          {a : Around} {rule : Rule} {steps : List Step}
          → tail_of rule ≡ None → Walk a rule.body steps → RuleWalk a rule steps
      rule_tail :
          {a : Around} {rule : Rule} {steps items turn left : List Step} (tail : TailV)
          → tail_of rule ≡ Some tail → ItemsWalk false (inside a) [] tail.items items
          → ItemsWalk false (in_turn (inside a)) [] tail.items turn → TurnLeft tail left
          → steps ≡ node_at a (start_of rule.body) ++ (items ++ (turn_begun (inside a) tail.end ++ (turn ++ (left ++ node_at (inside a) tail.end.stop.at))))
          → RuleWalk a rule steps
