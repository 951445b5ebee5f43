-- Which expressions are well formed: each name means a rule, and a rule names itself in tail form alone; an
-- exponent stands on labels that are seen; `&` has a window; and nothing is empty of strings but alternatives
-- that are dropped, and sides of `=` that are not taken. This is the project's own choice.
use Rattle.std.specs.Prelude.{◌≡◌, ℕ, ⊤, IsTrue, IsFalse, List, [], ◌∷◌, codes, Option, Some, None, IsSome}
use Rattle.std.specs.List.{Contains}
use Rattle.csn_desc.specs.declared.reading.Reading.{Reading}
use Rattle.csn_desc.specs.declared.reading.Reading.TheVariants.{Received, Sent}
use Rattle.csn_desc.specs.declared.symbol.Symbol.{Symbol}
use Rattle.csn_grammar.specs.declared.exponent.Exponent.{Exponent}
use Rattle.csn_grammar.specs.declared.exponent.Exponent.TheVariants.{Any, Number, Linear}
use Rattle.csn_grammar.specs.declared.rules.Rule.{Rule}
use Rattle.csn_grammar.specs.ExprV.{ExprV, expr, lits, null, bit, octet, name, labelled, group, seq, choice, power}
use Rattle.csn_grammar.specs.ExprV.{cut, both, sends, ExprsV, no_item, item, BranchesV}
use Rattle.csn_grammar.specs.RulesV.{RulesV}
use Rattle.csn_grammar.specs.Names.{rule_of}
use Rattle.csn_grammar.specs.Forms.{unit_of, is_bit, WindowV, window_of}
use Rattle.csn_grammar.specs.Environment.{Env, value_of, label_of}
use Rattle.csn_grammar.specs.TailForm.{TailV, tail_of}
use Rattle.csn_grammar.specs.Void.{Kept}

-- the exponent is a number, or stands on one of the labels that are seen
abbrev pub IsCount : List (List ℕ) → Exponent → Type 0
IsCount seen Any = ⊥
IsCount seen (Number n) = ⊤
IsCount seen (Linear m label c) = Contains seen label

-- the labels that are seen behind an item
abbrev pub with_seen : Option (List ℕ) → List (List ℕ) → List (List ℕ)
with_seen None seen = seen
with_seen (Some label) seen = label ∷ seen

module _ (rules : RulesV) (r : Reading) where
  mutual
    -- the expression x, where these labels are seen, is well formed
    pub data Formed : List (List ℕ) → ExprV → Type 0 where
      formed_lits :
          {s e : ℕ} {run : List Symbol} {seen : List (List ℕ)}
          → Formed seen (expr s e (lits run))
      formed_null : {s e : ℕ} {seen : List (List ℕ)} → Formed seen (expr s e null)
      formed_bit : {s e : ℕ} {seen : List (List ℕ)} → Formed seen (expr s e bit)
      formed_octet : {s e : ℕ} {seen : List (List ℕ)} → Formed seen (expr s e octet)
      formed_field : {s e : ℕ} {x : ExprV} {k : Exponent} {seen : List (List ℕ)} (unit : ℕ)
          → unit_of x ≡ Some unit → IsCount seen k → Formed seen (expr s e (power x k))
      formed_rest : {s e : ℕ} {x : ExprV} {seen : List (List ℕ)} → IsTrue (is_bit x)
          → Formed seen (expr s e (power x Any))
      formed_spare_bit :
          {s e : ℕ} {n : List ℕ} {seen : List (List ℕ)}
          → n ≡ codes "spare bit"
          → Formed seen (expr s e (name n))
      formed_spare_low :
          {s e : ℕ} {n : List ℕ} {seen : List (List ℕ)}
          → n ≡ codes "spare L"
          → Formed seen (expr s e (name n))
      formed_padding :
          {s e : ℕ} {n : List ℕ} {seen : List (List ℕ)}
          → n ≡ codes "spare padding"
          → Formed seen (expr s e (name n))
      formed_seq : {s e : ℕ} {xs : ExprsV} {seen : List (List ℕ)} → ItemsFormed seen xs
          → Formed seen (expr s e (seq xs))
      -- at least one alternative is kept
      formed_choice : {s e : ℕ} {bs : BranchesV} {x : ExprV} {seen : List (List ℕ)} (xs : List ExprV)
          → Kept rules r bs (x ∷ xs) → EachFormed seen (x ∷ xs) → Formed seen (expr s e (choice bs))
      formed_times : {s e : ℕ} {x : ExprV} {k : Exponent} {seen : List (List ℕ)} → unit_of x ≡ None
          → IsCount seen k → Formed seen x → Formed seen (expr s e (power x k))
      formed_many : {s e : ℕ} {x : ExprV} {seen : List (List ℕ)} → IsFalse (is_bit x) → Formed seen x
          → Formed seen (expr s e (power x Any))
      formed_cut : {s e : ℕ} {xs : ExprsV} {seen : List (List ℕ)} → ItemsFormed seen xs
          → Formed seen (expr s e (cut xs))
      formed_window :
          {s e : ℕ} {x y : ExprV} {seen : List (List ℕ)}
          (w : WindowV)
          → window_of x y ≡ Some w
          → IsCount seen w.width.count → Formed seen w.part → Formed seen (expr s e (both x y))
      formed_labelled : {s e : ℕ} {label : List ℕ} {x : ExprV} {seen : List (List ℕ)} → Formed seen x
          → Formed seen (expr s e (labelled label x))
      formed_name : {s e : ℕ} {n : List ℕ} {seen : List (List ℕ)} (rule : Rule)
          → rule_of rules n ≡ Some rule → RuleFormed seen rule → Formed seen (expr s e (name n))
      formed_group : {s e : ℕ} {x : ExprV} {seen : List (List ℕ)} → Formed seen x
          → Formed seen (expr s e (group x))
      formed_received : {s e : ℕ} {x y : ExprV} {seen : List (List ℕ)} → r ≡ Received → Formed seen x
          → Formed seen (expr s e (sends x y))
      formed_sent : {s e : ℕ} {x y : ExprV} {seen : List (List ℕ)} → r ≡ Sent → Formed seen y
          → Formed seen (expr s e (sends x y))

    -- one after another: an item sees the labels of those before it
    pub data ItemsFormed : List (List ℕ) → ExprsV → Type 0 where
      formed_end : {seen : List (List ℕ)} → ItemsFormed seen no_item
      formed_next : {seen : List (List ℕ)} {x : ExprV} {xs : ExprsV} → Formed seen x
          → ItemsFormed (with_seen (label_of r x) seen) xs → ItemsFormed seen (item x xs)

    pub data EachFormed : List (List ℕ) → List ExprV → Type 0 where
      each_end : {seen : List (List ℕ)} → EachFormed seen []
      each_next :
          {seen : List (List ℕ)} {x : ExprV} {xs : List ExprV}
          → Formed seen x
          → EachFormed seen xs
          → EachFormed seen (x ∷ xs)

    -- a rule sees the labels round the place where its name stands
    pub data RuleFormed : List (List ℕ) → Rule → Type 0 where
      formed_plain : {seen : List (List ℕ)} {rule : Rule} → tail_of rule ≡ None → Formed seen rule.body
          → RuleFormed seen rule
      formed_tail : {seen : List (List ℕ)} {rule : Rule} (tail : TailV) → tail_of rule ≡ Some tail
          → ItemsFormed seen tail.items → RuleFormed seen rule

-- each label that is seen has a value
abbrev pub HaveValues : Env → List (List ℕ) → Type 0
HaveValues env seen = (label : List ℕ) → Contains seen label → IsSome (value_of env label)
