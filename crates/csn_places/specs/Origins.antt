-- Where the nodes of an expression come from, in the order of their numbers: each at the first byte of the part
-- that gives it, and inside the names that are put in round that part. A list for each form, by the lists of its
-- parts; which parts give nodes is told by csn_resolve's `Gives`.
use Rattle.std.specs.Prelude.{◌↔◌, IsTrue, ℕ, zero, suc, ◌+◌, Bool, true, false, if◌then◌else◌, List, [], ◌∷◌, ◌++◌, Option, Some, None, is_some}
use Rattle.csn_desc.specs.declared.reading.Reading.{Reading}
use Rattle.csn_desc.specs.declared.reading.Reading.TheVariants.{Received, Sent}
use Rattle.csn_grammar.specs.declared.exponent.Exponent.{Exponent}
use Rattle.csn_grammar.specs.declared.exponent.Exponent.TheVariants.{Any}
use Rattle.csn_grammar.specs.declared.rules.Rule.{Rule}
use Rattle.csn_grammar.specs.ExprV.{ExprV, expr, FormV, lits, null, bit, octet, name, labelled, group, seq, choice}
use Rattle.csn_grammar.specs.ExprV.{power, cut, both, sends, ExprsV, no_item, item, BranchesV, no_branch, branch, BranchV}
use Rattle.csn_grammar.specs.RulesV.{RulesV}
use Rattle.csn_grammar.specs.Names.{rule_of}
use Rattle.csn_grammar.specs.Forms.{unit_of, is_bit, width_of}
use Rattle.csn_grammar.specs.TailForm.{TailV, tail_of}
use Rattle.csn_grammar.specs.Void.{Void}
use Rattle.csn_resolve.specs.Gives.{start_of}
use Rattle.csn_places.specs.declared.origin.Origin.{Origin}

-- a node at this place, inside the names at these places
abbrev pub at : ℕ → List ℕ → Origin
at place round = record { place = place; names = round }

-- is a part with this exponent a field, or `bit **`?
abbrev pub is_one_node : ExprV → Exponent → Bool
is_one_node x Any = is_bit x
is_one_node x k = is_some (unit_of x)

-- the node of a choice stands before those of its alternatives, where not one alone is kept
abbrev pub choice_origins : ℕ → List ℕ → ℕ → List Origin → List Origin
choice_origins place round (suc zero) inner = inner
choice_origins place round _ inner = at place round ∷ inner

-- a test tells which expressions are empty of strings in a reading
abbrev pub Tells : RulesV → Reading → (ExprV → Bool) → Type 0
Tells rules r void = (x : ExprV) → IsTrue (void x) ↔ Void rules r x

-- is an alternative kept, by the test of what is empty of strings?
abbrev pub is_kept : (ExprV → Bool) → BranchV → Bool
is_kept void b = if b.error then false else (if void b.body then false else true)

abbrev pub one_if : Bool → ℕ
one_if true = 1
one_if false = 0

-- how many alternatives are kept
abbrev pub kept_in : (ExprV → Bool) → BranchesV → ℕ
kept_in void no_branch = 0
kept_in void (branch error x bs) = one_if (is_kept void (record { error = error; body = x })) + kept_in void bs

module _ (r : Reading) (void : ExprV → Bool) (round : List ℕ) (names : List ℕ → ℕ → List Origin) where
  -- of an expression, inside the names `round`, where `names` has those of a name at a place
  abbrev mutual
    pub origins : ExprV → List Origin
    origins (expr s e f) = form_origins r s f

    pub form_origins : Reading → ℕ → FormV → List Origin
    form_origins q s (lits run) = at s round ∷ []
    form_origins q s null = at s round ∷ []
    form_origins q s bit = at s round ∷ []
    form_origins q s octet = at s round ∷ []
    form_origins q s (name n) = names n s
    form_origins q s (labelled label x) = at s round ∷ origins x
    form_origins q s (group x) = origins x
    form_origins q s (seq xs) = at s round ∷ items_origins xs
    form_origins q s (choice bs) = choice_origins s round (kept_in void bs) (branches_origins bs)
    form_origins q s (power x k) = at s round ∷ (if is_one_node x k then [] else origins x)
    form_origins q s (cut xs) = at s round ∷ items_origins xs
    form_origins q s (both x y) = at s round ∷ (if is_some (width_of x) then origins y else origins x)
    form_origins Received s (sends x y) = origins x
    form_origins Sent s (sends x y) = origins y

    pub items_origins : ExprsV → List Origin
    items_origins no_item = []
    items_origins (item x xs) = origins x ++ items_origins xs

    -- of the alternatives that are kept
    pub branches_origins : BranchesV → List Origin
    branches_origins no_branch = []
    branches_origins (branch error x bs) =
        (if is_kept void (record { error = error; body = x }) then origins x else []) ++ branches_origins bs

  -- of a rule in tail form that begins at this place: the sequence and its items, the repetition, the sequence
  -- and the word in it and the items again, and the word that stops it
  abbrev pub tail_origins : ℕ → TailV → List Origin
  tail_origins place tail =
      at place round
      ∷ (items_origins tail.items
      ++ (at tail.end.braces round
      ∷ at tail.end.again.at round
      ∷ at tail.end.again.at round
      ∷ (items_origins tail.items ++ at tail.end.stop.at round ∷ [])))

  abbrev pub by_tail : Rule → Option TailV → List Origin
  by_tail rule None = origins rule.body
  by_tail rule (Some tail) = tail_origins (start_of rule.body) tail

  -- of what a rule says
  abbrev pub rule_origins : Rule → List Origin
  rule_origins rule = by_tail rule (tail_of rule)

abbrev pub by_rule : Option Rule → List Origin → (Rule → List Origin) → List Origin
by_rule None spare rule_has = spare
by_rule (Some rule) spare rule_has = rule_has rule

-- of a name at a place, inside `round`: those of its rule, one name deeper, or one of a spare part. At most so many
-- names are put in inside one another
abbrev pub named_at : RulesV → Reading → (ExprV → Bool) → ℕ → List ℕ → List ℕ → ℕ → List Origin
named_at rules r void zero round n s = by_rule (rule_of rules n) (at s round ∷ []) (λ rule. [])
named_at rules r void (suc left) round n s =
    by_rule (rule_of rules n) (at s round ∷ [])
    (λ rule. rule_origins r void (round ++ s ∷ []) (named_at rules r void left (round ++ s ∷ [])) rule)
