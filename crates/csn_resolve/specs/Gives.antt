-- The nodes that an expression gives, names put in: the least relation with the cases below, one or two for
-- each form. The nodes stand in preorder, each before those inside it. Names, braces, `=`, the width of a
-- window and a choice with one alternative that is kept make no node, and what is empty of strings gives
-- none. (The forms are those of 3GPP TS 24.007 Annex B; that a description is numbered nodes is this
-- project's own choice.)
use Rattle.std.specs.Prelude.{◌≡◌, ℕ, suc, ◌+◌, ◌≤◌, IsTrue, IsFalse, List, [], ◌∷◌, ◌++◌, length, codes, Option, Some, None}
use Rattle.std.specs.Option.{option_map}
use Rattle.csn_desc.specs.declared.reading.Reading.{Reading}
use Rattle.csn_desc.specs.declared.reading.Reading.TheVariants.{Received, Sent}
use Rattle.csn_desc.specs.declared.symbol.Symbol.{Symbol}
use Rattle.csn_desc.specs.declared.symbol.Symbol.TheVariants as symbol
use Rattle.csn_desc.specs.declared.node.Count.{Count}
use Rattle.csn_desc.specs.declared.node.Count.TheVariants.{Fixed, Counted}
use Rattle.csn_desc.specs.declared.node.Node.{Node}
use Rattle.csn_desc.specs.declared.node.Node.TheVariants.{Lits, Spare, Pad, Null, Field, Rest, Seq, Choice, Times, Many, Trunc, Window, Named}
use Rattle.csn_grammar.specs.declared.exponent.Exponent.{Exponent}
use Rattle.csn_grammar.specs.declared.exponent.Exponent.TheVariants.{Any, Number, Linear}
use Rattle.csn_grammar.specs.declared.rules.Rule.{Rule}
use Rattle.csn_grammar.specs.ExprV.{ExprV, expr, lits, null, bit, octet, name, labelled, group, seq, choice, power}
use Rattle.csn_grammar.specs.ExprV.{cut, both, sends, ExprsV, no_item, item, BranchesV}
use Rattle.csn_grammar.specs.RulesV.{RulesV}
use Rattle.csn_grammar.specs.Names.{rule_of}
use Rattle.csn_grammar.specs.Forms.{unit_of, is_bit, WindowV, window_of}
use Rattle.csn_grammar.specs.Environment.{label_of}
use Rattle.csn_grammar.specs.TailForm.{TailV, tail_of}
use Rattle.csn_grammar.specs.Void.{Kept}
use Rattle.csn_resolve.specs.Seen.{Frame, Seen, seen_of, with_labelled}

-- a node, and the byte of the text where the part that gives it begins
pub record Placed : Type 0 where
  pub node : Node
  pub place : ℕ

abbrev pub placed : Node → ℕ → Placed
placed n place = record { node = n; place = place }

-- a number exponent as a count, where the labels that are seen have these nodes: `val(Label)` is kept as the
-- node of the labelled item that it stands on
abbrev pub count_at : Seen ℕ → Exponent → Option Count
count_at seen Any = None
count_at seen (Number n) = Some (Fixed n)
count_at seen (Linear m label c) = option_map (λ field. Counted m field c) (seen_of seen label)

abbrev pub start_of : ExprV → ℕ
start_of (expr s e f) = s

module _ (rules : RulesV) (r : Reading) where
  mutual
    -- the expression x, which sees labelled items with these nodes, gives the nodes `nodes`, of which the
    -- first has the number `at`
    pub data Gives : ExprV → ℕ → Seen ℕ → List Placed → Type 0 where
      gives_lits :
          {s e at : ℕ} {run : List Symbol} {seen : Seen ℕ} {nodes : List Placed}
          → nodes ≡ placed (Lits run) s ∷ [] → Gives (expr s e (lits run)) at seen nodes
      gives_null :
          {s e at : ℕ} {seen : Seen ℕ} {nodes : List Placed}
          → nodes ≡ placed Null s ∷ [] → Gives (expr s e null) at seen nodes
      -- a field; `bit` and `octet` alone stand once
      gives_bit :
          {s e at : ℕ} {seen : Seen ℕ} {nodes : List Placed}
          → nodes ≡ placed (Field 1 (Fixed 1)) s ∷ [] → Gives (expr s e bit) at seen nodes
      gives_octet :
          {s e at : ℕ} {seen : Seen ℕ} {nodes : List Placed}
          → nodes ≡ placed (Field 8 (Fixed 1)) s ∷ [] → Gives (expr s e octet) at seen nodes
      gives_field :
          {s e at : ℕ} {x : ExprV} {k : Exponent} {seen : Seen ℕ} {nodes : List Placed}
          (unit : ℕ) (count : Count)
          → unit_of x ≡ Some unit → count_at seen k ≡ Some count
          → nodes ≡ placed (Field unit count) s ∷ [] → Gives (expr s e (power x k)) at seen nodes
      -- `bit **`
      gives_rest :
          {s e at : ℕ} {x : ExprV} {seen : Seen ℕ} {nodes : List Placed}
          → IsTrue (is_bit x) → nodes ≡ placed Rest s ∷ [] → Gives (expr s e (power x Any)) at seen nodes
      -- spare parts
      gives_spare_bit :
          {s e at : ℕ} {n : List ℕ} {seen : Seen ℕ} {nodes : List Placed}
          → n ≡ codes "spare bit" → nodes ≡ placed (Spare symbol.Zero) s ∷ []
          → Gives (expr s e (name n)) at seen nodes
      gives_spare_low :
          {s e at : ℕ} {n : List ℕ} {seen : Seen ℕ} {nodes : List Placed}
          → n ≡ codes "spare L" → nodes ≡ placed (Spare symbol.Low) s ∷ []
          → Gives (expr s e (name n)) at seen nodes
      gives_padding :
          {s e at : ℕ} {n : List ℕ} {seen : Seen ℕ} {nodes : List Placed}
          → n ≡ codes "spare padding" → nodes ≡ placed Pad s ∷ []
          → Gives (expr s e (name n)) at seen nodes
      gives_seq :
          {s e at : ℕ} {xs : ExprsV} {seen : Seen ℕ} {nodes inner : List Placed} {parts : List ℕ}
          → ItemsGive xs (suc at) [] seen parts inner → nodes ≡ placed (Seq parts) s ∷ inner
          → Gives (expr s e (seq xs)) at seen nodes
      -- the alternatives that are kept; where one is, the choice is that one
      gives_choice :
          {s e at : ℕ} {bs : BranchesV} {seen : Seen ℕ} {nodes inner : List Placed} {parts : List ℕ}
          (xs : List ExprV)
          → Kept rules r bs xs → 2 ≤ length xs → EachGives xs (suc at) seen parts inner
          → nodes ≡ placed (Choice parts) s ∷ inner → Gives (expr s e (choice bs)) at seen nodes
      gives_only :
          {s e at : ℕ} {bs : BranchesV} {x : ExprV} {seen : Seen ℕ} {nodes : List Placed}
          → Kept rules r bs (x ∷ []) → Gives x at seen nodes → Gives (expr s e (choice bs)) at seen nodes
      -- any other part with an exponent
      gives_times :
          {s e at : ℕ} {x : ExprV} {k : Exponent} {seen : Seen ℕ} {nodes inner : List Placed} (count : Count)
          → unit_of x ≡ None → count_at seen k ≡ Some count → Gives x (suc at) seen inner
          → nodes ≡ placed (Times count (suc at)) s ∷ inner → Gives (expr s e (power x k)) at seen nodes
      gives_many :
          {s e at : ℕ} {x : ExprV} {seen : Seen ℕ} {nodes inner : List Placed}
          → IsFalse (is_bit x) → Gives x (suc at) seen inner → nodes ≡ placed (Many (suc at)) s ∷ inner
          → Gives (expr s e (power x Any)) at seen nodes
      gives_cut :
          {s e at : ℕ} {xs : ExprsV} {seen : Seen ℕ} {nodes inner : List Placed} {parts : List ℕ}
          → ItemsGive xs (suc at) [] seen parts inner → nodes ≡ placed (Trunc parts) s ∷ inner
          → Gives (expr s e (cut xs)) at seen nodes
      -- one side of `&` says the width, and the other is the part
      gives_window :
          {s e at : ℕ} {x y : ExprV} {seen : Seen ℕ} {nodes inner : List Placed} (w : WindowV) (count : Count)
          → window_of x y ≡ Some w → count_at seen w.width.count ≡ Some count
          → Gives w.part (suc at) seen inner → nodes ≡ placed (Window w.width.unit count (suc at)) s ∷ inner
          → Gives (expr s e (both x y)) at seen nodes
      gives_labelled :
          {s e at : ℕ} {label : List ℕ} {x : ExprV} {seen : Seen ℕ} {nodes inner : List Placed}
          → Gives x (suc at) seen inner → nodes ≡ placed (Named label (suc at)) s ∷ inner
          → Gives (expr s e (labelled label x)) at seen nodes
      -- names, braces and `=` make no node
      gives_name :
          {s e at : ℕ} {n : List ℕ} {seen : Seen ℕ} {nodes : List Placed} (rule : Rule)
          → rule_of rules n ≡ Some rule → RuleGives rule at seen nodes → Gives (expr s e (name n)) at seen nodes
      gives_group :
          {s e at : ℕ} {x : ExprV} {seen : Seen ℕ} {nodes : List Placed}
          → Gives x at seen nodes → Gives (expr s e (group x)) at seen nodes
      gives_received :
          {s e at : ℕ} {x y : ExprV} {seen : Seen ℕ} {nodes : List Placed}
          → r ≡ Received → Gives x at seen nodes → Gives (expr s e (sends x y)) at seen nodes
      gives_sent :
          {s e at : ℕ} {x y : ExprV} {seen : Seen ℕ} {nodes : List Placed}
          → r ≡ Sent → Gives y at seen nodes → Gives (expr s e (sends x y)) at seen nodes

    -- the items of a sequence or truncation, one behind the other: the numbers of their first nodes, and all
    -- nodes. An item sees the labelled items before it, which `frame` has
    pub data ItemsGive : ExprsV → ℕ → Frame ℕ → Seen ℕ → List ℕ → List Placed → Type 0 where
      items_end :
          {at : ℕ} {frame : Frame ℕ} {seen : Seen ℕ} {parts : List ℕ} {nodes : List Placed}
          → parts ≡ [] → nodes ≡ [] → ItemsGive no_item at frame seen parts nodes
      items_next :
          {x : ExprV} {xs : ExprsV} {at : ℕ} {frame : Frame ℕ} {seen : Seen ℕ} {parts later : List ℕ}
          {nodes : List Placed} (first rest : List Placed)
          → Gives x at (frame ∷ seen) first
          → ItemsGive xs (at + length first) (with_labelled (label_of r x) at frame) seen later rest
          → parts ≡ at ∷ later → nodes ≡ first ++ rest
          → ItemsGive (item x xs) at frame seen parts nodes

    -- alternatives: the numbers of their first nodes, and all nodes
    pub data EachGives : List ExprV → ℕ → Seen ℕ → List ℕ → List Placed → Type 0 where
      each_end :
          {at : ℕ} {seen : Seen ℕ} {parts : List ℕ} {nodes : List Placed}
          → parts ≡ [] → nodes ≡ [] → EachGives [] at seen parts nodes
      each_next :
          {x : ExprV} {xs : List ExprV} {at : ℕ} {seen : Seen ℕ} {parts later : List ℕ}
          {nodes : List Placed} (first rest : List Placed)
          → Gives x at seen first → EachGives xs (at + length first) seen later rest
          → parts ≡ at ∷ later → nodes ≡ first ++ rest → EachGives (x ∷ xs) at seen parts nodes

    -- a rule where its name stands, which sees the labelled items round that place
    pub data RuleGives : Rule → ℕ → Seen ℕ → List Placed → Type 0 where
      rule_plain :
          {rule : Rule} {at : ℕ} {seen : Seen ℕ} {nodes : List Placed}
          → tail_of rule ≡ None → Gives rule.body at seen nodes → RuleGives rule at seen nodes
      -- in tail form: a sequence of the items, the repetition of the word and the items, and the word that
      -- stops it. The items of the repetition see those round the rule, and none of another turn
      rule_tail :
          {rule : Rule} {at : ℕ} {seen : Seen ℕ} {nodes : List Placed} (tail : TailV) (many stop : ℕ)
          (parts turn_parts : List ℕ) (items turn : List Placed)
          → tail_of rule ≡ Some tail
          → ItemsGive tail.items (suc at) [] seen parts items
          → many ≡ suc at + length items
          → ItemsGive tail.items (many + 3) [] seen turn_parts turn
          → stop ≡ many + 3 + length turn
          → nodes ≡ placed (Seq (parts ++ many ∷ stop ∷ [])) (start_of rule.body)
          ∷ (items ++ placed (Many (many + 1)) tail.end.braces
          ∷ placed (Seq ((many + 2) ∷ turn_parts)) tail.end.again.at
          ∷ placed (Lits tail.end.again.run) tail.end.again.at
          ∷ (turn ++ placed (Lits tail.end.stop.run) tail.end.stop.at ∷ []))
          → RuleGives rule at seen nodes
