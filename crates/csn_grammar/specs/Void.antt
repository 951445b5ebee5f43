-- Parts that are empty of strings: no bits, not even the empty ones, are what they mean. They come from
-- `<no string>`, which writes a branch that a sender never takes (3GPP TS 44.060 clause 11). Alternatives
-- that are empty of strings are dropped; which parts count as such is this project's own choice.
use Rattle.std.specs.Prelude.{◌≡◌, ℕ, true, false, List, [], ◌∷◌, codes, Some}
use Rattle.csn_desc.specs.declared.reading.Reading.{Reading}
use Rattle.csn_desc.specs.declared.reading.Reading.TheVariants.{Received, Sent}
use Rattle.csn_grammar.specs.declared.rules.Rule.{Rule}
use Rattle.csn_grammar.specs.ExprV.{ExprV, expr, name, labelled, group, seq, choice, both, sends, ExprsV, item, BranchesV, no_branch, branch}
use Rattle.csn_grammar.specs.RulesV.{RulesV}
use Rattle.csn_grammar.specs.Names.{rule_of}
use Rattle.csn_grammar.specs.Forms.{WindowV, window_of}

module _ (rules : RulesV) (r : Reading) where
  mutual
    -- x is empty of strings
    pub data Void : ExprV → Type 0 where
      void_none : {s e : ℕ} {n : List ℕ} → n ≡ codes "no string" → Void (expr s e (name n))
      void_name : {s e : ℕ} {n : List ℕ} (rule : Rule) → rule_of rules n ≡ Some rule → Void rule.body
          → Void (expr s e (name n))
      void_group : {s e : ℕ} {x : ExprV} → Void x → Void (expr s e (group x))
      void_labelled : {s e : ℕ} {label : List ℕ} {x : ExprV} → Void x → Void (expr s e (labelled label x))
      void_window : {s e : ℕ} {x y : ExprV} (w : WindowV) → window_of x y ≡ Some w → Void w.part
          → Void (expr s e (both x y))
      void_seq : {s e : ℕ} {xs : ExprsV} → SomeVoid xs → Void (expr s e (seq xs))
      void_choice : {s e : ℕ} {bs : BranchesV} → AllVoid bs → Void (expr s e (choice bs))
      void_received : {s e : ℕ} {x y : ExprV} → r ≡ Received → Void x → Void (expr s e (sends x y))
      void_sent : {s e : ℕ} {x y : ExprV} → r ≡ Sent → Void y → Void (expr s e (sends x y))

    -- some item is
    pub data SomeVoid : ExprsV → Type 0 where
      void_here : {x : ExprV} {xs : ExprsV} → Void x → SomeVoid (item x xs)
      void_later : {x : ExprV} {xs : ExprsV} → SomeVoid xs → SomeVoid (item x xs)

    -- each alternative that does not stand behind `!` is
    pub data AllVoid : BranchesV → Type 0 where
      all_end : AllVoid no_branch
      all_next : {x : ExprV} {bs : BranchesV} → Void x → AllVoid bs → AllVoid (branch false x bs)
      all_error : {x : ExprV} {bs : BranchesV} → AllVoid bs → AllVoid (branch true x bs)

  -- the alternatives of a choice that are kept, in their order: those that are not empty of strings and
  -- do not stand behind `!`
  pub data Kept : BranchesV → List ExprV → Type 0 where
    kept_end : Kept no_branch []
    kept_next : {x : ExprV} {bs : BranchesV} {xs : List ExprV} → ¬ Void x → Kept bs xs
        → Kept (branch false x bs) (x ∷ xs)
    kept_void : {x : ExprV} {bs : BranchesV} {xs : List ExprV} → Void x → Kept bs xs
        → Kept (branch false x bs) xs
    kept_error : {x : ExprV} {bs : BranchesV} {xs : List ExprV} → Kept bs xs → Kept (branch true x bs) xs
