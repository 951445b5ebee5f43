-- The worked examples.
use Rattle.std.proofs.Common.{ℕ, suc, ◌+◌, List, [], ◌∷◌, refl, lit≤, codes}
use Rattle.csn_desc.specs.declared.reading.Reading.{Reading}
use Rattle.csn_desc.specs.declared.reading.Reading.TheVariants.{Received, Sent}
use Rattle.csn_desc.specs.declared.symbol.Symbol.{Symbol}
use Rattle.csn_desc.specs.declared.symbol.Symbol.TheVariants.{Zero}
use Rattle.csn_desc.specs.declared.node.Count.TheVariants.{Fixed}
use Rattle.csn_desc.specs.declared.node.Node.TheVariants.{Lits, Field, Seq, Named}
use Rattle.csn_desc.specs.Examples.{A, B, fields}
use Rattle.csn_grammar.specs.declared.exponent.Exponent.TheVariants.{Number}
use Rattle.csn_grammar.specs.ExprV.{ExprV, expr, lits, name, sends}
use Rattle.csn_grammar.specs.RulesV.{RulesV}
use Rattle.csn_grammar.specs.Void.{Void, void_none, void_name, void_received, void_sent, void_group, void_seq}
use Rattle.csn_grammar.specs.Void.{void_choice, void_here, void_later, all_next, kept_end, kept_next, kept_void}
use Rattle.csn_resolve.specs.Seen.{Seen}
use Rattle.csn_resolve.specs.declared.why.Why.TheVariants.{Undefined, DefinedTwice, Recursive}
use Rattle.csn_resolve.specs.Steps.{begins, refused}
use Rattle.csn_resolve.specs.Counts.{count_number}
use Rattle.csn_resolve.specs.Gives.{placed, Gives, RuleGives, gives_lits, gives_field, gives_seq, gives_choice}
use Rattle.csn_resolve.specs.Gives.{gives_only, gives_labelled, gives_group, gives_received, items_end, items_next}
use Rattle.csn_resolve.specs.Gives.{each_end, each_next, rule_plain, rule_tail}
use Rattle.csn_resolve.specs.Walk.{Around, Walk, is_accepted, left_plain, walk_lits, walk_field, walk_undefined}
use Rattle.csn_resolve.specs.Walk.{walk_recursive, walk_group, walk_labelled, walk_seq, walk_choice}
use Rattle.csn_resolve.specs.Walk as walk
use Rattle.csn_desc.specs.Overfull.{IsOverfull}
use Rattle.csn_resolve.specs.Resolved.{asked_rule}
use Rattle.csn_resolve.specs.Examples.{X, field, fields_rule, fields_rules, FieldsAreResolved, refused_rule}
use Rattle.csn_resolve.specs.Examples.{refused_rules, RefusalsHaveAnOrder, dropping_rules, AlternativesAreDropped}
use Rattle.csn_resolve.specs.Examples.{repeated_rules, CountsStandOnTheNearest, tail_rules, TailsAreRepetitions}
use Rattle.csn_resolve.proofs.Emptiness.Full.{rule_full}

-- a labelled field gives two nodes
field_gives :
    (rules : RulesV) (r : Reading) (label : List ℕ) (start long at n : ℕ) (seen : Seen ℕ)
    → Gives rules r (field label start long (Number n)) at seen
    (placed (Named label (suc at)) start ∷ placed (Field 1 (Fixed n)) (start + 5) ∷ [])
field_gives rules r label start long at n seen = gives_labelled (gives_field 1 (Fixed n) refl refl refl) refl

-- ---- fields

fields_give :
    RuleGives fields_rules Received fields_rule 0 []
    (placed (Seq (1 ∷ 3 ∷ 4 ∷ [])) 8
    ∷ placed (Named A 2) 8 ∷ placed (Field 1 (Fixed 3)) 13 ∷ placed (Lits (Zero ∷ [])) 22
    ∷ placed (Named B 5) 24 ∷ placed (Field 1 (Fixed 4)) 29 ∷ [])
fields_give =
    rule_plain refl (gives_seq
    (items_next _ _ (field_gives fields_rules Received A 8 7 1 3 ([] ∷ []))
    (items_next _ _ (gives_lits refl)
    (items_next _ [] (field_gives fields_rules Received B 24 7 4 4 _)
    (items_end refl refl) refl refl) refl refl) refl refl) refl)

-- no count stands on a field
none_counted : (i : ℕ) → ¬ IsOverfull fields.nodes i
none_counted i h = let counted = h.counted in cc

pub fields_are_resolved : FieldsAreResolved
fields_are_resolved =
    record {
      accepted =
          record {
            steps = begins 8 ∷ begins 8 ∷ begins 13 ∷ begins 22 ∷ begins 24 ∷ begins 29 ∷ [];
            walked =
                asked_rule fields_rule refl
                (walk.rule_plain refl (walk_seq
                (walk.items_next [] (walk_labelled (walk_field refl (count_number refl) refl) refl) refl
                (walk.items_next [] (walk_lits refl) refl
                (walk.items_next [] (walk_labelled (walk_field refl (count_number refl) refl) refl) refl
                (walk.items_end refl) refl) refl) refl) refl))
                (is_accepted (λ v. rule_full fields_rules Received fields_give v) refl) refl;
            are = refl;
          };
      nodes = _;
      given = record { rule = fields_rule; found = refl; gives = fields_give };
      not_overfull = none_counted;
      is = refl;
    }

-- ---- refusals

-- X has no rule
x_full : {s e : ℕ} → Void refused_rules Received (expr s e (name X)) → ⊥
x_full (void_none p) = cc
x_full (void_name rule is v) = cc

refused_full : Void refused_rules Received refused_rule.body → ⊥
refused_full (void_seq (void_here v)) = x_full v
refused_full (void_seq (void_later (void_here (void_group (void_choice (all_next v others)))))) = elim v [ ]
refused_full (void_seq (void_later (void_later v))) = elim v [ ]

pub refusals_have_an_order : RefusalsHaveAnOrder
refusals_have_an_order =
    record {
      steps =
          refused DefinedTwice 26 ∷ begins 8 ∷ refused Undefined 8 ∷ begins 14 ∷ begins 14 ∷ refused Recursive 18 ∷ [];
      walked =
          asked_rule refused_rule refl
          (walk.rule_plain refl (walk_seq
          (walk.items_next [] (walk_undefined refl refl refl) refl
          (walk.items_next []
          (walk_group (walk_choice
          (walk.branches_next (walk_lits refl) (left_plain refl)
          (walk.branches_next (walk_recursive refused_rule refl refl refl) (left_plain refl)
          (walk.branches_end refl) refl) refl) refl) refl) refl
          (walk.items_end refl) refl) refl) refl))
          (is_accepted refused_full refl) refl;
      are = refl;
    }

-- ---- an alternative that is dropped

no_string : {s e : ℕ} → Void dropping_rules Sent (expr s e (name (codes "no string")))
no_string = void_none refl

literal_full : {r : Reading} {s e : ℕ} {run : List Symbol} → Void dropping_rules r (expr s e (lits run)) → ⊥
literal_full v = elim v [ ]

received_full :
    {s e s' e' : ℕ} {y : ExprV} {run : List Symbol}
    → Void dropping_rules Received (expr s e (sends (expr s' e' (lits run)) y)) → ⊥
received_full (void_received p v) = literal_full v
received_full (void_sent p v) = cc

pub alternatives_are_dropped : AlternativesAreDropped
alternatives_are_dropped = (
  record {
    rule = _;
    found = refl;
    gives =
        rule_plain refl (gives_group (gives_choice _
        (kept_next literal_full (kept_next received_full kept_end)) (lit≤ tt)
        (each_next _ _ (gives_lits refl)
        (each_next _ [] (gives_received refl (gives_lits refl)) (each_end refl refl) refl refl) refl refl)
        refl));
  },
  record {
    rule = _;
    found = refl;
    gives =
        rule_plain refl (gives_group (gives_only
        (kept_next literal_full (kept_void (void_sent refl no_string) kept_end)) (gives_lits refl)));
  },
)

pub counts_stand_on_the_nearest : CountsStandOnTheNearest
counts_stand_on_the_nearest =
    record {
      rule = _;
      found = refl;
      gives =
          rule_plain refl (gives_seq
          (items_next _ _ (field_gives repeated_rules Received A 8 7 1 2 _)
          (items_next _ _ (field_gives repeated_rules Received A 22 7 3 1 _)
          (items_next _ [] (gives_labelled (gives_field 1 _ refl refl refl) refl)
          (items_end refl refl) refl refl) refl refl) refl refl) refl);
    }

pub tails_are_repetitions : TailsAreRepetitions
tails_are_repetitions =
    record {
      rule = _;
      found = refl;
      gives =
          rule_tail _ 3 8 _ _ _ _ refl
          (items_next _ [] (field_gives tail_rules Received A 8 7 1 3 _) (items_end refl refl) refl refl)
          refl
          (items_next _ [] (field_gives tail_rules Received A 8 7 6 3 _) (items_end refl refl) refl refl)
          refl refl;
    }
