-- Worked examples of the definitions. The places are bytes of the texts that stand above them.
use Rattle.std.specs.Prelude.{◌≡◌, ℕ, ◌+◌, false, List, [], ◌∷◌, codes}
use Rattle.csn_desc.specs.declared.reading.Reading.TheVariants.{Received, Sent}
use Rattle.csn_desc.specs.declared.symbol.Symbol.TheVariants.{Zero, One}
use Rattle.csn_desc.specs.declared.node.Count.TheVariants.{Fixed, Counted}
use Rattle.csn_desc.specs.declared.node.Node.TheVariants.{Lits, Field, Seq, Choice, Many, Named}
use Rattle.csn_desc.specs.Examples.{A, B, fields}
use Rattle.csn_grammar.specs.declared.exponent.Exponent.{Exponent}
use Rattle.csn_grammar.specs.declared.exponent.Exponent.TheVariants.{Number, Linear}
use Rattle.csn_grammar.specs.declared.rules.Rule.{Rule}
use Rattle.csn_grammar.specs.ExprV.{ExprV, expr, lits, bit, name, labelled, group, seq, choice, power, sends, exprs_of, branches_of}
use Rattle.csn_grammar.specs.RulesV.{RulesV}
use Rattle.csn_resolve.specs.declared.why.Why.{Why}
use Rattle.csn_resolve.specs.declared.why.Why.TheVariants.{Undefined, DefinedTwice, Recursive, TooManyNodes, TooDeep}
use Rattle.csn_resolve.specs.Why.{Refusal}
use Rattle.csn_resolve.specs.Steps.{begins, refused, refusals_after}
use Rattle.csn_resolve.specs.Walk.{Around, entering}
use Rattle.csn_resolve.specs.Gives.{placed}
use Rattle.csn_resolve.specs.Resolved.{NameGives, AreRefusals, IsResolved}

-- the names M and X
abbrev pub M : List ℕ
M = 77 ∷ []

abbrev pub X : List ℕ
X = 88 ∷ []

-- the rule M, from one place of the text to another
abbrev pub rule_M : ℕ → ℕ → ExprV → Rule
rule_M start end body = record { name = M; span = record { start = start; end = end }; body = body }

-- `<label : bit (exponent)>`, with a label of one letter and a field of so many bytes
abbrev pub field : List ℕ → ℕ → ℕ → Exponent → ExprV
field label start long k =
    expr start (start + (6 + long))
    (labelled label (expr (start + 5) (start + (5 + long)) (power (expr (start + 5) (start + 8) bit) k)))

abbrev pub zero : ℕ → ExprV
zero start = expr start (start + 1) (lits (Zero ∷ []))

abbrev pub one : ℕ → ExprV
one start = expr start (start + 1) (lits (One ∷ []))

abbrev pub at : Why → ℕ → Refusal
at why place = record { why = why; place = place }

-- ---- <M> ::= <A : bit (3)> 0 <B : bit (4)> ;

abbrev pub fields_rule : Rule
fields_rule =
    rule_M 0 39 (expr 8 37 (seq (exprs_of (field A 8 7 (Number 3) ∷ zero 22 ∷ field B 24 7 (Number 4) ∷ []))))

abbrev pub fields_rules : RulesV
fields_rules = fields_rule ∷ []

-- nothing is refused, and the description has six nodes
abbrev pub FieldsAreResolved : Type 0
FieldsAreResolved = IsResolved fields_rules M Received fields

-- ---- <M> ::= <X> { 0 | <M> } ; <M> ::= 0 ;

abbrev pub refused_rule : Rule
refused_rule =
    rule_M 0 25 (expr 8 23 (seq (exprs_of (
    expr 8 11 (name X)
    ∷ expr 12 23 (group (expr 14 21 (choice (branches_of (
    record { error = false; body = zero 14 } ∷ record { error = false; body = expr 18 21 (name M) } ∷ [])))))
    ∷ []))))

abbrev pub refused_rules : RulesV
refused_rules = refused_rule ∷ rule_M 26 37 (zero 34) ∷ []

-- a rule that is defined twice is refused before a name in an earlier one
abbrev pub RefusalsHaveAnOrder : Type 0
RefusalsHaveAnOrder =
    AreRefusals refused_rules M Received (at DefinedTwice 26 ∷ at Undefined 8 ∷ at Recursive 18 ∷ [])

-- ---- <M> ::= { 0 | 1 = <no string> } ;

abbrev pub dropping_rules : RulesV
dropping_rules =
    rule_M 0 33 (expr 8 31 (group (expr 10 29 (choice (branches_of (
    record { error = false; body = zero 10 }
    ∷ record { error = false; body = expr 14 29 (sends (one 14) (expr 18 29 (name (codes "no string")))) } ∷ []))))))
    ∷ []

-- a sender drops the second alternative, and of one alternative no node is made
abbrev pub AlternativesAreDropped : Type 0
AlternativesAreDropped =
    NameGives dropping_rules M Received
    (placed (Choice (1 ∷ 2 ∷ [])) 10 ∷ placed (Lits (Zero ∷ [])) 10 ∷ placed (Lits (One ∷ [])) 14 ∷ [])
    × NameGives dropping_rules M Sent (placed (Lits (Zero ∷ [])) 10 ∷ [])

-- ---- <M> ::= <A : bit (2)> <A : bit (1)> <B : bit (val (A))> ;

abbrev pub repeated_rules : RulesV
repeated_rules =
    rule_M 0 59 (expr 8 57 (seq (exprs_of (
    field A 8 7 (Number 2) ∷ field A 22 7 (Number 1) ∷ field B 36 14 (Linear 1 A 0) ∷ []))))
    ∷ []

-- a count stands on the nearest field with the label
abbrev pub CountsStandOnTheNearest : Type 0
CountsStandOnTheNearest =
    NameGives repeated_rules M Received
    (placed (Seq (1 ∷ 3 ∷ 5 ∷ [])) 8
    ∷ placed (Named A 2) 8 ∷ placed (Field 1 (Fixed 2)) 13
    ∷ placed (Named A 4) 22 ∷ placed (Field 1 (Fixed 1)) 27
    ∷ placed (Named B 6) 36 ∷ placed (Field 1 (Counted 1 3 0)) 41 ∷ [])

-- ---- <M> ::= <A : bit (3)> { 0 | 1 <M> } ;

abbrev pub tail_rules : RulesV
tail_rules =
    rule_M 0 37 (expr 8 35 (seq (exprs_of (
    field A 8 7 (Number 3)
    ∷ expr 22 35 (group (expr 24 33 (choice (branches_of (
    record { error = false; body = zero 24 }
    ∷ record { error = false; body = expr 28 33 (seq (exprs_of (one 28 ∷ expr 30 33 (name M) ∷ []))) } ∷ [])))))
    ∷ []))))
    ∷ []

-- a rule in tail form is its items, the repetition of `1` and the items, and `0`
abbrev pub TailsAreRepetitions : Type 0
TailsAreRepetitions =
    NameGives tail_rules M Received
    (placed (Seq (1 ∷ 3 ∷ 8 ∷ [])) 8
    ∷ placed (Named A 2) 8 ∷ placed (Field 1 (Fixed 3)) 13
    ∷ placed (Many 4) 22 ∷ placed (Seq (5 ∷ 6 ∷ [])) 28 ∷ placed (Lits (One ∷ [])) 28
    ∷ placed (Named A 7) 8 ∷ placed (Field 1 (Fixed 3)) 13
    ∷ placed (Lits (Zero ∷ [])) 24 ∷ [])

-- ---- limits

abbrev pub inside_64 : Around
inside_64 = record { depth = 64; names = []; seen = [] }

-- the 16,385th node is refused, and what stands inside 64 nodes, names and braces
abbrev pub LimitsAreExact : Type 0
LimitsAreExact =
    (refusals_after 16383 (begins 3 ∷ begins 5 ∷ []) ≡ at TooManyNodes 5 ∷ [])
    × (entering inside_64 7 ≡ refused TooDeep 7 ∷ [])
