-- Worked examples of the definitions. Each rule is called M; where its parts stand in a text is left out.
use Rattle.std.specs.Prelude.{ℕ, true, false, List, [], ◌∷◌, codes}
use Rattle.csn_desc.specs.declared.reading.Reading.TheVariants.{Received, Sent}
use Rattle.csn_desc.specs.declared.symbol.Symbol.{Symbol}
use Rattle.csn_desc.specs.declared.symbol.Symbol.TheVariants.{Zero, One, Low, High}
use Rattle.csn_desc.specs.TreeV.{TreeV, empty, bits, row, named, trees_of}
use Rattle.csn_grammar.specs.declared.exponent.Exponent.{Exponent}
use Rattle.csn_grammar.specs.declared.exponent.Exponent.TheVariants.{Any, Number, Linear}
use Rattle.csn_grammar.specs.ExprV.{ExprV, expr, FormV, lits, bit, name, labelled, group, seq, choice, power, cut, both, sends, exprs_of, no_branch, branch}
use Rattle.csn_grammar.specs.RulesV.{RulesV}
use Rattle.csn_grammar.specs.Void.{Void}
use Rattle.csn_grammar.specs.Strings.{Strings, IsPlace}

abbrev pub M : List ℕ
M = codes "M"

-- the labels A, B and N
abbrev pub A : List ℕ
A = codes "A"

abbrev pub B : List ℕ
B = codes "B"

abbrev pub N : List ℕ
N = codes "N"

abbrev pub part : FormV → ExprV
part form = expr 0 0 form

-- items one after another
abbrev pub sequence : List ExprV → ExprV
sequence items = part (seq (exprs_of items))

abbrev pub braces : ExprV → ExprV
braces x = part (group x)

abbrev pub word : List Symbol → ExprV
word run = part (lits run)

-- `bit` with an exponent, and such a field with a label
abbrev pub bits_by : Exponent → ExprV
bits_by count = part (power (part bit) count)

abbrev pub field : List ℕ → Exponent → ExprV
field label count = part (labelled label (bits_by count))

abbrev pub one_rule : ExprV → RulesV
one_rule body = record { name = M; span = record { start = 0; end = 0 }; body = body } ∷ []

-- the tree of a labelled field
abbrev pub leaf : List ℕ → List ℕ → TreeV
leaf label b = named label (bits b)

abbrev pub row_of : List TreeV → TreeV
row_of trees = row (trees_of trees)

-- ---- <A : bit (3)> 0 <B : bit (4)>

abbrev pub fields : RulesV
fields = one_rule (sequence (field A (Number 3) ∷ word (Zero ∷ []) ∷ field B (Number 4) ∷ []))

-- the octet A5 is A, which is 5, a 0, and B, which is 5
abbrev pub A5HasItsTree : Type 0
A5HasItsTree =
    Strings fields M Received (1 ∷ 0 ∷ 1 ∷ 0 ∷ 0 ∷ 1 ∷ 0 ∷ 1 ∷ [])
    (row_of (leaf A (1 ∷ 0 ∷ 1 ∷ []) ∷ empty ∷ leaf B (0 ∷ 1 ∷ 0 ∷ 1 ∷ []) ∷ []))

abbrev pub octet_B5 : List ℕ
octet_B5 = 1 ∷ 0 ∷ 1 ∷ 1 ∷ 0 ∷ 1 ∷ 0 ∷ 1 ∷ []

-- the octet B5 is followed up to the bit where the rule has a 0, and has no tree
abbrev pub B5IsRefusedAtThree : Type 0
B5IsRefusedAtThree = IsPlace fields M Received octet_B5 3 × ((t : TreeV) → ¬ Strings fields M Received octet_B5 t)

-- ---- bit (2) { L H }

-- behind one bit, and behind two, `L H` is other bits
abbrev pub letters : ℕ → RulesV
letters before = one_rule (sequence (bits_by (Number before) ∷ word (Low ∷ High ∷ []) ∷ []))

abbrev pub LettersGoByPlace : Type 0
LettersGoByPlace =
    Strings (letters 1) M Received (0 ∷ 0 ∷ 0 ∷ []) (row_of (bits (0 ∷ []) ∷ empty ∷ []))
    × Strings (letters 2) M Received (0 ∷ 0 ∷ 1 ∷ 1 ∷ []) (row_of (bits (0 ∷ 0 ∷ []) ∷ empty ∷ []))

-- ---- <spare padding>

abbrev pub padding : RulesV
padding = one_rule (part (name (codes "spare padding")))

-- a receiver takes any bits, and a sender writes the pattern alone
abbrev pub PaddingGoesByReading : Type 0
PaddingGoesByReading =
    Strings padding M Received (0 ∷ 0 ∷ 0 ∷ []) (bits (0 ∷ 0 ∷ 0 ∷ []))
    × Strings padding M Sent (0 ∷ 0 ∷ 1 ∷ []) (bits (0 ∷ 0 ∷ 1 ∷ []))
    × ((t : TreeV) → ¬ Strings padding M Sent (0 ∷ 0 ∷ 0 ∷ []) t)

-- ---- <N : bit (2)> bit (val (N) + 1)

abbrev pub counted : RulesV
counted = one_rule (sequence (field N (Number 2) ∷ bits_by (Linear 1 N 1) ∷ []))

-- where N is 2, three bits stand behind it
abbrev pub CountsGoByValue : Type 0
CountsGoByValue =
    Strings counted M Received (1 ∷ 0 ∷ 0 ∷ 1 ∷ 1 ∷ []) (row_of (leaf N (1 ∷ 0 ∷ []) ∷ bits (0 ∷ 1 ∷ 1 ∷ []) ∷ []))

-- ---- <N : bit> <N : bit (2)> bit (val (N))

abbrev pub repeated_label : RulesV
repeated_label = one_rule (sequence (field N (Number 1) ∷ field N (Number 2) ∷ bits_by (Linear 1 N 0) ∷ []))

-- of two fields with one label the nearest earlier one counts
abbrev pub NearestLabelCounts : Type 0
NearestLabelCounts =
    Strings repeated_label M Received (1 ∷ 1 ∷ 0 ∷ 0 ∷ 1 ∷ [])
    (row_of (leaf N (1 ∷ []) ∷ leaf N (1 ∷ 0 ∷ []) ∷ bits (0 ∷ 1 ∷ []) ∷ []))

-- ---- bit (2) bit (2) & { L H }

abbrev pub window : RulesV
window =
    one_rule
    (sequence (bits_by (Number 2) ∷ part (both (bits_by (Number 2)) (braces (word (Low ∷ High ∷ [])))) ∷ []))

-- in a window the octet positions go on from those outside
abbrev pub PlacesGoOnInWindows : Type 0
PlacesGoOnInWindows = Strings window M Received (0 ∷ 0 ∷ 1 ∷ 1 ∷ []) (row_of (bits (0 ∷ 0 ∷ []) ∷ empty ∷ []))

-- ---- { <A : bit (2)> <B : bit (2)> } //

abbrev pub truncated : RulesV
truncated = one_rule (braces (part (cut (exprs_of (field A (Number 2) ∷ field B (Number 2) ∷ [])))))

abbrev pub TruncationsTakeFirstParts : Type 0
TruncationsTakeFirstParts =
    Strings truncated M Received [] (row_of [])
    × Strings truncated M Received (0 ∷ 1 ∷ []) (row_of (leaf A (0 ∷ 1 ∷ []) ∷ []))
    × Strings truncated M Received (0 ∷ 1 ∷ 1 ∷ 1 ∷ []) (row_of (leaf A (0 ∷ 1 ∷ []) ∷ leaf B (1 ∷ 1 ∷ []) ∷ []))

-- ---- { 1 <A : bit> } ** 0

abbrev pub repeated : RulesV
repeated =
    one_rule
    (sequence (part (power (braces (sequence (word (One ∷ []) ∷ field A (Number 1) ∷ []))) Any) ∷ word (Zero ∷ []) ∷ []))

abbrev pub RepetitionsHaveARow : Type 0
RepetitionsHaveARow =
    Strings repeated M Received (1 ∷ 0 ∷ 1 ∷ 1 ∷ 0 ∷ [])
    (row_of (row_of (row_of (empty ∷ leaf A (0 ∷ []) ∷ []) ∷ row_of (empty ∷ leaf A (1 ∷ []) ∷ []) ∷ []) ∷ empty ∷ []))

-- ---- { 0 <A : bit> ! bit ** = <no string> }

-- what a sender never writes
abbrev pub never_sent : ExprV
never_sent = part (sends (bits_by Any) (part (name (codes "no string"))))

abbrev pub guarded : RulesV
guarded =
    one_rule
    (braces (part (choice (branch false (sequence (word (Zero ∷ []) ∷ field A (Number 1) ∷ [])) (branch true never_sent no_branch)))))

-- an error branch is empty of strings for a sender and dropped for both, so the choice is its other branch
abbrev pub ErrorBranchesAreDropped : Type 0
ErrorBranchesAreDropped =
    Void guarded Sent never_sent
    × Strings guarded M Received (0 ∷ 1 ∷ []) (row_of (empty ∷ leaf A (1 ∷ []) ∷ []))

-- ---- <A : bit (3)> { 0 | 1 <M> }

abbrev pub go_on_or_stop : ExprV
go_on_or_stop =
    part (choice (branch false (word (Zero ∷ [])) (branch false (sequence (word (One ∷ []) ∷ part (name M) ∷ [])) no_branch)))

abbrev pub tail : RulesV
tail = one_rule (sequence (field A (Number 3) ∷ braces go_on_or_stop ∷ []))

-- a rule in tail form: its items, the row of its repetitions, and the word that stops it
abbrev pub TailFormsHaveARow : Type 0
TailFormsHaveARow =
    Strings tail M Received (1 ∷ 0 ∷ 1 ∷ 1 ∷ 0 ∷ 1 ∷ 0 ∷ 0 ∷ [])
    (row_of
    (leaf A (1 ∷ 0 ∷ 1 ∷ [])
    ∷ row_of (row_of (empty ∷ leaf A (0 ∷ 1 ∷ 0 ∷ []) ∷ []) ∷ [])
    ∷ empty ∷ []))
