-- What the text of a description comes to, for a rule and a reading: a certified description, or a line that says
-- why there is none. The order is this project's own choice: first whether the text has rules, then whether they are
-- refused, then conflicts.
use Rattle.std.specs.Prelude.{◌≡◌, ℕ, ◌+◌, ◌≤◌, List, [], ◌∷◌, ◌++◌, length, map, codes}
use Rattle.std.specs.List.{flat_map}
use Rattle.std.specs.Fmt.{decimal}
use Rattle.csn_catalogue.specs.declared.entry.Entry.{Entry}
use Rattle.csn_catalogue.specs.Entries.{entry_root}
use Rattle.csn_catalogue.specs.Text.{catalogue_text}
use Rattle.csn_desc.specs.declared.reading.Reading.{Reading}
use Rattle.csn_desc.specs.Nodes.{DescV}
use Rattle.csn_grammar.specs.RulesV.{RulesV}
use Rattle.csn_grammar.specs.Place.{HasRules, IsSyntaxPlace}
use Rattle.csn_resolve.specs.declared.why.Why.{Why}
use Rattle.csn_resolve.specs.Why.{number_of}
use Rattle.csn_resolve.specs.Resolved.{IsResolved, IsRefused}
use Rattle.csn_look.specs.declared.word.TheConstants.{MOST_WORD}
use Rattle.csn_certify.specs.declared.conflict.Conflict.{Conflict}
use Rattle.csn_certify.specs.declared.conflict.Conflict.TheVariants.{TwoEmpty, NotFirm, Overlap, EmptyClash, LoopClash, NotLast}
use Rattle.csn_certify.specs.Conflicts.{Certified, IsFirstConflict}
use Rattle.csn_grammar.specs.declared.fault.GrammarFault.TheVariants.{Syntax, NoMemory as no_memory_for_rules}
use Rattle.csn_resolve.specs.declared.fault.ResolveFault.TheVariants.{Refused, NoMemory as no_memory_for_nodes}
use Rattle.csn_certify.specs.declared.certifying.CertifyFault.TheVariants.{Conflict as has_conflict, NoMemory as no_memory_for_plan}
use Rattle.csn_plan.specs.declared.compiling.NoPlan.{NoPlan}
use Rattle.csn_plan.specs.declared.compiling.NoPlan.TheVariants.{Rules, Description, Plan}
use Rattle.csn_plan.specs.declared.compiling.TheConstants.{MOST_DESCRIPTION}
use Rattle.csn_plan.specs.declared.ended.Ended.{Ended}
use Rattle.csn_plan.specs.declared.ended.Ended.TheVariants.{BadDescription, NotCertified}

-- what is compiled: a rule of a text, for a reading
pub record RuleOf : Type 0 where
  pub text : List ℕ
  pub name : List ℕ
  pub reading : Reading

-- the rule of the catalogue that describes the blocks of an entry
abbrev pub rule_of_entry : Reading → Entry → RuleOf
rule_of_entry reading entry = record { text = catalogue_text; name = entry_root entry; reading = reading }

-- fields of a line, with a space before each
abbrev pub spaced : List (List ℕ) → List ℕ
spaced fields = flat_map (λ field. 32 ∷ field) fields

-- a line of a word and numbers
abbrev pub line_of : List ℕ → List ℕ → List ℕ
line_of word numbers = word ++ spaced (map decimal numbers)

-- the number of a kind of conflict, and then those that tell which it is
abbrev pub numbers_of : Conflict → List ℕ
numbers_of (TwoEmpty node i j) = 1 ∷ node ∷ i ∷ j ∷ []
numbers_of (NotFirm node i) = 2 ∷ node ∷ i ∷ []
numbers_of (Overlap node octet i j word_i word_j) = 3 ∷ node ∷ octet ∷ i ∷ j ∷ []
numbers_of (EmptyClash node octet bit) = 4 ∷ node ∷ octet ∷ bit ∷ []
numbers_of (LoopClash node octet bit) = 5 ∷ node ∷ octet ∷ bit ∷ []
numbers_of (NotLast node octet) = 6 ∷ node ∷ octet ∷ []

-- bits as digits
abbrev pub digits_of : List ℕ → List ℕ
digits_of bits = map (λ bit. 48 + bit) bits

-- the words of an overlap
abbrev pub words_of : Conflict → List (List ℕ)
words_of (TwoEmpty node i j) = []
words_of (NotFirm node i) = []
words_of (Overlap node octet i j word_i word_j) = digits_of word_i ∷ digits_of word_j ∷ []
words_of (EmptyClash node octet bit) = []
words_of (LoopClash node octet bit) = []
words_of (NotLast node octet) = []

-- the line that tells a conflict
abbrev pub conflict_line : Conflict → List ℕ
conflict_line conflict = line_of (codes "conflict") (numbers_of conflict) ++ spaced (words_of conflict)

-- the line that tells of a certified description how many nodes it has
abbrev pub certified_line : DescV → List ℕ
certified_line d = line_of (codes "certified") (length d.nodes ∷ [])

-- the rule of the text has this description, and it is certified
pub record IsCompiled (text name : List ℕ) (reading : Reading) (rules : RulesV) (d : DescV) : Type 0 where
  pub has_rules : HasRules text rules
  pub resolved : IsResolved rules name reading d
  pub certified : Certified d MOST_WORD

-- the text is no longer than a description may be, and its rule has a certified description
abbrev pub HasJob : RuleOf → Type 0
HasJob rule =
    (length rule.text ≤ MOST_DESCRIPTION) × (rules : RulesV) × (d : DescV)
    × IsCompiled rule.text rule.name rule.reading rules d

-- the rules of the catalogue give the entries these descriptions, one for each in their order
abbrev pub AreCompiled : RulesV → Reading → List Entry → List DescV → Type 0
AreCompiled rules reading [] [] = Unit {0}
AreCompiled rules reading [] (d ∷ ds) = ⊥
AreCompiled rules reading (entry ∷ entries) [] = ⊥
AreCompiled rules reading (entry ∷ entries) (d ∷ ds) =
    IsCompiled catalogue_text (entry_root entry) reading rules d × AreCompiled rules reading entries ds

-- the rule of the text has no certified description; this line says why, and a run ends so
pub data HasNoPlan (text name : List ℕ) (reading : Reading) (line : List ℕ) (ended : Ended) : Type 0 where
  no_rules : (place : ℕ) → IsSyntaxPlace text place → line ≡ line_of (codes "syntax") (place ∷ []) → ended ≡ BadDescription
      → HasNoPlan text name reading line ended
  rules_refused : (rules : RulesV) (why : Why) (place : ℕ) → HasRules text rules → IsRefused rules name reading why place
      → line ≡ line_of (codes "description") (number_of why ∷ place ∷ []) → ended ≡ BadDescription
      → HasNoPlan text name reading line ended
  not_certified : (rules : RulesV) (d : DescV) (conflict : Conflict) → HasRules text rules
      → IsResolved rules name reading d → IsFirstConflict d MOST_WORD conflict → line ≡ conflict_line conflict
      → ended ≡ NotCertified → HasNoPlan text name reading line ended

-- what is known of the rule of the text for this reason; for want of memory nothing
abbrev pub IsReason : List ℕ → List ℕ → Reading → NoPlan → Type 0
IsReason text name reading (Rules (Syntax place)) = IsSyntaxPlace text place
IsReason text name reading (Rules no_memory_for_rules) = Unit {0}
IsReason text name reading (Description (Refused why place)) =
    (rules : RulesV) × HasRules text rules × IsRefused rules name reading why place
IsReason text name reading (Description no_memory_for_nodes) = Unit {0}
IsReason text name reading (Plan (has_conflict conflict)) =
    (rules : RulesV) × (d : DescV) × HasRules text rules × IsResolved rules name reading d × IsFirstConflict d MOST_WORD conflict
IsReason text name reading (Plan no_memory_for_plan) = Unit {0}

-- the line that tells the reason, and the end of a run
abbrev pub Tells : NoPlan → List ℕ → Ended → Type 0
Tells (Rules (Syntax place)) line ended = (line ≡ line_of (codes "syntax") (place ∷ [])) × (ended ≡ BadDescription)
Tells (Rules no_memory_for_rules) line ended = ⊥
Tells (Description (Refused why place)) line ended =
    (line ≡ line_of (codes "description") (number_of why ∷ place ∷ [])) × (ended ≡ BadDescription)
Tells (Description no_memory_for_nodes) line ended = ⊥
Tells (Plan (has_conflict conflict)) line ended = (line ≡ conflict_line conflict) × (ended ≡ NotCertified)
Tells (Plan no_memory_for_plan) line ended = ⊥
