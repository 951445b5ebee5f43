-- Names, and what they mean. In 3GPP TS 24.007 Annex B a name means what its rule says. The four names
-- that are built in are this project's own choice: they write the spare bits and the spare padding of TS
-- 44.060, and the empty set of bit strings.
use Rattle.std.specs.Prelude.{ℕ, Bool, ◌==◌, if◌then◌else◌, List, [], ◌∷◌, codes, Option, None}
use Rattle.std.specs.List.{find, list_any}
use lib.Pointwise.{pointwise}
use Rattle.csn_grammar.specs.declared.built_in.BuiltIn.{BuiltIn}
use Rattle.csn_grammar.specs.declared.built_in.BuiltIn.TheVariants.{SpareBit, SpareLow, SparePadding, NoString}
use Rattle.csn_grammar.specs.declared.rules.Rule.{Rule}
use Rattle.csn_grammar.specs.RulesV.{RulesV}

-- two names, or two labels, are compared byte for byte
abbrev pub same_name : List ℕ → List ℕ → Bool
same_name a b = pointwise (λ x y. x == y) a b

-- how a built-in name is written
abbrev pub name_of : BuiltIn → List ℕ
name_of SpareBit = codes "spare bit"
name_of SpareLow = codes "spare L"
name_of SparePadding = codes "spare padding"
name_of NoString = codes "no string"

-- the names that every description has
abbrev pub built_in_names : List (List ℕ)
built_in_names = name_of SpareBit ∷ name_of SpareLow ∷ name_of SparePadding ∷ name_of NoString ∷ []

-- whether a name is built in, so that no rule may have it
abbrev pub is_built_in : List ℕ → Bool
is_built_in n = list_any (λ m. same_name m n) built_in_names

-- the rule that a name means: the first one that has it, and none for a name that is built in
abbrev pub rule_of : RulesV → List ℕ → Option Rule
rule_of rules n = if is_built_in n then None else find (λ rule. same_name rule.name n) rules
