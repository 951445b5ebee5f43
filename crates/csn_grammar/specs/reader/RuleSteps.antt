-- What the reader makes of the tokens of a text, one after another. `Grammar` says what rules there
-- are; this says what the parts of the reader compute, and is read only with their proofs.
use Rattle.std.specs.Prelude.{ℕ, List, [], ◌∷◌, ◌++◌, Option, Some, None}
use Rattle.csn_lexer.specs.declared.token.TokenKind.{TokenKind}
use Rattle.csn_lexer.specs.declared.token.TokenKind.TheVariants as kind
use Rattle.csn_grammar.specs.declared.rules.Rule.{Rule}
use Rattle.csn_grammar.specs.declared.reader.body.Mode.TheVariants.{Side}
use Rattle.csn_grammar.specs.declared.reader.body.Next.{Next}
use Rattle.csn_grammar.specs.declared.reader.body.Next.TheVariants as next
use Rattle.csn_grammar.specs.declared.reader.state.State.{State}
use Rattle.csn_grammar.specs.declared.reader.state.State.TheVariants.{Between, Less, Name, Named, Body}
use Rattle.csn_grammar.specs.declared.reader.state.Reader.{Reader}
use Rattle.csn_grammar.specs.ExprV.{ExprV}
use Rattle.csn_grammar.specs.RulesV.{RulesV}
use Rattle.csn_grammar.specs.reader.BodySteps.{fresh, body_step}

abbrev pub reading : RulesV → State → Option Reader
reading rules state = Some (record { rules = rules; state = state })

abbrev pub rule_of : ℕ → List ℕ → ExprV → ℕ → Rule
rule_of start name body n = record { name = name; span = record { start = start; end = n }; body = body }

abbrev pub after_body : RulesV → ℕ → List ℕ → ℕ → Option Next → Option Reader
after_body rules start name n None = None
after_body rules start name n (Some (next.Goes body)) = reading rules (Body start name body)
after_body rules start name n (Some (next.Ends x)) = reading (rules ++ rule_of start name x n ∷ []) Between

abbrev pub between_step : RulesV → TokenKind → ℕ → Option Reader
between_step rules kind.Less s = reading rules (Less s)
between_step rules _ s = None

abbrev pub less_step : RulesV → ℕ → TokenKind → List ℕ → Option Reader
less_step rules start kind.Word w = reading rules (Name start w)
less_step rules start _ w = None

abbrev pub name_step : RulesV → ℕ → List ℕ → TokenKind → List ℕ → Option Reader
name_step rules start words kind.Word w = reading rules (Name start (words ++ 32 ∷ w))
name_step rules start words kind.Greater w = reading rules (Named start words)
name_step rules start words _ w = None

abbrev pub named_step : RulesV → ℕ → List ℕ → TokenKind → Option Reader
named_step rules start name kind.Define =
    reading rules (Body start name (record { frames = []; level = fresh; mode = Side }))
named_step rules start name _ = None

abbrev pub reader_step : RulesV → State → TokenKind → ℕ → ℕ → List ℕ → Option Reader
reader_step rules Between k s n w = between_step rules k s
reader_step rules (Less start) k s n w = less_step rules start k w
reader_step rules (Name start words) k s n w = name_step rules start words k w
reader_step rules (Named start name) k s n w = named_step rules start name k
reader_step rules (Body start name body) k s n w =
    after_body rules start name n (body_step body.frames body.level body.mode k s n w)

-- the rules, where a text may end
abbrev pub finished : RulesV → State → Option RulesV
finished [] state = None
finished (r ∷ rules) Between = Some (r ∷ rules)
finished (r ∷ rules) _ = None
