-- Running the reader over tokens.
use Rattle.std.proofs.Common.{◌≡◌, ℕ, Bool, List, [], ◌∷◌, Option, Some}
use Rattle.std.specs.Option.{option_and_then}
use Rattle.csn_lexer.specs.declared.token.TokenKind.{TokenKind}
use Rattle.csn_grammar.specs.declared.reader.body.Frame.{Frame}
use Rattle.csn_grammar.specs.declared.reader.body.Joint.{Joint}
use Rattle.csn_grammar.specs.declared.reader.body.Level.{Level}
use Rattle.csn_grammar.specs.declared.reader.body.Mode.{Mode}
use Rattle.csn_grammar.specs.declared.reader.body.Next.{Next}
use Rattle.csn_grammar.specs.declared.reader.state.State.TheVariants.{Between, Body}
use Rattle.csn_grammar.specs.declared.reader.state.Reader.{Reader}
use Rattle.csn_grammar.specs.ExprV.{ExprV, BranchV}
use Rattle.csn_grammar.specs.RulesV.{RulesV}
use Rattle.csn_grammar.specs.TokenV.{TokenV, token}
use Rattle.csn_grammar.specs.reader.RuleSteps.{after_body, reader_step, finished}

abbrev pub token_step : Reader → TokenV → Option Reader
token_step r (token k s n w) = reader_step r.rules r.state k s n w

abbrev pub run : Reader → List TokenV → Option Reader
run r [] = Some r
run r (t ∷ ts) = option_and_then (λ q. run q ts) (token_step r t)

abbrev pub ends : Reader → Option RulesV
ends r = finished r.rules r.state

-- what a step leads to, over the tokens behind it
abbrev pub pour : Option Reader → List TokenV → Option RulesV
pour o ts = option_and_then ends (option_and_then (λ q. run q ts) o)

abbrev pub parse : Reader → List TokenV → Option RulesV
parse r ts = option_and_then ends (run r ts)

abbrev pub start : Reader
start = record { rules = []; state = Between }

-- an expression of which something is read
abbrev pub level_of : List BranchV → Bool → List ExprV → Joint → Level
level_of bs e xs j = record { branches = bs; error = e; items = xs; joint = j }

-- a step through a body
abbrev pub Step : Type 0
Step = TokenKind → ℕ → ℕ → List ℕ → Option Next

module _ (rules : RulesV) (begin : ℕ) (title : List ℕ) where
  abbrev pub in_body : List Frame → Level → Mode → Reader
  in_body frames level mode =
      record { rules = rules; state = Body begin title (record { frames = frames; level = level; mode = mode }) }

  -- the tokens lead to these rules, the first of them by this step
  abbrev pub Leads : Step → List TokenV → RulesV → Type 0
  Leads f [] out = ⊥
  Leads f (token k s n w ∷ ts) out = pour (after_body rules begin title n (f k s n w)) ts ≡ Some out

  -- the tokens lead from this mode to these rules
  abbrev pub Comes : List Frame → Level → Mode → List TokenV → RulesV → Type 0
  Comes frames level mode ts out = parse (in_body frames level mode) ts ≡ Some out
