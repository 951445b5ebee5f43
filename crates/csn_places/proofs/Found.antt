-- What the walk through the asked rule adds is where the nodes of its description stand.
use Rattle.std.proofs.Common.{◌≡◌, ◌↔◌, ◌⊎◌, inl, inr, ℕ, Bool, true, false, IsTrue, List, [], ◌++◌, length, map, refl, sym, ◌∙◌, ap, subst, arith}
use Rattle.std.proofs.Common.{Some, Result, Ok, Err}
use Rattle.std.specs.Prelude.{IfOk}
use Rattle.std.proofs.lemmas.List.{length-map}
use Rattle.csn_desc.specs.declared.reading.Reading.{Reading}
use Rattle.csn_desc.specs.Nodes.{DescV}
use Rattle.csn_grammar.specs.declared.rules.Rule.{Rule}
use Rattle.csn_grammar.specs.ExprV.{ExprV}
use Rattle.csn_grammar.specs.RulesV.{RulesV}
use Rattle.csn_grammar.specs.Names.{rule_of}
use Rattle.csn_grammar.proofs.VoidFacts.{same_rule}
use Rattle.csn_resolve.specs.Gives.{Placed}
use Rattle.csn_resolve.specs.Laws.{EmptinessIsDecided}
use Rattle.csn_resolve.proofs.ResolveFacts.{rule_quiet}
use Rattle.csn_places.specs.declared.origin.Origin.{Origin}
use Rattle.csn_places.specs.Origins.{Tells, rule_origins, named_at}
use Rattle.csn_places.specs.Places.{ArePlaces, AreOrigins, OriginsArePlaces}
use Rattle.csn_places.proofs.Given.{rule_given}

-- whether an expression is empty of strings, as a test
abbrev test_of : {P : Type 0} → P ⊎ (P → ⊥) → Bool
test_of (inl holds) = true
test_of (inr fails) = false

test_told : {P : Type 0} (o : P ⊎ (P → ⊥)) → IsTrue (test_of o) ↔ P
test_told (inl holds) = (λ p. holds, λ q. refl)
test_told (inr fails) = (λ p. absurd (cc), λ q. absurd (fails q))

-- the origins of a rule in a reading
abbrev pub of_rule : RulesV → (ExprV → Bool) → Reading → List ℕ → Rule → List Origin
of_rule rules void r round rule = rule_origins r void round (named_at rules r void 64 round) rule

pub are_origins :
    (rules : RulesV) (n : List ℕ) (d : DescV) (rule : Rule) (r : Reading) (round : List ℕ) (old new : List Origin)
    → EmptinessIsDecided → rule_of rules n ≡ Some rule → r ≡ d.reading → round ≡ [] → old ≡ []
    → ((void : ExprV → Bool) → Tells rules r void → new ≡ old ++ of_rule rules void r round rule) → AreOrigins rules n d new
are_origins rules n d rule r round old new decided at same none begun added =
    let void : ExprV → Bool = λ x. test_of (decided rules d.reading x) in
    let told : Tells rules d.reading void = λ x. test_told (decided rules d.reading x) in
    let Q : Reading → Type 0 = λ z. Tells rules z void in
    record {
      void = void;
      told = told;
      rule = rule;
      found = at;
      are = added void (subst Q (sym same) told)
          ∙ (ap (λ l. l ++ of_rule rules void r round rule) begun
          ∙ (ap (λ z. of_rule rules void z round rule) same ∙ ap (λ z. of_rule rules void d.reading z rule) none));
    }

pub origins_are_places : OriginsArePlaces
origins_are_places rules n d os resolved h =
    let given = resolved.given in
    let one : h.rule ≡ given.rule = sym (same_rule rules n given.found h.found) in
    let is : os ≡ rule_origins d.reading h.void [] (named_at rules d.reading h.void 64 []) given.rule =
    h.are ∙ ap (λ z. rule_origins d.reading h.void [] (named_at rules d.reading h.void 64 []) z) one in
    let quiet = rule_quiet rules d.reading n given.found resolved.accepted in
    record {
      nodes = resolved.nodes;
      given = given;
      are = ap (λ (z : DescV). z.nodes) resolved.is;
      stand = ap (λ l. map (λ (o : Origin). o.place) l) is
          ∙ rule_given rules d.reading h.void h.told given.gives 0 64 [] (omega arith) quiet;
    }

pub many_places : (rules : RulesV) (n : List ℕ) (d : DescV) (os : List Origin) → ArePlaces rules n d os → length os ≡ length d.nodes
many_places rules n d os h =
    sym (length-map os (λ (o : Origin). o.place))
    ∙ (ap length h.stand
    ∙ (length-map h.nodes (λ (p : Placed). p.place)
    ∙ (sym (length-map h.nodes (λ (p : Placed). p.node)) ∙ sym (ap length h.are))))

pub if_ok_more : {A E : Type 0} (answer : Result A E) (P Q : A → Type 0) → ((a : A) → P a → Q a) → IfOk answer P → IfOk answer Q
if_ok_more (Ok a) P Q more h = more a h
if_ok_more (Err e) P Q more h = h
