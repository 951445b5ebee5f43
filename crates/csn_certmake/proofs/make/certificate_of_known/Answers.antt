use Rattle.std.proofs.Common.{◌≡◌, slice_get, Some, Result, Ok, Err, IfOk, length, ◌∙◌, sym, subst, arith, List, ℕ, ◌<◌}
use Rattle.std.specs.Prelude.{Contains}
use Rattle.csn_desc.specs.Nodes.{DescV, parts_of}
use Rattle.csn_desc.specs.Formed.{IsDescription}
use Rattle.csn_desc.proofs.Numbering.{parts_later}
use Rattle.std.proofs.lemmas.Option.{slice_get_within}
use Rattle.csn_bits.specs.declared.fault.NoMemory.{NoMemory}
use Rattle.csn_cert.specs.PatternV.{PatternV}
use Rattle.csn_cert.specs.CertificateV.{NodeV, IsCertificate}
use Rattle.csn_look.specs.LookV.{LookV}
use Rattle.csn_look.specs.ReachV.{ReachV}
use Rattle.csn_certmake.specs.Rows.{IsKnown, TellsNodes, HaveRows}
use Rattle.csn_certmake.specs.Claimed.{ClaimsPatterns, ClaimsLookAhead}
use Rattle.csn_certmake.proofs.Claiming.{TellsAll, nullable_told, reached_told, ends_told, start_told, follow_told, patterns_told}
use Rattle.csn_certmake.proofs.Making.{HaveTheirs, node_has, node_made}
use Rattle.csn_certmake.proofs.make.certificate_of_known.Goals as goal

patterns_claimed : (d : DescV) (c : List NodeV) (rows : List (List (List PatternV)))
    → IsDescription d → HaveRows d rows → TellsAll d c rows → ClaimsPatterns d c
patterns_claimed d c rows is have all i o n p at low reached =
    let inside = slice_get_within d.nodes i n at in
    let later : (j m : ℕ) → slice_get (parts_of n) j ≡ Some m → m < length d.nodes =
    parts_later d i n (λ (k : ℕ). k < length d.nodes) is at (λ k above high. high) in
    let theirs : HaveTheirs c rows (parts_of n) = λ j m a there few. patterns_told d c rows all m a (later j m there)
    few ((have.each m (later j m there)).none a few) in
    let here = patterns_told d c rows all i o inside low ((have.each i inside).none o low) in
    let made = (have.each i inside).made n o at low reached p in (
      λ has. node_made c rows d.reading n o p theirs low (made.0 (subst (λ (l : List PatternV). Contains l p) here has)),
      λ has. subst (λ (l : List PatternV). Contains l p) (sym here) (made.1 (node_has c rows d.reading n o p theirs low has)),
    )

all_claimed : (r : Result (List NodeV) NoMemory) (look : LookV) (reach : ReachV) (rows : List (List (List PatternV)))
    (d : DescV) → IsDescription d → HaveRows d rows → IsKnown d look reach → length rows ≡ length d.nodes
    → IfOk r (TellsNodes look reach rows) → IfOk r IsCertificate → IfOk r (ClaimsLookAhead d)
all_claimed (Ok c) look reach rows d is have known same tells formed =
    let all : TellsAll d c rows = λ i inside. tells.nodes d known i (omega (arith, inside, same)) in
    record {
      certificate = formed;
      number = tells.same ∙ same;
      nullable = nullable_told d c rows all;
      reached = reached_told d c rows all;
      ends = ends_told d c rows all;
      start = start_told d c rows all;
      follow = follow_told d c rows all;
      patterns = patterns_claimed d c rows is have all;
    }
all_claimed (Err e) look reach rows d is have known same tells formed = tt

pub returns-clause-description : goal.returns-clause-description
returns-clause-description c = c.patterns_of.ensures.description

pub returns-in_err-rows-clause-description : goal.returns-in_err-rows-clause-description
returns-in_err-rows-clause-description c = c.patterns_of.ensures.description

pub patterns_of-requires : goal.patterns_of-requires
patterns_of-requires c = c.requires.reached

pub returns-clause-claims : goal.returns-clause-claims
returns-clause-claims c =
    let d = c.args.desc.now in
    let rows = subst (λ (rows : List (List (List PatternV))). HaveRows d rows) (sym c.as_slice.ensures.value) c.in_ok-rows.ensures.rows in
    all_claimed c.certificate_of.result c.args.look.now c.args.reach.now c.as_slice.result.now d
    c.patterns_of.ensures.description rows c.requires rows.same c.certificate_of.ensures.nodes
    c.certificate_of.ensures.well_formed
