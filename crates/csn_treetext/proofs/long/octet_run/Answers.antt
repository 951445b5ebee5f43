use Rattle.std.proofs.Common.{◌≡◌, ◌<◌, ◌+◌, ◌*◌, ◌++◌, ◌∷◌, [], None, length, sym, ap, ◌∙◌, subst, arith, inl, inr}
use Rattle.std.proofs.lemmas.List.{length_push}
use Rattle.csn_treetext.specs.declared.bounds.TheConstants.{MOST_OCTETS}
use Rattle.csn_treetext.specs.declared.version.Version.TheVariants.{Second}
use Rattle.csn_treetext.specs.reader.Mode.{Octets}
use Rattle.csn_treetext.specs.reader.Machine.{state}
use Rattle.csn_treetext.specs.reader.Reading.{Comes}
use Rattle.csn_treetext.proofs.StopFacts.{octet_more}
use Rattle.csn_treetext.proofs.long.octet_run.Goals as goal

pub loop-octet-preserved : goal.loop-octet-preserved
loop-octet-preserved c =
    let (begins, within, few, comes) = c.loop-octet.invariant in
    let (low, octet) = c.in-Some.ensures.some in
    let (high, other, first, second, is) = octet in
    let room : length c.loop-octet.octets.items < MOST_OCTETS = omega (arith, c.loop-octet-test.true) in
    let gathered : c.push.new.self.items ≡ c.loop-octet.octets.items ++ (16 * high + other) ∷ [] =
    c.in_ok-push-in-Some.ensures.items ∙ ap (λ o. c.loop-octet.octets.items ++ o ∷ []) is in (
      omega arith,
      omega arith,
      omega (arith, ap length gathered, length_push c.loop-octet.octets.items (16 * high + other), room),
      λ stack e.
          subst (λ l. Comes Second c.args.text.now (c.loop-octet.end + 2) (state (Octets l None) stack)) (sym gathered)
          (octet_more c.args.text.now c.loop-octet.end c.loop-octet.octets.items high other stack (comes stack e) low first second room),
    )

pub returns-in-None : goal.returns-in-None
returns-in-None c =
    let (begins, within, few, comes) = c.loop-octet.invariant in
    record { comes = comes; stops = inr c.in-None.ensures.none; from = begins; within = within; few = few }

pub returns : goal.returns
returns c =
    let (begins, within, few, comes) = c.loop-octet.invariant in
    record { comes = comes; stops = inl (omega (arith, c.loop-octet-test.false)); from = begins; within = within; few = few }
