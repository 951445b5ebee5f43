use Rattle.csn_run.proofs.laws.known.Goals as goal

pub returns : goal.returns
returns c =
    record {
      of_texts = record {
        one_list = c.one_list_of_rules.ensures;
        answered = c.names_are_answered.ensures;
        decided = c.texts_are_decided.ensures.decided;
        apart = c.texts_are_decided.ensures.apart;
        one_place = c.texts_are_decided.ensures.place;
        shaped = c.rules_of_texts_are_shaped.ensures.shaped;
        refused_once = c.refusals_are_one.ensures.first;
        refused_or_resolved = c.refusals_are_one.ensures.or_resolved;
        resolved_once = c.descriptions_are_one.ensures.name;
        first_is_one = c.first_conflict_is_one.ensures.one;
        no_conflict = c.first_conflict_is_one.ensures.not_certified;
        one_certificate = c.certificates_are_one.ensures.text;
        descriptions = c.resolved_are_descriptions.ensures;
        of_one_certificate = c.texts_are_of_one_certificate.ensures.certificate;
        one_fault = c.first_fault_is_one.ensures.one;
        no_fault = c.first_fault_is_one.ensures.none;
      };
      of_answers = c.known.ensures;
      of_takers = c.blocks_are_taken.ensures;
      of_good = c.good_leaves_one_tree.ensures;
    }
