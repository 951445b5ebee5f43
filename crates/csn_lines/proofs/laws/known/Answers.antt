use Rattle.csn_lines.proofs.laws.known.Goals as goal

pub returns : goal.returns
returns c =
    record {
      of_lines = record { spells_one = c.spells_one_block.ensures; fault_or_block = c.fault_or_block.ensures };
      of_rules = record {
        shaped = c.rules_of_texts_are_shaped.ensures.shaped;
        labelled = c.rules_of_texts_are_shaped.ensures.labelled;
        resolved_once = c.descriptions_are_one.ensures.name;
        descriptions = c.resolved_are_descriptions.ensures;
      };
      of_blocks = record {
        strings = c.resolving_keeps_meanings.ensures.strings;
        places = c.resolving_keeps_meanings.ensures.places;
        one_place = c.blocks_have_one_place-2.ensures.one;
        are_bits = c.meanings_are_bits.ensures.meant;
        decided = c.following_is_decided.ensures.meant;
        some_place = c.blocks_have_one_place.ensures.some;
        one_tree = c.blocks_have_one_tree.ensures;
        fit = c.trees_have_texts.ensures.fits;
        texts = c.trees_have_texts.ensures.texts;
      };
      of_trees = record {
        decided = c.texts_are_decided.ensures.decided;
        one_place = c.texts_are_decided.ensures.place;
        one_tree = c.texts_are_of_one_tree.ensures.today;
        one_old_tree = c.texts_are_of_one_tree.ensures.before;
        shared = c.versions_share_trees.ensures;
      };
      of_json = record {
        decided = c.texts_are_decided-2.ensures;
        one_tree = c.texts_have_one_tree.ensures.text;
        not_refused = c.trees_are_not_refused.ensures;
        written = c.written_is_shown.ensures;
      };
      of_misfits = record {
        one_block = c.one_block.ensures;
        no_bits = c.misfits_have_no_bits.ensures;
        one_misfit = c.first_misfit_is_one.ensures;
        fit_or_miss = c.trees_fit_or_miss.ensures.some;
      };
      of_messages = c.messages_are_short.ensures;
      of_captures = c.heads_tell_captures.ensures;
    }
