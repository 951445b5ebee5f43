use Rattle.std.proofs.Common.{◌+◌, length, refl}
use Rattle.csn_look.proofs.Meaning.ShapeFacts.{shape_of}
use Rattle.csn_look.proofs.Meaning.EndsFacts.{ends}
use Rattle.csn_look.proofs.Meaning.ReachFacts.{parts_end_more, many_end_more, turn_first, turn_next, turn_reached}
use Rattle.csn_look.proofs.laws.next_parts_are_reached.Goals as goal

pub returns : goal.returns
returns c =
    record {
      part = λ d before i from o v b t is fits ended h. parts_end_more d ended (ends d (shape_of c.known.ensures d is) (o + length b) refl fits h);
      first_turn = λ d count i n o v counts. turn_first d v count o counts;
      turn = λ d count i left from o v b t is fits turn h. turn_next d refl turn (ends d (shape_of c.known.ensures d is) (o + length b) refl fits h);
      reached = λ d k i left from o count at reached turn. turn_reached d at reached refl turn;
      free_turn = λ d i from o v b t is fits ended h. many_end_more d ended (ends d (shape_of c.known.ensures d is) (o + length b) refl fits h);
    }
