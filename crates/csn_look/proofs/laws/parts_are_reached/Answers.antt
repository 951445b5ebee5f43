use Rattle.std.proofs.Common.{◌+◌, length, refl, arith}
use Rattle.csn_look.specs.Reached.{reached_root}
use Rattle.csn_look.proofs.Meaning.ShapeFacts.{shape_of}
use Rattle.csn_look.proofs.Meaning.EndsFacts.{parts_ends, many_ends}
use Rattle.csn_look.proofs.Meaning.FollowFacts.{cuts}
use Rattle.csn_look.proofs.Meaning.ReachFacts.{seq_reached, lead_reached, times_reached, many_reached, choice_reached, window_reached, named_reached}
use Rattle.csn_look.proofs.Handing.ReachedParts.{reached_small}
use Rattle.csn_look.proofs.laws.parts_are_reached.Goals as goal

pub returns : goal.returns
returns c =
    record {
      root = λ d. reached_root refl refl;
      octet = λ d i o h. omega (arith, reached_small d h);
      sequence = λ d k i o parts before after v b ts is at split fits reached h. seq_reached d after at split reached
          (parts_ends d (shape_of c.known.ensures d is) (o + length b) refl fits h);
      truncation = λ d k i o parts before after v b ts is at split fits reached h. lead_reached d after at split
          reached (parts_ends d (shape_of c.known.ensures d is) (o + length b) refl fits h);
      times = λ d k i o m n count v b ts is at counts less fits reached h. times_reached d
          (shape_of c.known.ensures d is) count v (o + length b) refl at counts less fits reached h;
      many = λ d k i o v b ts is at fits reached h. many_reached d at reached (many_ends d (shape_of c.known.ensures d is) (o + length b) refl fits h);
      choice = λ d k j i o parts at part reached. choice_reached d at (cuts parts j i part) reached;
      window = λ d k i o unit count at reached. window_reached d at reached;
      label = λ d k i o label at reached. named_reached d at reached;
    }
