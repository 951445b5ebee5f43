-- A judge that was put aside between two pieces of a block. (This project's own choice.)
use Rattle.std.specs.Prelude.{◌≡◌, ℕ, ◌+◌, ◌<◌, ◌≤◌, false, reverse, Option, None}
use Rattle.csn_bits.specs.Numbers.{low_bits}
use Rattle.csn_desc.specs.Nodes.{DescV}
use Rattle.csn_judge.specs.declared.paused.Paused.TheInside.{Inside}
use Rattle.csn_judge.specs.Coming.{Coming}
use Rattle.csn_judge.specs.Turns.{StateV, StandsSomewhere}
use Rattle.csn_judge.specs.Judging.{JudgeV}

-- where the nodes have been gone through, how many bits have come, and where they were refused, if they were
pub record PausedV : Type 0 where
  pub state : StateV
  pub seen : ℕ
  pub refused : Option ℕ

abbrev pub held_of : Inside → Coming
held_of p =
    record {
      bits = low_bits p.held.count p.held.number;
      held = p.held.count;
      place = p.place;
      limit = p.limit;
      ended = false;
    }

abbrev pub paused_of : Inside → PausedV
paused_of p =
    record {
      state = record { frames = reverse p.frames.items; values = p.values.items; pace = p.pace; coming = held_of p };
      seen = p.seen;
      refused = p.refused;
    }

pub record IsPaused (p : Inside) : Type 0 where
  pub few : p.held.count < 12
  pub small : p.seen ≤ 524288
  pub seen_is : p.refused ≡ None → p.seen ≡ p.place + p.held.count
  pub inside : p.place ≤ p.limit

-- the judge that goes on by a description
abbrev pub judge_by : DescV → PausedV → JudgeV
judge_by d p = record { desc = d; state = p.state; seen = p.seen; refused = p.refused }

-- it may go on by this description
abbrev pub GoesBy : DescV → PausedV → Type 0
GoesBy d p = p.refused ≡ None → StandsSomewhere d p.state
