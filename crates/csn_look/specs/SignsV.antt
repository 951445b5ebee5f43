-- A set of signs, as contracts see it: whether each sign is in the set. A sign is what stands next in a
-- block: a bit, or the end of what is read. (This project's own choice.)
use Rattle.std.specs.Prelude.{Bool}

pub record SignsV : Type 0 where
  pub zero : Bool
  pub one : Bool
  pub end : Bool
