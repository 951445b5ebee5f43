-- What the writer of a line's text stands for, while the line comes, and what the line comes to. (This project's own
-- choice.)
use Rattle.std.specs.Prelude.{◌≡◌, ℕ, ◌*◌, ◌≤◌, List, [], ◌++◌, length, Some, Result, IfOk, OnErr}
use Rattle.csn_bits.specs.Octets.{bits_of_octets}
use Rattle.csn_bits.specs.Line.{BlockLine, fault_of}
use Rattle.csn_bits.specs.Feed.{Fed, octets_given, seen_of}
use Rattle.csn_bits.specs.declared.feed.HexFeed.{HexFeed}
use Rattle.csn_desc.specs.Nodes.{DescV}
use Rattle.csn_json.specs.declared.form.TreeForm.{TreeForm}
use Rattle.csn_judge.specs.declared.fed.Fed.TheVariants.{NoMemory}
use Rattle.csn_movetext.specs.declared.line.LineText.TheInside.{Inside}
use Rattle.csn_movetext.specs.declared.line.LineEnd.{LineEnd}
use Rattle.csn_movetext.specs.declared.line.LineEnd.TheVariants.{Text, Refused, Fault}
use Rattle.csn_judge.specs.Following.{IsNoString}
use Rattle.csn_movetext.specs.Blocks as blocks
use Rattle.csn_movetext.specs.Blocks.{BlockV, WritesFor, AddsText}

-- the form, the description, how many bytes of the line have come, how many octets of its block they gave, what is kept
-- of the line, and the text of its block
pub record LineV : Type 0 where
  pub form : TreeForm
  pub desc : DescV
  pub seen : ℕ
  pub octets : ℕ
  pub feed : HexFeed
  pub block : BlockV

abbrev pub line_of : Inside → LineV
line_of t =
    record {
      form = t.given.block.form;
      desc = t.given.block.desc;
      seen = seen_of t.feed;
      octets = t.given.octets;
      feed = t.feed;
      block = t.given.block;
    }

-- the steps that are paid for by what has come of the line and not taken yet: those of its block
abbrev pub credit : LineV → ℕ
credit t = blocks.credit t.block

-- the text has come along these bits, unless memory was wanting
abbrev pub WritesOrWants : BlockV → List ℕ → Type 0
WritesOrWants w b = ¬ (w.answer ≡ NoMemory) → WritesFor w b

-- the bytes of this line have come, and no others, and the text of its block along the bits of the octets that they give
pub record ReadsLine (t : LineV) (line : List ℕ) : Type 0 where
  pub fed : Fed t.feed line
  pub count : t.seen ≡ length line
  pub given : t.octets ≡ length (octets_given line)
  pub few : t.block.seen ≤ 8 * t.octets
  pub writes : WritesOrWants t.block (bits_of_octets (octets_given line))

-- the bytes of some line have come
abbrev pub IsLineText : Inside → Type 0
IsLineText t = (line : List ℕ) × ReadsLine (line_of t) line

-- what the block of a line comes to, with the bytes before it and those then
abbrev pub EndsBlock : TreeForm → DescV → List ℕ → LineEnd → (old new : List ℕ) → Type 0
EndsBlock form d b (Text bits) old new = (bits ≡ length b) × AddsText form d b old new
EndsBlock form d b (Refused place bits) old new = (bits ≡ length b) × IsNoString d b place × (new ≡ old)
EndsBlock form d b (Fault why) old new = ⊥

-- what a line comes to, with the bytes before it and those then: where it spells a block that has a tree, its text stands
-- behind them, and else nothing
abbrev pub EndsText : TreeForm → DescV → List ℕ → LineEnd → (old new : List ℕ) → Type 0
EndsText form d line (Text bits) old new =
    (b : List ℕ) × BlockLine line b × (bits ≡ length b) × AddsText form d b old new
EndsText form d line (Refused place bits) old new =
    (b : List ℕ) × BlockLine line b × (bits ≡ length b) × IsNoString d b place × (new ≡ old)
EndsText form d line (Fault why) old new = (fault_of line ≡ Some why) × (new ≡ old)

-- the line ends and the next begins, with the bytes before it and those then
pub record EndsLine {E : Type 0} (old new : LineV) (before after : List ℕ) (result : Result LineEnd E) : Type 0 where
  pub ends : IfOk result (λ end. (line : List ℕ) → ReadsLine old line → EndsText old.form old.desc line end before after)
  pub anew : ReadsLine new []
  pub seen : new.seen ≡ 0
  pub form : new.form ≡ old.form
  pub desc : new.desc ≡ old.desc
  pub err : OnErr result ((tail : List ℕ) × (after ≡ before ++ tail))
