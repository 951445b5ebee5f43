use Rattle.std.proofs.Common.{◌≡◌, ℕ, ◌^◌, ◌≤◌}
use Rattle.csn_look.specs.KeySteps.{Gains}
use Rattle.csn_look.proofs.Tables.Products.{OfSize}
use Rattle.csn_look.proofs.key_products.add_words.Given as goal

-- the words that write a smaller number are added
abbrev pub invariant-loop-number : goal.invariant-loop-number
invariant-loop-number l = (size : ℕ) → l.words ≡ 2 ^ size → size ≤ 12 → Gains l.initial.marks l.marks (OfSize size l.whole l.number)
