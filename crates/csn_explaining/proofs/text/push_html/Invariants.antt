use Rattle.std.proofs.Common.{◌≡◌, ◌++◌, take}
use Rattle.csn_explaining.specs.Texts.{html_text}
use Rattle.csn_explaining.proofs.text.push_html.Given as goal

-- the bytes so far are written
abbrev pub invariant-loop-byte : goal.invariant-loop-byte
invariant-loop-byte l = l.out.items ≡ l.fn.out.items ++ html_text (take l.byte-index l.text)
