-- What the contracts of the functions that walk see of the values that they pass on.
use Rattle.std.specs.Prelude.{ℕ, List, [], ◌∷◌, Option, Some, None, take}
use Rattle.std.specs.Borrow.{Bor}
use Rattle.csn_desc.specs.declared.reading.Reading.{Reading}
use Rattle.csn_grammar.specs.declared.exponent.Exponent.{Exponent}
use Rattle.csn_grammar.specs.declared.exponent.Exponent.TheVariants.{Number}
use Rattle.csn_grammar.specs.ExprV.{ExprV, expr, name, exprs_of}
use Rattle.csn_grammar.specs.Forms.{WidthV, WindowV}
use Rattle.csn_grammar.specs.Environment.{label_of}
use Rattle.csn_grammar.specs.TailForm.{WordV, EndV, TailV}
use Rattle.csn_resolve.specs.declared.form.Width.{Width}
use Rattle.csn_resolve.specs.declared.form.Window.{Window}
use Rattle.csn_resolve.specs.declared.tail.Word.{Word}
use Rattle.csn_resolve.specs.declared.tail.End.{End}
use Rattle.csn_resolve.specs.declared.tail.Tail.{Tail}
use Rattle.csn_resolve.specs.declared.around.Entered.{Entered, fold-Entered}
use Rattle.csn_resolve.specs.declared.around.Entered.TheOpen.{Entered-F}
use Rattle.csn_resolve.specs.declared.around.Seen.{Seen, fold-Seen}
use Rattle.csn_resolve.specs.declared.around.Seen.TheOpen.{Seen-F}
use Rattle.csn_resolve.specs.declared.begun.Around.{Around}
use Rattle.csn_resolve.specs.Seen as seen
use Rattle.csn_resolve.specs.Seen.{Frame, with_labelled, inner_of}
use Rattle.csn_resolve.specs.Walk as walk

-- how many: once, where no exponent is written
abbrev pub count_view : Option (Bor Exponent) → Exponent
count_view None = Number 1
count_view (Some k) = k.now

abbrev pub width_view : Width → WidthV
width_view w = record { unit = w.unit; count = count_view w.count }

abbrev pub window_view : Window → WindowV
window_view w = record { width = width_view w.width; part = w.part.now }

abbrev pub word_view : Word → WordV
word_view w = record { at = w.at; run = w.run.now }

abbrev pub end_view : End → EndV
end_view e = record { braces = e.braces; again = word_view e.again; stop = word_view e.stop }

-- the items before the braces are the first ones
abbrev pub tail_view : Tail → TailV
tail_view t = record { items = exprs_of (take t.count t.items.now); end = end_view t.end }

-- the name that an expression is
abbrev pub name_in : ExprV → Option (List ℕ)
name_in (expr s e (name n)) = Some n
name_in _ = None

abbrev pub entered_step : Entered-F (List (List ℕ)) → List (List ℕ)
entered_step Entered-F.Nothing = []
entered_step (Entered-F.Rule n outer) = n.now ∷ outer.now

-- the names that are being put in
abbrev pub entered_view : Entered → List (List ℕ)
entered_view = fold-Entered (List (List ℕ)) entered_step

-- a frame behind more items
abbrev pub frame_after : Reading → Frame ExprV → List ExprV → Frame ExprV
frame_after r frame [] = frame
frame_after r frame (x ∷ xs) = frame_after r (with_labelled (label_of r x) (inner_of r x) frame) xs

abbrev pub seen_step : Reading → Seen-F (seen.Seen ExprV) → seen.Seen ExprV
seen_step r Seen-F.Nothing = []
seen_step r (Seen-F.Behind items count outer) = frame_after r [] (take count items.now) ∷ outer.now

-- the labelled items that are seen
abbrev pub seen_view : Reading → Seen → seen.Seen ExprV
seen_view r = fold-Seen (seen.Seen ExprV) (seen_step r)

abbrev pub around_view : Reading → Around → walk.Around
around_view r a = record { depth = a.depth; names = entered_view a.names.now; seen = seen_view r a.seen.now }
