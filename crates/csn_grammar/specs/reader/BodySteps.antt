-- What the reader makes of the tokens of a rule's body, one after another. `Grammar` says what
-- expressions there are; this says what the parts of the reader compute, and is read only with their
-- proofs.
use Rattle.std.specs.Prelude.{ℕ, Bool, true, false, List, [], ◌∷◌, ◌++◌, length, Option, Some, None, nat_lt, if◌then◌else◌}
use Rattle.std.specs.Option.{option_map}
use Rattle.csn_lexer.specs.declared.token.TokenKind.{TokenKind}
use Rattle.csn_lexer.specs.declared.token.TokenKind.TheVariants as kind
use Rattle.csn_grammar.specs.declared.expr.TheConstants.{MOST_OPEN}
use Rattle.csn_grammar.specs.declared.exponent.Exponent.TheVariants as exponent
use Rattle.csn_grammar.specs.declared.reader.progress.Progress.TheVariants as progress
use Rattle.csn_grammar.specs.declared.reader.progress.ExponentNext.{ExponentNext}
use Rattle.csn_grammar.specs.declared.reader.progress.ExponentNext.TheVariants as exponent_next
use Rattle.csn_grammar.specs.declared.reader.body.Joint.{Joint}
use Rattle.csn_grammar.specs.declared.reader.body.Joint.TheVariants.{Alone, Window, Sends}
use Rattle.csn_grammar.specs.declared.reader.body.Level.{Level}
use Rattle.csn_grammar.specs.declared.reader.body.Opening.{Opening}
use Rattle.csn_grammar.specs.declared.reader.body.Opening.TheVariants.{Brace, Label}
use Rattle.csn_grammar.specs.declared.reader.body.Frame.{Frame}
use Rattle.csn_grammar.specs.declared.reader.body.Mode.{Mode}
use Rattle.csn_grammar.specs.declared.reader.body.Mode.TheVariants.{Side, Less, Name, Base, Done, Slashes, Exponent}
use Rattle.csn_grammar.specs.declared.reader.body.Next.{Next}
use Rattle.csn_grammar.specs.declared.reader.body.Next.TheVariants.{Goes, Ends}
use Rattle.csn_grammar.specs.ExprV.{ExprV, expr, FormV, bit, octet, name, labelled, group}
use Rattle.csn_grammar.specs.reader.Spellings.{word_form}
use Rattle.csn_grammar.specs.reader.ExponentSteps.{exponent_step}
use Rattle.csn_grammar.specs.reader.Building.{both_of, sends_of, power_of, seq_with, cut_with, choice_with, cut_group}

abbrev pub goes : List Frame → Level → Mode → Option Next
goes frames level mode = Some (Goes (record { frames = frames; level = level; mode = mode }))

-- an expression of which nothing is read
abbrev pub fresh : Level
fresh = record { branches = []; error = false; items = []; joint = Alone }

abbrev pub with_joint : Level → Joint → Level
with_joint level joint = record level { joint = joint }

abbrev pub with_item : Level → ExprV → Level
with_item level x = record level { items = level.items ++ x ∷ []; joint = Alone }

abbrev pub with_branch : Level → ExprV → Bool → Level
with_branch level q error =
    record { branches = level.branches ++ record { error = level.error; body = q } ∷ []; error = error; items = []; joint = Alone }

abbrev pub without_items : Level → Level
without_items level = record level { items = []; joint = Alone }

unfoldable pub open_frame : List Frame → Level → ℕ → Opening → Option Next
open_frame frames level s opening =
    if nat_lt (length frames) MOST_OPEN
    then goes (record { start = s; opening = opening; level = level } ∷ frames) fresh Side
    else None

abbrev pub word_mode : ℕ → ℕ → FormV → Mode
word_mode s n bit = Base (expr s n bit)
word_mode s n octet = Base (expr s n octet)
word_mode s n f = Done (expr s n f)

unfoldable pub begin_side : List Frame → Level → TokenKind → ℕ → ℕ → List ℕ → Option Next
begin_side frames level kind.Word s n w =
    option_map (λ f. Goes (record { frames = frames; level = level; mode = word_mode s n f })) (word_form w)
begin_side frames level kind.Less s n w = goes frames level (Less s)
begin_side frames level kind.BraceLeft s n w = open_frame frames level s Brace
begin_side frames level _ s n w = None

abbrev pub close_in : List Frame → Level → ℕ → Opening → ExprV → TokenKind → ℕ → Option Next
close_in frames level s Brace x kind.BraceRight n = goes frames level (Base (expr s n (group x)))
close_in frames level s (Label l) x kind.Greater n = goes frames level (Base (expr s n (labelled l x)))
close_in frames level s opening x _ n = None

unfoldable pub close : List Frame → ExprV → TokenKind → ℕ → Option Next
close [] x kind.Semicolon n = Some (Ends x)
close [] x _ n = None
close (f ∷ frames) x k n = close_in frames f.level f.start f.opening x k n

-- behind an alternative that is whole
unfoldable pub after_seq : List Frame → Level → ExprV → TokenKind → ℕ → Option Next
after_seq frames level q kind.Bar n = goes frames (with_branch level q false) Side
after_seq frames level q kind.Bang n = goes frames (with_branch level q true) Side
after_seq frames level q k n = close frames (choice_with level.branches level.error q) k n

-- behind an item that is whole
unfoldable pub after_item : List Frame → Level → ExprV → TokenKind → ℕ → ℕ → List ℕ → Option Next
after_item frames level x kind.SlashSlash s n w =
    goes frames (without_items level) (Slashes (cut_with level.items x n))
after_item frames level x kind.Word s n w = begin_side frames (with_item level x) kind.Word s n w
after_item frames level x kind.Less s n w = begin_side frames (with_item level x) kind.Less s n w
after_item frames level x kind.BraceLeft s n w = begin_side frames (with_item level x) kind.BraceLeft s n w
after_item frames level x k s n w = after_seq frames (without_items level) (seq_with level.items x) k n

-- behind a side, or two with `&` between
unfoldable pub after_window : List Frame → Level → ExprV → TokenKind → ℕ → ℕ → List ℕ → Option Next
after_window frames level x kind.Equal s n w = goes frames (with_joint level (Sends x)) Side
after_window frames level x k s n w = after_item frames level x k s n w

unfoldable pub after_joint : List Frame → Level → Joint → ExprV → TokenKind → ℕ → ℕ → List ℕ → Option Next
after_joint frames level Alone x kind.Ampersand s n w = goes frames (with_joint level (Window x)) Side
after_joint frames level Alone x k s n w = after_window frames (with_joint level Alone) x k s n w
after_joint frames level (Window l) x k s n w = after_window frames (with_joint level Alone) (both_of l x) k s n w
after_joint frames level (Sends l) x k s n w = after_item frames (with_joint level Alone) (sends_of l x) k s n w

-- behind a side that has no exponent any more
unfoldable pub after_side : List Frame → Level → ExprV → TokenKind → ℕ → ℕ → List ℕ → Option Next
after_side frames level x k s n w = after_joint frames level level.joint x k s n w

unfoldable pub after_slashes : List Frame → Level → Option ExprV → ExprV → ℕ → ℕ → List ℕ → Option Next
after_slashes frames level (Some y) x s n w = goes frames level (Done y)
after_slashes frames level None x s n w = after_side frames level x kind.SlashSlash s n w

-- behind a base
unfoldable pub after_base : List Frame → Level → ExprV → TokenKind → ℕ → ℕ → List ℕ → Option Next
after_base frames level x kind.ParenLeft s n w = goes frames level (Exponent x progress.Bracket)
after_base frames level x kind.Star s n w = goes frames level (Exponent x progress.Star)
after_base frames level x kind.StarStar s n w = goes frames level (Done (power_of x n exponent.Any))
after_base frames level x kind.SlashSlash s n w = after_slashes frames level (cut_group x n) x s n w
after_base frames level x k s n w = after_side frames level x k s n w

unfoldable pub after_exponent : List Frame → Level → ExprV → ℕ → Option ExponentNext → Option Next
after_exponent frames level x n None = None
after_exponent frames level x n (Some (exponent_next.Goes p)) = goes frames level (Exponent x p)
after_exponent frames level x n (Some (exponent_next.Ends e)) = goes frames level (Done (power_of x n e))

unfoldable pub first_word : List Frame → Level → ℕ → TokenKind → List ℕ → Option Next
first_word frames level start kind.Word w = goes frames level (Name start w)
first_word frames level start _ w = None

unfoldable pub after_words : List Frame → Level → ℕ → List ℕ → TokenKind → ℕ → List ℕ → Option Next
after_words frames level start words kind.Word n w = goes frames level (Name start (words ++ 32 ∷ w))
after_words frames level start words kind.Greater n w = goes frames level (Base (expr start n (name words)))
after_words frames level start words kind.Colon n w = open_frame frames level start (Label words)
after_words frames level start words _ n w = None

unfoldable pub body_step : List Frame → Level → Mode → TokenKind → ℕ → ℕ → List ℕ → Option Next
body_step frames level Side k s n w = begin_side frames level k s n w
body_step frames level (Less start) k s n w = first_word frames level start k w
body_step frames level (Name start words) k s n w = after_words frames level start words k n w
body_step frames level (Base x) k s n w = after_base frames level x k s n w
body_step frames level (Done x) k s n w = after_side frames level x k s n w
body_step frames level (Slashes q) k s n w = after_seq frames level q k n
body_step frames level (Exponent x p) k s n w = after_exponent frames level x n (exponent_step p k w)
