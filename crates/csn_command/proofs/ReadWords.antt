-- How `clap` reads words of which each can be an argument: the first is the command, and all others are its arguments.
use Rattle.std.proofs.Common.{◌≡◌, ◌≢◌, ◌∙◌, ◌<◌, ◌≤◌, ◌&&◌, ℕ, true, false, List, [], ◌∷◌, ◌++◌, length, map, fold}
use Rattle.std.proofs.Common.{Option, Some, None, option_map, codes, refl, sym, ap, ap₂, arith, ne_eqb, le-leb}
use Rattle.std.proofs.Common.{append_assoc, append-nil}
use Rattle.std.specs.Borrow.{Bor}
use Rattle.std.specs.Option.{unwrap_or}
use Rattle.std.specs.List.{AllByRecursion}
use Rattle.clap.specs.Lexer.{short_of, usize_max}
use Rattle.clap.specs.Walk.{Row, Rule, Text, Walk, all_of, finished, idle, nothing_held, positional, walk, walk_from, walked}
use Rattle.clap.specs.Simple.{built, filled, matches_of, with_index}
use Rattle.clap.specs.Takes.{is_valid, settle_passes, takes, turn_passes, values_pass, walk_passes}
use Rattle.clap.specs.declared.builder.value_parser.Reading.TheVariants.{AsWritten}
use Rattle.clap.specs.declared.parser.matches.ValueSource.TheVariants.{CommandLine}
use Rattle.csn_command.specs.CommandLine.{arguments_rule, command_line}
use Rattle.csn_command.specs.Command.{IsArgument}

abbrev rules : List Rule
rules = (built command_line).top.rules

-- the walk behind the first word
abbrev at_command : Text → Walk
at_command w = record {
  held = record { rows = []; pending = Some (codes "command", w ∷ []); skip = 0 };
  waiting = idle;
  position = 2;
  is_trailing = false;
  stopped = None;
}

abbrev command_row : Text → Row
command_row w = record {
  id = codes "command";
  values = w ∷ [];
  count = None;
  source = Some CommandLine;
  reading = AsWritten;
}

-- the walk behind these arguments
abbrev at_arguments : Text → List Text → Walk
at_arguments w vs = record {
  held = record { rows = command_row w ∷ []; pending = Some (codes "arguments", vs); skip = 0 };
  waiting = positional;
  position = 2;
  is_trailing = false;
  stopped = None;
}

-- a word that can be an argument is no flag
no_short : (c : ℕ) (cs : List ℕ) → c ≢ 45 → short_of (c ∷ cs) ≡ None
no_short c cs is = rw (ne_eqb c 45 is) refl

-- the words one by one
command_met : (w : Text) → IsArgument w → walked rules [] (walk_from nothing_held) w ≡ at_command w
unfolding walked
command_met [] is = absurd is
command_met (c ∷ cs) is = rw (ne_eqb c 45 is) (rw (no_short c cs is) refl)

argument_met : (w v : Text) → IsArgument v → walked rules [] (at_command w) v ≡ at_arguments w (v ∷ [])
unfolding walked
argument_met w [] is = absurd is
argument_met w (c ∷ cs) is = rw (ne_eqb c 45 is) (rw (no_short c cs is) refl)

further_met : (w v : Text) (vs : List Text) → IsArgument v → walked rules [] (at_arguments w vs) v ≡ at_arguments w (vs ++ v ∷ [])
unfolding walked
further_met w [] vs is = absurd is
further_met w (c ∷ cs) vs is = rw (ne_eqb c 45 is) (rw (no_short c cs is) refl)

all_further : (w : Text) (vs ws : List Text) → AllByRecursion IsArgument ws → fold (walked rules []) (at_arguments w vs) ws ≡ at_arguments w (vs ++ ws)
all_further w vs [] are = ap (at_arguments w) (sym (append-nil vs))
all_further w vs (v ∷ ws) are =
    ap (λ s. fold (walked rules []) s ws) (further_met w v vs are.0) ∙ all_further w (vs ++ v ∷ []) ws are.1
    ∙ ap (at_arguments w) (append_assoc vs (v ∷ []) ws)

-- where the walk ends
abbrev at_end : Text → List Text → Walk
at_end w [] = at_command w
at_end w (v ∷ vs) = at_arguments w (v ∷ vs)

walk_ends : (w : Text) (ws : List Text) → IsArgument w → AllByRecursion IsArgument ws → walk rules [] nothing_held (w ∷ ws) ≡ at_end w ws
walk_ends w [] is are = command_met w is
walk_ends w (v ∷ ws) is are =
    ap (λ s. fold (walked rules []) (walked rules [] s v) ws) (command_met w is)
    ∙ ap (λ s. fold (walked rules []) s ws) (argument_met w v are.0) ∙ all_further w (v ∷ []) ws are.1

-- what is found: the first word, and the arguments where there are some
abbrev found_rows : Text → List Text → List Row
found_rows w [] = command_row w ∷ []
found_rows w (v ∷ vs) = command_row w ∷ record {
  id = codes "arguments";
  values = v ∷ vs;
  count = None;
  source = Some CommandLine;
  reading = AsWritten;
} ∷ []

rows_end : (w : Text) (ws : List Text) → finished rules (at_end w ws).held ≡ found_rows w ws
rows_end w [] = refl
rows_end w (v ∷ vs) = refl

pub rows_are : (w : Text) (ws : List Text) → IsArgument w → AllByRecursion IsArgument ws → matches_of command_line (w ∷ ws) ≡ found_rows w ws
rows_are w ws is are = ap (λ (s : Walk). finished rules s.held) (walk_ends w ws is are) ∙ rows_end w ws

-- no word is refused
any_value : (vs : List Text) → values_pass (with_index 2 (filled arguments_rule)) vs ≡ true
any_value [] = refl
any_value (v ∷ vs) = any_value vs

command_passes : (w : Text) → IsArgument w → turn_passes (built command_line).top [] (walk_from nothing_held) w ≡ true
command_passes [] is = absurd is
command_passes (c ∷ cs) is = rw (ne_eqb c 45 is) (rw (no_short c cs is) refl)

argument_passes : (w v : Text) → IsArgument v → turn_passes (built command_line).top [] (at_command w) v ≡ true
argument_passes w [] is = absurd is
argument_passes w (c ∷ cs) is = rw (ne_eqb c 45 is) (rw (no_short c cs is) refl)

further_passes : (w v : Text) (vs : List Text) → IsArgument v → turn_passes (built command_line).top [] (at_arguments w vs) v ≡ true
further_passes w [] vs is = absurd is
further_passes w (c ∷ cs) vs is = rw (ne_eqb c 45 is) (rw (no_short c cs is) refl)

all_pass : (w : Text) (vs ws : List Text) → AllByRecursion IsArgument ws → walk_passes (built command_line).top [] (at_arguments w vs) ws ≡ true
unfolding walk_passes
all_pass w vs [] are = refl
all_pass w vs (v ∷ ws) are =
    ap₂ (λ b s. b && walk_passes (built command_line).top [] s ws) (further_passes w v vs are.0)
    (further_met w v vs are.0) ∙ all_pass w (vs ++ v ∷ []) ws are.1

behind_command : (w : Text) (ws : List Text) → AllByRecursion IsArgument ws → walk_passes (built command_line).top [] (at_command w) ws ≡ true
unfolding walk_passes
behind_command w [] are = refl
behind_command w (v ∷ ws) are = ap₂ (λ b s. b && walk_passes (built command_line).top [] s ws)
    (argument_passes w v are.0) (argument_met w v are.0) ∙ all_pass w (v ∷ []) ws are.1

walk_is_passed : (w : Text) (ws : List Text) → IsArgument w → AllByRecursion IsArgument ws
    → walk_passes (built command_line).top [] (walk_from nothing_held) (w ∷ ws) ≡ true
unfolding walk_passes
walk_is_passed w ws is are = ap₂ (λ b s. b && walk_passes (built command_line).top [] s ws) (command_passes w is) (command_met w is) ∙ behind_command w ws are

-- so `clap` takes the words
end_passes : (w : Text) (ws : List Text) → length ws ≤ usize_max → settle_passes rules false (at_end w ws).held ≡ true
end_passes w [] fits = refl
end_passes w (v ∷ vs) fits = rw (le-leb 0 (length (v ∷ vs)) (omega arith), le-leb (length (v ∷ vs)) usize_max fits) (any_value vs)

end_is_valid : (w : Text) (ws : List Text) → is_valid (built command_line).top (finished rules (at_end w ws).held) false ≡ true
end_is_valid w [] = refl
end_is_valid w (v ∷ vs) = refl

not_stopped : (w : Text) (ws : List Text) → (at_end w ws).stopped ≡ None
not_stopped w [] = refl
not_stopped w (v ∷ vs) = refl

pub words_taken : (w : Text) (ws : List Text) → IsArgument w → AllByRecursion IsArgument ws → length ws ≤ usize_max → takes command_line (w ∷ ws) ≡ true
words_taken w ws is are fits =
    rw (walk_ends w ws is are, walk_is_passed w ws is are) (rw (not_stopped w ws) (rw (end_passes w ws fits, end_is_valid w ws) refl))

-- what `clap` has of the words, one list behind the other, is the words
pub words_back :
    (ws : List Text) → AllByRecursion IsArgument ws → 0 < length ws → (rows : List Row)
    → rows ≡ matches_of command_line ws → unwrap_or (all_of (codes "command") rows) [] ++ unwrap_or
    (all_of (codes "arguments") rows) [] ≡ ws
words_back [] are some rows is = absurd (omega (arith, some))
words_back (w ∷ ws) are some rows is = rw (is ∙ rows_are w ws are.0 are.1) (two_rows w ws)
  where
    two_rows : (w : Text) (ws : List Text) → unwrap_or (all_of (codes "command") (found_rows w ws)) [] ++ unwrap_or
        (all_of (codes "arguments") (found_rows w ws)) [] ≡ w ∷ ws
    two_rows w [] = refl
    two_rows w (v ∷ vs) = refl

-- values that are read where there are some
pub texts_of :
    {A : Type 0} (f : A → Text) (o : Option (Bor (List A))) (none : Bor (List A)) (found : Option (List Text))
    → none.now ≡ [] → option_map (λ s. map f s.now) o ≡ found → map f (unwrap_or o none).now ≡ unwrap_or found []
texts_of f None none found empty is = ap (map f) empty ∙ ap (λ o. unwrap_or o []) is
texts_of f (Some s) none found empty is = ap (λ o. unwrap_or o []) is

pub all_taken : (ws : List Text) → AllByRecursion IsArgument ws → 0 < length ws → length ws ≤ usize_max → takes command_line ws ≡ true
all_taken [] are some fits = absurd (omega (arith, some))
all_taken (w ∷ ws) are some fits = words_taken w ws are.0 are.1 (omega (arith, fits))
