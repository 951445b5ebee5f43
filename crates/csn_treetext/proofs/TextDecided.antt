-- Each text is the text of a tree that fits, or has a place where it is wrong, in either version.
use Rattle.std.proofs.Common.{◌≡◌, ℕ, zero, suc, ◌+◌, ◌<◌, inl, inr, List, [], length, take, get_or, Option, Some, None, refl, sym, ◌∙◌, ap, arith}
use Rattle.std.proofs.lemmas.List.{take_all}
use Rattle.csn_desc.specs.TreeV.{TreeV}
use Rattle.csn_treetext.specs.declared.version.Version.{Version}
use Rattle.csn_treetext.specs.reader.Mode.{Start}
use Rattle.csn_treetext.specs.Place.{Decided}
use Rattle.csn_treetext.specs.reader.Machine.{State, state, step, steps, ended}
use Rattle.csn_treetext.proofs.Places.{start, step_more, refused_place, ended_place, ended_tree}

module _ (version : Version) (text : List ℕ) where
  -- by what the reader holds at the end
  decided_end : (s : State) → steps version start text ≡ Some s → (o : Option TreeV) → ended s.mode s.stack ≡ o → Decided version text
  decided_end s e None is = inr (length text, ended_place version text s e is)
  decided_end s e (Some t) is = inl (t, ended_tree version text s t e is)

  decided_step : (at : ℕ) (s : State) → at < length text → steps version start (take at text) ≡ Some s
      → (o : Option State) → step version s.mode s.stack (get_or text at 0) ≡ o
      → ((next : State) → step version s.mode s.stack (get_or text at 0) ≡ Some next → Decided version text)
      → Decided version text
  decided_step at s low e None is further = inr (at, refused_place version text at s low e is)
  decided_step at s low e (Some next) is further = further next is

  -- by what it holds behind the first bytes
  decided_from : (many at : ℕ) (s : State) → at + many ≡ length text → steps version start (take at text) ≡ Some s → Decided version text
  decided_from zero at s all e =
      decided_end s (ap (steps version start) (sym (take_all at text (omega arith))) ∙ e) (ended s.mode s.stack) refl
  decided_from (suc many) at s all e =
      decided_step at s (omega arith) e (step version s.mode s.stack (get_or text at 0)) refl
      (λ next is. decided_from many (at + 1) next (omega arith) (step_more version text at s (omega arith) e ∙ is))

  pub decided : Decided version text
  decided = decided_from (length text) 0 (state Start []) (omega arith) refl
