-- The open line, as a command takes it.
use Rattle.std.proofs.Common.{◌≡◌, ℕ, ◌+◌, ◌-◌, ◌<◌, Bool, true, false, cond, eqb, get_or, take, List, ◌++◌, length}
use Rattle.std.proofs.Common.{refl, sym, ◌∙◌, ap, arith, append_assoc, length-append}
use Rattle.std.proofs.lemmas.List.{get_or-append-add}
use Rattle.std.proofs.Math.Seq.{take-append-add}
use Rattle.csn_lines.specs.Lines.{HasNoFeed, without_return}
use Rattle.csn_lines.specs.declared.lines.Lines.{Lines}
use Rattle.csn_lines.specs.LineState.{Kept}
use Rattle.csn_lines.specs.Work.{LineWork}
use Rattle.csn_lines.specs.Reading.{AtLine, OnlyGives, return_of}
use Rattle.csn_lines.proofs.LinesLemmas.{HasNoFeed-append}

-- a return is looked for in what was added last
without_return-append : (a b : List ℕ) → 0 < length b → without_return (a ++ b) ≡ a ++ without_return b
without_return-append a b some =
    let last : length (a ++ b) - 1 ≡ length a + (length b - 1) = omega (arith, length-append a b) in
    let At : ℕ → List ℕ = λ n. cond (eqb (get_or (a ++ b) n 0) 13) (take n (a ++ b)) (a ++ b) in
    ap At last
    ∙ ap (λ c. cond (eqb c 13) (take (length a + (length b - 1)) (a ++ b)) (a ++ b)) (get_or-append-add a b (length b - 1) 0)
    ∙ ap (λ l. cond (eqb (get_or b (length b - 1) 0) 13) l (a ++ b)) (take-append-add a b (length b - 1))
    ∙ go (eqb (get_or b (length b - 1) 0) 13)
  where
    go : (v : Bool) → cond v (a ++ take (length b - 1) b) (a ++ b) ≡ a ++ cond v (take (length b - 1) b) b
    go v = elim v as (λ v. cond v (a ++ take (length b - 1) b) (a ++ b) ≡ a ++ cond v (take (length b - 1) b) b) [ true ↦ refl | false ↦ refl ]

-- some bytes more, behind a line that the command has taken whole
pub at_more : {reads : List ℕ → Type 0} {given : ℕ} {held : Bool} (line bytes front : List ℕ)
    → HasNoFeed line → HasNoFeed bytes → 0 < length bytes → front ≡ without_return bytes
    → bytes ≡ front ++ return_of held → reads (line ++ front) → given ≡ length line + length front
    → AtLine reads given held (line ++ bytes)
at_more line bytes front unended more some bare all stands count = record {
  front = line ++ front;
  stands = stands;
  count = count ∙ sym (length-append line front);
  line_is = ap (λ l. line ++ l) all ∙ sym (append_assoc line front _);
  bare = without_return-append line bytes some ∙ ap (λ l. line ++ l) (sym bare);
  unended = HasNoFeed-append line bytes unended more;
}

-- bytes were given, and then more
pub gives_then :
    {work between_work work' : LineWork} {kept between_kept kept' : Kept} {lines between lines' : Lines}
    → OnlyGives work between_work kept between_kept lines between
    → work' ≡ between_work → kept' ≡ between_kept → lines'.pending ≡ between.pending
    → lines'.refused ≡ between.refused → OnlyGives work work' kept kept' lines lines'
gives_then first work kept pending refused = record {
  work = work ∙ first.work;
  kept = kept ∙ first.kept;
  pending =
      pending ∙ first.pending;
  refused = refused ∙ first.refused;
}
