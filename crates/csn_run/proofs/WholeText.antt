-- What a run over memory has written.
use Rattle.std.proofs.Common.{◌≡◌, ℕ, List, [], ◌++◌, Option, Some, map, refl, sym, ◌∙◌, ap, subst}
use Rattle.csn_io.specs.Got.{Gave}
use Rattle.csn_replay.specs.Watched.{Watched}
use Rattle.csn_plan.specs.declared.ended.Ended.{Ended}
use Rattle.csn_run.specs.Laws.{PiecesDoNotMatter, RunsHaveOneResult}
use Rattle.csn_run.specs.Outside.{IsLeft, OverFiles, Passes}
use Rattle.csn_run.specs.Result.{Result, BeginsResult}

-- what a sink tells is one list
pub told_once : {told written lent text : List ℕ} → Some told ≡ Some written → Some told ≡ Some lent → text ≡ lent → written ≡ text
told_once p q r = cc

-- of an input that a source told, what it gave and what it has left is the whole
whole_input : (input given rest : List ℕ) (left' : Option (List ℕ)) → Gave (Some input) left' given → IsLeft left' rest → given ++ rest ≡ input
whole_input input given rest left' gave is =
    let same : gave.0 ≡ rest = subst (λ (l : Option (List ℕ)). IsLeft l rest) gave.2 is in ap (λ r. given ++ r) (sym same) ∙ sym gave.1

-- what passed between a run and objects that tell all, where the sink had taken nothing
told_moves :
    {told : Option (List ℕ → Option (List ℕ))} {left taken : Option (List ℕ)} {files : List ℕ → Option (List ℕ)} {input : List ℕ}
    (words : List (List ℕ)) (P : (List ℕ → Option (List ℕ)) → List ℕ → List ℕ → List ℕ → Type 0) (left' taken' : Option (List ℕ))
    → told ≡ Some files → left ≡ Some input → taken ≡ Some [] → OverFiles words told (λ f. Passes left left' taken taken' (P f))
    → (given rest written : List ℕ) × (given ++ rest ≡ input) × (taken' ≡ Some written) × P files given rest written
told_moves {told} {left} {taken} {files} {input} words P left' taken' tells has none moves =
    let Q : Option (List ℕ → Option (List ℕ)) → Type 0 = λ t. OverFiles words t (λ f. Passes left left' taken taken' (P f)) in
    let R : Option (List ℕ) → Type 0 = λ l. Passes l left' taken taken' (P files) in
    let S : Option (List ℕ) → Type 0 = λ t. Passes (Some input) left' t taken' (P files) in
    let p : Passes (Some input) left' (Some []) taken' (P files) = subst S none (subst R has (subst Q tells moves)) in
    (p.given, p.rest, p.written, whole_input input p.given p.rest left' p.source p.rest_is, p.sink, p.holds)

-- runs that have one result have written the same, in whatever pieces their input came
pub pieces_alike : RunsHaveOneResult → PiecesDoNotMatter
pieces_alike one_result words files watchers input left left' taken taken' sank sank' ended end one other =
    let here = whole_input input one.given one.rest left one.source one.rest_is in
    let there = whole_input input other.given other.rest left' other.source other.rest_is in
    one_result words files watchers input one.written other.written ended end
    (subst (λ i. Result words files watchers i one.written ended) here one.holds)
    (subst (λ i. Result words files watchers i other.written end) there other.holds)

-- what a run writes is the result for the input that is told, or begins it
pub told_result :
    {words : List (List ℕ)} {watchers : List Watched} {told : Option (List ℕ → Option (List ℕ))} {left taken : Option (List ℕ)}
    {files : List ℕ → Option (List ℕ)} {input : List ℕ} {ended : Ended} (left' taken' : Option (List ℕ))
    → told ≡ Some files → left ≡ Some input → taken ≡ Some []
    → OverFiles words told (λ f. Passes left left' taken taken' (λ given rest written. Result words f watchers (given ++ rest) written ended))
    → (written : List ℕ) × (taken' ≡ Some written) × Result words files watchers input written ended
told_result {words} {watchers} {files = files} {ended = ended} left' taken' tells has none moves =
    let m = told_moves words (λ f given rest written. Result words f watchers (given ++ rest) written ended) left' taken' tells has none moves in
    (m.2, m.4, subst (λ i. Result words files watchers i m.2 ended) m.3 m.5)

pub told_front :
    {words : List (List ℕ)} {watchers : List Watched} {told : Option (List ℕ → Option (List ℕ))} {left taken : Option (List ℕ)}
    {files : List ℕ → Option (List ℕ)} {input : List ℕ} (left' taken' : Option (List ℕ)) → told ≡ Some files → left ≡ Some input → taken ≡ Some []
    → OverFiles words told (λ f. Passes left left' taken taken' (λ given rest written. BeginsResult words f watchers (given ++ rest) written))
    → (written : List ℕ) × (taken' ≡ Some written) × BeginsResult words files watchers input written
told_front {words} {watchers} {files = files} left' taken' tells has none moves =
    let m = told_moves words (λ f given rest written. BeginsResult words f watchers (given ++ rest) written) left' taken' tells has none moves in
    (m.2, m.4, subst (λ i. BeginsResult words files watchers i m.2) m.3 m.5)

pub finished :
    {words : List (List ℕ)} {files : List ℕ → Option (List ℕ)} {watchers : List Watched} {input written text : List ℕ} {ended : Ended}
    → written ≡ text → Result words files watchers input written ended → Result words files watchers input text ended
finished {words} {files} {watchers} {input} {ended = ended} same result = subst (λ t. Result words files watchers input t ended) same result

pub begun :
    {words : List (List ℕ)} {files : List ℕ → Option (List ℕ)} {watchers : List Watched} {input written text : List ℕ}
    → written ≡ text → BeginsResult words files watchers input written → BeginsResult words files watchers input text
begun {words} {files} {watchers} {input} same begins = subst (λ t. BeginsResult words files watchers input t) same begins

-- where none are handed in, none watch
pub none_watch : {A : Type 0} (as_watched : A → Watched) (all : List A) → all ≡ [] → map as_watched all ≡ []
none_watch as_watched all none = subst (λ l. map as_watched l ≡ []) (sym none) refl
